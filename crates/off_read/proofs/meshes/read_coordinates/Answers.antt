use Rattle.std.proofs.Common.{ap, sym, ◌≡◌, ◌∙◌, ◌-◌, ℕ, true, false, arith, subst}
use Rattle.std.proofs.lemmas.Result.{err_from_is_err_and}
use Rattle.iso_base.proofs.SameShelf.{IsSameShelf-then}
use Rattle.iso_formats.specs.MeshFile.{Word, Stage, before_coordinates, next_stage, is_coordinate, wrong_coordinate}
use Rattle.off_read.specs.Scans.{Goes}
use Rattle.off_read.specs.WordForms.{Known}
use Rattle.iso_formats.proofs.MeshFileLaws.{coordinate_fits}
use Rattle.off_read.proofs.MeshLaws.{coordinate_asked, coordinate_refused, coordinates_unended}
use Rattle.off_read.proofs.StageLaws.{goes_word, goes_then, refuses_at, refuses_then, fails_at_then, early}
use Rattle.off_read.proofs.meshes.read_coordinates.Goals as goal

pub returns-in_err-word-clause-fails : goal.returns-in_err-word-clause-fails
returns-in_err-word-clause-fails g c =
    let p = err_from_is_err_and c.from_residual.result c.from_residual.ensures.1 in
    rw (p.1, p.2) (λ b. fails_at_then _ _ _ c.args.reader.now c.loop-left.reader c.expect_word.new.reader _ _ _ (c.loop-left.invariant.goes b)
    (early _ _ _ _ (before_coordinates b c.loop-left.left) _ (coordinates_unended b c.loop-left.left c.loop-left-test.true) c.in_err-word.ensures.fails))

pub returns-then-not-is_coordinate-clause-fails : goal.returns-then-not-is_coordinate-clause-fails
returns-then-not-is_coordinate-clause-fails g c = λ b.
    let word = c.in_ok-word.ensures.gives in
    let w : Word = record { text = word.text; line = c.in_ok-word.word.line } in
    let no : is_coordinate word.text ≡ false = sym (c.is_coordinate.ensures word.text word.known) ∙ c.if-not-is_coordinate.true in
    refuses_then _ _ _ c.args.reader.now c.loop-left.reader c.expect_word.new.reader _ (before_coordinates b c.loop-left.left)
    (wrong_coordinate c.word.inside.line)
    (c.loop-left.invariant.goes b)
    (refuses_at _ _ c.loop-left.reader c.expect_word.new.reader c.in_ok-word.word word (before_coordinates b c.loop-left.left) wrong_coordinate
    c.word.inside.line
    (ap (λ (k : Known). k.line) c.word.view_is)
    (ap (λ (s : Stage). next_stage s w) (coordinate_asked b c.loop-left.left c.loop-left-test.true) ∙ coordinate_refused b (c.loop-left.left - 1) w no))

pub loop-left-preserved : goal.loop-left-preserved
loop-left-preserved g c =
    let word = c.in_ok-word.ensures.gives in
    let w : Word = record { text = word.text; line = c.in_ok-word.word.line } in
    let yes : is_coordinate word.text ≡ true = sym (c.is_coordinate.ensures word.text word.known) ∙ c.if-not-is_coordinate.false in
    record {
      same = IsSameShelf-then _ _ _ _ _ _ c.loop-left.invariant.same c.in_ok-word.ensures.shelf;
      few = word.takes.1;
      goes = λ b.
          goes_then _ _ _ c.args.reader.now c.loop-left.reader c.expect_word.new.reader _ (before_coordinates b c.loop-left.left) _
          (c.loop-left.invariant.goes b)
          (goes_word _ _ c.loop-left.reader c.expect_word.new.reader c.in_ok-word.word word (before_coordinates b c.loop-left.left)
          (before_coordinates b (c.loop-left.left - 1))
          (ap (λ (s : Stage). next_stage s w) (coordinate_asked b c.loop-left.left c.loop-left-test.true) ∙ coordinate_fits b (c.loop-left.left - 1) w yes));
    }

pub returns-clause-gives : goal.returns-clause-gives
returns-clause-gives g c = λ b.
    let none : c.loop-left.left ≡ 0 = omega (arith, c.loop-left-test.false) in
    subst (λ (n : ℕ). Goes (g.S.Shelf.rest c.args.shelf.now) (g.S.Shelf.rest c.loop-left.shelf) c.args.reader.now c.loop-left.reader
    (before_coordinates b c.args.count) (before_coordinates b n)) none (c.loop-left.invariant.goes b)
