use Rattle.std.proofs.Common.{ap, sym, refl, ◌≡◌, ◌∙◌, ◌<◌, ◌++◌, ◌∷◌, [], ℕ, List, length, take, false, Some, None, arith, rules, subst}
use Rattle.std.proofs.lemmas.Grind.{common_steps}
use Rattle.std.proofs.lemmas.List.{length-take, take_more_set}
use Rattle.std.proofs.lemmas.Result.{err_from_is_err_and}
use Rattle.std.proofs.Math.Seq.{take-length}
use Rattle.iso_base.proofs.SameShelf.{IsSameShelf-then}
use Rattle.iso_formats.specs.MeshFile.{Body, at_face, at_index, with_index, is_size, wrong_size}
use Rattle.off_read.specs.ScanForms.{Scan}
use Rattle.off_read.specs.Scans.{Goes, lines_passed}
use Rattle.off_read.specs.Meshes.{at_next_face, body_with}
use Rattle.off_read.specs.WordForms.{Known}
use Rattle.iso_formats.proofs.MeshFileLaws.{index_goes_on}
use Rattle.off_read.proofs.MeshLaws.{face_refused, face_ends, goes_passed}
use Rattle.off_read.proofs.StageLaws.{goes_then, goes_same, refuses_at, fails_at_then}
use Rattle.off_read.proofs.meshes.read_face.Goals as goal

pub returns-then-not-is-clause-fails : goal.returns-then-not-is-clause-fails
returns-then-not-is-clause-fails g c = λ f ss h.
    let word = c.in_ok-size.ensures.gives in
    let no : is_size g.row.D word.text ≡ false = sym (c.is.ensures word.text word.known) ∙ c.if-not-is.true in
    refuses_at _ _ c.args.reader.now c.expect_word.new.reader c.in_ok-size.size word (at_next_face g.row.D c.args.vertices f ss) wrong_size c.size.inside.line
    (ap (λ (k : Known). k.line) c.size.view_is) (face_refused g.row.D c.args.vertices f ss _ h no)

pub returns-in_err-simplex-clause-fails : goal.returns-in_err-simplex-clause-fails
returns-in_err-simplex-clause-fails g c =
    let p = err_from_is_err_and c.from_residual-in_err-simplex.result c.from_residual-in_err-simplex.ensures.1 in
    let ks = take c.loop-place.place c.loop-place.simplex in
    let few : length ks < g.row.D = omega (arith, length-take c.loop-place.place c.loop-place.simplex, c.loop-place.invariant.long, c.loop-place-test.true) in
    rw (p.1, p.2) (λ f ss h.
    let b : Body = body_with g.row.D c.args.vertices f ss in
    fails_at_then _ _ _ c.args.reader.now c.loop-place.reader c.read_index.new.reader _ (at_index b ks) _
    (goes_same _ _ _ _ _ _ (at_index b ks) (index_goes_on b ks (lines_passed c.loop-place.reader) few) (c.loop-place.invariant.goes f ss h))
    (c.in_err-simplex.ensures.fails b ks refl))

pub loop-place-preserved : goal.loop-place-preserved
loop-place-preserved g c =
    let s = c.loop-place.simplex in
    let ks = take c.loop-place.place s in
    let few : length ks < g.row.D = omega (arith, length-take c.loop-place.place s, c.loop-place.invariant.long, c.loop-place-test.true) in
    let any = c.in_ok-simplex.ensures.gives (body_with g.row.D c.args.vertices 0 []) [] refl in
    record {
      same = IsSameShelf-then _ _ _ _ _ _ c.loop-place.invariant.same c.in_ok-simplex.ensures.shelf;
      few = any.takes.1;
      spends = let x = any.spends in let y = c.loop-place.invariant.spends in omega (arith, x, y);
      long = search rules;
      below = λ k d h. grind (arith, common_steps, c.loop-place.invariant.below k d, c.in_ok-simplex.ensures.below);
      goes = λ f ss h.
          let b : Body = body_with g.row.D c.args.vertices f ss in
          let line = lines_passed c.read_index.new.reader in
          goes_same _ _ _ _ _ _ _
          (ap (λ (l : List ℕ). with_index b l line)
          (sym (take_more_set s c.loop-place.place c.in_ok-simplex.field-0 (omega (arith, c.loop-place.invariant.long, c.loop-place-test.true)))))
          (goes_then _ _ _ c.args.reader.now c.loop-place.reader c.read_index.new.reader _ (at_index b ks) _
          (goes_same _ _ _ _ _ _ (at_index b ks) (index_goes_on b ks (lines_passed c.loop-place.reader) few) (c.loop-place.invariant.goes f ss h))
          (c.in_ok-simplex.ensures.gives b ks refl));
    }

pub returns-clause-gives : goal.returns-clause-gives
returns-clause-gives g c = λ f ss h.
    let s = c.loop-place.simplex in
    let b : Body = body_with g.row.D c.args.vertices f ss in
    let next : Body = body_with g.row.D c.args.vertices f (ss ++ s ∷ []) in
    let line = lines_passed c.loop-place.reader in
    let all : take c.loop-place.place s ≡ s =
    ap (λ (n : ℕ). take n s)
    (let e : c.loop-place.place ≡ length s = omega (arith, c.loop-place.invariant.long, c.loop-place-test.false) in e) ∙ take-length s in
    subst (λ (r : Scan). Goes (g.S.Shelf.rest c.args.shelf.now) (g.S.Shelf.rest c.loop-place.shelf) c.args.reader.now r
    (at_next_face g.row.D c.args.vertices f ss) (at_face next None)) (sym c.pass_line.ensures)
    (goes_passed _ _ c.args.reader.now c.loop-place.reader _ next
    (goes_same _ _ _ _ _ _ (at_face next (Some line)) (ap (λ (l : List ℕ). with_index b l line) all
    ∙ face_ends g.row.D c.args.vertices f ss s line c.loop-place.invariant.long) (c.loop-place.invariant.goes f ss h)))

pub returns-clause-below : goal.returns-clause-below
returns-clause-below g c = λ k d h. c.loop-place.invariant.below k d (omega (arith, h, c.loop-place.invariant.long, c.loop-place-test.false))
