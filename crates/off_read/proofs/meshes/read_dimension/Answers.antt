use Rattle.std.proofs.Common.{ap, sym, refl, ◌≡◌, ◌∙◌, true, false}
use Rattle.std.specs.Prelude.{codes}
use Rattle.std.proofs.lemmas.Result.{err_from_is_err_and}
use Rattle.lists.specs.Orders.{same_list}
use Rattle.iso_formats.specs.MeshFile.{at_first, at_dimension, at_vertices, wrong_header, is_size}
use Rattle.off_read.specs.WordForms.{Known}
use Rattle.off_read.proofs.StageLaws.{goes_word, goes_then, refuses_at, refuses_then, fails_at_then, early}
use Rattle.off_read.proofs.meshes.read_dimension.Goals as goal

pub returns-then-not-is-clause-fails : goal.returns-then-not-is-clause-fails
returns-then-not-is-clause-fails g c =
    let word = c.in_ok-first.ensures.gives in
    let a : same_list word.text (codes "OFF") ≡ false = sym (c.is.ensures word.text word.known) ∙ c.if-is.false in
    let b : same_list word.text (codes "nOFF") ≡ false = sym (c.is-2.ensures word.text word.known) ∙ c.if-not-is.true in
    refuses_at _ _ c.args.reader.now c.expect_word.new.reader c.in_ok-first.first word at_first wrong_header c.first.inside.line
    (ap (λ (k : Known). k.line) c.first.view_is) (rw (a, b) refl)

pub returns-in_err-size-clause-fails : goal.returns-in_err-size-clause-fails
returns-in_err-size-clause-fails g c =
    let word = c.in_ok-first.ensures.gives in
    let a : same_list word.text (codes "OFF") ≡ false = sym (c.is.ensures word.text word.known) ∙ c.if-is.false in
    let b : same_list word.text (codes "nOFF") ≡ true = sym (c.is-2.ensures word.text word.known) ∙ c.if-not-is.false in
    let first = goes_word _ _ c.args.reader.now c.expect_word.new.reader c.in_ok-first.first word at_first at_dimension (rw (a, b) refl) in
    let p = err_from_is_err_and c.from_residual-in_err-size.result c.from_residual-in_err-size.ensures.1 in
    rw (p.1, p.2) (fails_at_then _ _ _ _ _ _ at_first at_dimension _ first (early _ _ _ _ at_dimension _ (λ n. refl) c.in_err-size.ensures.fails))

pub returns-then-is-2-clause-gives : goal.returns-then-is-2-clause-gives
returns-then-is-2-clause-gives g c =
    let word = c.in_ok-first.ensures.gives in
    let next = c.in_ok-size.ensures.gives in
    let a : same_list word.text (codes "OFF") ≡ false = sym (c.is.ensures word.text word.known) ∙ c.if-is.false in
    let b : same_list word.text (codes "nOFF") ≡ true = sym (c.is-2.ensures word.text word.known) ∙ c.if-not-is.false in
    let two : is_size 2 next.text ≡ true = sym (c.is-3.ensures next.text next.known) ∙ c.if-is-2.true in
    goes_then _ _ _ _ _ _ at_first at_dimension (at_vertices 2)
    (goes_word _ _ c.args.reader.now c.expect_word.new.reader c.in_ok-first.first word at_first at_dimension (rw (a, b) refl))
    (goes_word _ _ c.expect_word.new.reader c.expect_word-2.new.reader c.in_ok-size.size next at_dimension (at_vertices 2) (rw two refl))

pub returns-then-is-3-clause-gives : goal.returns-then-is-3-clause-gives
returns-then-is-3-clause-gives g c =
    let word = c.in_ok-first.ensures.gives in
    let next = c.in_ok-size.ensures.gives in
    let a : same_list word.text (codes "OFF") ≡ false = sym (c.is.ensures word.text word.known) ∙ c.if-is.false in
    let b : same_list word.text (codes "nOFF") ≡ true = sym (c.is-2.ensures word.text word.known) ∙ c.if-not-is.false in
    let two : is_size 2 next.text ≡ false = sym (c.is-3.ensures next.text next.known) ∙ c.if-is-2.false in
    let three : is_size 3 next.text ≡ true = sym (c.is-4.ensures next.text next.known) ∙ c.if-is-3.true in
    goes_then _ _ _ _ _ _ at_first at_dimension (at_vertices 3)
    (goes_word _ _ c.args.reader.now c.expect_word.new.reader c.in_ok-first.first word at_first at_dimension (rw (a, b) refl))
    (goes_word _ _ c.expect_word.new.reader c.expect_word-2.new.reader c.in_ok-size.size next at_dimension (at_vertices 3) (rw (two, three) refl))

pub returns-then-is-4-clause-gives : goal.returns-then-is-4-clause-gives
returns-then-is-4-clause-gives g c =
    let word = c.in_ok-first.ensures.gives in
    let next = c.in_ok-size.ensures.gives in
    let a : same_list word.text (codes "OFF") ≡ false = sym (c.is.ensures word.text word.known) ∙ c.if-is.false in
    let b : same_list word.text (codes "nOFF") ≡ true = sym (c.is-2.ensures word.text word.known) ∙ c.if-not-is.false in
    let two : is_size 2 next.text ≡ false = sym (c.is-3.ensures next.text next.known) ∙ c.if-is-2.false in
    let three : is_size 3 next.text ≡ false = sym (c.is-4.ensures next.text next.known) ∙ c.if-is-3.false in
    let four : is_size 4 next.text ≡ true = sym (c.is-5.ensures next.text next.known) ∙ c.if-is-4.true in
    goes_then _ _ _ _ _ _ at_first at_dimension (at_vertices 4)
    (goes_word _ _ c.args.reader.now c.expect_word.new.reader c.in_ok-first.first word at_first at_dimension (rw (a, b) refl))
    (goes_word _ _ c.expect_word.new.reader c.expect_word-2.new.reader c.in_ok-size.size next at_dimension (at_vertices 4) (rw (two, three, four) refl))

pub returns-clause-fails : goal.returns-clause-fails
returns-clause-fails g c =
    let word = c.in_ok-first.ensures.gives in
    let next = c.in_ok-size.ensures.gives in
    let a : same_list word.text (codes "OFF") ≡ false = sym (c.is.ensures word.text word.known) ∙ c.if-is.false in
    let b : same_list word.text (codes "nOFF") ≡ true = sym (c.is-2.ensures word.text word.known) ∙ c.if-not-is.false in
    let two : is_size 2 next.text ≡ false = sym (c.is-3.ensures next.text next.known) ∙ c.if-is-2.false in
    let three : is_size 3 next.text ≡ false = sym (c.is-4.ensures next.text next.known) ∙ c.if-is-3.false in
    let four : is_size 4 next.text ≡ false = sym (c.is-5.ensures next.text next.known) ∙ c.if-is-4.false in
    refuses_then _ _ _ _ _ _ at_first at_dimension (wrong_header c.size.inside.line)
    (goes_word _ _ c.args.reader.now c.expect_word.new.reader c.in_ok-first.first word at_first at_dimension (rw (a, b) refl))
    (refuses_at _ _ c.expect_word.new.reader c.expect_word-2.new.reader c.in_ok-size.size next at_dimension wrong_header c.size.inside.line
    (ap (λ (k : Known). k.line) c.size.view_is) (rw (two, three, four) refl))
