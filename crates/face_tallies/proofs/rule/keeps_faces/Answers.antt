use Rattle.std.proofs.Common.{sym, subst, ◌≡◌, true, pos, slice_index_or, List}
use Rattle.std.specs.List.{list_all}
use Rattle.std.proofs.lemmas.List.{take_all}
use Rattle.face_tallies.specs.declared.faces.FaceTally.{FaceTally}
use Rattle.face_tallies.specs.Parts.{is_right_in}
use Rattle.face_tallies.proofs.FaceRule.{rule_kept, rule_broken}
use Rattle.lists.proofs.Contained.{any_default}
use Rattle.face_tallies.proofs.rule.keeps_faces.Goals as goal

pub returns-then-not-is_right : goal.returns-then-not-is_right
returns-then-not-is_right c = λ kind d ws small s a.
    let tallies = c.args.tallies.now in
    let none : FaceTally = record { edges = 0; count = 0; sum = pos 0 } in
    let t = slice_index_or tallies c.loop-tally.tally-index none in
    let read : t ≡ slice_index_or tallies c.loop-tally.tally-index t = any_default tallies c.loop-tally.tally-index none t c.loop-tally-test.true in
    sym (rule_broken kind d c.args.facets.now ws tallies c.loop-tally.tally-index t s a c.loop-tally-test.true read (sym c.if-not-is_right.ensures))

pub returns : goal.returns
returns c = λ kind d ws small s a.
    let facets = c.args.facets.now in
    let all = take_all c.loop-tally.tally-index c.args.tallies.now c.loop-tally-test.false in
    sym
    (rule_kept kind d facets ws c.args.tallies.now small s a
    (subst (λ (l : List FaceTally). list_all (is_right_in facets) l ≡ true) all c.loop-tally.invariant))
