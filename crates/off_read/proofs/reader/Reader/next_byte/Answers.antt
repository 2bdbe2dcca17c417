use Rattle.std.proofs.Common.{ap, sym, refl, ◌≡◌, ◌∙◌, arith, subst}
use Rattle.std.specs.Prelude.{◌-◌, length, true, take, drop, List, ℕ, Bool}
use Rattle.std.proofs.lemmas.List.{length-take}
use Rattle.off_read.specs.ScanForms.{Scan}
use Rattle.off_read.specs.Scans.{Refills}
use Rattle.off_read.proofs.TakingLaws.{first_left, gives_next}
use Rattle.off_read.proofs.reader.Reader.next_byte.Goals as goal

pub returns-clause-gives : goal.returns-clause-gives
returns-clause-gives g c =
    let r = c.self.inside in
    let mid : Scan = c.has_byte.new.self in
    let left : take (r.end - r.start) (drop r.start r.piece) ≡ mid.left = ap (λ (s : Scan). s.left) c.self.view_is in
    let ended : r.ended ≡ mid.ended = ap (λ (s : Scan). s.ended) c.self.view_is in
    let place = ap (λ (s : Scan). s.place) c.self.view_is in
    let taken : r.taken ≡ mid.taken = ap (λ (s : Scan). s.taken) c.self.view_is in
    let some = ap (λ (l : List ℕ). length l) left in
    let most = length-take (r.end - r.start) (drop r.start r.piece) in
    let refills : Refills (g.S.Shelf.rest c.args.shelf.now) (g.S.Shelf.rest c.has_byte.new.shelf) c.args.self.now mid true =
    subst (λ (b : Bool). Refills (g.S.Shelf.rest c.args.shelf.now) (g.S.Shelf.rest c.has_byte.new.shelf) c.args.self.now mid b) c.if-not-branch.false
    c.in_ok-has_byte.ensures.gives in
    let more = refills.some refl in
    let within = c.self.invariant in
    let long = c.self.told in
    gives_next _ _ _ mid _ _ refills
    (sym left ∙ first_left r.piece r.start r.end (omega (arith, more, some, most)) (omega (arith, within.1, long)))
    (ended, place) taken (omega (arith, ended, taken, some, most, within.2))
