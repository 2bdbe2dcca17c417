-- A whole chain ends with a point or adds nothing; one that is not goes on with each of the next sets in turn.
use Rattle.std.proofs.Common.{◌≡◌, ◌<◌, ◌+◌, ◌∷◌, ◌++◌, ◌∙◌, ℕ, List, [], map, take, length, get_or, Contains, ap, arith, subst, sym}
use Rattle.std.proofs.lemmas.Bool.{false≢true}
use Rattle.std.proofs.lemmas.List.{take_all, take_more, map-append}
use Rattle.pulling_tri.specs.Meets.{AreMeets}
use Rattle.pulling_tri.specs.PointSets.{point_set}
use Rattle.pulling_tri.specs.Pulling.{AddsPulled, AddsBelow}
use Rattle.pulling_tri.proofs.Descents.{none_from_none, point_put, no_point_put, none_below, one_more_below, all_put}
use Rattle.pulling_tri.proofs.Narrower.{meets_suffice, next_within}
use Rattle.pulling_tri.proofs.PointSetLaws.{points-none}
use Rattle.lists.proofs.Contained.{Contains-at, Contains-mapped}
use Rattle.pulling_tri.proofs.chains.+go_on.Goals as goal

map_one_more : (f : ℕ → List ℕ) (xs : List ℕ) (k : ℕ) → k < length xs → map f (take (k + 1) xs) ≡ map f (take k xs) ++ f (get_or xs k 0) ∷ []
map_one_more f xs k h = ap (map f) (take_more xs k 0 h) ∙ map-append f (take k xs) (get_or xs k 0 ∷ [])

pub returns-then-set-eq0 : goal.returns-then-set-eq0
returns-then-set-eq0 g t c =
    subst (λ (s : List ℕ). AddsPulled (Contains (map point_set c.args.facets.now)) g.row.D
    (take c.args.filled c.args.firsts.now) s c.args.simplices.now.items c.args.simplices.now.items)
    (sym (ap point_set c.if-set-eq0.true ∙ points-none)) (none_from_none _ _ _ _)

pub returns-in-Ok : goal.returns-in-Ok
returns-in-Ok g t c =
    point_put _ g.row.D c.args.firsts.now c.with_next-longer.result c.args.filled c.first_point.result
    (point_set c.args.set) c.args.simplices.now.items c.push.new.self.items
    c.told-firsts c.if-filled.true c.with_next-longer.ensures.len c.with_next-longer.ensures.more c.first_point.ensures.least
    (c.is_point.ensures.0 c.if-is_point.true) c.in-Ok.ensures.items

pub returns-then-filled : goal.returns-then-filled
returns-then-filled g t c =
    no_point_put _ g.row.D c.args.firsts.now c.args.filled (point_set c.args.set) c.args.simplices.now.items c.told-firsts c.if-filled.true
    (λ l. false≢true (sym c.if-is_point.false ∙ c.is_point.ensures.1 l))

pub loop-face-init : goal.loop-face-init
loop-face-init g t c = none_below _ _ _ _

pub loop-face-preserved : goal.loop-face-preserved
loop-face-preserved g t c =
    let faces : List ℕ = c.deref-face-items.result.now in
    let face : ℕ = get_or faces c.loop-face.face-index 0 in
    let are : AreMeets c.args.facets.now c.args.set c.deref.result.now =
    subst (AreMeets c.args.facets.now c.args.set) (sym c.deref.ensures.value) c.in_ok-meets.ensures in
    let next = c.in_ok-faces.ensures c.args.facets.now are in
    let there : Contains (map point_set c.in_ok-faces.faces.items) (point_set face) =
    subst (λ (xs : List ℕ). Contains (map point_set xs) (point_set face)) c.deref-face-items.ensures.value
    (Contains-mapped point_set faces face (Contains-at faces c.loop-face.face-index 0 c.loop-face-test.true)) in
    let within = next_within (Contains (map point_set c.args.facets.now)) (point_set c.args.set) (point_set face) ((next (point_set face)).0 there) in
    let again : AreMeets c.args.facets.now c.args.set c.deref-in-loop-face.result.now =
    subst (AreMeets c.args.facets.now c.args.set) (sym c.deref-in-loop-face.ensures.value) c.in_ok-meets.ensures in
    let added : AddsPulled (Contains (map point_set c.args.facets.now)) g.row.D (take (c.args.filled + 1) c.with_next-longer.result)
    (point_set face) c.loop-face.simplices.items c.go_on.new.simplices.items =
    meets_suffice c.args.facets.now c.deref-in-loop-face.result.now c.args.set c.ranges.set.fits again g.row.D
    (take (c.args.filled + 1) c.with_next-longer.result) (point_set face) c.loop-face.simplices.items c.go_on.new.simplices.items within
    c.in_ok-go_on.ensures in
    subst (λ (sets : List (List ℕ)). AddsBelow (Contains (map point_set c.args.facets.now)) g.row.D
    (take (c.args.filled + 1) c.with_next-longer.result) sets c.args.simplices.now.items c.go_on.new.simplices.items)
    (sym (map_one_more point_set faces c.loop-face.face-index c.loop-face-test.true))
    (one_more_below _ _ _ _ _ _ c.loop-face.simplices.items _ c.loop-face.invariant added)

pub returns : goal.returns
returns g t c =
    let all : take c.loop-face.face-index c.deref-face-items.result.now ≡ c.deref-face-items.result.now =
    take_all c.loop-face.face-index c.deref-face-items.result.now (omega arith) in
    let are : AreMeets c.args.facets.now c.args.set c.deref.result.now =
    subst (AreMeets c.args.facets.now c.args.set) (sym c.deref.ensures.value) c.in_ok-meets.ensures in
    all_put _ g.row.D c.args.firsts.now c.with_next-longer.result c.args.filled c.first_point.result (point_set c.args.set)
    (map point_set c.in_ok-faces.faces.items) c.args.simplices.now.items
    c.loop-face.simplices.items c.told-firsts (omega (arith, c.requires.room, c.if-filled.false)) c.with_next-longer.ensures.more c.first_point.ensures.least
    (c.in_ok-faces.ensures c.args.facets.now are)
    (subst (λ (xs : List ℕ). AddsBelow (Contains (map point_set c.args.facets.now)) g.row.D (take (c.args.filled + 1) c.with_next-longer.result)
    (map point_set xs) c.args.simplices.now.items c.loop-face.simplices.items)
    (all ∙ c.deref-face-items.ensures.value) c.loop-face.invariant)
