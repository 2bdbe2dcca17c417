use Rattle.std.proofs.Common.{ℕ, ◌+◌, ◌-◌, ◌<◌, ◌≤◌, [], ◌∷◌, ◌++◌, All, Contains, take}
use Rattle.halfspace.specs.Choices.{AreSomeFacets, AreTried}
use Rattle.halfspace.proofs.choices.+choose.Given as goal

-- the places that are still to be filled
abbrev pub decreases-choose : goal.decreases-choose
decreases-choose g l = g.row.D - l.filled

-- the choices that go on with a point before i are tried
abbrev pub invariant-loop-i : goal.invariant-loop-i
invariant-loop-i g l = record {
  known : AreSomeFacets g.row.D l.points l.facets.items;
  kept : All (Contains l.facets.items) l.initial.facets.items;
  tried : (k : ℕ) → l.start ≤ k → k < l.i → AreTried g.row.D l.points l.facets.items (take l.filled l.chosen ++ k ∷ []) (k + 1);
}
