use Rattle.std.proofs.Common.{◌≡◌, ◌+◌, length, map}
use Rattle.std.specs.Prelude.{sum_by}
use Rattle.mesh_laws.specs.FaceGroups.{once_count}
use Rattle.mesh_laws.proofs.free.count_groups.Given as goal

-- what was counted and what is left are all
abbrev pub invariant-loop-group : goal.invariant-loop-group
invariant-loop-group g l =
    l.count + sum_by once_count (map (λ v. v.items) l.groups.items) ≡ sum_by once_count (map (λ v. v.items) l.initial.groups.items)

abbrev pub decreases-loop-group : goal.decreases-loop-group
decreases-loop-group g l = length l.groups.items
