use Rattle.std.proofs.Common.{◌≡◌, [], length, map}
use Rattle.lists.specs.Orders.{numbers}
use Rattle.mesh_laws.proofs.free.empty_groups.Given as goal

abbrev pub invariant-loop : goal.invariant-loop
invariant-loop g l = (length l.groups.items ≡ l.counter) × (map (λ v. v.items) l.groups.items ≡ map (λ i. []) (numbers l.counter))
