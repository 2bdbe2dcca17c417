use Rattle.std.proofs.Common.{rules, ◌≡◌, [], false, true, List, ℕ}
use Rattle.iso_model.specs.Walks.{walk}
use Rattle.mesh_laws.proofs.walks.Trail.new.Goals as goal

pub returns : goal.returns
unfolding walk
returns c =
    let none : c.new.result.items ≡ [] = search rules in
    λ vertex i. record { order = none i; closed = false; whole = true }
