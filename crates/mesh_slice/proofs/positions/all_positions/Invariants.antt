use Rattle.std.proofs.Common.{◌≡◌, map, take}
use Rattle.cut_laws.specs.Cuts.{position_on}
use Rattle.mesh_slice.proofs.positions.all_positions.Given as goal

abbrev pub invariant-loop-link : goal.invariant-loop-link
invariant-loop-link l = l.positions.items ≡ map (position_on l.vertices l.time) (take l.link-index l.links)
