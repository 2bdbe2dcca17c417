use Rattle.std.proofs.Common.{◌≡◌, map, take}
use Rattle.cut_laws.specs.Cuts.{is_late_position}
use Rattle.mesh_slice.proofs.late.late_flags.Given as goal

abbrev pub invariant-loop-position : goal.invariant-loop-position
invariant-loop-position l = l.late.items ≡ map (is_late_position l.time) (take l.position-index l.vertices)
