use Rattle.std.proofs.Common.{◌≡◌, take}
use Rattle.std.specs.Prelude.{flat_map}
use Rattle.cut_laws.specs.CutSteps.{links_in}
use Rattle.mesh_slice.specs.Slices.{late_by}
use Rattle.mesh_slice.proofs.links.found_links.Given as goal

abbrev pub invariant-loop-simplex : goal.invariant-loop-simplex
invariant-loop-simplex l = l.links.items ≡ flat_map (links_in (late_by l.late)) (take l.simplex-index l.simplices)
