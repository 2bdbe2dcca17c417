use Rattle.std.proofs.Common.{◌≡◌, take}
use Rattle.iso_model.specs.Seams.{seams}
use Rattle.seam_traces.specs.SeamLists.{seams_of}
use Rattle.seam_traces.proofs.seams.cell_seams.Given as goal

-- the seams so far
abbrev pub invariant-loop-number : goal.invariant-loop-number
invariant-loop-number g l = seams_of l.seams.items ≡ take l.number (seams g.C.Cell.KIND g.row.D)
