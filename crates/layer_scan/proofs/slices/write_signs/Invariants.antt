use Rattle.bit_rows.specs.SampleRows.{is_above}
use Rattle.grid_rows.specs.RowNumbers.{sample_rows}
use Rattle.layer_scan.specs.SlicePlanes.{samples_of}
use Rattle.layer_scan.proofs.PlaneRowSteps.{IsFilled}
use Rattle.layer_scan.proofs.slices.write_signs.Given as goal

abbrev pub invariant-loop-number : goal.invariant-loop-number
invariant-loop-number l = IsFilled (sample_rows l.rows) l.rows.words (λ n. is_above l.iso (samples_of l.rows l.slice n)) l.number l.signs
