use Rattle.std.proofs.Common.{ap, arith, ◌∙◌, ℕ, ◌-◌, ℤ, w64, FitsSigned}
use Rattle.std.proofs.lemmas.Int.{fits_signed_from_abs, to_z-of_z}
use Rattle.bit_rows.specs.SampleRows.{is_above}
use Rattle.layer_scan.specs.SlicePlanes.{samples_of}
use Rattle.grid_rows.specs.declared.grids.GridRows.{GridRows}
use Rattle.grid_rows.specs.RowNumbers.{bordered_rows}
use Rattle.layer_scan.specs.CubePlanes.{every_at}
use Rattle.layer_scan.specs.ScanPlanes.{HasBitsBelow, HasClearBorder, HasPlanes}
use Rattle.layer_scan.proofs.StatesTold.{stands_taken}
use Rattle.layer_scan.proofs.ScanPlanes.{border_stays, clear_below, cubes_below, either_below, every_below}
use Rattle.layer_scan.proofs.scan.LayerPlanes.take_upper.Goals as goal

pub returns-clause-signs : goal.returns-clause-signs
returns-clause-signs c = λ n lt x.
    let iso : ℤ = c.args.self.now.iso in
    let fits : FitsSigned w64 iso = fits_signed_from_abs w64 iso (omega (arith, c.requires.planes.iso)) in
    c.write_signs.ensures.bits n lt x ∙ ap (λ (z : ℤ). is_above z (samples_of c.args.self.now.rows c.args.upper.now n) x) (to_z-of_z w64 iso fits)

pub returns-clause-planes : goal.returns-clause-planes
returns-clause-planes c =
    let rows : GridRows = c.args.self.now.rows in
    let planes : HasPlanes c.args.self.now = c.requires.planes in
    let last : ℕ = rows.length - 1 in
    let border : HasClearBorder rows c.write_kept.new.kept =
    border_stays rows c.args.self.now.kept c.write_kept.new.kept planes.border c.write_kept.ensures.border in
    let within : HasBitsBelow (bordered_rows rows) last c.write_kept.new.kept =
    cubes_below rows (every_at c.args.self.now.lower_clear c.write_clear.new.clear rows) last c.write_kept.new.kept c.write_kept.ensures.cubes border
    (λ i x h t. every_below rows c.args.self.now.lower_clear c.write_clear.new.clear i x planes.lower_within h t) in
    record {
      some = planes.some;
      words = planes.words;
      few = planes.few;
      samples = planes.samples;
      iso = planes.iso;
      below_signs = planes.below_signs;
      lower_signs = planes.lower_signs;
      upper_signs = c.write_signs.ensures.rows;
      lower_clear = planes.lower_clear;
      upper_clear = c.write_clear.ensures.rows;
      kept_below = planes.kept_below;
      kept = c.write_kept.ensures.rows;
      around = c.write_either.ensures.rows;
      border_below = planes.border_below;
      border = border;
      lower_within = planes.lower_within;
      upper_within = clear_below rows c.args.self.now.blank c.args.upper.now c.write_clear.new.clear c.requires.upper c.write_clear.ensures.bits;
      below_within = planes.below_within;
      within = within;
      around_within = either_below (bordered_rows rows) last c.args.self.now.kept_below c.write_kept.new.kept c.write_either.new.around
          planes.below_within within c.write_either.ensures.cubes;
    }

pub returns-clause-told : goal.returns-clause-told
returns-clause-told c = λ v s takes.
    stands_taken v s c.args.upper.now c.args.self.now c.write_signs.new.signs c.write_clear.new.clear c.write_kept.new.kept c.write_either.new.around takes
    (returns-clause-planes c) (returns-clause-signs c) c.write_clear.ensures.bits c.write_kept.ensures.cubes c.write_either.ensures.cubes
