use Rattle.std.proofs.Common.{arith, refl, subst, sym, ℕ, ℤ, ◌-◌, ◌≤◌, ◌^◌, unsigned_abs, w64, FitsSigned}
use Rattle.std.proofs.lemmas.Int.{fits_signed_from_abs, to_z-of_z}
use Rattle.grid_rows.specs.declared.grids.GridRows.{GridRows}
use Rattle.grid_rows.specs.RowNumbers.{bordered_rows, sample_rows}
use Rattle.layer_scan.proofs.ScanPlanes.{empty_below}
use Rattle.layer_scan.proofs.ScanRoom.{few_row_words}
use Rattle.layer_scan.proofs.scan.LayerPlanes.new.Goals as goal

pub returns : goal.returns
returns c =
    let rows : GridRows = c.args.rows in
    let samples : ℕ = sample_rows rows in
    let cubes : ℕ = bordered_rows rows in
    let last : ℕ = rows.length - 1 in
    let fits : FitsSigned w64 c.args.iso = fits_signed_from_abs w64 c.args.iso (omega (arith, c.requires.iso)) in
    record {
      planes = record {
        some = c.requires.samples.some;
        words = c.requires.samples.words;
        few = few_row_words rows c.requires.samples;
        samples = c.requires.samples;
        iso = subst (λ (z : ℤ). unsigned_abs z ≤ 2 ^ 40) (sym (to_z-of_z w64 c.args.iso fits)) c.requires.iso;
        below_signs = c.in_ok-new_samples.ensures.plane.0;
        lower_signs = c.in_ok-new_samples-2.ensures.plane.0;
        upper_signs = c.in_ok-new_samples-3.ensures.plane.0;
        lower_clear = c.in_ok-new_samples-4.ensures.plane.0;
        upper_clear = c.in_ok-new_samples-5.ensures.plane.0;
        kept_below = c.in_ok-new_cubes.ensures.plane.0;
        kept = c.in_ok-new_cubes-2.ensures.plane.0;
        around = c.in_ok-new_cubes-3.ensures.plane.0;
        border_below = λ n h none x. c.in_ok-new_cubes.ensures.plane.1 n x h;
        border = λ n h none x. c.in_ok-new_cubes-2.ensures.plane.1 n x h;
        lower_within = empty_below samples rows.length c.in_ok-new_samples-4.field-0 c.in_ok-new_samples-4.ensures.plane.1;
        upper_within = empty_below samples rows.length c.in_ok-new_samples-5.field-0 c.in_ok-new_samples-5.ensures.plane.1;
        below_within = empty_below cubes last c.in_ok-new_cubes.field-0 c.in_ok-new_cubes.ensures.plane.1;
        within = empty_below cubes last c.in_ok-new_cubes-2.field-0 c.in_ok-new_cubes-2.ensures.plane.1;
        around_within = empty_below cubes last c.in_ok-new_cubes-3.field-0 c.in_ok-new_cubes-3.ensures.plane.1;
      };
      same_rows = refl;
      same_iso = to_z-of_z w64 c.args.iso fits;
      same_blank = refl;
      none_below = c.in_ok-new_cubes.ensures.plane.1;
    }
