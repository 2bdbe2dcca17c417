use Rattle.std.proofs.Common.{ℕ, ◌-◌}
use Rattle.grid_rows.specs.declared.grids.GridRows.{GridRows}
use Rattle.layer_scan.specs.FlaggedCubes.{flag_at}
use Rattle.layer_scan.specs.ScanPlanes.{HasClearBorder}
use Rattle.layer_scan.proofs.KeptCubes.{kept_by_flags}
use Rattle.layer_scan.proofs.ScanPlanes.{border_stays, cubes_below, flags_below}
use Rattle.layer_scan.proofs.scan.LayerPlanes.set_kept_below.Goals as goal

pub returns-clause-told : goal.returns-clause-told
returns-clause-told c = λ v s takes.
    let rows : GridRows = c.args.self.now.rows in
    let last : ℕ = rows.length - 1 in
    let border : HasClearBorder rows c.write_flags.new.kept =
    border_stays rows c.args.self.now.kept_below c.write_flags.new.kept c.requires.planes.border_below c.write_flags.ensures.border in
    kept_by_flags v rows s c.args.flags.now c.write_flags.new.kept takes.scan.regular.fits takes.scan.rows takes.inside c.requires.flags
    takes.flags_of c.write_flags.ensures.cubes border
    (cubes_below rows (flag_at rows c.args.flags.now) last c.write_flags.new.kept c.write_flags.ensures.cubes border
    (λ i x h t. flags_below rows c.args.flags.now i x c.requires.flags h t))
