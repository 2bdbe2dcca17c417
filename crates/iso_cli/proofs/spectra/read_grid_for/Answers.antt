use Rattle.iso_cli.proofs.Counting.{holds_grid}
use Rattle.iso_cli.proofs.spectra.read_grid_for.Goals as goal

pub returns-clause-held : goal.returns-clause-held
returns-clause-held g c =
    holds_grid (g.S.Shelf.files c.args.shelf.now) c.args.name.now c.args.kind c.read_grid.result c.read_grid.ensures.held c.read_grid.ensures.fits
    c.read_grid.ensures.regular
