-- A row of cubes within the border along both axes is one of the rows with the border.
use Rattle.std.proofs.Common.{◌+◌}
use Rattle.lists.proofs.Tests.{next_below}
use Rattle.grid_rows.proofs.grids.GridRows.bordered.Goals as goal

pub returns-clause-within : goal.returns-clause-within
returns-clause-within c =
    next_below c.args.i (c.args.self.now.second.cubes + 2) c.args.j (c.args.self.now.third.cubes + 2) c.requires.first c.requires.second
