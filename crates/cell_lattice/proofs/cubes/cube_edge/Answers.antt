use Rattle.std.proofs.Common.{◌-◌, ◌*◌, ◌^◌, slice_index_or, refl, rules}
use Rattle.iso_model.specs.declared.Kind.TheVariants.{Cube}
use Rattle.iso_model.specs.Cells.{HasDimension, edge_ends}
use Rattle.cell_lattice.specs.CellLemmas.{ordered_ends}
use Rattle.iso_model.specs.Dimensions.{IsDimension}
use Rattle.cell_lattice.specs.Agreement.{agree_in_each}
use Rattle.cell_lattice.specs.declared.cubes.TheConstants.{ENDS}
use Rattle.cell_lattice.proofs.cubes.cube_edge.Goals as goal

pub returns : goal.returns
returns g c =
    let is : IsDimension g.row.D = search rules in
    let has : HasDimension Cube g.row.D = search rules in
    let ends =
    agree_in_each (λ d. d * 2 ^ (d - 1)) (λ d e. slice_index_or ENDS e (0, 0)) (edge_ends Cube) refl refl refl g.row.D is c.args.edge
    c.requires.edge in
    let ordered = ordered_ends Cube g.row.D is has c.args.edge c.requires.edge in
    record { ends = ends; ordered = rw ends ordered.0; corners = rw ends ordered.1 }
