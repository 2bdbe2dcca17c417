use Rattle.std.proofs.Common.{◌+◌, ◌-◌, ◌*◌, ◌/◌, [], slice_index_or, refl, rules}
use Rattle.iso_model.specs.declared.Kind.TheVariants.{Simplex}
use Rattle.iso_model.specs.Cells.{HasDimension, edge_ends}
use Rattle.cell_lattice.specs.CellLemmas.{ordered_ends}
use Rattle.iso_model.specs.Dimensions.{IsDimension}
use Rattle.cell_lattice.specs.Agreement.{agree_in_each}
use Rattle.cell_lattice.specs.declared.simplices.TheConstants.{ENDS}
use Rattle.cell_lattice.proofs.simplices.simplex_edge.Goals as goal

pub returns : goal.returns
returns g c =
    let is : IsDimension g.row.D = search rules in
    let has : HasDimension Simplex g.row.D = search rules in
    let ends =
    agree_in_each (λ d. d * (d + 1) / 2) (λ d e. slice_index_or (slice_index_or ENDS (d - 2) []) e (0, 0)) (edge_ends Simplex) refl refl refl
    g.row.D is c.args.edge c.requires.edge in
    let ordered = ordered_ends Simplex g.row.D is has c.args.edge c.requires.edge in
    record { ends = ends; ordered = rw ends ordered.0; corners = rw ends ordered.1 }
