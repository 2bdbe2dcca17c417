use Rattle.std.proofs.Common.{slice_index_or, refl}
use Rattle.iso_model.specs.declared.Kind.TheVariants.{Pyramid}
use Rattle.std.proofs.Common.{inl, inr}
use Rattle.iso_model.specs.Cells.{edge_ends}
use Rattle.cell_lattice.specs.CellLemmas.{ordered_ends}
use Rattle.cell_lattice.specs.Agreement.{agree}
use Rattle.cell_lattice.specs.declared.pyramids.TheConstants.{ENDS}
use Rattle.cell_lattice.proofs.pyramids.PyramidCellCell3.edge_ends.Goals as goal

pub returns : goal.returns
returns c =
    let ends = agree 8 (λ e. slice_index_or ENDS e (0, 0)) (edge_ends Pyramid 3) refl c.args.edge c.requires in
    let ordered = ordered_ends Pyramid 3 (inr (inl refl)) refl c.args.edge c.requires in
    record { ends = ends; ordered = rw ends ordered.0; corners = rw ends ordered.1 }
