use Rattle.std.proofs.Common.{[], slice_index_or, refl}
use Rattle.iso_model.specs.declared.Kind.TheVariants.{Pyramid}
use Rattle.std.proofs.Common.{inl, inr}
use Rattle.iso_model.specs.Cells.{corner_basis}
use Rattle.cell_lattice.specs.CellLemmas.{basis_edges}
use Rattle.cell_lattice.specs.Agreement.{agree}
use Rattle.cell_lattice.specs.declared.pyramids.TheConstants.{BASES}
use Rattle.cell_lattice.proofs.pyramids.PyramidCellCell3.corner_basis.Goals as goal

pub returns : goal.returns
returns c =
    let basis = agree 5 (λ k. slice_index_or BASES k []) (corner_basis Pyramid 3) refl c.args.corner c.requires in
    record { basis = basis; edges = λ i h. rw basis (basis_edges Pyramid 3 (inr (inl refl)) refl c.args.corner c.requires i h) }
