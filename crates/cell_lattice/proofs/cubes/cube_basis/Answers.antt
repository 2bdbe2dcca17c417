use Rattle.std.proofs.Common.{ℕ, ◌-◌, ◌^◌, [], map, slice_index_or, refl, rules, arith, ◌∙◌}
use Rattle.std.proofs.lemmas.List.FromFn.{fill_by_all}
use Rattle.iso_model.specs.declared.Kind.TheVariants.{Cube}
use Rattle.iso_model.specs.Points.{axes}
use Rattle.iso_model.specs.Cells.{HasDimension, corner_basis}
use Rattle.cell_lattice.specs.CellLemmas.{basis_edges}
use Rattle.iso_model.specs.Dimensions.{IsDimension}
use Rattle.cell_lattice.specs.Agreement.{agree_in_each}
use Rattle.cell_lattice.specs.declared.cubes.TheConstants.{BASES}
use Rattle.cell_lattice.proofs.cubes.cube_basis.Goals as goal

-- the bases as the code has them
abbrev written : ℕ → ℕ → ℕ → ℕ
written d k i = slice_index_or (slice_index_or (slice_index_or BASES (d - 2) []) k []) i 0

pub returns : goal.returns
returns g c =
    let is : IsDimension g.row.D = search rules in
    let has : HasDimension Cube g.row.D = search rules in
    let basis =
    fill_by_all (written g.row.D c.args.corner) c.loop-axis.basis g.row.D 0 c.loop-axis.invariant.0 (λ i h. c.loop-axis.invariant.1 i (omega arith))
    ∙ agree_in_each (λ d. 2 ^ d) (λ d k. map (written d k) (axes d)) (corner_basis Cube) refl refl refl g.row.D is c.args.corner c.requires.corner in
    record { basis = basis; edges = λ i h. rw basis (basis_edges Cube g.row.D is has c.args.corner c.requires.corner i h) }
