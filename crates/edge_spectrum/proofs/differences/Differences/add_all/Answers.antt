use Rattle.std.proofs.Common.{arith, sym, ◌∙◌, ◌≡◌, ◌≤◌, ℤ}
use Rattle.lists.proofs.Tests.{lt_of}
use Rattle.iso_model.specs.Splits.{cell_count}
use Rattle.edge_spectrum.specs.Spectrum.{edges_at}
use Rattle.edge_spectrum.proofs.StepSums.{grows_none, grows_same, not_below}
use Rattle.edge_spectrum.proofs.Walked.{has_cubes, no_edges}
use Rattle.edge_spectrum.proofs.differences.Differences.add_all.Goals as goal

pub add_edges-requires-clause-cubes : goal.add_edges-requires-clause-cubes
add_edges-requires-clause-cubes g c =
    has_cubes c.args.kind c.args.grid.now.sizes
    (lt_of 0 (cell_count c.args.kind c.args.grid.now.sizes) (sym c.requires.cells ∙ c.if-has_cells.true))

pub returns-else-has_cells : goal.returns-else-has_cells
returns-else-has_cells g c =
    let few : cell_count c.args.kind c.args.grid.now.sizes ≤ 0 =
    not_below 0 (cell_count c.args.kind c.args.grid.now.sizes) (sym c.requires.cells ∙ c.if-has_cells.false) in
    let none : cell_count c.args.kind c.args.grid.now.sizes ≡ 0 = omega (arith, few) in
    grows_same c.args.self.now c.args.self.now (λ (iso : ℤ). 0) (edges_at c.args.kind c.args.grid.now)
    (λ (iso : ℤ). sym (no_edges c.args.kind c.args.grid.now iso none)) (grows_none c.args.self.now c.requires.sound)
