use Rattle.std.proofs.Common.{ℕ, ◌-◌, [], map, length, slice_index_or, refl, arith, ◌∙◌}
use Rattle.std.proofs.lemmas.List.FromFn.{fill_by_all}
use Rattle.iso_model.specs.Points.{axes}
use Rattle.cell_lattice.specs.Agreement.{agree_in_each}
use Rattle.cube_moves.specs.declared.tables.TheConstants.{ORDERS}
use Rattle.cube_moves.proofs.ExchangeChecks.{order_of}
use Rattle.lists.specs.Orders.{orders}
use Rattle.cube_moves.proofs.words.order_at.Goals as goal

-- the orders as the code has them
abbrev written : ℕ → ℕ → ℕ → ℕ
written d n i = slice_index_or (slice_index_or (slice_index_or ORDERS (d - 2) []) n []) i 0

pub returns : goal.returns
returns g c =
    fill_by_all (written g.row.D c.args.number) c.loop-axis.axes g.row.D 0 c.loop-axis.invariant.0 (λ i h. c.loop-axis.invariant.1 i (omega arith))
    ∙ agree_in_each (λ d. length (orders d)) (λ d n. map (written d n) (axes d)) order_of refl refl refl g.row.D c.requires.dimension c.args.number
    c.requires.number
