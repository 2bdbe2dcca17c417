use Rattle.std.proofs.Common.{ℕ, ◌≡◌, ◌<◌, [], arith, refl, sym, ap, ◌∙◌, subst, slice_index_or}
use Rattle.iso_model.specs.declared.Kind.TheVariants.{Cube}
use Rattle.iso_model.specs.Cells.{HasDimension, edge_count, edge_ends, edge_between}
use Rattle.cell_lattice.specs.CellLemmas.{found_by_ends}
use Rattle.cell_lattice.specs.Agreement.{agree_in_each}
use Rattle.cube_moves.specs.declared.moves.TheConstants.{BETWEEN}
use Rattle.cube_moves.proofs.MovedEdges.{edge_step}
use Rattle.cube_moves.proofs.ExchangeChecks.{few_flips}
use Rattle.iso_model.specs.Dimensions.{IsDimension}
use Rattle.cube_moves.proofs.moves.edge_of.Goals as goal
use Rattle.iso_model.proofs.CellCounts.{axes_between}

-- the numbers as the code has them
abbrev written : ℕ → ℕ → ℕ
written a b = slice_index_or (slice_index_or BETWEEN a []) b 0

-- the table finds each edge by its ends
found : (d : ℕ) → IsDimension d → (e : ℕ) → e < edge_count Cube d → written (edge_ends Cube d e).0 (edge_ends Cube d e).1 ≡ e
found = agree_in_each (edge_count Cube) (λ d e. written (edge_ends Cube d e).0 (edge_ends Cube d e).1) (λ d e. e) refl refl refl

pub bounds-first : goal.bounds-first
bounds-first g c =
    let s = edge_step g.row.D c.requires.dimension c.requires.joined.0 c.requires.joined.1 in
    let few = few_flips g.row.D c.requires.dimension in
    let a : (edge_ends Cube g.row.D c.requires.joined.0).0 ≡ c.args.first = ap (λ (p : ℕ × ℕ). p.0) c.requires.joined.2 in
    omega (arith, a, s.ordered, s.corners)

pub bounds-second : goal.bounds-second
bounds-second g c =
    let s = edge_step g.row.D c.requires.dimension c.requires.joined.0 c.requires.joined.1 in
    let few = few_flips g.row.D c.requires.dimension in
    let b : (edge_ends Cube g.row.D c.requires.joined.0).1 ≡ c.args.second = ap (λ (p : ℕ × ℕ). p.1) c.requires.joined.2 in
    omega (arith, b, s.corners)

pub returns-clause-value : goal.returns-clause-value
returns-clause-value g c =
    let has : HasDimension Cube g.row.D = axes_between g.row.D c.requires.dimension in
    let e = c.requires.joined.0 in
    let ends = c.requires.joined.2 in
    ap (λ (p : ℕ × ℕ). written p.0 p.1) (sym ends) ∙ found g.row.D c.requires.dimension e c.requires.joined.1
    ∙ sym (found_by_ends Cube g.row.D c.requires.dimension has e c.requires.joined.1) ∙ ap (λ (p : ℕ × ℕ). edge_between Cube g.row.D p.0 p.1) ends

pub returns-clause-below : goal.returns-clause-below
returns-clause-below g c =
    let e = c.requires.joined.0 in
    subst (λ (k : ℕ). k < edge_count Cube g.row.D)
    (sym (ap (λ (p : ℕ × ℕ). written p.0 p.1) (sym c.requires.joined.2) ∙ found g.row.D c.requires.dimension e c.requires.joined.1)) c.requires.joined.1
