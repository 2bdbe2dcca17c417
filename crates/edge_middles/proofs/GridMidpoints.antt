-- Each edge of a grid is the one that its midpoint says.
use Rattle.std.proofs.Common.{ap, arith, refl, sym, ◌∙◌}
use Rattle.std.proofs.Math.Nat.{mod-lt}
use Rattle.std.specs.Prelude.{Bool, List, [], ◌∷◌, false, true, length, suc, zero, ℕ, ◌*◌, ◌+◌, ◌/◌, ◌%◌, ◌<◌, ◌≡◌, if◌then◌else◌}
use Rattle.iso_model.specs.declared.Kind.{Kind}
use Rattle.iso_model.specs.Cells.{HasDimension, edge_count, edge_ends}
use Rattle.iso_model.specs.Dimensions.{IsDimension}
use Rattle.iso_model.specs.Points.{comes_first, plus}
use Rattle.iso_model.specs.Splits.{Edge, cells_per_cube, cell_count, corner_offset, cube_count, cube_of, edge, edge_of_ends, midpoint, rank_of}
use Rattle.edge_middles.specs.Middles.{edge_at, edge_from}
use Rattle.edge_middles.specs.MovedEdges.{moved, moved_edge}
use Rattle.edge_middles.proofs.CubeMiddles.{edges_there}
use Rattle.split_laws.proofs.Coordinates.{length-cube_at}
use Rattle.edge_middles.proofs.GridEdges.{edges_moved, long_offset}
use Rattle.edge_middles.proofs.MovedMiddles.{moves_edges}

pub plus_moved : (x p q : List ℕ) → plus (moved 2 x p) (moved 2 x q) ≡ moved 4 x (plus p q)
plus_moved [] p q = refl
plus_moved (c ∷ x) [] q = refl
plus_moved (c ∷ x) (a ∷ p) [] = refl
plus_moved (c ∷ x) (a ∷ p) (b ∷ q) =
    let first : 2 * c + a + (2 * c + b) ≡ 4 * c + (a + b) = omega arith in
    λ i. first i ∷ plus_moved x p q i

long_plus : (d : ℕ) (p q : List ℕ) → length p ≡ d → length q ≡ d → length (plus p q) ≡ d
long_plus d [] q e h = e
long_plus zero (a ∷ p) q e h = absurd (omega (arith, e))
long_plus (suc d) (a ∷ p) [] e h = absurd (omega (arith, h))
long_plus (suc d) (a ∷ p) (b ∷ q) e h = ap suc (long_plus d p q (omega (arith, e)) (omega (arith, h)))

long_midpoint : (d : ℕ) (p q : List ℕ) → length p ≡ d → length q ≡ d → length (midpoint (edge_of_ends p q)) ≡ d
long_midpoint d p q e h = by_case (comes_first p q)
  where
    by_case : (t : Bool) → length (midpoint (if t then record { low = p; high = q } else record { low = q; high = p })) ≡ d
    by_case true = long_plus d p q e h
    by_case false = long_plus d q p h e

pub rank_below : (n per cell : ℕ) → cell < n * per → cell % per < per
rank_below n zero cell h = absurd (let none : n * 0 ≡ 0 = omega arith in omega (arith, h, none))
rank_below n (suc per) cell h = mod-lt cell (omega arith)

pub own_middles : (kind : Kind) (sizes : List ℕ) → HasDimension kind (length sizes) → IsDimension (length sizes)
    → (cell e : ℕ) → cell < cell_count kind sizes → e < edge_count kind (length sizes)
    → edge_at (midpoint (edge kind sizes cell e)) ≡ edge kind sizes cell e
own_middles kind sizes fits is cell e there few =
    let d : ℕ = length sizes in
    let x : List ℕ = cube_of kind sizes cell in
    let rank : ℕ = rank_of kind sizes cell in
    let within : Edge = edge_from kind d rank e in
    let as_moved : edge kind sizes cell e ≡ moved_edge x within = edges_moved kind sizes fits cell e in
    let long : length (midpoint within) ≡ d = long_midpoint d (corner_offset kind d rank (edge_ends kind d e).0)
    (corner_offset kind d rank (edge_ends kind d e).1) (long_offset kind d rank (edge_ends kind d e).0 fits)
    (long_offset kind d rank (edge_ends kind d e).1 fits) in
    let cube : length x ≡ d = length-cube_at sizes (cell / cells_per_cube kind d) in
    ap (λ n. edge_at (midpoint n)) as_moved ∙ ap edge_at (plus_moved x within.low within.high)
    ∙ moves_edges x (midpoint within) (cube ∙ sym long)
    ∙ ap (moved_edge x) (edges_there kind d is fits rank e (rank_below (cube_count sizes) (cells_per_cube kind d) cell there) few)
    ∙ sym as_moved
