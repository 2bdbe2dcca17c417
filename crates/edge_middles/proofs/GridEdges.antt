-- The edges of a grid's cells are those of the cells of one cube, moved.
use Rattle.std.proofs.Common.{ap, arith, refl, sym, ◌∙◌}
use Rattle.std.specs.List.{range_with_len}
use Rattle.std.specs.Int.{bit_at}
use Rattle.std.specs.Prelude.{Bool, List, [], ◌∷◌, count_by, false, true, length, map, nat_eq, nat_lt}
use Rattle.std.specs.Prelude.{slice_index, suc, take, zero, ℕ, ◌*◌, ◌+◌, ◌/◌, ◌-◌, ◌==◌, ◌≡◌, if◌then◌else◌}
use Rattle.iso_model.specs.declared.Kind.{Kind}
use Rattle.iso_model.specs.declared.Kind.TheVariants.{Cube, Simplex, Pyramid}
use Rattle.iso_model.specs.Cells.{HasDimension, edge_ends}
use Rattle.iso_model.specs.Points.{point}
use Rattle.iso_model.specs.Splits.{axis_order, base_axis, base_side, cells_per_cube, corner, corner_offset, cube_of, edge_of_ends, rank_of}
use Rattle.lists.proofs.MemberLaws.{map-range_more, map_same}
use Rattle.split_laws.proofs.Coordinates.{length-cube_at}
use Rattle.edge_middles.specs.MovedEdges.{AreMovedEdges, moved}
use Rattle.edge_middles.proofs.MovedMiddles.{ends_moved}
use Rattle.std.proofs.lemmas.List.FromFn.{length-map-range_with_len}

point_moved : (n : ℕ) (x o : List ℕ) → length x ≡ n → length o ≡ n → map (λ i. 2 * slice_index x i + slice_index o i) (range_with_len 0 n) ≡ moved 2 x o
point_moved zero [] o e h = refl
point_moved zero (c ∷ x) o e h = absurd (omega (arith, e))
point_moved (suc n) [] o e h = absurd (omega (arith, e))
point_moved (suc n) (c ∷ x) [] e h = absurd (omega (arith, h))
point_moved (suc n) (c ∷ x) (k ∷ o) e h =
    let f : ℕ → ℕ = λ i. 2 * slice_index (c ∷ x) i + slice_index (k ∷ o) i in
    let rest = point_moved n x o (omega (arith, e)) (omega (arith, h)) in
    let tail : map f (range_with_len 1 n) ≡ moved 2 x o =
    map-range_more f 0 n
    ∙ map_same (λ i. f (i + 1)) (λ i. 2 * slice_index x i + slice_index o i) (range_with_len 0 n) (λ i m. let one : i + 1 ≡ suc i = omega arith in ap f one)
    ∙ rest in
    ap (λ (ys : List ℕ). (2 * c + k) ∷ ys) tail

pub long_offset : (kind : Kind) (d rank k : ℕ) → HasDimension kind d → length (corner_offset kind d rank k) ≡ d
long_offset Cube d rank k h = length-map-range_with_len (λ i. 2 * bit_at k i) 0 d
long_offset Simplex d rank k h = length-map-range_with_len (λ i. 2 * count_by (nat_eq i) (take k (axis_order d rank))) 0 d
long_offset Pyramid d rank k h = by_case (k == 4) ∙ sym h
  where
    by_case : (t : Bool) → length (if t then point 3 (λ i. 1) else point 3 (λ i. if i == base_axis rank then 2 * base_side rank
        else 2 * bit_at k (if nat_lt i (base_axis rank) then i else i - 1))) ≡ 3
    by_case true = refl
    by_case false = refl

pub corner_moved : (kind : Kind) (sizes : List ℕ) (cell k : ℕ) → HasDimension kind (length sizes)
    → corner kind sizes cell k ≡ moved 2 (cube_of kind sizes cell) (corner_offset kind (length sizes) (rank_of kind sizes cell) k)
corner_moved kind sizes cell k h =
    point_moved (length sizes) (cube_of kind sizes cell) (corner_offset kind (length sizes) (rank_of kind sizes cell) k)
    (length-cube_at sizes (cell / cells_per_cube kind (length sizes))) (long_offset kind (length sizes) (rank_of kind sizes cell) k h)

pub edges_moved : (kind : Kind) (sizes : List ℕ) → HasDimension kind (length sizes) → AreMovedEdges kind sizes
edges_moved kind sizes h cell e =
    let d : ℕ = length sizes in
    let x : List ℕ = cube_of kind sizes cell in
    let rank : ℕ = rank_of kind sizes cell in
    let first : ℕ = (edge_ends kind d e).0 in
    let second : ℕ = (edge_ends kind d e).1 in
    let long : length x ≡ d = length-cube_at sizes (cell / cells_per_cube kind d) in
    (λ i. edge_of_ends (corner_moved kind sizes cell first h i) (corner_moved kind sizes cell second h i))
    ∙ ends_moved x (corner_offset kind d rank first) (corner_offset kind d rank second)
    (long_offset kind d rank first h ∙ sym long) (long_offset kind d rank second h ∙ sym long)
