-- The midpoints that a cube of a grid has are those that it holds and that can be midpoints.
use Rattle.std.proofs.Common.{ap, arith, inl, inr, refl, sym, subst, ◌∙◌}
use Rattle.std.proofs.lemmas.Bool.{leb-true, le-leb}
use Rattle.std.proofs.lemmas.List.Elements.{All-head, All-tail}
use Rattle.std.proofs.lemmas.List.Sums.{sum_by-cons}
use Rattle.std.proofs.Math.Nat.{mod-eq_of_lt, mul-add-mod_self_right}
use Rattle.std.proofs.lemmas.Nat.{div-mul-add}
use Rattle.std.specs.Prelude.{All, Bool, List, [], ◌∷◌, cond, true, length, map, flat_map, nat_le, nat_lt, suc}
use Rattle.std.specs.Prelude.{ℕ, ◌*◌, ◌+◌, ◌-◌, ◌/◌, ◌%◌, ◌≤◌, ◌&&◌, ◌||◌, ◌==◌, ◌≡◌}
use Rattle.iso_model.specs.declared.Kind.{Kind}
use Rattle.iso_model.specs.declared.Kind.TheVariants.{Cube, Simplex, Pyramid}
use Rattle.iso_model.specs.Cells.{HasDimension, edge_count, edge_ends}
use Rattle.iso_model.specs.Dimensions.{IsDimension}
use Rattle.iso_model.specs.Splits.{cells_per_cube, corner_offset, cube_at, edge, midpoint}
use Rattle.lists.specs.Members.{In}
use Rattle.lists.specs.Orders.{numbers}
use Rattle.lists.proofs.MemberLaws.{All-from_In, In-flat_map, In-map, from_In-flat_map, from_In-map, from_In-numbers}
use Rattle.lists.proofs.Tests.{and_left, and_right}
use Rattle.edge_middles.specs.Middles.{axes_along, cube_middles, edge_from, is_middle, joins_centre}
use Rattle.edge_middles.specs.MovedEdges.{moved, moved_edge}
use Rattle.edge_middles.specs.HeldMiddles.{AreMovedMiddles, HasHeldMiddles, IsHeldMiddle, cell_middles, cells_in, holds, middle_from}
use Rattle.edge_middles.proofs.CubeMiddles.{has_all}
use Rattle.split_laws.proofs.Coordinates.{length-cube_at}
use Rattle.split_laws.proofs.Midpoints.{midpoint_of_ends}
use Rattle.edge_middles.proofs.GridEdges.{edges_moved}
use Rattle.edge_middles.proofs.GridMidpoints.{plus_moved}
use Rattle.edge_middles.proofs.MovedMiddles.{joins_same}

-- ---- what can be a midpoint is so wherever its cube stands

centre_same : (x m : List ℕ) → length x ≡ length m → joins_centre (moved 4 x m) ≡ joins_centre m
centre_same [] [] e = refl
centre_same [] (k ∷ m) e = absurd (omega (arith, e))
centre_same (c ∷ x) [] e = absurd (omega (arith, e))
centre_same (c ∷ x) (k ∷ m) e =
    let rest = centre_same x m (omega (arith, e)) in
    let first : (4 * c + k) % 2 ≡ k % 2 = omega arith in
    λ i. (first i == 1) && rest i

-- 1 where an edge goes along the axis of this coordinate
abbrev is_along : ℕ → ℕ
is_along n = cond (n % 4 == 2) 1 0

along_same : (x m : List ℕ) → length x ≡ length m → axes_along (moved 4 x m) ≡ axes_along m
along_same [] [] e = refl
along_same [] (k ∷ m) e = absurd (omega (arith, e))
along_same (c ∷ x) [] e = absurd (omega (arith, e))
along_same (c ∷ x) (k ∷ m) e =
    let rest = along_same x m (omega (arith, e)) in
    let first : (4 * c + k) % 4 ≡ k % 4 = omega arith in
    sum_by-cons is_along (4 * c + k) (moved 4 x m) ∙ (λ i. cond (first i == 2) 1 0 + rest i) ∙ sym (sum_by-cons is_along k m)

middle_same : (kind : Kind) (x m : List ℕ) → length x ≡ length m → is_middle kind (moved 4 x m) ≡ is_middle kind m
middle_same Cube x m e = λ i. joins_same x m e i && (along_same x m e i == 1)
middle_same Simplex x m e = λ i. joins_same x m e i && nat_lt 0 (along_same x m e i)
middle_same Pyramid x m e = λ i. (joins_same x m e i && (along_same x m e i == 1)) || centre_same x m e i

-- ---- a cube holds the points that are moved from the first cube

held : (x o : List ℕ) → length x ≡ length o → All (λ c. c ≤ 4) o → holds x (moved 4 x o) ≡ true
held [] [] e all = refl
held [] (k ∷ o) e all = absurd (omega (arith, e))
held (c ∷ x) [] e all = absurd (omega (arith, e))
held (c ∷ x) (k ∷ o) e all =
    let rest = held x o (omega (arith, e)) (All-tail (λ n. n ≤ 4) k o all) in
    let small : k ≤ 4 = All-head (λ n. n ≤ 4) k o all in
    let low : nat_le (4 * c) (4 * c + k) ≡ true = le-leb (4 * c) (4 * c + k) (omega arith) in
    let high : nat_le (4 * c + k) (4 * c + 4) ≡ true = le-leb (4 * c + k) (4 * c + 4) (omega (arith, small)) in
    λ i. low i && high i && rest i

-- the point of the first cube from which a point that a cube holds is moved
abbrev back : List ℕ → List ℕ → List ℕ
back [] m = []
back (c ∷ x) [] = []
back (c ∷ x) (k ∷ m) = (k - 4 * c) ∷ back x m

back_long : (x m : List ℕ) → length x ≡ length m → length (back x m) ≡ length x
back_long [] m e = refl
back_long (c ∷ x) [] e = absurd (omega (arith, e))
back_long (c ∷ x) (k ∷ m) e = ap suc (back_long x m (omega (arith, e)))

pub low_side : (c k : ℕ) (rest : Bool) → (nat_le (4 * c) k && nat_le k (4 * c + 4) && rest) ≡ true → 4 * c ≤ k
low_side c k rest t = leb-true (4 * c) k (and_left (nat_le (4 * c) k) (nat_le k (4 * c + 4)) (and_left (nat_le (4 * c) k && nat_le k (4 * c + 4)) rest t))

pub high_side : (c k : ℕ) (rest : Bool) → (nat_le (4 * c) k && nat_le k (4 * c + 4) && rest) ≡ true → k ≤ 4 * c + 4
high_side c k rest t = leb-true k (4 * c + 4) (and_right (nat_le (4 * c) k) (nat_le k (4 * c + 4)) (and_left (nat_le (4 * c) k && nat_le k (4 * c + 4)) rest t))

is_moved : (x m : List ℕ) → length x ≡ length m → holds x m ≡ true → m ≡ moved 4 x (back x m)
is_moved [] [] e t = refl
is_moved [] (k ∷ m) e t = absurd (omega (arith, e))
is_moved (c ∷ x) [] e t = absurd (omega (arith, e))
is_moved (c ∷ x) (k ∷ m) e t =
    let rest = is_moved x m (omega (arith, e)) (and_right (nat_le (4 * c) k && nat_le k (4 * c + 4)) (holds x m) t) in
    let low : 4 * c ≤ k = low_side c k (holds x m) t in
    let first : k ≡ 4 * c + (k - 4 * c) = omega (arith, low) in
    λ i. first i ∷ rest i

back_small : (x m : List ℕ) → length x ≡ length m → holds x m ≡ true → (c : ℕ) → In c (back x m) → c ≤ 4
back_small [] m e t c there = absurd there
back_small (a ∷ x) [] e t c there = absurd there
back_small (a ∷ x) (k ∷ m) e t c (inl is) =
    let high : k ≤ 4 * a + 4 = high_side a k (holds x m) t in
    omega (arith, high, is)
back_small (a ∷ x) (k ∷ m) e t c (inr there) =
    back_small x m (omega (arith, e)) (and_right (nat_le (4 * a) k && nat_le k (4 * a + 4)) (holds x m) t) c there

-- ---- the midpoints of the edges of a cube's cells are moved from the first cube

pub midpoint_moved : (kind : Kind) (sizes : List ℕ) → HasDimension kind (length sizes) → AreMovedMiddles kind sizes
midpoint_moved kind sizes h cube rank e few =
    let d : ℕ = length sizes in
    let per : ℕ = cells_per_cube kind d in
    let own : (cube * per + rank) / per ≡ cube = div-mul-add cube per rank few in
    let left : (cube * per + rank) % per ≡ rank = mul-add-mod_self_right cube per rank ∙ mod-eq_of_lt few in
    let as_moved : edge kind sizes (cube * per + rank) e ≡ moved_edge (cube_at sizes cube) (edge_from kind d rank e) =
    edges_moved kind sizes h (cube * per + rank) e ∙ (λ i. moved_edge (cube_at sizes (own i)) (edge_from kind d (left i) e)) in
    let within = edge_from kind d rank e in
    ap midpoint as_moved ∙ plus_moved (cube_at sizes cube) within.low within.high
    ∙ ap (moved 4 (cube_at sizes cube)) (midpoint_of_ends (corner_offset kind d rank (edge_ends kind d e).0) (corner_offset kind d rank (edge_ends kind d e).1))

-- ---- both ways

is_held : (kind : Kind) (sizes : List ℕ) (cube : ℕ) (o middle : List ℕ) → length o ≡ length sizes → All (λ c. c ≤ 4) o → is_middle kind o ≡ true
    → middle ≡ moved 4 (cube_at sizes cube) o → IsHeldMiddle kind sizes cube middle
is_held kind sizes cube o middle long small is e =
    let x = cube_at sizes cube in
    let same : length x ≡ length o = length-cube_at sizes cube ∙ sym long in (
      ap length e ∙ moved_long x o same ∙ length-cube_at sizes cube,
      ap (holds x) e ∙ held x o same small,
      ap (is_middle kind) e ∙ middle_same kind x o same ∙ is,
    )
  where
    moved_long : (x o : List ℕ) → length x ≡ length o → length (moved 4 x o) ≡ length x
    moved_long [] o e = refl
    moved_long (c ∷ x) [] e = absurd (omega (arith, e))
    moved_long (c ∷ x) (k ∷ o) e = ap suc (moved_long x o (omega (arith, e)))

-- the midpoints of the edges of the cell of this rank, from the first corner of its cube
abbrev rank_middles : Kind → ℕ → ℕ → List (List ℕ)
rank_middles kind d rank = map (λ e. middle_from kind d rank e) (numbers (edge_count kind d))

one_way : (kind : Kind) (sizes : List ℕ) → HasDimension kind (length sizes) → IsDimension (length sizes) → (cube : ℕ) (middle : List ℕ)
    → In middle (flat_map (cell_middles kind sizes) (cells_in kind sizes cube)) → IsHeldMiddle kind sizes cube middle
one_way kind sizes fits dim cube middle there =
    let d : ℕ = length sizes in
    let per : ℕ = cells_per_cube kind d in
    let count : ℕ = edge_count kind d in
    let r = from_In-flat_map (cell_middles kind sizes) (cells_in kind sizes cube) middle there in
    let cell = from_In-map (λ rank. cube * per + rank) (numbers per) r.0 r.1 in
    let e = from_In-map (λ e. midpoint (edge kind sizes r.0 e)) (numbers count) middle r.2 in
    let o : List ℕ = middle_from kind d cell.0 e.0 in
    let inside : In o (cube_middles kind d) = In-flat_map (rank_middles kind d) (numbers per) cell.0 o cell.1
    (In-map (λ k. middle_from kind d cell.0 k) (numbers count) e.0 e.1) in
    let is = (has_all kind d dim fits o).0 inside in
    is_held kind sizes cube o middle is.0 is.1 is.2
    (e.2 ∙ ap (λ n. midpoint (edge kind sizes n e.0)) cell.2 ∙ midpoint_moved kind sizes fits cube cell.0 e.0 (from_In-numbers per cell.0 cell.1))

other_way : (kind : Kind) (sizes : List ℕ) → HasDimension kind (length sizes) → IsDimension (length sizes) → (cube : ℕ) (middle : List ℕ)
    → IsHeldMiddle kind sizes cube middle → In middle (flat_map (cell_middles kind sizes) (cells_in kind sizes cube))
other_way kind sizes fits dim cube middle h =
    let d : ℕ = length sizes in
    let per : ℕ = cells_per_cube kind d in
    let count : ℕ = edge_count kind d in
    let x : List ℕ = cube_at sizes cube in
    let same : length x ≡ length middle = length-cube_at sizes cube ∙ sym h.0 in
    let o : List ℕ = back x middle in
    let long : length o ≡ d = back_long x middle same ∙ length-cube_at sizes cube in
    let from : middle ≡ moved 4 x o = is_moved x middle same h.1 in
    let small : All (λ c. c ≤ 4) o = All-from_In (λ c. c ≤ 4) o (back_small x middle same h.1) in
    let can : is_middle kind o ≡ true = sym (middle_same kind x o (length-cube_at sizes cube ∙ sym long)) ∙ sym (ap (is_middle kind) from) ∙ h.2 in
    let r = from_In-flat_map (rank_middles kind d) (numbers per) o ((has_all kind d dim fits o).1 (long, small, can)) in
    let e = from_In-map (λ k. middle_from kind d r.0 k) (numbers count) o r.2 in
    let cell : ℕ = cube * per + r.0 in
    let last : midpoint (edge kind sizes cell e.0) ≡ moved 4 x (middle_from kind d r.0 e.0) =
    midpoint_moved kind sizes fits cube r.0 e.0 (from_In-numbers per r.0 r.1) in
    let final : middle ≡ midpoint (edge kind sizes cell e.0) = from ∙ ap (moved 4 x) e.2 ∙ sym last in
    In-flat_map (cell_middles kind sizes) (cells_in kind sizes cube) cell middle (In-map (λ rank. cube * per + rank) (numbers per) r.0 r.1)
    (subst (λ m. In m (cell_middles kind sizes cell)) (sym final) (In-map (λ k. midpoint (edge kind sizes cell k)) (numbers count) e.0 e.1))

pub has_held : (kind : Kind) (sizes : List ℕ) → HasDimension kind (length sizes) → HasHeldMiddles kind sizes
has_held kind sizes fits dim cube middle = (one_way kind sizes fits dim cube middle, other_way kind sizes fits dim cube middle)
