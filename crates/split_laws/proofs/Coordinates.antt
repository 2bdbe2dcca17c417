-- Points by their coordinates, the cubes of a grid by their places, and points of two cubes that touch.
use Rattle.std.proofs.Common.{◌≡◌, ℕ, zero, suc, ◌+◌, ◌-◌, ◌*◌, ◌<◌, true, List, [], ◌∷◌, length, refl, ap, sym, ◌∙◌, arith}
use Rattle.std.specs.Prelude.{◌/◌, ◌%◌, ◌==◌, slice_index}
use Rattle.std.proofs.lemmas.Bool.{eqb-true, and_from}
use Rattle.std.proofs.lemmas.Bool.Decides.{nat_tests}
use Rattle.std.proofs.lemmas.List.FromFn.{get_or-map-range_with_len, length-map-range_with_len}
use Rattle.std.proofs.Math.Nat.{div-lt_iff_lt-mul, mul_comm}
use Rattle.iso_model.specs.declared.Kind.{Kind}
use Rattle.iso_model.specs.Points.{point}
use Rattle.iso_model.specs.Splits.{cells_per_cube, cell_count, cube_count, cube_at, cube_of, rank_of}
use Rattle.split_checks.specs.CubeShifts.{meets, move_to}
use Rattle.lists.proofs.Tests.{and_left, and_right}

-- a coordinate of a point that is given by its coordinates
pub coordinate : (d : ℕ) (f : ℕ → ℕ) (i : ℕ) → i < d → slice_index (point d f) i ≡ f i
coordinate d f i h = get_or-map-range_with_len f 0 d i i 0 h (omega arith)

pub length-point : (d : ℕ) (f : ℕ → ℕ) → length (point d f) ≡ d
length-point d f = length-map-range_with_len f 0 d

pub length-cube_at : (sizes : List ℕ) (c : ℕ) → length (cube_at sizes c) ≡ length sizes
length-cube_at [] c = refl
length-cube_at (n ∷ sizes) c = ap suc (length-cube_at sizes (c / (n - 1)))

pub lists_same : (xs ys : List ℕ) → length xs ≡ length ys → ((i : ℕ) → i < length xs → slice_index xs i ≡ slice_index ys i) → xs ≡ ys
lists_same [] [] e same = refl
lists_same [] (y ∷ ys) e same = absurd (omega arith)
lists_same (x ∷ xs) [] e same = absurd (omega arith)
lists_same (x ∷ xs) (y ∷ ys) e same =
    let first : x ≡ y = same 0 (omega arith) in
    let rest : xs ≡ ys = lists_same xs ys (omega arith) (λ i h. same (suc i) (omega (arith, h))) in
    rw (first, rest) refl

pub points_same : (d : ℕ) (f g : ℕ → ℕ) → ((i : ℕ) → i < d → f i ≡ g i) → point d f ≡ point d g
points_same d f g same =
    lists_same (point d f) (point d g) (length-point d f ∙ sym (length-point d g)) (λ i h.
    let in_axes : i < d = omega (arith, h, length-point d f) in
    coordinate d f i in_axes ∙ same i in_axes ∙ sym (coordinate d g i in_axes))

-- ---- numbers and places of cubes

pub quotient_below : (m k c : ℕ) → c < m * k → c / m < k
quotient_below zero k c h = absurd (omega (arith, h))
quotient_below (suc m) k c h = (div-lt_iff_lt-mul (omega arith)).1 (omega (arith, h, mul_comm (suc m) k))

pub digits_fix : (m k c d : ℕ) → c < m * k → d < m * k → c % m ≡ d % m → c / m ≡ d / m → c ≡ d
digits_fix zero k c d hc hd low high = absurd (omega (arith, hc))
digits_fix (suc m) k c d hc hd low high = omega (arith, low, ap (λ (v : ℕ). suc m * v) high)

-- a cube's number is fixed by where it stands
pub cube_number : (sizes : List ℕ) (c d : ℕ) → c < cube_count sizes → d < cube_count sizes → cube_at sizes c ≡ cube_at sizes d → c ≡ d
cube_number [] c d hc hd e = omega (arith, hc, hd)
cube_number (n ∷ sizes) c d hc hd e =
    digits_fix (n - 1) (cube_count sizes) c d hc hd (ap first e)
    (cube_number sizes (c / (n - 1)) (d / (n - 1)) (quotient_below (n - 1) (cube_count sizes) c hc) (quotient_below (n - 1) (cube_count sizes) d hd)
    (ap others e))
  where
    first : List ℕ → ℕ
    first [] = 0
    first (x ∷ xs) = x

    others : List ℕ → List ℕ
    others [] = []
    others (x ∷ xs) = xs

pub positive_factor : (m k c : ℕ) → c < m * k → 0 < m
positive_factor zero k c h = absurd (omega (arith, h))
positive_factor (suc m) k c h = omega arith

-- a cube stands below the last sample of each axis
pub cube_below : (sizes : List ℕ) (c : ℕ) → c < cube_count sizes → (i : ℕ) → i < length sizes → slice_index (cube_at sizes c) i + 1 < slice_index sizes i
cube_below [] c hc i h = absurd (omega (arith, h))
cube_below (n ∷ sizes) c hc zero h = let some : 0 < n - 1 = positive_factor (n - 1) (cube_count sizes) c hc in omega (arith, some)
cube_below (n ∷ sizes) c hc (suc i) h = cube_below sizes (c / (n - 1)) (quotient_below (n - 1) (cube_count sizes) c hc) i (omega (arith, h))

pub rank_below : (kind : Kind) (sizes : List ℕ) (c : ℕ) → 0 < cells_per_cube kind (length sizes) → rank_of kind sizes c < cells_per_cube kind (length sizes)
rank_below kind sizes c some = omega (arith, some)

pub cube_in : (kind : Kind) (sizes : List ℕ) (c : ℕ) → c < cell_count kind sizes → c / cells_per_cube kind (length sizes) < cube_count sizes
cube_in kind sizes c h =
    quotient_below (cells_per_cube kind (length sizes)) (cube_count sizes) c
    (omega (arith, h, mul_comm (cube_count sizes) (cells_per_cube kind (length sizes))))

-- a cell is fixed by its cube and its rank
pub cell_fixed : (kind : Kind) (sizes : List ℕ) (c e : ℕ) → c < cell_count kind sizes → e < cell_count kind sizes
    → cube_of kind sizes c ≡ cube_of kind sizes e → rank_of kind sizes c ≡ rank_of kind sizes e → c ≡ e
cell_fixed kind sizes c e hc he same_cube same_rank =
    digits_fix (cells_per_cube kind (length sizes)) (cube_count sizes) c e
    (omega (arith, hc, mul_comm (cube_count sizes) (cells_per_cube kind (length sizes))))
    (omega (arith, he, mul_comm (cube_count sizes) (cells_per_cube kind (length sizes)))) same_rank
    (cube_number sizes (c / cells_per_cube kind (length sizes)) (e / cells_per_cube kind (length sizes)) (cube_in kind sizes c hc)
    (cube_in kind sizes e he) same_cube)

-- ---- points that meet

pub record Meet (xs ms ys : List ℕ) : Type 0 where
  pub moves : length ms ≡ length xs
  pub others : length ys ≡ length xs
  pub same : (i : ℕ) → i < length xs → slice_index xs i + 2 ≡ 2 * slice_index ms i + slice_index ys i

one_more : (x m y : ℕ) (xs ms ys : List ℕ) → (x + 2 == 2 * m + y) ≡ true → Meet xs ms ys → Meet (x ∷ xs) (m ∷ ms) (y ∷ ys)
one_more x m y xs ms ys first rest = record { moves = ap suc rest.moves; others = ap suc rest.others; same = at }
  where
    at : (i : ℕ) → i < length (x ∷ xs) → slice_index (x ∷ xs) i + 2 ≡ 2 * slice_index (m ∷ ms) i + slice_index (y ∷ ys) i
    at zero q = eqb-true (x + 2) (2 * m + y) first
    at (suc i) q = rest.same i (omega (arith, q))

pub meet_from : (xs ms ys : List ℕ) → meets xs ms ys ≡ true → Meet xs ms ys
meet_from [] [] [] h = record { moves = refl; others = refl; same = λ i q. absurd (omega (arith, q)) }
meet_from [] [] (y ∷ ys) h = absurd (cc)
meet_from [] (m ∷ ms) ys h = absurd (cc)
meet_from (x ∷ xs) [] ys h = absurd (cc)
meet_from (x ∷ xs) (m ∷ ms) [] h = absurd (cc)
meet_from (x ∷ xs) (m ∷ ms) (y ∷ ys) h =
    one_more x m y xs ms ys (and_left (x + 2 == 2 * m + y) (meets xs ms ys) h) (meet_from xs ms ys (and_right (x + 2 == 2 * m + y) (meets xs ms ys) h))

pub meets_from : (xs ms ys : List ℕ) → Meet xs ms ys → meets xs ms ys ≡ true
meets_from [] [] [] h = refl
meets_from [] [] (y ∷ ys) h = absurd (omega (arith, h.others))
meets_from [] (m ∷ ms) ys h = absurd (omega (arith, h.moves))
meets_from (x ∷ xs) [] ys h = absurd (omega (arith, h.moves))
meets_from (x ∷ xs) (m ∷ ms) [] h = absurd (omega (arith, h.others))
meets_from (x ∷ xs) (m ∷ ms) (y ∷ ys) h =
    let first : x + 2 ≡ 2 * m + y = h.same 0 (omega arith) in
    and_from (x + 2 == 2 * m + y) (meets xs ms ys) (grind (arith, nat_tests, first))
    (meets_from xs ms ys (record { moves = omega (arith, h.moves); others = omega (arith, h.others); same = λ i q. h.same (suc i) (omega (arith, q)) }))

pub length-move_to : (xs ys : List ℕ) → length ys ≡ length xs → length (move_to xs ys) ≡ length xs
length-move_to [] ys e = refl
length-move_to (x ∷ xs) [] e = absurd (omega (arith, e))
length-move_to (x ∷ xs) (y ∷ ys) e = ap suc (length-move_to xs ys (omega (arith, e)))

pub move_to_at : (xs ys : List ℕ) → length ys ≡ length xs → (i : ℕ) → i < length xs
    → slice_index (move_to xs ys) i ≡ (slice_index xs i + 2 - slice_index ys i) / 2
move_to_at [] ys e i h = absurd (omega (arith, h))
move_to_at (x ∷ xs) [] e i h = absurd (omega (arith, e))
move_to_at (x ∷ xs) (y ∷ ys) e zero h = refl
move_to_at (x ∷ xs) (y ∷ ys) e (suc i) h = move_to_at xs ys (omega (arith, e)) i (omega (arith, h))

-- the move is told by the offsets that meet
pub move_is : (xs ms ys : List ℕ) → Meet xs ms ys → ms ≡ move_to xs ys
move_is xs ms ys h =
    lists_same ms (move_to xs ys) (h.moves ∙ sym (length-move_to xs ys h.others)) (λ i q.
    let in_axes : i < length xs = omega (arith, q, h.moves) in
    omega (arith, h.same i in_axes, move_to_at xs ys h.others i in_axes))
