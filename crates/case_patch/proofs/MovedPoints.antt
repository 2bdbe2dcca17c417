-- The points of a carried labelling of a cube are the moved points.
use Rattle.std.specs.Prelude.{◌≡◌, ◌⊎◌, ℕ, zero, suc, ◌+◌, ◌-◌, ◌*◌, ◌%◌, ◌^◌, ◌<◌, ◌≤◌, ℤ, pos, ◌-ℤ◌, Bool, true, false, not, cond, ◌==◌, nat_lt, nat_eq}
use Rattle.std.specs.Prelude.{if◌then◌else◌, List, [], ◌∷◌, map, length, slice_index, slice_index_or, Contains}
use Rattle.std.specs.Int.{bit_at}
use Rattle.std.proofs.Common.{refl, sym, ap, ◌∙◌, arith, inl, inr}
use Rattle.std.proofs.lemmas.Bool.{eq-eqb, eqb-true, eqb-false, lt-ltb, le-ltb, cases_lt}
use Rattle.std.proofs.lemmas.Bool.Decides.{nat_tests}
use Rattle.std.proofs.lemmas.Int.{ints}
use Rattle.std.proofs.lemmas.List.{length-map, get_or-map, get_or_append_left, get_or-append_right}
use Rattle.std.proofs.lemmas.Nat.Bits.{bit_at-lt}
use Rattle.iso_model.specs.declared.Kind.TheVariants.{Cube}
use Rattle.iso_model.specs.Points.{plus}
use Rattle.iso_model.specs.Cells.{corner_point, edge_count, edge_ends, edge_midpoint, midpoint_between}
use Rattle.iso_model.specs.Bipolar.{is_bipolar_in}
use Rattle.iso_model.specs.Entries.{label_edges, label_corners, label_points}
use Rattle.iso_model.specs.Moves.{Move, IsMove, Carries, move_corner, move_edge}
use Rattle.pulling_tri.proofs.ChainLaws.{Ascends, filter_ascends}
use Rattle.pulling_tri.proofs.SetBits.{kept_by, range_ascends}
use Rattle.cube_moves.proofs.MovedBits.{corner-bit, corner-below}
use Rattle.cube_moves.proofs.OrderChecks.{axis-below}
use Rattle.cube_moves.proofs.InverseMoves.{AreInverse, inverse_too, carries_back, edge_moved, edge_moved_ends, edge_there, bipolar_moved}
use Rattle.case_patch.specs.MovedPoints.{place, carried_point}
use Rattle.case_patch.proofs.LabelPoints.{points_length}
use Rattle.case_patch.proofs.MovedTurns.{map_below, at_place}
use Rattle.case_patch.proofs.MovedFacets.{placed, PointsMatch}
use Rattle.lists.specs.Orders.{numbers, orders}
use Rattle.lists.specs.Bits.{is_set}
use Rattle.lists.proofs.Contained.{below_contained, contained_below, Contains-at, Contains-filter, Contains-split, Contains-passes}
use Rattle.lists.proofs.MemberLaws.{map-map}
use Rattle.iso_model.specs.Dimensions.{IsDimension}
use Rattle.iso_model.proofs.PointLaws.{plus_comm}

-- ---- places in lists

place_here : (x y : ℕ) (xs : List ℕ) → x ≡ y → place (y ∷ xs) x ≡ 0
place_here x y xs e = ap (λ (b : Bool). cond (not b) (1 + place xs x) 0) (eq-eqb x y e)

place_on : (x y : ℕ) (xs : List ℕ) → nat_eq x y ≡ false → place (y ∷ xs) x ≡ suc (place xs x)
place_on x y xs e = let s : 1 + place xs x ≡ suc (place xs x) = omega arith in ap (λ (b : Bool). cond (not b) (1 + place xs x) 0) e ∙ s

-- a member stands at its place
pub member_place : (xs : List ℕ) (x : ℕ) → Contains xs x → (place xs x < length xs) × (slice_index xs (place xs x) ≡ x)
member_place [] x c = absurd (let h : c.0 < 0 = c.1 in omega arith)
member_place (y ∷ xs) x c = by_test (λ m. member_place xs x m) (nat_eq x y) refl (Contains-split x y xs c)
  where
    by_test : (Contains xs x → (place xs x < length xs) × (slice_index xs (place xs x) ≡ x)) → (b : Bool) → nat_eq x y ≡ b → (y ≡ x) ⊎ Contains xs x
        → (place (y ∷ xs) x < length (y ∷ xs)) × (slice_index (y ∷ xs) (place (y ∷ xs) x) ≡ x)
    by_test behind true e m =
        let s = eqb-true x y e in
        let z = place_here x y xs s in
        (omega (arith, z), ap (slice_index (y ∷ xs)) z ∙ sym s)
    by_test behind false e (inl s) = absurd (eqb-false x y e (sym s))
    by_test behind false e (inr m) =
        let z = place_on x y xs e in
        let b = behind m in
        (omega (arith, z, b.0), ap (slice_index (y ∷ xs)) z ∙ b.1)

-- in an ascending list each member stands at its own place
pub own_place : (xs : List ℕ) → Ascends xs → (i : ℕ) → i < length xs → place xs (slice_index xs i) ≡ i
own_place [] a i h = absurd (omega arith)
own_place (x ∷ xs) a zero h = place_here x x xs refl
own_place (x ∷ xs) a (suc i) h =
    let up : x < slice_index xs i = a.0 (slice_index xs i) (Contains-at xs i 0 (omega (arith, h))) in
    let t : nat_eq (slice_index xs i) x ≡ false = grind (arith, nat_tests) in
    place_on (slice_index xs i) x xs t ∙ ap suc (own_place xs a.1 i (omega (arith, h)))

-- ---- points that are moved

plus-map : (f g : ℕ → ℕ) (is : List ℕ) → plus (map f is) (map g is) ≡ map (λ i. f i + g i) is
plus-map f g [] = refl
plus-map f g (i ∷ is) = ap (λ (xs : List ℕ). (f i + g i) ∷ xs) (plus-map f g is)

-- the coordinates of twice a corner, and of a sum of two corners
one_corner : (a f z : ℕ) → a < 2 → f < 2 → z ≡ (a + f) % 2 → (if f == 1 then pos 4 -ℤ pos (2 * (2 * a)) else pos (2 * (2 * a))) ≡ pos (2 * (2 * z))
one_corner a zero z s t e = let k : z ≡ a = omega arith in ap (λ (n : ℕ). pos (2 * (2 * n))) (sym k)
one_corner zero (suc zero) z s t e = let k : z ≡ 1 = omega arith in ap (λ (n : ℕ). pos (2 * (2 * n))) (sym k)
one_corner (suc zero) (suc zero) z s t e = let k : z ≡ 0 = omega arith in ap (λ (n : ℕ). pos (2 * (2 * n))) (sym k)
one_corner (suc (suc a)) (suc zero) z s t e = absurd (omega arith)
one_corner a (suc (suc f)) z s t e = absurd (omega arith)

one_midpoint : (a b f y z : ℕ) → a < 2 → b < 2 → f < 2 → y ≡ (a + f) % 2 → z ≡ (b + f) % 2
    → (if f == 1 then pos 4 -ℤ pos (2 * a + 2 * b) else pos (2 * a + 2 * b)) ≡ pos (2 * y + 2 * z)
one_midpoint a b zero y z s t u e g = let k : 2 * a + 2 * b ≡ 2 * y + 2 * z = omega arith in ap pos k
one_midpoint a b (suc zero) y z s t u e g = flipped a b y z s t (omega arith) (omega arith)
  where
    flipped : (a b y z : ℕ) → a < 2 → b < 2 → y + a ≡ 1 → z + b ≡ 1 → pos 4 -ℤ pos (2 * a + 2 * b) ≡ pos (2 * y + 2 * z)
    flipped a b y z s t e g = omega (arith, ints)
one_midpoint a b (suc (suc f)) y z s t u e g = absurd (omega arith)

-- a moved corner
pub corner_placed : (d : ℕ) → IsDimension d → (by : Move) → Contains (orders d) by.axes → (k : ℕ)
    → placed d by (map (λ x. pos (2 * x)) (corner_point Cube d k)) ≡ map (λ x. pos (2 * x)) (corner_point Cube d (move_corner d by k))
corner_placed d is by o k =
    map_below _ (λ i. pos (2 * (2 * bit_at (move_corner d by k) i))) d
    (λ i h. let a = axis-below d is by.axes o i h in
    ap (λ (z : ℤ). if is_set by.flips i then pos 4 -ℤ z else z) (twice_at (slice_index by.axes i) a)
    ∙ one_corner (bit_at k (slice_index by.axes i)) (bit_at by.flips i) (bit_at (move_corner d by k) i) (bit_at-lt k (slice_index by.axes i))
    (bit_at-lt by.flips i) (corner-bit d by k i h))
    ∙ sym (map-map (λ i. 2 * bit_at (move_corner d by k) i) (λ x. pos (2 * x)) (numbers d))
  where
    twice_at : (a : ℕ) → a < d → slice_index_or (map (λ x. pos (2 * x)) (corner_point Cube d k)) a (pos 0) ≡ pos (2 * (2 * bit_at k a))
    twice_at a h = ap (λ (xs : List ℤ). slice_index_or xs a (pos 0)) (map-map (λ i. 2 * bit_at k i) (λ x. pos (2 * x)) (numbers d))
        ∙ at_place (λ i. pos (2 * (2 * bit_at k i))) d a (pos 0) h

-- the midpoint of two moved corners
middle_placed : (d : ℕ) → IsDimension d → (by : Move) → Contains (orders d) by.axes → (j k : ℕ)
    → placed d by (map pos (midpoint_between Cube d (j, k))) ≡ map pos (midpoint_between Cube d (move_corner d by j, move_corner d by k))
middle_placed d is by o j k =
    map_below _ (λ i. pos (2 * bit_at (move_corner d by j) i + 2 * bit_at (move_corner d by k) i)) d
    (λ i h. let a = axis-below d is by.axes o i h in
    ap (λ (z : ℤ). if is_set by.flips i then pos 4 -ℤ z else z) (middle_at (slice_index by.axes i) a)
    ∙ one_midpoint (bit_at j (slice_index by.axes i)) (bit_at k (slice_index by.axes i)) (bit_at by.flips i) (bit_at (move_corner d by j) i)
    (bit_at (move_corner d by k) i)
    (bit_at-lt j (slice_index by.axes i)) (bit_at-lt k (slice_index by.axes i)) (bit_at-lt by.flips i) (corner-bit d by j i h) (corner-bit d by k i h))
    ∙ sym (middle (move_corner d by j) (move_corner d by k))
  where
    middle : (x y : ℕ) → map pos (midpoint_between Cube d (x, y)) ≡ map (λ i. pos (2 * bit_at x i + 2 * bit_at y i)) (numbers d)
    middle x y = ap (map pos) (plus-map (λ i. 2 * bit_at x i) (λ i. 2 * bit_at y i) (numbers d))
        ∙ map-map (λ i. 2 * bit_at x i + 2 * bit_at y i) pos (numbers d)

    middle_at : (a : ℕ) → a < d → slice_index_or (map pos (midpoint_between Cube d (j, k))) a (pos 0) ≡ pos (2 * bit_at j a + 2 * bit_at k a)
    middle_at a h = ap (λ (xs : List ℤ). slice_index_or xs a (pos 0)) (middle j k) ∙ at_place (λ i. pos (2 * bit_at j i + 2 * bit_at k i)) d a (pos 0) h

-- the midpoint of a moved edge
pub edge_placed : (d : ℕ) → IsDimension d → (by : Move) → IsMove d by → (e : ℕ) → e < edge_count Cube d
    → placed d by (map pos (edge_midpoint Cube d e)) ≡ map pos (edge_midpoint Cube d (move_edge d by e))
edge_placed d is by move e h =
    edge_moved_ends d is by move e h (λ x y. placed d by (map pos (edge_midpoint Cube d e)) ≡ map pos (plus (corner_point Cube d x) (corner_point Cube d y)))
    (λ x y p. p ∙ ap (map pos) (plus_comm (corner_point Cube d x) (corner_point Cube d y)))
    (middle_placed d is by move.0 (edge_ends Cube d e).0 (edge_ends Cube d e).1)

-- ---- the points of a labelling, one by one

abbrev edge_point : ℕ → ℕ → List ℤ
edge_point d e = map pos (edge_midpoint Cube d e)

abbrev twice_corner : ℕ → ℕ → List ℤ
twice_corner d k = map (λ x. pos (2 * x)) (corner_point Cube d k)

point_of_edge : (d label i : ℕ) → i < length (label_edges Cube d label)
    → slice_index_or (label_points Cube d label) i [] ≡ edge_point d (slice_index (label_edges Cube d label) i)
point_of_edge d label i h =
    get_or_append_left (map (edge_point d) (label_edges Cube d label)) (map (twice_corner d) (label_corners Cube d label)) [] i
    (omega (arith, h, length-map (label_edges Cube d label) (edge_point d)))
    ∙ get_or-map (edge_point d) (label_edges Cube d label) i 0 [] h

point_of_corner : (d label i : ℕ) → length (label_edges Cube d label) ≤ i → i < length (label_points Cube d label)
    → slice_index_or (label_points Cube d label) i [] ≡ twice_corner d (slice_index (label_corners Cube d label) (i - length (label_edges Cube d label)))
point_of_corner d label i h k =
    get_or-append_right (map (edge_point d) (label_edges Cube d label)) (map (twice_corner d) (label_corners Cube d label))
    (length (label_edges Cube d label)) i []
    (length-map (label_edges Cube d label) (edge_point d)) h
    ∙ get_or-map (twice_corner d) (label_corners Cube d label) (i - length (label_edges Cube d label)) 0 [] (omega (arith, h, k, points_length Cube d label))

edges_ascend : (d label : ℕ) → Ascends (label_edges Cube d label)
edges_ascend d label = filter_ascends (λ (a b : ℕ). a < b) (is_bipolar_in Cube d label) (numbers (edge_count Cube d)) (range_ascends 0 (edge_count Cube d))

corners_ascend : (d label : ℕ) → Ascends (label_corners Cube d label)
corners_ascend d label = filter_ascends (λ (a b : ℕ). a < b) (is_set label) (numbers (2 ^ d)) (range_ascends 0 (2 ^ d))

-- a point of the one labelling, and its number in the other
pub record IsCarried (d : ℕ) (by un : Move) (label other i : ℕ) : Type 0 where
  pub onto : carried_point d by label other i < length (label_points Cube d other)
  pub again : carried_point d un other label (carried_point d by label other i) ≡ i
  pub point : slice_index_or (label_points Cube d other) (carried_point d by label other i) [] ≡ placed d by (slice_index_or (label_points Cube d label) i [])

-- a midpoint
midpoint_carried : (d : ℕ) → IsDimension d → (by un : Move) → AreInverse d by un → (label other : ℕ) → Carries d by label other → (i : ℕ)
    → i < length (label_edges Cube d label)
    → IsCarried d by un label other i
midpoint_carried d is by un inv label other c i h =
    let j : ℕ = place fs f in
    let to : carried_point d by label other i ≡ j =
    ap (λ (b : Bool). if b then place fs (move_edge d by (slice_index es i)) else length fs + place ls (move_corner d by (slice_index ks (i - length es))))
    below in
    let back : carried_point d un other label j ≡ i =
    ap (λ (b : Bool). if b then place es (move_edge d un (slice_index fs j)) else length es + place ks (move_corner d un (slice_index ls (j - length fs))))
    (lt-ltb j (length fs) found.0)
    ∙ ap (λ (x : ℕ). place es (move_edge d un x)) found.1 ∙ ap (place es) (edge_there d is by un inv e in_e) ∙ own_place es (edges_ascend d label) i h in
    record {
      onto = omega (arith, to, found.0, points_length Cube d other);
      again = ap (carried_point d un other label) to ∙ back;
      point = ap (λ (k : ℕ). slice_index_or (label_points Cube d other) k []) to ∙ point_of_edge d other j found.0 ∙ ap (edge_point d) found.1
          ∙ sym (edge_placed d is by inv.is_move e in_e) ∙ ap (placed d by) (sym (point_of_edge d label i h));
    }
  where
    es : List ℕ
    es = label_edges Cube d label

    fs : List ℕ
    fs = label_edges Cube d other

    ks : List ℕ
    ks = label_corners Cube d label

    ls : List ℕ
    ls = label_corners Cube d other

    e : ℕ
    e = slice_index (label_edges Cube d label) i

    f : ℕ
    f = move_edge d by (slice_index (label_edges Cube d label) i)

    below : nat_lt i (length (label_edges Cube d label)) ≡ true
    below = lt-ltb i (length (label_edges Cube d label)) h

    there : Contains (label_edges Cube d label) (slice_index (label_edges Cube d label) i)
    there = Contains-at (label_edges Cube d label) i 0 h

    in_e : slice_index (label_edges Cube d label) i < edge_count Cube d
    in_e = below_contained (edge_count Cube d) (slice_index (label_edges Cube d label) i)
        (Contains-filter (is_bipolar_in Cube d label) (numbers (edge_count Cube d)) (slice_index (label_edges Cube d label) i) there)

    member : Contains (label_edges Cube d other) (move_edge d by (slice_index (label_edges Cube d label) i))
    member = kept_by (is_bipolar_in Cube d other) (numbers (edge_count Cube d)) (move_edge d by (slice_index (label_edges Cube d label) i))
        (contained_below (edge_count Cube d) (move_edge d by (slice_index (label_edges Cube d label) i))
        (edge_moved d is by inv.is_move (slice_index (label_edges Cube d label) i) in_e).below)
        (bipolar_moved d is by inv.is_move label other c (slice_index (label_edges Cube d label) i) in_e
        ∙ Contains-passes (is_bipolar_in Cube d label) (numbers (edge_count Cube d)) (slice_index (label_edges Cube d label) i) there)

    found : (place (label_edges Cube d other) (move_edge d by (slice_index (label_edges Cube d label) i)) < length (label_edges Cube d other))
        × (slice_index (label_edges Cube d other) (place (label_edges Cube d other) (move_edge d by (slice_index (label_edges Cube d label) i)))
        ≡ move_edge d by (slice_index (label_edges Cube d label) i))
    found = member_place (label_edges Cube d other) (move_edge d by (slice_index (label_edges Cube d label) i)) member

-- a corner
corner_carried : (d : ℕ) → IsDimension d → (by un : Move) → AreInverse d by un → (label other : ℕ) → Carries d by label other → (i : ℕ)
    → length (label_edges Cube d label) ≤ i
    → i < length (label_points Cube d label) → IsCarried d by un label other i
corner_carried d is by un inv label other c i h in_i =
    let p : ℕ = place ls (move_corner d by (slice_index ks n)) in
    let to : carried_point d by label other i ≡ length fs + p =
    ap (λ (b : Bool). if b then place fs (move_edge d by (slice_index es i)) else length fs + place ls (move_corner d by (slice_index ks (i - length es))))
    (le-ltb i (length es) h) in
    let past : nat_lt (length fs + p) (length fs) ≡ false = le-ltb (length fs + p) (length fs) (omega arith) in
    let less : length fs + p - length fs ≡ p = omega arith in
    let whole : length es + n ≡ i = omega arith in
    let back : carried_point d un other label (length fs + p) ≡ i =
    ap (λ (b : Bool). if b then place es (move_edge d un (slice_index fs (length fs + p))) else length es + place ks
    (move_corner d un (slice_index ls (length fs + p - length fs)))) past
    ∙ ap (λ (q : ℕ). length es + place ks (move_corner d un (slice_index ls q))) less ∙ ap (λ (x : ℕ). length es + place ks (move_corner d un x)) found.1
    ∙ ap (λ (x : ℕ). length es + place ks x) (inv.there (slice_index ks n) in_k) ∙ ap (λ (q : ℕ). length es + q) (own_place ks (corners_ascend d label) n in_n)
    ∙ whole in
    let there : length fs + p < length (label_points Cube d other) = omega (arith, found.0, points_length Cube d other) in
    record {
      onto = omega (arith, to, there);
      again = ap (carried_point d un other label) to ∙ back;
      point = ap (λ (k : ℕ). slice_index_or (label_points Cube d other) k []) to ∙ point_of_corner d other (length fs + p) (omega arith) there
          ∙ ap (λ (q : ℕ). twice_corner d (slice_index ls q)) less ∙ ap (twice_corner d) found.1
          ∙ sym (corner_placed d is by inv.is_move.0 (slice_index ks n)) ∙ ap (placed d by) (sym (point_of_corner d label i h in_i));
    }
  where
    es : List ℕ
    es = label_edges Cube d label

    fs : List ℕ
    fs = label_edges Cube d other

    ks : List ℕ
    ks = label_corners Cube d label

    ls : List ℕ
    ls = label_corners Cube d other

    n : ℕ
    n = i - length (label_edges Cube d label)

    in_n : i - length (label_edges Cube d label) < length (label_corners Cube d label)
    in_n = omega (arith, h, in_i, points_length Cube d label)

    there_k : Contains (label_corners Cube d label) (slice_index (label_corners Cube d label) (i - length (label_edges Cube d label)))
    there_k = Contains-at (label_corners Cube d label) (i - length (label_edges Cube d label)) 0 in_n

    in_k : slice_index (label_corners Cube d label) (i - length (label_edges Cube d label)) < 2 ^ d
    in_k = below_contained (2 ^ d) (slice_index (label_corners Cube d label) (i - length (label_edges Cube d label)))
        (Contains-filter (is_set label) (numbers (2 ^ d)) (slice_index (label_corners Cube d label) (i - length (label_edges Cube d label))) there_k)

    member : Contains (label_corners Cube d other) (move_corner d by (slice_index (label_corners Cube d label) (i - length (label_edges Cube d label))))
    member = kept_by (is_set other) (numbers (2 ^ d)) (move_corner d by (slice_index (label_corners Cube d label) (i - length (label_edges Cube d label))))
        (contained_below (2 ^ d) (move_corner d by (slice_index (label_corners Cube d label) (i - length (label_edges Cube d label))))
        (corner-below d by (slice_index (label_corners Cube d label) (i - length (label_edges Cube d label)))))
        (c.1 (slice_index (label_corners Cube d label) (i - length (label_edges Cube d label))) in_k
        ∙ Contains-passes (is_set label) (numbers (2 ^ d)) (slice_index (label_corners Cube d label) (i - length (label_edges Cube d label))) there_k)

    found : (place (label_corners Cube d other) (move_corner d by (slice_index (label_corners Cube d label) (i - length (label_edges Cube d label)))) < length
        (label_corners Cube d other))
        × (slice_index (label_corners Cube d other)
        (place (label_corners Cube d other) (move_corner d by (slice_index (label_corners Cube d label) (i - length (label_edges Cube d label)))))
        ≡ move_corner d by (slice_index (label_corners Cube d label) (i - length (label_edges Cube d label))))
    found = member_place (label_corners Cube d other) (move_corner d by (slice_index (label_corners Cube d label) (i - length (label_edges Cube d label))))
        member

pub point_carried : (d : ℕ) → IsDimension d → (by un : Move) → AreInverse d by un → (label other : ℕ) → Carries d by label other → (i : ℕ)
    → i < length (label_points Cube d label)
    → IsCarried d by un label other i
point_carried d is by un inv label other c i h = by_place (cases_lt i (length (label_edges Cube d label)))
  where
    by_place : (i < length (label_edges Cube d label)) ⊎ (length (label_edges Cube d label) ≤ i) → IsCarried d by un label other i
    by_place (inl l) = midpoint_carried d is by un inv label other c i l
    by_place (inr l) = corner_carried d is by un inv label other c i l h

-- the points of the carried labelling are the moved ones
pub points_match : (d : ℕ) → IsDimension d → (by un : Move) → AreInverse d by un → (label other : ℕ) → label < 2 ^ (2 ^ d) → Carries d by label other
    → PointsMatch d by (label_points Cube d other) (label_points Cube d label) (carried_point d by label other) (carried_point d un other label)
points_match d is by un inv label other below c = record {
  onto = λ j h. (point_carried d is by un inv label other c j h).onto;
  into = λ i h. (point_carried d is un by (inverse_too d by un inv) other label (carries_back d by un inv label other below c) i h).onto;
  there = λ i h. (point_carried d is un by (inverse_too d by un inv) other label (carries_back d by un inv label other below c) i h).again;
  again = λ j h. (point_carried d is by un inv label other c j h).again;
  points = λ j h. (point_carried d is by un inv label other c j h).point;
}
