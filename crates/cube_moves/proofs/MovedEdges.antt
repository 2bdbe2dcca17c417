-- Moves of the edges of a cube: the moved ends are the ends of one edge.
use Rattle.std.specs.Prelude.{◌≡◌, ◌⊎◌, ℕ, ◌+◌, ◌^◌, ◌<◌, ◌≤◌, min, max, Bool, true, false, ◌==◌, ◌&&◌, nat_lt, nat_eq, List, Contains}
use Rattle.std.specs.List.{list_all, position_or_len}
use Rattle.std.specs.Int.{bit_at}
use Rattle.std.proofs.Common.{refl, sym, ap, ◌∙◌, subst, arith, inl, inr}
use Rattle.std.proofs.lemmas.Bool.{eqb-true, eq-eqb, ltb-true, and_parts, cases_lt}
use Rattle.iso_model.specs.declared.Kind.TheVariants.{Cube}
use Rattle.iso_model.specs.Cells.{edge_count, edge_ends, edge_between}
use Rattle.iso_model.specs.Moves.{Move, IsMove, move_corner}
use Rattle.cube_moves.specs.Joined.{IsJoined}
use Rattle.cube_moves.proofs.MovedBits.{order_alone, flips_alone, with_flips, corner-below, order_then_flips}
use Rattle.cube_moves.proofs.OrderChecks.{each_below, each_order}
use Rattle.lists.specs.Orders.{numbers, orders}
use Rattle.iso_model.specs.Dimensions.{IsDimension, in_each_dimension}

-- two corners that differ in one axis
pub record IsStep (d i x y : ℕ) : Type 0 where
  pub axis : i < d
  pub low : bit_at (min x y) i ≡ 0
  pub high : max x y ≡ min x y + 2 ^ i

abbrev is_step : ℕ → ℕ → ℕ → ℕ → Bool
is_step d i x y = nat_lt i d && ((bit_at (min x y) i == 0) && (max x y == min x y + 2 ^ i))

step_of : (d i x y : ℕ) → is_step d i x y ≡ true → IsStep d i x y
step_of d i x y e =
    let p = and_parts (nat_lt i d) ((bit_at (min x y) i == 0) && (max x y == min x y + 2 ^ i)) e in
    let q = and_parts (bit_at (min x y) i == 0) (max x y == min x y + 2 ^ i) p.1 in
    record { axis = ltb-true i d p.0; low = eqb-true (bit_at (min x y) i) 0 q.0; high = eqb-true (max x y) (min x y + 2 ^ i) q.1 }

-- a test that is asked only where another is passed
asked : Bool → (ℕ → Bool) → Bool
asked true p = p 0
asked false p = true

-- a test that all pairs of corners that differ in one axis pass
abbrev pairs_pass : ℕ → (ℕ → ℕ → Bool) → Bool
pairs_pass d p = list_all (λ x. list_all (λ i. asked (bit_at x i == 0) (λ _. p x i)) (numbers d)) (numbers (2 ^ d))

pair_passes : (d : ℕ) (p : ℕ → ℕ → Bool) → pairs_pass d p ≡ true → (x i : ℕ) → x < 2 ^ d → i < d → bit_at x i ≡ 0 → p x i ≡ true
unfolding asked
pair_passes d p all x i in_x in_i low =
    by_test (bit_at x i == 0) (eq-eqb (bit_at x i) 0 low)
    (each_below (λ i. asked (bit_at x i == 0) (λ _. p x i)) d
    (each_below (λ x. list_all (λ i. asked (bit_at x i == 0) (λ _. p x i)) (numbers d)) (2 ^ d) all x in_x) i in_i)
  where
    by_test : (t : Bool) → t ≡ true → asked t (λ _. p x i) ≡ true → p x i ≡ true
    by_test true e h = h
    by_test false e h = absurd (cc)

-- ---- a map of the corners that keeps such pairs

step_through : (d : ℕ) (go axis : ℕ → ℕ) → pairs_pass d (λ x i. is_step d (axis i) (go x) (go (x + 2 ^ i))) ≡ true → (i x y : ℕ) → x < 2 ^ d → y < 2 ^ d
    → IsStep d i x y → IsStep d (axis i) (go x) (go y)
step_through d go axis all i x y in_x in_y s = by_place (cases_lt x y)
  where
    turned : (j a b : ℕ) → IsStep d j a b → IsStep d j b a
    turned j a b t =
        let m : min b a ≡ min a b = omega arith in
        let n : max b a ≡ max a b = omega arith in
        record { axis = t.axis; low = ap (λ (k : ℕ). bit_at k j) m ∙ t.low; high = n ∙ t.high ∙ ap (λ (k : ℕ). k + 2 ^ j) (sym m) }

    upwards : (a b : ℕ) → a < 2 ^ d → bit_at a i ≡ 0 → b ≡ a + 2 ^ i → IsStep d (axis i) (go a) (go b)
    upwards a b in_a low e =
        subst (λ (k : ℕ). IsStep d (axis i) (go a) (go k)) (sym e)
        (step_of d (axis i) (go a) (go (a + 2 ^ i)) (pair_passes d (λ x i. is_step d (axis i) (go x) (go (x + 2 ^ i))) all a i in_a s.axis low))

    by_place : (x < y) ⊎ (y ≤ x) → IsStep d (axis i) (go x) (go y)
    by_place (inl h) =
        let m : min x y ≡ x = omega arith in
        let n : max x y ≡ y = omega arith in
        upwards x y in_x (ap (λ (k : ℕ). bit_at k i) (sym m) ∙ s.low) (sym n ∙ s.high ∙ ap (λ (k : ℕ). k + 2 ^ i) m)
    by_place (inr h) =
        let m : min x y ≡ y = omega arith in
        let n : max x y ≡ x = omega arith in
        turned (axis i) (go y) (go x) (upwards y x in_y (ap (λ (k : ℕ). bit_at k i) (sym m) ∙ s.low) (sym n ∙ s.high ∙ ap (λ (k : ℕ). k + 2 ^ i) m))

-- the place of an axis in an order
abbrev pub place_of : List ℕ → ℕ → ℕ
place_of axes a = position_or_len (nat_eq a) axes

order_steps : ℕ → List ℕ → Bool
order_steps d axes = pairs_pass d (λ x i. is_step d (place_of axes i) (move_corner d (order_alone axes) x) (move_corner d (order_alone axes) (x + 2 ^ i)))

all_orders_step : (d : ℕ) → IsDimension d → (axes : List ℕ) → Contains (orders d) axes → order_steps d axes ≡ true
unfolding order_steps asked
all_orders_step = each_order order_steps refl refl refl

flips_step : ℕ → ℕ → Bool
flips_step d f = pairs_pass d (λ x i. is_step d i (move_corner d (flips_alone d f) x) (move_corner d (flips_alone d f) (x + 2 ^ i)))

all_flips_step : (d : ℕ) → IsDimension d → (f : ℕ) → f < 2 ^ d → flips_step d f ≡ true
unfolding flips_step asked
all_flips_step =
    in_each_dimension (λ d. (f : ℕ) → f < 2 ^ d → flips_step d f ≡ true) (each_below (flips_step 2) 4 refl) (each_below (flips_step 3) 8 refl)
    (each_below (flips_step 4) 16 refl)

moved_step : (d : ℕ) → IsDimension d → (axes : List ℕ) (f : ℕ) → Contains (orders d) axes → f < 2 ^ d → (i x y : ℕ) → x < 2 ^ d → y < 2 ^ d → IsStep d i x y
    → IsStep d (place_of axes i) (move_corner d (with_flips axes f) x) (move_corner d (with_flips axes f) y)
unfolding order_steps flips_step
moved_step d is axes f o in_f i x y in_x in_y s =
    let a = step_through d (move_corner d (order_alone axes)) (place_of axes) (all_orders_step d is axes o) i x y in_x in_y s in
    let b = step_through d (move_corner d (flips_alone d f)) (λ j. j) (all_flips_step d is f in_f) (place_of axes i) (move_corner d (order_alone axes) x)
    (move_corner d (order_alone axes) y)
    (corner-below d (order_alone axes) x) (corner-below d (order_alone axes) y) a in
    subst (λ (k : ℕ). IsStep d (place_of axes i) k (move_corner d (with_flips axes f) y)) (order_then_flips d axes f x)
    (subst (λ (k : ℕ). IsStep d (place_of axes i) (move_corner d (flips_alone d f) (move_corner d (order_alone axes) x)) k) (order_then_flips d axes f y) b)

-- ---- edges and such pairs

-- the axis along which an edge runs
abbrev axis_of : ℕ → ℕ → ℕ
axis_of d e = position_or_len (λ i. (edge_ends Cube d e).1 == (edge_ends Cube d e).0 + 2 ^ i) (numbers d)

abbrev is_edge_step : ℕ → ℕ → Bool
is_edge_step d e = is_step d (axis_of d e) (edge_ends Cube d e).0 (edge_ends Cube d e).1
    && (nat_lt (edge_ends Cube d e).0 (edge_ends Cube d e).1 && nat_lt (edge_ends Cube d e).1 (2 ^ d))

edges_step : (d : ℕ) → IsDimension d → (e : ℕ) → e < edge_count Cube d → is_edge_step d e ≡ true
edges_step =
    in_each_dimension (λ d. (e : ℕ) → e < edge_count Cube d → is_edge_step d e ≡ true) (each_below (is_edge_step 2) 4 refl)
    (each_below (is_edge_step 3) 12 refl) (each_below (is_edge_step 4) 32 refl)

pub record EdgeStep (d e : ℕ) : Type 0 where
  pub step : IsStep d (axis_of d e) (edge_ends Cube d e).0 (edge_ends Cube d e).1
  pub ordered : (edge_ends Cube d e).0 < (edge_ends Cube d e).1
  pub corners : (edge_ends Cube d e).1 < 2 ^ d

pub edge_step : (d : ℕ) → IsDimension d → (e : ℕ) → e < edge_count Cube d → EdgeStep d e
edge_step d is e h =
    let p = and_parts (is_step d (axis_of d e) (edge_ends Cube d e).0 (edge_ends Cube d e).1)
    (nat_lt (edge_ends Cube d e).0 (edge_ends Cube d e).1 && nat_lt (edge_ends Cube d e).1 (2 ^ d)) (edges_step d is e h) in
    let q = and_parts (nat_lt (edge_ends Cube d e).0 (edge_ends Cube d e).1) (nat_lt (edge_ends Cube d e).1 (2 ^ d)) p.1 in
    record {
      step = step_of d (axis_of d e) (edge_ends Cube d e).0 (edge_ends Cube d e).1 p.0;
      ordered = ltb-true (edge_ends Cube d e).0 (edge_ends Cube d e).1 q.0;
      corners = ltb-true (edge_ends Cube d e).1 (2 ^ d) q.1;
    }

-- an edge joins each such pair
abbrev joins : ℕ → ℕ → ℕ → Bool
joins d x i =
    nat_lt (edge_between Cube d x (x + 2 ^ i)) (edge_count Cube d)
    && (((edge_ends Cube d (edge_between Cube d x (x + 2 ^ i))).0 == x) && ((edge_ends Cube d (edge_between Cube d x (x + 2 ^ i))).1 == x + 2 ^ i))

pairs_joined : ℕ → Bool
pairs_joined d = pairs_pass d (joins d)

all_joined : (d : ℕ) → IsDimension d → pairs_joined d ≡ true
unfolding pairs_joined asked
all_joined = in_each_dimension (λ d. pairs_joined d ≡ true) refl refl refl

pub joined_by_edge : (d : ℕ) → IsDimension d → (i x y : ℕ) → x < 2 ^ d → y < 2 ^ d → IsStep d i x y → IsJoined d (min x y) (max x y)
unfolding pairs_joined
joined_by_edge d is i x y in_x in_y s =
    let lo : ℕ = min x y in
    let p = and_parts (nat_lt (edge_between Cube d lo (lo + 2 ^ i)) (edge_count Cube d)) _
    (pair_passes d (joins d) (all_joined d is) lo i (omega arith) s.axis s.low) in
    let q = and_parts ((edge_ends Cube d (edge_between Cube d lo (lo + 2 ^ i))).0 == lo) _ p.1 in
    (edge_between Cube d lo (lo + 2 ^ i), ltb-true _ _ p.0, pair_same _ _ _ _ (eqb-true _ _ q.0) (eqb-true _ _ q.1 ∙ sym s.high))
  where
    pair_same : (a b u v : ℕ) → a ≡ u → b ≡ v → ◌≡◌ {A = ℕ × ℕ} (a, b) (u, v)
    pair_same a b u v e f = ap (λ (k : ℕ). (k, b)) e ∙ ap (λ (k : ℕ). (u, k)) f

-- the moved ends of an edge are joined
pub moved_joined : (d : ℕ) → IsDimension d → (by : Move) → IsMove d by → (e : ℕ) → e < edge_count Cube d
    → IsJoined d (min (move_corner d by (edge_ends Cube d e).0) (move_corner d by (edge_ends Cube d e).1))
    (max (move_corner d by (edge_ends Cube d e).0) (move_corner d by (edge_ends Cube d e).1))
moved_joined d is by move e h =
    let s = edge_step d is e h in
    joined_by_edge d is (place_of by.axes (axis_of d e)) (move_corner d by (edge_ends Cube d e).0) (move_corner d by (edge_ends Cube d e).1)
    (corner-below d by (edge_ends Cube d e).0) (corner-below d by (edge_ends Cube d e).1)
    (moved_step d is by.axes by.flips move.0 move.1 (axis_of d e) (edge_ends Cube d e).0 (edge_ends Cube d e).1
    (let a = s.ordered in let b = s.corners in omega arith) s.corners s.step)
