-- Each move has an inverse: what it carries is carried back.
use Rattle.std.specs.Prelude.{◌≡◌, ◌⊎◌, ℕ, ◌+◌, ◌%◌, ◌^◌, ◌<◌, ◌≤◌, min, max, Bool, true, false, ◌==◌, ◌&&◌, nat_lt, List, length}
use Rattle.std.specs.Prelude.{slice_index, Contains}
use Rattle.std.specs.List.{list_all, position_or_len}
use Rattle.std.specs.Int.{bit_at}
use Rattle.std.proofs.Common.{refl, sym, ap, ◌∙◌, subst, arith, inl, inr}
use Rattle.std.proofs.lemmas.Bool.{eqb-true, ltb-true, and_parts, cases_lt}
use Rattle.std.proofs.lemmas.Nat.Bits.{bit_at-lt, same_from_bits_below, bit_at-zero}
use Rattle.std.proofs.lemmas.Slice.Eq.{bytes_eq-Decides}
use Rattle.iso_model.specs.declared.Kind.TheVariants.{Cube}
use Rattle.iso_model.specs.Cells.{HasDimension, edge_count, edge_ends, edge_between}
use Rattle.iso_model.specs.Bipolar.{differ, is_bipolar_in}
use Rattle.iso_model.specs.Moves.{Move, IsMove, Carries, move_corner, move_edge}
use Rattle.cell_lattice.specs.CellLemmas.{found_by_ends}
use Rattle.cube_moves.proofs.MovedBits.{order_alone, with_flips, corner-below, corner-bit}
use Rattle.cube_moves.proofs.OrderChecks.{back, each_below, each_order, axis-below}
use Rattle.cube_moves.proofs.LeastLabels.{order_there, same_bit}
use Rattle.cube_moves.proofs.ExchangeChecks.{order_of}
use Rattle.cube_moves.proofs.MovedEdges.{edge_step, moved_joined}
use Rattle.lists.specs.Orders.{numbers, orders, same_list}
use Rattle.lists.specs.Bits.{is_set}
use Rattle.iso_model.specs.Dimensions.{IsDimension}
use Rattle.iso_model.proofs.CellCounts.{axes_between}

-- ---- orders backwards

-- each axis stands at its place, and each place has its axis
abbrev turns_back : ℕ → List ℕ → Bool
turns_back d axes =
    list_all (λ a. nat_lt (slice_index (back d axes) a) d && (slice_index axes (slice_index (back d axes) a) == a)) (numbers d)
    && list_all (λ i. slice_index (back d axes) (slice_index axes i) == i) (numbers d)

all_turn_back : (d : ℕ) → IsDimension d → (axes : List ℕ) → Contains (orders d) axes → turns_back d axes ≡ true
all_turn_back = each_order turns_back refl refl refl

pub record TurnsBack (d : ℕ) (axes : List ℕ) : Type 0 where
  pub below : (a : ℕ) → a < d → slice_index (back d axes) a < d
  pub axis : (a : ℕ) → a < d → slice_index axes (slice_index (back d axes) a) ≡ a
  pub place : (i : ℕ) → i < d → slice_index (back d axes) (slice_index axes i) ≡ i

pub order_turns_back : (d : ℕ) → IsDimension d → (axes : List ℕ) → Contains (orders d) axes → TurnsBack d axes
order_turns_back d is axes o =
    let p = and_parts (list_all (λ a. nat_lt (slice_index (back d axes) a) d && (slice_index axes (slice_index (back d axes) a) == a)) (numbers d))
    (list_all (λ i. slice_index (back d axes) (slice_index axes i) == i) (numbers d)) (all_turn_back d is axes o) in
    let q = λ (a : ℕ) (h : a < d). and_parts (nat_lt (slice_index (back d axes) a) d) (slice_index axes (slice_index (back d axes) a) == a)
    (each_below (λ a. nat_lt (slice_index (back d axes) a) d && (slice_index axes (slice_index (back d axes) a) == a)) d p.0 a h) in
    record {
      below = λ a h. ltb-true _ _ (q a h).0;
      axis = λ a h. eqb-true _ _ (q a h).1;
      place = λ i h. eqb-true _ _ (each_below (λ i. slice_index (back d axes) (slice_index axes i) == i) d p.1 i h);
    }

-- the order backwards is an order
abbrev number_back : ℕ → List ℕ → ℕ
number_back d axes = position_or_len (same_list (back d axes)) (orders d)

abbrev has_back : ℕ → List ℕ → Bool
has_back d axes = nat_lt (number_back d axes) (length (orders d)) && same_list (back d axes) (order_of d (number_back d axes))

all_have_back : (d : ℕ) → IsDimension d → (axes : List ℕ) → Contains (orders d) axes → has_back d axes ≡ true
all_have_back = each_order has_back refl refl refl

pub back_there : (d : ℕ) → IsDimension d → (axes : List ℕ) → Contains (orders d) axes → Contains (orders d) (back d axes)
back_there d is axes o =
    let p = and_parts (nat_lt (number_back d axes) (length (orders d))) (same_list (back d axes) (order_of d (number_back d axes)))
    (all_have_back d is axes o) in
    let e = (bytes_eq-Decides (back d axes) (order_of d (number_back d axes))).0 p.1 in
    subst (Contains (orders d)) (sym e) (order_there d (number_back d axes) (ltb-true _ _ p.0))

-- ---- moves backwards

-- the one move takes back what the other does
pub record AreInverse (d : ℕ) (by un : Move) : Type 0 where
  pub is_move : IsMove d by
  pub is_back : IsMove d un
  pub there : (k : ℕ) → k < 2 ^ d → move_corner d un (move_corner d by k) ≡ k
  pub again : (k : ℕ) → k < 2 ^ d → move_corner d by (move_corner d un k) ≡ k

pub inverse_too : (d : ℕ) (by un : Move) → AreInverse d by un → AreInverse d un by
inverse_too d by un i = record { is_move = i.is_back; is_back = i.is_move; there = i.again; again = i.there }

-- the inverse of a move
pub undone : ℕ → Move → Move
undone d by = with_flips (back d by.axes) (move_corner d (order_alone (back d by.axes)) by.flips)

-- the digits cancel
cancel : (a f z : ℕ) → a < 2 → z ≡ 0 → ((a + f) % 2 + (f + z) % 2) % 2 ≡ a
cancel a f z s e = omega arith

cancel_too : (a f z : ℕ) → a < 2 → z ≡ 0 → ((a + (f + z) % 2) % 2 + f) % 2 ≡ a
cancel_too a f z s e = omega arith

pub undone_is : (d : ℕ) → IsDimension d → (by : Move) → IsMove d by → AreInverse d by (undone d by)
unfolding undone
undone_is d is by move = record {
  is_move = move;
  is_back = (back_there d is by.axes move.0, corner-below d (order_alone (back d by.axes)) by.flips);
  there = λ k h. same_from_bits_below d _ _ (corner-below d un (move_corner d by k)) h (λ a in_a. there_bit k a in_a);
  again = λ k h. same_from_bits_below d _ _ (corner-below d by (move_corner d un k)) h (λ i in_i. again_bit k i in_i);
}
  where
    un : Move
    un = with_flips (back d by.axes) (move_corner d (order_alone (back d by.axes)) by.flips)

    turns : TurnsBack d by.axes
    turns = order_turns_back d is by.axes move.0

    there_bit : (k a : ℕ) → a < d → bit_at (move_corner d un (move_corner d by k)) a ≡ bit_at k a
    there_bit k a h =
        let p : ℕ = slice_index (back d by.axes) a in
        let in_p : p < d = turns.below a h in
        let first = corner-bit d un (move_corner d by k) a h in
        let inner = corner-bit d by k p in_p in
        let flip = corner-bit d (order_alone (back d by.axes)) by.flips a h in
        first ∙ ap (λ (b : ℕ). (b + bit_at un.flips a) % 2) inner ∙ ap (λ (b : ℕ). ((bit_at k (slice_index by.axes p) + bit_at by.flips p) % 2 + b) % 2) flip
        ∙ ap (λ (n : ℕ). ((bit_at k n + bit_at by.flips p) % 2 + (bit_at by.flips p + bit_at 0 a) % 2) % 2) (turns.axis a h)
        ∙ cancel (bit_at k a) (bit_at by.flips p) (bit_at 0 a) (bit_at-lt k a) (bit_at-zero a)

    again_bit : (k i : ℕ) → i < d → bit_at (move_corner d by (move_corner d un k)) i ≡ bit_at k i
    again_bit k i h =
        let a : ℕ = slice_index by.axes i in
        let in_a : a < d = axis_in i h in
        let first = corner-bit d by (move_corner d un k) i h in
        let inner = corner-bit d un k a in_a in
        let flip = corner-bit d (order_alone (back d by.axes)) by.flips a in_a in
        first ∙ ap (λ (b : ℕ). (b + bit_at by.flips i) % 2) inner
        ∙ ap (λ (b : ℕ). ((bit_at k (slice_index (back d by.axes) a) + b) % 2 + bit_at by.flips i) % 2) flip
        ∙ ap (λ (n : ℕ). ((bit_at k n + (bit_at by.flips n + bit_at 0 a) % 2) % 2 + bit_at by.flips i) % 2) (turns.place i h)
        ∙ cancel_too (bit_at k i) (bit_at by.flips i) (bit_at 0 a) (bit_at-lt k i) (bit_at-zero a)
      where
        axis_in : (i : ℕ) → i < d → slice_index by.axes i < d
        axis_in i h = axis-below d is by.axes move.0 i h

-- a label that is carried is carried back
pub carries_back : (d : ℕ) (by un : Move) → AreInverse d by un → (label other : ℕ) → label < 2 ^ (2 ^ d) → Carries d by label other → Carries d un other label
carries_back d by un i label other below c =
    (below, λ k h. sym (c.1 (move_corner d un k) (corner-below d un k)) ∙ ap (is_set other) (i.again k h))

-- ---- moved edges

-- a moved edge has the moved ends, the smaller first
pub record EdgeMoved (d : ℕ) (by : Move) (e : ℕ) : Type 0 where
  pub below : move_edge d by e < edge_count Cube d
  pub low : (edge_ends Cube d (move_edge d by e)).0 ≡ min (move_corner d by (edge_ends Cube d e).0) (move_corner d by (edge_ends Cube d e).1)
  pub high : (edge_ends Cube d (move_edge d by e)).1 ≡ max (move_corner d by (edge_ends Cube d e).0) (move_corner d by (edge_ends Cube d e).1)

pub edge_moved : (d : ℕ) → IsDimension d → (by : Move) → IsMove d by → (e : ℕ) → e < edge_count Cube d → EdgeMoved d by e
edge_moved d is by move e h =
    let has : HasDimension Cube d = axes_between d is in
    let j = moved_joined d is by move e h in
    let found : j.0 ≡ move_edge d by e =
    sym (found_by_ends Cube d is has j.0 j.1) ∙ ap (λ (p : ℕ × ℕ). edge_between Cube d p.0 p.1) j.2 in
    record {
      below = subst (λ (k : ℕ). k < edge_count Cube d) found j.1;
      low = ap (λ (k : ℕ). (edge_ends Cube d k).0) (sym found) ∙ ap (λ (p : ℕ × ℕ). p.0) j.2;
      high = ap (λ (k : ℕ). (edge_ends Cube d k).1) (sym found) ∙ ap (λ (p : ℕ × ℕ). p.1) j.2;
    }

-- the ends of a moved edge are the moved ends, in one order or the other
pub edge_moved_ends : (d : ℕ) → IsDimension d → (by : Move) → IsMove d by → (e : ℕ) → e < edge_count Cube d
    → (P : ℕ → ℕ → Type 0) → ((x y : ℕ) → P x y → P y x) → P (move_corner d by (edge_ends Cube d e).0) (move_corner d by (edge_ends Cube d e).1)
    → P (edge_ends Cube d (move_edge d by e)).0 (edge_ends Cube d (move_edge d by e)).1
edge_moved_ends d is by move e h P turn p =
    let m = edge_moved d is by move e h in
    let x : ℕ = move_corner d by (edge_ends Cube d e).0 in
    let y : ℕ = move_corner d by (edge_ends Cube d e).1 in
    subst (λ (k : ℕ). P k (edge_ends Cube d (move_edge d by e)).1) (sym m.low) (subst (P (min x y)) (sym m.high) (by_place x y (cases_lt x y) p))
  where
    by_place : (x y : ℕ) → (x < y) ⊎ (y ≤ x) → P x y → P (min x y) (max x y)
    by_place x y (inl l) p =
        let m : x ≡ min x y = omega arith in
        let n : y ≡ max x y = omega arith in
        subst (λ (k : ℕ). P k (max x y)) m (subst (P x) n p)
    by_place x y (inr l) p =
        let m : y ≡ min x y = omega arith in
        let n : x ≡ max x y = omega arith in
        subst (λ (k : ℕ). P k (max x y)) m (subst (P y) n (turn x y p))

pub edge_there : (d : ℕ) → IsDimension d → (by un : Move) → AreInverse d by un → (e : ℕ) → e < edge_count Cube d → move_edge d un (move_edge d by e) ≡ e
edge_there d is by un i e h =
    let has : HasDimension Cube d = axes_between d is in
    let s = edge_step d is e h in
    let a : ℕ = (edge_ends Cube d e).0 in
    let b : ℕ = (edge_ends Cube d e).1 in
    let lows : min a b ≡ a = let o = s.ordered in omega arith in
    let highs : max a b ≡ b = let o = s.ordered in omega arith in
    let both = edge_moved_ends d is by i.is_move e h
    (λ x y. edge_between Cube d (min (move_corner d un x) (move_corner d un y)) (max (move_corner d un x) (move_corner d un y)) ≡ edge_between Cube d a b)
    (λ x y q. ap (λ (k : ℕ). edge_between Cube d k (max (move_corner d un y) (move_corner d un x))) (min_turned (move_corner d un y) (move_corner d un x))
    ∙ ap (edge_between Cube d (min (move_corner d un x) (move_corner d un y))) (max_turned (move_corner d un y) (move_corner d un x)) ∙ q)
    (let u : move_corner d un (move_corner d by a) ≡ a = i.there a (let o = s.ordered in let c = s.corners in omega arith) in
    let v : move_corner d un (move_corner d by b) ≡ b = i.there b s.corners in
    ap (λ (k : ℕ). edge_between Cube d (min k (move_corner d un (move_corner d by b))) (max k (move_corner d un (move_corner d by b)))) u
    ∙ ap (λ (k : ℕ). edge_between Cube d (min a k) (max a k)) v ∙ ap (λ (k : ℕ). edge_between Cube d k (max a b)) lows ∙ ap (edge_between Cube d a) highs) in
    both ∙ found_by_ends Cube d is has e h
  where
    min_turned : (x y : ℕ) → min x y ≡ min y x
    min_turned x y = omega arith

    max_turned : (x y : ℕ) → max x y ≡ max y x
    max_turned x y = omega arith

-- a moved edge is bipolar in the carried label where the edge is in the label
pub bipolar_moved : (d : ℕ) → IsDimension d → (by : Move) → IsMove d by → (label other : ℕ) → Carries d by label other → (e : ℕ) → e < edge_count Cube d
    → is_bipolar_in Cube d other (move_edge d by e) ≡ is_bipolar_in Cube d label e
bipolar_moved d is by move label other c e h =
    edge_moved_ends d is by move e h (λ x y. differ (is_set other x) (is_set other y) ≡ is_bipolar_in Cube d label e)
    (λ x y q. differ_turned (is_set other y) (is_set other x) ∙ q)
    (let s = edge_step d is e h in
    ap (λ (b : Bool). differ b (is_set other (move_corner d by (edge_ends Cube d e).1)))
    (c.1 (edge_ends Cube d e).0 (let o = s.ordered in let k = s.corners in omega arith))
    ∙ ap (differ (is_set label (edge_ends Cube d e).0)) (c.1 (edge_ends Cube d e).1 s.corners))
  where
    differ_turned : (a b : Bool) → differ a b ≡ differ b a
    differ_turned true true = refl
    differ_turned true false = refl
    differ_turned false true = refl
    differ_turned false false = refl

-- a move carries a label to one label alone
pub carried_once : (d : ℕ) (by un : Move) → AreInverse d by un → (label m n : ℕ) → Carries d by label m → Carries d by label n → m ≡ n
carried_once d by un i label m n c e =
    same_from_bits_below (2 ^ d) m n c.0 e.0
    (λ k h. same_bit m n k
    (let j = corner-below d un k in
    ap (is_set m) (sym (i.again k h)) ∙ c.1 (move_corner d un k) j ∙ sym (e.1 (move_corner d un k) j) ∙ ap (is_set n) (i.again k h)))
