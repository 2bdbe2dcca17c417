-- Labels that moves carry: one for each move, and the least of them.
use Rattle.std.specs.Prelude.{◌≡◌, ◌⊎◌, ℕ, ◌+◌, ◌^◌, ◌<◌, ◌≤◌, Bool, true, false, ◌==◌, ◌||◌, not, nat_lt, List, [], length, Contains, IsTrue}
use Rattle.std.specs.List.{list_all}
use Rattle.std.specs.Int.{bit_at}
use Rattle.std.proofs.Common.{refl, sym, ap, ◌∙◌, subst, arith, inl, inr}
use Rattle.std.proofs.lemmas.Bool.{eqb-true, ltb-true, cases_order}
use Rattle.std.proofs.lemmas.Bool.Decides.{nat_tests}
use Rattle.std.proofs.lemmas.Nat.Bits.{bit_at-lt, same_from_bits_below}
use Rattle.iso_model.specs.Moves.{Move, IsMove, Carries, IsEarlier, IsLeastLabel, move_corner}
use Rattle.cube_moves.specs.LeastFlips.{IsLeastFlip}
use Rattle.cube_moves.proofs.MovedBits.{order_alone, flips_alone, with_flips, corner-below, order_then_flips, flips_undone}
use Rattle.cube_moves.proofs.OrderChecks.{back, goes-back, each_below}
use Rattle.cube_moves.proofs.ExchangeChecks.{order_of}
use Rattle.lists.specs.Orders.{numbers, orders, comes_before}
use Rattle.lists.specs.Bits.{is_set}
use Rattle.lists.proofs.Contained.{any_default, Contains-at}
use Rattle.iso_model.specs.Dimensions.{IsDimension, in_each_dimension}

-- ---- a label is known by the signs of the moved corners

pub same_bit : (a b c : ℕ) → is_set a c ≡ is_set b c → bit_at a c ≡ bit_at b c
same_bit a b c e = by_digit (bit_at a c) (bit_at b c) (bit_at-lt a c) (bit_at-lt b c) e
  where
    by_digit : (x y : ℕ) → x < 2 → y < 2 → (x == 1) ≡ (y == 1) → x ≡ y
    by_digit x y h k e = grind (arith, nat_tests)

-- flips carry a label to one label alone
pub flips_carry_once : (d f label m n : ℕ) → Carries d (flips_alone d f) label m → Carries d (flips_alone d f) label n → m ≡ n
flips_carry_once d f label m n c e =
    same_from_bits_below (2 ^ d) m n c.0 e.0
    (λ k h. same_bit m n k
    (let u = flips_undone d f k h in
    let i = corner-below d (flips_alone d f) k in
    ap (is_set m) (sym u) ∙ c.1 (move_corner d (flips_alone d f) k) i ∙ sym (e.1 (move_corner d (flips_alone d f) k) i) ∙ ap (is_set n) u))

-- an order first and flips then is a move of both
pub carries_both : (d : ℕ) (axes : List ℕ) (f label w m : ℕ) → Carries d (order_alone axes) label w → Carries d (flips_alone d f) w m
    → Carries d (with_flips axes f) label m
carries_both d axes f label w m c e =
    (e.0, λ k h. ap (is_set m) (sym (order_then_flips d axes f k)) ∙ e.1 (move_corner d (order_alone axes) k) (corner-below d (order_alone axes) k) ∙ c.1 k h)

-- and the other way round
pub carries_rest : (d : ℕ) → IsDimension d → (axes : List ℕ) → Contains (orders d) axes → (f label w m : ℕ) → Carries d (order_alone axes) label w
    → Carries d (with_flips axes f) label m
    → Carries d (flips_alone d f) w m
carries_rest d is axes o f label w m c e = (
  e.0,
  λ k h.
      let j = move_corner d (order_alone (back d axes)) k in
      let i = corner-below d (order_alone (back d axes)) k in
      let u = goes-back d is axes o k h in
      ap (λ (n : ℕ). is_set m (move_corner d (flips_alone d f) n)) (sym u) ∙ ap (is_set m) (order_then_flips d axes f j) ∙ e.1 j i ∙ sym (c.1 j i)
      ∙ ap (is_set w) u,
)

-- ---- orders by their numbers

pub order_there : (d n : ℕ) → n < length (orders d) → Contains (orders d) (order_of d n)
order_there d n h = Contains-at (orders d) n [] h

-- the number of an order
pub order_number : (d : ℕ) (axes : List ℕ) → Contains (orders d) axes → (n : ℕ) × (n < length (orders d)) × (order_of d n ≡ axes)
order_number d axes c = (c.0, c.1, any_default (orders d) c.0 [] axes c.1 ∙ c.2)

-- an order that comes before another, or is the same, has no greater number
ascend : ℕ → Bool
ascend d = list_all (λ i. list_all (λ j. nat_lt i j || not (comes_before (order_of d i) (order_of d j))) (numbers (length (orders d))))
    (numbers (length (orders d)))

all_ascend : (d : ℕ) → IsDimension d → ascend d ≡ true
unfolding ascend
all_ascend = in_each_dimension (λ d. ascend d ≡ true) refl refl refl

pub earlier_number : (d : ℕ) → IsDimension d → (i j : ℕ) → i < length (orders d) → j < length (orders d) → comes_before (order_of d i) (order_of d j) ≡ true
    → i < j
unfolding ascend
earlier_number d is i j in_i in_j e =
    let p : (nat_lt i j || not (comes_before (order_of d i) (order_of d j))) ≡ true =
    each_below (λ j. nat_lt i j || not (comes_before (order_of d i) (order_of d j))) (length (orders d))
    (each_below (λ i. list_all (λ j. nat_lt i j || not (comes_before (order_of d i) (order_of d j))) (numbers (length (orders d)))) (length (orders d))
    (all_ascend d is) i in_i) j in_j in
    by_test (nat_lt i j) (comes_before (order_of d i) (order_of d j)) refl e p
  where
    by_test : (a b : Bool) → nat_lt i j ≡ a → b ≡ true → (a || not b) ≡ true → i < j
    by_test true b s t u = ltb-true i j s
    by_test false true s t u = absurd (cc)
    by_test false false s t u = absurd (cc)

differ : ℕ → Bool
differ d = list_all
    (λ i. list_all (λ j. (i == j) || (comes_before (order_of d i) (order_of d j) || comes_before (order_of d j) (order_of d i))) (numbers (length (orders d))))
    (numbers (length (orders d)))

all_differ : (d : ℕ) → IsDimension d → differ d ≡ true
unfolding differ
all_differ = in_each_dimension (λ d. differ d ≡ true) refl refl refl

pub own_number : (d : ℕ) → IsDimension d → (i j : ℕ) → i < length (orders d) → j < length (orders d) → order_of d i ≡ order_of d j → i ≡ j
unfolding differ
own_number d is i j in_i in_j e =
    let p : ((i == j) || (comes_before (order_of d i) (order_of d j) || comes_before (order_of d j) (order_of d i))) ≡ true =
    each_below (λ j. (i == j) || (comes_before (order_of d i) (order_of d j) || comes_before (order_of d j) (order_of d i))) (length (orders d))
    (each_below
    (λ i. list_all (λ j. (i == j) || (comes_before (order_of d i) (order_of d j) || comes_before (order_of d j) (order_of d i)))
    (numbers (length (orders d)))) (length (orders d)) (all_differ d is) i in_i) j in_j in
    by_test (i == j) (comes_before (order_of d i) (order_of d j)) (comes_before (order_of d j) (order_of d i)) refl refl refl p
  where
    by_test : (a b c : Bool) → (i == j) ≡ a → comes_before (order_of d i) (order_of d j) ≡ b → comes_before (order_of d j) (order_of d i) ≡ c
        → (a || (b || c)) ≡ true → i ≡ j
    by_test true b c s t u v = eqb-true i j s
    by_test false true c s t u v =
        let l = earlier_number d is i j in_i in_j t in
        let same : comes_before (order_of d j) (order_of d i) ≡ true = ap (λ (xs : List ℕ). comes_before xs (order_of d i)) (sym e)
        ∙ ap (comes_before (order_of d i)) e ∙ t in
        let m = earlier_number d is j i in_j in_i same in
        absurd (omega arith)
    by_test false false true s t u v =
        let l = earlier_number d is j i in_j in_i u in
        let same : comes_before (order_of d i) (order_of d j) ≡ true = ap (λ (xs : List ℕ). comes_before xs (order_of d j)) e
        ∙ ap (comes_before (order_of d j)) (sym e) ∙ u in
        let m = earlier_number d is i j in_i in_j same in
        absurd (omega arith)
    by_test false false false s t u v = absurd (cc)

-- ---- the least label, order by order

-- the least label that is reached by the orders below n, and the first move that does so
pub record IsLeastSoFar (d n label least order flips : ℕ) : Type 0 where
  pub within : order < n
  pub flips_within : flips < 2 ^ d
  pub carries : Carries d (with_flips (order_of d order) flips) label least
  pub is_least : (i f m : ℕ) → i < n → f < 2 ^ d → Carries d (with_flips (order_of d i) f) label m → least ≤ m
  pub is_first : (i f m : ℕ) → i < order → f < 2 ^ d → Carries d (with_flips (order_of d i) f) label m → least < m
  pub is_first_here : (f m : ℕ) → f < flips → Carries d (with_flips (order_of d order) f) label m → least < m

-- the first order alone
pub least_at_first : (d : ℕ) → IsDimension d → 1 ≤ length (orders d) → (label w least flips : ℕ) → Carries d (order_alone (order_of d 0)) label w
    → IsLeastFlip d w least flips
    → IsLeastSoFar d 1 label least 0 flips
least_at_first d is some label w least flips c l = record {
  within = omega arith;
  flips_within = l.within;
  carries = carries_both d (order_of d 0) flips label w least c l.carries;
  is_least = λ i f m below in_f e.
      let z : i ≡ 0 = omega arith in
      l.is_least f m in_f
      (carries_rest d is (order_of d 0) (order_there d 0 some) f label w m c (subst (λ (j : ℕ). Carries d (with_flips (order_of d j) f) label m) z e));
  is_first = λ i f m below in_f e. absurd (omega arith);
  is_first_here = λ f m below e. l.is_first f m below (carries_rest d is (order_of d 0) (order_there d 0 some) f label w m c e);
}

-- one order more, which reaches a lesser label
pub least_goes_on : (d : ℕ) → IsDimension d → (n : ℕ) → n < length (orders d) → (label w least order flips other by : ℕ)
    → Carries d (order_alone (order_of d n)) label w
    → IsLeastFlip d w other by → IsLeastSoFar d n label least order flips → other < least → IsLeastSoFar d (n + 1) label other n by
least_goes_on d is n in_n label w least order flips other by c l so_far less = record {
  within = omega arith;
  flips_within = l.within;
  carries = carries_both d (order_of d n) by label w other c l.carries;
  is_least = λ i f m below in_f e. by_place i f m in_f e (cases_order i n) below;
  is_first = λ i f m below in_f e. let h = so_far.is_least i f m below in_f e in omega arith;
  is_first_here = λ f m below e. l.is_first f m below (carries_rest d is (order_of d n) (order_there d n in_n) f label w m c e);
}
  where
    by_place : (i f m : ℕ) → f < 2 ^ d → Carries d (with_flips (order_of d i) f) label m → (i ≡ n) ⊎ ((i < n) ⊎ (n < i)) → i < n + 1 → other ≤ m
    by_place i f m in_f e (inl z) below =
        l.is_least f m in_f
        (carries_rest d is (order_of d n) (order_there d n in_n) f label w m c (subst (λ (j : ℕ). Carries d (with_flips (order_of d j) f) label m) z e))
    by_place i f m in_f e (inr (inl h)) below = let k = so_far.is_least i f m h in_f e in omega arith
    by_place i f m in_f e (inr (inr h)) below = absurd (omega arith)

-- one order more, which does not
pub least_stays : (d : ℕ) → IsDimension d → (n : ℕ) → n < length (orders d) → (label w least order flips other by : ℕ)
    → Carries d (order_alone (order_of d n)) label w
    → IsLeastFlip d w other by → IsLeastSoFar d n label least order flips → least ≤ other → IsLeastSoFar d (n + 1) label least order flips
least_stays d is n in_n label w least order flips other by c l so_far more = record {
  within = let h = so_far.within in omega arith;
  flips_within = so_far.flips_within;
  carries = so_far.carries;
  is_least = λ i f m below in_f e. by_place i f m in_f e (cases_order i n) below;
  is_first = so_far.is_first;
  is_first_here = so_far.is_first_here;
}
  where
    by_place : (i f m : ℕ) → f < 2 ^ d → Carries d (with_flips (order_of d i) f) label m → (i ≡ n) ⊎ ((i < n) ⊎ (n < i)) → i < n + 1 → least ≤ m
    by_place i f m in_f e (inl z) below =
        let h = l.is_least f m in_f
        (carries_rest d is (order_of d n) (order_there d n in_n) f label w m c (subst (λ (j : ℕ). Carries d (with_flips (order_of d j) f) label m) z e)) in
        omega arith
    by_place i f m in_f e (inr (inl h)) below = so_far.is_least i f m h in_f e
    by_place i f m in_f e (inr (inr h)) below = absurd (omega arith)

-- after all orders it is the least label
pub least_at_last : (d : ℕ) → IsDimension d → (label least order flips : ℕ) (axes : List ℕ) → axes ≡ order_of d order
    → IsLeastSoFar d (length (orders d)) label least order flips
    → IsLeastLabel d label least (with_flips axes flips)
least_at_last d is label least order flips axes at l = record {
  is_move = (subst (Contains (orders d)) (sym at) (order_there d order l.within), l.flips_within);
  carries = subst (λ (xs : List ℕ). Carries d (with_flips xs flips) label least) (sym at) l.carries;
  is_least = λ other m move c.
      let o = order_number d other.axes move.0 in
      l.is_least o.0 other.flips m o.1 move.1 (subst (λ (xs : List ℕ). Carries d (with_flips xs other.flips) label m) (sym o.2) c);
  is_first = λ other move c earlier. first other move c earlier;
}
  where
    before_it : (other : Move) → other.flips < 2 ^ d → (n : ℕ) → n < length (orders d) → order_of d n ≡ other.axes → Carries d other label least
        → IsTrue (comes_before other.axes axes) ⊎ ((other.axes ≡ axes) × (other.flips < flips)) → ⊥
    before_it other in_f n in_n is_n c (inl e) =
        let t : comes_before (order_of d n) (order_of d order) ≡ true =
        ap (λ (xs : List ℕ). comes_before xs (order_of d order)) is_n ∙ ap (comes_before other.axes) (sym at) ∙ e in
        let h = earlier_number d is n order in_n l.within t in
        let k = l.is_first n other.flips least h in_f (subst (λ (xs : List ℕ). Carries d (with_flips xs other.flips) label least) (sym is_n) c) in
        omega arith
    before_it other in_f n in_n is_n c (inr e) =
        let k = l.is_first_here other.flips least e.1 (subst (λ (xs : List ℕ). Carries d (with_flips xs other.flips) label least) (e.0 ∙ at) c) in
        omega arith

    first : (other : Move) → IsMove d other → Carries d other label least → ¬ IsEarlier other (with_flips axes flips)
    first other move c earlier = let o = order_number d other.axes move.0 in before_it other move.1 o.0 o.1 o.2 c earlier
