-- The tables of exchanges and of orders, by computing: each order and each set of flips comes from an earlier one by an exchange.
use Rattle.std.specs.Prelude.{◌≡◌, ℕ, ◌+◌, ◌-◌, ◌^◌, ◌<◌, ◌≤◌, Bool, true, ◌&&◌, ◌==◌, nat_lt, nat_le, List, [], length, slice_index_or, bit_and}
use Rattle.std.specs.List.{list_all}
use Rattle.std.specs.Int.{bit_at, w64, trailing_zeros}
use Rattle.std.proofs.Common.{refl, sym, ap, ◌∙◌, arith}
use Rattle.std.proofs.lemmas.Bool.{and_parts, ltb-true, leb-true, eqb-true}
use Rattle.iso_model.specs.Moves.{Move, Carries, move_corner}
use Rattle.cube_moves.specs.declared.words.Exchange.{Exchange}
use Rattle.cube_moves.specs.declared.tables.TheConstants.{FLIPS, SWAPS, STEPS, COUNTS}
use Rattle.cube_moves.specs.Exchanges.{IsExchange, partner, fits_at}
use Rattle.cube_moves.proofs.MovedBits.{order_alone, flips_alone, corner-below}
use Rattle.cube_moves.proofs.OrderChecks.{each_below}
use Rattle.lists.specs.Orders.{numbers, orders}
use Rattle.lists.specs.Bits.{is_set}
use Rattle.iso_model.specs.Dimensions.{IsDimension, in_each_dimension}

-- ---- exchanges

abbrev pub all_fit : ℕ → Exchange → Bool
all_fit d x = list_all (fits_at d x) (numbers (2 ^ d)) && nat_le x.shift 16

pub is_exchange : (d : ℕ) (x : Exchange) → all_fit d x ≡ true → IsExchange d x
is_exchange d x all =
    let p = and_parts (list_all (fits_at d x) (numbers (2 ^ d))) (nat_le x.shift 16) all in
    record { each = each_below (fits_at d x) (2 ^ d) p.0; near = leb-true x.shift 16 p.1 }

-- an exchange takes each corner that the one move reaches to the one that the other move reaches
abbrev leads : ℕ → Exchange → Move → Move → Bool
leads d x to from = list_all (λ k. partner x (move_corner d to k) == move_corner d from k) (numbers (2 ^ d))

-- the signs of the one label are those of the other, exchanged
pub record HasSigns (d : ℕ) (x : Exchange) (w r : ℕ) : Type 0 where
  pub below : r < 2 ^ (2 ^ d)
  pub signs : (c : ℕ) → c < 2 ^ d → bit_at r c ≡ bit_at w (partner x c)

-- a label that is carried goes on by an exchange
carried_on : (d : ℕ) (x : Exchange) (to from : Move) (label w r : ℕ) → HasSigns d x w r → leads d x to from ≡ true → Carries d from label w
    → Carries d to label r
carried_on d x to from label w r has all carries = (
  has.below,
  λ k h. ap (λ (b : ℕ). b == 1)
      (has.signs (move_corner d to k) (corner-below d to k)
      ∙ ap (bit_at w) (eqb-true _ _ (each_below (λ j. partner x (move_corner d to j) == move_corner d from j) (2 ^ d) all k h)))
      ∙ carries.1 k h,
)

-- ---- flips

-- the flips without the lowest one, and that one's axis
abbrev pub fewer : ℕ → ℕ
fewer f = bit_and f (f - 1)

abbrev pub flip_at : ℕ → Exchange
flip_at a = slice_index_or FLIPS a (record { kept = 0; lower = 0; shift = 0 })

flip_step : ℕ → ℕ → Bool
flip_step d f =
    nat_lt (trailing_zeros w64 f) 4 && nat_lt (fewer f) f && all_fit d (flip_at (trailing_zeros w64 f))
    && leads d (flip_at (trailing_zeros w64 f)) (flips_alone d f) (flips_alone d (fewer f))

pub record FlipStep (d f : ℕ) : Type 0 where
  pub axis : trailing_zeros w64 f < 4
  pub earlier : fewer f < f
  pub exchange : IsExchange d (flip_at (trailing_zeros w64 f))
  pub carried : (label w r : ℕ) → HasSigns d (flip_at (trailing_zeros w64 f)) w r → Carries d (flips_alone d (fewer f)) label w
      → Carries d (flips_alone d f) label r

flip_steps : (d : ℕ) → IsDimension d → (f : ℕ) → f < 2 ^ d - 1 → flip_step d (f + 1) ≡ true
unfolding flip_step lib.Count.count_trailing_zeros
flip_steps =
    in_each_dimension (λ d. (f : ℕ) → f < 2 ^ d - 1 → flip_step d (f + 1) ≡ true)
    (each_below (λ f. flip_step 2 (f + 1)) 3 refl) (each_below (λ f. flip_step 3 (f + 1)) 7 refl) (each_below (λ f. flip_step 4 (f + 1)) 15 refl)

pub flip_goes_on : (d f : ℕ) → IsDimension d → 1 ≤ f → f < 2 ^ d → FlipStep d f
unfolding flip_step
flip_goes_on d f is low high =
    let e : f - 1 + 1 ≡ f = omega arith in
    let all : flip_step d f ≡ true = ap (flip_step d) (sym e) ∙ flip_steps d is (f - 1) (omega arith) in
    let a : ℕ = trailing_zeros w64 f in
    let x : Exchange = flip_at a in
    let p = and_parts (nat_lt a 4 && nat_lt (fewer f) f && all_fit d x) (leads d x (flips_alone d f) (flips_alone d (fewer f))) all in
    let q = and_parts (nat_lt a 4 && nat_lt (fewer f) f) (all_fit d x) p.0 in
    let r = and_parts (nat_lt a 4) (nat_lt (fewer f) f) q.0 in
    record {
      axis = ltb-true a 4 r.0;
      earlier = ltb-true (fewer f) f r.1;
      exchange = is_exchange d x q.1;
      carried = λ label w r has c. carried_on d x (flips_alone d f) (flips_alone d (fewer f)) label w r has p.1 c;
    }

-- ---- orders

abbrev pub order_of : ℕ → ℕ → List ℕ
order_of d n = slice_index_or (orders d) n []

-- the order that comes before, and the exchange that leads on, as the code has them
abbrev pub step_at : ℕ → ℕ → ℕ × ℕ
step_at d n = slice_index_or (slice_index_or STEPS (d - 2) []) n (0, 0)

abbrev pub swap_at : ℕ → Exchange
swap_at s = slice_index_or SWAPS s (record { kept = 0; lower = 0; shift = 0 })

order_step : ℕ → ℕ → Bool
order_step d n =
    nat_lt (step_at d n).1 6 && nat_lt (step_at d n).0 n && all_fit d (swap_at (step_at d n).1)
    && leads d (swap_at (step_at d n).1) (order_alone (order_of d n)) (order_alone (order_of d (step_at d n).0))

pub record OrderStep (d n : ℕ) : Type 0 where
  pub swap : (step_at d n).1 < 6
  pub earlier : (step_at d n).0 < n
  pub exchange : IsExchange d (swap_at (step_at d n).1)
  pub carried : (label w r : ℕ) → HasSigns d (swap_at (step_at d n).1) w r → Carries d (order_alone (order_of d (step_at d n).0)) label w
      → Carries d (order_alone (order_of d n)) label r

order_steps : (d : ℕ) → IsDimension d → (n : ℕ) → n < length (orders d) - 1 → order_step d (n + 1) ≡ true
unfolding order_step
order_steps =
    in_each_dimension (λ d. (n : ℕ) → n < length (orders d) - 1 → order_step d (n + 1) ≡ true)
    (each_below (λ n. order_step 2 (n + 1)) 1 refl) (each_below (λ n. order_step 3 (n + 1)) 5 refl) (each_below (λ n. order_step 4 (n + 1)) 23 refl)

pub order_goes_on : (d n : ℕ) → IsDimension d → 1 ≤ n → n < length (orders d) → OrderStep d n
unfolding order_step
order_goes_on d n is low high =
    let e : n - 1 + 1 ≡ n = omega arith in
    let all : order_step d n ≡ true = ap (order_step d) (sym e) ∙ order_steps d is (n - 1) (omega arith) in
    let s : ℕ × ℕ = step_at d n in
    let x : Exchange = swap_at s.1 in
    let p = and_parts (nat_lt s.1 6 && nat_lt s.0 n && all_fit d x) (leads d x (order_alone (order_of d n)) (order_alone (order_of d s.0))) all in
    let q = and_parts (nat_lt s.1 6 && nat_lt s.0 n) (all_fit d x) p.0 in
    let r = and_parts (nat_lt s.1 6) (nat_lt s.0 n) q.0 in
    record {
      swap = ltb-true s.1 6 r.0;
      earlier = ltb-true s.0 n r.1;
      exchange = is_exchange d x q.1;
      carried = λ label w r has c. carried_on d x (order_alone (order_of d n)) (order_alone (order_of d s.0)) label w r has p.1 c;
    }

-- ---- the number of the orders, and the first of them

pub order_count : (d : ℕ) → IsDimension d → slice_index_or COUNTS (d - 2) 0 ≡ length (orders d)
order_count = in_each_dimension (λ d. slice_index_or COUNTS (d - 2) 0 ≡ length (orders d)) refl refl refl

pub few_orders : (d : ℕ) → IsDimension d → length (orders d) ≤ 24
few_orders = in_each_dimension (λ d. length (orders d) ≤ 24) (omega arith) (omega arith) (omega arith)

pub some_order : (d : ℕ) → IsDimension d → 1 ≤ length (orders d)
some_order = in_each_dimension (λ d. 1 ≤ length (orders d)) (omega arith) (omega arith) (omega arith)

-- no flips of the axes in their order leave each corner where it is
stays : ℕ → Bool
stays d = list_all (λ k. move_corner d (flips_alone d 0) k == k) (numbers (2 ^ d))

pub flips_none : (d : ℕ) → IsDimension d → (label : ℕ) → label < 2 ^ (2 ^ d) → Carries d (flips_alone d 0) label label
unfolding stays
flips_none d is label below = (
  below,
  λ k h. ap (is_set label)
      (eqb-true _ _ (each_below (λ k. move_corner d (flips_alone d 0) k == k) (2 ^ d) (in_each_dimension (λ n. stays n ≡ true) refl refl refl d is) k h)),
)

pub first_order : (d : ℕ) → IsDimension d → order_of d 0 ≡ numbers d
first_order = in_each_dimension (λ d. order_of d 0 ≡ numbers d) refl refl refl

pub few_flips : (d : ℕ) → IsDimension d → 2 ^ d ≤ 16
few_flips = in_each_dimension (λ d. 2 ^ d ≤ 16) (omega arith) (omega arith) (omega arith)

pub small_label : (d w : ℕ) → IsDimension d → w < 2 ^ (2 ^ d) → w < 65536
small_label d w is = in_each_dimension (λ n. w < 2 ^ (2 ^ n) → w < 65536) (λ h. omega arith) (λ h. omega arith) (λ h. omega arith) d is
