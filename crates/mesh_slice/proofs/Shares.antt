-- How large the share of a way is on which a link is cut.
use Rattle.std.proofs.Common.{◌≡◌, ℕ, ◌+◌, ◌*◌, ◌/◌, ◌<◌, ◌≤◌, ◌^◌, true, ℤ, pos, negsuc, ◌+ℤ◌, ◌-ℤ◌, ◌*ℤ◌, unsigned_abs, arith, ap, sym, subst, ◌∙◌, w64, to_z, of_z, FitsSigned}
use Rattle.std.proofs.lemmas.Int.{unsigned_abs-mul, ints, to_z-of_z, fits_signed_from_abs, fits_signed_mul}
use mir.Syntax.{w128}
use Rattle.std.proofs.Math.Nat.{mul-le-mul, div-lt_iff_lt-mul}
use Rattle.std.specs.Int.{int_div_euclid}
use Rattle.std.specs.Prelude.{int_le}
use Rattle.iso_model.specs.Bipolar.{differ}

-- a quotient by a positive number, rounded towards minus infinity
quotient_within : (z : ℤ) (t m : ℕ) → 0 < t → unsigned_abs z ≤ m * t → unsigned_abs (int_div_euclid z (pos t)) ≤ m
quotient_within (pos a) t m some h =
    let below : a / t < m + 1 = (div-lt_iff_lt-mul some).1 (omega (arith, h, some)) in
    omega (arith, below)
quotient_within (negsuc a) t m some h =
    let below : a / t < m = (div-lt_iff_lt-mul some).1 (omega (arith, h, some)) in
    omega (arith, below)

-- a part of a way is no longer than the way
pub share_within : (run : ℤ) (part way m : ℕ) → unsigned_abs run ≤ m → 0 < way → part ≤ way
    → unsigned_abs (int_div_euclid (run *ℤ pos part) (pos way)) ≤ m
share_within run part way m small some between =
    let size : unsigned_abs (run *ℤ pos part) ≡ unsigned_abs run * part = unsigned_abs-mul run (pos part) in
    let few : unsigned_abs run * part ≤ m * way = mul-le-mul small between in
    quotient_within (run *ℤ pos part) way m some (rw size few)

-- the share as it is computed, each number read from its bits
pub computed_share : (run : ℤ) (part way : ℕ) (r p w q : ℤ) → unsigned_abs run ≤ 2 ^ 53 → 0 < way → part ≤ way → way ≤ 2 ^ 53 → FitsSigned w64 run
    → r ≡ to_z w64 (of_z w64 run) → p ≡ pos part → w ≡ pos way
    → q ≡ int_div_euclid (to_z w128 (of_z w128 (to_z w128 (of_z w128 r) *ℤ to_z w128 (of_z w128 p)))) (to_z w128 (of_z w128 w))
    → q ≡ int_div_euclid (run *ℤ pos part) (pos way)
computed_share run part way r p w q small some between few fits at_r at_p at_w at_q =
    let is_run : r ≡ run = at_r ∙ to_z-of_z w64 run fits in
    let fits_run : FitsSigned w128 run = fits_signed_from_abs w128 run (omega (arith, small)) in
    let fits_part : FitsSigned w128 (pos part) = fits_signed_from_abs w128 (pos part) (omega (arith, between, few)) in
    let fits_way : FitsSigned w128 (pos way) = fits_signed_from_abs w128 (pos way) (omega (arith, few)) in
    let short : unsigned_abs (pos part) ≤ 2 ^ 53 = omega (arith, between, few) in
    let fits_product : FitsSigned w128 (run *ℤ pos part) = fits_signed_mul w128 run (pos part) (2 ^ 53) (2 ^ 53) small short (omega arith) in
    let of_run : to_z w128 (of_z w128 r) ≡ run = ap (λ (z : ℤ). to_z w128 (of_z w128 z)) is_run ∙ to_z-of_z w128 run fits_run in
    let of_part : to_z w128 (of_z w128 p) ≡ pos part = ap (λ (z : ℤ). to_z w128 (of_z w128 z)) at_p ∙ to_z-of_z w128 (pos part) fits_part in
    let of_way : to_z w128 (of_z w128 w) ≡ pos way = ap (λ (z : ℤ). to_z w128 (of_z w128 z)) at_w ∙ to_z-of_z w128 (pos way) fits_way in
    let product : to_z w128 (of_z w128 (to_z w128 (of_z w128 r) *ℤ to_z w128 (of_z w128 p))) ≡ run *ℤ pos part =
    ap (λ (z : ℤ). to_z w128 (of_z w128 (z *ℤ to_z w128 (of_z w128 p)))) of_run ∙ ap (λ (z : ℤ). to_z w128 (of_z w128 (run *ℤ z))) of_part
    ∙ to_z-of_z w128 (run *ℤ pos part) fits_product in
    at_q ∙ ap (λ (z : ℤ). int_div_euclid z (to_z w128 (of_z w128 w))) product ∙ ap (int_div_euclid (run *ℤ pos part)) of_way

-- a share is small, so it is read from its bits as it is
pub record IsRead (q : ℤ) : Type 0 where
  pub small : unsigned_abs q ≤ 2 ^ 53
  pub fits : FitsSigned w64 q
  pub read : to_z w128 (of_z w128 q) ≡ q

pub share_read : (run : ℤ) (part way : ℕ) (q : ℤ) → unsigned_abs run ≤ 2 ^ 53 → 0 < way → part ≤ way
    → q ≡ int_div_euclid (run *ℤ pos part) (pos way) → IsRead q
share_read run part way q small some between is =
    let few : unsigned_abs q ≤ 2 ^ 53 = subst (λ (z : ℤ). unsigned_abs z ≤ 2 ^ 53) (sym is) (share_within run part way (2 ^ 53) small some between) in
    record {
      small = few;
      fits = fits_signed_from_abs w64 q (omega (arith, few));
      read = to_z-of_z w128 q (fits_signed_from_abs w128 q (omega (arith, few)));
    }

-- of two times of which exactly one is at least the given one, this one lies between them, and they are apart
pub record Between (low high time : ℤ) : Type 0 where
  pub some : 0 < unsigned_abs (high -ℤ low)
  pub part : unsigned_abs (time -ℤ low) ≤ unsigned_abs (high -ℤ low)

pub lies_between : (low high time : ℤ) → differ (int_le time low) (int_le time high) ≡ true → Between low high time
lies_between low high time h = record { some = grind (arith, ints); part = grind (arith, ints) }

-- ---- runs and places of moderate coordinates, each number read from its bits

moderate_read : (p : ℤ) → unsigned_abs p ≤ 2 ^ 53 → to_z w64 (of_z w64 p) ≡ p
moderate_read p h = to_z-of_z w64 p (fits_signed_from_abs w64 p (omega (arith, h)))

pub run_small : (p q : ℤ) → unsigned_abs p ≤ 2 ^ 52 → unsigned_abs q ≤ 2 ^ 52 → unsigned_abs (q -ℤ p) ≤ 2 ^ 53
run_small p q low high = omega (arith, ints)

pub read_run : (p q : ℤ) → unsigned_abs p ≤ 2 ^ 52 → unsigned_abs q ≤ 2 ^ 52 → to_z w64 (of_z w64 q) -ℤ to_z w64 (of_z w64 p) ≡ q -ℤ p
read_run p q low high =
    ap (λ (z : ℤ). z -ℤ to_z w64 (of_z w64 p)) (moderate_read q (omega (arith, high))) ∙ ap (λ (z : ℤ). q -ℤ z) (moderate_read p (omega (arith, low)))

pub run_fits : (p q : ℤ) → unsigned_abs p ≤ 2 ^ 52 → unsigned_abs q ≤ 2 ^ 52 → FitsSigned w64 (to_z w64 (of_z w64 q) -ℤ to_z w64 (of_z w64 p))
run_fits p q low high =
    subst (λ (z : ℤ). FitsSigned w64 z) (sym (read_run p q low high)) (fits_signed_from_abs w64 (q -ℤ p) (omega (arith, run_small p q low high)))

pub run_read : (p q : ℤ) → unsigned_abs p ≤ 2 ^ 52 → unsigned_abs q ≤ 2 ^ 52
    → to_z w64 (of_z w64 (to_z w64 (of_z w64 q) -ℤ to_z w64 (of_z w64 p))) ≡ q -ℤ p
run_read p q low high = ap (λ (z : ℤ). to_z w64 (of_z w64 z)) (read_run p q low high) ∙ moderate_read (q -ℤ p) (run_small p q low high)

read_place : (p s : ℤ) → unsigned_abs p ≤ 2 ^ 52 → unsigned_abs s ≤ 2 ^ 53 → to_z w64 (of_z w64 p) +ℤ to_z w64 (of_z w64 s) ≡ p +ℤ s
read_place p s low few =
    ap (λ (z : ℤ). z +ℤ to_z w64 (of_z w64 s)) (moderate_read p (omega (arith, low))) ∙ ap (λ (z : ℤ). p +ℤ z) (moderate_read s few)

place_small : (p s : ℤ) → unsigned_abs p ≤ 2 ^ 52 → unsigned_abs s ≤ 2 ^ 53 → unsigned_abs (p +ℤ s) ≤ 2 ^ 54
place_small p s low few = omega (arith, ints)

pub place_fits : (p s : ℤ) → unsigned_abs p ≤ 2 ^ 52 → unsigned_abs s ≤ 2 ^ 53 → FitsSigned w64 (to_z w64 (of_z w64 p) +ℤ to_z w64 (of_z w64 s))
place_fits p s low few =
    subst (λ (z : ℤ). FitsSigned w64 z) (sym (read_place p s low few)) (fits_signed_from_abs w64 (p +ℤ s) (omega (arith, place_small p s low few)))

pub place_read : (p s : ℤ) → unsigned_abs p ≤ 2 ^ 52 → unsigned_abs s ≤ 2 ^ 53
    → to_z w64 (of_z w64 (to_z w64 (of_z w64 p) +ℤ to_z w64 (of_z w64 s))) ≡ p +ℤ s
place_read p s low few =
    ap (λ (z : ℤ). to_z w64 (of_z w64 z)) (read_place p s low few)
    ∙ to_z-of_z w64 (p +ℤ s) (fits_signed_from_abs w64 (p +ℤ s) (omega (arith, place_small p s low few)))
