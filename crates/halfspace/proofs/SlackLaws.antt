-- Bounds of slacks.
use Rattle.std.specs.Prelude.{◌≡◌, ◌≢◌, ◌*◌, ◌^◌, ◌<◌, ◌≤◌, ℤ, pos, negsuc, ◌-ℤ◌, List, length}
use Rattle.std.proofs.Common.{arith, subst, sym, to_z, of_z, w64, FitsSigned, lit<, ap, ◌∙◌}
use lib.Signed.{mag}
use Rattle.polynomials.specs.Small.{IsSmall, AreSmall}
use Rattle.polynomials.proofs.SmallLaws.{small-weaken, small-sub, small-fits, small-back, difference_back}
use Rattle.small_turn.proofs.MatrixRows.{small-dot}
use Rattle.iso_model.specs.Turns.{dot}

product_small : (n p : List ℤ) (r : ℤ) → length p ≤ 4 → AreSmall (2 ^ 24) n → AreSmall 64 p → r ≡ dot n p → IsSmall (2 ^ 32) r
product_small n p r few h k e =
    subst (λ (z : ℤ). IsSmall (2 ^ 32) z) (sym e)
    (small-weaken (length p * (2 ^ 24 * 64)) (2 ^ 32) (dot n p) (small-dot (2 ^ 24) 64 n p h k) (omega arith))

-- ---- the test of an i64 for 0

pub zero_bits : (x : ℤ) → mag x < 2 ^ 63 → of_z w64 x ≡ 0 → x ≡ pos 0
zero_bits (pos n) h e = ap pos e
zero_bits (negsuc n) h e = absurd (omega arith)

pub zero_bits_not : (x : ℤ) → ¬ (of_z w64 x ≡ 0) → x ≢ pos 0
zero_bits_not x n e = n (ap (of_z w64) e)

-- ---- the slack

-- the difference fits, and is read back as the slack
pub record SlackFacts (b r s : ℤ) : Type 0 where
  pub fits : FitsSigned w64 (to_z w64 (of_z w64 b) -ℤ to_z w64 (of_z w64 r))
  pub value : to_z w64 (of_z w64 (to_z w64 (of_z w64 b) -ℤ to_z w64 (of_z w64 r))) ≡ s

pub slack_facts : (n p : List ℤ) (b r : ℤ) → length p ≤ 4 → AreSmall (2 ^ 24) n → AreSmall 64 p → IsSmall (2 ^ 40) b → r ≡ dot n p
    → SlackFacts b r (b -ℤ dot n p)
slack_facts n p b r few h k bound e =
    let small = product_small n p r few h k e in
    let back_b = small-back (2 ^ 40) b (lit< tt) bound in
    let back_r = small-back (2 ^ 32) r (lit< tt) small in
    record {
      fits = subst (λ (z : ℤ). FitsSigned w64 (z -ℤ to_z w64 (of_z w64 r))) (sym back_b)
          (subst (λ (z : ℤ). FitsSigned w64 (b -ℤ z)) (sym back_r)
          (small-fits (2 ^ 41) (b -ℤ r) (small-weaken _ (2 ^ 41) (b -ℤ r) (small-sub (2 ^ 40) (2 ^ 32) b r bound small) (omega arith)) (lit< tt)));
      value = difference_back (2 ^ 40) (2 ^ 32) b r (lit< tt) bound small ∙ ap (λ (z : ℤ). b -ℤ z) e;
    }
