-- A label moved corner by corner.
use Rattle.std.specs.Prelude.{◌≡◌, ◌≢◌, ◌⊎◌, ℕ, ◌+◌, ◌*◌, ◌%◌, ◌^◌, ◌<◌, ◌≤◌, true, false, ◌==◌, bit_or}
use Rattle.std.specs.Int.{w32}
use Rattle.std.proofs.Common.{sym, ap, ◌∙◌, subst, arith, inl, inr}
use Rattle.std.proofs.lemmas.Bool.{cases_order}
use Rattle.std.proofs.lemmas.Nat.{or_lt}
use Rattle.std.proofs.lemmas.Nat.Bits.{bit_at_set_same, bit_at_set_other}
use Rattle.std.proofs.Math.Nat.{mod-eq_of_lt}
use Rattle.std.proofs.Math.Pow.{pow-lt}
use Rattle.iso_model.specs.Moves.{Move, IsMove, move_corner}
use Rattle.cube_moves.proofs.MovedBits.{corner-below}
use Rattle.cube_moves.proofs.ExchangeChecks.{few_flips}
use Rattle.cube_moves.proofs.InverseMoves.{AreInverse, undone, undone_is}
use Rattle.lists.specs.Bits.{is_set}
use Rattle.iso_model.specs.Dimensions.{IsDimension}

-- the corners below n are moved, and the others are not yet
pub record IsMovedBelow (d : ℕ) (by : Move) (label n moved : ℕ) : Type 0 where
  pub below : moved < 2 ^ (2 ^ d)
  pub done : (k : ℕ) → k < 2 ^ d → k < n → is_set moved (move_corner d by k) ≡ is_set label k
  pub left : (k : ℕ) → k < 2 ^ d → n ≤ k → is_set moved (move_corner d by k) ≡ false

-- different corners go to different ones
apart : (d : ℕ) (by un : Move) → AreInverse d by un → (j k : ℕ) → j < 2 ^ d → k < 2 ^ d → j ≢ k → move_corner d by j ≢ move_corner d by k
apart d by un i j k in_j in_k ne e = ne (sym (i.there j in_j) ∙ ap (move_corner d un) e ∙ i.there k in_k)

pub one_left_out : (d : ℕ) (by : Move) (label n moved : ℕ) → is_set label n ≡ false → IsMovedBelow d by label n moved → IsMovedBelow d by label (n + 1) moved
one_left_out d by label n moved none so_far = record {
  below = so_far.below;
  done = λ k h l. by_place k h (cases_order k n) l;
  left = λ k h l. so_far.left k h (omega arith);
}
  where
    by_place : (k : ℕ) → k < 2 ^ d → (k ≡ n) ⊎ ((k < n) ⊎ (n < k)) → k < n + 1 → is_set moved (move_corner d by k) ≡ is_set label k
    by_place k h (inl e) l = so_far.left k h (omega arith) ∙ sym none ∙ ap (is_set label) (sym e)
    by_place k h (inr (inl m)) l = so_far.done k h m
    by_place k h (inr (inr m)) l = absurd (omega arith)

pub one_more_moved : (d : ℕ) → IsDimension d → (by : Move) → IsMove d by → (label n moved c : ℕ) → n < 2 ^ d → c ≡ move_corner d by n → is_set label n ≡ true
    → IsMovedBelow d by label n moved
    → IsMovedBelow d by label (n + 1) (bit_or moved (1 * 2 ^ c % 2 ^ 32))
one_more_moved d is by move label n moved c in_n at some so_far = record {
  below = or_lt (2 ^ d) moved (1 * 2 ^ c % 2 ^ 32) so_far.below (subst (λ (k : ℕ). k < 2 ^ (2 ^ d)) (sym plain) (pow-lt in_c));
  done = λ k h l. by_place k h (cases_order k n) l;
  left = λ k h l. ap (λ (b : ℕ). b == 1) (bit_at_set_other w32 moved c small (move_corner d by k) (other k h (inl l))) ∙ so_far.left k h (omega arith);
}
  where
    in_c : c < 2 ^ d
    in_c = subst (λ (k : ℕ). k < 2 ^ d) (sym at) (corner-below d by n)

    small : c < 32
    small = let f = few_flips d is in let h = in_c in omega arith

    plain : 1 * 2 ^ c % 2 ^ 32 ≡ 2 ^ c
    plain = let p : 2 ^ c < 2 ^ 32 = pow-lt small in let e : 1 * 2 ^ c ≡ 2 ^ c = omega arith in ap (λ (k : ℕ). k % 2 ^ 32) e ∙ mod-eq_of_lt p

    other : (k : ℕ) → k < 2 ^ d → n + 1 ≤ k ⊎ (k < n) → move_corner d by k ≢ c
    other k h (inl l) e = apart d by (undone d by) (undone_is d is by move) k n h in_n (λ q. absurd (omega arith)) (e ∙ at)
    other k h (inr l) e = apart d by (undone d by) (undone_is d is by move) k n h in_n (λ q. absurd (omega arith)) (e ∙ at)

    by_place : (k : ℕ) → k < 2 ^ d → (k ≡ n) ⊎ ((k < n) ⊎ (n < k)) → k < n + 1
        → is_set (bit_or moved (1 * 2 ^ c % 2 ^ 32)) (move_corner d by k) ≡ is_set label k
    by_place k h (inl e) l =
        ap (is_set (bit_or moved (1 * 2 ^ c % 2 ^ 32))) (ap (move_corner d by) e ∙ sym at) ∙ ap (λ (b : ℕ). b == 1) (bit_at_set_same w32 moved c small)
        ∙ sym some ∙ ap (is_set label) (sym e)
    by_place k h (inr (inl m)) l = ap (λ (b : ℕ). b == 1) (bit_at_set_other w32 moved c small (move_corner d by k) (other k h (inr m))) ∙ so_far.done k h m
    by_place k h (inr (inr m)) l = absurd (omega arith)
