-- Where something stands first, and where a part ends.
use Rattle.std.proofs.Common.{◌≡◌, ℕ, ◌+◌, ◌-◌, ◌<◌, ◌≤◌, Bool, true, false, List, length, drop, get_or, reverse, ap, ◌∙◌, arith}
use Rattle.std.specs.List.{position_or_len, suffix_len}
use Rattle.std.proofs.lemmas.List.{length-drop, get_or-drop, get_or-reverse, length-reverse}
use Rattle.std.proofs.lemmas.List.Sums.{position_or_len_is, prefix_len_is}

-- from a place on, the first element that passes
pub first_from : (p : ℕ → Bool) (xs : List ℕ) (from at : ℕ) → from ≤ at → at ≤ length xs
    → ((k : ℕ) → from ≤ k → k < at → p (get_or xs k 0) ≡ false) → (at < length xs → p (get_or xs at 0) ≡ true) → at ≡ from + position_or_len p (drop from xs)
first_from p xs from at l m none here =
    let place : position_or_len p (drop from xs) ≡ at - from = position_or_len_is p (drop from xs) (at - from) 0 (omega (arith, length-drop from xs))
    (λ k h. ap p (get_or-drop from xs k 0) ∙ none (from + k) (omega arith) (omega arith))
    (λ h. let e : from + (at - from) ≡ at = omega arith in
    ap p (get_or-drop from xs (at - from) 0) ∙ ap (λ i. p (get_or xs i 0)) e ∙ here (omega (arith, length-drop from xs))) in
    omega (arith, place)

-- the last part whose elements all pass
pub suffix_len_is : (p : ℕ → Bool) (xs : List ℕ) (end : ℕ) → end ≤ length xs
    → ((k : ℕ) → end ≤ k → k < length xs → p (get_or xs k 0) ≡ true) → (0 < end → p (get_or xs (end - 1) 0) ≡ false) → suffix_len p xs ≡ length xs - end
suffix_len_is p xs end l all here =
    prefix_len_is p (reverse xs) (length xs - end) 0 (omega (arith, length-reverse xs))
    (λ k h. ap p (get_or-reverse xs k 0 (omega arith)) ∙ all (length xs - 1 - k) (omega arith) (omega arith))
    (λ h. let e : length xs - 1 - (length xs - end) ≡ end - 1 = omega (arith, length-reverse xs) in
    ap p (get_or-reverse xs (length xs - end) 0 (omega (arith, length-reverse xs))) ∙ ap (λ i. p (get_or xs i 0)) e ∙ here (omega (arith, length-reverse xs)))
