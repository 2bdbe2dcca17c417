-- Different tuples of D numbers below 32, in ascending order, are at most 32 ^ D.
use Rattle.std.specs.Prelude.{◌≡◌, ◌+◌, ◌*◌, ◌^◌, ◌<◌, ◌≤◌, ◌==◌, ◌&&◌, ℕ, suc, true, nat_lt, List, [], ◌∷◌, length, All, Contains, IsTrue}
use Rattle.std.specs.List.{AllAdjacentBelow}
use Rattle.std.proofs.Common.{sym, ap, ◌∙◌, subst, arith, inl, inr}
use Rattle.std.proofs.Math.Nat.{mul-le-mul}
use Rattle.std.proofs.lemmas.Bool.{false≢true, or_cases, and_parts}
use Rattle.std.proofs.lemmas.List.Elements.{All-head, All-tail}
use Rattle.lists.specs.Orders.{comes_before}
use Rattle.lists.specs.Members.{AscendsBy}
use Rattle.lists.proofs.Tests.{lt_of, equal_of}
use Rattle.lists.proofs.Contained.{Contains-head, Contains-tail}
use Rattle.lists.proofs.Orderings.{steps_ascend_by, tuples_strict}

-- the number whose digits they are, in base 32
abbrev number_of : List ℕ → ℕ
number_of [] = 0
number_of (x ∷ xs) = x * 32 ^ length xs + number_of xs

abbrev AreDigits : List ℕ → Type 0
AreDigits w = All (λ x. x < 32) w

one_digit_more : (x n r : ℕ) → x < 32 → r < 32 ^ n → x * 32 ^ n + r < 32 ^ suc n
one_digit_more x n r h k =
    let l : x + 1 ≤ 32 = omega arith in
    let m : (x + 1) * 32 ^ n ≤ 32 * 32 ^ n = mul-le-mul l (let s : 32 ^ n ≤ 32 ^ n = omega arith in s) in
    omega (arith, m, k)

number_below : (w : List ℕ) → AreDigits w → number_of w < 32 ^ length w
number_below [] d = omega arith
number_below (x ∷ xs) d = one_digit_more x (length xs) (number_of xs) (All-head (λ y. y < 32) x xs d) (number_below xs (All-tail (λ y. y < 32) x xs d))

greater_digit : (x y n r s : ℕ) → x < y → r < 32 ^ n → x * 32 ^ n + r < y * 32 ^ n + s
greater_digit x y n r s h k =
    let l : x + 1 ≤ y = omega arith in
    let m : (x + 1) * 32 ^ n ≤ y * 32 ^ n = mul-le-mul l (let e : 32 ^ n ≤ 32 ^ n = omega arith in e) in
    omega (arith, m, k)

-- what comes before has the lesser number
number_less : (v w : List ℕ) → length v ≡ length w → AreDigits v → AreDigits w → comes_before v w ≡ true → number_of v < number_of w
number_less [] w l d e b = absurd (false≢true b)
number_less (x ∷ v) [] l d e b = absurd (omega arith)
number_less (x ∷ v) (y ∷ w) l d e b =
    let same : length v ≡ length w = omega arith in
    elim (or_cases (nat_lt x y) (x == y && comes_before v w) b) as (λ _. x * 32 ^ length v + number_of v < y * 32 ^ length w + number_of w) [
      | inl less ↦ subst (λ (n : ℕ). x * 32 ^ length v + number_of v < y * 32 ^ n + number_of w) same
          (greater_digit x y (length v) (number_of v) (number_of w) (lt_of x y less) (number_below v (All-tail (λ z. z < 32) x v d)))
      | inr behind ↦
          let parts = and_parts (x == y) (comes_before v w) behind in
          let first : x ≡ y = equal_of x y parts.0 in
          let rest = number_less v w same (All-tail (λ z. z < 32) x v d) (All-tail (λ z. z < 32) y w e) parts.1 in
          let heads : x * 32 ^ length v ≡ y * 32 ^ length w = ap (λ (z : ℕ). z * 32 ^ length v) first ∙ ap (λ (n : ℕ). y * 32 ^ n) same in
          omega (arith, rest, heads)
    ]

-- a tuple of d digits
pub record IsDigits (d : ℕ) (w : List ℕ) : Type 0 where
  pub wide : length w ≡ d
  pub digits : All (λ x. x < 32) w

few_from : (d : ℕ) (ws : List (List ℕ)) (k : ℕ) → ((w : List ℕ) → Contains ws w → IsDigits d w) → AscendsBy (λ (v w : List ℕ). IsTrue (comes_before v w)) ws
    → ((w : List ℕ) → Contains ws w → k ≤ number_of w) → k ≤ 32 ^ d → k + length ws ≤ 32 ^ d
few_from d [] k digits a low h = omega arith
few_from d (w ∷ ws) k digits a low h =
    let own = digits w (Contains-head w ws) in
    let least = low w (Contains-head w ws) in
    let below : number_of w < 32 ^ d = subst (λ (n : ℕ). number_of w < 32 ^ n) own.wide (number_below w own.digits) in
    let rest = few_from d ws (k + 1) (λ v c. digits v (Contains-tail v w ws c)) a.1
    (λ v c. let other = digits v (Contains-tail v w ws c) in
    let more = number_less w v (own.wide ∙ sym other.wide) own.digits other.digits (a.0 v c) in
    omega (arith, more, least)) (omega (arith, least, below)) in
    omega (arith, rest)

pub few_tuples : (d : ℕ) (ws : List (List ℕ)) → ((w : List ℕ) → Contains ws w → IsDigits d w)
    → AllAdjacentBelow (λ v w. IsTrue (comes_before v w)) ws (length ws) → length ws ≤ 32 ^ d
few_tuples d ws digits a =
    let h = few_from d ws 0 digits (steps_ascend_by (λ (v w : List ℕ). IsTrue (comes_before v w)) tuples_strict ws a) (λ w c. omega arith) (omega arith) in
    omega (arith, h)
