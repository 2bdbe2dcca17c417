-- How many numbers below n pass a test; where fewer pass, the count is less.
use Rattle.std.specs.Prelude.{◌≡◌, ℕ, zero, suc, ◌+◌, ◌<◌, ◌≤◌, Bool, true, false, cond}
use Rattle.std.proofs.Common.{refl, sym, subst, arith, inl, inr}
use Rattle.std.proofs.lemmas.Bool.{false≢true, cases_eq}

abbrev pub count : (ℕ → Bool) → ℕ → ℕ
count f zero = 0
count f (suc n) = cond (f n) 1 0 + count f n

-- each below n that passes the one test passes the other
abbrev pub Implies : ℕ → (ℕ → Bool) → (ℕ → Bool) → Type 0
Implies n g f = (j : ℕ) → j < n → g j ≡ true → f j ≡ true

step_below : (b c : Bool) → (b ≡ true → c ≡ true) → cond b 1 0 ≤ cond c 1 0
step_below true true h = omega arith
step_below true false h = absurd (false≢true (h refl))
step_below false true h = omega arith
step_below false false h = omega arith

fewer : (f g : ℕ → Bool) (n : ℕ) → Implies (suc n) g f → Implies n g f
fewer f g n h j l e = h j (omega arith) e

pub count-below : (f g : ℕ → Bool) (n : ℕ) → Implies n g f → count g n ≤ count f n
count-below f g zero h = omega arith
count-below f g (suc n) h = omega (arith, step_below (g n) (f n) (h n (omega arith)), count-below f g n (fewer f g n h))

one_less : (b c : Bool) → b ≡ false → c ≡ true → cond b 1 0 + 1 ≤ cond c 1 0
one_less true c p q = absurd (false≢true (sym p))
one_less false true p q = omega arith
one_less false false p q = absurd (false≢true q)

pub count-less : (f g : ℕ → Bool) (k : ℕ) → f k ≡ true → g k ≡ false → (n : ℕ) → Implies n g f → k < n → count g n < count f n
count-less f g k p q zero h l = absurd (omega arith)
count-less f g k p q (suc n) h l = elim (cases_eq k n) [
  | inl e ↦ (
      let a = one_less (g n) (f n) (subst (λ (j : ℕ). g j ≡ false) e q) (subst (λ (j : ℕ). f j ≡ true) e p) in
      let b = count-below f g n (fewer f g n h) in
      omega arith
      )
  | inr m ↦ (
      let a = step_below (g n) (f n) (h n (omega arith)) in
      let b = count-less f g k p q n (fewer f g n h) (omega arith) in
      omega arith
      )
]
