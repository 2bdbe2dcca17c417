-- Among finitely many places, one at which the ratio of two numbers is least.
use Rattle.std.specs.Prelude.{◌≡◌, ◌≢◌, ◌⊎◌, ℕ, zero, suc, ◌+◌, ◌*◌, ◌<◌, ◌≤◌, Bool, true, false, nat_le}
use Rattle.std.specs.Int.{bit_at}
use Rattle.std.proofs.Common.{refl, sym, ap, ◌∙◌, subst, arith, inl, inr}
use Rattle.std.proofs.lemmas.Bool.Decides.{nat_tests}
use Rattle.std.proofs.Math.Nat.{mul-le-mul, mul_comm, mul_assoc}
use Rattle.hull_dd.proofs.GeneratorBits.{is_member}
use Rattle.std.proofs.lemmas.Bool.{cases_eq}

-- a member of the set below n at which G is not 0 and the ratio of H to G is least
pub record Least (set : ℕ) (H G : ℕ → ℕ) (n : ℕ) : Type 0 where
  pub place : ℕ
  pub below : place < n
  pub member : bit_at set place ≡ 1
  pub above : 0 < G place
  pub least : (j : ℕ) → j < n → bit_at set j ≡ 1 → H place * G j ≤ G place * H j

-- G is 0 at each member below n
abbrev pub AreNone : ℕ → (ℕ → ℕ) → ℕ → Type 0
AreNone set G n = (j : ℕ) → j < n → bit_at set j ≡ 1 → G j ≡ 0

le_or_less : (a b : ℕ) → (a ≤ b) ⊎ (b < a)
le_or_less a b = by_test (nat_le a b) refl
  where
    by_test : (t : Bool) → nat_le a b ≡ t → (a ≤ b) ⊎ (b < a)
    by_test true e = inl (grind (arith, nat_tests))
    by_test false e = inr (grind (arith, nat_tests))

-- the ratio at j is at least that at k, which is more than that at n
less_ratio : (hk gk hn gn hj gj : ℕ) → 0 < gk → hk * gj ≤ gk * hj → gk * hn ≤ hk * gn → hn * gj ≤ gn * hj
less_ratio hk gk hn gn hj gj p a b =
    cancelled gk (hn * gj) (gn * hj) p
    (let u : (gk * hn) * gj ≤ (hk * gn) * gj = mul-le-mul b (omega arith) in
    let v : gn * (hk * gj) ≤ gn * (gk * hj) = mul-le-mul (omega arith) a in
    let s : (gk * hn) * gj ≡ gk * (hn * gj) = mul_assoc gk hn gj in
    let t : (hk * gn) * gj ≡ gn * (hk * gj) = ap (λ (x : ℕ). x * gj) (mul_comm hk gn) ∙ mul_assoc gn hk gj in
    let w : gn * (gk * hj) ≡ gk * (gn * hj) = sym (mul_assoc gn gk hj) ∙ ap (λ (x : ℕ). x * hj) (mul_comm gn gk) ∙ mul_assoc gk gn hj in
    omega arith)
  where
    cancelled : (c x y : ℕ) → 0 < c → c * x ≤ c * y → x ≤ y
    cancelled c x y q h = elim (le_or_less x y) [
      | inl k ↦ k
      | inr k ↦ absurd (let z : c * (y + 1) ≤ c * x = mul-le-mul (omega arith) (omega arith) in omega arith)
    ]

pub least : (set : ℕ) (H G : ℕ → ℕ) (n : ℕ) → AreNone set G n ⊎ Least set H G n
least set H G zero = inl (λ j l m. absurd (omega arith))
least set H G (suc n) = by_member (least set H G n) (is_member set n)
  where
    All : Type 0
    All = AreNone set G (suc n) ⊎ Least set H G (suc n)

    cases : (j : ℕ) → j < suc n → (P : ℕ → Type 0) → ((k : ℕ) → k < n → P k) → P n → P j
    cases j l P before here = elim (cases_eq j n) [
      | inl e ↦ subst P (sym e) here
      | inr d ↦ before j (omega arith)
    ]

    keep : (k : Least set H G n) → (bit_at set n ≡ 1 → H k.place * G n ≤ G k.place * H n) → Least set H G (suc n)
    keep k h = record {
      place = k.place;
      below = let b = k.below in omega arith;
      member = k.member;
      above = k.above;
      least = λ j l. cases j l (λ i. bit_at set i ≡ 1 → H k.place * G i ≤ G k.place * H i) k.least h;
    }

    here : bit_at set n ≡ 1 → 0 < G n → ((j : ℕ) → j < n → bit_at set j ≡ 1 → H n * G j ≤ G n * H j) → Least set H G (suc n)
    here m p h = record {
      place = n;
      below = omega arith;
      member = m;
      above = p;
      least = λ j l. cases j l (λ i. bit_at set i ≡ 1 → H n * G i ≤ G n * H i) h (λ _. let e = mul_comm (H n) (G n) in omega arith);
    }

    at_zero : G n ≡ 0 → AreNone set G n ⊎ Least set H G n → All
    at_zero z (inl none) = inl (λ j l. cases j l (λ i. bit_at set i ≡ 1 → G i ≡ 0) none (λ _. z))
    at_zero z (inr k) = inr (keep k (λ _. subst (λ (g : ℕ). H k.place * g ≤ G k.place * H n) (sym z) (omega arith)))

    at_more : bit_at set n ≡ 1 → 0 < G n → AreNone set G n ⊎ Least set H G n → All
    at_more m p (inl none) = inr (here m p (λ j l q. subst (λ (g : ℕ). H n * g ≤ G n * H j) (sym (none j l q)) (omega arith)))
    at_more m p (inr k) = elim (le_or_less (H k.place * G n) (G k.place * H n)) [
      | inl h ↦ inr (keep k (λ _. h))
      | inr h ↦ inr (here m p (λ j l q. less_ratio (H k.place) (G k.place) (H n) (G n) (H j) (G j) k.above (k.least j l q) (omega arith)))
    ]

    by_member : AreNone set G n ⊎ Least set H G n → (bit_at set n ≡ 1) ⊎ (bit_at set n ≢ 1) → All
    by_member (inl none) (inr m) = inl (λ j l. cases j l (λ i. bit_at set i ≡ 1 → G i ≡ 0) none (λ q. absurd (m q)))
    by_member (inr k) (inr m) = inr (keep k (λ q. absurd (m q)))
    by_member r (inl m) = elim (cases_eq (G n) 0) [
      | inl z ↦ at_zero z r
      | inr z ↦ at_more m (omega arith) r
    ]
