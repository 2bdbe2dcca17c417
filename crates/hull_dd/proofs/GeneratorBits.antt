-- The bits of a set with one point more, and of sets that lie within another.
use Rattle.std.specs.Prelude.{◌≡◌, ◌≢◌, ◌⊎◌, ℕ, ◌*◌, ◌%◌, ◌^◌, ◌<◌, Bool, true, false, nat_eq, bit_and}
use Rattle.std.specs.Int.{bit_at}
use Rattle.std.proofs.Common.{refl, sym, ap, ◌∙◌, subst, arith, inl, inr}
use Rattle.std.proofs.lemmas.Bool.Decides.{nat_tests}
use Rattle.std.proofs.lemmas.Nat.Bits.{bit_at_and, bit_at_or, bit_at-pow_same, bit_at-pow_other, bit_at-lt}
use Rattle.std.proofs.Math.Pow.{pow-lt}
use Rattle.std.proofs.Math.Nat.{mod-eq_of_lt}
use Rattle.hull_dd.specs.Generators.{with_point, IsWithin}
use Rattle.std.proofs.lemmas.Bool.{cases_eq}

-- ---- a member, or not

pub is_member : (set j : ℕ) → (bit_at set j ≡ 1) ⊎ (bit_at set j ≢ 1)
is_member set j = cases_eq (bit_at set j) 1

-- ---- one point more

pub point_added : (set i : ℕ) → bit_at (with_point set i) i ≡ 1
point_added set i = let p = bit_at-pow_same i in let l = bit_at-lt set i in bit_at_or set (2 ^ i) i ∙ omega arith

pub others_stay : (set i j : ℕ) → j ≢ i → bit_at (with_point set i) j ≡ bit_at set j
others_stay set i j n = let p = bit_at-pow_other i j n in bit_at_or set (2 ^ i) j ∙ omega arith

pub member_stays : (set i j : ℕ) → bit_at set j ≡ 1 → bit_at (with_point set i) j ≡ 1
member_stays set i j h = elim (cases_eq j i) [
  | inl e ↦ subst (λ (k : ℕ). bit_at (with_point set i) k ≡ 1) (sym e) (point_added set i)
  | inr n ↦ others_stay set i j n ∙ h
]

pub member_split : (set i j : ℕ) → bit_at (with_point set i) j ≡ 1 → (j ≡ i) ⊎ (bit_at set j ≡ 1)
member_split set i j h = elim (cases_eq j i) [
  | inl e ↦ inl e
  | inr n ↦ inr (sym (others_stay set i j n) ∙ h)
]

-- ---- members of both

pub in_both : (a b j : ℕ) → bit_at a j ≡ 1 → bit_at b j ≡ 1 → bit_at (bit_and a b) j ≡ 1
in_both a b j p q = bit_at_and a b j ∙ omega arith

pub in_first : (a b j : ℕ) → bit_at (bit_and a b) j ≡ 1 → bit_at a j ≡ 1
in_first a b j h = let e = bit_at_and a b j in let l = bit_at-lt a j in omega arith

pub in_second : (a b j : ℕ) → bit_at (bit_and a b) j ≡ 1 → bit_at b j ≡ 1
in_second a b j h = let e = bit_at_and a b j in let l = bit_at-lt b j in omega arith

-- ---- within

pub within_bit : (a b j : ℕ) → IsWithin a b → bit_at a j ≡ 1 → bit_at b j ≡ 1
within_bit a b j w h = in_second a b j (ap (λ (n : ℕ). bit_at n j) w ∙ h)
