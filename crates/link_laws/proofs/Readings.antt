-- A triangle at a vertex k, read as (k, p, q): it leaves by p and comes in by q, and that is the sign of its two faces at k.
use Rattle.std.proofs.Common.{◌≡◌, ℕ, ◌+◌, Bool, true, false, List, [], ◌∷◌, length, Some, None, refl, ap, sym, arith, inl, inr}
use Rattle.std.specs.Prelude.{◌≢◌, ◌%◌, ◌⊎◌, nat_eq, nat_lt, if◌then◌else◌}
use Rattle.std.specs.List.{list_any}
use Rattle.std.proofs.lemmas.Bool.Decides.{nat_tests}
use Rattle.std.proofs.lemmas.Slice.Eq.{bytes_eq-Decides}
use Rattle.lists.specs.Orders.{sorted, inversions}
use Rattle.iso_model.specs.Walks.{turned}
use Rattle.mesh_laws.proofs.FaceSigns.{has_signed, is_signed_face, left_out}
use Rattle.lists.specs.Members.{In, Distinct}
use Rattle.lists.proofs.MemberLaws.{any_from}
use Rattle.lists.proofs.Sorting.{bit, count_by-cons, put_in_comm}
use Rattle.lists.proofs.DistinctLists.{distinct_test}
use Rattle.std.proofs.lemmas.Option.{same_Some}

-- the three ways in which a triangle reads (k, p, q)
pub data Reading (k p q : ℕ) : List ℕ → Type 0 where
  at_first : Reading k p q (k ∷ p ∷ q ∷ [])
  at_second : Reading k p q (q ∷ k ∷ p ∷ [])
  at_third : Reading k p q (p ∷ q ∷ k ∷ [])

-- the face at two numbers
abbrev pub pair : ℕ → ℕ → List ℕ
pair k x = sorted (k ∷ x ∷ [])

-- the parity by which a triangle leaves k by x; it comes in by the other
abbrev pub leaving : ℕ → ℕ → ℕ
leaving k x = inversions (k ∷ x ∷ [])

two_orders : (k x : ℕ) → k ≢ x → inversions (x ∷ k ∷ []) + inversions (k ∷ x ∷ []) ≡ 1
two_orders k x differ =
    let s : bit (nat_lt k x) + bit (nat_lt x k) ≡ 1 = grind (arith, nat_tests) in
    omega (arith, s, count_by-cons (λ z. nat_lt z x) k [], count_by-cons (λ z. nat_lt z k) x [])

signed_pair : (k x i m : ℕ) → (i + inversions (k ∷ x ∷ []) + m) % 2 ≡ 0 → is_signed_face m (pair k x) (i, k ∷ x ∷ []) ≡ true
signed_pair k x i m even = rw ((bytes_eq-Decides (pair k x) (pair k x)).1 refl, even) refl

signed_turned : (k x i m : ℕ) → (i + inversions (x ∷ k ∷ []) + m) % 2 ≡ 0 → is_signed_face m (pair k x) (i, x ∷ k ∷ []) ≡ true
signed_turned k x i m even =
    let same : sorted (x ∷ k ∷ []) ≡ pair k x = put_in_comm x k [] in
    rw ((bytes_eq-Decides (sorted (x ∷ k ∷ [])) (pair k x)).1 same, even) refl

module _ (k p q : ℕ) where
  -- its other numbers are not k
  pub distinct_of : {w : List ℕ} → Reading k p q w → Distinct w → (k ≢ p) × (k ≢ q)
  distinct_of at_first d = (
    grind (arith, nat_tests, d.0, count_by-cons (nat_eq k) p (q ∷ []), count_by-cons (nat_eq k) q []),
    grind (arith, nat_tests, d.0, count_by-cons (nat_eq k) p (q ∷ []), count_by-cons (nat_eq k) q []),
  )
  distinct_of at_second d = (
    grind (arith, nat_tests, d.1.0, count_by-cons (nat_eq k) p []),
    grind (arith, nat_tests, d.0, count_by-cons (nat_eq q) k (p ∷ []), count_by-cons (nat_eq q) p []),
  )
  distinct_of at_third d = (
    grind (arith, nat_tests, d.0, count_by-cons (nat_eq p) q (k ∷ []), count_by-cons (nat_eq p) k []),
    grind (arith, nat_tests, d.1.0, count_by-cons (nat_eq q) k []),
  )

  -- it has the face at p with the leaving sign
  pub leaves : {w : List ℕ} → Reading k p q w → Distinct w → has_signed (leaving k p) (pair k p) w ≡ true
  leaves {w} r d = rw (distinct_test w d) (found r (distinct_of r d).0)
    where
      found : {v : List ℕ} → Reading k p q v → k ≢ p → list_any (is_signed_face (leaving k p) (pair k p)) (left_out v) ≡ true
      found at_first differ =
          any_from (is_signed_face (leaving k p) (pair k p)) (left_out (k ∷ p ∷ q ∷ [])) (2, k ∷ p ∷ []) (inr (inr (inl refl)))
          (signed_pair k p 2 (leaving k p) (omega arith))
      found at_second differ =
          any_from (is_signed_face (leaving k p) (pair k p)) (left_out (q ∷ k ∷ p ∷ [])) (0, k ∷ p ∷ []) (inl refl)
          (signed_pair k p 0 (leaving k p) (omega arith))
      found at_third differ =
          any_from (is_signed_face (leaving k p) (pair k p)) (left_out (p ∷ q ∷ k ∷ [])) (1, p ∷ k ∷ []) (inr (inl refl))
          (signed_turned k p 1 (leaving k p) (omega (arith, two_orders k p differ)))

  -- and the face at q with the other
  pub enters : {w : List ℕ} → Reading k p q w → Distinct w → has_signed (leaving k q + 1) (pair k q) w ≡ true
  enters {w} r d = rw (distinct_test w d) (found r (distinct_of r d).1)
    where
      found : {v : List ℕ} → Reading k p q v → k ≢ q → list_any (is_signed_face (leaving k q + 1) (pair k q)) (left_out v) ≡ true
      found at_first differ =
          any_from (is_signed_face (leaving k q + 1) (pair k q)) (left_out (k ∷ p ∷ q ∷ [])) (1, k ∷ q ∷ []) (inr (inl refl))
          (signed_pair k q 1 (leaving k q + 1) (omega arith))
      found at_second differ =
          any_from (is_signed_face (leaving k q + 1) (pair k q)) (left_out (q ∷ k ∷ p ∷ [])) (2, q ∷ k ∷ []) (inr (inr (inl refl)))
          (signed_turned k q 2 (leaving k q + 1) (omega (arith, two_orders k q differ)))
      found at_third differ =
          any_from (is_signed_face (leaving k q + 1) (pair k q)) (left_out (p ∷ q ∷ k ∷ [])) (0, q ∷ k ∷ []) (inl refl)
          (signed_turned k q 0 (leaving k q + 1) (omega (arith, two_orders k q differ)))

-- a triangle at k has a reading, and it is the one that `turned` gives
pub turned_is : (k p q : ℕ) {w : List ℕ} → Reading k p q w → Distinct w → turned k w ≡ Some (p, q)
turned_is k p q at_first d = let e : nat_eq k k ≡ true = grind (arith, nat_tests) in rw e refl
turned_is k p q at_second d =
    let e : nat_eq k k ≡ true = grind (arith, nat_tests) in
    let f : nat_eq q k ≡ false = grind (arith, nat_tests, d.0, count_by-cons (nat_eq q) k (p ∷ []), count_by-cons (nat_eq q) p []) in
    rw (f, e) refl
turned_is k p q at_third d =
    let e : nat_eq k k ≡ true = grind (arith, nat_tests) in
    let f : nat_eq p k ≡ false = grind (arith, nat_tests, d.0, count_by-cons (nat_eq p) q (k ∷ []), count_by-cons (nat_eq p) k []) in
    let g : nat_eq q k ≡ false = grind (arith, nat_tests, d.1.0, count_by-cons (nat_eq q) k []) in
    rw (f, g, e) refl

abbrev two : ℕ → ℕ → ℕ × ℕ
two a b = (a, b)

from_turned_case : (k a b c p q : ℕ) → (x y z : Bool) → (x ≡ true → a ≡ k) → (y ≡ true → b ≡ k) → (z ≡ true → c ≡ k) →
    (if x then Some (two b c) else (if y then Some (two c a) else (if z then Some (two a b) else None))) ≡ Some (two p q) → Reading k p q (a ∷ b ∷ c ∷ [])
from_turned_case k a b c p q true y z hx hy hz e =
    let h = same_Some (two b c) (two p q) e in
    rw (hx refl, ap (λ (v : ℕ × ℕ). v.0) h, ap (λ (v : ℕ × ℕ). v.1) h) at_first
from_turned_case k a b c p q false true z hx hy hz e =
    let h = same_Some (two c a) (two p q) e in
    rw (hy refl, ap (λ (v : ℕ × ℕ). v.0) h, ap (λ (v : ℕ × ℕ). v.1) h) at_second
from_turned_case k a b c p q false false true hx hy hz e =
    let h = same_Some (two a b) (two p q) e in
    rw (hz refl, ap (λ (v : ℕ × ℕ). v.0) h, ap (λ (v : ℕ × ℕ). v.1) h) at_third
from_turned_case k a b c p q false false false hx hy hz e = absurd (nothing (two p q) e)
  where
    nothing : (v : ℕ × ℕ) → None ≡ Some v → ⊥
    nothing v h = cc

-- and what `turned` gives is a reading
pub from_turned : (k p q : ℕ) (w : List ℕ) → turned k w ≡ Some (p, q) → Reading k p q w
from_turned k p q [] e = absurd (nothing (two p q) e)
  where
    nothing : (v : ℕ × ℕ) → None ≡ Some v → ⊥
    nothing v h = cc
from_turned k p q (a ∷ []) e = absurd (nothing (two p q) e)
  where
    nothing : (v : ℕ × ℕ) → None ≡ Some v → ⊥
    nothing v h = cc
from_turned k p q (a ∷ b ∷ []) e = absurd (nothing (two p q) e)
  where
    nothing : (v : ℕ × ℕ) → None ≡ Some v → ⊥
    nothing v h = cc
from_turned k p q (a ∷ b ∷ c ∷ []) e =
    from_turned_case k a b c p q (nat_eq a k) (nat_eq b k) (nat_eq c k) (λ h. grind (arith, nat_tests, h)) (λ h. grind (arith, nat_tests, h))
    (λ h. grind (arith, nat_tests, h)) e
from_turned k p q (a ∷ b ∷ c ∷ x ∷ w) e = absurd (nothing (two p q) e)
  where
    nothing : (v : ℕ × ℕ) → None ≡ Some v → ⊥
    nothing v h = cc

-- a triangle with k among its three numbers has a reading
pub has_reading : (k : ℕ) (w : List ℕ) → length w ≡ 3 → In k w → (p : ℕ) × (q : ℕ) × Reading k p q w
has_reading k [] l i = absurd i
has_reading k (a ∷ []) l i = absurd (omega (arith, l))
has_reading k (a ∷ b ∷ []) l i = absurd (omega (arith, l))
has_reading k (a ∷ b ∷ c ∷ []) l (inl e) = (b, c, rw (sym e) at_first)
has_reading k (a ∷ b ∷ c ∷ []) l (inr (inl e)) = (c, a, rw (sym e) at_second)
has_reading k (a ∷ b ∷ c ∷ []) l (inr (inr (inl e))) = (a, b, rw (sym e) at_third)
has_reading k (a ∷ b ∷ c ∷ []) l (inr (inr (inr i))) = absurd i
has_reading k (a ∷ b ∷ c ∷ x ∷ w) l i = absurd (omega (arith, l))

-- its other numbers are p and q
pub other_is : (k p q x : ℕ) {w : List ℕ} → Reading k p q w → In x w → x ≢ k → (x ≡ p) ⊎ (x ≡ q)
other_is k p q x at_first (inl e) differ = absurd (differ e)
other_is k p q x at_first (inr (inl e)) differ = inl e
other_is k p q x at_first (inr (inr (inl e))) differ = inr e
other_is k p q x at_first (inr (inr (inr i))) differ = absurd i
other_is k p q x at_second (inl e) differ = inr e
other_is k p q x at_second (inr (inl e)) differ = absurd (differ e)
other_is k p q x at_second (inr (inr (inl e))) differ = inl e
other_is k p q x at_second (inr (inr (inr i))) differ = absurd i
other_is k p q x at_third (inl e) differ = inl e
other_is k p q x at_third (inr (inl e)) differ = inr e
other_is k p q x at_third (inr (inr (inl e))) differ = absurd (differ e)
other_is k p q x at_third (inr (inr (inr i))) differ = absurd i

-- and all three are in it
pub reading_has : (k p q : ℕ) {w : List ℕ} → Reading k p q w → In k w × In p w × In q w
reading_has k p q at_first = (inl refl, inr (inl refl), inr (inr (inl refl)))
reading_has k p q at_second = (inr (inl refl), inr (inr (inl refl)), inl refl)
reading_has k p q at_third = (inr (inr (inl refl)), inl refl, inr (inl refl))
