-- Greatest common divisors of lists, number by number, and quotients by divisors.
use Rattle.std.specs.Prelude.{◌≡◌, ℕ, suc, ◌^◌, ◌<◌, ◌≤◌, ℤ, pos, negsuc, neg_ℤ, ◌+ℤ◌, ◌*ℤ◌, nat_abs, List, [], ◌∷◌, ◌++◌, map, length, All}
use Rattle.std.specs.Int.{◌∣◌, IsGcd}
use Rattle.std.proofs.Common.{refl, arith, ap, sym, subst, ◌∙◌, get_or, to_z, of_z, w64, FitsSigned}
use Rattle.std.proofs.Math.Nat.{eq-zero_of_zero-dvd}
use Rattle.std.proofs.lemmas.Int.{ints, quot-rem, quot_is, quot_fits, fits_signed_from_abs}
use Rattle.std.proofs.lemmas.Nat.Gcd.{dvd_refl, dvd_trans, mod-eq-zero_of_dvd}
use Rattle.std.proofs.lemmas.List.Elements.{All-nil, All-cons, All-head, All-tail, All-push, All-weaker, Contains-get_or, Contains-append_left}
use Rattle.std.proofs.lemmas.List.Elements.{Contains-push, All-contains}
use lib.Signed.{quot_z, rem_z, ◌<ℤ◌}
use Rattle.polynomials.proofs.IntLaws.{mul-comm, mul-zero_left, add-zero_right}
use Rattle.halfspace.specs.Divisors.{IsGreatestDivisor, IsReduced}

-- ---- greatest common divisors of lists

pub greatest_of_one : (b : ℤ) → IsGreatestDivisor (b ∷ []) (nat_abs b)
greatest_of_one b = record {
  divides = All-cons (λ x. nat_abs b ∣ nat_abs x) b [] (dvd_refl (nat_abs b)) (All-nil (λ x. nat_abs b ∣ nat_abs x));
  greatest = λ d h. All-head (λ x. d ∣ nat_abs x) b [] h;
}

pub greatest_more : (xs : List ℤ) (x : ℤ) (g r : ℕ) → IsGreatestDivisor xs g → IsGcd g (nat_abs x) r → IsGreatestDivisor (xs ++ x ∷ []) r
greatest_more xs x g r h k = record {
  divides = All-push (λ y. r ∣ nat_abs y) xs x (All-weaker (λ y. g ∣ nat_abs y) (λ y. r ∣ nat_abs y) (λ y p. dvd_trans r k.0 p) xs h.divides) k.1;
  greatest = λ d p. k.2 d (h.greatest d (before d p)) (All-contains (λ y. d ∣ nat_abs y) (xs ++ x ∷ []) x p (Contains-push xs x));
}
  where
    before : (d : ℕ) → All (λ y. d ∣ nat_abs y) (xs ++ x ∷ []) → All (λ y. d ∣ nat_abs y) xs
    before d p =
        λ i e l.
        All-contains (λ y. d ∣ nat_abs y) (xs ++ x ∷ []) (get_or xs i e) p
        (Contains-append_left xs (x ∷ []) (get_or xs i e) (Contains-get_or xs i e l))

-- ---- quotients by divisors

no_rest : (x : ℤ) (g : ℕ) → g ∣ nat_abs x → rem_z x (pos g) ≡ pos 0
no_rest (pos a) g d = ap pos (mod-eq-zero_of_dvd g d)
no_rest (negsuc a) g d = ap (λ (n : ℕ). neg_ℤ (pos n)) (mod-eq-zero_of_dvd g d)

exact_quotient : (x : ℤ) (g : ℕ) → g ∣ nat_abs x → x ≡ pos g *ℤ quot_z x (pos g)
exact_quotient x g d =
    sym (quot-rem x (pos g)) ∙ ap (λ (r : ℤ). quot_z x (pos g) *ℤ pos g +ℤ r) (no_rest x g d) ∙ add-zero_right (quot_z x (pos g) *ℤ pos g)
    ∙ mul-comm (quot_z x (pos g)) (pos g)

-- what the division of an i64 by a cast u64 gives
pub quotient_is : (x : ℤ) (g : ℕ) → 0 < g → g ≤ 2 ^ 62 → g ∣ nat_abs x → FitsSigned w64 x
    → x ≡ pos g *ℤ to_z w64 (of_z w64 (quot_z (to_z w64 (of_z w64 x)) (to_z w64 g)))
quotient_is x g p s d f =
    let above : pos 0 <ℤ pos g = omega (arith, ints) in
    let fits : FitsSigned w64 (pos g) = fits_signed_from_abs w64 (pos g) (omega arith) in
    exact_quotient x g d ∙ ap (λ (q : ℤ). pos g *ℤ q) (sym (quot_is w64 x (pos g) f fits (quot_fits w64 x (pos g) f above)))

-- ---- a half-space of zeros

zero_of_abs : (x : ℤ) → 0 ∣ nat_abs x → x ≡ pos 0
zero_of_abs (pos a) d = ap pos (eq-zero_of_zero-dvd d)
zero_of_abs (negsuc a) d = absurd (let e : suc a ≡ 0 = eq-zero_of_zero-dvd d in omega arith)

zero_product : (x : ℤ) → 0 ∣ nat_abs x → x ≡ pos 0 *ℤ x
zero_product x d = zero_of_abs x d ∙ sym (mul-zero_left x)

zeros_same : (xs : List ℤ) → All (λ x. 0 ∣ nat_abs x) xs → xs ≡ map (λ x. pos 0 *ℤ x) xs
zeros_same [] h = refl
zeros_same (x ∷ xs) h =
    let a = zero_product x (All-head (λ y. 0 ∣ nat_abs y) x xs h) in
    let b = zeros_same xs (All-tail (λ y. 0 ∣ nat_abs y) x xs h) in
    cc

pub zero_reduced : (n : List ℤ) (b : ℤ) (g : ℕ) → g ≡ 0 → IsGreatestDivisor (b ∷ n) g → IsReduced n b n b
zero_reduced n b g z h =
    let k = subst (λ (d : ℕ). IsGreatestDivisor (b ∷ n) d) z h in
    record {
      divisor = 0;
      greatest = k;
      coefficients = zeros_same n (All-tail (λ y. 0 ∣ nat_abs y) b n k.divides);
      constant = zero_product b (All-head (λ y. 0 ∣ nat_abs y) b n k.divides);
      stays = λ _. (refl, refl);
    }

-- ---- numbers that were divided one by one

pub quotients_same : (xs ys : List ℤ) (g : ℕ) → length xs ≡ length ys → ((k : ℕ) → k < length xs → get_or xs k (pos 0) ≡ pos g *ℤ get_or ys k (pos 0))
    → xs ≡ map (λ y. pos g *ℤ y) ys
quotients_same [] [] g e h = refl
quotients_same [] (y ∷ ys) g e h = absurd (omega arith)
quotients_same (x ∷ xs) [] g e h = absurd (omega arith)
quotients_same (x ∷ xs) (y ∷ ys) g e h =
    let a : x ≡ pos g *ℤ y = h 0 (omega arith) in
    let b = quotients_same xs ys g (omega arith) (λ k p. h (suc k) (omega arith)) in
    cc

pub divides_at : (n : List ℤ) (b : ℤ) (g k : ℕ) → k < length n → IsGreatestDivisor (b ∷ n) g → g ∣ nat_abs (get_or n k (pos 0))
divides_at n b g k p h = All-tail (λ y. g ∣ nat_abs y) b n h.divides k (pos 0) p
