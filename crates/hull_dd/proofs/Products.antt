-- The difference of two products of small numbers, as the code takes it.
use Rattle.std.specs.Prelude.{◌≡◌, ℕ, zero, suc, ◌+◌, ◌*◌, ◌^◌, ◌<◌, ℤ, pos, ◌-ℤ◌, ◌*ℤ◌, List, [], ◌∷◌, map, length}
use Rattle.std.proofs.Common.{refl, sym, ap, ◌∙◌, subst, arith, lit<, to_z, of_z, w64, FitsSigned, get_or}
use Rattle.std.proofs.lemmas.List.{length-map}
use Rattle.polynomials.specs.Small.{IsSmall, AreSmall}
use Rattle.polynomials.proofs.SmallLaws.{small-mul, small-sub, small-weaken, small-fits, small-back, same_ints}
use Rattle.iso_model.specs.Turns.{minus}
use Rattle.small_turn.proofs.PointSums.{get_or-minus}
use Rattle.small_turn.proofs.Planes.{length-minus}
use Rattle.lists.proofs.Contained.{any_default}

-- a number as it is read back from its 64 bits
abbrev pub back : ℤ → ℤ
back x = to_z w64 (of_z w64 x)

pub record Products (p x q y : ℤ) : Type 0 where
  pub first : FitsSigned w64 (back p *ℤ back x)
  pub second : FitsSigned w64 (back q *ℤ back y)
  pub both : FitsSigned w64 (back (back p *ℤ back x) -ℤ back (back q *ℤ back y))
  pub value : back (back (back p *ℤ back x) -ℤ back (back q *ℤ back y)) ≡ p *ℤ x -ℤ q *ℤ y
  pub small : IsSmall (2 ^ 62) (p *ℤ x -ℤ q *ℤ y)
  pub read_small : IsSmall (2 ^ 62) (back (back (back p *ℤ back x) -ℤ back (back q *ℤ back y)))

product_small : (p x : ℤ) → IsSmall (2 ^ 32) p → IsSmall (2 ^ 28) x → IsSmall (2 ^ 60) (p *ℤ x)
product_small p x h k = small-weaken (2 ^ 32 * 2 ^ 28) (2 ^ 60) (p *ℤ x) (small-mul (2 ^ 32) (2 ^ 28) p x h k) (omega arith)

backs_product : (p x : ℤ) → IsSmall (2 ^ 32) p → IsSmall (2 ^ 28) x → back p *ℤ back x ≡ p *ℤ x
backs_product p x h k = ap (λ (z : ℤ). z *ℤ back x) (small-back (2 ^ 32) p (lit< tt) h) ∙ ap (λ (z : ℤ). p *ℤ z) (small-back (2 ^ 28) x (lit< tt) k)

pub products : (p x q y : ℤ) → IsSmall (2 ^ 32) p → IsSmall (2 ^ 28) x → IsSmall (2 ^ 32) q → IsSmall (2 ^ 28) y → Products p x q y
products p x q y hp hx hq hy =
    let ef = backs_product p x hp hx in
    let es = backs_product q y hq hy in
    let sf = product_small p x hp hx in
    let ss = product_small q y hq hy in
    let small : IsSmall (2 ^ 62) (p *ℤ x -ℤ q *ℤ y) = small-weaken (2 ^ 60 + 2 ^ 60) (2 ^ 62) (p *ℤ x -ℤ q *ℤ y)
    (small-sub (2 ^ 60) (2 ^ 60) (p *ℤ x) (q *ℤ y) sf ss) (omega arith) in
    let bf : back (back p *ℤ back x) ≡ p *ℤ x = ap back ef ∙ small-back (2 ^ 60) (p *ℤ x) (lit< tt) sf in
    let bs : back (back q *ℤ back y) ≡ q *ℤ y = ap back es ∙ small-back (2 ^ 60) (q *ℤ y) (lit< tt) ss in
    let whole : back (back p *ℤ back x) -ℤ back (back q *ℤ back y) ≡ p *ℤ x -ℤ q *ℤ y = ap (λ (z : ℤ). z -ℤ back (back q *ℤ back y)) bf ∙ ap
    (λ (z : ℤ). p *ℤ x -ℤ z) bs in
    let value : back (back (back p *ℤ back x) -ℤ back (back q *ℤ back y)) ≡ p *ℤ x -ℤ q *ℤ y = ap back whole ∙ small-back (2 ^ 62) (p *ℤ x -ℤ q *ℤ y)
    (lit< tt) small in
    record {
      first = subst (FitsSigned w64) (sym ef) (small-fits (2 ^ 60) (p *ℤ x) sf (lit< tt));
      second = subst (FitsSigned w64) (sym es) (small-fits (2 ^ 60) (q *ℤ y) ss (lit< tt));
      both = subst (FitsSigned w64) (sym whole) (small-fits (2 ^ 62) (p *ℤ x -ℤ q *ℤ y) small (lit< tt));
      value = value;
      small = small;
      read_small = subst (λ (z : ℤ). IsSmall (2 ^ 62) z) (sym value) small;
    }

pub factors_back : (p x q y : ℤ) → IsSmall (2 ^ 32) p → IsSmall (2 ^ 32) q → back p *ℤ x -ℤ back q *ℤ y ≡ p *ℤ x -ℤ q *ℤ y
factors_back p x q y hp hq =
    ap (λ (z : ℤ). z *ℤ x -ℤ back q *ℤ y) (small-back (2 ^ 32) p (lit< tt) hp) ∙ ap (λ (z : ℤ). p *ℤ x -ℤ z *ℤ y) (small-back (2 ^ 32) q (lit< tt) hq)

-- ---- rows

pub scaled_at : (p : ℤ) (xs : List ℤ) (k : ℕ) → k < length xs → get_or (map (λ x. p *ℤ x) xs) k (pos 0) ≡ p *ℤ get_or xs k (pos 0)
scaled_at p [] k h = absurd (omega arith)
scaled_at p (x ∷ xs) zero h = refl
scaled_at p (x ∷ xs) (suc k) h = scaled_at p xs k (omega arith)

-- a row that has at each place the difference of the products is the difference of the scaled rows
pub row_is : (p q : ℤ) (row xs ys : List ℤ) → length row ≡ length xs → length xs ≡ length ys
    → ((k : ℕ) → k < length xs → get_or row k (pos 0) ≡ p *ℤ get_or xs k (pos 0) -ℤ q *ℤ get_or ys k (pos 0))
    → row ≡ minus (map (λ x. p *ℤ x) xs) (map (λ x. q *ℤ x) ys)
row_is p q row xs ys e f h =
    let lx = length-map xs (λ x. p *ℤ x) in
    let ly = length-map ys (λ x. q *ℤ x) in
    let alike : length (map (λ x. p *ℤ x) xs) ≡ length (map (λ x. q *ℤ x) ys) = lx ∙ f ∙ sym ly in
    same_ints row (minus (map (λ x. p *ℤ x) xs) (map (λ x. q *ℤ x) ys)) (e ∙ sym (length-minus (map (λ x. p *ℤ x) xs) (map (λ x. q *ℤ x) ys) alike ∙ lx))
    (λ k l. h k (omega arith)
    ∙ ap (λ (z : ℤ). z -ℤ q *ℤ get_or ys k (pos 0)) (sym (scaled_at p xs k (omega arith)))
    ∙ ap (λ (z : ℤ). get_or (map (λ x. p *ℤ x) xs) k (pos 0) -ℤ z) (sym (scaled_at q ys k (omega arith)))
    ∙ sym (get_or-minus (map (λ x. p *ℤ x) xs) (map (λ x. q *ℤ x) ys) k alike (omega arith)))

pub coefficient : (xs : List ℤ) (k : ℕ) → AreSmall (2 ^ 24) xs → k < length xs → IsSmall (2 ^ 28) (get_or xs k (pos 0))
coefficient xs k h l = small-weaken (2 ^ 24) (2 ^ 28) (get_or xs k (pos 0)) (h k (pos 0) l) (omega arith)

-- the numbers of such a row are small
pub row_small : (p q : ℤ) (row xs ys : List ℤ) → length row ≡ length xs → length xs ≡ length ys → IsSmall (2 ^ 32) p → IsSmall (2 ^ 32) q
    → AreSmall (2 ^ 24) xs → AreSmall (2 ^ 24) ys
    → ((k : ℕ) → k < length xs → get_or row k (pos 0) ≡ p *ℤ get_or xs k (pos 0) -ℤ q *ℤ get_or ys k (pos 0)) → AreSmall (2 ^ 62) row
row_small p q row xs ys e f hp hq hx hy h k d l =
    subst (λ (z : ℤ). IsSmall (2 ^ 62) z) (sym (any_default row k d (pos 0) l ∙ h k (omega arith)))
    (products p (get_or xs k (pos 0)) q (get_or ys k (pos 0)) hp (coefficient xs k hx (omega arith)) hq (coefficient ys k hy (omega arith))).small
