-- The facet's half-space and the half-space through D spanning points of its tight set are tight at the same points, and one holds what the other or
-- its reverse holds.
use Rattle.std.specs.Prelude.{◌≡◌, ◌≢◌, ◌⊎◌, ◌↔◌, ℕ, zero, suc, ◌<◌, ℤ, pos, negsuc, ◌*ℤ◌, ◌≤ℤ◌, List, [], ◌∷◌, length, get_or}
use Rattle.std.proofs.Common.{refl, sym, ap, ◌∙◌, subst, arith, inl, inr}
use Rattle.std.proofs.lemmas.Int.{ints}
use Rattle.polynomials.proofs.IntLaws.{mul-eq-zero, mul-zero_left, mul-comm}
use Rattle.iso_model.specs.Turns.{HalfSpace, slack, IsTight, Holds, HasNormal}
use Rattle.small_turn.proofs.Cramer.{scaled}
use Rattle.small_turn.proofs.Planes.{SamePlane}

head_same : (a b : ℤ) (xs ys : List ℤ) → (a ∷ xs) ≡ (b ∷ ys) → a ≡ b
head_same a b xs ys e = cc

tail_same : (a b : ℤ) (xs ys : List ℤ) → (a ∷ xs) ≡ (b ∷ ys) → xs ≡ ys
tail_same a b xs ys e = cc

-- a list that a factor other than 0 takes to zeros has only zeros
all_zero : (p : ℤ) (ns ms : List ℤ) → p ≢ pos 0 → scaled p ns ≡ scaled (pos 0) ms → (k : ℕ) (d : ℤ) → k < length ns → get_or ns k d ≡ pos 0
all_zero p [] ms n e k d h = absurd (omega arith)
all_zero p (x ∷ ns) [] n e k d h = cc
all_zero p (x ∷ ns) (m ∷ ms) n e zero d h = mul-eq-zero p x (head_same _ _ _ _ e ∙ mul-zero_left m) n
all_zero p (x ∷ ns) (m ∷ ms) n e (suc k) d h = all_zero p ns ms n (tail_same _ _ _ _ e) k d (omega arith)

pub factor_not_zero : (d : ℕ) (p q : ℤ) (h g : HalfSpace) → SamePlane d p q h g → p ≢ pos 0 → HasNormal h → q ≢ pos 0
factor_not_zero d p q h g s n a z = a.4 (sym a.3 ∙ all_zero p h.normal g.normal n (s.normals ∙ ap (λ (c : ℤ). scaled c g.normal) z) a.0 a.1 a.2)

tight_over : (p q s t : ℤ) → q ≢ pos 0 → p *ℤ s ≡ q *ℤ t → s ≡ pos 0 → t ≡ pos 0
tight_over p q s t n e z = mul-eq-zero q t (sym e ∙ ap (λ (v : ℤ). p *ℤ v) z ∙ mul-comm p (pos 0) ∙ mul-zero_left p) n

-- tight at the same points
pub tight_alike : (d : ℕ) (p q : ℤ) (h g : HalfSpace) → SamePlane d p q h g → p ≢ pos 0 → q ≢ pos 0 → (y : List ℤ) → IsTight h y ↔ IsTight g y
tight_alike d p q h g s m n y = (tight_over p q (slack h y) (slack g y) n (s.slacks y), tight_over q p (slack g y) (slack h y) m (sym (s.slacks y)))

-- ---- on one side

times_pos : (b : ℕ) (t : ℤ) → pos 0 ≤ℤ (pos (suc b) *ℤ t) → pos 0 ≤ℤ t
times_pos b (pos k) h = omega (arith, ints)
times_pos b (negsuc k) h = absurd (omega (arith, ints))

times_neg : (b : ℕ) (t : ℤ) → pos 0 ≤ℤ (negsuc b *ℤ t) → t ≤ℤ pos 0
times_neg b (pos zero) h = omega (arith, ints)
times_neg b (pos (suc k)) h = absurd (omega (arith, ints))
times_neg b (negsuc k) h = omega (arith, ints)

pos_times : (b : ℕ) (t : ℤ) → pos 0 ≤ℤ t → pos 0 ≤ℤ (pos b *ℤ t)
pos_times b (pos k) h = omega (arith, ints)
pos_times b (negsuc k) h = absurd (omega (arith, ints))

neg_over : (a b : ℕ) (s t : ℤ) → pos 0 ≤ℤ s → negsuc a *ℤ s ≡ pos (suc b) *ℤ t → t ≤ℤ pos 0
neg_over a b (pos k) (pos zero) h e = omega (arith, ints)
neg_over a b (pos k) (pos (suc j)) h e = absurd (omega (arith, ints))
neg_over a b (pos k) (negsuc j) h e = omega (arith, ints)
neg_over a b (negsuc k) t h e = absurd (omega (arith, ints))

pos_over : (a b : ℕ) (s t : ℤ) → pos 0 ≤ℤ s → negsuc a *ℤ s ≡ negsuc b *ℤ t → pos 0 ≤ℤ t
pos_over a b (pos k) (pos j) h e = omega (arith, ints)
pos_over a b (pos k) (negsuc j) h e = absurd (omega (arith, ints))
pos_over a b (negsuc k) t h e = absurd (omega (arith, ints))

-- where the one holds each point, the other holds each, or has each on its other side
pub same_side : (d : ℕ) (p q : ℤ) (h g : HalfSpace) → SamePlane d p q h g → p ≢ pos 0 → q ≢ pos 0
    → ((y : List ℤ) → Holds h y → pos 0 ≤ℤ slack g y) ⊎ ((y : List ℤ) → Holds h y → slack g y ≤ℤ pos 0)
same_side d (pos zero) q h g s n m = absurd (n refl)
same_side d (pos (suc a)) (pos zero) h g s n m = absurd (m refl)
same_side d (pos (suc a)) (pos (suc b)) h g s n m =
    inl (λ y k. times_pos b (slack g y) (subst (λ (v : ℤ). pos 0 ≤ℤ v) (s.slacks y) (pos_times (suc a) (slack h y) k)))
same_side d (pos (suc a)) (negsuc b) h g s n m =
    inr (λ y k. times_neg b (slack g y) (subst (λ (v : ℤ). pos 0 ≤ℤ v) (s.slacks y) (pos_times (suc a) (slack h y) k)))
same_side d (negsuc a) (pos zero) h g s n m = absurd (m refl)
same_side d (negsuc a) (pos (suc b)) h g s n m =
    inr (λ y k. neg_over a b (slack h y) (slack g y) k (s.slacks y))
same_side d (negsuc a) (negsuc b) h g s n m =
    inl (λ y k. pos_over a b (slack h y) (slack g y) k (s.slacks y))
