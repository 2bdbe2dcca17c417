-- The slack of a combination of two half-spaces.
use Rattle.std.specs.Prelude.{◌≡◌, ℕ, ℤ, ◌+ℤ◌, ◌-ℤ◌, ◌*ℤ◌, List, [], ◌∷◌, map, length}
use Rattle.std.proofs.Common.{refl, sym, ap, ◌∙◌, arith}
use Rattle.std.proofs.lemmas.List.{length-map}
use Rattle.polynomials.proofs.Ring.{ring, var, ◌⊕◌, ◌⊖◌, ◌⊗◌}
use Rattle.iso_model.specs.Turns.{HalfSpace, slack, dot, minus}
use Rattle.small_turn.proofs.Planes.{dot-scaled, length-minus}
use Rattle.hull_dd.specs.Generators.{combined}

minus_step : (x y z r s : ℤ) → (x -ℤ y) *ℤ z +ℤ (r -ℤ s) ≡ (x *ℤ z +ℤ r) -ℤ (y *ℤ z +ℤ s)
minus_step x y z r s = ring (x ∷ y ∷ z ∷ r ∷ s ∷ []) ((var 0 ⊖ var 1) ⊗ var 2 ⊕ (var 3 ⊖ var 4)) ((var 0 ⊗ var 2 ⊕ var 3) ⊖ (var 1 ⊗ var 2 ⊕ var 4)) refl

pub dot-minus_left : (x y z : List ℤ) → length x ≡ length y → dot (minus x y) z ≡ dot x z -ℤ dot y z
unfolding dot
dot-minus_left [] [] z e = refl
dot-minus_left [] (y ∷ ys) z e = absurd (omega arith)
dot-minus_left (x ∷ xs) [] z e = absurd (omega arith)
dot-minus_left (x ∷ xs) (y ∷ ys) [] e = refl
dot-minus_left (x ∷ xs) (y ∷ ys) (z ∷ zs) e =
    ap (λ (v : ℤ). (x -ℤ y) *ℤ z +ℤ v) (dot-minus_left xs ys zs (omega arith)) ∙ minus_step x y z (dot xs zs) (dot ys zs)

slack_step : (p q b c m n : ℤ) → (p *ℤ b -ℤ q *ℤ c) -ℤ (p *ℤ m -ℤ q *ℤ n) ≡ p *ℤ (b -ℤ m) -ℤ q *ℤ (c -ℤ n)
slack_step p q b c m n = ring (p ∷ q ∷ b ∷ c ∷ m ∷ n ∷ []) ((var 0 ⊗ var 2 ⊖ var 1 ⊗ var 3) ⊖ (var 0 ⊗ var 4 ⊖ var 1 ⊗ var 5))
    (var 0 ⊗ (var 2 ⊖ var 4) ⊖ var 1 ⊗ (var 3 ⊖ var 5)) refl

scaled_lengths : (p q : ℤ) (h g : HalfSpace) → length h.normal ≡ length g.normal → length (map (λ x. p *ℤ x) h.normal) ≡ length (map (λ x. q *ℤ x) g.normal)
scaled_lengths p q h g e = length-map h.normal (λ x. p *ℤ x) ∙ e ∙ sym (length-map g.normal (λ x. q *ℤ x))

pub combined-slack : (p : ℤ) (h : HalfSpace) (q : ℤ) (g : HalfSpace) → length h.normal ≡ length g.normal → (x : List ℤ)
    → slack (combined p h q g) x ≡ p *ℤ slack h x -ℤ q *ℤ slack g x
combined-slack p h q g e x =
    ap (λ (v : ℤ). (p *ℤ h.bound -ℤ q *ℤ g.bound) -ℤ v)
    (dot-minus_left (map (λ x. p *ℤ x) h.normal) (map (λ x. q *ℤ x) g.normal) x (scaled_lengths p q h g e)
    ∙ ap (λ (v : ℤ). v -ℤ dot (map (λ x. q *ℤ x) g.normal) x) (dot-scaled p h.normal x)
    ∙ ap (λ (v : ℤ). p *ℤ dot h.normal x -ℤ v) (dot-scaled q g.normal x))
    ∙ slack_step p q h.bound g.bound (dot h.normal x) (dot g.normal x)

pub combined-wide : (p : ℤ) (h : HalfSpace) (q : ℤ) (g : HalfSpace) (d : ℕ) → length h.normal ≡ d → length g.normal ≡ d → length (combined p h q g).normal ≡ d
combined-wide p h q g d a b =
    length-minus (map (λ x. p *ℤ x) h.normal) (map (λ x. q *ℤ x) g.normal) (scaled_lengths p q h g (a ∙ sym b)) ∙ length-map h.normal (λ x. p *ℤ x) ∙ a
