-- The half-space through D points has a normal exactly where the points span a hyperplane.
use Rattle.std.specs.Prelude.{◌≡◌, ◌≢◌, ◌↔◌, ◌⊎◌, ℕ, zero, suc, ◌+◌, ◌<◌, ◌≤◌, ℤ, pos, negsuc, ◌+ℤ◌, ◌-ℤ◌, ◌*ℤ◌, List, [], ◌∷◌, map, length, Any}
use Rattle.std.proofs.Common.{refl, sym, ap, ◌∙◌, subst, arith, get_or, set, length-set, inl, inr}
use Rattle.std.proofs.lemmas.Int.{ints}
use Rattle.std.proofs.lemmas.List.{length-map}
use Rattle.polynomials.proofs.Ring.{ring, var, ◌⊕◌, ◌⊗◌, con}
use Rattle.iso_model.specs.Turns.{turn, dot, cofactors, minus, HasNormal, rows_to, hyper, Spans}
use Rattle.small_turn.proofs.Planes.{TurnLaws, turn_laws, AreWide, hyper-turn, dot-minus}
use Rattle.lists.specs.Orders.{numbers}
use Rattle.std.proofs.lemmas.List.FromFn.{length-range_with_len}

-- ---- a product that is not 0 has a factor that is not 0

pub is_zero : (c : ℤ) → (c ≡ pos 0) ⊎ (c ≢ pos 0)
is_zero (pos zero) = inl refl
is_zero (pos (suc n)) = inr (λ e. absurd (omega (arith, ints, e)))
is_zero (negsuc n) = inr (λ e. absurd (omega (arith, ints, e)))

any_later : (c : ℤ) (cs : List ℤ) → Any (λ x. x ≢ pos 0) cs → Any (λ x. x ≢ pos 0) (c ∷ cs)
any_later c cs a = (suc a.0, a.1, omega (arith, a.2), a.3, a.4)

zero_first : (y r : ℤ) → pos 0 *ℤ y +ℤ r ≡ r
zero_first y r = ring (y ∷ r ∷ []) (con (pos 0) ⊗ var 0 ⊕ var 1) (var 1) refl

pub dot-not_zero : (n y : List ℤ) → dot n y ≢ pos 0 → Any (λ c. c ≢ pos 0) n
unfolding dot
dot-not_zero [] y h = absurd (h refl)
dot-not_zero (c ∷ cs) [] h = absurd (h refl)
dot-not_zero (c ∷ cs) (y ∷ ys) h =
    elim (is_zero c) [
      | inl e ↦ any_later c cs (dot-not_zero cs ys (λ z. h (ap (λ (v : ℤ). v *ℤ y +ℤ dot cs ys) e ∙ zero_first y (dot cs ys) ∙ z)))
      | inr n ↦ (0, c, omega arith, refl, n)
    ]

-- ---- one step along an axis changes a product by the factor there

step_here : (c y r : ℤ) → c *ℤ (y +ℤ pos 1) +ℤ r ≡ (c *ℤ y +ℤ r) +ℤ c
step_here c y r = ring (c ∷ y ∷ r ∷ []) (var 0 ⊗ (var 1 ⊕ con (pos 1)) ⊕ var 2) ((var 0 ⊗ var 1 ⊕ var 2) ⊕ var 0) refl

step_later : (c y r v : ℤ) → c *ℤ y +ℤ (r +ℤ v) ≡ (c *ℤ y +ℤ r) +ℤ v
step_later c y r v = ring (c ∷ y ∷ r ∷ v ∷ []) (var 0 ⊗ var 1 ⊕ (var 2 ⊕ var 3)) ((var 0 ⊗ var 1 ⊕ var 2) ⊕ var 3) refl

pub dot-step : (n y : List ℤ) (k : ℕ) → length n ≡ length y → k < length n → dot n (set y k (get_or y k (pos 0) +ℤ pos 1)) ≡ dot n y +ℤ get_or n k (pos 0)
unfolding dot
dot-step [] y k e h = absurd (omega arith)
dot-step (c ∷ cs) [] k e h = absurd (omega arith)
dot-step (c ∷ cs) (y ∷ ys) zero e h = step_here c y (dot cs ys)
dot-step (c ∷ cs) (y ∷ ys) (suc k) e h =
    ap (λ (v : ℤ). c *ℤ y +ℤ v) (dot-step cs ys k (omega arith) (omega arith)) ∙ step_later c y (dot cs ys) (get_or cs k (pos 0))

-- ---- the two directions

pub length-cofactors : (rows : List (List ℤ)) → length (cofactors rows) ≡ length rows + 1
unfolding cofactors
length-cofactors rows = length-map (numbers (length rows + 1)) _ ∙ length-range_with_len 0 (length rows + 1)

cancelled : (b t c : ℤ) → (b +ℤ c) -ℤ b ≡ t → t ≡ pos 0 → c ≡ pos 0
cancelled b t c e z = omega (arith, ints)

default_same : (xs : List ℤ) (k : ℕ) (d e : ℤ) → k < length xs → get_or xs k d ≡ get_or xs k e
default_same [] k d e h = absurd (omega arith)
default_same (x ∷ xs) zero d e h = refl
default_same (x ∷ xs) (suc k) d e h = default_same xs k d e (omega arith)

normal_spans : (d : ℕ) → TurnLaws d → (p : List ℤ) (ps : List (List ℤ)) → length ps + 1 ≡ d → length p ≡ d → AreWide d ps
    → HasNormal (hyper (p ∷ ps)) → Spans (p ∷ ps)
normal_spans d laws p ps e l w a = (
  set p a.0 (get_or p a.0 (pos 0) +ℤ pos 1),
  length-set p a.0 _ ∙ l ∙ sym e ∙ omega arith,
  λ z.
      a.4
      (sym a.3 ∙ default_same N a.0 a.1 (pos 0) a.2
      ∙ cancelled (dot N p) _ (get_or N a.0 (pos 0))
      (ap (λ (v : ℤ). v -ℤ dot N p) (sym (dot-step N p a.0 (n ∙ sym l) a.2)) ∙ hyper-turn d laws p ps _ e l w (length-set p a.0 _ ∙ l))
      z),
)
  where
    N : List ℤ
    N = cofactors (map (λ q. minus q p) ps)

    n : length N ≡ d
    n = length-cofactors (map (λ q. minus q p) ps) ∙ ap (λ (m : ℕ). m + 1) (length-map ps (λ q. minus q p)) ∙ e

spans_normal : (d : ℕ) → TurnLaws d → (p : List ℤ) (ps : List (List ℤ)) → length ps + 1 ≡ d → length p ≡ d → AreWide d ps → Spans (p ∷ ps)
    → HasNormal (hyper (p ∷ ps))
spans_normal d laws p ps e l w s =
    dot-not_zero N (minus s.0 p) (λ z. s.2 (sym (hyper-turn d laws p ps s.0 e l w k) ∙ sym (dot-minus N s.0 p (k ∙ sym l)) ∙ z))
  where
    N : List ℤ
    N = cofactors (map (λ q. minus q p) ps)

    k : length s.0 ≡ d
    k = s.1 ∙ omega (arith, e)

pub hyper-spans : (d : ℕ) → TurnLaws d → (p : List ℤ) (ps : List (List ℤ)) → length ps + 1 ≡ d → length p ≡ d → AreWide d ps
    → HasNormal (hyper (p ∷ ps)) ↔ Spans (p ∷ ps)
hyper-spans d laws p ps e l w = (normal_spans d laws p ps e l w, spans_normal d laws p ps e l w)

-- ---- a half-space whose normal and bound are those of the half-space through the points

-- what `hyper` ensures of its answer, beside the two equations
pub record PlaneFacts (d : ℕ) (n : List ℤ) (b : ℤ) (ps : List (List ℤ)) : Type 0 where
  pub turns : (x : List ℤ) → length x ≡ d → dot n x -ℤ b ≡ turn (rows_to ps x)
  pub spans : HasNormal (record { normal = n; bound = b }) ↔ Spans ps

pub plane_facts : (d c : ℕ) → 2 ≤ d → d ≤ 4 → c ≡ d → (n : List ℤ) (b : ℤ) (p : List ℤ) (ps : List (List ℤ)) → n ≡ (hyper (p ∷ ps)).normal
    → b ≡ (hyper (p ∷ ps)).bound
    → length ps + 1 ≡ d → length p ≡ d → AreWide d ps → PlaneFacts c n b (p ∷ ps)
plane_facts d c least greatest same n b p ps en eb e l w = record {
  turns = λ x k. ap (λ (m : List ℤ). dot m x -ℤ b) en ∙ ap (λ (v : ℤ). dot (hyper (p ∷ ps)).normal x -ℤ v) eb
      ∙ hyper-turn d (turn_laws d least greatest) p ps x e l w (k ∙ same);
  spans = subst (λ (m : List ℤ). Any (λ x. x ≢ pos 0) m ↔ Spans (p ∷ ps)) (sym en) (hyper-spans d (turn_laws d least greatest) p ps e l w);
}
