-- Half-spaces through D points: what `hyper` gives, and that a half-space that is tight at D points that span is it up to factors.
use Rattle.std.specs.Prelude.{◌≡◌, ℕ, zero, suc, ◌+◌, ◌≤◌, ℤ, pos, ◌+ℤ◌, ◌-ℤ◌, ◌*ℤ◌, List, [], ◌∷◌, ◌++◌, map, length}
use Rattle.std.proofs.Common.{refl, sym, ap, ◌∙◌, arith}
use Rattle.std.proofs.lemmas.Int.{ints}
use Rattle.polynomials.proofs.Ring.{ring, var, ◌⊕◌, ◌⊖◌, ◌⊗◌, con}
use Rattle.iso_model.specs.Turns.{turn, dot, cofactors, minus, HalfSpace, slack, IsTight, rows_to, hyper}
use Rattle.small_turn.proofs.Cramer.{scaled, cramer_two, cramer_three, cramer_four}
use Rattle.small_turn.proofs.TurnLaws.{turn-expand_two, turn-expand_three, turn-expand_four}
use Rattle.polynomials.proofs.IntLaws.{sub_zero, mul-sub}

-- ---- each member of a list has the length d

abbrev pub AreWide : ℕ → List (List ℤ) → Type 0
AreWide d [] = Unit {0}
AreWide d (r ∷ rs) = (length r ≡ d) × AreWide d rs

abbrev pub AreUpright : List ℤ → List (List ℤ) → Type 0
AreUpright n [] = Unit {0}
AreUpright n (r ∷ rs) = (dot n r ≡ pos 0) × AreUpright n rs

abbrev pub AreTight : HalfSpace → List (List ℤ) → Type 0
AreTight h [] = Unit {0}
AreTight h (p ∷ ps) = IsTight h p × AreTight h ps

-- ---- the laws of turns in one dimension

pub record TurnLaws (d : ℕ) : Type 0 where
  pub expand : (rows : List (List ℤ)) (x : List ℤ) → length rows + 1 ≡ d → AreWide d rows → length x ≡ d → turn (rows ++ (x ∷ [])) ≡ dot (cofactors rows) x
  pub cramer : (n : List ℤ) (rows : List (List ℤ)) (x : List ℤ) → length n ≡ d → length rows + 1 ≡ d → AreWide d rows → length x ≡ d → AreUpright n rows
      → scaled (turn (rows ++ (x ∷ []))) n ≡ scaled (dot n x) (cofactors rows)

expand_two : (rows : List (List ℤ)) (x : List ℤ) → length rows + 1 ≡ 2 → AreWide 2 rows → length x ≡ 2 → turn (rows ++ (x ∷ [])) ≡ dot (cofactors rows) x
expand_two (u ∷ []) x e w l = turn-expand_two u x w.0 l
expand_two [] x e w l = absurd (omega arith)
expand_two (u ∷ v ∷ rs) x e w l = absurd (omega arith)

expand_three : (rows : List (List ℤ)) (x : List ℤ) → length rows + 1 ≡ 3 → AreWide 3 rows → length x ≡ 3 → turn (rows ++ (x ∷ [])) ≡ dot (cofactors rows) x
expand_three (u ∷ v ∷ []) x e w l = turn-expand_three u v x w.0 w.1.0 l
expand_three [] x e w l = absurd (omega arith)
expand_three (u ∷ []) x e w l = absurd (omega arith)
expand_three (u ∷ v ∷ t ∷ rs) x e w l = absurd (omega arith)

expand_four : (rows : List (List ℤ)) (x : List ℤ) → length rows + 1 ≡ 4 → AreWide 4 rows → length x ≡ 4 → turn (rows ++ (x ∷ [])) ≡ dot (cofactors rows) x
expand_four (u ∷ v ∷ t ∷ []) x e w l = turn-expand_four u v t x w.0 w.1.0 w.1.1.0 l
expand_four [] x e w l = absurd (omega arith)
expand_four (u ∷ []) x e w l = absurd (omega arith)
expand_four (u ∷ v ∷ []) x e w l = absurd (omega arith)
expand_four (u ∷ v ∷ t ∷ s ∷ rs) x e w l = absurd (omega arith)

rule_two : (n : List ℤ) (rows : List (List ℤ)) (x : List ℤ) → length n ≡ 2 → length rows + 1 ≡ 2 → AreWide 2 rows → length x ≡ 2 → AreUpright n rows
    → scaled (turn (rows ++ (x ∷ []))) n ≡ scaled (dot n x) (cofactors rows)
rule_two n (u ∷ []) x k e w l h = cramer_two n u x k w.0 l h.0
rule_two n [] x k e w l h = absurd (omega arith)
rule_two n (u ∷ v ∷ rs) x k e w l h = absurd (omega arith)

rule_three : (n : List ℤ) (rows : List (List ℤ)) (x : List ℤ) → length n ≡ 3 → length rows + 1 ≡ 3 → AreWide 3 rows → length x ≡ 3 → AreUpright n rows
    → scaled (turn (rows ++ (x ∷ []))) n ≡ scaled (dot n x) (cofactors rows)
rule_three n (u ∷ v ∷ []) x k e w l h = cramer_three n u v x k w.0 w.1.0 l h.0 h.1.0
rule_three n [] x k e w l h = absurd (omega arith)
rule_three n (u ∷ []) x k e w l h = absurd (omega arith)
rule_three n (u ∷ v ∷ t ∷ rs) x k e w l h = absurd (omega arith)

rule_four : (n : List ℤ) (rows : List (List ℤ)) (x : List ℤ) → length n ≡ 4 → length rows + 1 ≡ 4 → AreWide 4 rows → length x ≡ 4 → AreUpright n rows
    → scaled (turn (rows ++ (x ∷ []))) n ≡ scaled (dot n x) (cofactors rows)
rule_four n (u ∷ v ∷ t ∷ []) x k e w l h = cramer_four n u v t x k w.0 w.1.0 w.1.1.0 l h.0 h.1.0 h.1.1.0
rule_four n [] x k e w l h = absurd (omega arith)
rule_four n (u ∷ []) x k e w l h = absurd (omega arith)
rule_four n (u ∷ v ∷ []) x k e w l h = absurd (omega arith)
rule_four n (u ∷ v ∷ t ∷ s ∷ rs) x k e w l h = absurd (omega arith)

pub turn_laws_two : TurnLaws 2
turn_laws_two = record { expand = expand_two; cramer = rule_two }

pub turn_laws_three : TurnLaws 3
turn_laws_three = record { expand = expand_three; cramer = rule_three }

pub turn_laws_four : TurnLaws 4
turn_laws_four = record { expand = expand_four; cramer = rule_four }

-- in each dimension of this project
pub turn_laws : (d : ℕ) → 2 ≤ d → d ≤ 4 → TurnLaws d
turn_laws zero p q = absurd (omega arith)
turn_laws (suc zero) p q = absurd (omega arith)
turn_laws (suc (suc zero)) p q = turn_laws_two
turn_laws (suc (suc (suc zero))) p q = turn_laws_three
turn_laws (suc (suc (suc (suc zero)))) p q = turn_laws_four
turn_laws (suc (suc (suc (suc (suc d))))) p q = absurd (omega arith)

-- ---- products with a normal

scaled_step : (c x y r : ℤ) → c *ℤ x *ℤ y +ℤ c *ℤ r ≡ c *ℤ (x *ℤ y +ℤ r)
scaled_step c x y r = ring (c ∷ x ∷ y ∷ r ∷ []) (var 0 ⊗ var 1 ⊗ var 2 ⊕ var 0 ⊗ var 3) (var 0 ⊗ (var 1 ⊗ var 2 ⊕ var 3)) refl

pub dot-scaled : (c : ℤ) (n y : List ℤ) → dot (scaled c n) y ≡ c *ℤ dot n y
unfolding dot
dot-scaled c [] y = ring (c ∷ []) (con (pos 0)) (var 0 ⊗ con (pos 0)) refl
dot-scaled c (x ∷ n) [] = ring (c ∷ []) (con (pos 0)) (var 0 ⊗ con (pos 0)) refl
dot-scaled c (x ∷ n) (y ∷ ys) = ap (λ v. c *ℤ x *ℤ y +ℤ v) (dot-scaled c n ys) ∙ scaled_step c x y (dot n ys)

minus_step : (n x y r s : ℤ) → n *ℤ (x -ℤ y) +ℤ (r -ℤ s) ≡ (n *ℤ x +ℤ r) -ℤ (n *ℤ y +ℤ s)
minus_step n x y r s = ring (n ∷ x ∷ y ∷ r ∷ s ∷ []) (var 0 ⊗ (var 1 ⊖ var 2) ⊕ (var 3 ⊖ var 4)) ((var 0 ⊗ var 1 ⊕ var 3) ⊖ (var 0 ⊗ var 2 ⊕ var 4)) refl

pub dot-minus : (n x y : List ℤ) → length x ≡ length y → dot n (minus x y) ≡ dot n x -ℤ dot n y
unfolding dot
dot-minus [] x y e = refl
dot-minus (n ∷ ns) [] [] e = refl
dot-minus (n ∷ ns) [] (y ∷ ys) e = absurd (omega arith)
dot-minus (n ∷ ns) (x ∷ xs) [] e = absurd (omega arith)
dot-minus (n ∷ ns) (x ∷ xs) (y ∷ ys) e =
    ap (λ v. n *ℤ (x -ℤ y) +ℤ v) (dot-minus ns xs ys (omega arith)) ∙ minus_step n x y (dot ns xs) (dot ns ys)

pub length-minus : (x y : List ℤ) → length x ≡ length y → length (minus x y) ≡ length x
length-minus [] y e = refl
length-minus (x ∷ xs) [] e = absurd (omega arith)
length-minus (x ∷ xs) (y ∷ ys) e = ap suc (length-minus xs ys (omega arith))

-- ---- the half-space through D points

pub differences-wide : (d : ℕ) (p : List ℤ) (ps : List (List ℤ)) → length p ≡ d → AreWide d ps → AreWide d (map (λ q. minus q p) ps)
differences-wide d p [] e w = tt
differences-wide d p (q ∷ ps) e w = (length-minus q p (w.0 ∙ sym e) ∙ w.0, differences-wide d p ps e w.1)

differences-length : (p : List ℤ) (ps : List (List ℤ)) → length (map (λ q. minus q p) ps) ≡ length ps
differences-length p [] = refl
differences-length p (q ∷ ps) = ap suc (differences-length p ps)

-- for every point x, normal · x - bound is the turn of the rows to the other points and to x
pub hyper-turn : (d : ℕ) → TurnLaws d → (p : List ℤ) (ps : List (List ℤ)) (x : List ℤ) → length ps + 1 ≡ d → length p ≡ d → AreWide d ps → length x ≡ d
    → dot (hyper (p ∷ ps)).normal x -ℤ (hyper (p ∷ ps)).bound ≡ turn (rows_to (p ∷ ps) x)
hyper-turn d laws p ps x e l w k =
    sym (dot-minus (cofactors (map (λ q. minus q p) ps)) x p (k ∙ sym l))
    ∙ sym
    (laws.expand (map (λ q. minus q p) ps) (minus x p) (ap (λ (m : ℕ). m + 1) (differences-length p ps) ∙ e) (differences-wide d p ps l w)
    (length-minus x p (k ∙ sym l) ∙ k))

-- ---- a half-space that is tight at D points that span

tight_upright : (h : HalfSpace) (d : ℕ) (p : List ℤ) (ps : List (List ℤ)) → length p ≡ d → AreWide d ps → IsTight h p → AreTight h ps
    → AreUpright h.normal (map (λ q. minus q p) ps)
tight_upright h d p [] l w t ts = tt
tight_upright h d p (q ∷ ps) l w t ts =
    (dot-minus h.normal q p (w.0 ∙ sym l) ∙ omega (arith, ints, t, ts.0), tight_upright h d p ps l w.1 t ts.1)

-- the half-space and that of `hyper` have one slack up to the factors p and q, where p is the turn with any further point x
pub record SamePlane (d : ℕ) (p q : ℤ) (h g : HalfSpace) : Type 0 where
  pub normals : scaled p h.normal ≡ scaled q g.normal
  pub slacks : (y : List ℤ) → p *ℤ slack h y ≡ q *ℤ slack g y

pub tight_same : (d : ℕ) → TurnLaws d → (h : HalfSpace) (p : List ℤ) (ps : List (List ℤ)) (x : List ℤ)
    → length h.normal ≡ d → length ps + 1 ≡ d → length p ≡ d → AreWide d ps → length x ≡ d → IsTight h p → AreTight h ps
    → SamePlane d (turn (rows_to (p ∷ ps) x)) (dot h.normal (minus x p)) h (hyper (p ∷ ps))
tight_same d laws h p ps x n e l w k t ts = record {
  normals = same;
  slacks = λ y. mul-sub f h.bound (dot h.normal y)
      ∙ ap (λ v. f *ℤ v -ℤ f *ℤ dot h.normal y) (sub_zero h.bound (dot h.normal p) t)
      ∙ ap (λ v. v -ℤ f *ℤ dot h.normal y) (sym (dot-scaled f h.normal p))
      ∙ ap (λ v. dot (scaled f h.normal) p -ℤ v) (sym (dot-scaled f h.normal y))
      ∙ ap (λ (m : List ℤ). dot m p -ℤ dot m y) same
      ∙ ap (λ v. v -ℤ dot (scaled g N) y) (dot-scaled g N p)
      ∙ ap (λ v. g *ℤ dot N p -ℤ v) (dot-scaled g N y)
      ∙ sym (mul-sub g (dot N p) (dot N y));
}
  where
    rows : List (List ℤ)
    rows = map (λ q. minus q p) ps

    N : List ℤ
    N = cofactors rows

    f : ℤ
    f = turn (rows_to (p ∷ ps) x)

    g : ℤ
    g = dot h.normal (minus x p)

    same : scaled f h.normal ≡ scaled g N
    same =
        laws.cramer h.normal rows (minus x p) n (ap (λ (m : ℕ). m + 1) (differences-length p ps) ∙ e) (differences-wide d p ps l w)
        (length-minus x p (k ∙ sym l) ∙ k) (tight_upright h d p ps l w t ts)
