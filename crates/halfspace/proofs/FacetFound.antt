-- A facet with D points that span a hyperplane is the tight set of the half-space through them, and all points lie on one side of that.
use Rattle.std.specs.Prelude.{◌≡◌, ◌≢◌, ◌⊎◌, ℕ, ◌+◌, ◌≤◌, ℤ, pos, ◌-ℤ◌, ◌≤ℤ◌, true, List, [], ◌∷◌, map, length, slice_index_or, All, IsTrue}
use Rattle.std.proofs.Common.{sym, ap, ◌∙◌, subst, arith, inl, inr}
use Rattle.std.proofs.lemmas.Int.{ints}
use Rattle.std.proofs.lemmas.List.{length-map}
use Rattle.std.proofs.lemmas.List.Elements.{All-head, All-tail, filter_agree}
use Rattle.lists.specs.Orders.{numbers, has}
use Rattle.iso_model.specs.Turns.{HalfSpace, slack, IsTight, same_int, tight_set, Holds, HasNormal, Spans, rows_to, hyper, turn, minus, dot, cofactors}
use Rattle.iso_model.specs.Hulls.{IsFacet, members}
use Rattle.small_turn.proofs.Planes.{TurnLaws, turn_laws, AreWide, AreTight, AreUpright, SamePlane, tight_same, dot-minus, differences-wide}
use Rattle.halfspace.specs.Choices.{IsOneSided}
use Rattle.halfspace.proofs.Bases.{length-members}
use Rattle.halfspace.proofs.Exchange.{upright_two_0, upright_three_0, upright_three_1, upright_four_0, upright_four_1, upright_four_2}
use Rattle.halfspace.proofs.SameSide.{factor_not_zero, tight_alike, same_side}
use Rattle.halfspace.proofs.TightNumbers.{has_test}
use Rattle.lists.proofs.Tests.{same_tests}
use Rattle.iso_model.proofs.PointLaws.{same_int-is, is-same_int}

-- ---- the chosen points are tight

tight_members : (h : HalfSpace) (points : List (List ℤ)) (choice : List ℕ) → All (λ i. IsTrue (has (tight_set h points) i)) choice
    → AreTight h (members points choice)
tight_members h points [] w = tt
tight_members h points (i ∷ is) w = (
  same_int-is _ _
      (has_test (λ j. same_int (slack h (slice_index_or points j [])) (pos 0)) (length points) i
      (All-head (λ k. IsTrue (has (tight_set h points) k)) i is w)),
  tight_members h points is (All-tail (λ k. IsTrue (has (tight_set h points) k)) i is w),
)

-- ---- the facet is found

pub record IsFoundBy (h : HalfSpace) (points : List (List ℤ)) (set : List ℕ) : Type 0 where
  pub same : set ≡ tight_set h points
  pub sides : IsOneSided h points

found_by : (d : ℕ) → TurnLaws d → (points : List (List ℤ)) (set : List ℕ) (h : HalfSpace) (p : List ℤ) (ps : List (List ℤ))
    → length h.normal ≡ d → HasNormal h → All (Holds h) points → set ≡ tight_set h points
    → length ps + 1 ≡ d → length p ≡ d → AreWide d ps → IsTight h p → AreTight h ps → Spans (p ∷ ps)
    → IsFoundBy (hyper (p ∷ ps)) points set
found_by d laws points set h p ps wide normal holds tight e l w t ts spans = record {
  same = tight ∙ filter_agree _ _ (λ i. same_tests _ _ (forth (slice_index_or points i [])) (back (slice_index_or points i []))) (numbers (length points));
  sides = both (same_side d f g h (hyper (p ∷ ps)) plane f_not g_not);
}
  where
    x : List ℤ
    x = spans.0

    f : ℤ
    f = turn (rows_to (p ∷ ps) x)

    g : ℤ
    g = dot h.normal (minus x p)

    plane : SamePlane d f g h (hyper (p ∷ ps))
    plane = tight_same d laws h p ps x wide e l w (spans.1 ∙ omega arith) t ts

    f_not : f ≢ pos 0
    f_not = spans.2

    g_not : g ≢ pos 0
    g_not = factor_not_zero d f g h (hyper (p ∷ ps)) plane f_not normal

    forth : (y : List ℤ) → same_int (slack h y) (pos 0) ≡ true → same_int (slack (hyper (p ∷ ps)) y) (pos 0) ≡ true
    forth y q = is-same_int _ _ ((tight_alike d f g h (hyper (p ∷ ps)) plane f_not g_not y).0 (same_int-is _ _ q))

    back : (y : List ℤ) → same_int (slack (hyper (p ∷ ps)) y) (pos 0) ≡ true → same_int (slack h y) (pos 0) ≡ true
    back y q = is-same_int _ _ ((tight_alike d f g h (hyper (p ∷ ps)) plane f_not g_not y).1 (same_int-is _ _ q))

    both : (((y : List ℤ) → Holds h y → pos 0 ≤ℤ slack (hyper (p ∷ ps)) y) ⊎ ((y : List ℤ) → Holds h y → slack (hyper (p ∷ ps)) y ≤ℤ pos 0))
        → IsOneSided (hyper (p ∷ ps)) points
    both (inl k) = inl (λ i z q. k _ (holds i z q))
    both (inr k) = inr (λ i z q. k _ (holds i z q))

pub found : (d : ℕ) → 2 ≤ d → d ≤ 4 → (points : List (List ℤ)) (set : List ℕ) → IsFacet d points set → (choice : List ℕ) → length choice ≡ d
    → AreWide d (members points choice)
    → All (λ i. IsTrue (has set i)) choice → Spans (members points choice) → IsFoundBy (hyper (members points choice)) points set
found d least greatest points set facet [] e w h s = absurd (omega arith)
found d least greatest points set facet (c ∷ cs) e w h s =
    let tights = tight_members facet.half points (c ∷ cs) (subst (λ (t : List ℕ). All (λ i. IsTrue (has t i)) (c ∷ cs)) facet.tight h) in
    found_by d (turn_laws d least greatest) points set facet.half (slice_index_or points c []) (members points cs) facet.wide facet.normal facet.holds
    facet.tight
    (ap (λ (n : ℕ). n + 1) (length-members points cs) ∙ omega arith) w.0 w.1 tights.0 tights.1 s

-- ---- the half-space through D points is tight at each of them

own_upright : (d : ℕ) → 2 ≤ d → d ≤ 4 → (rows : List (List ℤ)) → length rows + 1 ≡ d → AreWide d rows → AreUpright (cofactors rows) rows
own_upright d p q [] e w = absurd (omega arith)
own_upright d p q (u ∷ []) e w = (upright_two_0 u (w.0 ∙ sym e), tt)
own_upright d p q (u ∷ v ∷ []) e w = (
  upright_three_0 u v (w.0 ∙ sym e) (w.1.0 ∙ sym e),
  (upright_three_1 u v (w.0 ∙ sym e) (w.1.0 ∙ sym e), tt),
)
own_upright d p q (u ∷ v ∷ t ∷ []) e w = (
  upright_four_0 u v t (w.0 ∙ sym e) (w.1.0 ∙ sym e) (w.1.1.0 ∙ sym e),
  (upright_four_1 u v t (w.0 ∙ sym e) (w.1.0 ∙ sym e) (w.1.1.0 ∙ sym e), (upright_four_2 u v t (w.0 ∙ sym e) (w.1.0 ∙ sym e) (w.1.1.0 ∙ sym e), tt)),
)
own_upright d p q (u ∷ v ∷ t ∷ s ∷ rows) e w = absurd (omega arith)

upright_tight : (n p : List ℤ) (ps : List (List ℤ)) (d : ℕ) → length p ≡ d → AreWide d ps → AreUpright n (map (λ q. minus q p) ps)
    → AreTight (record { normal = n; bound = dot n p }) ps
upright_tight n p [] d l w h = tt
upright_tight n p (q ∷ ps) d l w h =
    (turned (dot n p) (dot n q) (sym (dot-minus n q p (w.0 ∙ sym l)) ∙ h.0), upright_tight n p ps d l w.1 h.1)
  where
    turned : (a b : ℤ) → b -ℤ a ≡ pos 0 → a -ℤ b ≡ pos 0
    turned a b e = omega (arith, ints)

pub own_tight : (d : ℕ) → 2 ≤ d → d ≤ 4 → (ps : List (List ℤ)) → length ps ≡ d → AreWide d ps → AreTight (hyper ps) ps
own_tight d least greatest [] e w = tt
own_tight d least greatest (p ∷ ps) e w =
    let rows = map (λ q. minus q p) ps in (
      same_zero (dot (cofactors rows) p),
      upright_tight (cofactors rows) p ps d w.0 w.1
          (own_upright d least greatest rows (ap (λ (n : ℕ). n + 1) (length-map ps (λ q. minus q p)) ∙ omega arith) (differences-wide d p ps w.0 w.1)),
    )
  where
    same_zero : (a : ℤ) → a -ℤ a ≡ pos 0
    same_zero a = omega (arith, ints)
