-- Triangles at an edge, each by its two other edges.
use Rattle.std.specs.Prelude.{◌≡◌, ◌≢◌, ◌⊎◌, ℕ, Bool, true, false, not, ◌&&◌, ◌||◌, ◌==◌, nat_eq, List, [], ◌∷◌, cond, filter, find, length, Option}
use Rattle.std.specs.Prelude.{Some, None, if◌then◌else◌}
use Rattle.std.proofs.Common.{refl, sym, ap, ◌∙◌, subst, arith, inl, inr}
use Rattle.std.proofs.lemmas.Bool.{eq-eqb, ne_eqb}
use Rattle.std.proofs.lemmas.Bool.Decides.{nat_tests}
use Rattle.iso_model.specs.declared.Kind.{Kind}
use Rattle.lists.specs.Orders.{has, is_distinct}
use Rattle.iso_model.specs.Acceptance.{goes_on}
use Rattle.path_rule.specs.PathRule.{third}
use Rattle.lists.specs.Members.{In}
use Rattle.lists.proofs.MemberLaws.{In_of_has, has_of_In}
use Rattle.std.proofs.lemmas.Option.{same_Some}
use Rattle.lists.proofs.Tests.{or_false}

-- the edges of a tuple but e
abbrev pub others : ℕ → List ℕ → List ℕ
others e w = filter (λ x. not (x == e)) w

pub has-others : (e y : ℕ) (w : List ℕ) → y ≢ e → has (others e w) y ≡ has w y
has-others e y [] ne = refl
has-others e y (x ∷ w) ne = by (x == e) (has-others e y w ne) (λ h. ne_eqb y x (λ same. ne (same ∙ eq_of x e h)))
  where
    eq_of : (a b : ℕ) → (a == b) ≡ true → a ≡ b
    eq_of a b e = grind (arith, nat_tests)

    by : (b : Bool) → has (others e w) y ≡ has w y → (b ≡ true → nat_eq y x ≡ false)
        → has (cond (not b) (x ∷ others e w) (others e w)) y ≡ (nat_eq y x || has w y)
    by true h apart = h ∙ ap (λ t. t || has w y) (sym (apart refl))
    by false h apart = ap (λ t. nat_eq y x || t) h

-- ---- from face to face

lacks_both : (a b g h t : Bool) → (a || (b || false)) ≡ false → (t && ((a && g) || (b && h))) ≡ false
lacks_both true b g h t lacks = absurd (cc)
lacks_both false true g h t lacks = absurd (cc)
lacks_both false false g h true lacks = refl
lacks_both false false g h false lacks = refl

eq_turned : (x y : ℕ) → nat_eq x y ≡ (y == x)
eq_turned x y = grind (arith, nat_tests)

-- no path goes on through a triangle that lacks the present face
pub goes_lacks : (kind : Kind) (d e f x : ℕ) (v : List ℕ) (r : List (List ℕ)) → has v x ≡ false → goes_on kind d e f x (v ∷ r) ≡ false
goes_lacks kind d e f x [] r lacks = refl
goes_lacks kind d e f x (p ∷ []) r lacks = refl
goes_lacks kind d e f x (p ∷ q ∷ []) r lacks =
    ap (λ b. not (p == q) && ((b && goes_on kind d e f q r) || (q == x && goes_on kind d e f p r))) (sym (eq_turned x p))
    ∙ ap (λ b. not (p == q) && ((nat_eq x p && goes_on kind d e f q r) || (b && goes_on kind d e f p r))) (sym (eq_turned x q))
    ∙ lacks_both (nat_eq x p) (nat_eq x q) (goes_on kind d e f q r) (goes_on kind d e f p r) (not (p == q)) lacks
goes_lacks kind d e f x (p ∷ q ∷ z ∷ v) r lacks = refl

eq_self : (x : ℕ) → (x == x) ≡ true
eq_self x = eq-eqb x x refl

pub goes_first : (kind : Kind) (d e f x q : ℕ) (r : List (List ℕ)) → x ≢ q → goes_on kind d e f x ((x ∷ q ∷ []) ∷ r) ≡ goes_on kind d e f q r
goes_first kind d e f x q r ne =
    ap (λ b. not b && ((x == x && goes_on kind d e f q r) || (q == x && goes_on kind d e f x r))) (ne_eqb x q ne)
    ∙ ap (λ b. (b && goes_on kind d e f q r) || (q == x && goes_on kind d e f x r)) (eq_self x)
    ∙ ap (λ b. goes_on kind d e f q r || (b && goes_on kind d e f x r)) (ne_eqb q x (λ s. ne (sym s)))
    ∙ or_false (goes_on kind d e f q r)

pub goes_second : (kind : Kind) (d e f x q : ℕ) (r : List (List ℕ)) → x ≢ q → goes_on kind d e f x ((q ∷ x ∷ []) ∷ r) ≡ goes_on kind d e f q r
goes_second kind d e f x q r ne =
    ap (λ b. not b && ((q == x && goes_on kind d e f x r) || (x == x && goes_on kind d e f q r))) (ne_eqb q x (λ s. ne (sym s)))
    ∙ ap (λ b. (b && goes_on kind d e f x r) || (x == x && goes_on kind d e f q r)) (ne_eqb q x (λ s. ne (sym s)))
    ∙ ap (λ b. b && goes_on kind d e f q r) (eq_self x)

-- ---- the three edges of a triangle

-- a triangle with edges e, x and q, in some order
abbrev pub HasThree : ℕ → ℕ → ℕ → List ℕ → Type 0
HasThree e x q w =
    ((w ≡ e ∷ x ∷ q ∷ []) ⊎ (w ≡ e ∷ q ∷ x ∷ [])) ⊎ (((w ≡ x ∷ e ∷ q ∷ []) ⊎ (w ≡ q ∷ e ∷ x ∷ [])) ⊎ ((w ≡ x ∷ q ∷ e ∷ []) ⊎ (w ≡ q ∷ x ∷ e ∷ [])))

pub record IsTriangle (e x q : ℕ) (w : List ℕ) : Type 0 where
  pub off : q ≢ e
  pub apart : x ≢ q
  pub three : HasThree e x q w

-- what is told of it
pub record TellsThird (e x q : ℕ) (w : List ℕ) : Type 0 where
  pub pair : (others e w ≡ x ∷ q ∷ []) ⊎ (others e w ≡ q ∷ x ∷ [])
  pub is_third : third e x w ≡ Some q

pub tells_third : (e x q : ℕ) (w : List ℕ) → x ≢ e → IsTriangle e x q w → TellsThird e x q w
tells_third e x q w ne t = by t.three
  where
    ee : nat_eq e e ≡ true
    ee = eq-eqb e e refl

    xx : nat_eq x x ≡ true
    xx = eq-eqb x x refl

    xe : nat_eq x e ≡ false
    xe = ne_eqb x e ne

    ex : nat_eq e x ≡ false
    ex = ne_eqb e x (λ s. ne (sym s))

    qe : nat_eq q e ≡ false
    qe = ne_eqb q e t.off

    eq : nat_eq e q ≡ false
    eq = ne_eqb e q (λ s. t.off (sym s))

    qx : nat_eq q x ≡ false
    qx = ne_eqb q x (λ s. t.apart (sym s))

    xq : nat_eq x q ≡ false
    xq = ne_eqb x q t.apart

    at : (v : List ℕ) → w ≡ v → TellsThird e x q v → TellsThird e x q w
    at v same is = subst (λ (u : List ℕ). TellsThird e x q u) (sym same) is

    by : HasThree e x q w → TellsThird e x q w
    by (inl (inl s)) = at (e ∷ x ∷ q ∷ []) s (record { pair = inl (simp (ee, xe, qe)); is_third = simp (ee, xx, xe, ex, qe, eq, qx, xq) })
    by (inl (inr s)) = at (e ∷ q ∷ x ∷ []) s (record { pair = inr (simp (ee, xe, qe)); is_third = simp (ee, xx, xe, ex, qe, eq, qx, xq) })
    by (inr (inl (inl s))) = at (x ∷ e ∷ q ∷ []) s (record { pair = inl (simp (ee, xe, qe)); is_third = simp (ee, xx, xe, ex, qe, eq, qx, xq) })
    by (inr (inl (inr s))) = at (q ∷ e ∷ x ∷ []) s (record { pair = inr (simp (ee, xe, qe)); is_third = simp (ee, xx, xe, ex, qe, eq, qx, xq) })
    by (inr (inr (inl s))) = at (x ∷ q ∷ e ∷ []) s (record { pair = inl (simp (ee, xe, qe)); is_third = simp (ee, xx, xe, ex, qe, eq, qx, xq) })
    by (inr (inr (inr s))) = at (q ∷ x ∷ e ∷ []) s (record { pair = inr (simp (ee, xe, qe)); is_third = simp (ee, xx, xe, ex, qe, eq, qx, xq) })

-- ---- which edge is the third

apart_first : (a b c : ℕ) → is_distinct (a ∷ b ∷ c ∷ []) ≡ true → (a ≢ b) × (a ≢ c) × (b ≢ c)
apart_first a b c d = grind (arith, nat_tests)

-- a triangle with edges e and x has a third
pub triangle_has : (e x : ℕ) (w : List ℕ) → length w ≡ 3 → is_distinct w ≡ true → x ≢ e → In e w → In x w → (q : ℕ) × IsTriangle e x q w
triangle_has e x [] l d ne a b = absurd a
triangle_has e x (p ∷ []) l d ne a b = absurd (omega arith)
triangle_has e x (p ∷ q ∷ []) l d ne a b = absurd (omega arith)
triangle_has e x (p ∷ q ∷ r ∷ s ∷ w) l d ne a b = absurd (omega arith)
triangle_has e x (p ∷ q ∷ r ∷ []) l d ne a b = by a b
  where
    ps : (p ≢ q) × (p ≢ r) × (q ≢ r)
    ps = apart_first p q r d

    -- z is the edge that is left
    made : (z : ℕ) → z ≢ e → x ≢ z → HasThree e x z (p ∷ q ∷ r ∷ []) → (y : ℕ) × IsTriangle e x y (p ∷ q ∷ r ∷ [])
    made z off apart three = (z, record { off = off; apart = apart; three = three })

    by : In e (p ∷ q ∷ r ∷ []) → In x (p ∷ q ∷ r ∷ []) → (y : ℕ) × IsTriangle e x y (p ∷ q ∷ r ∷ [])
    by (inl f) (inl g) = absurd (ne (g ∙ sym f))
    by (inl f) (inr (inl g)) = made r (λ s. ps.1 (sym f ∙ sym s)) (λ s. ps.2 (sym g ∙ s)) (inl (inl (cc)))
    by (inl f) (inr (inr (inl g))) = made q (λ s. ps.0 (sym f ∙ sym s)) (λ s. ps.2 (sym s ∙ g)) (inl (inr (cc)))
    by (inl f) (inr (inr (inr g))) = absurd g
    by (inr (inl f)) (inl g) = made r (λ s. ps.2 (sym f ∙ sym s)) (λ s. ps.1 (sym g ∙ s)) (inr (inl (inl (cc))))
    by (inr (inl f)) (inr (inl g)) = absurd (ne (g ∙ sym f))
    by (inr (inl f)) (inr (inr (inl g))) = made p (λ s. ps.0 (s ∙ f)) (λ s. ps.1 (sym s ∙ g)) (inr (inl (inr (cc))))
    by (inr (inl f)) (inr (inr (inr g))) = absurd g
    by (inr (inr (inl f))) (inl g) = made q (λ s. ps.2 (s ∙ f)) (λ s. ps.0 (sym g ∙ s)) (inr (inr (inl (cc))))
    by (inr (inr (inl f))) (inr (inl g)) = made p (λ s. ps.1 (s ∙ f)) (λ s. ps.0 (sym s ∙ g)) (inr (inr (inr (cc))))
    by (inr (inr (inl f))) (inr (inr (inl g))) = absurd (ne (g ∙ sym f))
    by (inr (inr (inl f))) (inr (inr (inr g))) = absurd g
    by (inr (inr (inr f))) b2 = absurd f

-- what has a third edge has the two others
third_parts : (a b : Bool) (o : Option ℕ) (q : ℕ) → (if a && b then o else None) ≡ Some q → (a ≡ true) × (b ≡ true)
third_parts true true o q e = (refl, refl)
third_parts true false o q e = absurd (cc)
third_parts false b o q e = absurd (cc)

-- a triangle that is found by its third edge
pub record IsFound (e x q : ℕ) (w : List ℕ) : Type 0 where
  pub has_e : has w e ≡ true
  pub has_x : has w x ≡ true
  pub triangle : IsTriangle e x q w

pub found_third : (e x q : ℕ) (w : List ℕ) → length w ≡ 3 → is_distinct w ≡ true → x ≢ e → third e x w ≡ Some q → IsFound e x q w
found_third e x q w l d ne t =
    let p = third_parts (has w e) (has w x) (find (λ y. not (y == e) && not (y == x)) w) q t in
    let r = triangle_has e x w l d ne (In_of_has w e p.0) (In_of_has w x p.1) in
    let same : r.0 ≡ q = same_Some r.0 q (sym (tells_third e x r.0 w ne r.1).is_third ∙ t) in
    record { has_e = p.0; has_x = p.1; triangle = subst (λ (y : ℕ). IsTriangle e x y w) same r.1 }

-- a triangle without a third edge lacks the face
pub lacks_face : (e x : ℕ) (w : List ℕ) → length w ≡ 3 → is_distinct w ≡ true → x ≢ e → third e x w ≡ None → has w e ≡ true → has w x ≡ true → ⊥
lacks_face e x w l d ne t a b =
    let r = triangle_has e x w l d ne (In_of_has w e a) (In_of_has w x b) in
    let wrong : None ≡ Some r.0 = sym t ∙ (tells_third e x r.0 w ne r.1).is_third in
    absurd (cc)

-- it has these edges and no others
pub has_third : (e x q : ℕ) (w : List ℕ) → IsTriangle e x q w → has w q ≡ true
has_third e x q w t = has_of_In w q (by t.three)
  where
    at : (v : List ℕ) → w ≡ v → In q v → In q w
    at v same is = subst (λ (u : List ℕ). In q u) (sym same) is

    by : HasThree e x q w → In q w
    by (inl (inl s)) = at (e ∷ x ∷ q ∷ []) s (inr (inr (inl refl)))
    by (inl (inr s)) = at (e ∷ q ∷ x ∷ []) s (inr (inl refl))
    by (inr (inl (inl s))) = at (x ∷ e ∷ q ∷ []) s (inr (inr (inl refl)))
    by (inr (inl (inr s))) = at (q ∷ e ∷ x ∷ []) s (inl refl)
    by (inr (inr (inl s))) = at (x ∷ q ∷ e ∷ []) s (inr (inl refl))
    by (inr (inr (inr s))) = at (q ∷ x ∷ e ∷ []) s (inl refl)

pub one_of_two : (e x q y : ℕ) (w : List ℕ) → x ≢ e → IsTriangle e x q w → y ≢ e → has w y ≡ true → (y ≡ x) ⊎ (y ≡ q)
one_of_two e x q y w ne t off h = by (tells_third e x q w ne t).pair
  where
    inside : In y (others e w)
    inside = In_of_has (others e w) y (has-others e y w off ∙ h)

    by : (others e w ≡ x ∷ q ∷ []) ⊎ (others e w ≡ q ∷ x ∷ []) → (y ≡ x) ⊎ (y ≡ q)
    by (inl s) = elim (subst (λ (u : List ℕ). In y u) s inside) as (λ _. (y ≡ x) ⊎ (y ≡ q)) [
      | inl a ↦ inl a
      | inr b ↦ elim b as (λ _. (y ≡ x) ⊎ (y ≡ q)) [ inl a ↦ inr a | inr c ↦ absurd c ]
    ]
    by (inr s) = elim (subst (λ (u : List ℕ). In y u) s inside) as (λ _. (y ≡ x) ⊎ (y ≡ q)) [
      | inl a ↦ inr a
      | inr b ↦ elim b as (λ _. (y ≡ x) ⊎ (y ≡ q)) [ inl a ↦ inl a | inr c ↦ absurd c ]
    ]
