-- The triangles at a vertex k as a step from spoke to spoke: (k, p, q) leads from p to q, where some triangle leaves by q.
use Rattle.std.proofs.Common.{◌≡◌, ℕ, ◌+◌, ◌≤◌, Bool, true, false, List, [], ◌∷◌, length, Option, Some, None, refl, ap, sym, ◌∙◌, subst, arith, inl, inr}
use Rattle.std.specs.Prelude.{◌≢◌, ◌⊎◌, nat_eq, count_by, if◌then◌else◌}
use Rattle.std.proofs.lemmas.Bool.Decides.{nat_tests}
use Rattle.std.proofs.lemmas.Slice.Eq.{bytes_eq-Decides}
use Rattle.lists.specs.Orders.{same_list}
use Rattle.mesh_laws.proofs.FaceSigns.{has_signed}
use Rattle.iso_model.specs.Walks.{turned}
use Rattle.link_laws.proofs.Readings.{Reading, pair, leaving, leaves, enters, turned_is, from_turned, other_is}
use Rattle.link_laws.proofs.Walks.{IsInjection, Joined, itself, on, back}
use Rattle.lists.specs.Members.{In, Distinct}
use Rattle.lists.proofs.Sorting.{bit, count_by-cons}
use Rattle.lists.proofs.Counts.{count_some}

-- two different members that pass count as two
two_pass : (t : List ℕ → Bool) (ws : List (List ℕ)) (v w : List ℕ) → In v ws → In w ws → t v ≡ true → t w ≡ true → v ≢ w → 2 ≤ count_by t ws
two_pass t [] v w i j hv hw differ = absurd i
two_pass t (u ∷ ws) v w (inl e) (inl f) hv hw differ = absurd (differ (e ∙ sym f))
two_pass t (u ∷ ws) v w (inl e) (inr j) hv hw differ =
    let one : bit (t u) ≡ 1 = ap bit (subst (λ (x : List ℕ). t x ≡ true) e hv) in
    omega (arith, count_by-cons t u ws, one, count_some t ws w j hw)
two_pass t (u ∷ ws) v w (inr i) (inl f) hv hw differ =
    let one : bit (t u) ≡ 1 = ap bit (subst (λ (x : List ℕ). t x ≡ true) f hw) in
    omega (arith, count_by-cons t u ws, one, count_some t ws v i hv)
two_pass t (u ∷ ws) v w (inr i) (inr j) hv hw differ = omega (arith, count_by-cons t u ws, two_pass t ws v w i j hv hw differ)

same_list_or : (v w : List ℕ) → (v ≡ w) ⊎ (v ≢ w)
same_list_or v w = go (same_list v w) refl
  where
    go : (b : Bool) → same_list v w ≡ b → (v ≡ w) ⊎ (v ≢ w)
    go true e = inl ((bytes_eq-Decides v w).0 e)
    go false e = inr (λ s. let f : true ≡ false = sym ((bytes_eq-Decides v w).1 s) ∙ e in cc)

-- a list of triangles in which no face stands twice with one sign
pub record AreLinked (ts : List (List ℕ)) : Type 0 where
  pub distinct : (w : List ℕ) → In w ts → Distinct w
  pub three : (w : List ℕ) → In w ts → length w ≡ 3
  pub few : (m : ℕ) (face : List ℕ) → count_by (has_signed m face) ts ≤ 1

module _ (k : ℕ) where
  abbrev take_if : ℕ → Option (ℕ × ℕ) → Option ℕ → Option ℕ
  take_if p None later = later
  take_if p (Some pq) later = if nat_eq pq.0 p then Some pq.1 else later

  -- by what the first listed triangle that leaves by p comes in
  abbrev pub out : List (List ℕ) → ℕ → Option ℕ
  out [] p = None
  out (w ∷ ts) p = take_if p (turned k w) (out ts p)

  abbrev lead : Option ℕ → ℕ → Option ℕ
  lead None q = None
  lead (Some r) q = Some q

  abbrev follow : List (List ℕ) → Option ℕ → Option ℕ
  follow ts None = None
  follow ts (Some q) = lead (out ts q) q

  -- from a spoke to the one by which its triangle comes in, where some triangle leaves by that
  abbrev pub next : List (List ℕ) → ℕ → Option ℕ
  next ts p = follow ts (out ts p)

  abbrev add_first : Option (ℕ × ℕ) → List ℕ → List ℕ
  add_first None ps = ps
  add_first (Some pq) ps = pq.0 ∷ ps

  -- the spokes by which triangles leave
  abbrev pub spokes : List (List ℕ) → List ℕ
  spokes [] = []
  spokes (w ∷ ts) = add_first (turned k w) (spokes ts)

  In-add : (o : Option (ℕ × ℕ)) (ps : List ℕ) (p : ℕ) → In p ps → In p (add_first o ps)
  In-add None ps p i = i
  In-add (Some pq) ps p i = inr i

  -- each triangle at k leaves by a spoke
  pub In-spokes : (ts : List (List ℕ)) (w : List ℕ) (p q : ℕ) → In w ts → turned k w ≡ Some (p, q) → In p (spokes ts)
  In-spokes [] w p q i e = absurd i
  In-spokes (u ∷ ts) w p q (inl s) e =
      let f : turned k u ≡ Some (p, q) = ap (turned k) (sym s) ∙ e in
      subst (λ (o : Option (ℕ × ℕ)). In p (add_first o (spokes ts))) (sym f) (inl refl)
  In-spokes (u ∷ ts) w p q (inr i) e = In-add (turned k u) (spokes ts) p (In-spokes ts w p q i e)

  out_case : (ts : List (List ℕ)) (u : List ℕ) (p q : ℕ) → (out ts p ≡ Some q → (w : List ℕ) × In w ts × (turned k w ≡ Some (p, q)))
      → (o : Option (ℕ × ℕ)) → turned k u ≡ o → take_if p o (out ts p) ≡ Some q →
      (w : List ℕ) × In w (u ∷ ts) × (turned k w ≡ Some (p, q))
  out_case ts u p q later None is e = let r = later e in (r.0, inr r.1, r.2)
  out_case ts u p q later (Some pq) is e = go (nat_eq pq.0 p) (λ h. grind (arith, nat_tests, h)) e
    where
      some_is : (x y : ℕ) → Some x ≡ Some y → x ≡ y
      some_is x y h = cc

      go : (b : Bool) → (b ≡ true → pq.0 ≡ p) → (if b then Some pq.1 else out ts p) ≡ Some q → (w : List ℕ) × In w (u ∷ ts) × (turned k w ≡ Some (p, q))
      go true h f = (u, inl refl, is ∙ ap Some (λ i. (h refl i, some_is pq.1 q f i)))
      go false h f = let r = later f in (r.0, inr r.1, r.2)

  -- what comes in so is of a triangle that leaves by p
  pub from_out : (ts : List (List ℕ)) (p q : ℕ) → out ts p ≡ Some q → (w : List ℕ) × In w ts × (turned k w ≡ Some (p, q))
  from_out [] p q e = absurd (nothing e)
    where
      nothing : None ≡ Some q → ⊥
      nothing h = cc
  from_out (u ∷ ts) p q e = out_case ts u p q (from_out ts p q) (turned k u) refl e

  out_some_case : (o : Option (ℕ × ℕ)) (later : Option ℕ) (p q : ℕ) → o ≡ Some (p, q) → (r : ℕ) × (take_if p o later ≡ Some r)
  out_some_case o later p q e =
      let h : nat_eq p p ≡ true = grind (arith, nat_tests) in
      (q, subst (λ (v : Option (ℕ × ℕ)). take_if p v later ≡ Some q) (sym e) (rw h refl))

  out_later_case : (o : Option (ℕ × ℕ)) (later : Option ℕ) (p q : ℕ) → later ≡ Some q → (r : ℕ) × (take_if p o later ≡ Some r)
  out_later_case None later p q e = (q, e)
  out_later_case (Some pq) later p q e = go (nat_eq pq.0 p)
    where
      go : (b : Bool) → (r : ℕ) × ((if b then Some pq.1 else later) ≡ Some r)
      go true = (pq.1, refl)
      go false = (q, e)

  out_some : (ts : List (List ℕ)) (w : List ℕ) (p q : ℕ) → In w ts → turned k w ≡ Some (p, q) → (r : ℕ) × (out ts p ≡ Some r)
  out_some [] w p q i e = absurd i
  out_some (u ∷ ts) w p q (inl s) e = out_some_case (turned k u) (out ts p) p q (ap (turned k) (sym s) ∙ e)
  out_some (u ∷ ts) w p q (inr i) e = let r = out_some ts w p q i e in out_later_case (turned k u) (out ts p) p r.0 r.1

  from_spokes_case : (ts : List (List ℕ)) (u : List ℕ) (p : ℕ) → (In p (spokes ts) → (w : List ℕ) × (q : ℕ) × In w ts × (turned k w ≡ Some (p, q)))
      → (o : Option (ℕ × ℕ)) → turned k u ≡ o → In p (add_first o (spokes ts)) →
      (w : List ℕ) × (q : ℕ) × In w (u ∷ ts) × (turned k w ≡ Some (p, q))
  from_spokes_case ts u p later None is i = let r = later i in (r.0, r.1, inr r.2, r.3)
  from_spokes_case ts u p later (Some pq) is (inl e) = (u, pq.1, inl refl, is ∙ ap Some (λ i. (sym e i, pq.1)))
  from_spokes_case ts u p later (Some pq) is (inr i) = let r = later i in (r.0, r.1, inr r.2, r.3)

  -- by each spoke a triangle leaves
  pub from_spokes : (ts : List (List ℕ)) (p : ℕ) → In p (spokes ts) → (w : List ℕ) × (q : ℕ) × In w ts × (turned k w ≡ Some (p, q))
  from_spokes [] p i = absurd i
  from_spokes (u ∷ ts) p i = from_spokes_case ts u p (from_spokes ts p) (turned k u) refl i

  module _ (ts : List (List ℕ)) (linked : AreLinked ts) where
    -- one triangle leaves by a spoke, and one comes in by it
    pub one_leaves : (v w : List ℕ) (p q r : ℕ) → In v ts → In w ts → Reading k p q v → Reading k p r w → v ≡ w
    one_leaves v w p q r i j a b = elim (same_list_or v w) [
      | inl e ↦ e
      | inr differ ↦ (let most = linked.few (leaving k p) (pair k p) in
          let two =
          two_pass (has_signed (leaving k p) (pair k p)) ts v w i j (leaves k p q a (linked.distinct v i)) (leaves k p r b (linked.distinct w j))
          differ in
          absurd (omega (arith, most, two)))
    ]

    pub one_enters : (v w : List ℕ) (p r q : ℕ) → In v ts → In w ts → Reading k p q v → Reading k r q w → v ≡ w
    one_enters v w p r q i j a b = elim (same_list_or v w) [
      | inl e ↦ e
      | inr differ ↦ (let most = linked.few (leaving k q + 1) (pair k q) in
          let two =
          two_pass (has_signed (leaving k q + 1) (pair k q)) ts v w i j (enters k p q a (linked.distinct v i))
          (enters k r q b (linked.distinct w j)) differ in
          absurd (omega (arith, most, two)))
    ]

    some_pair : (x y : ℕ × ℕ) → Some x ≡ Some y → x ≡ y
    some_pair x y h = cc

    -- a triangle reads in one way
    pub one_reading : (w : List ℕ) (p q r s : ℕ) → In w ts → Reading k p q w → Reading k r s w → (p ≡ r) × (q ≡ s)
    one_reading w p q r s i a b =
        let e = some_pair (p, q) (r, s) (sym (turned_is k p q a (linked.distinct w i)) ∙ turned_is k r s b (linked.distinct w i)) in
        (ap (λ (x : ℕ × ℕ). x.0) e, ap (λ (x : ℕ × ℕ). x.1) e)

    pub out_is : (w : List ℕ) (p q : ℕ) → In w ts → Reading k p q w → out ts p ≡ Some q
    out_is w p q i a =
        let r = out_some ts w p q i (turned_is k p q a (linked.distinct w i)) in
        let v = from_out ts p r.0 r.1 in
        let b = from_turned k p r.0 v.0 v.2 in
        let s = one_leaves w v.0 p q r.0 i v.1 a b in
        r.1 ∙ ap Some (one_reading v.0 p r.0 p q v.1 b (subst (Reading k p q) s a)).1

    pub next_is : (v w : List ℕ) (p q r : ℕ) → In v ts → In w ts → Reading k p q v → Reading k q r w → next ts p ≡ Some q
    next_is v w p q r i j a b = rw (out_is v p q i a) (rw (out_is w q r j b) refl)

    from_next_case : (p y : ℕ) (o : Option ℕ) → out ts p ≡ o → follow ts o ≡ Some y → (out ts p ≡ Some y) × ((r : ℕ) × (out ts y ≡ Some r))
    from_next_case p y None is e = absurd (nothing e)
      where
        nothing : None ≡ Some y → ⊥
        nothing h = cc
    from_next_case p y (Some q) is e = go (out ts q) refl e
      where
        some_is : (a b : ℕ) → Some a ≡ Some b → a ≡ b
        some_is a b h = cc

        nothing : None ≡ Some y → ⊥
        nothing h = cc

        go : (o : Option ℕ) → out ts q ≡ o → lead o q ≡ Some y → (out ts p ≡ Some y) × ((r : ℕ) × (out ts y ≡ Some r))
        go None h f = absurd (nothing f)
        go (Some r) h f = let s = some_is q y f in (is ∙ ap Some s, (r, ap (out ts) (sym s) ∙ h))

    pub from_next : (p y : ℕ) → next ts p ≡ Some y → (out ts p ≡ Some y) × ((r : ℕ) × (out ts y ≡ Some r))
    from_next p y e = from_next_case p y (out ts p) refl e

    -- the step leads from no two spokes to one
    pub injection : IsInjection (next ts) (spokes ts)
    injection = record {
      stays = λ x y i e. let f = from_next x y e in let v = from_out ts y f.1.0 f.1.1 in In-spokes ts v.0 y f.1.0 v.1 v.2;
      once = λ x z y i j e f.
          let g = from_out ts x y (from_next x y e).0 in
          let h = from_out ts z y (from_next z y f).0 in
          let a = from_turned k x y g.0 g.2 in
          let b = from_turned k z y h.0 h.2 in
          let s = one_enters g.0 h.0 x z y g.1 h.1 a b in
          (one_reading h.0 x y z y h.1 (subst (Reading k x y) s a) b).0;
    }

    -- two triangles at k that share one more vertex are joined
    pub joined : (v w : List ℕ) (p q r s x : ℕ) → In v ts → In w ts → Reading k p q v → Reading k r s w → In x v → In x w → x ≢ k
        → Joined (next ts) (spokes ts) p r
    joined v w p q r s x i j a b xv xw differ = elim (other_is k p q x a xv differ) [
      | inl e ↦ (elim (other_is k r s x b xw differ) [
        | inl f ↦ subst (Joined (next ts) (spokes ts) p) (sym e ∙ f) itself
        | inr f ↦ (let t : s ≡ p = sym f ∙ e in
            back (In-spokes ts w r s j (turned_is k r s b (linked.distinct w j))) (next_is w v r p q j i (subst (λ (y : ℕ). Reading k r y w) t b) a) itself)
      ])
      | inr e ↦ (elim (other_is k r s x b xw differ) [
        | inl f ↦ (let t : q ≡ r = sym e ∙ f in on (next_is v w p r s i j (subst (λ (y : ℕ). Reading k p y v) t a) b) itself)
        | inr f ↦ (let t : q ≡ s = sym e ∙ f in
            let u = one_enters v w p r s i j (subst (λ (y : ℕ). Reading k p y v) t a) b in
            subst (Joined (next ts) (spokes ts) p) (one_reading w p q r s j (subst (Reading k p q) u a) b).0 itself)
      ])
    ]
