-- Spokes and triangle numbers: each spoke at a vertex has one triangle there, each triangle one spoke, and the steps of spokes and of numbers are the same.
use Rattle.std.specs.Prelude.{◌≡◌, ◌≢◌, ◌<◌, ◌≤◌, ◌+◌, ℕ, zero, suc, Bool, true, count_by, List, [], ◌∷◌, length, slice_index_or, Option, Some, None}
use Rattle.std.proofs.Common.{refl, ap, sym, ◌∙◌, subst, arith, inl, inr}
use Rattle.std.proofs.lemmas.Bool.{cases_eq}
use Rattle.iso_model.specs.Walks.{turned, next_at, is_start}
use Rattle.mesh_laws.proofs.FaceSigns.{has_signed}
use Rattle.link_laws.proofs.Readings.{Reading, pair, leaving, leaves, enters, from_turned}
use Rattle.link_laws.proofs.Links.{AreLinked, next, spokes, from_next, from_out, from_spokes, In-spokes, next_is}
use Rattle.link_laws.proofs.TrianglesAt.{ReadsAt, OneByOne, number, number_is, reads_once, next_is_at, from_next_at, start_where, from_start}
use Rattle.lists.specs.Members.{In}
use Rattle.lists.proofs.Sorting.{bit, count_by-cons}
use Rattle.lists.proofs.Counts.{count_some}
use Rattle.lists.proofs.MemberLaws.{In_place}

-- ---- members by their places

place_of : (ws : List (List ℕ)) (w : List ℕ) → In w ws → (i : ℕ) × (i < length ws) × (slice_index_or ws i [] ≡ w)
place_of [] w i = absurd i
place_of (v ∷ ws) w (inl e) = (0, omega arith, sym e)
place_of (v ∷ ws) w (inr i) = let r = place_of ws w i in (suc r.0, omega (arith, r.1), r.2)

-- members at two places that pass count as two
two_places : (p : List ℕ → Bool) (ws : List (List ℕ)) (i j : ℕ) → i < length ws → j < length ws → p (slice_index_or ws i []) ≡ true
    → p (slice_index_or ws j []) ≡ true → i ≢ j → 2 ≤ count_by p ws
two_places p [] i j hi hj a b differ = absurd (omega (arith, hi))
two_places p (w ∷ ws) zero zero hi hj a b differ = absurd (differ refl)
two_places p (w ∷ ws) zero (suc j) hi hj a b differ =
    omega (arith, count_by-cons p w ws, ap bit a, count_some p ws (slice_index_or ws j []) (In_place ws j (omega (arith, hj))) b)
two_places p (w ∷ ws) (suc i) zero hi hj a b differ =
    omega (arith, count_by-cons p w ws, ap bit b, count_some p ws (slice_index_or ws i []) (In_place ws i (omega (arith, hi))) a)
two_places p (w ∷ ws) (suc i) (suc j) hi hj a b differ =
    omega (arith, count_by-cons p w ws, two_places p ws i j (omega (arith, hi)) (omega (arith, hj)) a b (λ e. differ (ap suc e)))

one_place : (p : List ℕ → Bool) (ws : List (List ℕ)) (i j : ℕ) → count_by p ws ≤ 1 → i < length ws → j < length ws → p (slice_index_or ws i []) ≡ true
    → p (slice_index_or ws j []) ≡ true → i ≡ j
one_place p ws i j few hi hj a b = elim (cases_eq i j) [
  | inl e ↦ e
  | inr differ ↦ absurd (omega (arith, few, two_places p ws i j hi hj a b differ))
]

module _ (ts : List (List ℕ)) (k : ℕ) (linked : AreLinked ts) where
  reading_of : (t p q : ℕ) → ReadsAt ts k t p q → Reading k p q (slice_index_or ts t [])
  reading_of t p q r = from_turned k p q (slice_index_or ts t []) r.1

  -- in linked triangles no two at k have one p, or one q
  pub one_by_one : OneByOne ts k
  one_by_one = record {
    leaves = λ t u p q r a b.
        one_place (has_signed (leaving k p) (pair k p)) ts t u (linked.few (leaving k p) (pair k p)) a.0 b.0
        (leaves k p q (reading_of t p q a) (linked.distinct (slice_index_or ts t []) (In_place ts t a.0)))
        (leaves k p r (reading_of u p r b) (linked.distinct (slice_index_or ts u []) (In_place ts u b.0)));
    enters = λ t u p q r a b.
        one_place (has_signed (leaving k p + 1) (pair k p)) ts t u (linked.few (leaving k p + 1) (pair k p)) a.0 b.0
        (enters k q p (reading_of t q p a) (linked.distinct (slice_index_or ts t []) (In_place ts t a.0)))
        (enters k r p (reading_of u r p b) (linked.distinct (slice_index_or ts u []) (In_place ts u b.0)));
  }

  -- ---- a spoke and its triangle

  numbered : (w : List ℕ) (p q : ℕ) → In w ts → turned k w ≡ Some (p, q) → (t : ℕ) × ReadsAt ts k t p q
  numbered w p q i e = let r = place_of ts w i in (r.0, (r.1, ap (turned k) r.2 ∙ e))

  -- a triangle that reads (k, p, q) has the spoke p
  pub spoke_of : (t p q : ℕ) → ReadsAt ts k t p q → In p (spokes k ts)
  spoke_of t p q r = In-spokes k ts (slice_index_or ts t []) p q (In_place ts t r.0) r.1

  -- a spoke has a triangle, and `number` is its number
  pub of_spoke : (p : ℕ) → In p (spokes k ts) → (q : ℕ) × ReadsAt ts k (number ts k p) p q
  of_spoke p i =
      let s = from_spokes k ts p i in
      let r = numbered s.0 p s.1 s.2 s.3 in
      (s.1, subst (λ (t : ℕ). ReadsAt ts k t p s.1) (sym (number_is ts k one_by_one r.0 p s.1 r.1)) r.1)

  -- and no other triangle has the spoke
  pub only_of_spoke : (t p q : ℕ) → ReadsAt ts k t p q → number ts k p ≡ t
  only_of_spoke t p q r = number_is ts k one_by_one t p q r

  -- spokes of one triangle are the same
  pub number_differs : (x y : ℕ) → In x (spokes k ts) → In y (spokes k ts) → number ts k x ≡ number ts k y → x ≡ y
  number_differs x y i j e =
      let a = of_spoke x i in
      let b = of_spoke y j in
      let c : ReadsAt ts k (number ts k y) x a.0 = subst (λ (t : ℕ). ReadsAt ts k t x a.0) e a.1 in
      (reads_once ts k (number ts k y) x a.0 y b.0 c b.1).0

  -- ---- the steps

  pub led : (x y : ℕ) → next k ts x ≡ Some y → ReadsAt ts k (number ts k x) x y × ((r : ℕ) × ReadsAt ts k (number ts k y) y r)
  led x y e =
      let f = from_next k ts linked x y e in
      let v = from_out k ts x y f.0 in
      let w = from_out k ts y f.1.0 f.1.1 in
      let a = numbered v.0 x y v.1 v.2 in
      let b = numbered w.0 y f.1.0 w.1 w.2 in (
        subst (λ (t : ℕ). ReadsAt ts k t x y) (sym (only_of_spoke a.0 x y a.1)) a.1,
        (f.1.0, subst (λ (t : ℕ). ReadsAt ts k t y f.1.0) (sym (only_of_spoke b.0 y f.1.0 b.1)) b.1),
      )

  pub leads : (t u x y r : ℕ) → ReadsAt ts k t x y → ReadsAt ts k u y r → next k ts x ≡ Some y
  leads t u x y r a b =
      next_is k ts linked (slice_index_or ts t []) (slice_index_or ts u []) x y r (In_place ts t a.0) (In_place ts u b.0) (reading_of t x y a)
      (reading_of u y r b)

  -- where spoke leads to spoke, triangle leads to triangle
  pub next_number : (x y : ℕ) → next k ts x ≡ Some y → next_at ts k (number ts k x) ≡ Some (number ts k y)
  next_number x y e = let l = led x y e in next_is_at ts k one_by_one (number ts k x) (number ts k y) x y l.1.0 l.0 l.1.1

  -- where a spoke leads nowhere, its triangle does
  pub next_nowhere : (x : ℕ) → In x (spokes k ts) → next k ts x ≡ None → next_at ts k (number ts k x) ≡ None
  next_nowhere x i e = go (next_at ts k (number ts k x)) refl
    where
      nothing : (y : ℕ) → next k ts x ≡ Some y → ⊥
      nothing y f = let clash : None ≡ Some y = sym e ∙ f in cc

      go : (o : Option ℕ) → next_at ts k (number ts k x) ≡ o → next_at ts k (number ts k x) ≡ None
      go None f = f
      go (Some u) f =
          let a = of_spoke x i in
          let n = from_next_at ts k (number ts k x) x a.0 u a.1 f in
          absurd (nothing a.0 (leads (number ts k x) u x a.0 n.0 a.1 n.1))

  -- a triangle is a start exactly where no spoke leads to its own
  pub start_number : (t x q : ℕ) → ReadsAt ts k t x q → ((u : ℕ) → In u (spokes k ts) → next k ts u ≢ Some x) → is_start ts k t ≡ true
  start_number t x q r begins = start_where ts k t x q r (λ u y s. begins y (spoke_of u y x s) (leads u t y x q s r))

  pub from_start_number : (t x q : ℕ) → ReadsAt ts k t x q → is_start ts k t ≡ true → (u : ℕ) → In u (spokes k ts) → next k ts u ≢ Some x
  from_start_number t x q r e u i f = from_start ts k t x q r e (number ts k u) u (led u x f).0
