-- Below a set only its own meets with the facets matter: the chains from a part of the set are the same over these meets as over all facets.
use Rattle.std.specs.Prelude.{◌≡◌, ◌≢◌, ◌⊎◌, ◌^◌, ◌<◌, ℕ, Bool, true, false, nat_eq, ◌||◌, if◌then◌else◌, List, [], ◌∷◌, map, filter, Contains, bit_and}
use Rattle.std.proofs.Common.{refl, sym, ap, ◌∙◌, subst, inl, inr}
use Rattle.std.proofs.lemmas.Bool.{eqb-true}
use Rattle.iso_model.specs.Hulls.{meet, LiesWithin, IsProperMeet, IsFaceOf}
use Rattle.iso_model.proofs.WalkLaws.{has-Decides}
use Rattle.pulling_tri.specs.PointSets.{point_set}
use Rattle.pulling_tri.specs.Meets.{AreMeets}
use Rattle.pulling_tri.specs.Pulling.{IsNext, IsDescent, GoesOn, AddsPulled}
use Rattle.pulling_tri.proofs.PointSetLaws.{points-meet}
use Rattle.lists.specs.Orders.{has}
use Rattle.lists.proofs.Contained.{Contains-head, Contains-tail, Contains-filter, filter-same, Contains-mapped, from_Contains-map, Contains-passes}

-- ---- meets of parts

has-none : (p : ℕ → Bool) (xs : List ℕ) (i : ℕ) → p i ≡ false → has (filter p xs) i ≡ false
has-none p [] i e = refl
has-none p (x ∷ xs) i e = by_test (has-none p xs i e) (p x) (nat_eq i x) refl refl
  where
    by_test : has (filter p xs) i ≡ false → (b t : Bool) → p x ≡ b → nat_eq i x ≡ t → has (if b then x ∷ filter p xs else filter p xs) i ≡ false
    by_test behind true true f s = let q : i ≡ x = eqb-true i x s in absurd (let z : p i ≡ true = ap p q ∙ f in cc)
    by_test behind true false f s = ap (λ (u : Bool). u || has (filter p xs) i) s ∙ behind
    by_test behind false t f s = behind

has-filter : (p : ℕ → Bool) (xs : List ℕ) (i : ℕ) → has xs i ≡ true → has (filter p xs) i ≡ p i
has-filter p [] i h = absurd (cc)
has-filter p (x ∷ xs) i h = by_test (has-filter p xs i) (has-none p xs i) (p x) (nat_eq i x) refl refl h
  where
    by_test : (has xs i ≡ true → has (filter p xs) i ≡ p i) → (p i ≡ false → has (filter p xs) i ≡ false) → (b t : Bool) → p x ≡ b → nat_eq i x ≡ t
        → (t || has xs i) ≡ true
        → has (if b then x ∷ filter p xs else filter p xs) i ≡ p i
    by_test behind empty true true e s h = let q : i ≡ x = eqb-true i x s in ap (λ (u : Bool). u || has (filter p xs) i) s ∙ sym e ∙ ap p (sym q)
    by_test behind empty true false e s h = ap (λ (u : Bool). u || has (filter p xs) i) s ∙ behind h
    by_test behind empty false true e s h = let q : i ≡ x = eqb-true i x s in let z : p i ≡ false = ap p q ∙ e in empty z ∙ sym z
    by_test behind empty false false e s h = behind h

kept_whole : (q : ℕ → Bool) (ys : List ℕ) → ((y : ℕ) → Contains ys y → q y ≡ true) → filter q ys ≡ ys
kept_whole q [] h = refl
kept_whole q (y ∷ ys) h = by_test (q y) (h y (Contains-head y ys)) (kept_whole q ys (λ z c. h z (Contains-tail z y ys c)))
  where
    by_test : (b : Bool) → b ≡ true → filter q ys ≡ ys → (if b then y ∷ filter q ys else filter q ys) ≡ y ∷ ys
    by_test true e k = ap (λ (zs : List ℕ). y ∷ zs) k
    by_test false e k = absurd (cc)

-- a member of a part is one of the whole
part_has : (part top : List ℕ) → LiesWithin part top → (x : ℕ) → Contains part x → has top x ≡ true
part_has part top within x c = Contains-passes (has top) part x (subst (λ (s : List ℕ). Contains s x) (sym within) c)

meet_part : (part top f : List ℕ) → LiesWithin part top → meet part (meet top f) ≡ meet part f
meet_part part top f within = filter-same (has (filter (has f) top)) (has f) part (λ x c. has-filter (has f) top x (part_has part top within x c))

within_more : (part top f : List ℕ) → LiesWithin part top → LiesWithin (meet part f) top
within_more part top f within = kept_whole (has top) (filter (has f) part) (λ x c. part_has part top within x (Contains-filter (has f) part x c))

pub next_within : (F : List ℕ → Type 0) (top face : List ℕ) → IsNext F top face → LiesWithin face top
next_within F top face n =
    subst (λ (s : List ℕ). LiesWithin s top) (sym n.0.proper.2)
    (kept_whole (has top) (filter (has n.0.proper.0) top) (λ x c. (has-Decides top x).1 (Contains-filter (has n.0.proper.0) top x c)))

-- ---- chains from parts of a set, where G are its meets with the members of F

module _ (F G : List ℕ → Type 0) (top : List ℕ) (there : (f : List ℕ) → F f → meet top f ≢ top → G (meet top f))
    (back : (g : List ℕ) → G g → (f : List ℕ) × F f × (g ≡ meet top f)) where
  proper_narrow : (part x : List ℕ) → LiesWithin part top → IsProperMeet F part x → IsProperMeet G part x
  proper_narrow part x within p = (
    meet top p.0,
    there p.0 p.1 (λ e. p.3 (p.2 ∙ sym (meet_part part top p.0 within) ∙ ap (meet part) e ∙ within)),
    p.2
        ∙ sym (meet_part part top p.0 within),
    p.3,
  )

  proper_wide : (part x : List ℕ) → LiesWithin part top → IsProperMeet G part x → IsProperMeet F part x
  proper_wide part x within p =
      let f = back p.0 p.1 in
      (f.0, f.1, p.2 ∙ ap (meet part) f.2 ∙ meet_part part top f.0 within, p.3)

  face_narrow : (part x : List ℕ) → LiesWithin part top → IsFaceOf F part x → IsFaceOf G part x
  face_narrow part x within f =
      record { proper = proper_narrow part x within f.proper; maximal = λ other p w. f.maximal other (proper_wide part other within p) w }

  face_wide : (part x : List ℕ) → LiesWithin part top → IsFaceOf G part x → IsFaceOf F part x
  face_wide part x within f =
      record { proper = proper_wide part x within f.proper; maximal = λ other p w. f.maximal other (proper_narrow part other within p) w }

  descent_narrow : (part : List ℕ) (chain : List (List ℕ)) → LiesWithin part top → IsDescent F part chain → IsDescent G part chain
  descent_narrow part [] within h = h
  descent_narrow part (face ∷ chain) within h = (
    (face_narrow part face within h.0.0, h.0.1),
    descent_narrow face chain (subst (λ (s : List ℕ). LiesWithin s top) (sym h.0.0.proper.2) (within_more part top h.0.0.proper.0 within)) h.1,
  )

  descent_wide : (part : List ℕ) (chain : List (List ℕ)) → LiesWithin part top → IsDescent G part chain → IsDescent F part chain
  descent_wide part [] within h = h
  descent_wide part (face ∷ chain) within h = (
    (face_wide part face within h.0.0, h.0.1),
    descent_wide face chain (subst (λ (s : List ℕ). LiesWithin s top) (sym h.0.0.proper.2) (within_more part top h.0.0.proper.0 within)) h.1,
  )

  goes_on_narrow : (d : ℕ) (front part simplex : List ℕ) → LiesWithin part top → GoesOn F d front part simplex → GoesOn G d front part simplex
  goes_on_narrow d front part simplex within g =
      record { chain = g.chain; descends = descent_narrow part g.chain within g.descends; full = g.full; vertices = g.vertices }

  goes_on_wide : (d : ℕ) (front part simplex : List ℕ) → LiesWithin part top → GoesOn G d front part simplex → GoesOn F d front part simplex
  goes_on_wide d front part simplex within g =
      record { chain = g.chain; descends = descent_wide part g.chain within g.descends; full = g.full; vertices = g.vertices }

  adds_wide : (d : ℕ) (front part : List ℕ) (old new : List (List ℕ)) → LiesWithin part top → AddsPulled G d front part old new
      → AddsPulled F d front part old new
  adds_wide d front part old new within a = record {
    each = λ simplex. (
      λ c. elim ((a.each simplex).0 c) as (λ _. Contains old simplex ⊎ GoesOn F d front part simplex)
          [ inl o ↦ inl o | inr g ↦ inr (goes_on_wide d front part simplex within g) ],
      λ c. (a.each simplex).1
          (elim c as (λ _. Contains old simplex ⊎ GoesOn G d front part simplex)
          [ inl o ↦ inl o | inr g ↦ inr (goes_on_narrow d front part simplex within g) ]),
    );
  }

-- over sets that are written as numbers
pub meets_suffice : (facets meets : List ℕ) (set : ℕ) → set < 2 ^ 64 → AreMeets facets set meets → (d : ℕ) (front part : List ℕ) (old new : List (List ℕ))
    → LiesWithin part (point_set set)
    → AddsPulled (Contains (map point_set meets)) d front part old new → AddsPulled (Contains (map point_set facets)) d front part old new
meets_suffice facets meets set small are = adds_wide (Contains (map point_set facets)) (Contains (map point_set meets)) (point_set set) there back
  where
    there : (f : List ℕ) → Contains (map point_set facets) f → meet (point_set set) f ≢ point_set set → Contains (map point_set meets) (meet (point_set set) f)
    there f c ne =
        let m = from_Contains-map point_set facets f c in
        let e : point_set (bit_and set m.0) ≡ meet (point_set set) f = points-meet set m.0 ∙ ap (meet (point_set set)) m.2 in
        subst (Contains (map point_set meets)) e
        (Contains-mapped point_set meets (bit_and set m.0) ((are (bit_and set m.0)).1 (m.0, m.1, refl, λ q. ne (sym e ∙ ap point_set q))))

    back : (g : List ℕ) → Contains (map point_set meets) g → (f : List ℕ) × Contains (map point_set facets) f × (g ≡ meet (point_set set) f)
    back g c =
        let m = from_Contains-map point_set meets g c in
        let i = (are m.0).0 m.1 in
        (point_set i.0, Contains-mapped point_set facets i.0 i.1, sym m.2 ∙ ap point_set i.2 ∙ points-meet set i.0)
