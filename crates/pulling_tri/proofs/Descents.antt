-- The lists of first vertices along all chains through a set are those along the chains through its next sets.
use Rattle.std.specs.Prelude.{◌≡◌, ◌≢◌, ◌⊎◌, ◌<◌, ◌+◌, ℕ, suc, List, [], ◌∷◌, ◌++◌, map, length, Contains}
use Rattle.std.proofs.lemmas.List.{take_all}
use Rattle.std.proofs.Common.{take, length-take-le, refl, sym, ap, ◌∙◌, subst, arith, inl, inr, append_assoc}
use Rattle.std.proofs.lemmas.List.Elements.{Contains-append_left, Contains-push, Contains-push_cases}
use Rattle.iso_model.specs.Hulls.{first_vertex}
use Rattle.pulling_tri.specs.Pulling.{IsNext, AreNext, IsDescent, GoesOn, AddsPulled, AddsBelow}
use Rattle.pulling_tri.proofs.ChainLaws.{no_face_of_none}

longer : (front : List ℕ) (x : ℕ) → length (front ++ x ∷ []) ≡ length front + 1
longer [] x = refl
longer (y ∷ front) x = ap suc (longer front x) ∙ omega arith

-- ---- a chain of at least two sets

pub into_next : (Facet : List ℕ → Type 0) (d : ℕ) (front set face simplex : List ℕ) → IsNext Facet set face
    → GoesOn Facet d (front ++ first_vertex set ∷ []) face simplex → GoesOn Facet d front set simplex
into_next Facet d front set face simplex n g =
    let f = g.full in
    let l = longer front (first_vertex set) in
    record {
      chain = face ∷ g.chain;
      descends = (n, g.descends);
      full = omega arith;
      vertices = g.vertices ∙ append_assoc front (first_vertex set ∷ []) (map first_vertex (face ∷ g.chain));
    }

abbrev NextOn : (List ℕ → Type 0) → ℕ → List ℕ → List ℕ → List ℕ → Type 0
NextOn Facet d front set simplex = (face : List ℕ) × IsNext Facet set face × GoesOn Facet d (front ++ first_vertex set ∷ []) face simplex

to_next : (Facet : List ℕ → Type 0) (d : ℕ) (front set simplex : List ℕ) (chain : List (List ℕ)) → length front + 1 < d → IsDescent Facet set chain
    → length front + 1 + length chain ≡ d
    → simplex ≡ front ++ map first_vertex (set ∷ chain) → NextOn Facet d front set simplex
to_next Facet d front set simplex [] h e f v = absurd (omega arith)
to_next Facet d front set simplex (face ∷ chain) h e f v =
    let l = longer front (first_vertex set) in (
      face,
      e.0,
      record {
        chain = chain;
        descends = e.1;
        full = omega arith;
        vertices = v ∙ sym (append_assoc front (first_vertex set ∷ []) (map first_vertex (face ∷ chain)));
      },
    )

pub out_of_next : (Facet : List ℕ → Type 0) (d : ℕ) (front set simplex : List ℕ) → length front + 1 < d → GoesOn Facet d front set simplex
    → NextOn Facet d front set simplex
out_of_next Facet d front set simplex h g = to_next Facet d front set simplex g.chain h g.descends g.full g.vertices

-- ---- from each of the next sets

pub none_below : (Facet : List ℕ → Type 0) (d : ℕ) (front : List ℕ) (old : List (List ℕ)) → AddsBelow Facet d front [] old old
none_below Facet d front old = record {
  each = λ simplex. (
    λ c. inl c,
    λ c. elim c as (λ _. Contains old simplex) [
      | inl o ↦ o
      | inr p ↦ absurd (let k : p.1.0 < 0 = p.1.1 in omega arith)
    ],
  );
}

pub one_more_below : (Facet : List ℕ → Type 0) (d : ℕ) (front set : List ℕ) (sets old mid new : List (List ℕ)) → AddsBelow Facet d front sets old mid
    → AddsPulled Facet d front set mid new
    → AddsBelow Facet d front (sets ++ set ∷ []) old new
one_more_below Facet d front set sets old mid new a b = record {
  each = λ simplex. (λ c. there simplex ((b.each simplex).0 c), λ c. back simplex c);
}
  where
    Below : List (List ℕ) → List ℕ → Type 0
    Below some simplex = (s : List ℕ) × Contains some s × GoesOn Facet d front s simplex

    there : (simplex : List ℕ) → Contains mid simplex ⊎ GoesOn Facet d front set simplex
        → Contains old simplex ⊎ ((s : List ℕ) × Contains (sets ++ set ∷ []) s × GoesOn Facet d front s simplex)
    there simplex (inl m) = elim ((a.each simplex).0 m) as
        (λ _. Contains old simplex ⊎ ((s : List ℕ) × Contains (sets ++ set ∷ []) s × GoesOn Facet d front s simplex)) [
          | inl o ↦ inl o
          | inr p ↦ inr (p.0, Contains-append_left sets (set ∷ []) p.0 p.1, p.2)
        ]
    there simplex (inr g) = inr (set, Contains-push sets set, g)

    back : (simplex : List ℕ) → Contains old simplex ⊎ ((s : List ℕ) × Contains (sets ++ set ∷ []) s × GoesOn Facet d front s simplex) → Contains new simplex
    back simplex (inl o) = (b.each simplex).1 (inl ((a.each simplex).1 (inl o)))
    back simplex (inr p) = elim (Contains-push_cases sets set p.0 p.1) as (λ _. Contains new simplex) [
      | inl c ↦ (b.each simplex).1 (inl ((a.each simplex).1 (inr (p.0, c, p.2))))
      | inr e ↦ (b.each simplex).1 (inr (subst (λ (s : List ℕ). GoesOn Facet d front s simplex) (sym e) p.2))
    ]

pub all_below : (Facet : List ℕ → Type 0) (d : ℕ) (front set : List ℕ) (faces old new : List (List ℕ)) → length front + 1 < d → AreNext Facet set faces
    → AddsBelow Facet d (front ++ first_vertex set ∷ []) faces old new → AddsPulled Facet d front set old new
all_below Facet d front set faces old new h next a = record {
  each = λ simplex. (λ c. there simplex ((a.each simplex).0 c), λ c. (a.each simplex).1 (back simplex c));
}
  where
    there : (simplex : List ℕ) → Contains old simplex ⊎ ((s : List ℕ) × Contains faces s × GoesOn Facet d (front ++ first_vertex set ∷ []) s simplex)
        → Contains old simplex ⊎ GoesOn Facet d front set simplex
    there simplex (inl o) = inl o
    there simplex (inr p) = inr (into_next Facet d front set p.0 simplex ((next p.0).0 p.1) p.2)

    back : (simplex : List ℕ) → Contains old simplex ⊎ GoesOn Facet d front set simplex
        → Contains old simplex ⊎ ((s : List ℕ) × Contains faces s × GoesOn Facet d (front ++ first_vertex set ∷ []) s simplex)
    back simplex (inl o) = inl o
    back simplex (inr g) = let n = out_of_next Facet d front set simplex h g in inr (n.0, (next n.0).1 n.1, n.2)

-- ---- the last set of a chain

nothing_added : (Facet : List ℕ → Type 0) (d : ℕ) (front set : List ℕ) (old : List (List ℕ))
    → ((simplex : List ℕ) → GoesOn Facet d front set simplex → ⊥) → AddsPulled Facet d front set old old
nothing_added Facet d front set old never = record {
  each = λ simplex. (
    λ c. inl c,
    λ c. elim c as (λ _. Contains old simplex) [ inl o ↦ o | inr g ↦ absurd (never simplex g) ],
  );
}

last_alone : (Facet : List ℕ → Type 0) (set : List ℕ) (chain : List (List ℕ)) → IsDescent Facet set chain → length chain ≡ 0 → (length set ≡ 1) × (chain ≡ [])
last_alone Facet set [] h e = (h, refl)
last_alone Facet set (face ∷ chain) h e = absurd (omega arith)

pub no_point : (Facet : List ℕ → Type 0) (d : ℕ) (front set : List ℕ) (old : List (List ℕ)) → length front + 1 ≡ d → length set ≢ 1
    → AddsPulled Facet d front set old old
no_point Facet d front set old l n = nothing_added Facet d front set old
    (λ simplex g. let f = g.full in let z : length g.chain ≡ 0 = omega arith in n (last_alone Facet set g.chain g.descends z).0)

pub none_from_none : (Facet : List ℕ → Type 0) (d : ℕ) (front : List ℕ) (old : List (List ℕ)) → AddsPulled Facet d front [] old old
none_from_none Facet d front old = nothing_added Facet d front [] old (λ simplex g. ends g.chain g.descends)
  where
    ends : (chain : List (List ℕ)) → IsDescent Facet [] chain → ⊥
    ends [] h = omega (arith, h)
    ends (face ∷ chain) h = no_face_of_none Facet face h.0.0

pub one_point : (Facet : List ℕ → Type 0) (d : ℕ) (front set : List ℕ) (old : List (List ℕ)) → length front + 1 ≡ d → length set ≡ 1
    → AddsPulled Facet d front set old (old ++ (front ++ first_vertex set ∷ []) ∷ [])
one_point Facet d front set old l n = record { each = λ simplex. (λ c. there simplex c, λ c. back simplex c) }
  where
    own : GoesOn Facet d front set (front ++ first_vertex set ∷ [])
    own = record { chain = []; descends = n; full = omega arith; vertices = refl }

    there : (simplex : List ℕ) → Contains (old ++ (front ++ first_vertex set ∷ []) ∷ []) simplex → Contains old simplex ⊎ GoesOn Facet d front set simplex
    there simplex c = elim (Contains-push_cases old (front ++ first_vertex set ∷ []) simplex c) as
        (λ _. Contains old simplex ⊎ GoesOn Facet d front set simplex) [
          | inl o ↦ inl o
          | inr e ↦ inr (subst (λ (s : List ℕ). GoesOn Facet d front set s) e own)
        ]

    back : (simplex : List ℕ) → Contains old simplex ⊎ GoesOn Facet d front set simplex → Contains (old ++ (front ++ first_vertex set ∷ []) ∷ []) simplex
    back simplex (inl o) = Contains-append_left old ((front ++ first_vertex set ∷ []) ∷ []) simplex o
    back simplex (inr g) =
        let f = g.full in
        let z : length g.chain ≡ 0 = omega arith in
        let e : g.chain ≡ [] = (last_alone Facet set g.chain g.descends z).1 in
        subst (λ (s : List ℕ). Contains (old ++ (front ++ first_vertex set ∷ []) ∷ []) s)
        (sym (g.vertices ∙ ap (λ (c : List (List ℕ)). front ++ map first_vertex (set ∷ c)) e))
        (Contains-push old (front ++ first_vertex set ∷ []))

-- ---- a list of first vertices in a longer one

filled_length : (firsts : List ℕ) (filled d : ℕ) → length firsts ≡ d → filled < d → length (take filled firsts) ≡ filled
filled_length firsts filled d l h = length-take-le filled firsts (omega arith)

-- the first vertices of a whole chain are put at the end, where its last set is a single point
pub point_put : (Facet : List ℕ → Type 0) (d : ℕ) (firsts longer : List ℕ) (filled x : ℕ) (set : List ℕ) (old new : List (List ℕ)) → length firsts ≡ d
    → filled + 1 ≡ d → length longer ≡ d
    → take (filled + 1) longer ≡ take filled firsts ++ x ∷ [] → x ≡ first_vertex set → length set ≡ 1 → new ≡ old ++ longer ∷ []
    → AddsPulled Facet d (take filled firsts) set old new
point_put Facet d firsts longer filled x set old new l f w more least point put =
    let n = filled_length firsts filled d l (omega arith) in
    let tuple : longer ≡ take filled firsts ++ first_vertex set ∷ [] =
    sym (take_all (filled + 1) longer (omega arith)) ∙ more ∙ ap (λ (y : ℕ). take filled firsts ++ y ∷ []) least in
    subst (λ (s : List (List ℕ)). AddsPulled Facet d (take filled firsts) set old s) (sym (put ∙ ap (λ (t : List ℕ). old ++ t ∷ []) tuple))
    (one_point Facet d (take filled firsts) set old (omega arith) point)

-- and where it is not, there is nothing to put
pub no_point_put : (Facet : List ℕ → Type 0) (d : ℕ) (firsts : List ℕ) (filled : ℕ) (set : List ℕ) (old : List (List ℕ)) → length firsts ≡ d
    → filled + 1 ≡ d → length set ≢ 1
    → AddsPulled Facet d (take filled firsts) set old old
no_point_put Facet d firsts filled set old l f n =
    let m = filled_length firsts filled d l (omega arith) in no_point Facet d (take filled firsts) set old (omega arith) n

-- all next sets are gone through
pub all_put : (Facet : List ℕ → Type 0) (d : ℕ) (firsts longer : List ℕ) (filled x : ℕ) (set : List ℕ) (faces old new : List (List ℕ))
    → length firsts ≡ d → filled + 1 < d
    → take (filled + 1) longer ≡ take filled firsts ++ x ∷ [] → x ≡ first_vertex set → AreNext Facet set faces
    → AddsBelow Facet d (take (filled + 1) longer) faces old new
    → AddsPulled Facet d (take filled firsts) set old new
all_put Facet d firsts longer filled x set faces old new l h more least next below =
    let n = filled_length firsts filled d l (omega arith) in
    all_below Facet d (take filled firsts) set faces old new (omega arith) next
    (subst (λ (f : List ℕ). AddsBelow Facet d f faces old new) (more ∙ ap (λ (y : ℕ). take filled firsts ++ y ∷ []) least) below)
