-- A chain of sets is its first set with a descent from there, and its first vertices ascend.
use Rattle.std.specs.Prelude.{◌≡◌, ◌≢◌, ◌<◌, ◌≤◌, ◌+◌, ◌-◌, ℕ, zero, suc, Bool, true, false, nat_le, List, [], ◌∷◌, map, filter, length}
use Rattle.std.specs.Prelude.{slice_index_or, Contains, if◌then◌else◌}
use Rattle.std.specs.List.{AllAdjacentBelow}
use Rattle.std.proofs.Common.{refl, sym, ap, ◌∙◌, subst, arith, inl, inr}
use Rattle.std.proofs.lemmas.Bool.Decides.{nat_tests}
use Rattle.lists.specs.Orders.{has, put_in, sorted}
use Rattle.iso_model.specs.Hulls.{IsFaceOf, IsChain, IsPulled, first_vertex}
use Rattle.pulling_tri.specs.Pulling.{IsNext, IsDescent, GoesOn}
use Rattle.lists.specs.Members.{AscendsBy}
use Rattle.lists.proofs.Contained.{Contains-head, Contains-split, Contains-filter}
use Rattle.lists.proofs.Orderings.{steps_tail}
use Rattle.lists.proofs.Tests.{next_place}
use Rattle.lists.proofs.MemberLaws.{length_map}

-- ---- chains

steps_more : {X : Type 0} (R : X → X → Type 0) (x y : X) (xs : List X) → R x y → AllAdjacentBelow R (y ∷ xs) (length (y ∷ xs))
    → AllAdjacentBelow R (x ∷ y ∷ xs) (length (x ∷ y ∷ xs))
steps_more R x y xs r a zero d h = r
steps_more R x y xs r a (suc k) d h =
    subst (λ (n : ℕ). R (slice_index_or (y ∷ xs) k d) (slice_index_or (x ∷ y ∷ xs) n d)) (next_place k) (a k d (omega (arith, h)))

-- the last set of a chain
last_is : (set face : List ℕ) (chain : List (List ℕ))
    → slice_index_or (set ∷ face ∷ chain) (length (set ∷ face ∷ chain) - 1) [] ≡ slice_index_or (face ∷ chain) (length (face ∷ chain) - 1) []
last_is set face chain =
    let a : length (set ∷ face ∷ chain) - 1 ≡ suc (length chain) = omega arith in
    let b : length (face ∷ chain) - 1 ≡ length chain = omega arith in
    ap (λ (n : ℕ). slice_index_or (set ∷ face ∷ chain) n []) a ∙ ap (λ (n : ℕ). slice_index_or (face ∷ chain) n []) (sym b)

descent_of : (Facet : List ℕ → Type 0) (set : List ℕ) (chain : List (List ℕ)) → length (slice_index_or (set ∷ chain) (length (set ∷ chain) - 1) []) ≡ 1
    → AllAdjacentBelow (IsNext Facet) (set ∷ chain) (length (set ∷ chain)) → IsDescent Facet set chain
descent_of Facet set [] point down = point
descent_of Facet set (face ∷ chain) point down = (
  down 0 [] (omega arith),
  descent_of Facet face chain (ap length (sym (last_is set face chain)) ∙ point) (steps_tail (IsNext Facet) set (face ∷ chain) down),
)

point_of : (Facet : List ℕ → Type 0) (set : List ℕ) (chain : List (List ℕ)) → IsDescent Facet set chain
    → length (slice_index_or (set ∷ chain) (length (set ∷ chain) - 1) []) ≡ 1
point_of Facet set [] h = h
point_of Facet set (face ∷ chain) h = ap length (last_is set face chain) ∙ point_of Facet face chain h.1

down_of : (Facet : List ℕ → Type 0) (set : List ℕ) (chain : List (List ℕ)) → IsDescent Facet set chain
    → AllAdjacentBelow (IsNext Facet) (set ∷ chain) (length (set ∷ chain))
down_of Facet set [] h = λ k d l. absurd (omega (arith, l))
down_of Facet set (face ∷ chain) h = steps_more (IsNext Facet) set face chain h.0 (down_of Facet face chain h.1)

-- a chain of d sets is its first set, and a descent from there
pub chain_of : (Facet : List ℕ → Type 0) (d : ℕ) (set : List ℕ) (chain : List (List ℕ)) → IsDescent Facet set chain → length chain + 1 ≡ d
    → IsChain Facet d set (set ∷ chain)
chain_of Facet d set chain h l = record {
  sets = omega arith;
  top = refl;
  point = point_of Facet set chain h;
  down = down_of Facet set chain h;
}

pub descent_from : (Facet : List ℕ → Type 0) (d : ℕ) (set simplex : List ℕ) (chain : List (List ℕ)) → IsChain Facet d set chain
    → simplex ≡ sorted (map first_vertex chain)
    → (rest : List (List ℕ)) × IsDescent Facet set rest × (length rest + 1 ≡ d) × (simplex ≡ sorted (map first_vertex (set ∷ rest)))
descent_from Facet d set simplex [] c e = absurd (let p : 0 ≡ 1 = c.point in omega arith)
descent_from Facet d set simplex (top ∷ rest) c e =
    let t : top ≡ set = c.top in
    let n = c.sets in (
      rest,
      subst (λ (s : List ℕ). IsDescent Facet s rest) t (descent_of Facet top rest c.point c.down),
      omega arith,
      e ∙ ap (λ (s : List ℕ). sorted (map first_vertex (s ∷ rest))) t,
    )

-- ---- ascending sets

abbrev pub Ascends : List ℕ → Type 0
Ascends set = AscendsBy (λ (a b : ℕ). a < b) set

pub least_first : (set : List ℕ) (x : ℕ) → Ascends set → Contains set x → first_vertex set ≤ x
least_first [] x a c = absurd (let h : c.0 < 0 = c.1 in omega arith)
least_first (y ∷ set) x a c = elim (Contains-split x y set c) as (λ _. y ≤ x) [
  | inl e ↦ omega (arith, e)
  | inr m ↦ let h = a.0 x m in omega arith
]

pub first_there : (set : List ℕ) → set ≢ [] → Contains set (first_vertex set)
first_there [] n = absurd (n refl)
first_there (x ∷ set) n = Contains-head x set

pub filter_ascends : {X : Type 0} (R : X → X → Type 0) (p : X → Bool) (xs : List X) → AscendsBy R xs → AscendsBy R (filter p xs)
filter_ascends R p [] a = tt
filter_ascends {X} R p (x ∷ xs) a = elim (p x) as (λ b. AscendsBy R (if b then x ∷ filter p xs else filter p xs)) [
  | true ↦ (λ y c. a.0 y (Contains-filter p xs y c), filter_ascends R p xs a.1)
  | false ↦ filter_ascends R p xs a.1
]

-- ---- the next set of a chain

pub no_face_of_none : (Facet : List ℕ → Type 0) (face : List ℕ) → IsFaceOf Facet [] face → ⊥
no_face_of_none Facet face f = f.proper.3 f.proper.2

pub descent_some : (Facet : List ℕ → Type 0) (set : List ℕ) (chain : List (List ℕ)) → IsDescent Facet set chain → set ≢ []
descent_some Facet set [] h e = omega (arith, h, ap length e)
descent_some Facet set (face ∷ chain) h e = no_face_of_none Facet face (subst (λ (s : List ℕ). IsFaceOf Facet s face) e h.0.0)

pub face_ascends : (Facet : List ℕ → Type 0) (set face : List ℕ) → IsFaceOf Facet set face → Ascends set → Ascends face
face_ascends Facet set face f a = subst Ascends (sym f.proper.2) (filter_ascends (λ (a b : ℕ). a < b) (has f.proper.0) set a)

face_part : (Facet : List ℕ → Type 0) (set face : List ℕ) (x : ℕ) → IsFaceOf Facet set face → Contains face x → Contains set x
face_part Facet set face x f c = Contains-filter (has f.proper.0) set x (subst (λ (s : List ℕ). Contains s x) f.proper.2 c)

firsts_rise : (Facet : List ℕ → Type 0) (set face : List ℕ) (chain : List (List ℕ)) → IsFaceOf Facet set face → IsDescent Facet face chain
    → Ascends set → first_vertex set ≤ first_vertex face
firsts_rise Facet set face chain f h a =
    least_first set (first_vertex face) a (face_part Facet set face (first_vertex face) f (first_there face (descent_some Facet face chain h)))

put_first : (x y : ℕ) (ys : List ℕ) → x ≤ y → put_in x (y ∷ ys) ≡ x ∷ y ∷ ys
put_first x y ys h = let e : nat_le x y ≡ true = grind (arith, nat_tests) in ap (λ (b : Bool). if b then x ∷ y ∷ ys else y ∷ put_in x ys) e

-- the first vertices along a descent stand in ascending order
pub firsts_sorted : (Facet : List ℕ → Type 0) (set : List ℕ) (chain : List (List ℕ)) → IsDescent Facet set chain → Ascends set
    → sorted (map first_vertex (set ∷ chain)) ≡ map first_vertex (set ∷ chain)
firsts_sorted Facet set [] h a = refl
firsts_sorted Facet set (face ∷ chain) h a =
    ap (put_in (first_vertex set)) (firsts_sorted Facet face chain h.1 (face_ascends Facet set face h.0.0 a))
    ∙ put_first (first_vertex set) (first_vertex face) (map first_vertex chain) (firsts_rise Facet set face chain h.0.0 h.1 a)

-- ---- whole chains, and chains that go on

pub pulled_goes_on : (Facet : List ℕ → Type 0) (d : ℕ) (set simplex : List ℕ) → Ascends set → IsPulled Facet d set simplex → GoesOn Facet d [] set simplex
pulled_goes_on Facet d set simplex a p =
    let r = descent_from Facet d set simplex p.0 p.1 p.2 in
    let n = r.2 in
    record { chain = r.0; descends = r.1; full = omega arith; vertices = r.3 ∙ firsts_sorted Facet set r.0 r.1 a }

pub goes_on_pulled : (Facet : List ℕ → Type 0) (d : ℕ) (set simplex : List ℕ) → Ascends set → GoesOn Facet d [] set simplex → IsPulled Facet d set simplex
goes_on_pulled Facet d set simplex a g =
    let n = g.full in
    let e : length g.chain + 1 ≡ d = omega arith in
    (set ∷ g.chain, chain_of Facet d set g.chain g.descends e, g.vertices ∙ sym (firsts_sorted Facet set g.chain g.descends a))

pub goes_on_length : (Facet : List ℕ → Type 0) (d : ℕ) (set simplex : List ℕ) → GoesOn Facet d [] set simplex → length simplex ≡ d
goes_on_length Facet d set simplex g = let e = ap length g.vertices in let m = length_map first_vertex g.chain in let n = g.full in omega arith
