-- The numbers of facets and their sets.
use Rattle.std.specs.Prelude.{◌≡◌, ◌↔◌, ◌≤◌, ◌<◌, ◌==◌, ℕ, ℤ, Bool, true, false, List, map, filter, length, Contains}
use Rattle.std.proofs.Common.{refl, sym, ap, ◌∙◌, subst}
use Rattle.std.proofs.lemmas.Nat.Bits.{bit_at_above}
use Rattle.iso_model.specs.Hulls.{IsFacet}
use Rattle.halfspace.specs.Choices.{AreFacetNumbers, IsFacetNumber}
use Rattle.halfspace.proofs.FoundSets.{digit, bit_of_number}
use Rattle.pulling_tri.specs.PointSets.{point_set}
use Rattle.pulling_tri.proofs.Callers.{points-are}
use Rattle.pulling_tri.proofs.ChainLaws.{Ascends, filter_ascends}
use Rattle.pulling_tri.proofs.SetBits.{range_ascends}
use Rattle.case_patch.specs.FacetLists.{AreAllFacets}
use Rattle.lists.specs.Orders.{numbers}
use Rattle.lists.specs.Bits.{set_number}
use Rattle.lists.proofs.Contained.{from_Contains-map, Contains-mapped}
use Rattle.halfspace.proofs.TightNumbers.{set_number-below}

pub digit_test : (b : Bool) → (digit b == 1) ≡ b
digit_test true = refl
digit_test false = refl

-- a set that is given by a test is that of its number
pub tested_set : (p : ℕ → Bool) (n : ℕ) → n ≤ 64 → point_set (set_number (filter p (numbers n))) ≡ filter p (numbers n)
tested_set p n h = points-are (set_number (filter p (numbers n))) n p h
    (λ i b. ap (λ (k : ℕ). k == 1) (bit_of_number p n i b) ∙ digit_test (p i))
    (λ i b. bit_at_above (set_number (filter p (numbers n))) n i (set_number-below p n) b)

pub facet_set : (d : ℕ) (points : List (List ℤ)) (set : List ℕ) → length points ≤ 64 → IsFacet d points set → point_set (set_number set) ≡ set
facet_set d points set h f = ap (λ (s : List ℕ). point_set (set_number s)) f.tight ∙ tested_set _ (length points) h ∙ sym f.tight

pub facet_ascends : (d : ℕ) (points : List (List ℤ)) (set : List ℕ) → IsFacet d points set → Ascends set
facet_ascends d points set f = subst Ascends (sym f.tight) (filter_ascends (λ (a b : ℕ). a < b) _ (numbers (length points)) (range_ascends 0 (length points)))

-- the number of a facet's set, and the facet
pub record IsNumberOf (d : ℕ) (points : List (List ℤ)) (number : ℕ) : Type 0 where
  pub set : List ℕ
  pub facet : IsFacet d points set
  pub is : number ≡ set_number set
  pub shown : point_set number ≡ set

pub number_facet : (d : ℕ) (points : List (List ℤ)) (found : List ℕ) (number : ℕ) → length points ≤ 64 → AreAllFacets d points found
    → Contains found number → IsNumberOf d points number
number_facet d points found number h are c =
    let m = (are.each number).0 c in
    record { set = m.0; facet = m.1; is = m.2; shown = ap point_set m.2 ∙ facet_set d points m.0 h m.1 }

pub facet_number : (d : ℕ) (points : List (List ℤ)) (found : List ℕ) (set : List ℕ) → AreAllFacets d points found → IsFacet d points set
    → Contains found (set_number set)
facet_number d points found set are f = (are.each (set_number set)).1 (set, f, refl)

-- the numbers in ascending order are the numbers of all facets
pub listed_facets : (d : ℕ) (points : List (List ℤ)) (found : List ℕ) → AreFacetNumbers d points found → AreAllFacets d points found
listed_facets d points found are = record { each = λ number. (λ c. there number c, λ f. back number f) }
  where
    there : (number : ℕ) → Contains found number → IsFacetNumber d points number
    there number c =
        let m = from_Contains-map set_number are.sets number (subst (λ (xs : List ℕ). Contains xs number) are.numbered c) in
        (m.0, (are.facets.each m.0).0 m.1, sym m.2)

    back : (number : ℕ) → IsFacetNumber d points number → Contains found number
    back number f =
        subst (Contains found) (sym f.2)
        (subst (λ (xs : List ℕ). Contains xs (set_number f.0)) (sym are.numbered)
        (Contains-mapped set_number are.sets f.0 ((are.facets.each f.0).1 f.1)))

-- the sets of these numbers are the facets
pub facets_same : (d : ℕ) (points : List (List ℤ)) (found : List ℕ) → length points ≤ 64 → AreAllFacets d points found → (set : List ℕ)
    → Contains (map point_set found) set ↔ IsFacet d points set
facets_same d points found h are set = (λ c. there c, λ f. back f)
  where
    there : Contains (map point_set found) set → IsFacet d points set
    there c =
        let m = from_Contains-map point_set found set c in
        let n = number_facet d points found m.0 h are m.1 in
        subst (IsFacet d points) (sym n.shown ∙ m.2) n.facet

    back : IsFacet d points set → Contains (map point_set found) set
    back f =
        subst (Contains (map point_set found)) (facet_set d points set h f)
        (Contains-mapped point_set found (set_number set) (facet_number d points found set are f))
