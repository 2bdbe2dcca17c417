-- For callers that know the facets in other words: sets that are given by a test, and another predicate for the facets.
use Rattle.std.specs.Prelude.{◌≡◌, ◌↔◌, ◌⊎◌, ◌<◌, ◌≤◌, ◌==◌, ℕ, Bool, List, [], ◌∷◌, filter, Contains}
use Rattle.std.specs.Int.{bit_at}
use Rattle.std.proofs.Common.{sym, ◌∙◌, arith, inl, inr}
use Rattle.lists.specs.Orders.{numbers}
use Rattle.iso_model.specs.Hulls.{IsProperMeet, IsFaceOf}
use Rattle.pulling_tri.specs.PointSets.{point_set}
use Rattle.pulling_tri.specs.Pulling.{IsDescent}
use Rattle.pulling_tri.proofs.ChainLaws.{filter_ascends}
use Rattle.pulling_tri.proofs.SetBits.{kept_by, set_ascends, bit_member, member_bit, range_ascends}
use Rattle.lists.specs.Bits.{set_of}
use Rattle.lists.specs.Members.{IsStrict}
use Rattle.lists.proofs.Tests.{equal_of, of_equal}
use Rattle.lists.proofs.Contained.{Contains-filter, below_contained, contained_below, Contains-passes}
use Rattle.lists.proofs.Orderings.{ascends_same}
use Rattle.std.proofs.lemmas.Bool.{cases_lt}

below_strict : IsStrict (λ (a b : ℕ). a < b)
below_strict = record { irreflexive = λ x h. omega (arith, h); transitive = λ x y z h k. omega (arith, h, k) }

-- the set of a number whose bits below n are those of a test, and which has no bit from n on, is that of the numbers that pass the test
pub points-are : (number n : ℕ) (p : ℕ → Bool) → n ≤ 64 → ((i : ℕ) → i < n → (bit_at number i == 1) ≡ p i) → ((i : ℕ) → n ≤ i → bit_at number i ≡ 0)
    → point_set number ≡ filter p (numbers n)
unfolding point_set
points-are number n p h same none =
    ascends_same (λ (a b : ℕ). a < b) below_strict (set_of number) (filter p (numbers n)) (set_ascends number)
    (filter_ascends (λ (a b : ℕ). a < b) p (numbers n) (range_ascends 0 n))
    (λ i. (λ c. there i c (cases_lt i n), λ c. back i c))
  where
    there : (i : ℕ) → Contains (set_of number) i → (i < n) ⊎ (n ≤ i) → Contains (filter p (numbers n)) i
    there i c (inl l) = kept_by p (numbers n) i (contained_below n i l) (sym (same i l) ∙ of_equal (bit_at number i) 1 (member_bit number i c))
    there i c (inr m) = absurd (let z = none i m in let o = member_bit number i c in omega arith)

    back : (i : ℕ) → Contains (filter p (numbers n)) i → Contains (set_of number) i
    back i c =
        let l = below_contained n i (Contains-filter p (numbers n) i c) in
        bit_member number i (omega arith) (equal_of (bit_at number i) 1 (same i l ∙ Contains-passes p (numbers n) i c))

-- ---- where two predicates have the same facets

module _ (F G : List ℕ → Type 0) (same : (s : List ℕ) → F s ↔ G s) where
  proper_same : (set face : List ℕ) → IsProperMeet F set face → IsProperMeet G set face
  proper_same set face p = (p.0, (same p.0).0 p.1, p.2, p.3)

  proper_back : (set face : List ℕ) → IsProperMeet G set face → IsProperMeet F set face
  proper_back set face p = (p.0, (same p.0).1 p.1, p.2, p.3)

  face_same : (set face : List ℕ) → IsFaceOf F set face → IsFaceOf G set face
  face_same set face f = record { proper = proper_same set face f.proper; maximal = λ other p w. f.maximal other (proper_back set other p) w }

  descent_same : (set : List ℕ) (chain : List (List ℕ)) → IsDescent F set chain → IsDescent G set chain
  descent_same set [] h = h
  descent_same set (face ∷ chain) h = ((face_same set face h.0.0, h.0.1), descent_same face chain h.1)
