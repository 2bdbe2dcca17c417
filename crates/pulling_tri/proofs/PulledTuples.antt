-- A list of tuples that is sorted, and of which repeats are dropped, has all pulled simplices in ascending order.
use Rattle.std.specs.Prelude.{◌≡◌, ◌<◌, ℕ, nat_eq, List, [], Contains, IsTrue, IsPermutation}
use Rattle.std.specs.List.{dedup}
use Rattle.std.specs.List.Sorted.{IsSorted}
use Rattle.std.specs.Cmp.Lexicographic.{slice_cmp, pointwise, texts_ties}
use Rattle.std.specs.Ordering.{nat_cmp}
use Rattle.std.proofs.Common.{sym, subst, arith, inl, inr}
use Rattle.std.proofs.lemmas.Cmp.{nat_list_cmp_total, nat_list_eq_equiv}
use Rattle.std.proofs.lemmas.List.Kept.{Contains-dedup, Contains-from_dedup, IsStrictlySortedBy-dedup}
use Rattle.std.proofs.lemmas.List.Sorted.{Contains-permutation, IsPermutation-sym}
use Rattle.std.proofs.lemmas.Slice.Eq.{bytes_eq-Decides}
use Rattle.lists.specs.Orders.{comes_before}
use Rattle.iso_model.specs.Hulls.{ArePulled}
use Rattle.pulling_tri.specs.Pulling.{GoesOn, AddsPulled}
use Rattle.pulling_tri.proofs.ChainLaws.{Ascends, pulled_goes_on, goes_on_pulled, goes_on_length}
use Rattle.lists.specs.Members.{AscendsBy}
use Rattle.lists.proofs.Orderings.{ascends_by_steps, ascends_from}

-- ---- the order of tuples

-- ---- the answer

pub pulled_list : (Facet : List ℕ → Type 0) (d : ℕ) (set : List ℕ) (added moved kept : List (List ℕ)) → Ascends set
    → AddsPulled Facet d [] set [] added → IsPermutation added moved
    → IsSorted (slice_cmp nat_cmp) moved → kept ≡ dedup (pointwise nat_eq) moved → ArePulled Facet d set kept
pulled_list Facet d set added moved kept a adds p s k = record {
  each = λ simplex. (λ c. goes_on_pulled Facet d set simplex a (there simplex c), λ h. back simplex (pulled_goes_on Facet d set simplex a h));
  ascending =
      ascends_by_steps (λ (v w : List ℕ). IsTrue (comes_before v w)) kept
      (subst (AscendsBy (λ (v w : List ℕ). IsTrue (comes_before v w))) (sym k) rises);
}
  where
    there : (simplex : List ℕ) → Contains kept simplex → GoesOn Facet d [] set simplex
    there simplex c =
        let m = Contains-from_dedup (pointwise nat_eq) moved simplex (subst (λ (xs : List (List ℕ)). Contains xs simplex) k c) in
        elim ((adds.each simplex).0 (Contains-permutation moved added simplex (IsPermutation-sym added moved p) m)) as (λ _. GoesOn Facet d [] set simplex) [
          | inl o ↦ absurd (let h : o.0 < 0 = o.1 in omega arith)
          | inr g ↦ g
        ]

    back : (simplex : List ℕ) → GoesOn Facet d [] set simplex → Contains kept simplex
    back simplex g = subst (λ (xs : List (List ℕ)). Contains xs simplex) (sym k)
        (Contains-dedup nat_list_eq_equiv (λ x y e. (bytes_eq-Decides x y).0 e) moved simplex
        (Contains-permutation added moved simplex p ((adds.each simplex).1 (inr g))))

    rises : AscendsBy (λ (v w : List ℕ). IsTrue (comes_before v w)) (dedup (pointwise nat_eq) moved)
    rises =
        ascends_from d (dedup (pointwise nat_eq) moved)
        (λ x c. goes_on_length Facet d set x (there x (subst (λ (xs : List (List ℕ)). Contains xs x) (sym k) c)))
        (IsStrictlySortedBy-dedup nat_list_cmp_total texts_ties moved s)
