-- A list of tuples that is sorted, and of which repeats are dropped, has the same tuples in ascending order.
use Rattle.std.specs.Prelude.{◌≡◌, ℕ, Bool, true, false, ◌&&◌, ◌||◌, ◌==◌, nat_eq, nat_lt, cond, List, [], ◌∷◌, length, Contains, IsTrue, IsPermutation}
use Rattle.std.specs.List.{dedup}
use Rattle.std.specs.List.Sorted.{IsSorted, IsStrictlySortedBy}
use Rattle.std.specs.Cmp.Lexicographic.{slice_cmp, pointwise, texts_ties}
use Rattle.std.specs.declared.cmp.Ordering.TheVariants.{Less, Equal, Greater}
use Rattle.std.specs.Ordering.{nat_cmp, ordering_then}
use Rattle.std.proofs.Common.{refl, sym, ◌∙◌, subst, arith}
use Rattle.std.proofs.lemmas.Cmp.{nat_list_cmp_total, nat_list_eq_equiv}
use Rattle.std.proofs.lemmas.List.Elements.{All-from_recursion, All-contains}
use Rattle.std.proofs.lemmas.List.Kept.{Contains-dedup, Contains-from_dedup, IsStrictlySortedBy-dedup}
use Rattle.std.proofs.lemmas.List.Sorted.{Contains-permutation, IsPermutation-sym}
use Rattle.std.proofs.lemmas.Slice.Eq.{bytes_eq-Decides}
use Rattle.lists.specs.Orders.{comes_before}
use Rattle.case_patch.specs.Tuples.{IsOrdered}
use Rattle.lists.specs.Members.{AscendsBy}
use Rattle.lists.proofs.Contained.{Contains-head, Contains-tail}
use Rattle.lists.proofs.Orderings.{ascends_by_steps, before_from_less, ascends_from}

pub ordered_list : (d : ℕ) (old moved kept : List (List ℕ)) → ((t : List ℕ) → Contains old t → length t ≡ d) → IsPermutation old moved
    → IsSorted (slice_cmp nat_cmp) moved
    → kept ≡ dedup (pointwise nat_eq) moved → IsOrdered old kept
ordered_list d old moved kept wide p s k = record {
  same = λ t. (λ c. there t (subst (λ (xs : List (List ℕ)). Contains xs t) k c), λ c. back t c);
  ascending =
      ascends_by_steps (λ (v w : List ℕ). IsTrue (comes_before v w)) kept
      (subst (AscendsBy (λ (v w : List ℕ). IsTrue (comes_before v w))) (sym k) rises);
}
  where
    there : (t : List ℕ) → Contains (dedup (pointwise nat_eq) moved) t → Contains old t
    there t c = Contains-permutation moved old t (IsPermutation-sym old moved p) (Contains-from_dedup (pointwise nat_eq) moved t c)

    back : (t : List ℕ) → Contains old t → Contains kept t
    back t c = subst (λ (xs : List (List ℕ)). Contains xs t) (sym k)
        (Contains-dedup nat_list_eq_equiv (λ x y e. (bytes_eq-Decides x y).0 e) moved t (Contains-permutation old moved t p c))

    rises : AscendsBy (λ (v w : List ℕ). IsTrue (comes_before v w)) (dedup (pointwise nat_eq) moved)
    rises = ascends_from d (dedup (pointwise nat_eq) moved) (λ t c. wide t (there t c)) (IsStrictlySortedBy-dedup nat_list_cmp_total texts_ties moved s)
