-- An ascending list of members of an ascending list is one of the choices of its members.
use Rattle.std.proofs.Common.{◌≡◌, ℕ, suc, ◌<◌, true, List, [], ◌∷◌, length, refl, subst, sym, arith, inl, inr}
use Rattle.std.specs.Prelude.{map, ◌⊎◌}
use Rattle.iso_model.specs.declared.Kind.{Kind}
use Rattle.lists.specs.Orders.{numbers, choices}
use Rattle.iso_model.specs.Cells.{edge_count, edge_in_facet, facet_edges}
use Rattle.lists.specs.Members.{In, Each, Ascends}
use Rattle.lists.proofs.MemberLaws.{In-map, In-append_left, In-append_right, Each-In, In-numbers, In-filter}
use Rattle.iso_model.proofs.SignLaws.{facet_edges_ascend}

-- ---- ascending lists

-- ---- choices

-- a greater member stands in the rest
in_rest : (x y : ℕ) (xs : List ℕ) → x < y → In y (x ∷ xs) → In y xs
in_rest x y xs less (inl e) = absurd (omega (arith, less, e))
in_rest x y xs less (inr i) = i

choice_case : (f : ℕ) (fs : List ℕ) (x : ℕ) (xs : List ℕ) → Ascends (f ∷ fs) → Ascends (x ∷ xs) → ((y : ℕ) → In y (f ∷ fs) → In y (x ∷ xs))
    → (((y : ℕ) → In y fs → In y xs) → In fs (choices (length fs) xs)) → (((y : ℕ) → In y (f ∷ fs) → In y xs) → In (f ∷ fs) (choices (length (f ∷ fs)) xs))
    → (f ≡ x) ⊎ In f xs → In (f ∷ fs) (choices (length (f ∷ fs)) (x ∷ xs))
choice_case f fs x xs a b all with_it without_it (inl e) =
    let others : In fs (choices (length fs) xs) = with_it (λ y i. in_rest x y xs (let less : f < y = a.0 y i in omega (arith, less, e)) (all y (inr i))) in
    let first : In (x ∷ fs) (map (λ r. x ∷ r) (choices (length fs) xs)) = In-map (λ r. x ∷ r) (choices (length fs) xs) fs others in
    subst (λ (z : ℕ). In (z ∷ fs) (choices (suc (length fs)) (x ∷ xs))) (sym e)
    (In-append_left (map (λ r. x ∷ r) (choices (length fs) xs)) (choices (suc (length fs)) xs) (x ∷ fs) first)
choice_case f fs x xs a b all with_it without_it (inr j) =
    let high : x < f = b.0 f j in
    let others : In (f ∷ fs) (choices (suc (length fs)) xs) = without_it (λ y i. elim i as (λ _. In y xs) [
      | inl e ↦ subst (λ (z : ℕ). In z xs) (sym e) j
      | inr k ↦ in_rest x y xs (let less : f < y = a.0 y k in omega (arith, less, high)) (all y (inr k))
    ]) in
    In-append_right (map (λ r. x ∷ r) (choices (length fs) xs)) (choices (suc (length fs)) xs) (f ∷ fs) others

ascending_choice : (fs xs : List ℕ) → Ascends fs → Ascends xs → ((y : ℕ) → In y fs → In y xs) → In fs (choices (length fs) xs)
ascending_choice [] xs a b all = inl refl
ascending_choice (f ∷ fs) [] a b all = absurd (all f (inl refl))
ascending_choice (f ∷ fs) (x ∷ xs) a b all =
    choice_case f fs x xs a b all (λ h. ascending_choice fs xs a.1 b.1 h) (λ h. ascending_choice (f ∷ fs) xs a b.1 h) (all f (inl refl))

-- an ascending list of edges of a facet is a choice among the facet's edges
pub choice_of_facet : (kind : Kind) (d f : ℕ) (face : List ℕ) → Ascends face → Each (λ e. (e < edge_count kind d) × (edge_in_facet kind d f e ≡ true)) face
    → In face (choices (length face) (facet_edges kind d f))
choice_of_facet kind d f face a all = ascending_choice face (facet_edges kind d f) a (facet_edges_ascend kind d f) (λ y i.
    let r = Each-In (λ e. (e < edge_count kind d) × (edge_in_facet kind d f e ≡ true)) face all y i in
    In-filter (edge_in_facet kind d f) (numbers (edge_count kind d)) y (In-numbers (edge_count kind d) y r.0) r.1)
