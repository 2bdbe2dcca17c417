-- The place of an edge in the list of bipolar edges is the number of midpoints before its own.
use Rattle.std.proofs.lemmas.Bool.{false_from_ne_true}
use Rattle.std.proofs.Common.{ap, inl, inr, sym, subst, ◌∙◌}
use Rattle.std.specs.Prelude.{Bool, Contains, List, [], ◌∷◌, cond, count_by, false, true, length, map, not, ℕ, ◌+◌, ◌≡◌}
use Rattle.std.specs.List.{position_or_len}
use Rattle.iso_model.specs.Cells.{HasDimension}
use Rattle.iso_model.specs.Dimensions.{IsDimension}
use Rattle.iso_model.specs.Points.{comes_first, plus}
use Rattle.iso_model.specs.Splits.{Edge, midpoint}
use Rattle.iso_model.specs.Values.{Volume}
use Rattle.iso_model.specs.Bipolar.{place_in, same_edge}
use Rattle.iso_model.proofs.OrderLaws.{comes_first-irreflexive, comes_first-trans}
use Rattle.iso_model.proofs.SignLaws.{edge_itself}
use Rattle.lists.specs.Members.{AscendsBy}
use Rattle.lists.proofs.Contained.{Contains-head, Contains-split, Contains-tail, none_contained}
use Rattle.lists.proofs.Counts.{count_none}
use Rattle.lists.specs.Orders.{same_list}
use Rattle.lists.proofs.MemberLaws.{Contains_from, lists_equal}
use Rattle.lists.proofs.Tests.{and_left, and_right}
use Rattle.lists.proofs.Sorting.{bit, count_by-cons}
use Rattle.edge_middles.specs.Middles.{edge_at}
use Rattle.edge_middles.specs.GridMiddles.{HasPlace, middles_there}
use Rattle.edge_middles.proofs.ListedEdges.{by_middles, own_there, there_ascend}
use Rattle.edge_middles.proofs.OrderedPoints.{ComesFirst}
use Rattle.edge_middles.proofs.PointsThere.{member_there}

first_place : (t : Bool) (n : ℕ) → t ≡ true → cond (not t) (1 + n) 0 ≡ 0
first_place t n e = ap (λ b. cond (not b) (1 + n) 0) e

later_place : (t : Bool) (n : ℕ) → t ≡ false → cond (not t) (1 + n) 0 ≡ 1 + n
later_place t n e = ap (λ b. cond (not b) (1 + n) 0) e

-- edges with the same ends have the same midpoint
same_midpoint : (a b : Edge) → same_edge a b ≡ true → midpoint a ≡ midpoint b
same_midpoint a b t =
    let low = lists_equal a.low b.low (and_left (same_list a.low b.low) (same_list a.high b.high) t) in
    let high = lists_equal a.high b.high (and_right (same_list a.low b.low) (same_list a.high b.high) t) in
    λ i. plus (low i) (high i)

module _ (m : List ℕ) where
  -- in an ascending list of midpoints the place of the edge at a member is the number of members before it
  pub place_there : (ms : List (List ℕ)) → AscendsBy ComesFirst ms → ((x : List ℕ) → Contains ms x → midpoint (edge_at x) ≡ x) → Contains ms m
      → position_or_len (same_edge (edge_at m)) (map edge_at ms) ≡ count_by (λ p. comes_first p m) ms
  place_there [] a own c = absurd (none_contained m c)
  place_there (x ∷ ms) a own c = elim (Contains-split m x ms c) as
      (λ _. position_or_len (same_edge (edge_at m)) (map edge_at (x ∷ ms)) ≡ count_by (λ p. comes_first p m) (x ∷ ms)) [
        | inl same ↦
            let here : same_edge (edge_at m) (edge_at x) ≡ true = ap (λ y. same_edge (edge_at m) (edge_at y)) same ∙ edge_itself (edge_at m) in
            let none : count_by (λ p. comes_first p m) (x ∷ ms) ≡ 0 = count_none (λ p. comes_first p m) (x ∷ ms)
            (λ y i e. elim (Contains-split y x ms (Contains_from (x ∷ ms) y i)) as (λ _. ⊥) [
              | inl is ↦ comes_first-irreflexive m (subst (λ z. comes_first z m ≡ true) (sym is ∙ same) e)
              | inr later ↦
                  let after : comes_first m y ≡ true = subst (λ z. comes_first z y ≡ true) same (a.0 y later) in
                  comes_first-irreflexive m (comes_first-trans m y m after e)
            ]) in
            first_place (same_edge (edge_at m) (edge_at x)) (position_or_len (same_edge (edge_at m)) (map edge_at ms)) here ∙ sym none
        | inr later ↦
            let before : comes_first x m ≡ true = a.0 m later in
            let apart : same_edge (edge_at m) (edge_at x) ≡ false = false_from_ne_true (same_edge (edge_at m) (edge_at x)) (λ t.
            let same : m ≡ x = sym (own m (Contains-tail m x ms later)) ∙ same_midpoint (edge_at m) (edge_at x) t
            ∙ own x (Contains-head x ms) in
            comes_first-irreflexive m (subst (λ z. comes_first z m ≡ true) (sym same) before)) in
            let rest = place_there ms a.1 (λ y d. own y (Contains-tail y x ms d)) later in
            later_place (same_edge (edge_at m) (edge_at x)) (position_or_len (same_edge (edge_at m)) (map edge_at ms)) apart
            ∙ ap (λ n. 1 + n) rest ∙ sym (count_by-cons (λ p. comes_first p m) x ms ∙ ap (λ t. bit t + count_by (λ p. comes_first p m) ms) before)
      ]

pub has_place : (v : Volume) → HasDimension v.kind (length v.sizes) → IsDimension (length v.sizes) → (m : List ℕ) → HasPlace v m
has_place v fits dim m long there =
    let c : Contains (middles_there v) m = Contains_from (middles_there v) m (member_there v m long there) in
    ap (λ edges. place_in edges (edge_at m)) (by_middles v fits dim)
    ∙ place_there m (middles_there v) (there_ascend v) (own_there v fits dim) c
