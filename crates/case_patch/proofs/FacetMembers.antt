-- Which points are those of a facet, by the sets of its edges and its corners.
use Rattle.std.specs.Prelude.{◌≡◌, ◌+◌, ◌-◌, ◌<◌, ◌≤◌, ℕ, Bool, true, false, nat_lt, List, length, slice_index, All, if◌then◌else◌}
use Rattle.std.proofs.Common.{refl, arith}
use Rattle.std.proofs.lemmas.Bool.Decides.{nat_tests}
use Rattle.std.proofs.lemmas.List.Elements.{All-get_or}
use Rattle.iso_model.specs.declared.Kind.{Kind}
use Rattle.iso_model.specs.Cells.{edge_in_facet, corner_in_facet}
use Rattle.case_patch.specs.BoundarySets.{is_in_facet}
use Rattle.lists.specs.Bits.{is_set}

pub member_as : (kind : Kind) (d f edges corners n m : ℕ) (es ks : List ℕ) (i : ℕ)
    → ((e : ℕ) → e < n → is_set edges e ≡ edge_in_facet kind d f e) → ((k : ℕ) → k < m → is_set corners k ≡ corner_in_facet kind f k)
    → All (λ e. e < n) es → All (λ k. k < m) ks → i < length es + length ks
    → (if nat_lt i (length es) then is_set edges (slice_index es i) else is_set corners (slice_index ks (i - length es))) ≡ is_in_facet kind d es ks f i
member_as kind d f edges corners n m es ks i of_edges of_corners in_edges in_corners h = by_test (nat_lt i (length es)) refl
  where
    by_test : (b : Bool) → nat_lt i (length es) ≡ b
        → (if b then is_set edges (slice_index es i) else is_set corners (slice_index ks (i - length es)))
        ≡ (if b then edge_in_facet kind d f (slice_index es i) else corner_in_facet kind f (slice_index ks (i - length es)))
    by_test true t = let l : i < length es = grind (arith, nat_tests) in of_edges (slice_index es i) (All-get_or (λ e. e < n) es i 0 l in_edges)
    by_test false t =
        let l : length es ≤ i = grind (arith, nat_tests) in
        let k : i - length es < length ks = omega arith in
        of_corners (slice_index ks (i - length es)) (All-get_or (λ e. e < m) ks (i - length es) 0 k in_corners)
