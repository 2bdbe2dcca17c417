-- The rows of a tuple, one by one, are those of the definition.
use Rattle.std.specs.Prelude.{◌≡◌, ◌+◌, ◌<◌, ℕ, suc, ℤ, Bool, true, false, nat_lt, List, [], ◌∷◌, ◌++◌, map, length, slice_index, slice_index_or, if◌then◌else◌}
use Rattle.std.proofs.Common.{sym, ap, ◌∙◌, arith}
use Rattle.std.proofs.lemmas.Bool.Decides.{nat_tests}
use Rattle.std.proofs.lemmas.List.{length-map, map-append, get_or-map}
use Rattle.std.proofs.lemmas.List.FromFn.{fill_by_all}
use Rattle.iso_model.specs.declared.Kind.{Kind}
use Rattle.lists.specs.Orders.{numbers}
use Rattle.iso_model.specs.Cells.{edge_midpoint}
use Rattle.iso_model.specs.Turns.{difference, side_rows}
use Rattle.halfspace.proofs.TightNumbers.{numbers_more}
use Rattle.case_patch.specs.SideRows.{side_row, direction}
use Rattle.lists.proofs.MemberLaws.{map-map}

rows_of : (kind : Kind) (d label x : ℕ) (xs : List ℕ) → length xs + 1 ≡ d
    → map (side_row kind d label (x ∷ xs)) (numbers d) ≡ side_rows (map (edge_midpoint kind d) (x ∷ xs)) (direction kind d label x)
rows_of kind d label x xs e =
    ap (λ (n : ℕ). map (side_row kind d label (x ∷ xs)) (numbers n)) (sym e)
    ∙ ap (map (side_row kind d label (x ∷ xs))) (numbers_more (length xs))
    ∙ map-append (side_row kind d label (x ∷ xs)) (numbers (length xs)) (length xs ∷ [])
    ∙ ap (λ (rs : List (List ℤ)). rs ++ side_row kind d label (x ∷ xs) (length xs) ∷ [])
    (sym front ∙ sym (map-map (edge_midpoint kind d) (λ q. difference q (edge_midpoint kind d x)) xs))
    ∙ ap (λ (r : List ℤ). map (λ q. difference q (edge_midpoint kind d x)) (map (edge_midpoint kind d) xs) ++ r ∷ []) last
  where
    at : (k : ℕ) → k < length xs → difference (edge_midpoint kind d (slice_index xs k)) (edge_midpoint kind d x) ≡ side_row kind d label (x ∷ xs) k
    at k h =
        let t : nat_lt (k + 1) d ≡ true = grind (arith, nat_tests) in
        let s : suc k ≡ k + 1 = omega arith in
        ap (λ (n : ℕ). difference (edge_midpoint kind d (slice_index (x ∷ xs) n)) (edge_midpoint kind d x)) s
        ∙ ap
        (λ (b : Bool).
        if b then difference (edge_midpoint kind d (slice_index (x ∷ xs) (k + 1))) (edge_midpoint kind d x) else direction kind d label x)
        (sym t)

    front : map (λ e. difference (edge_midpoint kind d e) (edge_midpoint kind d x)) xs ≡ map (side_row kind d label (x ∷ xs)) (numbers (length xs))
    front = fill_by_all (side_row kind d label (x ∷ xs)) (map (λ e. difference (edge_midpoint kind d e) (edge_midpoint kind d x)) xs) (length xs) []
        (length-map xs (λ e. difference (edge_midpoint kind d e) (edge_midpoint kind d x)))
        (λ k h. get_or-map (λ e. difference (edge_midpoint kind d e) (edge_midpoint kind d x)) xs k 0 [] h ∙ at k h)

    last : side_row kind d label (x ∷ xs) (length xs) ≡ direction kind d label x
    last =
        let t : nat_lt (length xs + 1) d ≡ false = grind (arith, nat_tests) in
        ap
        (λ (b : Bool).
        if b then difference (edge_midpoint kind d (slice_index (x ∷ xs) (length xs + 1))) (edge_midpoint kind d x) else direction kind d
        label x)
        t

-- rows that are filled place by place
pub rows_are : (kind : Kind) (d label : ℕ) (w : List ℕ) (rows : List (List ℤ)) → length w ≡ d → 0 < d → length rows ≡ d
    → ((k : ℕ) → k < d → slice_index_or rows k [] ≡ side_row kind d label w k)
    → rows ≡ side_rows (map (edge_midpoint kind d) w) (direction kind d label (slice_index w 0))
rows_are kind d label [] rows e some l h = absurd (omega arith)
rows_are kind d label (x ∷ xs) rows e some l h = fill_by_all (side_row kind d label (x ∷ xs)) rows d [] l h ∙ rows_of kind d label x xs (omega arith)
