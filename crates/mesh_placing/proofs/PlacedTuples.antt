-- The tuples of an entry that has only bipolar edges, placed.
use Rattle.std.proofs.Common.{◌≡◌, ℕ, ◌+◌, ◌-◌, ◌^◌, ◌<◌, Bool, true, false, List, [], ◌∷◌, length, refl, sym, ap, ◌∙◌, arith, inl, inr}
use Rattle.std.specs.Prelude.{◌⊎◌, map, All, slice_index, slice_index_or, not, ◌==◌, ◌&&◌, ◌||◌, if◌then◌else◌}
use Rattle.std.specs.List.{list_all, list_any}
use Rattle.std.proofs.lemmas.Bool.{false≢true, and_parts}
use Rattle.std.proofs.lemmas.Nat.Bits.{bit_at-zero, bit_at_ones}
use Rattle.std.proofs.lemmas.List.Elements.{All-map, All-head, All-tail}
use Rattle.iso_model.specs.declared.Kind.{Kind}
use Rattle.lists.specs.Orders.{numbers, is_distinct, exchange_last, has}
use Rattle.iso_model.specs.Cells.{HasDimension, edge_count, edge_ends, corner_count, label_count}
use Rattle.iso_model.specs.Splits.{Edge, edge, is_odd_cell}
use Rattle.iso_model.specs.Bipolar.{is_bipolar_in, place_in}
use Rattle.iso_model.specs.Tables.{IsEntry}
use Rattle.iso_model.specs.Acceptance.{is_sound_tuple, rule_edges}
use Rattle.iso_model.specs.Placed.{placed_tuple}
use Rattle.iso_model.proofs.DimensionLaws.{dimension_cases}
use Rattle.split_laws.proofs.Passed.{ends_are_corners}
use Rattle.mesh_placing.specs.Placing.{ArePlaces, placed_tuples}
use Rattle.lists.specs.Bits.{is_set}
use Rattle.lists.proofs.Contained.{All-from_each}
use Rattle.lists.proofs.MemberLaws.{In_from, all_In}
use Rattle.lists.proofs.Sorting.{All-exchange_last}
use Rattle.iso_model.proofs.SignLaws.{same_signs}

-- each edge of each tuple is bipolar in the label
pub bipolar_tuples : (kind : Kind) (d label : ℕ) (ws : List (List ℕ)) → rule_edges kind d label ws ≡ true
    → All (All (λ e. is_bipolar_in kind d label e ≡ true)) ws
bipolar_tuples kind d label ws h =
    let sound : list_all (is_sound_tuple kind d label) ws ≡ true =
    (and_parts (list_all (is_sound_tuple kind d label) ws)
    (list_all (λ e. not (is_bipolar_in kind d label e) || list_any (λ w. has w e) ws) (numbers (edge_count kind d))) h).0
    in
    All-from_each (All (λ e. is_bipolar_in kind d label e ≡ true)) ws (λ w c.
    let bipolar : list_all (is_bipolar_in kind d label) w ≡ true =
    (and_parts (length w == d && is_distinct w) (list_all (is_bipolar_in kind d label) w)
    (all_In (is_sound_tuple kind d label) ws sound w (In_from ws w c))).1
    in
    All-from_each (λ e. is_bipolar_in kind d label e ≡ true) w (λ e i. all_In (is_bipolar_in kind d label) w bipolar e (In_from w e i)))

-- ---- two functions that agree on the members

pub map_agrees : {X Y : Type 0} (f g : X → Y) (xs : List X) → All (λ x. f x ≡ g x) xs → map f xs ≡ map g xs
map_agrees f g [] a = refl
map_agrees f g (x ∷ xs) a = rw (All-head (λ z. f z ≡ g z) x xs a, map_agrees f g xs (All-tail (λ z. f z ≡ g z) x xs a)) refl

placed_agrees : (odd : Bool) (f g : ℕ → ℕ) (ws : List (List ℕ)) → All (All (λ e. f e ≡ g e)) ws → map (placed_tuple odd f) ws ≡ map (placed_tuple odd g) ws
placed_agrees odd f g ws a =
    map_agrees (placed_tuple odd f) (placed_tuple odd g) ws (λ k d h.
    ap (λ (w : List ℕ). if odd then exchange_last w else w) (map_agrees f g (slice_index_or ws k d) (a k d h)))

-- the places of a cell's bipolar edges place the tuples of its entry
pub placed_by_places : (kind : Kind) (d : ℕ) (sizes : List ℕ) (edges : List Edge) (cell label : ℕ) (places : List ℕ) (ws : List (List ℕ))
    → rule_edges kind d label ws ≡ true → All (All (λ e. e < edge_count kind d)) ws
    → ArePlaces kind d sizes edges cell label (edge_count kind d) places
    → map (placed_tuple (is_odd_cell kind sizes cell) (λ e. slice_index places e)) ws ≡ placed_tuples kind sizes edges cell ws
placed_by_places kind d sizes edges cell label places ws rule below are =
    let bipolar = bipolar_tuples kind d label ws rule in
    placed_agrees (is_odd_cell kind sizes cell) (λ e. slice_index places e) (λ e. place_in edges (edge kind sizes cell e)) ws
    (λ k w h j e i. are (slice_index_or (slice_index_or ws k w) j e) (below k w h j e i) (bipolar k w h j e i))

-- ---- the numbers of a placed tuple

pub All-placed_tuple : (P : ℕ → Type 0) (odd : Bool) (f : ℕ → ℕ) (w : List ℕ) → All (λ e. P (f e)) w → All P (placed_tuple odd f w)
All-placed_tuple P true f w a = All-exchange_last P (map f w) (All-map P f w a)
All-placed_tuple P false f w a = All-map P f w a

-- ---- entries of labels in which all corners have one sign

-- no edge is bipolar where all corners have one sign
none_bipolar : (kind : Kind) (d label e : ℕ) → HasDimension kind d → e < edge_count kind d → (label ≡ 0) ⊎ (label + 1 ≡ label_count kind d)
    → is_bipolar_in kind d label e ≡ false
none_bipolar kind d label e has_it he (inl none) =
    let ends = edge_ends kind d e in
    same_signs (is_set label ends.0) (is_set label ends.1) (unset ends.0 ∙ sym (unset ends.1))
  where
    unset : (k : ℕ) → is_set label k ≡ false
    unset k = rw (none, bit_at-zero k) refl
none_bipolar kind d label e has_it he (inr all) =
    let ends = edge_ends kind d e in
    let corners = ends_are_corners kind d (dimension_cases kind d has_it) has_it e he in
    same_signs (is_set label ends.0) (is_set label ends.1) (put ends.0 corners.0 ∙ sym (put ends.1 corners.1))
  where
    full : label ≡ 2 ^ corner_count kind d - 1
    full = omega (arith, all)

    put : (k : ℕ) → k < corner_count kind d → is_set label k ≡ true
    put k h = rw (full, bit_at_ones (corner_count kind d) k h) refl

-- the entry of such a label is empty
pub plain_entry : (kind : Kind) (d label : ℕ) (ws : List (List ℕ)) → HasDimension kind d → rule_edges kind d label ws ≡ true → IsEntry kind d ws
    → (label ≡ 0) ⊎ (label + 1 ≡ label_count kind d) → ws ≡ []
plain_entry kind d label [] has_it rule sound plain = refl
plain_entry kind d label (w ∷ ws) has_it rule sound plain =
    let tuple = sound.1 0 w (omega arith) in
    let long : length w ≡ d = tuple.0 in
    let some : 0 < length w =
    elim (dimension_cases kind d has_it) as (λ _. 0 < length w)
    [ inl h ↦ omega (arith, long, h) | inr (inl h) ↦ omega (arith, long, h) | inr (inr h) ↦ omega (arith, long, h) ] in
    let first : ℕ = slice_index_or w 0 0 in
    let below : first < edge_count kind d = tuple.1 0 0 some in
    let bipolar : is_bipolar_in kind d label first ≡ true = bipolar_tuples kind d label (w ∷ ws) rule 0 w (omega arith) 0 0 some in
    absurd (false≢true (sym (none_bipolar kind d label first has_it below plain) ∙ bipolar))
