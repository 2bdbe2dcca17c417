-- Where no edge is bipolar, an entry that keeps the rule of bipolar edges is empty.
use Rattle.std.specs.Prelude.{◌≡◌, ℕ, ◌-◌, ◌<◌, true, false, not, ◌&&◌, ◌||◌, ◌==◌, List, [], ◌∷◌, map, length, All}
use Rattle.std.specs.List.{list_all, list_any}
use Rattle.std.proofs.Common.{refl, arith}
use Rattle.std.proofs.lemmas.Bool.{and_parts, both_ways}
use Rattle.std.proofs.lemmas.Nat.{pow_pos}
use Rattle.std.proofs.lemmas.List.Elements.{All-head}
use Rattle.iso_model.specs.declared.Kind.{Kind}
use Rattle.lists.specs.Orders.{numbers, has, is_distinct}
use Rattle.iso_model.specs.Cells.{HasDimension, corner_count, edge_count, label_count}
use Rattle.iso_model.specs.Bipolar.{is_bipolar_in}
use Rattle.iso_model.specs.Tables.{Table, IsTable, IsTuple, entry_of}
use Rattle.iso_model.specs.Acceptance.{is_sound_tuple, rule_edges, IsAccepted}
use Rattle.iso_model.proofs.DimensionLaws.{dimension_cases}
use Rattle.cell_lattice.specs.Agreement.{agree}
use Rattle.iso_model.specs.Dimensions.{of_each_cell}
use Rattle.table_check.specs.EmptyEnds.{HasEmptyEnds}

-- no edge is bipolar in a labelling
HasNoBipolar : Kind → ℕ → ℕ → Type 0
HasNoBipolar kind d label = (e : ℕ) → e < edge_count kind d → is_bipolar_in kind d label e ≡ false

none_at_zero : (kind : Kind) (d : ℕ) → HasDimension kind d → HasNoBipolar kind d 0
unfolding HasNoBipolar
none_at_zero kind d has e below =
    agree (edge_count kind d) (is_bipolar_in kind d 0) (λ _. false)
    (of_each_cell (λ q n. map (is_bipolar_in q n 0) (numbers (edge_count q n)) ≡ map (λ _. false) (numbers (edge_count q n))) refl refl refl refl refl
    refl refl kind d (dimension_cases kind d has) has)
    e below

none_at_last : (kind : Kind) (d : ℕ) → HasDimension kind d → HasNoBipolar kind d (label_count kind d - 1)
unfolding HasNoBipolar
none_at_last kind d has e below =
    agree (edge_count kind d) (is_bipolar_in kind d (label_count kind d - 1)) (λ _. false)
    (of_each_cell (λ q n. map (is_bipolar_in q n (label_count q n - 1)) (numbers (edge_count q n)) ≡ map (λ _. false) (numbers (edge_count q n))) refl
    refl refl refl refl refl refl kind d (dimension_cases kind d has) has)
    e below

-- a tuple with an edge that is not bipolar is not sound
no_sound_tuple : (kind : Kind) (d label : ℕ) (w : List ℕ) → HasNoBipolar kind d label → IsTuple kind d w → 0 < d → is_sound_tuple kind d label w ≡ true → ⊥
unfolding HasNoBipolar
no_sound_tuple kind d label [] none t some sound = omega (arith, t.0)
no_sound_tuple kind d label (e ∷ w) none t some sound =
    let all = (and_parts ((length (e ∷ w) == d) && is_distinct (e ∷ w)) (list_all (is_bipolar_in kind d label) (e ∷ w)) sound).1 in
    let first = (and_parts (is_bipolar_in kind d label e) (list_all (is_bipolar_in kind d label) w) all).0 in
    both_ways (is_bipolar_in kind d label e) (none e (All-head (λ x. x < edge_count kind d) e w t.1)) first

no_sound_entry : (kind : Kind) (d label : ℕ) (ws : List (List ℕ)) → HasNoBipolar kind d label → All (IsTuple kind d) ws → 0 < d
    → list_all (is_sound_tuple kind d label) ws ≡ true → ws ≡ []
no_sound_entry kind d label [] none all some sound = refl
no_sound_entry kind d label (w ∷ ws) none all some sound =
    absurd
    (no_sound_tuple kind d label w none (All-head (IsTuple kind d) w ws all) some
    (and_parts (is_sound_tuple kind d label w) (list_all (is_sound_tuple kind d label) ws) sound).0)

empty_entry : (kind : Kind) (d label : ℕ) (ws : List (List ℕ)) → HasNoBipolar kind d label → All (IsTuple kind d) ws → 0 < d
    → rule_edges kind d label ws ≡ true → ws ≡ []
empty_entry kind d label ws none all some keeps =
    no_sound_entry kind d label ws none all some
    (and_parts (list_all (is_sound_tuple kind d label) ws)
    (list_all (λ e. not (is_bipolar_in kind d label e) || list_any (λ w. has w e) ws) (numbers (edge_count kind d))) keeps).0

some_axes : (kind : Kind) (d : ℕ) → HasDimension kind d → 0 < d
some_axes kind d has = omega (arith, dimension_cases kind d has)

empty_at : (t : Table) → IsTable t → IsAccepted t → (label : ℕ) → label < label_count t.kind t.dimension → HasNoBipolar t.kind t.dimension label
    → entry_of t label ≡ []
empty_at t is accepted label below none =
    let inside : label < length t.entries = omega (arith, below, is.whole) in
    empty_entry t.kind t.dimension label (entry_of t label) none (is.sound label [] inside).1 (some_axes t.kind t.dimension is.fits)
    (accepted label 1 below (omega arith))

pub empty_ends : (t : Table) → IsTable t → IsAccepted t → HasEmptyEnds t
empty_ends t is accepted =
    let some = pow_pos (corner_count t.kind t.dimension) in
    record {
      none_positive = empty_at t is accepted 0 some (none_at_zero t.kind t.dimension is.fits);
      all_positive = empty_at t is accepted (label_count t.kind t.dimension - 1) (omega (arith, some)) (none_at_last t.kind t.dimension is.fits);
    }
