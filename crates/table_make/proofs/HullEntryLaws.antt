-- An entry of the construction is one that a table may hold, and the entries of all labels make a table.
use Rattle.std.specs.Prelude.{◌≡◌, ◌⊎◌, ◌+◌, ◌-◌, ◌*◌, ◌/◌, ◌^◌, ◌<◌, ◌≤◌, ◌++◌, ℕ, pos, Bool, true, false, int_lt, List, [], ◌∷◌, length, slice_index}
use Rattle.std.specs.Prelude.{slice_index_or, All, Contains, if◌then◌else◌}
use Rattle.std.proofs.Common.{sym, ap, ◌∙◌, subst, arith, inl, inr, length-append}
use Rattle.std.proofs.Math.Nat.{zero-div, mul-div_cancel_left}
use Rattle.std.proofs.lemmas.Bool.{cases_lt}
use Rattle.std.proofs.lemmas.List.{length-map, get_or_append_left, get_or-append_right}
use Rattle.std.proofs.lemmas.List.Elements.{All-map, All-weaker, All-from_get_or}
use Rattle.iso_model.specs.declared.Kind.{Kind}
use Rattle.iso_model.specs.Cells.{HasDimension, edge_count, label_count}
use Rattle.iso_model.specs.Acceptance.{side_turn}
use Rattle.iso_model.specs.Tables.{IsTuple, IsEntry, IsTable}
use Rattle.iso_model.specs.Entries.{oriented, IsEntryOf, IsHullTable}
use Rattle.iso_model.proofs.DimensionLaws.{is_small_cell, dimension_cases}
use Rattle.case_patch.proofs.FoundTuples.{tuple_wide, tuple_edges}
use Rattle.iso_base.specs.Parts.{start_of}
use Rattle.iso_base.proofs.PartLaws.{starts_ascend}
use Rattle.table_make.specs.HullEntries.{AreHullEntries, ArePieces}
use Rattle.table_make.proofs.Fewness.{IsDigits, few_tuples}
use Rattle.lists.specs.Orders.{exchange_last}
use Rattle.lists.proofs.Contained.{All-from_each}
use Rattle.iso_model.specs.Dimensions.{in_each_dimension}
use Rattle.lists.proofs.Sorting.{length-exchange, All-exchange_last}

-- ---- an exchange of the last two places keeps what holds of each

oriented_tuple : (kind : Kind) (d label : ℕ) (w : List ℕ) → IsTuple kind d w → IsTuple kind d (oriented kind d label w)
oriented_tuple kind d label w t = by_test (int_lt (side_turn kind d label w (slice_index w 0)) (pos 0))
  where
    by_test : (b : Bool) → IsTuple kind d (if b then exchange_last w else w)
    by_test true = (length-exchange w ∙ t.0, All-exchange_last (λ e. e < edge_count kind d) w t.1)
    by_test false = t

-- ---- an entry

pub entry_sound : (kind : Kind) (d label : ℕ) (entry : List (List ℕ)) → HasDimension kind d → IsEntryOf kind d label entry → IsEntry kind d entry
entry_sound kind d label entry has is = (few, sound)
  where
    tuples : (w : List ℕ) → Contains is.tuples w → IsTuple kind d w
    tuples w c = let p = (is.each w).0 c in (tuple_wide kind d label w p, tuple_edges kind d label w p)

    digits : (w : List ℕ) → Contains is.tuples w → IsDigits d w
    digits w c =
        let t = tuples w c in
        let small = (is_small_cell kind d has).edges in
        record { wide = t.0; digits = All-weaker (λ e. e < edge_count kind d) (λ e. e < 32) (λ e h. omega (arith, h, small)) w t.1 }

    few : length entry ≤ 2 ^ 28
    few =
        let l = few_tuples d is.tuples digits is.ascending in
        let m : 32 ^ d ≤ 2 ^ 28 = in_each_dimension (λ n. 32 ^ n ≤ 2 ^ 28) (omega arith) (omega arith) (omega arith) d (dimension_cases kind d has) in
        let e : length entry ≡ length is.tuples = ap length is.turned ∙ length-map is.tuples (oriented kind d label) in
        omega (arith, l, m, e)

    sound : All (IsTuple kind d) entry
    sound = subst (All (IsTuple kind d)) (sym is.turned)
        (All-map (IsTuple kind d) (oriented kind d label) is.tuples
        (All-from_each (λ w. IsTuple kind d (oriented kind d label w)) is.tuples (λ w c. oriented_tuple kind d label w (tuples w c))))

-- ---- all entries

-- entries from label 0 on stand at their labels
pub entry_at : (kind : Kind) (d n : ℕ) (entries : List (List (List ℕ))) → AreHullEntries kind d 0 n entries → (label : ℕ) → label < n
    → IsEntryOf kind d label (slice_index_or entries label [])
entry_at kind d n entries are label less =
    let z : label - 0 ≡ label = omega arith in
    subst (λ (k : ℕ). IsEntryOf kind d label (slice_index_or entries k [])) z (are.each label (omega arith) less)

pub entries_table : (kind : Kind) (d n : ℕ) (entries : List (List (List ℕ))) → HasDimension kind d → n ≡ label_count kind d → AreHullEntries kind d 0 n entries
    → IsTable (record { kind = kind; dimension = d; entries = entries })
entries_table kind d n entries has e are = record {
  fits = has;
  whole = are.count ∙ (let z : n - 0 ≡ n = omega arith in z) ∙ e;
  sound = All-from_get_or (IsEntry kind d) entries []
      (λ label h.
      entry_sound kind d label (slice_index_or entries label []) has
      (entry_at kind d n entries are label (let c = are.count in omega (arith, c, h))));
}

pub hull_table : (kind : Kind) (d n : ℕ) (entries : List (List (List ℕ))) → HasDimension kind d → n ≡ label_count kind d → AreHullEntries kind d 0 n entries
    → IsHullTable (record { kind = kind; dimension = d; entries = entries })
hull_table kind d n entries has e are = record {
  table = entries_table kind d n entries has e are;
  entries = λ label less. entry_at kind d n entries are label (omega (arith, e, less));
}

-- entries of one run of labels, and those of the next
pub joined_entries : (kind : Kind) (d a b c : ℕ) (xs ys : List (List (List ℕ))) → a ≤ b → b ≤ c → AreHullEntries kind d a b xs
    → AreHullEntries kind d b c ys → AreHullEntries kind d a c (xs ++ ys)
joined_entries kind d a b c xs ys low high one two = record {
  count = let l = length-append xs ys in let m = one.count in let n = two.count in omega (arith, l, m, n);
  each = λ label from less. by_place label from less (cases_lt label b);
}
  where
    by_place : (label : ℕ) → a ≤ label → label < c → (label < b) ⊎ (b ≤ label) → IsEntryOf kind d label (slice_index_or (xs ++ ys) (label - a) [])
    by_place label from less (inl before) =
        subst (IsEntryOf kind d label) (sym (get_or_append_left xs ys [] (label - a) (let m = one.count in omega (arith, m)))) (one.each label from before)
    by_place label from less (inr behind) =
        let e : label - a - (b - a) ≡ label - b = omega arith in
        subst (IsEntryOf kind d label)
        (sym (get_or-append_right xs ys (b - a) (label - a) [] one.count (omega arith) ∙ ap (λ (k : ℕ). slice_index_or ys k []) e))
        (two.each label behind less)

-- one entry more
pub one_more_entry : (kind : Kind) (d low n : ℕ) (entries more : List (List (List ℕ))) (entry : List (List ℕ)) → low ≤ n
    → AreHullEntries kind d low n entries → IsEntryOf kind d n entry → more ≡ entries ++ entry ∷ []
    → AreHullEntries kind d low (n + 1) more
one_more_entry kind d low n entries more entry from are is e =
    subst (AreHullEntries kind d low (n + 1)) (sym e) (joined_entries kind d low n (n + 1) entries (entry ∷ []) from (omega arith) are last)
  where
    last : AreHullEntries kind d n (n + 1) (entry ∷ [])
    last = record {
      count = omega arith;
      each = λ label here less.
          let s : n ≡ label = omega arith in
          let z : label - n ≡ 0 = omega arith in
          subst (λ (k : ℕ). IsEntryOf kind d label (slice_index_or (entry ∷ []) k [])) (sym z) (subst (λ (k : ℕ). IsEntryOf kind d k entry) s is);
    }

-- the entries of one run of pieces, and those of the next
pub joined_pieces : (kind : Kind) (d n parts low half count : ℕ) (xs ys all : List (List (List ℕ))) → 0 < parts → half ≤ count → all ≡ xs ++ ys
    → ArePieces kind d n parts low half xs → ArePieces kind d n parts (low + half) (count - half) ys → ArePieces kind d n parts low count all
joined_pieces kind d n parts low half count xs ys all some less e one two =
    let end : low + half + (count - half) ≡ low + count = omega arith in
    subst (ArePieces kind d n parts low count) (sym e)
    (joined_entries kind d (start_of n parts low) (start_of n parts (low + half)) (start_of n parts (low + count)) xs ys
    (starts_ascend n parts low (low + half) some (omega arith)) (starts_ascend n parts (low + half) (low + count) some (omega arith)) one
    (subst (λ (k : ℕ). AreHullEntries kind d (start_of n parts (low + half)) (start_of n parts k) ys) end two))

-- the entries of all pieces
pub whole_pieces : (kind : Kind) (d n parts : ℕ) (entries : List (List (List ℕ))) → 0 < parts → ArePieces kind d n parts 0 parts entries
    → AreHullEntries kind d 0 n entries
whole_pieces kind d n parts entries some are =
    let first : 0 * n / parts ≡ 0 = let z : 0 * n ≡ 0 = omega arith in ap (λ (k : ℕ). k / parts) z ∙ zero-div parts in
    let last : (0 + parts) * n / parts ≡ n =
    let e : 0 + parts ≡ parts = omega arith in ap (λ (k : ℕ). k * n / parts) e ∙ mul-div_cancel_left n some in
    subst (λ (k : ℕ). AreHullEntries kind d k n entries) first (subst (λ (k : ℕ). AreHullEntries kind d (start_of n parts 0) k entries) last are)
