-- Where all corners of a simplex are late, or none is, it has no links and no triangles.
use Rattle.std.proofs.Common.{◌≡◌, ℕ, ◌<◌, Bool, true, false, List, [], ◌∷◌, length, refl, inl, inr, sym, subst, arith}
use Rattle.std.specs.Prelude.{◌⊎◌, not, ◌&&◌, ◌==◌, slice_index, All}
use Rattle.std.specs.List.{list_all}
use Rattle.std.proofs.lemmas.Bool.{and_parts}
use Rattle.std.proofs.lemmas.List.Elements.{All-head}
use Rattle.lists.specs.Orders.{is_distinct}
use Rattle.lists.specs.Members.{In}
use Rattle.lists.proofs.MemberLaws.{all_below, any_from}
use Rattle.iso_model.specs.declared.Kind.{Kind}
use Rattle.iso_model.specs.declared.Kind.TheVariants.{Simplex}
use Rattle.iso_model.specs.Bipolar.{differ, is_bipolar_in}
use Rattle.iso_model.specs.Cells.{label_count}
use Rattle.iso_model.specs.Tables.{Table, IsTable, IsTuple, entry_of}
use Rattle.iso_model.specs.Acceptance.{rule_edges, is_sound_tuple}
use Rattle.iso_model.specs.OrderedAcceptance.{IsOfTetrahedron, IsAcceptedInOrder}
use Rattle.mesh_laws.proofs.TakenMembers.{from_In-sorted}
use Rattle.cut_laws.specs.declared.Link.{Link}
use Rattle.cut_laws.specs.Cuts.{late_label, triangles_in}
use Rattle.cut_laws.specs.CutSteps.{IsSimplex, HasEmptyEnds, is_cut, links_in}
use Rattle.cut_laws.proofs.FoundLinks.{FourInOrder, four_in_order}

-- ---- a simplex that is not cut

same_as : (a b : Bool) → differ a b ≡ false → a ≡ b
same_as true true e = refl
same_as true false e = absurd (cc)
same_as false true e = absurd (cc)
same_as false false e = refl

-- where a simplex is not cut, all its numbers are as late as the first
all_same : (late : ℕ → Bool) (w : List ℕ) → is_cut late w ≡ false → (k : ℕ) → In k w → late k ≡ late (slice_index w 0)
all_same late w e k i = same_as (late k) (late (slice_index w 0)) (go (differ (late k) (late (slice_index w 0))) refl)
  where
    go : (b : Bool) → differ (late k) (late (slice_index w 0)) ≡ b → b ≡ false
    go true f = let some = any_from (λ j. differ (late j) (late (slice_index w 0))) w k i f in absurd (cc)
    go false f = refl

pub record NotCut (late : ℕ → Bool) (w : List ℕ) : Type 0 where
  pub no_links : links_in late w ≡ []
  pub label : (late_label late w ≡ 0) ⊎ (late_label late w ≡ 15)

pub not_cut : (n : ℕ) (late : ℕ → Bool) (w : List ℕ) → IsSimplex n w → is_cut late w ≡ false → NotCut late w
not_cut n late w is e =
    let f = four_in_order w is.four is.distinct in
    let at = λ (k : ℕ) (i : In k (f.a ∷ f.b ∷ f.c ∷ f.d ∷ [])). all_same late w e k (from_In-sorted k w (subst (λ (s : List ℕ). In k s) (sym f.is) i)) in
    by_first f (late (slice_index w 0)) (at f.a (inl refl)) (at f.b (inr (inl refl))) (at f.c (inr (inr (inl refl)))) (at f.d (inr (inr (inr (inl refl)))))
  where
    by_first : (f : FourInOrder w) (t : Bool) → late f.a ≡ t → late f.b ≡ t → late f.c ≡ t → late f.d ≡ t → NotCut late w
    by_first f true a b c d = record { no_links = rw (f.is, a, b, c, d) refl; label = inr (rw (f.is, a, b, c, d) refl) }
    by_first f false a b c d = record { no_links = rw (f.is, a, b, c, d) refl; label = inl (rw (f.is, a, b, c, d) refl) }

-- ---- the entries of these labels are empty

abbrev NoneAt : ℕ → Type 0
NoneAt label = (e : ℕ) → e < 6 → not (is_bipolar_in Simplex 3 label e) ≡ true

none_early : NoneAt 0
none_early = all_below 6 (λ e. not (is_bipolar_in Simplex 3 0 e)) refl

none_late : NoneAt 15
none_late = all_below 6 (λ e. not (is_bipolar_in Simplex 3 15 e)) refl

no_tuple : (label : ℕ) (w : List ℕ) → NoneAt label → IsTuple Simplex 3 w → is_sound_tuple Simplex 3 label w ≡ true → ⊥
no_tuple label [] none t sound = omega (arith, t.0)
no_tuple label (e ∷ w) none t sound =
    let all = (and_parts ((length (e ∷ w) == 3) && is_distinct (e ∷ w)) (list_all (is_bipolar_in Simplex 3 label) (e ∷ w)) sound).1 in
    let first = (and_parts (is_bipolar_in Simplex 3 label e) (list_all (is_bipolar_in Simplex 3 label) w) all).0 in
    let off = none e (All-head (λ x. x < 6) e w t.1) in
    absurd (cc)

no_tuples : (label : ℕ) (ws : List (List ℕ)) → NoneAt label → All (IsTuple Simplex 3) ws → rule_edges Simplex 3 label ws ≡ true → ws ≡ []
no_tuples label [] none all keeps = refl
no_tuples label (w ∷ ws) none all keeps =
    let sound = (and_parts (list_all (is_sound_tuple Simplex 3 label) (w ∷ ws)) _ keeps).0 in
    let first = (and_parts (is_sound_tuple Simplex 3 label w) (list_all (is_sound_tuple Simplex 3 label) ws) sound).0 in
    absurd (no_tuple label w none (All-head (IsTuple Simplex 3) w ws all) first)

empty_at : (t : Table) (label : ℕ) → IsTable t → IsOfTetrahedron t → IsAcceptedInOrder t → label < 16 → NoneAt label → entry_of t label ≡ []
empty_at t label is of accepted below none =
    by_kind t.kind t.dimension of.kind of.dimension (is.sound label [] (entries t.kind t.dimension of.kind of.dimension is.whole)).1
    (accepted label 1 (labels t.kind t.dimension of.kind of.dimension) (omega arith))
  where
    labels : (kind : Kind) (d : ℕ) → kind ≡ Simplex → d ≡ 3 → label < label_count kind d
    labels kind d p q = subst (λ (k : Kind). label < label_count k d) (sym p) (subst (λ (n : ℕ). label < label_count Simplex n) (sym q) below)

    entries : (kind : Kind) (d : ℕ) → kind ≡ Simplex → d ≡ 3 → length t.entries ≡ label_count kind d → label < length t.entries
    entries kind d p q whole = subst (λ (n : ℕ). label < n) (sym whole) (labels kind d p q)

    by_kind : (kind : Kind) (d : ℕ) → kind ≡ Simplex → d ≡ 3 → All (IsTuple kind d) (entry_of t label)
        → rule_edges kind d label (entry_of t label) ≡ true → entry_of t label ≡ []
    by_kind kind d p q all keeps =
        no_tuples label (entry_of t label) none
        (subst (λ (n : ℕ). All (IsTuple Simplex n) (entry_of t label)) q (subst (λ (k : Kind). All (IsTuple k d) (entry_of t label)) p all))
        (subst (λ (n : ℕ). rule_edges Simplex n label (entry_of t label) ≡ true) q
        (subst (λ (k : Kind). rule_edges k d label (entry_of t label) ≡ true) p keeps))

-- a table that is accepted for corners in order has no triangle there
pub empty_ends : (t : Table) → IsTable t → IsOfTetrahedron t → IsAcceptedInOrder t → HasEmptyEnds t
empty_ends t is of accepted = record {
  none_late = empty_at t 0 is of accepted (omega arith) none_early;
  all_late = empty_at t 15 is of accepted (omega arith) none_late;
}

-- so a simplex that is not cut has no triangles
pub no_triangles : (n : ℕ) (late : ℕ → Bool) (ls : List Link) (t : Table) (w : List ℕ) → HasEmptyEnds t → IsSimplex n w → is_cut late w ≡ false
    → triangles_in late ls t w ≡ []
no_triangles n late ls t w ends is e = elim ((not_cut n late w is e).label) as (λ _. triangles_in late ls t w ≡ []) [
  | inl l ↦ rw (l, ends.none_late) refl
  | inr l ↦ rw (l, ends.all_late) refl
]
