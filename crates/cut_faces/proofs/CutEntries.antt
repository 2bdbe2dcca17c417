-- The entries of the labels of late corners, where the table is accepted for corners in order.
use Rattle.std.proofs.Common.{◌≡◌, ◌≢◌, ℕ, ◌+◌, ◌-◌, ◌<◌, ◌≤◌, Bool, true, List, ap, sym, ◌∙◌, subst, arith}
use Rattle.std.specs.Prelude.{map, count_by, slice_index, if◌then◌else◌, not}
use Rattle.std.specs.Int.{bit_at}
use Rattle.std.specs.List.{range_with_len}
use Rattle.lists.specs.Orders.{numbers, without, sorted, is_odd}
use Rattle.lists.specs.Bits.{is_set}
use Rattle.lists.specs.Members.{In, Each}
use Rattle.lists.proofs.Bits.{bit_is_test}
use Rattle.lists.proofs.Powers.{powers_bits, powers_few}
use Rattle.lists.proofs.Sorting.{bit}
use Rattle.lists.proofs.Tests.{same_if, differ_test}
use Rattle.lists.proofs.MemberLaws.{all_from, In-flat_map, In-map, In-range, In-numbers, from_filter, from_In-numbers}
use Rattle.iso_model.specs.declared.Kind.{Kind}
use Rattle.iso_model.specs.declared.Kind.TheVariants.{Simplex}
use Rattle.iso_model.specs.Cells.{edge_count, edge_in_facet, facet_corners, corner_in_facet, label_count}
use Rattle.iso_model.specs.Seams.{Seam, seam, corner_across, edge_across}
use Rattle.iso_model.specs.Tables.{Table, IsTable, entry_of}
use Rattle.iso_model.specs.Acceptance.{labels_meet}
use Rattle.iso_model.specs.OrderedAcceptance.{IsOfTetrahedron, IsAcceptedInOrder, ordered_seams}
use Rattle.mesh_laws.proofs.FaceSigns.{has_signed}
use Rattle.entry_laws.proofs.LabelLaws.{LabelLaws, label_laws_over}
use Rattle.entry_laws.proofs.SeamLaws.{matches_across_over}
use Rattle.cut_laws.specs.Cuts.{late_label}
use Rattle.cut_laws.specs.CutSteps.{IsSimplex}
use Rattle.cut_laws.proofs.FoundLinks.{FourInOrder, four_in_order}
use Rattle.cut_faces.proofs.Sides.{side}
use Rattle.cut_faces.proofs.SeamEdges.{corner_meets, corner_across_few}

-- a table of the tetrahedron that is accepted for corners in order
pub record ServesInOrder (t : Table) : Type 0 where
  pub is_table : IsTable t
  pub of : IsOfTetrahedron t
  pub accepted : IsAcceptedInOrder t

-- ---- labels

pub label_few : (late : ℕ → Bool) (w : List ℕ) → late_label late w < 16
label_few late w = powers_few (λ k. late (slice_index (sorted w) k)) 4

-- bit k of the label says whether corner k is late
label_bit : (late : ℕ → Bool) (w : List ℕ) (k : ℕ) → k < 4 → is_set (late_label late w) k ≡ late (slice_index (sorted w) k)
label_bit late w k h =
    bit_is_test (late (slice_index (sorted w) k)) (bit_at (late_label late w) k) (powers_bits (λ j. late (slice_index (sorted w) j)) 4 k h)

-- the labels of two simplices with one side meet across it
pub labels_agree : (n : ℕ) (late : ℕ → Bool) (v w : List ℕ) (f g : ℕ) → IsSimplex n v → IsSimplex n w → f < 4 → g < 4 → side v f ≡ side w g
    → labels_meet Simplex 3 (seam f g (is_odd (f + g))) (late_label late v) (late_label late w) ≡ true
labels_agree n late v w f g iv iw hf hg same = by_corners (four_in_order v iv.four iv.distinct) (four_in_order w iw.four iw.distinct)
  where
    by_corners : FourInOrder v → FourInOrder w
        → labels_meet Simplex 3 (seam f g (is_odd (f + g))) (late_label late v) (late_label late w) ≡ true
    by_corners p q =
        all_from
        (λ k. if is_set (late_label late v) k then is_set (late_label late w) (corner_across Simplex 3 (seam f g (is_odd (f + g))) k)
        else not (is_set (late_label late w) (corner_across Simplex 3 (seam f g (is_odd (f + g))) k)))
        (facet_corners Simplex 3 f) (λ k i.
        let at = from_filter (corner_in_facet Simplex f) (numbers 4) k i in
        let few : k < 4 = from_In-numbers 4 k at.0 in
        let apart : k ≢ f = differ_test k f at.1 in
        let other : ℕ = corner_across Simplex 3 (seam f g (is_odd (f + g))) k in
        let meet : slice_index (sorted w) other ≡ slice_index (sorted v) k =
        ap (λ (xs : List ℕ). slice_index xs other) q.is
        ∙ corner_meets f g hf hg p.a p.b p.c p.d q.a q.b q.c q.d (ap (λ (xs : List ℕ). without f xs) (sym p.is) ∙ same ∙ ap (λ (xs : List ℕ). without g xs) q.is) k few apart
        ∙ ap (λ (xs : List ℕ). slice_index xs k) (sym p.is) in
        same_if (is_set (late_label late v) k) (is_set (late_label late w) other)
        (label_bit late v k few ∙ ap late (sym meet) ∙ sym (label_bit late w other (corner_across_few f g k hf hg few apart))))

-- ---- entries

module _ (t : Table) (serves : ServesInOrder t) where
  -- what holds of the table's kind and dimension holds of the tetrahedron's
  moved : (P : Kind → ℕ → Type 0) → P t.kind t.dimension → P Simplex 3
  moved P holds = subst (P Simplex) serves.of.dimension (subst (λ (q : Kind). P q t.dimension) serves.of.kind holds)

  moved_back : (P : Kind → ℕ → Type 0) → P Simplex 3 → P t.kind t.dimension
  moved_back P holds = subst (λ (q : Kind). P q t.dimension) (sym serves.of.kind) (subst (P Simplex) (sym serves.of.dimension) holds)

  pub laws_at : (label : ℕ) → label < 16 → LabelLaws Simplex 3 label (entry_of t label)
  laws_at label h =
      moved (λ q d. LabelLaws q d label (entry_of t label))
      (label_laws_over ordered_seams t label serves.is_table serves.accepted (moved_back (λ q d. label < label_count q d) h))

-- the entries of two labels that meet across a seam match
abbrev MatchAt : Table → Seam → ℕ → ℕ → ℕ → List ℕ → Kind → ℕ → Type 0
MatchAt t s here there m face q d =
    here < label_count q d → there < label_count q d → labels_meet q d s here there ≡ true
    → Each (λ e. (e < edge_count q d) × (edge_in_facet q d s.facet e ≡ true)) face
    → count_by (has_signed m (map (edge_across q d s) face)) (entry_of t there) ≡ count_by (has_signed (m + bit s.same_parity) face) (entry_of t here)

ordered_seam : (f g : ℕ) → f ≤ g → g < 4 → In (seam f g (is_odd (f + g))) ordered_seams
ordered_seam f g h hg =
    let low : f < 4 = omega arith in
    let high : g < f + (4 - f) = omega arith in
    In-flat_map (λ j. map (λ m. seam j m (is_odd (j + m))) (range_with_len j (4 - j))) (numbers 4) f (seam f g (is_odd (f + g))) (In-numbers 4 f low)
    (In-map (λ m. seam f m (is_odd (f + m))) (range_with_len f (4 - f)) g (In-range f (4 - f) g h high))

pub match_at : (t : Table) → ServesInOrder t → (f g here there m : ℕ) (face : List ℕ) → f ≤ g → g < 4 → here < 16 → there < 16
    → labels_meet Simplex 3 (seam f g (is_odd (f + g))) here there ≡ true → sorted face ≡ face
    → Each (λ e. (e < 6) × (edge_in_facet Simplex 3 f e ≡ true)) face
    → count_by (has_signed m (map (edge_across Simplex 3 (seam f g (is_odd (f + g)))) face)) (entry_of t there)
    ≡ count_by (has_signed (m + bit (is_odd (f + g))) face) (entry_of t here)
match_at t serves f g here there m face h hg less other meet ascends all =
    let s = seam f g (is_odd (f + g)) in
    moved t serves (MatchAt t s here there m face)
    (λ a b c e. matches_across_over ordered_seams t s here there m face serves.is_table serves.accepted (ordered_seam f g h hg) a b c ascends e)
    less other meet all
