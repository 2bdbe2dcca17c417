-- The tuples of the facets that are found are those of the definition.
use Rattle.std.specs.Prelude.{◌≡◌, ◌↔◌, ◌⊎◌, ◌≤◌, ◌<◌, ℕ, pos, Bool, true, List, [], map, filter, length, slice_index, slice_index_or, All, Contains}
use Rattle.std.proofs.Common.{sym, ap, ◌∙◌, subst, arith, inl, inr}
use Rattle.std.proofs.lemmas.List.{length-map}
use Rattle.std.proofs.lemmas.List.Elements.{All-map, All-weaker, All-get_or}
use Rattle.iso_model.specs.declared.Kind.{Kind}
use Rattle.iso_model.specs.Cells.{HasDimension, edge_count}
use Rattle.iso_model.specs.Turns.{slack, same_int}
use Rattle.iso_model.specs.Hulls.{IsFacet, IsPulled}
use Rattle.iso_model.specs.Entries.{label_edges, label_points, is_off_boundary, IsPulledTuple}
use Rattle.case_patch.specs.FacetLists.{AreAllFacets}
use Rattle.pulling_tri.specs.PointSets.{point_set}
use Rattle.pulling_tri.proofs.ChainLaws.{pulled_goes_on, goes_on_length}
use Rattle.case_patch.specs.BoundarySets.{is_off}
use Rattle.case_patch.specs.Tuples.{Adds, IsTupleOfSome}
use Rattle.case_patch.proofs.FacetSets.{facet_set, facet_ascends, number_facet, facet_number, facets_same}
use Rattle.case_patch.proofs.LabelPoints.{few_points, points_length, edges_below}
use Rattle.case_patch.proofs.OffSets.{boundary_of, off_is}
use Rattle.case_patch.proofs.PulledSame.{pulled_too}
use Rattle.lists.specs.Orders.{numbers}
use Rattle.lists.specs.Bits.{set_number}

-- a facet's number is off the sets of the cell's facets where the facet is off the boundary
facet_off : (kind : Kind) (d label : ℕ) (set : List ℕ) → HasDimension kind d → IsFacet d (label_points kind d label) set
    → is_off (set_number set) (boundary_of kind d label) ≡ is_off_boundary kind d label set
facet_off kind d label set has f =
    let few = few_points kind d label has in
    let whole = f.tight ∙ ap (λ (n : ℕ). filter passes (numbers n)) (points_length kind d label) in
    ap (λ (s : List ℕ). is_off (set_number s) (boundary_of kind d label)) whole
    ∙ off_is kind d label passes (omega arith)
    ∙ ap (is_off_boundary kind d label) (sym whole)
  where
    passes : ℕ → Bool
    passes i = same_int (slack f.half (slice_index_or (label_points kind d label) i [])) (pos 0)

pub tuples_are : (kind : Kind) (d label : ℕ) (found : List ℕ) → HasDimension kind d → AreAllFacets d (label_points kind d label) found → (tuple : List ℕ)
    → IsTupleOfSome found (Contains (map point_set found)) (boundary_of kind d label) d (label_edges kind d label) tuple ↔ IsPulledTuple kind d label tuple
tuples_are kind d label found has are tuple = (λ t. there t, λ t. back t)
  where
    few : length (label_points kind d label) ≤ 64
    few = omega (arith, few_points kind d label has, points_length kind d label)

    same : (set : List ℕ) → Contains (map point_set found) set ↔ IsFacet d (label_points kind d label) set
    same = facets_same d (label_points kind d label) found few are

    there : IsTupleOfSome found (Contains (map point_set found)) (boundary_of kind d label) d (label_edges kind d label) tuple
        → IsPulledTuple kind d label tuple
    there t =
        let n = number_facet d (label_points kind d label) found t.0 few are t.1 in
        let off : is_off_boundary kind d label n.set ≡ true =
        sym (facet_off kind d label n.set has n.facet) ∙ ap (λ (m : ℕ). is_off m (boundary_of kind d label)) (sym n.is) ∙ t.2.0 in
        record {
          facet = n.set;
          is_facet = n.facet;
          inner = off;
          simplex = t.2.1.0;
          is_pulled = subst (λ (s : List ℕ). IsPulled (IsFacet d (label_points kind d label)) d s t.2.1.0) n.shown
              (pulled_too (Contains (map point_set found)) (IsFacet d (label_points kind d label)) same d (point_set t.0) t.2.1.0 t.2.1.1);
          midpoints = t.2.1.2.0;
          named = t.2.1.2.1;
        }

    back : IsPulledTuple kind d label tuple → IsTupleOfSome found (Contains (map point_set found)) (boundary_of kind d label) d (label_edges kind d label) tuple
    back t =
        let set_is = facet_set d (label_points kind d label) t.facet few t.is_facet in (
          set_number t.facet,
          facet_number d (label_points kind d label) found t.facet are t.is_facet,
          (
            facet_off kind d label t.facet has t.is_facet ∙ t.inner,
            (
              t.simplex,
              subst (λ (s : List ℕ). IsPulled (Contains (map point_set found)) d s t.simplex) (sym set_is)
                  (pulled_too (IsFacet d (label_points kind d label)) (Contains (map point_set found)) (λ s. ((same s).1, (same s).0)) d t.facet
                  t.simplex t.is_pulled),
              (t.midpoints, t.named),
            ),
          ),
        )

-- all that were added to an empty list
pub found_tuples : (kind : Kind) (d label : ℕ) (found boundary es : List ℕ) (items : List (List ℕ)) → HasDimension kind d
    → AreAllFacets d (label_points kind d label) found
    → boundary ≡ boundary_of kind d label → es ≡ label_edges kind d label → Adds (IsTupleOfSome found (Contains (map point_set found)) boundary d es) [] items
    → (tuple : List ℕ) → Contains items tuple ↔ IsPulledTuple kind d label tuple
found_tuples kind d label found boundary es items has are b e adds tuple =
    (λ c. there ((whole.each tuple).0 c), λ t. (whole.each tuple).1 (inr ((tuples_are kind d label found has are tuple).1 t)))
  where
    whole : Adds (IsTupleOfSome found (Contains (map point_set found)) (boundary_of kind d label) d (label_edges kind d label)) [] items
    whole = subst (λ (xs : List ℕ). Adds (IsTupleOfSome found (Contains (map point_set found)) (boundary_of kind d label) d xs) [] items) e
        (subst (λ (bs : List ℕ). Adds (IsTupleOfSome found (Contains (map point_set found)) bs d es) [] items) b adds)

    there : Contains [] tuple ⊎ IsTupleOfSome found (Contains (map point_set found)) (boundary_of kind d label) d (label_edges kind d label) tuple
        → IsPulledTuple kind d label tuple
    there (inl o) = absurd (let h : o.0 < 0 = o.1 in omega arith)
    there (inr t) = (tuples_are kind d label found has are tuple).0 t

-- ---- such tuples have D edges

pub tuple_wide : (kind : Kind) (d label : ℕ) (tuple : List ℕ) → IsPulledTuple kind d label tuple → length tuple ≡ d
tuple_wide kind d label tuple t =
    ap length t.named ∙ length-map t.simplex (slice_index (label_edges kind d label))
    ∙ goes_on_length (IsFacet d (label_points kind d label)) d t.facet t.simplex
    (pulled_goes_on (IsFacet d (label_points kind d label)) d t.facet t.simplex (facet_ascends d (label_points kind d label) t.facet t.is_facet) t.is_pulled)

pub tuple_edges : (kind : Kind) (d label : ℕ) (tuple : List ℕ) → IsPulledTuple kind d label tuple → All (λ e. e < edge_count kind d) tuple
tuple_edges kind d label tuple t =
    subst (All (λ e. e < edge_count kind d)) (sym t.named)
    (All-map (λ e. e < edge_count kind d) (slice_index (label_edges kind d label)) t.simplex
    (All-weaker (λ i. i < length (label_edges kind d label)) (λ i. slice_index (label_edges kind d label) i < edge_count kind d)
    (λ i h. All-get_or (λ e. e < edge_count kind d) (label_edges kind d label) i 0 h (edges_below kind d label)) t.simplex t.midpoints))
