-- Two facets that meet are joined by a seam, read in one of its two directions: it carries corners to the same points, edges to the same edges of the
-- grid, and tells whether the parities are the same.
use Rattle.std.proofs.Common.{◌≡◌, ℕ, ◌<◌, true, not, List, length, Some, ap, sym, ◌∙◌, subst, inl, inr}
use Rattle.std.specs.Prelude.{◌↔◌, ◌⊎◌, Contains, if◌then◌else◌}
use Rattle.iso_model.specs.Cells.{corner_count, edge_ends, facet_count, facet_corners, facet_edges, corner_in_facet}
use Rattle.iso_model.specs.Seams.{Seam, seams, corner_across, edge_across}
use Rattle.iso_model.specs.Splits.{corner_offset, rank_of, corner, edge, edge_of_ends, is_odd_cell}
use Rattle.iso_model.specs.Neighbours.{facet_offsets, shifted}
use Rattle.iso_model.specs.SplitLaws.{Joins}
use Rattle.iso_model.specs.Values.{Volume, cells, IsRegularVolume, label_of, positive_at}
use Rattle.iso_model.specs.Acceptance.{labels_meet}
use Rattle.iso_model.specs.Dimensions.{IsDimension}
use Rattle.split_checks.specs.CubeShifts.{meets}
use Rattle.split_checks.specs.AcrossTests.{move_across}
use Rattle.split_laws.proofs.Offsets.{OffsetsFit, in_facet, of_facet}
use Rattle.split_laws.proofs.Placement.{below, long_offset, same_where_meet}
use Rattle.split_laws.proofs.Across.{shift_is, length-move, meets_from_shifted}
use Rattle.split_laws.proofs.Passed.{fits, ends_are_corners}
use Rattle.split_laws.proofs.SplitTheorems.{joined}
use Rattle.volume_pieces.proofs.PiecesOf.{across_of}
use Rattle.volume_pieces.proofs.PiecesAcross.{FacetsMeet, across_meets, meets_back}
use Rattle.volume_pieces.proofs.AcrossStands.{volume_dimension, meets_stands, meets_by_ranks}
use Rattle.volume_pieces.proofs.AcrossEdges.{from_facet_edges, corner_there, edge_there, ends_there}
use Rattle.lists.specs.Bits.{is_set}
use Rattle.lists.specs.Members.{In}
use Rattle.lists.proofs.Tests.{same_if, and_left, and_right}
use Rattle.lists.proofs.MemberLaws.{all_from}

-- the seam joins facet f of the cell c to facet g of the cell d
pub record SeamJoins (v : Volume) (s : Seam) (c f d g : ℕ) : Type 0 where
  pub from : s.facet ≡ f
  pub to : s.other ≡ g
  pub corners : (k : ℕ) → In k (facet_corners v.kind (length v.sizes) f)
      → In (corner_across v.kind (length v.sizes) s k) (facet_corners v.kind (length v.sizes) g)
      × (corner v.kind v.sizes c k ≡ corner v.kind v.sizes d (corner_across v.kind (length v.sizes) s k))
  pub edges : (e : ℕ) → In e (facet_edges v.kind (length v.sizes) f)
      → In (edge_across v.kind (length v.sizes) s e) (facet_edges v.kind (length v.sizes) g)
      × (edge v.kind v.sizes c e ≡ edge v.kind v.sizes d (edge_across v.kind (length v.sizes) s e))
  pub labels : labels_meet v.kind (length v.sizes) s (label_of v c) (label_of v d) ≡ true
  pub parity : (s.same_parity ≡ true) ↔ (is_odd_cell v.kind v.sizes c ≡ is_odd_cell v.kind v.sizes d)

-- bit k of a label is the sign of corner k
abbrev pub LabelsTellSigns : Volume → Type 0
LabelsTellSigns v = (c k : ℕ) → In c (cells v) → k < corner_count v.kind (length v.sizes) → is_set (label_of v c) k ≡ positive_at v (corner v.kind v.sizes c k)

module _ (v : Volume) (regular : IsRegularVolume v) (signs : LabelsTellSigns v) where
  module _ (s : Seam) (in_seams : Contains (seams v.kind (length v.sizes)) s) (c f d g : ℕ) (is_cell : In c (cells v))
      (is_facet : f < facet_count v.kind (length v.sizes)) (m : FacetsMeet v c f d g)
      (joins : Joins v.kind (length v.sizes) s (rank_of v.kind v.sizes c) f (rank_of v.kind v.sizes d) g) where
    abbrev D : ℕ
    D = length v.sizes

    abbrev is : IsDimension (length v.sizes)
    is = volume_dimension v regular

    abbrev fit : OffsetsFit v.kind (length v.sizes)
    fit = fits v.kind (length v.sizes) (volume_dimension v regular) regular.fits

    abbrev here : List (List ℕ)
    here = facet_offsets v.kind (length v.sizes) (rank_of v.kind v.sizes c) f

    abbrev next_corner : ℕ → ℕ
    next_corner = corner_across v.kind (length v.sizes) s

    abbrev next_edge : ℕ → ℕ
    next_edge = edge_across v.kind (length v.sizes) s

    -- the corner that a corner meets is the same point
    same_corner : (k : ℕ) → In k (facet_corners v.kind (length v.sizes) f)
        → In (next_corner k) (facet_corners v.kind (length v.sizes) g) × (corner v.kind v.sizes c k ≡ corner v.kind v.sizes d (next_corner k))
    same_corner k i =
        let k_in = in_facet v.kind D f k i in
        let i' : In k (facet_corners v.kind D s.facet) = subst (λ (x : ℕ). In k (facet_corners v.kind D x)) (sym joins.from) i in
        let l_in = subst (λ (x : ℕ). In (next_corner k) (facet_corners v.kind D x)) joins.to (corner_there v.kind D is regular.fits s in_seams k i') in
        let hl = (in_facet v.kind D g (next_corner k) l_in).0 in
        let long_here = long_offset v.kind v.sizes fit c k k_in.0 in
        let long_there = long_offset v.kind v.sizes fit d (next_corner k) hl in
        let stands = meets_stands v regular c f is_cell is_facet d g m in
        let shifted_there =
        joins.meets k k_in.0 k_in.1
        ∙ ap (λ z. shifted z (corner_offset v.kind D (rank_of v.kind v.sizes d) (next_corner k)))
        (shift_is v.kind D (rank_of v.kind v.sizes c) f) in
        let met : meets (corner_offset v.kind D (rank_of v.kind v.sizes c) k) (move_across D here)
        (corner_offset v.kind D (rank_of v.kind v.sizes d) (next_corner k))
        ≡ true =
        meets_from_shifted (corner_offset v.kind D (rank_of v.kind v.sizes c) k) (move_across D here)
        (corner_offset v.kind D (rank_of v.kind v.sizes d) (next_corner k))
        (length-move D here ∙ sym long_here) (long_there ∙ sym long_here) shifted_there in
        (l_in, same_where_meet v.kind v.sizes fit c d (move_across D here) stands.moved k (next_corner k) k_in.0 hl met)

    -- the edge that an edge goes to is the same edge of the grid
    same_edges : (e : ℕ) → In e (facet_edges v.kind (length v.sizes) f)
        → In (next_edge e) (facet_edges v.kind (length v.sizes) g) × (edge v.kind v.sizes c e ≡ edge v.kind v.sizes d (next_edge e))
    same_edges e i =
        let e_in = from_facet_edges v.kind D f e i in
        let i' : In e (facet_edges v.kind D s.facet) = subst (λ (x : ℕ). In e (facet_edges v.kind D x)) (sym joins.from) i in
        let e_there = subst (λ (x : ℕ). In (next_edge e) (facet_edges v.kind D x)) joins.to (edge_there v.kind D is regular.fits s in_seams e i') in
        let ends = ends_there v.kind D is regular.fits s in_seams e i' in
        let low = (edge_ends v.kind D e).0 in
        let high = (edge_ends v.kind D e).1 in
        let corners_in = ends_are_corners v.kind D is regular.fits e e_in.0 in
        let low_in = of_facet v.kind D f low corners_in.0 (and_left (corner_in_facet v.kind f low) (corner_in_facet v.kind f high) e_in.1) in
        let high_in = of_facet v.kind D f high corners_in.1 (and_right (corner_in_facet v.kind f low) (corner_in_facet v.kind f high) e_in.1) in
        let first : corner v.kind v.sizes c low ≡ corner v.kind v.sizes d (edge_ends v.kind D (next_edge e)).0 =
        (same_corner low low_in).1 ∙ ap (corner v.kind v.sizes d) (sym ends.0) in
        let second : corner v.kind v.sizes c high ≡ corner v.kind v.sizes d (edge_ends v.kind D (next_edge e)).1 =
        (same_corner high high_in).1 ∙ ap (corner v.kind v.sizes d) (sym ends.1) in (
          e_there,
          ap (λ (p : List ℕ). edge_of_ends p (corner v.kind v.sizes c high)) first
              ∙ ap (λ (q : List ℕ). edge_of_ends (corner v.kind v.sizes d (edge_ends v.kind D (next_edge e)).0) q) second,
        )

    labels_agree : labels_meet v.kind (length v.sizes) s (label_of v c) (label_of v d) ≡ true
    labels_agree =
        all_from (λ k. (if is_set (label_of v c) k then is_set (label_of v d) (next_corner k) else not (is_set (label_of v d) (next_corner k))))
        (facet_corners v.kind D s.facet) (λ k i.
        let i' : In k (facet_corners v.kind D f) = subst (λ (x : ℕ). In k (facet_corners v.kind D x)) joins.from i in
        let there = same_corner k i' in
        let bits : is_set (label_of v c) k ≡ is_set (label_of v d) (next_corner k) =
        signs c k is_cell (in_facet v.kind D f k i').0 ∙ ap (positive_at v) there.1
        ∙ sym (signs d (next_corner k) m.is_cell (in_facet v.kind D g (next_corner k) there.0).0) in
        same_if (is_set (label_of v c) k) (is_set (label_of v d) (next_corner k)) bits)

    seam_joins_from : SeamJoins v s c f d g
    seam_joins_from = record { from = joins.from; to = joins.to; corners = same_corner; edges = same_edges; labels = labels_agree; parity = joins.parity }

  -- two facets that meet are joined by a seam in one of its directions
  pub seam_joins_meeting : (c f d g : ℕ) → In c (cells v) → f < facet_count v.kind (length v.sizes) → FacetsMeet v c f d g
      → (s : Seam) × Contains (seams v.kind (length v.sizes)) s × (SeamJoins v s c f d g ⊎ SeamJoins v s d g c f)
  seam_joins_meeting c f d g is_cell is_facet m =
      let fit' : OffsetsFit v.kind (length v.sizes) = fits v.kind (length v.sizes) (volume_dimension v regular) regular.fits in
      let by_ranks = meets_by_ranks v regular c f is_cell is_facet d g m in
      let found =
      joined v.kind (length v.sizes) (volume_dimension v regular) regular.fits (rank_of v.kind v.sizes c) f (rank_of v.kind v.sizes d) g
      (below v.kind v.sizes fit' c) is_facet by_ranks in
      let in_seams : Contains (seams v.kind (length v.sizes)) found.1 = (found.0, found.2, found.3) in (
        found.1,
        in_seams,
        (elim found.4 [
          | inl forwards ↦ inl (seam_joins_from found.1 in_seams c f d g is_cell is_facet m forwards)
          | inr backwards ↦ inr (seam_joins_from found.1 in_seams d g c f m.is_cell m.is_facet (meets_back v c f d g is_cell is_facet m) backwards)
        ]),
      )

  -- so is a facet with the one found across it
  pub seam_joins : (c f d g : ℕ) → In c (cells v) → f < facet_count v.kind (length v.sizes) → across_of v c f ≡ Some (d, g)
      → (s : Seam) × Contains (seams v.kind (length v.sizes)) s × (SeamJoins v s c f d g ⊎ SeamJoins v s d g c f)
  seam_joins c f d g is_cell is_facet e = seam_joins_meeting c f d g is_cell is_facet (across_meets v c f d g e)
