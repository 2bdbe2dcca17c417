-- The cells of a regular volume with the entries of an accepted table are lawful pieces.
use Rattle.std.proofs.Common.{◌≡◌, ℕ, ◌<◌, true, List, length, sym, ◌∙◌}
use Rattle.iso_model.specs.Cells.{edge_count}
use Rattle.iso_model.specs.Values.{Volume, IsRegularVolume, label_of}
use Rattle.iso_model.specs.Bipolar.{is_bipolar_in}
use Rattle.iso_model.specs.Tables.{Table}
use Rattle.glue_laws.proofs.Pieces.{IsTuple, Laws}
use Rattle.volume_pieces.proofs.PiecesOf.{pieces_of}
use Rattle.volume_pieces.proofs.Labels.{label_few, bipolar_local}
use Rattle.volume_pieces.proofs.Edges.{cells_distinct, bipolar_is, is_bipolar_from, place_edge, back}
use Rattle.volume_pieces.proofs.Seams.{LabelsTellSigns}
use Rattle.volume_pieces.proofs.AcrossStands.{leads_back}
use Rattle.volume_pieces.proofs.AcrossSeams.{PlacesLeadBack, seam_keeps, seam_order}
use Rattle.volume_pieces.proofs.AcrossShares.{PlacesHaveEdges, shared_edges}
use Rattle.volume_pieces.proofs.AcrossMatches.{LabelsAreBelow, matches}
use Rattle.surface_laws.proofs.AcceptedEntries.{Serves, cell_laws, entries_match}
use Rattle.lists.specs.Members.{In}
use Rattle.lists.proofs.MemberLaws.{Each-In, Each-from_In}
use Rattle.iso_model.proofs.SignLaws.{label_bit}

-- labels tell the signs of corners
pub label_signs : (v : Volume) → LabelsTellSigns v
label_signs v c k is_cell h = label_bit v c k h

-- labels of cells are labels of their kind
pub labels_below : (v : Volume) → LabelsAreBelow v
labels_below v c is_cell = label_few v c

-- places lead back to the edges of their cells
pub places_back : (v : Volume) (t : Table) → IsRegularVolume v → PlacesLeadBack v t
places_back v t regular c e is_cell bipolar = back v regular t c e is_cell bipolar

-- at the place of an edge stands this edge
pub places_hold : (v : Volume) (t : Table) → IsRegularVolume v → PlacesHaveEdges v t
places_hold v t regular c e is_cell bipolar = (place_edge v regular t c e is_cell bipolar).1

module _ (v : Volume) (t : Table) (regular : IsRegularVolume v) (serves : Serves v t) where
  -- a tuple of the entry of a cell
  cell_tuple : (c : ℕ) (w : List ℕ) → In c (pieces_of v t).cells → In w ((pieces_of v t).entry c) → IsTuple (pieces_of v t) c w
  cell_tuple c w is_cell i =
      let sound = (cell_laws v t serves c).tuples w i in
      record {
        distinct = sound.distinct;
        long = sound.long;
        bipolar = Each-from_In (λ e. (pieces_of v t).is_bipolar c e ≡ true) w (λ e j.
            let at =
            Each-In (λ x. (x < edge_count v.kind (length v.sizes)) × (is_bipolar_in v.kind (length v.sizes) (label_of v c) x ≡ true)) w
            sound.edges e j in
            is_bipolar_from v regular t c e at.0 (sym (bipolar_local v regular c e at.0) ∙ at.1));
      }

  -- each bipolar edge of a cell stands in a tuple of its entry
  cell_covers : (c e : ℕ) → In c (pieces_of v t).cells → (pieces_of v t).is_bipolar c e ≡ true → (w : List ℕ) × In w ((pieces_of v t).entry c) × In e w
  cell_covers c e is_cell bipolar =
      let at = bipolar_is v regular t c e bipolar in
      (cell_laws v t serves c).covers e at.0 (bipolar_local v regular c e at.0 ∙ at.1)

  -- the pieces are lawful
  pub laws_of : Laws (pieces_of v t)
  laws_of = record {
    cells_distinct = cells_distinct v;
    back = places_back v t regular;
    tuples = cell_tuple;
    inside = λ c w part is_cell. (cell_laws v t serves c).inside w part;
    once = λ c w part f is_cell. (cell_laws v t serves c).once w part f;
    one_facet = λ c w part f g is_cell. (cell_laws v t serves c).one_facet w part f g;
    not_flat = λ c w f is_cell. (cell_laws v t serves c).not_flat w f;
    covers = cell_covers;
    leads_back = leads_back v regular;
    seam_keeps = seam_keeps v t regular (label_signs v) (places_back v t regular);
    seam_order = seam_order v t regular (label_signs v) (places_back v t regular);
    matches = matches v t regular (label_signs v) (places_back v t regular) (labels_below v) (entries_match v t serves);
    shares = shared_edges v t regular (places_hold v t regular);
  }
