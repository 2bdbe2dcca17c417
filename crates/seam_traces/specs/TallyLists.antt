-- Tallies of faces in a facet, as they are kept: the edges of each face by their places in the list of the facet's edges.
use Rattle.std.specs.Prelude.{◌≡◌, ℕ, bit_and, Bool, ◌==◌, List, map, filter}
use Rattle.iso_model.specs.declared.Kind.{Kind}
use Rattle.iso_model.specs.Turns.{signed}
use Rattle.iso_model.specs.Cells.{facet_edges}
use Rattle.face_tallies.specs.declared.faces.FaceTally.{FaceTally}
use Rattle.face_tallies.specs.Tallies.{AreTallies}
use Rattle.seam_traces.specs.Traces.{places}
use Rattle.lists.specs.Bits.{set_number}

-- a set lies within a list: each member of the set is one of the list
abbrev pub is_within : List ℕ → ℕ → Bool
is_within edges set = bit_and set (set_number edges) == set

-- a tally, with the places of its edges in a list in place of the edges
abbrev pub placed : List ℕ → FaceTally → FaceTally
placed edges t = record t { edges = places edges t.edges }

-- the tallies of those faces whose edges are all in a list, with the places of these edges
abbrev pub tallies_in : List ℕ → List FaceTally → List FaceTally
tallies_in edges tallies = map (placed edges) (filter (λ (t : FaceTally). is_within edges t.edges) tallies)

-- the tally that a face has on the other side of a seam
abbrev pub tally_across : Bool → FaceTally → FaceTally
tally_across same t = record t { sum = signed same t.sum }

-- the tallies that the faces have on the other side of a seam
abbrev pub tallies_across : Bool → List FaceTally → List FaceTally
tallies_across same tallies = map (tally_across same) tallies

-- kept tallies tell of the trace of tuples in a facet: they are the tallies of the faces in it, with the places of their edges among those of the facet
pub record TellTrace (kind : Kind) (d f : ℕ) (tuples : List (List ℕ)) (kept : List FaceTally) : Type 0 where
  pub tallies : List FaceTally
  pub are_tallies : AreTallies d tuples tallies
  pub kept_are : kept ≡ tallies_in (facet_edges kind d f) tallies
