-- What an accepted table holds of the entry of each label: its tuples, the edges that they cover, and their faces.
use Rattle.std.proofs.Common.{◌≡◌, ℕ, ◌+◌, ◌<◌, true, List, arith}
use Rattle.std.specs.Prelude.{count_by}
use Rattle.iso_model.specs.declared.Kind.{Kind}
use Rattle.lists.specs.Orders.{sorted}
use Rattle.iso_model.specs.Cells.{edge_count, facet_count, edge_in_facet, label_count}
use Rattle.iso_model.specs.Bipolar.{is_bipolar_in}
use Rattle.iso_model.specs.Tables.{Table, IsTable, entry_of}
use Rattle.iso_model.specs.Acceptance.{rule_edges, rule_inside, rule_faces, IsAccepted, IsAcceptedOver}
use Rattle.mesh_laws.proofs.FaceSigns.{Part, has_signed}
use Rattle.entry_laws.proofs.TupleLaws.{IsSound, tuple_of, sound_tuple, edge_covered, tuple_off_facet}
use Rattle.entry_laws.proofs.EntryFaces.{face_inside, face_once, face_one_facet}
use Rattle.lists.specs.Members.{In, Each}
use Rattle.iso_model.specs.Seams.{Seam, seams}

-- all edges lie in the facet
abbrev pub AllIn : Kind → ℕ → ℕ → List ℕ → Type 0
AllIn kind d f es = Each (λ e. edge_in_facet kind d f e ≡ true) es

-- what is said of the entry ws of a label
pub record LabelLaws (kind : Kind) (d label : ℕ) (ws : List (List ℕ)) : Type 0 where
  -- each tuple has D different numbers of bipolar edges, and D is at least 2
  pub tuples : (w : List ℕ) → In w ws → IsSound kind d label w
  -- each bipolar edge stands in a tuple
  pub covers : (e : ℕ) → e < edge_count kind d → is_bipolar_in kind d label e ≡ true → (w : List ℕ) × In w ws × In e w
  -- no tuple lies in a facet
  pub not_flat : (w : List ℕ) (f : ℕ) → In w ws → f < facet_count kind d → ¬ AllIn kind d f w
  -- a face in no facet is had once with each sign
  pub inside : (w face : List ℕ) → In w ws → Part face w → ((f : ℕ) → f < facet_count kind d → ¬ AllIn kind d f face) →
      (count_by (has_signed 0 (sorted face)) ws ≡ 1) × (count_by (has_signed 1 (sorted face)) ws ≡ 1)
  -- a face in a facet is had once, with one sign or the other
  pub once : (w face : List ℕ) (f : ℕ) → In w ws → Part face w → f < facet_count kind d → AllIn kind d f face →
      count_by (has_signed 0 (sorted face)) ws + count_by (has_signed 1 (sorted face)) ws ≡ 1
  -- no face lies in two facets
  pub one_facet : (w face : List ℕ) (f g : ℕ) → In w ws → Part face w → f < facet_count kind d → g < facet_count kind d → AllIn kind d f face
      → AllIn kind d g face → f ≡ g

-- the laws hold of the entry of each label of a table that is accepted over some seams, whichever they are
pub label_laws_over : (ss : List Seam) (t : Table) (label : ℕ) → IsTable t → IsAcceptedOver ss t → label < label_count t.kind t.dimension
    → LabelLaws t.kind t.dimension label (entry_of t label)
label_laws_over ss t label table accepted less =
    let kind = t.kind in
    let d = t.dimension in
    let ws = entry_of t label in
    let edges : rule_edges kind d label ws ≡ true = accepted label 1 less (omega arith) in
    let off : rule_inside kind d ws ≡ true = accepted label 2 less (omega arith) in
    let faces : rule_faces kind d ws ≡ true = accepted label 3 less (omega arith) in
    let sound = λ (w : List ℕ) (i : In w ws). sound_tuple kind d label ws w table.fits edges i (tuple_of t label table less w i) in
    record {
      tuples = sound;
      covers = λ e. edge_covered kind d label ws e edges;
      not_flat = λ w f. tuple_off_facet kind d ws w f off;
      inside = λ w face i. face_inside kind d ws w face faces i (sound w i).distinct;
      once = λ w face f i. face_once kind d ws w face f faces i (sound w i).distinct;
      one_facet = λ w face f g i. face_one_facet kind d ws w face f g faces i (sound w i).distinct;
    }

-- and so of an accepted table
pub label_laws : (t : Table) (label : ℕ) → IsTable t → IsAccepted t → label < label_count t.kind t.dimension
    → LabelLaws t.kind t.dimension label (entry_of t label)
label_laws t = label_laws_over (seams t.kind t.dimension) t
