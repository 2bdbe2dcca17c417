-- The tetrahedra of a mesh with the entries of a table, as cells that are to be glued.
use Rattle.std.proofs.Common.{◌≡◌, ℕ, ◌+◌, Bool, List, length, Option, Some, None, ap, sym, ◌∙◌}
use Rattle.std.specs.Prelude.{flat_map}
use Rattle.std.proofs.lemmas.List.Folds.{flat_map-map}
use Rattle.lists.specs.Orders.{numbers, is_odd, is_odd_order}
use Rattle.iso_model.specs.declared.Kind.TheVariants.{Simplex}
use Rattle.iso_model.specs.Cells.{edge_in_facet}
use Rattle.iso_model.specs.Seams.{seam, edge_across}
use Rattle.iso_model.specs.Tables.{Table, entry_of}
use Rattle.glue_laws.proofs.Pieces.{Pieces, placed_simplices}
use Rattle.cut_laws.specs.Cuts.{late_label, link_at, links_below, number_in, triangles_in}
use Rattle.cut_faces.proofs.MeshSides.{simplex_at, across, by_places}
use Rattle.cut_faces.proofs.CutLinks.{is_linked, local_of}

-- where the side of a simplex takes one of its local edges: to the local edge of the simplex across it between the same numbers
abbrev pub seam_by : ℕ → ℕ → Option (ℕ × ℕ) → ℕ
seam_by f e None = e
seam_by f e (Some dg) = edge_across Simplex 3 (seam f dg.1 (is_odd (f + dg.1))) e

-- the label of late corners of a simplex
abbrev pub label_at : (ℕ → Bool) → List (List ℕ) → ℕ → ℕ
label_at late S c = late_label late (simplex_at S c)

abbrev pub cut_pieces : ℕ → (ℕ → Bool) → List (List ℕ) → Table → Pieces
cut_pieces n late S t = record {
  cells = numbers (length S);
  entry = λ c. entry_of t (label_at late S c);
  is_odd_cell = λ c. is_odd_order (simplex_at S c);
  place = λ c e. number_in (links_below n late S) (link_at (simplex_at S c) e);
  local = λ c k. local_of late (links_below n late S) (simplex_at S c) k;
  is_bipolar = λ c e. is_linked late (simplex_at S c) e;
  facets = 4;
  in_facet = λ f e. edge_in_facet Simplex 3 f e;
  across = λ c f. across S c f;
  seam = λ c f e. seam_by f e (across S c f);
}

-- their placed simplices are the triangles of the cut
pub placed_are_triangles : (n : ℕ) (late : ℕ → Bool) (S : List (List ℕ)) (t : Table)
    → placed_simplices (cut_pieces n late S t) ≡ flat_map (triangles_in late (links_below n late S) t) S
placed_are_triangles n late S t =
    sym (flat_map-map (triangles_in late (links_below n late S) t) (simplex_at S) (numbers (length S)))
    ∙ ap (λ (ws : List (List ℕ)). flat_map (triangles_in late (links_below n late S) t) ws) (sym (by_places S))
