-- The pieces of a volume of three dimensions keep the laws of links: at each edge of a cell the triangles form one path, which ends in and_parts
-- facets that have the edge.
use Rattle.std.proofs.Common.{◌≡◌, ℕ, ◌<◌, true, length, sym, subst, ◌∙◌}
use Rattle.std.specs.Prelude.{nat_lt}
use Rattle.iso_model.specs.declared.Kind.{Kind}
use Rattle.iso_model.specs.Cells.{edge_count, facet_count, edge_in_facet, label_count}
use Rattle.iso_model.specs.Splits.{edge}
use Rattle.iso_model.specs.Values.{Volume, IsRegularVolume, label_of}
use Rattle.iso_model.specs.Bipolar.{is_bipolar, is_bipolar_in}
use Rattle.iso_model.specs.Tables.{Table, IsTable, entry_of}
use Rattle.iso_model.specs.Acceptance.{IsAccepted}
use Rattle.link_laws.proofs.Arcs.{Chained, end, link, LinkLaws}
use Rattle.volume_pieces.proofs.PiecesOf.{pieces_of}
use Rattle.volume_pieces.proofs.Labels.{label_few, bipolar_local}
use Rattle.entry_laws.proofs.PathLaws.{PathLaws, path_laws, carried}
use Rattle.lists.proofs.Tests.{lt_of}
use Rattle.std.proofs.lemmas.Bool.{and_parts}

-- the pieces of a regular volume of three dimensions and an accepted table keep the laws of links
pub link_laws : (v : Volume) (t : Table) → IsRegularVolume v → IsTable t → IsAccepted t → t.kind ≡ v.kind → t.dimension ≡ length v.sizes
    → length v.sizes ≡ 3 → LinkLaws (pieces_of v t)
link_laws v t regular table accepted same_kind same_dimension three = record {
  three = λ c w is_cell i. (path c).three w i;
  one_path = λ c e w u is_cell i j has_w has_u.
      carried (entry_of t (label_of v c)) e (Chained (pieces_of v t) c e) (λ s. end)
      (λ a b d x k has_b off in_a in_b rest. link x k has_b off in_a in_b rest) ((path c).one_path e w u i j has_w has_u);
  ends = λ c e f is_cell bipolar is_facet lies.
      let parts = and_parts (nat_lt e (edge_count v.kind (length v.sizes))) (is_bipolar v (edge v.kind v.sizes c e)) bipolar in
      let less = lt_of e (edge_count v.kind (length v.sizes)) parts.0 in
      let r = (path c).ends e f (at_three (λ n. e < edge_count v.kind n) less)
      (at_three (λ n. is_bipolar_in v.kind n (label_of v c) e ≡ true) (bipolar_local v regular c e less ∙ parts.1))
      (at_three (λ n. f < facet_count v.kind n) is_facet) (at_three (λ n. edge_in_facet v.kind n f e ≡ true) lies) in
      let h = r.has_further in
      (r.tuple, r.further, h.is_tuple, h.has_e, h.has_x, h.off, subst (λ n. edge_in_facet v.kind n f r.further ≡ true) (sym three) r.lies);
}
  where
    at_three : (P : ℕ → Type 0) → P (length v.sizes) → P 3
    at_three P h = subst P three h

    is_label : (c : ℕ) → label_of v c < label_count t.kind t.dimension
    is_label c =
        subst (λ (n : ℕ). label_of v c < label_count t.kind n) (sym same_dimension)
        (subst (λ (k : Kind). label_of v c < label_count k (length v.sizes)) (sym same_kind) (label_few v c))

    path : (c : ℕ) → PathLaws v.kind (label_of v c) (entry_of t (label_of v c))
    path c =
        subst (λ (k : Kind). PathLaws k (label_of v c) (entry_of t (label_of v c))) same_kind
        (path_laws t (label_of v c) table accepted (same_dimension ∙ three) (is_label c))
