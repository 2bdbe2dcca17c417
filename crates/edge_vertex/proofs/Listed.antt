-- The edges that the code finds and sorts are the list of all bipolar edges.
use Rattle.std.proofs.Common.{◌≡◌, ℕ, ◌<◌, Bool, true, List, length, sym, ap, ◌∙◌, subst}
use Rattle.std.specs.Prelude.{filter, ◌↔◌, Contains}
use Rattle.std.specs.List.Sorted.{IsPermutation}
use Rattle.std.proofs.lemmas.List.Sorted.{Contains-permutation, IsPermutation-sym}
use Rattle.grid_split.specs.declared.split.Edge.{Edge}
use Rattle.lists.specs.Orders.{numbers}
use Rattle.iso_model.specs.Cells.{edge_ends, edge_count, corner_count}
use Rattle.iso_model.specs.Splits as Splits
use Rattle.iso_model.specs.Splits.{corner, cell_count, edge_of_ends, midpoint}
use Rattle.iso_model.specs.Neighbours.{HaveOwnMidpoints}
use Rattle.iso_model.specs.Bipolar.{differ, is_bipolar, is_bipolar_in, cell_edges, kept_edges, bipolar_edges}
use Rattle.iso_model.specs.Values.{Volume, cells, is_kept, positive_at, label_of}
use Rattle.iso_model.proofs.BipolarLaws.{kept_edge-has, length-edge, bipolar_edges-fixed}
use Rattle.edge_vertex.specs.EdgeValue.{edge_of, edges_of, IsBipolarEdge}
use Rattle.edge_vertex.proofs.EdgeOrder.{SortedEdges, ascends}
use Rattle.lists.specs.Bits.{is_set}
use Rattle.lists.proofs.Contained.{Contains-filter, contained_below, Contains-mapped, from_Contains-map}
use Rattle.lists.proofs.Contained.{Contains-passes, Contains-filtered, Contains-joined}
use Rattle.iso_model.proofs.SignLaws.{bipolar_in_label}

-- ---- members of lists that are made of others

-- ---- the list

all_cells : (v : Volume) (cell : ℕ) → ((x : List ℕ) → v.kept x ≡ true) → cell < cell_count v.kind v.sizes → Contains (cells v) cell
unfolding cells
all_cells v cell kept h =
    Contains-filtered (is_kept v) (numbers (cell_count v.kind v.sizes)) cell (kept (Splits.cube_of v.kind v.sizes cell))
    (contained_below (cell_count v.kind v.sizes) cell h)

module _ (v : Volume) (n : ℕ) (edges_are : n ≡ edge_count v.kind (length v.sizes)) (kept : (x : List ℕ) → v.kept x ≡ true)
    (inside : (e : ℕ) → e < edge_count v.kind (length v.sizes)
    → ((edge_ends v.kind (length v.sizes) e).0 < corner_count v.kind (length v.sizes))
    × ((edge_ends v.kind (length v.sizes) e).1 < corner_count v.kind (length v.sizes)))
  where
    listed : (e : Splits.Edge) → IsBipolarEdge v n (cell_count v.kind v.sizes) e → Contains (filter (is_bipolar v) (kept_edges v)) e
    listed e r =
        let cell : ℕ = r.0 in
        let k : ℕ = r.2.0 in
        let hk : k < edge_count v.kind (length v.sizes) = subst (λ (m : ℕ). k < m) edges_are r.2.1 in
        let ends = inside k hk in
        let is : Splits.edge v.kind v.sizes cell k ≡ e = r.2.2.1 in
        let bipolar : is_bipolar v e ≡ true = ap (is_bipolar v) (sym is) ∙ bipolar_in_label v cell k ends.0 ends.1 ∙ r.2.2.0 in
        let in_cell : Contains (cell_edges v cell) e =
        subst (Contains (cell_edges v cell)) is
        (Contains-mapped (Splits.edge v.kind v.sizes cell) (numbers (edge_count v.kind (length v.sizes))) k
        (contained_below (edge_count v.kind (length v.sizes)) k hk)) in
        Contains-filtered (is_bipolar v) (kept_edges v) e bipolar (Contains-joined (cell_edges v) (cells v) cell e (all_cells v cell kept r.1) in_cell)

    found : (e : Splits.Edge) → Contains (filter (is_bipolar v) (kept_edges v)) e → IsBipolarEdge v n (cell_count v.kind v.sizes) e
    found e c =
        let has = kept_edge-has v e (Contains-filter (is_bipolar v) (kept_edges v) e c) in
        let k : ℕ = has.2.0 in
        let ends = inside k has.2.1 in
        let bipolar : is_bipolar_in v.kind (length v.sizes) (label_of v has.0) k ≡ true =
        sym (bipolar_in_label v has.0 k ends.0 ends.1) ∙ ap (is_bipolar v) has.2.2 ∙ Contains-passes (is_bipolar v) (kept_edges v) e c in
        (has.0, has.1, (k, subst (λ (m : ℕ). k < m) (sym edges_are) has.2.1, (bipolar, has.2.2)))

    pub are_listed : {D : ℕ} (keys : List (Edge D)) → HaveOwnMidpoints v.kind v.sizes
        → ((e : Splits.Edge) → Contains (edges_of keys) e ↔ IsBipolarEdge v n (cell_count v.kind v.sizes) e) → SortedEdges keys
        → edges_of keys ≡ bipolar_edges v
    are_listed keys own members sorted =
        let has =
        λ (e : Splits.Edge) (c : Contains (edges_of keys) e).
        kept_edge-has v e (Contains-filter (is_bipolar v) (kept_edges v) e (listed e ((members e).0 c))) in
        bipolar_edges-fixed v own (edges_of keys) (record {
          ascends = ascends (length v.sizes) keys sorted
              (λ e c. ap (λ (d : Splits.Edge). length (midpoint d)) (sym (has e c).2.2) ∙ length-edge v.kind v.sizes (has e c).0 (has e c).2.0)
              (λ d e cd ce same. own (has d cd).0 (has e ce).0 d e (has d cd).1 (has e ce).1 (has d cd).2 (has e ce).2 same);
          members = λ e. (λ c. listed e ((members e).0 c), λ c. (members e).1 (found e c));
        })

-- ---- a list in another order

pub both_ways : (P Q R : Type 0) → P ↔ Q → Q ↔ R → P ↔ R
both_ways P Q R a b = (λ p. b.0 (a.0 p), λ r. a.1 (b.1 r))

moved : {D : ℕ} (old new : List (Edge D)) → IsPermutation old new → (e : Splits.Edge) → Contains (edges_of old) e → Contains (edges_of new) e
moved {D} old new p e c =
    let at = from_Contains-map (edge_of {D = D}) old e c in
    subst (Contains (edges_of new)) at.2 (Contains-mapped (edge_of {D = D}) new at.0 (Contains-permutation old new at.0 p at.1))

pub reordered_members : {D : ℕ} (old new : List (Edge D)) → IsPermutation old new → (e : Splits.Edge) → Contains (edges_of new) e ↔ Contains (edges_of old) e
reordered_members old new p e = (moved new old (IsPermutation-sym old new p) e, moved old new p e)
