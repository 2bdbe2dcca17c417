-- The list of bipolar edges is what is said of it: it has each bipolar edge of a kept cell once, in ascending order of midpoints, and no other list has this.
use Rattle.std.specs.Prelude.{◌≡◌, ◌<◌, ℕ, true, false, List, [], ◌∷◌, filter, flat_map, length, Contains, if◌then◌else◌}
use Rattle.std.proofs.Common.{sym, ap, ◌∙◌, inl, inr}
use Rattle.std.proofs.lemmas.List.FromFn.{length-map-range_with_len}
use Rattle.iso_model.specs.declared.Kind.{Kind}
use Rattle.lists.specs.Orders.{numbers}
use Rattle.iso_model.specs.Points.{comes_first}
use Rattle.iso_model.specs.Cells.{edge_count, edge_ends}
use Rattle.iso_model.specs.Splits.{Edge, edge_of_ends, edge, corner, midpoint, cell_count}
use Rattle.iso_model.specs.Neighbours.{HasEdge, HaveOwnMidpoints}
use Rattle.iso_model.specs.Values.{Volume, cells}
use Rattle.iso_model.specs.Bipolar.{is_bipolar, cell_edges, kept_edges, bipolar_edges, AreBipolarEdges}
use Rattle.iso_model.proofs.FaceLaws.{cells_below}
use Rattle.iso_model.proofs.OrderLaws.{Earlier, keys_strict, ascending-ascends, ascending-members, ascending-all}
use Rattle.lists.proofs.Contained.{Contains-head, Contains-tail, Contains-filter, below_contained, from_Contains-map, none_contained}
use Rattle.lists.proofs.Orderings.{ascends_by_steps, fixed_by}
use Rattle.std.proofs.lemmas.List.Elements.{Contains-append_cases}
use Rattle.iso_model.proofs.PointLaws.{length-plus}

-- ---- members of lists that are made of others

pub Contains-flat_map : {X Y : Type 0} (f : X → List Y) (xs : List X) (z : Y) → Contains (flat_map f xs) z → (x : X) × Contains xs x × Contains (f x) z
Contains-flat_map f [] z c = absurd (none_contained z c)
Contains-flat_map {X} f (x ∷ xs) z c = elim (Contains-append_cases (f x) (flat_map f xs) z c) as (λ _. (y : X) × Contains (x ∷ xs) y × Contains (f y) z) [
  | inl m ↦ (x, Contains-head x xs, m)
  | inr m ↦ let r = Contains-flat_map f xs z m in (r.0, Contains-tail r.0 x xs r.1, r.2)
]

-- ---- the edges of kept cells

-- each is an edge of a cell of the grid
pub kept_edge-has : (v : Volume) (e : Edge) → Contains (kept_edges v) e → (cell : ℕ) × (cell < cell_count v.kind v.sizes) × HasEdge v.kind v.sizes cell e
kept_edge-has v e c =
    let r = Contains-flat_map (cell_edges v) (cells v) e c in
    let m = from_Contains-map (edge v.kind v.sizes r.0) (numbers (edge_count v.kind (length v.sizes))) e r.2 in
    (r.0, cells_below v r.0 r.1, (m.0, below_contained (edge_count v.kind (length v.sizes)) m.0 m.1, m.2))

pub length-corner : (kind : Kind) (sizes : List ℕ) (cell k : ℕ) → length (corner kind sizes cell k) ≡ length sizes
length-corner kind sizes cell k = length-map-range_with_len _ 0 (length sizes)

length-midpoint : (p q : List ℕ) → length p ≡ length q → length (midpoint (edge_of_ends p q)) ≡ length p
length-midpoint p q l = elim (comes_first p q) as
    (λ b. length (midpoint (if b then record { low = p; high = q } else record { low = q; high = p })) ≡ length p) [
      | true ↦ length-plus p q l
      | false ↦ length-plus q p (sym l) ∙ sym l
    ]

-- a midpoint has a coordinate for each axis
pub length-edge : (kind : Kind) (sizes : List ℕ) (cell n : ℕ) → length (midpoint (edge kind sizes cell n)) ≡ length sizes
length-edge kind sizes cell n =
    let ends = edge_ends kind (length sizes) n in
    length-midpoint (corner kind sizes cell ends.0) (corner kind sizes cell ends.1)
    (length-corner kind sizes cell ends.0 ∙ sym (length-corner kind sizes cell ends.1))
    ∙ length-corner kind sizes cell ends.0

-- ---- the list

abbrev bipolar_ones : Volume → List Edge
bipolar_ones v = filter (is_bipolar v) (kept_edges v)

own : (v : Volume) → HaveOwnMidpoints v.kind v.sizes → (d e : Edge) → Contains (bipolar_ones v) d → Contains (bipolar_ones v) e
    → midpoint d ≡ midpoint e → d ≡ e
own v law d e cd ce same =
    let hd = kept_edge-has v d (Contains-filter (is_bipolar v) (kept_edges v) d cd) in
    let he = kept_edge-has v e (Contains-filter (is_bipolar v) (kept_edges v) e ce) in
    law hd.0 he.0 d e hd.1 he.1 hd.2 he.2 same

wide : (v : Volume) (e : Edge) → Contains (bipolar_ones v) e → length (midpoint e) ≡ length v.sizes
wide v e c =
    let h = kept_edge-has v e (Contains-filter (is_bipolar v) (kept_edges v) e c) in
    ap (λ (d : Edge). length (midpoint d)) (sym h.2.2) ∙ length-edge v.kind v.sizes h.0 h.2.0

pub bipolar_edges-are : (v : Volume) → HaveOwnMidpoints v.kind v.sizes → AreBipolarEdges v (bipolar_edges v)
unfolding bipolar_edges
bipolar_edges-are v law = record {
  ascends = ascends_by_steps (Earlier midpoint) (bipolar_edges v) (ascending-ascends midpoint (length v.sizes) (bipolar_ones v) (wide v));
  members = λ e. (ascending-members midpoint (bipolar_ones v) e, ascending-all midpoint (bipolar_ones v) (own v law) e);
}

pub bipolar_edges-fixed : (v : Volume) → HaveOwnMidpoints v.kind v.sizes → (edges : List Edge) → AreBipolarEdges v edges → edges ≡ bipolar_edges v
bipolar_edges-fixed v law edges are =
    let have = bipolar_edges-are v law in
    fixed_by (Earlier midpoint) (λ e. Contains (bipolar_ones v) e) (keys_strict midpoint) edges (bipolar_edges v) are.ascends have.ascends are.members
    have.members
