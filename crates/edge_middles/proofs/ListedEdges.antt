-- The bipolar edges of kept cells are those at the midpoints that are there, in their order.
use Rattle.std.proofs.Common.{ap, inl, inr, sym, subst, ◌∙◌}
use Rattle.std.specs.Prelude.{Contains, List, [], ◌∷◌, true, filter, length, map, ℕ, ◌*◌, ◌-◌, ◌<◌, ◌≡◌, suc}
use Rattle.iso_model.specs.Cells.{HasDimension, edge_count}
use Rattle.iso_model.specs.Dimensions.{IsDimension}
use Rattle.iso_model.specs.Neighbours.{HasEdge, HaveOwnMidpoints}
use Rattle.iso_model.specs.Points.{comes_first}
use Rattle.iso_model.specs.Splits.{Edge, cell_count, edge, midpoint}
use Rattle.iso_model.specs.declared.Kind.{Kind}
use Rattle.iso_model.specs.Values.{Volume, cells, is_kept}
use Rattle.iso_model.specs.Bipolar.{AreBipolarEdges, cell_edges, is_bipolar, kept_edges}
use Rattle.iso_model.proofs.BipolarLaws.{Contains-flat_map, bipolar_edges-fixed}
use Rattle.iso_model.proofs.FaceLaws.{cells_below}
use Rattle.iso_model.proofs.OrderLaws.{Earlier}
use Rattle.lists.specs.Members.{AscendsBy, In}
use Rattle.lists.specs.Orders.{numbers}
use Rattle.lists.proofs.Contained.{Contains-filter, Contains-filtered, Contains-joined, Contains-mapped, Contains-passes}
use Rattle.lists.proofs.Contained.{below_contained, contained_below, from_Contains-map}
use Rattle.lists.proofs.MemberLaws.{Contains_from, In_from, from_In-flat_map, from_In-map, from_filter}
use Rattle.lists.proofs.Orderings.{ascends_by_steps}
use Rattle.edge_middles.specs.Middles.{edge_at}
use Rattle.edge_middles.specs.GridMiddles.{AreByMiddles, is_there, middles_there, quarter_points}
use Rattle.edge_middles.proofs.GridMidpoints.{own_middles}
use Rattle.edge_middles.proofs.OrderedPoints.{ComesFirst, map_ascends, passing_ascend, points_ascend}
use Rattle.edge_middles.proofs.PointsThere.{has_cell, held_by_cube, member_there, stands, stands_at, stands_from}

-- ---- the midpoints that are there

pub there_ascend : (v : Volume) → AscendsBy ComesFirst (middles_there v)
unfolding middles_there
there_ascend v = passing_ascend (is_there v) (quarter_points v.sizes) (points_ascend v.sizes)

points_long : (sizes : List ℕ) (m : List ℕ) → In m (quarter_points sizes) → length m ≡ length sizes
points_long [] m (inl e) = ap length e
points_long [] m (inr i) = absurd i
points_long (n ∷ sizes) m i =
    let r = from_In-flat_map (λ rest. map (λ c. c ∷ rest) (numbers (4 * n - 3))) (quarter_points sizes) m i in
    let c = from_In-map (λ k. k ∷ r.0) (numbers (4 * n - 3)) m r.2 in
    ap length c.2 ∙ ap suc (points_long sizes r.0 r.1)

pub there_is : (v : Volume) (m : List ℕ) → In m (middles_there v) → (length m ≡ length v.sizes) × (is_there v m ≡ true)
unfolding middles_there
there_is v m i =
    let from = from_filter (is_there v) (quarter_points v.sizes) m i in
    (points_long v.sizes m from.0, from.1)

-- a midpoint that is there is that of its edge
pub own_there : (v : Volume) → HasDimension v.kind (length v.sizes) → IsDimension (length v.sizes) → (m : List ℕ) → Contains (middles_there v) m
    → midpoint (edge_at m) ≡ m
own_there v fits dim m c =
    let is = there_is v m (In_from (middles_there v) m c) in
    (has_cell v fits dim m is.0 (stands v m is.1)).own

-- ---- the list

pub kept_cell : (v : Volume) (cell : ℕ) → Contains (cells v) cell → is_kept v cell ≡ true
unfolding cells
kept_cell v cell c = Contains-passes (is_kept v) (numbers (cell_count v.kind v.sizes)) cell c

pub contains_cell : (v : Volume) (cell : ℕ) → cell < cell_count v.kind v.sizes → is_kept v cell ≡ true → Contains (cells v) cell
unfolding cells
contains_cell v cell few kept =
    Contains-filtered (is_kept v) (numbers (cell_count v.kind v.sizes)) cell kept (contained_below (cell_count v.kind v.sizes) cell few)

edge_from_middle : (v : Volume) → HasDimension v.kind (length v.sizes) → IsDimension (length v.sizes) → (e : Edge)
    → Contains (map edge_at (middles_there v)) e → Contains (filter (is_bipolar v) (kept_edges v)) e
edge_from_middle v fits dim e c =
    let from = from_Contains-map edge_at (middles_there v) e c in
    let is = there_is v from.0 (In_from (middles_there v) from.0 from.1) in
    let s = stands v from.0 is.1 in
    let there = has_cell v fits dim from.0 is.0 s in
    let count : ℕ = edge_count v.kind (length v.sizes) in
    let member : Contains (cell_edges v there.cell) (edge v.kind v.sizes there.cell there.number) =
    Contains-mapped (edge v.kind v.sizes there.cell) (numbers count) there.number (contained_below count there.number there.few) in
    let kept : Contains (kept_edges v) (edge v.kind v.sizes there.cell there.number) =
    Contains-joined (cell_edges v) (cells v) there.cell (edge v.kind v.sizes there.cell there.number)
    (contains_cell v there.cell there.inside there.kept) member in
    let same : edge v.kind v.sizes there.cell there.number ≡ e = sym there.same ∙ from.2 in
    Contains-filtered (is_bipolar v) (kept_edges v) e (ap (is_bipolar v) (sym from.2) ∙ s.bipolar) (subst (Contains (kept_edges v)) same kept)

middle_from_edge : (v : Volume) → HasDimension v.kind (length v.sizes) → IsDimension (length v.sizes) → (e : Edge)
    → Contains (filter (is_bipolar v) (kept_edges v)) e → Contains (map edge_at (middles_there v)) e
middle_from_edge v fits dim e c =
    let r = Contains-flat_map (cell_edges v) (cells v) e (Contains-filter (is_bipolar v) (kept_edges v) e c) in
    let count : ℕ = edge_count v.kind (length v.sizes) in
    let n = from_Contains-map (edge v.kind v.sizes r.0) (numbers count) e r.2 in
    let few : n.0 < count = below_contained count n.0 n.1 in
    let inside : r.0 < cell_count v.kind v.sizes = cells_below v r.0 r.1 in
    let bipolar : is_bipolar v (edge v.kind v.sizes r.0 n.0) ≡ true = ap (is_bipolar v) n.2 ∙ Contains-passes (is_bipolar v) (kept_edges v) e c in
    let m : List ℕ = midpoint (edge v.kind v.sizes r.0 n.0) in
    let there : is_there v m ≡ true = stands_from v m (stands_at v fits dim r.0 n.0 inside (kept_cell v r.0 r.1) few bipolar) in
    let long : length m ≡ length v.sizes = (held_by_cube v.kind v.sizes fits dim r.0 n.0 inside few).0 in
    let same : edge_at m ≡ e = own_middles v.kind v.sizes fits dim r.0 n.0 inside few ∙ n.2 in
    subst (Contains (map edge_at (middles_there v))) same
    (Contains-mapped edge_at (middles_there v) m (Contains_from (middles_there v) m (member_there v m long there)))

listed_are : (v : Volume) → HasDimension v.kind (length v.sizes) → IsDimension (length v.sizes) → AreBipolarEdges v (map edge_at (middles_there v))
listed_are v fits dim = record {
  ascends = ascends_by_steps (Earlier midpoint) (map edge_at (middles_there v))
      (map_ascends ComesFirst (Earlier midpoint) edge_at (middles_there v)
      (λ x y c d e. ap (λ p. comes_first p (midpoint (edge_at y))) (own_there v fits dim x c) ∙ ap (comes_first x) (own_there v fits dim y d) ∙ e)
      (there_ascend v));
  members = λ e. (edge_from_middle v fits dim e, middle_from_edge v fits dim e);
}

-- each edge of a grid is that at its midpoint, so different ones have different midpoints
own_midpoints : (kind : Kind) (sizes : List ℕ) → HasDimension kind (length sizes) → IsDimension (length sizes) → HaveOwnMidpoints kind sizes
own_midpoints kind sizes fits dim c d e f hc hd he hf same = sym (at_own c e hc he) ∙ ap edge_at same ∙ at_own d f hd hf
  where
    at_own : (cell : ℕ) (g : Edge) → cell < cell_count kind sizes → HasEdge kind sizes cell g → edge_at (midpoint g) ≡ g
    at_own cell g few has = subst (λ h. edge_at (midpoint h) ≡ h) has.2 (own_middles kind sizes fits dim cell has.0 few has.1)

pub by_middles : (v : Volume) → HasDimension v.kind (length v.sizes) → IsDimension (length v.sizes) → AreByMiddles v
by_middles v fits dim =
    sym (bipolar_edges-fixed v (own_midpoints v.kind v.sizes fits dim) (map edge_at (middles_there v)) (listed_are v fits dim))
