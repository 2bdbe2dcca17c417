-- The edges of a cell that are bipolar in its label are in the list of all bipolar edges, and each edge of that list can be crossed.
use Rattle.std.proofs.Common.{◌≡◌, ℕ, ◌+◌, ◌*◌, ◌<◌, ◌≤◌, Bool, true, false, List, [], ◌∷◌, length, cond, not, None, ℤ, sym, ap, ◌∙◌, subst}
use Rattle.std.proofs.Common.{arith, inl, inr}
use Rattle.std.specs.Prelude.{filter, Contains, All, slice_index, if◌then◌else◌}
use Rattle.std.specs.List.{position_or_len}
use Rattle.iso_model.specs.declared.Kind.{Kind}
use Rattle.lists.specs.Orders.{numbers}
use Rattle.iso_model.specs.Points.{comes_first}
use Rattle.iso_model.specs.Cells.{HasDimension, edge_ends, edge_count, corner_count}
use Rattle.iso_model.specs.Splits.{Edge, edge, corner, corner_offset, cell_count, cells_per_cube, cube_of, rank_of}
use Rattle.iso_model.specs.Bipolar.{differ, is_bipolar, is_bipolar_in, cell_edges, kept_edges, bipolar_edges, same_edge, place_in}
use Rattle.iso_model.specs.Values.{Grid, Volume, volume, cells, positive_at, label_of, HasValue}
use Rattle.iso_model.proofs.BipolarLaws.{kept_edge-has, bipolar_edges-are, length-corner}
use Rattle.iso_model.proofs.DimensionLaws.{dimension_cases}
use Rattle.iso_model.specs.Dimensions.{IsDimension}
use Rattle.split_laws.proofs.Coordinates.{coordinate, rank_below}
use Rattle.split_laws.proofs.Passed.{ends_are_corners}
use Rattle.split_laws.proofs.SplitTheorems.{own_midpoints, small_offsets}
use Rattle.edge_vertex.specs.EdgeEnds.{AreNear}
use Rattle.edge_vertex.proofs.Corners.{corner_value}
use Rattle.mesh_placing.specs.Placing.{IsCrossed}
use Rattle.lists.specs.Bits.{is_set}
use Rattle.lists.proofs.Contained.{All-from_each, Contains-mapped, Contains-filtered, Contains-joined, contained_below}
use Rattle.lists.specs.Members.{In}
use Rattle.lists.proofs.MemberLaws.{In_from, Contains_from, from_filter}
use Rattle.iso_model.proofs.SignLaws.{bipolar_in_label, edge_itself}
use Rattle.iso_model.proofs.CellCounts.{some_ranks}

-- ---- the place of a member

place_of : (e : Edge) (es : List Edge) → In e es → place_in es e < length es
place_of e [] i = absurd i
place_of e (d ∷ es) (inl s) = subst (λ (x : Edge). place_in (x ∷ es) e < length (d ∷ es)) s (rw (edge_itself e) (omega arith))
place_of e (d ∷ es) (inr i) = go (same_edge e d) (position_or_len (same_edge e) es) (place_of e es i)
  where
    go : (b : Bool) (m : ℕ) → m < length es → cond (not b) (1 + m) 0 < length (d ∷ es)
    go true m h = omega arith
    go false m h = omega (arith, h)

pub place_below : (es : List Edge) (e : Edge) → Contains es e → place_in es e < length es
place_below es e c = place_of e es (In_from es e c)

-- ---- members of lists that are made of others

from_filtered : {X : Type 0} (p : X → Bool) (xs : List X) (x : X) → Contains (filter p xs) x → Contains xs x × (p x ≡ true)
from_filtered p xs x c = let r = from_filter p xs x (In_from (filter p xs) x c) in (Contains_from xs x r.0, r.1)

-- an edge of a kept cell that is bipolar in the cell's label is in the list of all bipolar edges
pub bipolar_edge-listed : (v : Volume) → HasDimension v.kind (length v.sizes) → (cell e : ℕ) → Contains (cells v) cell
    → e < edge_count v.kind (length v.sizes) → is_bipolar_in v.kind (length v.sizes) (label_of v cell) e ≡ true
    → Contains (bipolar_edges v) (edge v.kind v.sizes cell e)
bipolar_edge-listed v has cell e kept he bipolar =
    let is : IsDimension (length v.sizes) = dimension_cases v.kind (length v.sizes) has in
    let ends = ends_are_corners v.kind (length v.sizes) is has e he in
    let so : is_bipolar v (edge v.kind v.sizes cell e) ≡ true = bipolar_in_label v cell e ends.0 ends.1 ∙ bipolar in
    let in_cell : Contains (cell_edges v cell) (edge v.kind v.sizes cell e) =
    Contains-mapped (edge v.kind v.sizes cell) (numbers (edge_count v.kind (length v.sizes))) e
    (contained_below (edge_count v.kind (length v.sizes)) e he) in
    ((bipolar_edges-are v (own_midpoints v.kind v.sizes is has)).members (edge v.kind v.sizes cell e)).1
    (Contains-filtered (is_bipolar v) (kept_edges v) (edge v.kind v.sizes cell e) so
    (Contains-joined (cell_edges v) (cells v) cell (edge v.kind v.sizes cell e) kept in_cell))

-- ---- what can be crossed

near : (x o p n m : ℕ) → o ≤ 2 → p ≤ 2 → n ≡ 2 * x + o → m ≡ 2 * x + p → (n ≤ m + 2) × (m ≤ n + 2)
near x o p n m ho hp hn hm = (omega (arith, ho, hn, hm), omega (arith, hp, hn, hm))

module _ (kind : Kind) (sizes : List ℕ) (has : HasDimension kind (length sizes)) where
  corners_near : (cell j k : ℕ) → j < corner_count kind (length sizes) → k < corner_count kind (length sizes)
      → AreNear (corner kind sizes cell j) (corner kind sizes cell k)
  corners_near cell j k hj hk i h =
      let d : ℕ = length sizes in
      let is : IsDimension d = dimension_cases kind d has in
      let rank : ℕ = rank_of kind sizes cell in
      let x : List ℕ = cube_of kind sizes cell in
      let inside : i < d = omega (arith, h, length-corner kind sizes cell j) in
      let below : rank < cells_per_cube kind d = rank_below kind sizes cell (some_ranks kind d is has) in
      near (slice_index x i) (slice_index (corner_offset kind d rank j) i) (slice_index (corner_offset kind d rank k) i)
      (slice_index (corner kind sizes cell j) i) (slice_index (corner kind sizes cell k) i)
      (small_offsets kind d is has rank j i below hj) (small_offsets kind d is has rank k i below hk)
      (coordinate d (λ i. 2 * slice_index x i + slice_index (corner_offset kind d rank j) i) i inside)
      (coordinate d (λ i. 2 * slice_index x i + slice_index (corner_offset kind d rank k) i) i inside)

  ends_valued : (cell e : ℕ) → cell < cell_count kind sizes → e < edge_count kind (length sizes)
      → HasValue sizes (edge kind sizes cell e).low × HasValue sizes (edge kind sizes cell e).high
      × AreNear (edge kind sizes cell e).low (edge kind sizes cell e).high
  ends_valued cell e hc he =
      let d : ℕ = length sizes in
      let is : IsDimension d = dimension_cases kind d has in
      let ends = ends_are_corners kind d is has e he in
      let j : ℕ = (edge_ends kind d e).0 in
      let k : ℕ = (edge_ends kind d e).1 in
      let some = some_ranks kind d is has in
      go (comes_first (corner kind sizes cell j) (corner kind sizes cell k)) (corner kind sizes cell j) (corner kind sizes cell k)
      (corner_value kind sizes cell j is has hc some ends.0) (corner_value kind sizes cell k is has hc some ends.1)
      (corners_near cell j k ends.0 ends.1) (corners_near cell k j ends.1 ends.0)
    where
      go : (b : Bool) (p q : List ℕ) → HasValue sizes p → HasValue sizes q → AreNear p q → AreNear q p
          → let e : Edge =
          (if b then record { low = p; high = q } else record { low = q; high = p }) in HasValue sizes e.low × HasValue sizes e.high
          × AreNear e.low e.high
      go true p q hp hq pq qp = (hp, hq, pq)
      go false p q hp hq pq qp = (hq, hp, qp)

-- each bipolar edge of a grid can be crossed
pub bipolar_edges-crossed : (kind : Kind) (g : Grid) (iso : ℤ) → HasDimension kind (length g.sizes)
    → All (IsCrossed g iso) (bipolar_edges (volume kind g iso None))
bipolar_edges-crossed kind g iso has =
    let v : Volume = volume kind g iso None in
    let is : IsDimension (length g.sizes) = dimension_cases kind (length g.sizes) has in
    All-from_each (IsCrossed g iso) (bipolar_edges v) (λ e c.
    let m = from_filtered (is_bipolar v) (kept_edges v) e (((bipolar_edges-are v (own_midpoints kind g.sizes is has)).members e).0 c) in
    let at = kept_edge-has v e m.0 in
    let valued = ends_valued kind g.sizes has at.0 at.2.0 at.1 at.2.1 in
    subst (IsCrossed g iso) at.2.2 (record {
      low = valued.0;
      high = valued.1;
      near = valued.2;
      bipolar = ap (is_bipolar v) at.2.2 ∙ m.1;
    }))
