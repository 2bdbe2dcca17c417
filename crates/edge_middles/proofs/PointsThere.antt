-- The midpoints that are there are those of the bipolar edges of kept cells.
use Rattle.std.proofs.Common.{ap, arith, inl, refl, sym, subst, ◌∙◌}
use Rattle.std.proofs.lemmas.Nat.{div-add-mod', div-mul-add}
use Rattle.std.proofs.Math.Nat.{div-lt_iff_lt-mul, mod-lt, mul_comm}
use Rattle.std.specs.Prelude.{Bool, List, [], ◌∷◌, true, length, map, nat_le, suc, zero, ℕ}
use Rattle.std.specs.Prelude.{◌*◌, ◌+◌, ◌-◌, ◌/◌, ◌%◌, ◌<◌, ◌≤◌, ◌&&◌, ◌≡◌}
use Rattle.std.specs.List.{list_any}
use Rattle.iso_model.specs.declared.Kind.{Kind}
use Rattle.iso_model.specs.Cells.{HasDimension, edge_count}
use Rattle.iso_model.specs.Dimensions.{IsDimension}
use Rattle.iso_model.specs.Splits.{cell_count, cells_per_cube, cube_at, cube_count, edge, midpoint}
use Rattle.iso_model.specs.Values.{Volume, is_kept}
use Rattle.iso_model.specs.Bipolar.{is_bipolar}
use Rattle.lists.specs.Members.{In}
use Rattle.lists.specs.Orders.{numbers}
use Rattle.lists.proofs.MemberLaws.{In-filter, In-flat_map, In-map, In-numbers, any_from, from_any, from_filter, from_In-flat_map, from_In-map, from_In-numbers}
use Rattle.lists.proofs.Tests.{and_left, and_right, next_below}
use Rattle.edge_middles.specs.Middles.{edge_at, is_middle}
use Rattle.edge_middles.specs.HeldMiddles.{IsHeldMiddle, cell_middles, cells_in, holds}
use Rattle.edge_middles.specs.GridMiddles.{is_there, kept_cubes, middles_there, quarter_points}
use Rattle.edge_middles.proofs.GridMidpoints.{own_middles, rank_below}
use Rattle.edge_middles.proofs.HeldPoints.{has_held, high_side}

-- ---- a point that a cube of the grid holds is one of the grid's

-- where a cube stands along an axis, and in what number of rows
pub along_axis : (span count cube : ℕ) → cube < span * count → (cube % span < span) × (cube / span < count)
along_axis zero count cube few = absurd (let none : zero * count ≡ 0 = omega arith in omega (arith, few, none))
along_axis (suc span) count cube few =
    let turned : cube < count * suc span = subst (λ n. cube < n) (mul_comm (suc span) count) few in
    (mod-lt cube (omega arith), (div-lt_iff_lt-mul (omega arith)).1 turned)

pub in_points : (sizes : List ℕ) (cube : ℕ) (m : List ℕ) → cube < cube_count sizes → length m ≡ length sizes → holds (cube_at sizes cube) m ≡ true
    → In m (quarter_points sizes)
in_points [] cube [] few long held = inl refl
in_points [] cube (k ∷ m) few long held = absurd (omega (arith, long))
in_points (n ∷ sizes) cube [] few long held = absurd (omega (arith, long))
in_points (n ∷ sizes) cube (k ∷ m) few long held =
    let split = along_axis (n - 1) (cube_count sizes) cube few in
    let c : ℕ = cube % (n - 1) in
    let rest = in_points sizes (cube / (n - 1)) m split.1 (omega (arith, long))
    (and_right (nat_le (4 * c) k && nat_le k (4 * c + 4)) (holds (cube_at sizes (cube / (n - 1))) m) held) in
    let high : k ≤ 4 * c + 4 = high_side c k (holds (cube_at sizes (cube / (n - 1))) m) held in
    let below : k < 4 * n - 3 = omega (arith, high, split.0) in
    In-flat_map (λ r. map (λ j. j ∷ r) (numbers (4 * n - 3))) (quarter_points sizes) m (k ∷ m) rest
    (In-map (λ j. j ∷ m) (numbers (4 * n - 3)) k (In-numbers (4 * n - 3) k below))

-- ---- the kept cubes

pub from_kept : (v : Volume) (x : List ℕ) → In x (kept_cubes v)
    → (cube : ℕ) × (cube < cube_count v.sizes) × (x ≡ cube_at v.sizes cube) × (v.kept x ≡ true)
unfolding kept_cubes
from_kept v x i =
    let there = from_filter v.kept (map (cube_at v.sizes) (numbers (cube_count v.sizes))) x i in
    let from = from_In-map (cube_at v.sizes) (numbers (cube_count v.sizes)) x there.0 in
    (from.0, from_In-numbers (cube_count v.sizes) from.0 from.1, from.2, there.1)

pub to_kept : (v : Volume) (cube : ℕ) → cube < cube_count v.sizes → v.kept (cube_at v.sizes cube) ≡ true → In (cube_at v.sizes cube) (kept_cubes v)
unfolding kept_cubes
to_kept v cube few kept =
    In-filter v.kept (map (cube_at v.sizes) (numbers (cube_count v.sizes))) (cube_at v.sizes cube)
    (In-map (cube_at v.sizes) (numbers (cube_count v.sizes)) cube (In-numbers (cube_count v.sizes) cube few)) kept

-- ---- what it is for an edge to be there

-- a kept cube holds the midpoint, which can be one, and its edge is bipolar
pub record StandsThere (v : Volume) (m : List ℕ) : Type 0 where
  pub cube : ℕ
  pub inside : cube < cube_count v.sizes
  pub kept : v.kept (cube_at v.sizes cube) ≡ true
  pub held : holds (cube_at v.sizes cube) m ≡ true
  pub middle : is_middle v.kind m ≡ true
  pub bipolar : is_bipolar v (edge_at m) ≡ true

pub stands : (v : Volume) (m : List ℕ) → is_there v m ≡ true → StandsThere v m
stands v m t =
    let can : Bool = is_middle v.kind m in
    let some : Bool = list_any (λ x. holds x m) (kept_cubes v) in
    let first : (can && some) ≡ true = and_left (can && some) (is_bipolar v (edge_at m)) t in
    let x = from_any (λ x. holds x m) (kept_cubes v) (and_right can some first) in
    let from = from_kept v x.0 x.1 in
    record {
      cube = from.0;
      inside = from.1;
      kept = subst (λ y. v.kept y ≡ true) from.2 from.3;
      held = subst (λ y. holds y m ≡ true) from.2 x.2;
      middle = and_left can some first;
      bipolar = and_right (can && some) (is_bipolar v (edge_at m)) t;
    }

pub stands_from : (v : Volume) (m : List ℕ) → StandsThere v m → is_there v m ≡ true
stands_from v m s =
    let some : list_any (λ x. holds x m) (kept_cubes v) ≡ true =
    any_from (λ x. holds x m) (kept_cubes v) (cube_at v.sizes s.cube) (to_kept v s.cube s.inside s.kept) s.held in
    λ i. s.middle i && some i && s.bipolar i

-- what is there is a point of the grid
pub member_there : (v : Volume) (m : List ℕ) → length m ≡ length v.sizes → is_there v m ≡ true → In m (middles_there v)
unfolding middles_there
member_there v m long t =
    let s = stands v m t in
    In-filter (is_there v) (quarter_points v.sizes) m (in_points v.sizes s.cube m s.inside long s.held) t

-- ---- from a midpoint to an edge of a kept cell

-- a kept cell has the edge at a midpoint, which is the midpoint of that edge
pub record CellThere (v : Volume) (m : List ℕ) : Type 0 where
  pub cell : ℕ
  pub number : ℕ
  pub inside : cell < cell_count v.kind v.sizes
  pub kept : is_kept v cell ≡ true
  pub few : number < edge_count v.kind (length v.sizes)
  pub same : edge_at m ≡ edge v.kind v.sizes cell number
  pub own : midpoint (edge_at m) ≡ m

pub cell_inside : (cubes per cube rank : ℕ) → cube < cubes → rank < per → cube * per + rank < cubes * per
cell_inside cubes per cube rank h k =
    omega (arith, next_below rank per cube cubes k h, mul_comm per cube, mul_comm per cubes)

pub has_cell : (v : Volume) → HasDimension v.kind (length v.sizes) → IsDimension (length v.sizes) → (m : List ℕ) → length m ≡ length v.sizes
    → StandsThere v m → CellThere v m
has_cell v fits dim m long s =
    let d : ℕ = length v.sizes in
    let per : ℕ = cells_per_cube v.kind d in
    let count : ℕ = edge_count v.kind d in
    let r = from_In-flat_map (cell_middles v.kind v.sizes) (cells_in v.kind v.sizes s.cube) m
    ((has_held v.kind v.sizes fits dim s.cube m).1 (long, s.held, s.middle)) in
    let c = from_In-map (λ rank. s.cube * per + rank) (numbers per) r.0 r.1 in
    let e = from_In-map (λ n. midpoint (edge v.kind v.sizes r.0 n)) (numbers count) m r.2 in
    let low : c.0 < per = from_In-numbers per c.0 c.1 in
    let few : e.0 < count = from_In-numbers count e.0 e.1 in
    let within : r.0 < cell_count v.kind v.sizes =
    subst (λ n. n < cell_count v.kind v.sizes) (sym c.2) (cell_inside (cube_count v.sizes) per s.cube c.0 s.inside low) in
    let cube : r.0 / per ≡ s.cube = ap (λ n. n / per) c.2 ∙ div-mul-add s.cube per c.0 low in
    let equal : edge_at m ≡ edge v.kind v.sizes r.0 e.0 = ap edge_at e.2 ∙ own_middles v.kind v.sizes fits dim r.0 e.0 within few in
    record {
      cell = r.0;
      number = e.0;
      inside = within;
      kept = subst (λ n. v.kept (cube_at v.sizes n) ≡ true) (sym cube) s.kept;
      few = few;
      same = equal;
      own = ap midpoint equal ∙ sym e.2;
    }

-- ---- and from an edge of a kept cell to its midpoint

pub cube_inside : (cubes per cell : ℕ) → cell < cubes * per → cell / per < cubes
cube_inside cubes zero cell h = absurd (let none : cubes * zero ≡ 0 = omega arith in omega (arith, h, none))
cube_inside cubes (suc per) cell h = (div-lt_iff_lt-mul (omega arith)).1 h

-- a cell is one of its cube
pub cell_of_cube : (kind : Kind) (sizes : List ℕ) (cell : ℕ) → cell < cell_count kind sizes
    → In cell (cells_in kind sizes (cell / cells_per_cube kind (length sizes)))
cell_of_cube kind sizes cell inside =
    let per : ℕ = cells_per_cube kind (length sizes) in
    let cube : ℕ = cell / per in
    let rank : cell % per < per = rank_below (cube_count sizes) per cell inside in
    let whole : cell ≡ cube * per + cell % per = sym (div-add-mod' cell per) in
    subst (λ n. In n (cells_in kind sizes cube)) (sym whole) (In-map (λ r. cube * per + r) (numbers per) (cell % per) (In-numbers per (cell % per) rank))

pub held_by_cube : (kind : Kind) (sizes : List ℕ) → HasDimension kind (length sizes) → IsDimension (length sizes) → (cell e : ℕ)
    → cell < cell_count kind sizes → e < edge_count kind (length sizes)
    → IsHeldMiddle kind sizes (cell / cells_per_cube kind (length sizes)) (midpoint (edge kind sizes cell e))
held_by_cube kind sizes fits dim cell e inside few =
    let d : ℕ = length sizes in
    let per : ℕ = cells_per_cube kind d in
    let cube : ℕ = cell / per in
    let count : ℕ = edge_count kind d in
    let m : List ℕ = midpoint (edge kind sizes cell e) in
    let there : In cell (cells_in kind sizes cube) = cell_of_cube kind sizes cell inside in
    (has_held kind sizes fits dim cube m).0
    (In-flat_map (cell_middles kind sizes) (cells_in kind sizes cube) cell m there
    (In-map (λ n. midpoint (edge kind sizes cell n)) (numbers count) e (In-numbers count e few)))

pub stands_at : (v : Volume) → HasDimension v.kind (length v.sizes) → IsDimension (length v.sizes) → (cell e : ℕ) → cell < cell_count v.kind v.sizes
    → is_kept v cell ≡ true → e < edge_count v.kind (length v.sizes) → is_bipolar v (edge v.kind v.sizes cell e) ≡ true
    → StandsThere v (midpoint (edge v.kind v.sizes cell e))
stands_at v fits dim cell e inside kept few bipolar =
    let per : ℕ = cells_per_cube v.kind (length v.sizes) in
    let h = held_by_cube v.kind v.sizes fits dim cell e inside few in
    record {
      cube = cell / per;
      inside = cube_inside (cube_count v.sizes) per cell inside;
      kept = kept;
      held = h.1;
      middle = h.2;
      bipolar = ap (is_bipolar v) (own_middles v.kind v.sizes fits dim cell e inside few) ∙ bipolar;
    }
