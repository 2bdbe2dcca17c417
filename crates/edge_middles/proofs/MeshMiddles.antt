-- What a mesh is made of, by the midpoints of its edges: the edges of each slice, the vertices, and the simplices with counted edges.
use Rattle.lists.proofs.Ascending.{Ascends-filter, Ascends-range}
use Rattle.std.proofs.Common.{ap, arith, refl, sym, subst, ◌∙◌}
use Rattle.std.proofs.lemmas.Bool.{and_parts}
use Rattle.std.proofs.lemmas.Grind.{flat_map-append}
use Rattle.std.proofs.lemmas.Nat.{div-mul-add}
use Rattle.std.proofs.Math.Nat.{mul-le-mul_left, mul_comm}
use Rattle.std.specs.List.{list_all, list_any}
use Rattle.std.specs.Prelude.{Bool, Contains, List, [], ◌∷◌, ◌++◌, false, true, filter, flat_map, length, map, nat_le, nat_lt, not, ℕ}
use Rattle.std.specs.Prelude.{◌*◌, ◌+◌, ◌/◌, ◌<◌, ◌≤◌, ◌&&◌, ◌||◌, ◌==◌, ◌≡◌, if◌then◌else◌}
use Rattle.cell_lattice.specs.CellLemmas.{ordered_ends}
use Rattle.iso_model.specs.Acceptance.{is_sound_tuple}
use Rattle.iso_model.specs.Bipolar.{bipolar_edges, height, is_bipolar, is_bipolar_in, place_in}
use Rattle.iso_model.specs.Cells.{HasDimension, edge_count}
use Rattle.iso_model.specs.Crossing.{vertex_of}
use Rattle.iso_model.specs.Dimensions.{IsDimension}
use Rattle.iso_model.specs.Placed.{cell_simplices, placed_mesh, placed_tuple}
use Rattle.iso_model.specs.Splits.{cell_count, cells_per_cube, cube_at, cube_count, edge, is_odd_cell, midpoint}
use Rattle.iso_model.specs.Tables.{IsTuple, Table, entry_of}
use Rattle.iso_model.specs.Values.{Volume, cells, is_kept, label_of}
use Rattle.iso_model.proofs.BipolarLaws.{Contains-flat_map}
use Rattle.iso_model.proofs.FaceLaws.{cells_below}
use Rattle.iso_model.proofs.SignLaws.{bipolar_in_label}
use Rattle.lists.specs.Members.{Ascends, AscendsBy, In, IsStrict}
use Rattle.lists.specs.Orders.{exchange_last, has, is_distinct, numbers}
use Rattle.lists.proofs.Contained.{Contains-head, Contains-tail, Contains-filter, Contains-filtered, Contains-joined, Contains-passes}
use Rattle.lists.proofs.Contained.{below_contained, contained_below, each-from_All, from_Contains-map}
use Rattle.lists.proofs.MemberLaws.{Contains_from, In_from, all_In, map-map, map_same}
use Rattle.lists.proofs.Orderings.{ascends_same}
use Rattle.edge_middles.specs.Middles.{edge_at}
use Rattle.edge_middles.specs.GridMiddles.{count_before, middles_there}
use Rattle.edge_middles.specs.HeldMiddles.{cells_in}
use Rattle.edge_middles.specs.MeshMiddles.{AreBetweenHeights, CountsCellEdges, GoCubeByCube, HasBipolarEntry, HasCountedSimplices, HasSimplicesByCubes}
use Rattle.edge_middles.specs.MeshMiddles.{HasVerticesByMiddles, counted_simplices, kept_numbers, middle_height}
use Rattle.edge_middles.proofs.GridMidpoints.{own_middles}
use Rattle.edge_middles.proofs.ListedEdges.{by_middles, contains_cell, kept_cell, own_there}
use Rattle.edge_middles.proofs.OrderedPoints.{flat_map_ascends, map_ascends}
use Rattle.edge_middles.proofs.PlacesOfEdges.{has_place}
use Rattle.edge_middles.proofs.PointsThere.{cell_inside, cell_of_cube, cube_inside, held_by_cube, stands_at, stands_from}

-- ---- slices

-- what passes of a list that is mapped, where another test says the same of the members
filter_mapped : {X Y : Type 0} (p : Y → Bool) (q : X → Bool) (f : X → Y) (xs : List X) → ((x : X) → Contains xs x → p (f x) ≡ q x)
    → filter p (map f xs) ≡ map f (filter q xs)
filter_mapped p q f [] same = refl
filter_mapped {X} {Y} p q f (x ∷ xs) same =
    let rest = filter_mapped p q f xs (λ y c. same y (Contains-tail y x xs c)) in
    ap (λ t. if t then f x ∷ filter p (map f xs) else filter p (map f xs)) (same x (Contains-head x xs)) ∙ by_case (q x) rest
  where
    by_case : (t : Bool) → filter p (map f xs) ≡ map f (filter q xs)
        → (if t then f x ∷ filter p (map f xs) else filter p (map f xs)) ≡ map f (if t then x ∷ filter q xs else filter q xs)
    by_case true rest = ap (λ ys. f x ∷ ys) rest
    by_case false rest = rest

pub between_heights : (v : Volume) → HasDimension v.kind (length v.sizes) → IsDimension (length v.sizes) → AreBetweenHeights v
between_heights v fits dim low high =
    ap (filter (λ e. nat_le low (height v e) && nat_lt (height v e) high)) (by_middles v fits dim)
    ∙ filter_mapped (λ e. nat_le low (height v e) && nat_lt (height v e) high) (λ m. nat_le low (middle_height v m) && nat_lt (middle_height v m) high)
    edge_at (middles_there v)
    (λ m c. ap (λ n. nat_le low (middle_height v n) && nat_lt (middle_height v n) high) (own_there v fits dim m c))

-- ---- vertices

pub vertices_by_middles : (v : Volume) (t : Table) → HasDimension v.kind (length v.sizes) → IsDimension (length v.sizes) → HasVerticesByMiddles v t
unfolding placed_mesh
vertices_by_middles v t fits dim = ap (map (vertex_of v)) (by_middles v fits dim) ∙ map-map edge_at (vertex_of v) (middles_there v)

-- ---- the edges of a kept cell

pub counts_cell_edges : (v : Volume) → HasDimension v.kind (length v.sizes) → IsDimension (length v.sizes) → CountsCellEdges v
counts_cell_edges v fits dim cell e c few bipolar =
    let inside = cells_below v cell c in
    let m : List ℕ = midpoint (edge v.kind v.sizes cell e) in
    let there = stands_from v m (stands_at v fits dim cell e inside (kept_cell v cell c) few bipolar) in
    let own : edge_at m ≡ edge v.kind v.sizes cell e = own_middles v.kind v.sizes fits dim cell e inside few in
    (there, ap (place_in (bipolar_edges v)) (sym own) ∙ has_place v fits dim m (held_by_cube v.kind v.sizes fits dim cell e inside few).0 there)

-- an edge of a cell is bipolar where it is in the cell's label
pub bipolar_by_label : (v : Volume) → HasDimension v.kind (length v.sizes) → IsDimension (length v.sizes) → (cell e : ℕ)
    → e < edge_count v.kind (length v.sizes) → is_bipolar v (edge v.kind v.sizes cell e) ≡ is_bipolar_in v.kind (length v.sizes) (label_of v cell) e
bipolar_by_label v fits dim cell e few =
    let ends = ordered_ends v.kind (length v.sizes) dim fits e few in bipolar_in_label v cell e (omega (arith, ends.0, ends.1)) ends.1

-- the edges of the tuples of an entry
pub entry_edges : (v : Volume) (t : Table) (cell : ℕ) → HasBipolarEntry v t cell → (w : List ℕ) → In w (entry_of t (label_of v cell)) → (e : ℕ) → In e w
    → (e < edge_count v.kind (length v.sizes)) × (is_bipolar_in v.kind (length v.sizes) (label_of v cell) e ≡ true)
entry_edges v t cell h w i e j =
    let d : ℕ = length v.sizes in
    let label : ℕ = label_of v cell in
    let entry : List (List ℕ) = entry_of t label in
    let tuple : IsTuple v.kind d w = each-from_All (IsTuple v.kind d) entry h.0.1 w (Contains_from entry w i) in
    let sound : list_all (is_sound_tuple v.kind d label) entry ≡ true =
    (and_parts (list_all (is_sound_tuple v.kind d label) entry)
    (list_all (λ k. not (is_bipolar_in v.kind d label k) || list_any (λ u. has u k) entry) (numbers (edge_count v.kind d))) h.1).0 in
    let bipolar : list_all (is_bipolar_in v.kind d label) w ≡ true =
    (and_parts (length w == d && is_distinct w) (list_all (is_bipolar_in v.kind d label) w) (all_In (is_sound_tuple v.kind d label) entry sound w i)).1 in
    (each-from_All (λ k. k < edge_count v.kind d) w tuple.1 e (Contains_from w e j), all_In (is_bipolar_in v.kind d label) w bipolar e j)

pub has_counted : (v : Volume) (t : Table) → HasDimension v.kind (length v.sizes) → IsDimension (length v.sizes) → HasCountedSimplices v t
has_counted v t fits dim cell c h =
    let odd : Bool = is_odd_cell v.kind v.sizes cell in
    let place : ℕ → ℕ = λ e. place_in (bipolar_edges v) (edge v.kind v.sizes cell e) in
    let count : ℕ → ℕ = λ e. count_before v (midpoint (edge v.kind v.sizes cell e)) in
    map_same (placed_tuple odd place) (placed_tuple odd count) (entry_of t (label_of v cell)) (λ w i.
    ap (λ (u : List ℕ). if odd then exchange_last u else u) (map_same place count w (λ e j.
    let of = entry_edges v t cell h w i e j in
    (counts_cell_edges v fits dim cell e c of.0 (bipolar_by_label v fits dim cell e of.0 ∙ of.1)).1)))

-- ---- cells, cube by cube

abbrev pub Less : ℕ → ℕ → Type 0
Less a b = a < b

less_strict : IsStrict Less
less_strict = record { irreflexive = λ x h. omega (arith, h); transitive = λ x y z h k. omega (arith, h, k) }

pub by_less : (xs : List ℕ) → Ascends xs → AscendsBy Less xs
by_less [] a = tt
by_less (x ∷ xs) a = (λ y c. a.0 y (In_from xs y c), by_less xs a.1)

cubes_apart : (per b c r s : ℕ) → b < c → r < per → b * per + r < c * per + s
cubes_apart per b c r s h k =
    let whole : per * (b + 1) ≤ per * c = mul-le-mul_left per (omega (arith, h)) in
    omega (arith, whole, k, mul_comm per b, mul_comm per c)

module _ (v : Volume) where
  in_cube : (cube : ℕ) → AscendsBy Less (cells_in v.kind v.sizes cube)
  in_cube cube =
      map_ascends Less Less (λ rank. cube * cells_per_cube v.kind (length v.sizes) + rank) (numbers (cells_per_cube v.kind (length v.sizes)))
      (λ x y c d h. omega (arith, h)) (by_less (numbers (cells_per_cube v.kind (length v.sizes))) (Ascends-range 0 (cells_per_cube v.kind (length v.sizes))))

  cube_by_cube_ascends : AscendsBy Less (flat_map (cells_in v.kind v.sizes) (kept_numbers v))
  cube_by_cube_ascends =
      flat_map_ascends Less Less (cells_in v.kind v.sizes) (kept_numbers v)
      (by_less (kept_numbers v)
      (Ascends-filter (λ cube. v.kept (cube_at v.sizes cube)) (numbers (cube_count v.sizes)) (Ascends-range 0 (cube_count v.sizes))))
      in_cube
      (λ b c x y g k h i j.
      let m : ℕ = cells_per_cube v.kind (length v.sizes) in
      let first = from_Contains-map (λ rank. b * m + rank) (numbers m) x i in
      let second = from_Contains-map (λ rank. c * m + rank) (numbers m) y j in
      let low : first.0 < m = below_contained m first.0 first.1 in
      omega (arith, cubes_apart m b c first.0 second.0 h low, first.2, second.2))

  from_cube : (cell : ℕ) → Contains (flat_map (cells_in v.kind v.sizes) (kept_numbers v)) cell → Contains (cells v) cell
  from_cube cell c =
      let m : ℕ = cells_per_cube v.kind (length v.sizes) in
      let from = Contains-flat_map (cells_in v.kind v.sizes) (kept_numbers v) cell c in
      let rank = from_Contains-map (λ r. from.0 * m + r) (numbers m) cell from.2 in
      let low : rank.0 < m = below_contained m rank.0 rank.1 in
      let few : from.0 < cube_count v.sizes = below_contained (cube_count v.sizes) from.0
      (Contains-filter (λ cube. v.kept (cube_at v.sizes cube)) (numbers (cube_count v.sizes)) from.0 from.1) in
      let kept : v.kept (cube_at v.sizes from.0) ≡ true =
      Contains-passes (λ cube. v.kept (cube_at v.sizes cube)) (numbers (cube_count v.sizes)) from.0 from.1 in
      let own : from.0 ≡ cell / m = sym (div-mul-add from.0 m rank.0 low) ∙ ap (λ n. n / m) rank.2 in
      contains_cell v cell (subst (λ n. n < cell_count v.kind v.sizes) rank.2 (cell_inside (cube_count v.sizes) m from.0 rank.0 few low))
      (subst (λ n. v.kept (cube_at v.sizes n) ≡ true) own kept)

  to_cube : (cell : ℕ) → Contains (cells v) cell → Contains (flat_map (cells_in v.kind v.sizes) (kept_numbers v)) cell
  to_cube cell c =
      let m : ℕ = cells_per_cube v.kind (length v.sizes) in
      let inside : cell < cell_count v.kind v.sizes = cells_below v cell c in
      let few : cell / m < cube_count v.sizes = cube_inside (cube_count v.sizes) m cell inside in
      let cube : Contains (kept_numbers v) (cell / m) =
      Contains-filtered (λ n. v.kept (cube_at v.sizes n)) (numbers (cube_count v.sizes)) (cell / m) (kept_cell v cell c)
      (contained_below (cube_count v.sizes) (cell / m) few) in
      Contains-joined (cells_in v.kind v.sizes) (kept_numbers v) (cell / m) cell cube
      (Contains_from (cells_in v.kind v.sizes (cell / m)) cell (cell_of_cube v.kind v.sizes cell inside))

  pub cube_by_cube : GoCubeByCube v
  unfolding cells
  cube_by_cube =
      ascends_same Less less_strict (cells v) (flat_map (cells_in v.kind v.sizes) (kept_numbers v))
      (by_less (cells v) (Ascends-filter (is_kept v) (numbers (cell_count v.kind v.sizes)) (Ascends-range 0 (cell_count v.kind v.sizes))))
      cube_by_cube_ascends (λ cell. (to_cube cell, from_cube cell))

-- ---- the simplices of a mesh

-- lists one after another in two steps
pub flat_map_twice : {X Y Z : Type 0} (f : Y → List Z) (g : X → List Y) (xs : List X) → flat_map f (flat_map g xs) ≡ flat_map (λ x. flat_map f (g x)) xs
flat_map_twice f g [] = refl
flat_map_twice f g (x ∷ xs) =
    flat_map-append f (g x) (flat_map g xs) ∙ ap (λ zs. flat_map f (g x) ++ zs) (flat_map_twice f g xs)

-- members that give the same, where those that do not pass give nothing
pub passed_over : {X Y : Type 0} (f g : X → List Y) (p : X → Bool) (xs : List X) → ((x : X) → Contains xs x → p x ≡ true → f x ≡ g x)
    → ((x : X) → Contains xs x → p x ≡ false → f x ≡ []) → flat_map f xs ≡ flat_map g (filter p xs)
passed_over f g p [] same none = refl
passed_over {X} {Y} f g p (x ∷ xs) same none =
    by_case (p x) refl (passed_over f g p xs (λ y c. same y (Contains-tail y x xs c)) (λ y c. none y (Contains-tail y x xs c)))
  where
    by_case : (t : Bool) → p x ≡ t → flat_map f xs ≡ flat_map g (filter p xs)
        → f x ++ flat_map f xs ≡ flat_map g (if t then x ∷ filter p xs else filter p xs)
    by_case true e rest = ap (λ ys. ys ++ flat_map f xs) (same x (Contains-head x xs) e) ∙ ap (λ ys. g x ++ ys) rest
    by_case false e rest = ap (λ ys. ys ++ flat_map f xs) (none x (Contains-head x xs) e) ∙ rest

all_same : {X Y : Type 0} (f g : X → List Y) (xs : List X) → ((x : X) → Contains xs x → f x ≡ g x) → flat_map f xs ≡ flat_map g xs
all_same f g [] same = refl
all_same f g (x ∷ xs) same =
    ap (λ ys. ys ++ flat_map f xs) (same x (Contains-head x xs)) ∙ ap (λ ys. g x ++ ys) (all_same f g xs (λ y c. same y (Contains-tail y x xs c)))

nothing : {X Y : Type 0} (xs : List X) → flat_map {X = X} {A = Y} (λ x. []) xs ≡ []
nothing [] = refl
nothing (x ∷ xs) = nothing xs

pub simplices_by_cubes : (v : Volume) (t : Table) → HasDimension v.kind (length v.sizes) → IsDimension (length v.sizes)
    → HasSimplicesByCubes v t
unfolding placed_mesh
simplices_by_cubes v t fits dim mixed entries plain =
    let f : ℕ → List (List ℕ) = cell_simplices v t (bipolar_edges v) in
    let g : ℕ → List ℕ = cells_in v.kind v.sizes in
    ap (flat_map f) (cube_by_cube v) ∙ flat_map_twice f g (kept_numbers v)
    ∙ passed_over (λ cube. flat_map f (g cube)) (λ cube. flat_map (counted_simplices v t) (g cube)) mixed (kept_numbers v)
    (λ cube c e. all_same f (counted_simplices v t) (g cube) (λ cell i.
    let there = from_cube v cell (Contains-joined g (kept_numbers v) cube cell c i) in
    has_counted v t fits dim cell there (entries cell there)))
    (λ cube c e. all_same f (λ cell. []) (g cube) (λ cell i.
    ap (map (placed_tuple (is_odd_cell v.kind v.sizes cell) (λ n. place_in (bipolar_edges v) (edge v.kind v.sizes cell n)))) (plain cube cell c e i))
    ∙ nothing (g cube))
