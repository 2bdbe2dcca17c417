-- The lists of cells round edges, tested for each kind and each way of an edge.
use Rattle.std.proofs.Common.{◌≡◌, ℕ, suc, ◌+◌, ◌-◌, ◌*◌, ◌/◌, ◌%◌, ◌<◌, ◌≤◌, ◌==◌, Bool, true, false, not, ◌&&◌, ◌||◌, List, [], ◌∷◌, length, map, refl}
use Rattle.std.specs.Prelude.{nat_lt, nat_le, slice_index, slice_index_or, if◌then◌else◌}
use Rattle.std.specs.List.{list_all, list_any}
use Rattle.iso_model.specs.declared.Kind.{Kind}
use Rattle.iso_model.specs.declared.Kind.TheVariants.{Cube, Simplex, Pyramid}
use Rattle.lists.specs.Orders.{numbers, same_list}
use Rattle.iso_model.specs.Points.{point, plus, axes}
use Rattle.iso_model.specs.Cells.{edge_count, edge_in_facet, facet_count}
use Rattle.iso_model.specs.Splits.{cells_per_cube}
use Rattle.iso_model.specs.Neighbours.{facet_offsets}
use Rattle.split_checks.specs.AcrossTests.{next_across, next_at, move_across}
use Rattle.split_checks.specs.declared.rounds.Place.{Place}
use Rattle.split_checks.specs.declared.rounds.TheConstants.{CUBES, SIMPLICES, PYRAMIDS, CENTRES}
use Rattle.split_checks.specs.CellsRound.{number_of_way, sum_of, way_of, arc_of}

-- ---- the lists, as the code has them

abbrev told : List (record { now : List Place }) → List (List Place)
told table = map (λ (b : record { now : List Place }). b.now) table

abbrev pub cube_table : List (List Place)
cube_table = told CUBES

abbrev pub simplex_table : List (List Place)
simplex_table = told SIMPLICES

abbrev pub pyramid_table : List (List Place)
pyramid_table = told PYRAMIDS

abbrev pub centre_table : List (List Place)
centre_table = told CENTRES

abbrev pub pyramid_places : Bool → ℕ → List Place
pyramid_places between n = if between then slice_index_or pyramid_table n [] else slice_index_or centre_table n []

abbrev pub places_of : Kind → List ℕ → List Place
places_of Cube way = slice_index_or cube_table (number_of_way way) []
places_of Simplex way = slice_index_or simplex_table (number_of_way way) []
places_of Pyramid way = pyramid_places (slice_index way 0 % 2 == 0) (number_of_way way)

-- the ways of the edges of a kind
abbrev pub ways : Kind → List (List ℕ)
ways Cube = (2 ∷ 0 ∷ 0 ∷ []) ∷ (0 ∷ 2 ∷ 0 ∷ []) ∷ (0 ∷ 0 ∷ 2 ∷ []) ∷ []
ways Simplex =
    (2 ∷ 0 ∷ 0 ∷ []) ∷ (0 ∷ 2 ∷ 0 ∷ []) ∷ (2 ∷ 2 ∷ 0 ∷ []) ∷ (0 ∷ 0 ∷ 2 ∷ []) ∷ (2 ∷ 0 ∷ 2 ∷ []) ∷ (0 ∷ 2 ∷ 2 ∷ []) ∷ (2 ∷ 2 ∷ 2 ∷ []) ∷ []
ways Pyramid =
    (2 ∷ 0 ∷ 0 ∷ []) ∷ (0 ∷ 2 ∷ 0 ∷ []) ∷ (0 ∷ 0 ∷ 2 ∷ []) ∷ (1 ∷ 1 ∷ 1 ∷ []) ∷ (3 ∷ 1 ∷ 1 ∷ []) ∷ (1 ∷ 3 ∷ 1 ∷ []) ∷ (3 ∷ 3 ∷ 1 ∷ [])
    ∷ (1 ∷ 1 ∷ 3 ∷ []) ∷ (3 ∷ 1 ∷ 3 ∷ []) ∷ (1 ∷ 3 ∷ 3 ∷ []) ∷ (3 ∷ 3 ∷ 3 ∷ []) ∷ []

-- ---- the tests

abbrev pub same_place : Place → Place → Bool
same_place p q = (p.rank == q.rank) && same_list p.back q.back

-- the place of a cell that has an edge with this sum of ends
abbrev pub place_of : ℕ → List ℕ → Place
place_of rank sum = record { rank = rank; back = map (λ c. c / 4) sum }

-- each edge has one of the ways, and its cell stands in the list
abbrev pub is_listed : Kind → ℕ → List ℕ → Bool
is_listed kind rank sum = list_any (same_list (way_of sum)) (ways kind) && list_any (same_place (place_of rank sum)) (places_of kind (way_of sum))

abbrev pub all_listed : Kind → Bool
all_listed kind = list_all (λ r. list_all (λ n. is_listed kind r (sum_of kind r n)) (numbers (edge_count kind 3))) (numbers (cells_per_cube kind 3))

abbrev pub has_way : Kind → List ℕ → Place → ℕ → Bool
has_way kind way p n = same_list (sum_of kind p.rank n) (point 3 (λ i. slice_index way i + 4 * slice_index p.back i))

abbrev pub has_some : Kind → List ℕ → Place → Bool
has_some kind way p =
    nat_lt p.rank (cells_per_cube kind 3) && (length p.back == 3) && list_any (has_way kind way p) (numbers (edge_count kind 3))

-- across a facet that has the edge stands the cell at the other place
abbrev pub goes_over : Kind → List (List (ℕ × ℕ)) → Place → Place → ℕ → ℕ → Bool
goes_over kind next p q n f =
    edge_in_facet kind 3 f n && ((next_at next p.rank f).0 == q.rank)
    && same_list (map suc p.back) (plus q.back (move_across 3 (facet_offsets kind 3 p.rank f)))

abbrev pub is_next : Kind → List (List (ℕ × ℕ)) → List ℕ → Place → Place → Bool
is_next kind next way p q =
    list_any (λ n. has_way kind way p n && list_any (goes_over kind next p q n) (numbers (facet_count kind 3))) (numbers (edge_count kind 3))

abbrev pub in_turn : Kind → List (List (ℕ × ℕ)) → List ℕ → List Place → Bool
in_turn kind next way [] = true
in_turn kind next way (p ∷ []) = true
in_turn kind next way (p ∷ q ∷ rest) = is_next kind next way p q && in_turn kind next way (q ∷ rest)

abbrev pub none_twice : List Place → Bool
none_twice [] = true
none_twice (p ∷ rest) = not (list_any (same_place p) rest) && none_twice rest

-- the first place is next to the last one
abbrev pub last_to_first : Kind → List (List (ℕ × ℕ)) → List ℕ → List Place → Bool
last_to_first kind next way [] = false
last_to_first kind next way (p ∷ rest) = is_next kind next way (slice_index_or (p ∷ rest) (length (p ∷ rest) - 1) p) p

abbrev pub on_both_sides : List ℕ → List Place → ℕ → Bool
on_both_sides way places i =
    not (slice_index way i == 0) || (list_any (λ p. slice_index p.back i == 0) places && list_any (λ p. slice_index p.back i == 1) places)

-- of both truth values
abbrev pub of_both : (Bool → Bool) → Bool
of_both test = test true && test false

abbrev pub of_each_side : (Bool × Bool → Bool) → Bool
of_each_side test = of_both (λ a. of_both (λ b. test (a, b)))

-- at the sides of a grid
abbrev pub is_arc : Kind → List (List (ℕ × ℕ)) → List ℕ → List Place → Bool
is_arc kind next way arc = none_twice arc && in_turn kind next way arc

abbrev pub are_arcs : Kind → List (List (ℕ × ℕ)) → List ℕ → List Place → Bool
are_arcs kind next way places =
    of_each_side (λ a. of_each_side (λ b. of_each_side (λ c. is_arc kind next way (arc_of (a ∷ b ∷ c ∷ []) places))))

abbrev pub is_round : Kind → List (List (ℕ × ℕ)) → List ℕ → List Place → Bool
is_round kind next way places =
    (length way == 3) && list_all (λ c. nat_lt c 4) way && list_all (has_some kind way) places && nat_le 3 (length places) && last_to_first kind next way places
    && list_all (on_both_sides way places) (axes 3)
    && are_arcs kind next way places

abbrev pub all_round : Kind → Bool
all_round kind = list_all (λ way. is_round kind (next_across kind 3) way (places_of kind way)) (ways kind)

-- ---- passed

pub cubes_listed : all_listed Cube ≡ true
cubes_listed = refl

pub simplices_listed : all_listed Simplex ≡ true
simplices_listed = refl

pub pyramids_listed : all_listed Pyramid ≡ true
pyramids_listed = refl

pub cubes_round : all_round Cube ≡ true
cubes_round = refl

pub simplices_round : all_round Simplex ≡ true
simplices_round = refl

pub pyramids_round : all_round Pyramid ≡ true
pyramids_round = refl
