-- The way tests of each kind of three dimensions, passed.
use Rattle.std.specs.Prelude.{◌<◌}
use Rattle.std.proofs.Common.{◌≡◌, ℕ, true, refl, sym, subst}
use Rattle.std.specs.List.{list_all}
use Rattle.iso_model.specs.declared.Kind.{Kind}
use Rattle.iso_model.specs.declared.Kind.TheVariants.{Cube, Simplex, Pyramid}
use Rattle.lists.specs.Orders.{numbers}
use Rattle.iso_model.specs.Cells.{edge_count}
use Rattle.iso_model.specs.Splits.{cells_per_cube}
use Rattle.split_checks.specs.AcrossTests.{next_across}
use Rattle.split_checks.specs.RingTests.{at_edge}
use Rattle.split_checks.specs.WayTests.{all_ways, ways_of, finds_way}
use Rattle.lists.proofs.MemberLaws.{all_below}

pub cubes_way : all_ways Cube 3 (numbers 1) ≡ true
cubes_way = refl

pub tetrahedra_way : all_ways Simplex 3 (numbers 6) ≡ true
tetrahedra_way = refl

pub pyramids_way : all_ways Pyramid 3 (numbers 6) ≡ true
pyramids_way = refl

-- the tests, of each two cells at an edge
abbrev pub WaysPass : Kind → ℕ → Type 0
WaysPass kind d =
    (r n q m : ℕ) → r < cells_per_cube kind d → n < edge_count kind d → q < cells_per_cube kind d → m < edge_count kind d
    → finds_way kind d (next_across kind d) (at_edge r n) (at_edge q m) ≡ true

pass_from : (kind : Kind) (d : ℕ) → list_all (ways_of kind d (next_across kind d)) (numbers (cells_per_cube kind d)) ≡ true → WaysPass kind d
pass_from kind d passed r n q m hr hn hq hm =
    all_below (edge_count kind d) (λ j. finds_way kind d (next_across kind d) (at_edge r n) (at_edge q j))
    (all_below (cells_per_cube kind d) (λ p. list_all (λ j. finds_way kind d (next_across kind d) (at_edge r n) (at_edge p j)) (numbers (edge_count kind d)))
    (all_below (edge_count kind d) (λ i. list_all
    (λ p. list_all (λ j. finds_way kind d (next_across kind d) (at_edge r i) (at_edge p j)) (numbers (edge_count kind d)))
    (numbers (cells_per_cube kind d)))
    (all_below (cells_per_cube kind d) (ways_of kind d (next_across kind d)) passed r hr) n hn) q hq) m hm

-- each kind passes them in three dimensions
pub ways_pass : (kind : Kind) (d : ℕ) → d ≡ 3 → WaysPass kind d
ways_pass kind d three = subst (WaysPass kind) (sym three) (by_kind kind)
  where
    by_kind : (k : Kind) → WaysPass k 3
    by_kind Cube = pass_from Cube 3 cubes_way
    by_kind Simplex = pass_from Simplex 3 tetrahedra_way
    by_kind Pyramid = pass_from Pyramid 3 pyramids_way
