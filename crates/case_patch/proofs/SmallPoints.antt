-- The corners and midpoints of a canonical cell have small coordinates, one for each axis.
use Rattle.std.specs.Prelude.{◌≡◌, ◌≤◌, ◌<◌, ◌*◌, ℕ, pos, Bool, true, ◌&&◌, ◌==◌, nat_le, List, map, length, All}
use Rattle.std.specs.List.{list_all}
use Rattle.std.proofs.Common.{refl, arith}
use Rattle.std.proofs.lemmas.Bool.Decides.{nat_tests}
use Rattle.std.proofs.lemmas.List.Elements.{All-map, All-weaker}
use Rattle.std.proofs.lemmas.List.Sums.{AllPass-from_list_all}
use Rattle.polynomials.specs.Small.{IsSmall, AreSmall}
use Rattle.iso_model.specs.declared.Kind.{Kind}
use Rattle.lists.specs.Orders.{numbers}
use Rattle.iso_model.specs.Cells.{HasDimension, corner_count, edge_count, corner_point, edge_midpoint}
use Rattle.cell_lattice.specs.Agreement.{agree}
use Rattle.iso_model.specs.Dimensions.{IsDimension, of_each_cell}
use Rattle.lists.proofs.Tests.{equal_of}
use Rattle.std.proofs.lemmas.Bool.{and_parts}

-- a point has d coordinates, each at most m
pub record IsPoint (d m : ℕ) (p : List ℕ) : Type 0 where
  pub wide : length p ≡ d
  pub small : All (λ x. x ≤ m) p

abbrev is_point : ℕ → ℕ → List ℕ → Bool
is_point d m p = (length p == d) && list_all (λ x. nat_le x m) p

point_from : (d m : ℕ) (p : List ℕ) → is_point d m p ≡ true → IsPoint d m p
point_from d m p e =
    let parts = and_parts (length p == d) (list_all (λ x. nat_le x m) p) e in
    record {
      wide = equal_of (length p) d parts.0;
      small = All-weaker (λ x. nat_le x m ≡ true) (λ x. x ≤ m) (λ x h. grind (arith, nat_tests)) p (AllPass-from_list_all (λ x. nat_le x m) p parts.1);
    }

pub corner_is_point : (kind : Kind) (d : ℕ) → IsDimension d → HasDimension kind d → (k : ℕ) → k < corner_count kind d → IsPoint d 2 (corner_point kind d k)
corner_is_point kind d is has k h = point_from d 2 (corner_point kind d k)
    (agree (corner_count kind d) (λ i. is_point d 2 (corner_point kind d i)) (λ _. true)
    (of_each_cell (λ c n. map (λ i. is_point n 2 (corner_point c n i)) (numbers (corner_count c n)) ≡ map (λ _. true) (numbers (corner_count c n)))
    refl refl refl refl refl refl refl kind d is has)
    k h)

pub midpoint_is_point : (kind : Kind) (d : ℕ) → IsDimension d → HasDimension kind d → (e : ℕ) → e < edge_count kind d → IsPoint d 4 (edge_midpoint kind d e)
midpoint_is_point kind d is has e h = point_from d 4 (edge_midpoint kind d e)
    (agree (edge_count kind d) (λ i. is_point d 4 (edge_midpoint kind d i)) (λ _. true)
    (of_each_cell (λ c n. map (λ i. is_point n 4 (edge_midpoint c n i)) (numbers (edge_count c n)) ≡ map (λ _. true) (numbers (edge_count c n))) refl
    refl refl refl refl refl refl kind d is has)
    e h)

-- ---- the same in whole numbers

pub small_point : (d m : ℕ) (p : List ℕ) → m ≤ 32 → IsPoint d m p → AreSmall 32 (map pos p)
small_point d m p h is = All-map (λ z. IsSmall 32 z) pos p (All-weaker (λ x. x ≤ m) (λ x. IsSmall 32 (pos x)) (λ x l. omega (arith, l, h)) p is.small)

pub small_double : (d m : ℕ) (p : List ℕ) → m ≤ 16 → IsPoint d m p → AreSmall 32 (map (λ x. pos (2 * x)) p)
small_double d m p h is =
    All-map (λ z. IsSmall 32 z) (λ x. pos (2 * x)) p (All-weaker (λ x. x ≤ m) (λ x. IsSmall 32 (pos (2 * x))) (λ x l. omega (arith, l, h)) p is.small)
