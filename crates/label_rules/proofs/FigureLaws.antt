-- What is held of the canonical cell, and how large its points are.
use Rattle.std.specs.Prelude.{◌≡◌, ℕ, suc, ◌<◌, ◌≤◌, Bool, true, ◌&&◌, ◌==◌, nat_le, ℤ, pos, List, [], ◌∷◌, map, length, All}
use Rattle.std.specs.List.{list_all}
use Rattle.std.proofs.Common.{refl, sym, ◌∙◌, subst, arith, get_or, take}
use Rattle.std.proofs.lemmas.Bool.{and_parts, eqb-true, leb-true}
use Rattle.std.proofs.lemmas.List.{get_or-take, get_or_default, length-take}
use Rattle.std.proofs.lemmas.List.Elements.{All-nil, All-cons, All-map}
use Rattle.polynomials.specs.Small.{AreSmall}
use Rattle.polynomials.proofs.SmallLaws.{AreSmall-cons}
use Rattle.iso_model.specs.declared.Kind.{Kind}
use Rattle.lists.specs.Orders.{numbers}
use Rattle.iso_model.specs.Cells.{HasDimension, corner_count, edge_count, corner_point, edge_ends, edge_midpoint}
use Rattle.iso_model.specs.Tables.{IsTuple}
use Rattle.iso_model.proofs.DimensionLaws.{dimension_cases, is_small_cell}
use Rattle.cell_lattice.specs.Agreement.{agree}
use Rattle.iso_model.specs.Dimensions.{of_each_cell}
use Rattle.cell_lattice.specs.CellLemmas.{ordered_ends}
use Rattle.label_rules.specs.Figures.{AreFigures}

-- a point of D coordinates, each at most 4
pub record IsSmallPoint (d : ℕ) (p : List ℕ) : Type 0 where
  pub wide : length p ≡ d
  pub small : All (λ x. x ≤ 4) p

abbrev is_small_point : ℕ → List ℕ → Bool
is_small_point d p = (length p == d) && list_all (λ x. nat_le x 4) p

all_small : (p : List ℕ) → list_all (λ x. nat_le x 4) p ≡ true → All (λ x. x ≤ 4) p
all_small [] h = All-nil (λ x. x ≤ 4)
all_small (x ∷ p) h = let t = and_parts (nat_le x 4) (list_all (λ y. nat_le y 4) p) h in All-cons (λ y. y ≤ 4) x p (leb-true x 4 t.0) (all_small p t.1)

from_test : (d : ℕ) (p : List ℕ) → is_small_point d p ≡ true → IsSmallPoint d p
from_test d p h = let t = and_parts (length p == d) (list_all (λ y. nat_le y 4) p) h in record { wide = eqb-true (length p) d t.0; small = all_small p t.1 }

pub midpoint_small : (kind : Kind) (d : ℕ) → HasDimension kind d → (e : ℕ) → e < edge_count kind d → IsSmallPoint d (edge_midpoint kind d e)
midpoint_small kind d has e below =
    from_test d (edge_midpoint kind d e)
    (agree (edge_count kind d) (λ k. is_small_point d (edge_midpoint kind d k)) (λ _. true)
    (of_each_cell (λ q n. map (λ k. is_small_point n (edge_midpoint q n k)) (numbers (edge_count q n)) ≡ map (λ _. true) (numbers (edge_count q n)))
    refl refl refl refl refl refl refl kind d (dimension_cases kind d has) has)
    e below)

pub corner_small : (kind : Kind) (d : ℕ) → HasDimension kind d → (k : ℕ) → k < corner_count kind d → IsSmallPoint d (corner_point kind d k)
corner_small kind d has k below =
    from_test d (corner_point kind d k)
    (agree (corner_count kind d) (λ j. is_small_point d (corner_point kind d j)) (λ _. true)
    (of_each_cell
    (λ q n. map (λ j. is_small_point n (corner_point q n j)) (numbers (corner_count q n)) ≡ map (λ _. true) (numbers (corner_count q n))) refl
    refl refl refl refl refl refl kind d (dimension_cases kind d has) has)
    k below)

pub small_ints : (n : ℕ) (p : List ℕ) → 4 ≤ n → All (λ x. x ≤ 4) p → AreSmall n (map pos p)
small_ints n [] h all = λ k d less. absurd (omega arith)
small_ints n (x ∷ p) h all =
    let first : x ≤ 4 = all 0 x (omega arith) in
    AreSmall-cons n (pos x) (map pos p) (omega (arith, first, h)) (small_ints n p h (λ k d less. all (suc k) d (omega arith)))

pub ends_inside : (kind : Kind) (d : ℕ) → HasDimension kind d → (e : ℕ) → e < edge_count kind d
    → ((edge_ends kind d e).0 < corner_count kind d) × ((edge_ends kind d e).1 < corner_count kind d)
ends_inside kind d has e below = let o = ordered_ends kind d (dimension_cases kind d has) has e below in (omega (arith, o.0, o.1), o.1)

-- ---- the lists that are held

pub corners_few : (kind : Kind) (d edges facets : ℕ) (ends : List (ℕ × ℕ)) (midpoints corners : List (List ℤ)) (sets : List ℕ)
    → AreFigures kind d edges facets ends midpoints corners sets
    → All (λ (p : ℕ × ℕ). (p.0 < 32) × (p.1 < 32)) (take edges ends)
corners_few kind d edges facets ends midpoints corners sets f k n h =
    let below : k < edges = omega (arith, h, length-take edges ends) in
    let inside : k < edge_count kind d = omega (arith, below, f.edges_are) in
    let long : k < length ends = omega (arith, h, length-take edges ends) in
    let same : get_or (take edges ends) k n ≡ edge_ends kind d k =
    get_or-take edges ends k n below ∙ get_or_default ends k n (0, 0) long ∙ f.ends_are k inside in
    let few = (is_small_cell kind d f.fits).corners in
    let ends_are = ends_inside kind d f.fits k inside in
    subst (λ (p : ℕ × ℕ). (p.0 < 32) × (p.1 < 32)) (sym same) (omega (arith, ends_are.0, few), omega (arith, ends_are.1, few))

pub edges_few : (kind : Kind) (d : ℕ) (ws : List (List ℕ)) → HasDimension kind d → All (IsTuple kind d) ws → All (λ w. All (λ e. e < 32) w) ws
edges_few kind d ws has all k w h j e g =
    let below : get_or (get_or ws k w) j e < edge_count kind d = (all k w h).1 j e g in
    omega (arith, below, (is_small_cell kind d has).edges)

pub points_from : (f : ℕ → List ℤ) (w : List ℕ) (ps : List (List ℤ)) → length ps ≡ length w
    → ((k : ℕ) → k < length w → get_or ps k [] ≡ f (get_or w k 0)) → ps ≡ map f w
points_from f [] [] e h = refl
points_from f [] (p ∷ ps) e h = absurd (omega arith)
points_from f (x ∷ w) [] e h = absurd (omega arith)
points_from f (x ∷ w) (p ∷ ps) e h =
    let first : p ≡ f x = h 0 (omega arith) in
    let others = points_from f w ps (omega arith) (λ k q. h (suc k) (omega arith)) in
    cc

pub midpoint_ints : (kind : Kind) (d : ℕ) → HasDimension kind d → (e : ℕ) → e < edge_count kind d → AreSmall 32 (map pos (edge_midpoint kind d e))
midpoint_ints kind d has e below = small_ints 32 (edge_midpoint kind d e) (omega arith) (midpoint_small kind d has e below).small

pub corner_ints : (kind : Kind) (d : ℕ) → HasDimension kind d → (k : ℕ) → k < corner_count kind d → AreSmall 32 (map pos (corner_point kind d k))
corner_ints kind d has k below = small_ints 32 (corner_point kind d k) (omega arith) (corner_small kind d has k below).small

pub midpoints_small : (kind : Kind) (d : ℕ) (w : List ℕ) → HasDimension kind d → All (λ e. e < edge_count kind d) w
    → All (λ p. AreSmall 32 p) (map (λ e. map pos (edge_midpoint kind d e)) w)
midpoints_small kind d w has all =
    All-map (λ p. AreSmall 32 p) (λ e. map pos (edge_midpoint kind d e)) w (λ k e h. midpoint_ints kind d has (get_or w k e) (all k e h))
