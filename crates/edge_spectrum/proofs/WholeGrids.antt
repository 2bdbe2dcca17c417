-- Around each row of midpoints of a grid in which no cube is left out there is a kept cube at each place.
use Rattle.std.proofs.Common.{ap, arith, inl, refl, ◌∙◌}
use Rattle.std.proofs.lemmas.Bool.{false≢true}
use Rattle.std.proofs.lemmas.List.Elements.{All-head, All-tail}
use Rattle.std.proofs.Math.Nat.{mod-lt}
use Rattle.std.specs.List.{list_any}
use Rattle.std.specs.Prelude.{ℕ, suc, ◌+◌, ◌-◌, ◌*◌, ◌/◌, ◌%◌, ◌<◌, ◌≤◌, ◌≡◌, Bool, true, false, ◌&&◌, ◌||◌, List, [], ◌∷◌, All, drop, length, map}
use Rattle.std.specs.Prelude.{nat_lt, slice_index, ℤ}
use Rattle.lists.specs.Members.{In}
use Rattle.lists.proofs.MemberLaws.{In-flat_map, In-map, any_from, any_none}
use Rattle.lists.proofs.Tests.{lt_of, of_lt, same_tests, not_below}
use Rattle.iso_model.specs.declared.Kind.{Kind}
use Rattle.iso_model.specs.Values.{Grid}
use Rattle.edge_middles.specs.RowLists.{row_at}
use Rattle.edge_middles.specs.WhatIsThere.{cubes_around, has_cube_at, is_kept_around, is_kept_at, places_around}
use Rattle.edge_spectrum.specs.Counted.{grid_at}

-- the place of the cube at or below a coordinate that is no cube's first alone
abbrev pub cube_below : ℕ → ℕ
cube_below c = (c + 3) / 4 - 1

below_around : (rest : List ℕ) → In (map cube_below rest) (cubes_around rest)
below_around [] = inl refl
below_around (c ∷ rest) =
    In-flat_map (λ r. map (λ k. k ∷ r) (places_around c)) (cubes_around rest) (map cube_below rest) (map cube_below (c ∷ rest)) (below_around rest)
    (In-map (λ k. k ∷ map cube_below rest) (places_around c) (cube_below c) (inl refl))

-- it is there along an axis where the coordinate is within the samples
inside_axis : (n c : ℕ) → 2 ≤ n → c + 4 ≤ 4 * n → nat_lt (cube_below c + 1) n ≡ true
inside_axis n c some within = of_lt (cube_below c + 1) n (omega (arith, some, within))

pub last_of_rest : (n m : ℕ) (sizes : List ℕ) → slice_index (n ∷ m ∷ sizes) (length (n ∷ m ∷ sizes) - 1) ≡ slice_index (m ∷ sizes) (length (m ∷ sizes) - 1)
last_of_rest n m sizes =
    let next : length (n ∷ m ∷ sizes) - 1 ≡ suc (length (m ∷ sizes) - 1) = omega arith in
    ap (λ k. slice_index (n ∷ m ∷ sizes) k) next

-- a row of a grid in which each size is 2 or more
pub below_there : (sizes : List ℕ) (height number : ℕ) → 1 ≤ length sizes → All (λ n. 2 ≤ n) sizes → height + 4 ≤ 4 * slice_index sizes (length sizes - 1)
    → has_cube_at sizes (map cube_below (row_at sizes height number)) ≡ true
below_there [] height number some cubes inside = absurd (omega (arith, some))
below_there (n ∷ []) height number some cubes inside =
    let here = inside_axis n height (All-head (λ k. 2 ≤ k) n [] cubes) inside in (λ i. here i && true)
below_there (n ∷ m ∷ sizes) height number some cubes inside =
    let two : 2 ≤ n = All-head (λ k. 2 ≤ k) n (m ∷ sizes) cubes in
    let part : number % (2 * n - 1) < 2 * n - 1 = mod-lt number (omega (arith, two)) in
    let here = inside_axis n (2 * (number % (2 * n - 1))) two (omega (arith, part)) in
    let further : height + 4 ≤ 4 * slice_index (m ∷ sizes) (length (m ∷ sizes) - 1) = omega (arith, inside, last_of_rest n m sizes) in
    let rest = below_there (m ∷ sizes) height (number / (2 * n - 1)) (omega arith) (All-tail (λ k. 2 ≤ k) n (m ∷ sizes) cubes) further in
    (λ i. here i && rest i)

has_from : (sizes : List ℕ) (x : ℕ) (places : List ℕ) → 1 ≤ length sizes
    → has_cube_at sizes (x ∷ places) ≡ (nat_lt (x + 1) (slice_index sizes 0) && has_cube_at (drop 1 sizes) places)
has_from [] x places some = absurd (omega (arith, some))
has_from (n ∷ sizes) x places some = refl

module _ (kind : Kind) (grid : Grid) (iso : ℤ) (some : 1 ≤ length grid.sizes) where
  kept_from : (x : ℕ) (places : List ℕ)
      → is_kept_at (grid_at kind grid iso) (x ∷ places) ≡ ((nat_lt (x + 1) (slice_index grid.sizes 0) && has_cube_at (drop 1 grid.sizes) places) && true)
  kept_from x places = ap (λ t. t && true) (has_from grid.sizes x places some)

  pub kept_here : (rest : List ℕ) (x : ℕ) → has_cube_at (drop 1 grid.sizes) (map cube_below rest) ≡ true → x + 1 < slice_index grid.sizes 0
      → is_kept_around (grid_at kind grid iso) rest x ≡ true
  kept_here rest x there inside =
      let first = of_lt (x + 1) (slice_index grid.sizes 0) inside in
      any_from (λ places. is_kept_at (grid_at kind grid iso) (x ∷ places)) (cubes_around rest) (map cube_below rest) (below_around rest)
      (kept_from x (map cube_below rest) ∙ (λ i. (first i && there i) && true))

  pub none_past : (rest : List ℕ) (x : ℕ) → slice_index grid.sizes 0 ≤ x + 1 → is_kept_around (grid_at kind grid iso) rest x ≡ false
  none_past rest x past =
      any_none (λ places. is_kept_at (grid_at kind grid iso) (x ∷ places)) (cubes_around rest)
      (λ places. kept_from x places ∙ ap (λ t. (t && has_cube_at (drop 1 grid.sizes) places) && true) (not_below (x + 1) (slice_index grid.sizes 0) past))
