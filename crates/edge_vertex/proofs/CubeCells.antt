-- The cells of mixed cubes have all bipolar edges.
use Rattle.std.proofs.Common.{◌≡◌, ℕ, ◌+◌, ◌*◌, ◌/◌, ◌%◌, ◌<◌, ◌≤◌, Bool, true, false, None, List, length, map, get_or, refl, sym, ap, ◌∙◌, subst}
use Rattle.std.proofs.Common.{arith, ℤ, inl, inr}
use Rattle.std.specs.Prelude.{filter, slice_index, Contains, ◌↔◌}
use Rattle.std.proofs.Math.Nat.{mul-le-mul_right}
use Rattle.std.proofs.lemmas.List.{length-map, get_or-map}
use Rattle.iso_model.specs.declared.Kind.{Kind}
use Rattle.lists.specs.Orders.{numbers}
use Rattle.iso_model.specs.Cells.{HasDimension, corner_count, edge_ends}
use Rattle.iso_model.specs.Splits as Splits
use Rattle.iso_model.specs.Splits.{cube_count, cell_count, cells_per_cube}
use Rattle.iso_model.specs.Values.{Grid, volume, label_of}
use Rattle.iso_model.specs.Dimensions.{IsDimension, in_each_dimension}
use Rattle.split_laws.proofs.Coordinates.{cube_in}
use Rattle.mixed_cubes.specs.declared.cubes.CubePlace.{CubePlace}
use Rattle.mixed_cubes.specs.CubePlaces.{place_of}
use Rattle.mixed_cubes.specs.Mixed.{is_mixed}
use Rattle.mixed_cubes.proofs.OneSign.{has_plain_label}
use Rattle.edge_vertex.specs.EdgeValue.{IsBipolarOf, IsBipolarEdge}
use Rattle.edge_vertex.proofs.Added.{InCubes, none_negative, none_positive}
use Rattle.lists.proofs.Contained.{Contains-filter, any_default, Contains-at, below_contained, contained_below, Contains-filtered}

-- the numbers of the mixed cubes
abbrev pub mixed : Grid → ℤ → List ℕ
mixed g iso = filter (is_mixed g iso) (numbers (cube_count g.sizes))

mixed_below : (g : Grid) (iso : ℤ) (i : ℕ) → i < length (mixed g iso) → slice_index (mixed g iso) i < cube_count g.sizes
mixed_below g iso i h =
    below_contained (cube_count g.sizes) (slice_index (mixed g iso) i)
    (Contains-filter (is_mixed g iso) (numbers (cube_count g.sizes)) (slice_index (mixed g iso) i) (Contains-at (mixed g iso) i 0 h))

-- a mixed cube as the list of their places has it
pub mixed_place : (g : Grid) (iso : ℤ) (places : List CubePlace) (i : ℕ) (d : CubePlace) → places ≡ map (place_of g.sizes) (mixed g iso)
    → i < length places → get_or places i d ≡ place_of g.sizes (slice_index (mixed g iso) i)
mixed_place g iso places i d are h =
    let inside : i < length (mixed g iso) = omega (arith, h, ap length are, length-map (mixed g iso) (place_of g.sizes)) in
    ap (λ (xs : List CubePlace). get_or xs i d) are ∙ get_or-map (place_of g.sizes) (mixed g iso) i 0 d inside

-- its number is that of a cube of the grid, and it stands where the cube of that number does
pub mixed_place-stands : (g : Grid) (iso : ℤ) (places : List CubePlace) (i : ℕ) (d : CubePlace) → places ≡ map (place_of g.sizes) (mixed g iso)
    → i < length places
    → ((get_or places i d).number < cube_count g.sizes) × (get_or places i d ≡ place_of g.sizes (get_or places i d).number)
mixed_place-stands g iso places i d are h =
    let inside : i < length (mixed g iso) = omega (arith, h, ap length are, length-map (mixed g iso) (place_of g.sizes)) in
    let at : get_or places i d ≡ place_of g.sizes (slice_index (mixed g iso) i) = mixed_place g iso places i d are h in (
      subst (λ (p : CubePlace). p.number < cube_count g.sizes) (sym at) (mixed_below g iso i inside),
      subst (λ (p : CubePlace). p ≡ place_of g.sizes p.number) (sym at) refl,
    )

pub last_cell : (c cubes per : ℕ) → c < cubes → c * per + per ≤ cubes * per
last_cell c cubes per h = let more : (c + 1) * per ≤ cubes * per = mul-le-mul_right per (omega (arith, h)) in omega (arith, more)

module _ (kind : Kind) (g : Grid) (iso : ℤ) (n per : ℕ) (counted : per ≡ cells_per_cube kind (length g.sizes)) (some : 0 < per)
    (has : HasDimension kind (length g.sizes))
    (inside : (k : ℕ) → k < n
    → ((edge_ends kind (length g.sizes) k).0 < corner_count kind (length g.sizes))
    × ((edge_ends kind (length g.sizes) k).1 < corner_count kind (length g.sizes)))
  where
    -- a cell with a bipolar edge belongs to a mixed cube
    in_mixed : (cell : ℕ) (e : Splits.Edge) → IsBipolarOf kind g.sizes cell (label_of (volume kind g iso None) cell) n e → is_mixed g iso (cell / per) ≡ true
    in_mixed cell e r = go (is_mixed g iso (cell / per)) refl
      where
        go : (b : Bool) → is_mixed g iso (cell / per) ≡ b → b ≡ true
        go true is = refl
        go false is =
            let label : ℕ = label_of (volume kind g iso None) cell in
            elim (has_plain_label kind g iso cell has (ap (λ (m : ℕ). is_mixed g iso (cell / m)) (sym counted) ∙ is)) as (λ _. false ≡ true) [
              | inl none ↦ absurd (none_negative kind g.sizes cell label n e none r)
              | inr all ↦ absurd (none_positive kind g.sizes cell label n (corner_count kind (length g.sizes)) e all inside r)
            ]

    found : (e : Splits.Edge) → IsBipolarEdge (volume kind g iso None) n (cell_count kind g.sizes) e
        → InCubes (volume kind g iso None) n per (mixed g iso) (length (mixed g iso)) e
    found e r =
        let cell : ℕ = r.0 in
        let c : ℕ = cell / per in
        let below : c < cube_count g.sizes = subst (λ (m : ℕ). cell / m < cube_count g.sizes) (sym counted) (cube_in kind g.sizes cell r.1) in
        let there : Contains (mixed g iso) c =
        Contains-filtered (is_mixed g iso) (numbers (cube_count g.sizes)) c (in_mixed cell e r.2) (contained_below (cube_count g.sizes) c below) in
        let at : slice_index (mixed g iso) there.0 ≡ c = any_default (mixed g iso) there.0 0 c there.1 ∙ there.2 in
        let same : cell ≡ slice_index (mixed g iso) there.0 * per + cell % per = whole cell ∙ ap (λ (m : ℕ). m * per + cell % per) (sym at) in
        (there.0, there.1, (cell % per, omega (arith, some), subst (λ (m : ℕ). IsBipolarOf kind g.sizes m (label_of (volume kind g iso None) m) n e) same r.2))
      where
        whole : (m : ℕ) → m ≡ m / per * per + m % per
        whole m = omega (arith, some)

    listed : (e : Splits.Edge) → InCubes (volume kind g iso None) n per (mixed g iso) (length (mixed g iso)) e
        → IsBipolarEdge (volume kind g iso None) n (cell_count kind g.sizes) e
    listed e r =
        let c : ℕ = slice_index (mixed g iso) r.0 in
        let rank : ℕ = r.2.0 in
        let small : rank < per = r.2.1 in
        let last : c * per + per ≤ cube_count g.sizes * per = last_cell c (cube_count g.sizes) per (mixed_below g iso r.0 r.1) in
        let all : cube_count g.sizes * per ≡ cell_count kind g.sizes = ap (λ (m : ℕ). cube_count g.sizes * m) counted in
        (c * per + rank, omega (arith, small, last, all), r.2.2)

    pub all_in_mixed : (e : Splits.Edge)
        → InCubes (volume kind g iso None) n per (mixed g iso) (length (mixed g iso)) e
        ↔ IsBipolarEdge (volume kind g iso None) n (cell_count kind g.sizes) e
    all_in_mixed e = (listed e, found e)
