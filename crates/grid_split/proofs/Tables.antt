-- The tables of the splits, compared with the definitions by computing.
use Rattle.std.proofs.Common.{◌≡◌, ℕ, ◌+◌, ◌-◌, ◌*◌, ◌%◌, ◌<◌, false, List, [], refl, ap, sym, ◌∙◌, arith, ℤ, slice_index_or}
use Rattle.std.specs.Prelude.{map, nat_lt, if◌then◌else◌}
use Rattle.iso_model.specs.declared.Kind.TheVariants.{Cube, Simplex, Pyramid}
use Rattle.lists.specs.Orders.{numbers}
use Rattle.iso_model.specs.Points.{axes}
use Rattle.iso_model.specs.Splits.{cells_per_cube, corner_offset, is_odd_rank}
use Rattle.iso_model.specs.Neighbours.{shift_across}
use Rattle.iso_model.specs.Dimensions.{IsDimension, in_each_dimension}
use Rattle.cell_lattice.specs.Agreement.{agree, agree_in_each}
use Rattle.split_checks.specs.AcrossTests.{next_across, next_at, all_facets, facet_at, move_across}
use Rattle.split_laws.proofs.Across.{next_of, less_one, shift_is, listed}
use Rattle.grid_split.specs.Shifts.{shift_along_axis, first_order, other_facet, shift_at_place}
use Rattle.grid_split.specs.declared.simplices.TheConstants.{PLACES, ODD, ACROSS}
use Rattle.grid_split.specs.declared.pyramids.TheConstants.{SHIFTS, ACROSS as PYRAMIDS}
use Rattle.lists.proofs.MemberLaws.{at_numbers}

-- ---- two numbers

pub agree_twice : {X : Type 0} → (n m : ℕ → ℕ) (f g : ℕ → ℕ → ℕ → X) →
    map (λ r. map (f 2 r) (numbers (m 2))) (numbers (n 2)) ≡ map (λ r. map (g 2 r) (numbers (m 2))) (numbers (n 2)) →
    map (λ r. map (f 3 r) (numbers (m 3))) (numbers (n 3)) ≡ map (λ r. map (g 3 r) (numbers (m 3))) (numbers (n 3)) →
    map (λ r. map (f 4 r) (numbers (m 4))) (numbers (n 4)) ≡ map (λ r. map (g 4 r) (numbers (m 4))) (numbers (n 4)) →
    (d : ℕ) → IsDimension d → (r k : ℕ) → r < n d → k < m d → f d r k ≡ g d r k
agree_twice n m f g two three four d is r k hr hk =
    agree (m d) (f d r) (g d r) (agree_in_each n (λ e s. map (f e s) (numbers (m e))) (λ e s. map (g e s) (numbers (m e))) two three four d is r hr) k hk

-- ---- a loop that fills a list of whole numbers

-- ---- cubes

pub cube_shift : (d : ℕ) → IsDimension d → (r f : ℕ) → f < 2 * d → map (λ i. shift_along_axis i f) (axes d) ≡ shift_across Cube d r f
cube_shift d is r f hf = agree_in_each (λ e. 2 * e) (λ e g. map (λ i. shift_along_axis i g) (axes e)) (λ e g. shift_across Cube e r g) refl refl refl d is f hf

pub cube_next : (d r f : ℕ) → r < 1 → f < 2 * d → next_of Cube d r f ≡ (0, f + 1 - 2 * (f % 2))
cube_next d r f hr hf =
    let zero_rank : r ≡ 0 = omega (arith, hr) in
    ap (λ (s : ℕ). next_of Cube d s f) zero_rank ∙ at_numbers (λ g. pair 0 (g + 1 - 2 * (g % 2))) (2 * d) f (0, 0) hf
  where
    pair : ℕ → ℕ → ℕ × ℕ
    pair a b = (a, b)

-- ---- simplices

-- the place of axis i in the order of a rank
abbrev pub place_at : ℕ → ℕ → ℕ → ℕ
place_at d r i = slice_index_or (slice_index_or PLACES (first_order d + r) []) i 0

pub simplex_offset : (d : ℕ) → IsDimension d → (r k : ℕ) → r < cells_per_cube Simplex d → k < d + 1 →
    map (λ i. if nat_lt (place_at d r i) k then 2 else 0) (axes d) ≡ corner_offset Simplex d r k
simplex_offset =
    agree_twice (cells_per_cube Simplex) (λ d. d + 1) (λ d r k. map (λ i. if nat_lt (place_at d r i) k then 2 else 0) (axes d))
    (corner_offset Simplex) refl refl refl

pub simplex_odd : (d : ℕ) → IsDimension d → (r : ℕ) → r < cells_per_cube Simplex d → slice_index_or ODD (first_order d + r) false ≡ is_odd_rank Simplex d r
simplex_odd = agree_in_each (cells_per_cube Simplex) (λ d r. slice_index_or ODD (first_order d + r) false) (is_odd_rank Simplex) refl refl refl

-- the shifts across all facets, from the offsets of all facets
abbrev shifts_listed : ℕ → List (List (List (List ℕ))) → List (List (List ℤ))
shifts_listed d all = map (λ r. map (λ f. map less_one (move_across d (facet_at all r f))) (numbers (d + 1))) (numbers (cells_per_cube Simplex d))

abbrev shifts_written : ℕ → List (List (List ℤ))
shifts_written d = map (λ r. map (λ f. map (λ i. shift_at_place (place_at d r i) f d) (axes d)) (numbers (d + 1))) (numbers (cells_per_cube Simplex d))

same_shifts : (d : ℕ) → IsDimension d → shifts_written d ≡ shifts_listed d (all_facets Simplex d)
same_shifts = in_each_dimension (λ d. shifts_written d ≡ shifts_listed d (all_facets Simplex d)) refl refl refl

pub simplex_shift : (d : ℕ) → IsDimension d → (r f : ℕ) → r < cells_per_cube Simplex d → f < d + 1
    → map (λ i. shift_at_place (place_at d r i) f d) (axes d) ≡ shift_across Simplex d r f
simplex_shift d is r f hr hf =
    sym (at_numbers (λ g. map (λ i. shift_at_place (place_at d r i) g d) (axes d)) (d + 1) f [] hf)
    ∙ sym
    (ap (λ (row : List (List ℤ)). slice_index_or row f [])
    (at_numbers (λ s. map (λ g. map (λ i. shift_at_place (place_at d s i) g d) (axes d)) (numbers (d + 1))) (cells_per_cube Simplex d) r []
    hr))
    ∙ ap (λ (rows : List (List (List ℤ))). slice_index_or (slice_index_or rows r []) f []) (same_shifts d is)
    ∙ ap (λ (row : List (List ℤ)). slice_index_or row f [])
    (at_numbers (λ s. map (λ g. map less_one (move_across d (facet_at (all_facets Simplex d) s g))) (numbers (d + 1))) (cells_per_cube Simplex d)
    r [] hr)
    ∙ at_numbers (λ g. map less_one (move_across d (facet_at (all_facets Simplex d) r g))) (d + 1) f [] hf
    ∙ ap (λ (here : List (List ℕ)). map less_one (move_across d here)) (listed Simplex d r f hr hf)
    ∙ sym (shift_is Simplex d r f)

abbrev pub next_written : ℕ → ℕ → ℕ → ℕ × ℕ
next_written d r f = (slice_index_or (slice_index_or ACROSS (first_order d + r) []) f 0, other_facet d f)

same_next : (d : ℕ) → IsDimension d → next_across Simplex d ≡ map (λ r. map (next_written d r) (numbers (d + 1))) (numbers (cells_per_cube Simplex d))
same_next =
    in_each_dimension (λ d. next_across Simplex d ≡ map (λ r. map (next_written d r) (numbers (d + 1))) (numbers (cells_per_cube Simplex d))) refl
    refl refl

pub simplex_next : (d : ℕ) → IsDimension d → (r f : ℕ) → r < cells_per_cube Simplex d → f < d + 1 → next_of Simplex d r f ≡ next_written d r f
simplex_next d is r f hr hf =
    ap (λ (rows : List (List (ℕ × ℕ))). next_at rows r f) (same_next d is)
    ∙ ap (λ (row : List (ℕ × ℕ)). slice_index_or row f (0, 0)) (at_numbers (λ s. map (next_written d s) (numbers (d + 1))) (cells_per_cube Simplex d) r [] hr)
    ∙ at_numbers (next_written d r) (d + 1) f (0, 0) hf

-- ---- pyramids

pub pyramid_shift : (r f : ℕ) → r < 6 → f < 5 → slice_index_or (slice_index_or SHIFTS r []) f [] ≡ shift_across Pyramid 3 r f
pyramid_shift r f hr hf =
    agree 5 (λ g. slice_index_or (slice_index_or SHIFTS r []) g []) (shift_across Pyramid 3 r)
    (agree 6 (λ s. map (λ g. slice_index_or (slice_index_or SHIFTS s []) g []) (numbers 5)) (λ s. map (shift_across Pyramid 3 s) (numbers 5)) refl r hr) f hf

pub pyramid_next : (r f : ℕ) → r < 6 → f < 5 → next_of Pyramid 3 r f ≡ slice_index_or (slice_index_or PYRAMIDS r []) f (0, 0)
pyramid_next r f hr hf =
    agree 5 (next_of Pyramid 3 r) (λ g. slice_index_or (slice_index_or PYRAMIDS r []) g (0, 0))
    (agree 6 (λ s. map (next_of Pyramid 3 s) (numbers 5)) (λ s. map (λ g. slice_index_or (slice_index_or PYRAMIDS s []) g (0, 0)) (numbers 5)) refl r hr) f hf
