-- The corners of a cube's cells are corners of the cube, or its centre.
use Rattle.std.proofs.Common.{◌≡◌, ℕ, ◌-◌, ◌*◌, ◌%◌, ◌<◌, Bool, true, false, List, refl, sym, subst, arith, inl, inr}
use Rattle.std.specs.Prelude.{if◌then◌else◌, ◌==◌, ◌⊎◌, slice_index, count_by, nat_eq, nat_lt, take}
use Rattle.std.specs.Int.{bit_at}
use Rattle.iso_model.specs.declared.Kind.{Kind}
use Rattle.iso_model.specs.declared.Kind.TheVariants.{Cube, Simplex, Pyramid}
use Rattle.iso_model.specs.Points.{point}
use Rattle.iso_model.specs.Cells.{HasDimension}
use Rattle.iso_model.specs.Splits.{corner_offset, pyramid_offset, axis_order, base_axis, base_side}
use Rattle.split_laws.proofs.Coordinates.{coordinate}

-- an offset is even along each axis, or it is that of the centre of a cube of three dimensions
abbrev pub EvenOrCentre : ℕ → List ℕ → Type 0
EvenOrCentre d o = ((i : ℕ) → i < d → slice_index o i % 2 ≡ 0) ⊎ ((d ≡ 3) × ((i : ℕ) → i < 3 → slice_index o i ≡ 1))

pyramid_case : (b : Bool) (f : ℕ → ℕ) → ((i : ℕ) → f i % 2 ≡ 0) → EvenOrCentre 3 (if b then point 3 (λ i. 1) else point 3 f)
pyramid_case true f even = inr (refl, λ i h. coordinate 3 (λ i. 1) i h)
pyramid_case false f even = inl (λ i h. rw (coordinate 3 f i h) (even i))

twice_even : (n : ℕ) → (2 * n) % 2 ≡ 0
twice_even n = omega arith

side_even : (b : Bool) (m n : ℕ) → (if b then 2 * m else 2 * n) % 2 ≡ 0
side_even true m n = omega arith
side_even false m n = omega arith

pub offset_case : (kind : Kind) (d rank k : ℕ) → HasDimension kind d → EvenOrCentre d (corner_offset kind d rank k)
offset_case Cube d rank k has = inl (λ i h. rw (coordinate d (λ i. 2 * bit_at k i) i h) (twice_even (bit_at k i)))
offset_case Simplex d rank k has =
    inl
    (λ i h.
    rw (coordinate d (λ i. 2 * count_by (nat_eq i) (take k (axis_order d rank))) i h)
    (twice_even (count_by (nat_eq i) (take k (axis_order d rank)))))
offset_case Pyramid d rank k has =
    let a : ℕ = base_axis rank in
    let s : ℕ = base_side rank in
    subst (λ (n : ℕ). EvenOrCentre n (pyramid_offset a s k)) (sym has)
    (pyramid_case (k == 4) (λ i. if i == a then 2 * s else 2 * bit_at k (if nat_lt i a then i else i - 1))
    (λ i. side_even (i == a) s (bit_at k (if nat_lt i a then i else i - 1))))
