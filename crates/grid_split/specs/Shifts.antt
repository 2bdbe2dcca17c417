-- How a cube moves across a facet, axis by axis, and where the orders of axes stand in their tables.
use Rattle.std.specs.Prelude.{ℕ, zero, suc, ◌-◌, ◌/◌, ◌%◌, ◌==◌, ◌&&◌, ℤ, pos, negsuc, if◌then◌else◌}

-- across facet 2i + s of a cube, the cube moves down (s = 0) or up (s = 1) along axis i
abbrev pub shift_along_axis : ℕ → ℕ → ℤ
shift_along_axis axis facet =
    if facet / 2 == axis then (if facet % 2 == 1 then pos 1 else negsuc 0) else pos 0

-- where the orders of d axes begin, after those of fewer axes
abbrev pub first_order : ℕ → ℕ
first_order zero = 0
first_order (suc zero) = 0
first_order (suc (suc zero)) = 0
first_order (suc (suc (suc zero))) = 2
first_order (suc (suc (suc (suc d)))) = 8

-- across facet 0 of a simplex its cube moves up along the first axis of its order, and across the last facet down along the last axis
abbrev pub shift_at_place : ℕ → ℕ → ℕ → ℤ
shift_at_place place facet last =
    if facet == 0 && (place == 0) then pos 1
    else if facet == last && (place == last - 1) then negsuc 0
    else pos 0

-- the facet across: the first and the last facet stand across from each other, and each other one from its like
abbrev pub other_facet : ℕ → ℕ → ℕ
other_facet last facet = if facet == 0 then last else if facet == last then 0 else facet
