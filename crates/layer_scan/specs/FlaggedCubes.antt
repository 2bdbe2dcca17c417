-- Kept cubes that are given by flags.
use Rattle.std.specs.Prelude.{ℕ, ◌+◌, ◌-◌, ◌*◌, Bool, false, ◌&&◌, nat_lt, List, length, slice_index_or, slice_range}
use Rattle.grid_rows.specs.declared.grids.GridRows.{GridRows}

-- there is a flag x, and it is set
abbrev pub is_flagged : List Bool → ℕ → Bool
is_flagged flags x = nat_lt x (length flags) && slice_index_or flags x false

-- the flags of the cubes of row c, one fewer than a row has samples
abbrev pub flags_of : GridRows → List Bool → ℕ → List Bool
flags_of rows flags c = slice_range flags (c * (rows.length - 1)) (c * (rows.length - 1) + (rows.length - 1))

-- the cube at x of row c is flagged
abbrev pub flag_at : GridRows → List Bool → ℕ → ℕ → Bool
flag_at rows flags c x = is_flagged (flags_of rows flags c) x
