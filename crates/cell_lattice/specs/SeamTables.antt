-- Seams by their numbers, with the corners that meet.
use Rattle.std.specs.Prelude.{ℕ, ◌-◌, false, List, ◌++◌, map, length, replicate, slice_index_or}
use Rattle.iso_model.specs.declared.Kind.{Kind}
use Rattle.iso_model.specs.Cells.{facet_corners}
use Rattle.iso_model.specs.Seams.{Seam, seam, seams, corner_across}

-- the seam of this number
abbrev pub seam_at : Kind → ℕ → ℕ → Seam
seam_at kind d n = slice_index_or (seams kind d) n (seam 0 0 false)

-- the corners that the corners of the seam's facet meet, in order
abbrev pub met_corners : Kind → ℕ → Seam → List ℕ
met_corners kind d s = map (corner_across kind d s) (facet_corners kind d s.facet)

-- the list, and zeros up to n members
abbrev pub padded : ℕ → List ℕ → List ℕ
padded n xs = xs ++ replicate (n - length xs) 0
