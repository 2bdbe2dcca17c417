-- Ordered acceptance: the rules for a table of the simplex of three dimensions that is used with the corners of each simplex in the order of the
-- numbers of its vertices, however the simplices stand.
use Rattle.std.specs.Prelude.{◌≡◌, ℕ, ◌+◌, ◌-◌, List, map, flat_map}
use Rattle.std.specs.List.{range_with_len}
use Rattle.iso_model.specs.declared.Kind.TheVariants.{Simplex}
use Rattle.lists.specs.Orders.{is_odd, numbers}
use Rattle.iso_model.specs.Seams.{Seam, seam}
use Rattle.iso_model.specs.Tables.{Table}
use Rattle.iso_model.specs.Acceptance.{IsAcceptedOver}

-- the seams of simplices of three dimensions that may meet in any way, each with its corners in the order of the numbers of its vertices: facet j
-- meets itself and each later facet m, with the same parity where j + m is odd, and with the opposite one where it is even
abbrev pub ordered_seams : List Seam
ordered_seams = flat_map (λ j. map (λ m. seam j m (is_odd (j + m))) (range_with_len j (4 - j))) (numbers 4)

-- a table of the simplex of three dimensions
pub record IsOfTetrahedron (t : Table) : Type 0 where
  pub kind : t.kind ≡ Simplex
  pub dimension : t.dimension ≡ 3

-- each label keeps each rule, the last one over the ordered seams
abbrev pub IsAcceptedInOrder : Table → Type 0
IsAcceptedInOrder t = IsAcceptedOver ordered_seams t
