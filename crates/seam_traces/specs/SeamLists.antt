-- Lists of seams, as the rule of seams is asked over them.
use Rattle.std.specs.Prelude.{ℕ, ◌<◌, List, map, All}
use Rattle.iso_model.specs.declared.Kind.{Kind}
use Rattle.iso_model.specs.Cells.{facet_count}
use Rattle.iso_model.specs.Seams.{Seam}
use Rattle.iso_model.specs.CellLaws.{MeetsCorners, KeepsEdges}
use Rattle.seam_traces.specs.declared.seams.FacetSeam.{FacetSeam}

-- the seam of these two facets and this parity
abbrev pub seam_of : FacetSeam → Seam
seam_of s = record { facet = s.facet; other = s.other; same_parity = s.same }

-- the seams of a list, in their order
abbrev pub seams_of : List FacetSeam → List Seam
seams_of ss = map seam_of ss

-- a seam of the cell: its ends are facets, whose corners meet one by one in ascending order, and it carries the edges of the one to those of the
-- other and keeps their order
pub record IsSeamOf (kind : Kind) (d : ℕ) (s : Seam) : Type 0 where
  pub facet : s.facet < facet_count kind d
  pub other : s.other < facet_count kind d
  pub corners : MeetsCorners kind d s
  pub edges : KeepsEdges kind d s

-- seams of the cell
abbrev pub AreSeamsOf : Kind → ℕ → List Seam → Type 0
AreSeamsOf kind d ss = All (IsSeamOf kind d) ss
