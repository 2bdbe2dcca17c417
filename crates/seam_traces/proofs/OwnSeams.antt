-- The seams of the cell's own kind and dimension, one by one.
use Rattle.std.specs.Prelude.{ℕ, ◌<◌, false, All}
use Rattle.std.proofs.Common.{subst, arith}
use Rattle.iso_model.specs.declared.Kind.{Kind}
use Rattle.iso_model.specs.Cells.{HasDimension, facet_count}
use Rattle.iso_model.specs.Seams.{Seam, seam, seams}
use Rattle.iso_model.specs.CellLaws.{MeetsCorners, KeepsEdges}
use Rattle.iso_model.specs.Dimensions.{IsDimension}
use Rattle.cell_lattice.specs.CellLemmas.{counted_seams, seam_in_range}
use Rattle.seam_traces.specs.SeamLists.{AreSeamsOf}
use Rattle.lists.proofs.Contained.{any_default}

-- they are seams of the cell
pub own_seams : (kind : Kind) (d : ℕ) → IsDimension d → HasDimension kind d → All (MeetsCorners kind d) (seams kind d)
    → All (KeepsEdges kind d) (seams kind d) → AreSeamsOf kind d (seams kind d)
own_seams kind d is has corners edges k x less =
    let count = counted_seams kind d is has in
    let range = seam_in_range kind d is has k (omega (arith, less, count)) in
    let same = any_default (seams kind d) k (seam 0 0 false) x less in
    record {
      facet = subst (λ (s : Seam). s.facet < facet_count kind d) same range.facet;
      other = subst (λ (s : Seam). s.other < facet_count kind d) same range.other;
      corners = corners k x less;
      edges = edges k x less;
    }
