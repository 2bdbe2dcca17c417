use Rattle.std.proofs.Common.{arith, ℕ, ◌≡◌, ◌*◌, ◌^◌, ◌<◌, ◌≤◌, length, ap, ◌∙◌}
use Rattle.iso_model.specs.Dimensions.{IsDimension, in_each_dimension}
use Rattle.iso_model.proofs.CellCounts.{few_axes}
use Rattle.iso_model.specs.Faces.{Mesh}
use Rattle.demo_grid.proofs.counts.count_mesh.Goals as goal

-- what memory holds is few
fit : (n d : ℕ) → IsDimension d → n * (d * 4) < 2 ^ 63 → n < 2 ^ 60
fit n = in_each_dimension (λ d. n * (d * 4) < 2 ^ 63 → n < 2 ^ 60) (λ h. omega (arith, h)) (λ h. omega (arith, h)) (λ h. omega (arith, h))

pub free_faces-requires : goal.free_faces-requires
free_faces-requires g c =
    let value : c.deref.result.now ≡ c.args.mesh.now.simplices = c.deref.ensures.value ∙ ap (λ (m : Mesh). m.simplices) c.mesh.view_is in
    let low = few_axes g.row.D c.requires.dimension in (
      omega (arith, low),
      (
        rw value c.requires.distinct,
        fit (length c.deref.result.now) g.row.D c.requires.dimension c.deref.type_inv.1,
      ),
    )
