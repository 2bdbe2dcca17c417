-- The placed mesh of an accepted table in a regular volume is an isosurface.
use Rattle.std.proofs.Common.{◌≡◌, refl}
use Rattle.std.specs.Prelude.{map}
use Rattle.iso_model.specs.Values.{Volume, IsRegularVolume}
use Rattle.iso_model.specs.Bipolar.{bipolar_edges}
use Rattle.iso_model.specs.Crossing.{vertex_of}
use Rattle.iso_model.specs.Tables.{Table}
use Rattle.iso_model.specs.Placed.{placed_mesh}
use Rattle.iso_model.specs.Isosurfaces.{IsIsosurface}
use Rattle.surface_laws.proofs.AcceptedEntries.{Serves}
use Rattle.surface_laws.proofs.Surface.{closed, placed, sided}
use Rattle.surface_laws.proofs.Linked.{linked}

-- the placed mesh has one vertex on each bipolar edge
own_vertices : (v : Volume) (t : Table) → (placed_mesh v t).vertices ≡ map (vertex_of v) (bipolar_edges v)
unfolding placed_mesh
own_vertices v t = refl

-- the placed mesh of an accepted table is an isosurface
pub isosurface : (v : Volume) (t : Table) → IsRegularVolume v → Serves v t → IsIsosurface v (placed_mesh v t)
isosurface v t regular serves = record {
  vertices = own_vertices v t;
  closed = closed v t regular serves;
  placed = placed v t regular serves;
  sided = sided v t regular serves;
  linked = λ three. linked v t regular serves three;
}
