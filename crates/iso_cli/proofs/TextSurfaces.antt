-- The mesh of an accepted table in a grid of its dimension is an isosurface.
use Rattle.std.specs.Prelude.{◌≡◌, ℕ, ℤ, List, Option, None}
use Rattle.std.proofs.Common.{refl, subst}
use Rattle.iso_base.specs.Files.{Files}
use Rattle.iso_model.specs.Tables.{Table}
use Rattle.iso_model.specs.Cells.{HasDimension}
use Rattle.iso_model.specs.Placed.{placed_mesh}
use Rattle.iso_model.specs.Values.{Grid, IsRegularGrid, volume}
use Rattle.iso_model.proofs.ArcLaws.{KeepsAll-no_blank}
use Rattle.surface_laws.proofs.GridSurface.{SuitsGrid, isosurface, linked_by_walks, outer, placed}
use Rattle.iso_cli.specs.Outputs.{HasOuterBoundary, IsMeshText, placed_text}
use Rattle.iso_cli.specs.Refusals.{HoldBoth}

-- the accepted table suits the grid
suits : (files : Option Files) (table grid : List ℕ) (t : Table) (g : Grid) → HoldBoth files table grid t g → IsRegularGrid g → SuitsGrid t.kind g t
suits files table grid t g held regular =
    record { is_regular = regular; is_table = held.table.table.whole; is_accepted = held.table.accepted; of_kind = refl; of_dimension = held.fits }

-- the boundary is the outer one: each cell is kept, and the simplices are placed
outer_boundary : (t : Table) (g : Grid) (iso : ℤ) → SuitsGrid t.kind g t
    → HasOuterBoundary (volume t.kind g iso None) (placed_mesh (volume t.kind g iso None) t).simplices
outer_boundary t g iso s =
    outer t.kind g t iso s (subst (HasDimension t.kind) s.of_dimension s.is_table.fits) (KeepsAll-no_blank t.kind g iso) (placed t.kind g t iso s)

-- the text of the placed mesh of what the files hold is the output of extract
pub mesh_text_is : (files : Option Files) (table grid : List ℕ) (iso : ℤ) (t : Table) (g : Grid) → HoldBoth files table grid t g → IsRegularGrid g
    → (text : List ℕ) → text ≡ placed_text t g iso → IsMeshText files table grid iso text
mesh_text_is files table grid iso t g held regular text spelled = record {
  t = t;
  g = g;
  held = held;
  regular = regular;
  spelled = spelled;
  surface = isosurface t.kind g t iso (suits files table grid t g held regular);
  outer = outer_boundary t g iso (suits files table grid t g held regular);
  walks = linked_by_walks t.kind g t iso (suits files table grid t g held regular);
}

-- the same where the isovalue is given by another number that equals it
pub mesh_text_at : (files : Option Files) (table grid : List ℕ) (iso at : ℤ) (t : Table) (g : Grid) → HoldBoth files table grid t g → IsRegularGrid g
    → at ≡ iso → (text : List ℕ) → text ≡ placed_text t g at → IsMeshText files table grid iso text
mesh_text_at files table grid iso at t g held regular same text spelled =
    subst (λ (z : ℤ). IsMeshText files table grid z text) same (mesh_text_is files table grid at t g held regular text spelled)
