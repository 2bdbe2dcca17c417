-- A mesh that equals the placed mesh of an accepted table is an isosurface, whose boundary is the outer one, and whose triangles one walk meets.
use Rattle.std.specs.Prelude.{◌≡◌, ℕ, length, None, ℤ, IfOk}
use Rattle.std.specs.declared.result.Result.{Result}
use Rattle.std.specs.declared.result.Result.TheVariants.{Ok, Err}
use Rattle.std.proofs.Common.{sym, ◌∙◌, subst}
use Rattle.iso_model.specs.declared.Kind.{Kind}
use Rattle.iso_model.specs.Acceptance.{IsAccepted}
use Rattle.iso_model.specs.Faces.{Mesh}
use Rattle.iso_model.specs.Placed.{placed_mesh}
use Rattle.iso_model.specs.Tables.{Table, IsTable}
use Rattle.iso_model.specs.Values.{Grid, IsRegularGrid, Volume, volume}
use Rattle.surface_laws.proofs.GridSurface.{SuitsGrid}

-- an accepted table of these cells suits a grid with as many axes
pub suits : (kind : Kind) (d : ℕ) (g : Grid) (t : Table) → IsRegularGrid g → IsTable t → IsAccepted t → t.kind ≡ kind → t.dimension ≡ d
    → length g.sizes ≡ d → SuitsGrid kind g t
suits kind d g t regular whole accepted of_kind of_dimension axes =
    record { is_regular = regular; is_table = whole; is_accepted = accepted; of_kind = of_kind; of_dimension = of_dimension ∙ sym axes }

-- where a mesh is the placed mesh at an isovalue, what holds of the placed mesh holds of it
pub holds_of : {E : Type 0} (P : Volume → Mesh → Type 0) (kind : Kind) (g : Grid) (t : Table) (iso at : ℤ) (result : Result Mesh E) → at ≡ iso
    → IfOk result (λ m. m ≡ placed_mesh (volume kind g at None) t) → P (volume kind g at None) (placed_mesh (volume kind g at None) t)
    → IfOk result (P (volume kind g iso None))
holds_of P kind g t iso at (Ok m) same is holds = subst (λ (z : ℤ). P (volume kind g z None) m) same (subst (P (volume kind g at None)) (sym is) holds)
holds_of P kind g t iso at (Err e) same is holds = is
