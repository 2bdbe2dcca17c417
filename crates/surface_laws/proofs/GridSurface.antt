-- The placed mesh of an accepted table in a regular grid of which no cell is left out.
use Rattle.std.proofs.Common.{◌≡◌, ℕ, List, length, ap, sym, ◌∙◌, subst, ℤ, None}
use Rattle.iso_model.specs.declared.Kind.{Kind}
use Rattle.iso_model.specs.Cells.{HasDimension}
use Rattle.iso_model.specs.Values.{Grid, IsRegularGrid, Volume, IsRegularVolume, volume}
use Rattle.iso_model.specs.Tables.{Table, IsTable}
use Rattle.iso_model.specs.Acceptance.{IsAccepted}
use Rattle.iso_model.specs.Placed.{placed_mesh}
use Rattle.iso_model.specs.Surface.{IsClosed, IsPlaced, IsSided, FacesAreOuter}
use Rattle.iso_model.specs.Isosurfaces.{IsIsosurface}
use Rattle.iso_model.specs.Links.{IsLinkedByWalks}
use Rattle.iso_model.proofs.ArcLaws.{volume_is_regular, KeepsAll-no_blank}
use Rattle.surface_laws.proofs.AcceptedEntries.{Serves}
use Rattle.surface_laws.proofs.Surface as Surface
use Rattle.surface_laws.proofs.Isosurface as Isosurface
use Rattle.surface_laws.proofs.Linked.{linked}
use Rattle.surface_laws.proofs.OuterEdges.{faces_outer}
use Rattle.surface_laws.proofs.LinkedByWalks.{arcs_are_walks}

-- an accepted table of a kind and as many axes as the grid has
pub record SuitsGrid (kind : Kind) (g : Grid) (t : Table) : Type 0 where
  pub is_regular : IsRegularGrid g
  pub is_table : IsTable t
  pub is_accepted : IsAccepted t
  pub of_kind : t.kind ≡ kind
  pub of_dimension : t.dimension ≡ length g.sizes

-- a table that equals an accepted one, and sizes of as many axes that equal those of the grid
pub suits_grid : (kind : Kind) (d : ℕ) (sizes : List ℕ) (g : Grid) (t given : Table) → IsRegularGrid g → IsTable given → IsAccepted given
    → given.kind ≡ kind → given.dimension ≡ d → given ≡ t →
    length sizes ≡ d → sizes ≡ g.sizes → SuitsGrid kind g t
suits_grid kind d sizes g t given regular table accepted of_kind of_dimension same long same_sizes =
    subst (SuitsGrid kind g) same (record {
      is_regular = regular;
      is_table = table;
      is_accepted = accepted;
      of_kind = of_kind;
      of_dimension = of_dimension ∙ sym long ∙ ap (λ (s : List ℕ). length s) same_sizes;
    })

module _ (kind : Kind) (g : Grid) (t : Table) (iso : ℤ) (suits : SuitsGrid kind g t) where
  abbrev whole : Volume
  whole = volume kind g iso None

  regular : IsRegularVolume (volume kind g iso None)
  regular =
      volume_is_regular kind g iso None
      (subst (HasDimension kind) suits.of_dimension (subst (λ (k : Kind). HasDimension k t.dimension) suits.of_kind suits.is_table.fits)) suits.is_regular

  serves : Serves (volume kind g iso None) t
  serves = record { is_table = suits.is_table; is_accepted = suits.is_accepted; kind = suits.of_kind; dimension = suits.of_dimension }

  -- its simplices are closed, each is of one cell, and each is turned to its positive side
  pub closed : IsClosed (volume kind g iso None) (placed_mesh (volume kind g iso None) t).simplices
  closed = Surface.closed whole t regular serves

  pub placed : IsPlaced (volume kind g iso None) (placed_mesh (volume kind g iso None) t).simplices
  placed = Surface.placed whole t regular serves

  pub sided : IsSided (volume kind g iso None) (placed_mesh (volume kind g iso None) t).simplices
  sided = Surface.sided whole t regular serves

  -- the placed mesh is an isosurface
  pub isosurface : IsIsosurface (volume kind g iso None) (placed_mesh (volume kind g iso None) t)
  isosurface = Isosurface.isosurface whole t regular serves

  -- a face lies on the boundary exactly where the ends of its edges lie on the outer boundary
  pub outer : FacesAreOuter (volume kind g iso None) (placed_mesh (volume kind g iso None) t).simplices
  outer = faces_outer whole regular (placed_mesh whole t).simplices

  -- in three dimensions the triangles at each vertex are linked by one walk, which closes exactly off the outer boundary
  pub linked_by_walks : length g.sizes ≡ 3 → IsLinkedByWalks (volume kind g iso None) (placed_mesh (volume kind g iso None) t).simplices
  linked_by_walks three =
      arcs_are_walks whole regular t (placed_mesh whole t).simplices regular.fits three (KeepsAll-no_blank kind g iso) placed
      (linked whole t regular serves three)
