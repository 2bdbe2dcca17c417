-- The placed mesh of an accepted table in a regular grid, without the cubes that have a blank sample, where a blank value is given.
use Rattle.std.proofs.Common.{◌≡◌, length, subst, ℤ, Option}
use Rattle.iso_model.specs.declared.Kind.{Kind}
use Rattle.iso_model.specs.Cells.{HasDimension}
use Rattle.iso_model.specs.Values.{Grid, Volume, IsRegularVolume, volume}
use Rattle.iso_model.specs.Tables.{Table}
use Rattle.iso_model.specs.Boundary.{KeepsAll}
use Rattle.iso_model.specs.Placed.{placed_mesh}
use Rattle.iso_model.specs.Surface.{IsClosed, IsPlaced, IsSided, FacesAreOuter}
use Rattle.iso_model.specs.Links.{IsLinked, IsLinkedByWalks}
use Rattle.iso_model.proofs.ArcLaws.{volume_is_regular}
use Rattle.surface_laws.proofs.AcceptedEntries.{Serves}
use Rattle.surface_laws.proofs.GridSurface.{SuitsGrid}
use Rattle.surface_laws.proofs.Surface as Surface
use Rattle.surface_laws.proofs.Linked as Linked
use Rattle.surface_laws.proofs.OuterEdges.{faces_outer}
use Rattle.surface_laws.proofs.LinkedByWalks.{arcs_are_walks}

module _ (kind : Kind) (g : Grid) (t : Table) (iso : ℤ) (blank : Option ℤ) (suits : SuitsGrid kind g t) where
  abbrev kept : Volume
  kept = volume kind g iso blank

  regular : IsRegularVolume (volume kind g iso blank)
  regular =
      volume_is_regular kind g iso blank
      (subst (HasDimension kind) suits.of_dimension (subst (λ (k : Kind). HasDimension k t.dimension) suits.of_kind suits.is_table.fits)) suits.is_regular

  serves : Serves (volume kind g iso blank) t
  serves = record { is_table = suits.is_table; is_accepted = suits.is_accepted; kind = suits.of_kind; dimension = suits.of_dimension }

  -- its simplices are closed, each is of one kept cell, and each is turned to its positive side
  pub closed : IsClosed (volume kind g iso blank) (placed_mesh (volume kind g iso blank) t).simplices
  closed = Surface.closed kept t regular serves

  pub placed : IsPlaced (volume kind g iso blank) (placed_mesh (volume kind g iso blank) t).simplices
  placed = Surface.placed kept t regular serves

  pub sided : IsSided (volume kind g iso blank) (placed_mesh (volume kind g iso blank) t).simplices
  sided = Surface.sided kept t regular serves

  -- where each cell is kept, a face lies on the boundary exactly where the ends of its edges lie on the outer boundary
  pub outer : FacesAreOuter (volume kind g iso blank) (placed_mesh (volume kind g iso blank) t).simplices
  outer = faces_outer kept regular (placed_mesh kept t).simplices

  -- in three dimensions the triangles at each vertex are linked
  pub linked : length g.sizes ≡ 3 → IsLinked (volume kind g iso blank) (placed_mesh (volume kind g iso blank) t).simplices
  linked three = Linked.linked kept t regular serves three

  -- and where each cell is kept, by one walk, which closes exactly off the outer boundary
  pub linked_by_walks : length g.sizes ≡ 3 → KeepsAll (volume kind g iso blank)
      → IsLinkedByWalks (volume kind g iso blank) (placed_mesh (volume kind g iso blank) t).simplices
  linked_by_walks three all =
      arcs_are_walks kept regular t (placed_mesh kept t).simplices regular.fits three all (Surface.placed kept t regular serves)
      (Linked.linked kept t regular serves three)
