-- The demonstration: the table that is made for it, why that is refused, and what is said of the mesh.
use Rattle.std.specs.Prelude.{◌≡◌, ℕ, List, None}
use Rattle.iso_model.specs.declared.Kind.{Kind}
use Rattle.iso_model.specs.Acceptance.{IsAccepted, IsRefusedAt}
use Rattle.iso_model.specs.Entries.{IsHullTable}
use Rattle.iso_model.specs.Faces.{Mesh}
use Rattle.iso_model.specs.Placed.{placed_mesh}
use Rattle.iso_model.specs.Tables.{Table}
use Rattle.iso_model.specs.Values.{volume}
use Rattle.iso_formats.specs.Demo.{demo_grid, demo_iso, demo_text}
use Rattle.iso_cli.specs.declared.status.Status.{Status}
use Rattle.iso_cli.specs.declared.status.Status.TheVariants as Statuses

-- the table that the construction gives for a kind and a dimension
pub record IsMade (kind : Kind) (d : ℕ) (t : Table) : Type 0 where
  pub of_kind : t.kind ≡ kind
  pub of_dimension : t.dimension ≡ d
  pub made : IsHullTable t

-- the table of the construction fails a rule, the least one of the least label that fails any
pub data IsRefusedMade (kind : Kind) (d : ℕ) : Status → Type 0 where
  made_refused : (t : Table) (label r : ℕ) → IsMade kind d t → IsRefusedAt t label r → IsRefusedMade kind d (Statuses.TableRefused label r)

-- the table of the construction is accepted
abbrev pub IsMadeAccepted : Kind → ℕ → Type 0
IsMadeAccepted kind d = (t : Table) × IsMade kind d t × IsAccepted t

-- the mesh of the demonstration: the placed mesh of a table in the grid that a seed decides, at the isovalue 128
abbrev pub demo_mesh : Kind → ℕ → ℕ → ℕ → Table → Mesh
demo_mesh kind d size seed t = placed_mesh (volume kind (demo_grid d size seed) demo_iso None) t

-- the three lines that are said of this mesh by the table of the construction, which is accepted
pub record IsDemonstration (kind : Kind) (d size seed : ℕ) (text : List ℕ) : Type 0 where
  pub t : Table
  pub made : IsMade kind d t
  pub accepted : IsAccepted t
  pub said : text ≡ demo_text (demo_mesh kind d size seed t)
