-- How far bytes go on as the head of a table.
use Rattle.std.specs.Prelude.{◌≡◌, ◌≢◌, ℕ, ◌+◌, ◌<◌, ◌≤◌, List, [], ◌∷◌, length, take, slice_index}
use Rattle.iso_model.specs.declared.Kind.{Kind}
use Rattle.iso_model.specs.declared.Kind.TheVariants.{Cube, Simplex, Pyramid}
use Rattle.iso_model.specs.Cells.{HasDimension}
use Rattle.iso_formats.specs.TableFile.{head_bytes}
use Rattle.table_file.specs.declared.heads.Version.{Version}
use Rattle.table_file.specs.declared.heads.Version.TheVariants.{One, Two}

-- the seven kinds and dimensions of tables
abbrev pub rows : List (Kind × ℕ)
rows = (Cube, 2) ∷ (Cube, 3) ∷ (Cube, 4) ∷ (Simplex, 2) ∷ (Simplex, 3) ∷ (Simplex, 4) ∷ (Pyramid, 3) ∷ []

-- bytes and a head agree in so many places, and no more
pub record IsAgreement (bytes head : List ℕ) (places : ℕ) : Type 0 where
  pub inside_head : places ≤ 16
  pub inside : places ≤ length bytes
  pub same : take places bytes ≡ take places head
  pub ends : places < 16 → places < length bytes → slice_index bytes places ≢ slice_index head places

-- the number of a version
abbrev pub version_number : Version → ℕ
version_number One = 1
version_number Two = 2

-- the first bytes, so many, are those of a head of the version
pub record BeginsHead (version : ℕ) (bytes : List ℕ) (places : ℕ) : Type 0 where
  pub kind : Kind
  pub dimension : ℕ
  pub fits : HasDimension kind dimension
  pub same : take places bytes ≡ take places (head_bytes version kind dimension)

-- the bytes before the place begin a head of the version, and there they end, or no such head goes on
pub record StopsInHead (version : ℕ) (bytes : List ℕ) (place : ℕ) : Type 0 where
  pub inside_head : place < 16
  pub inside : place ≤ length bytes
  pub begun : BeginsHead version bytes place
  pub stopped : place < length bytes → ¬ BeginsHead version bytes (place + 1)
