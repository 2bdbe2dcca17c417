-- The spectrum of a grid: what its file holds, and the text that is put.
use Rattle.std.specs.Prelude.{◌≡◌, ℕ, ℤ, List, [], ◌∷◌, ◌++◌, length, flat_map, Option}
use Rattle.std.specs.Fmt.{decimal, signed_decimal}
use Rattle.iso_base.specs.Files.{Files}
use Rattle.lists.specs.Orders.{numbers}
use Rattle.iso_model.specs.declared.Kind.{Kind}
use Rattle.iso_model.specs.Cells.{HasDimension}
use Rattle.iso_model.specs.Values.{Grid, IsRegularGrid}
use Rattle.iso_formats.specs.GridFile.{SpellsGrid}
use Rattle.edge_spectrum.specs.Spectrum.{edges_at, iso_after, isovalues}
use Rattle.iso_cli.specs.Refusals.{FileHas}

-- the file of this name is that of the grid, whose dimension cells of the kind have
pub record HoldsGrid (files : Option Files) (name : List ℕ) (kind : Kind) (g : Grid) : Type 0 where
  pub held : FileHas files name (λ bytes. SpellsGrid bytes g)
  pub fits : HasDimension kind (length g.sizes)

-- the line of an isovalue with a number of vertices
abbrev pub count_line : ℤ → ℕ → List ℕ
count_line iso count = signed_decimal iso ++ 32 ∷ decimal count ++ 10 ∷ []

-- the spectrum of a grid as text: for each isovalue from one up to another the line with the number of bipolar edges there, which are the vertices of
-- the mesh
abbrev pub spectrum_text : Kind → Grid → ℤ → ℤ → List ℕ
spectrum_text kind g from to = flat_map (λ i. count_line (iso_after from i) (edges_at kind g (iso_after from i))) (numbers (isovalues from to))

-- the spectrum of the grid that the file of this name holds
pub record IsSpectrumText (files : Option Files) (name : List ℕ) (kind : Kind) (from to : ℤ) (text : List ℕ) : Type 0 where
  pub g : Grid
  pub held : HoldsGrid files name kind g
  pub regular : IsRegularGrid g
  pub spelled : text ≡ spectrum_text kind g from to
