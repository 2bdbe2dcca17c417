-- How many axes a grid is to have.
use Rattle.std.specs.Prelude.{ℕ}
use Rattle.iso_model.specs.declared.Kind.{Kind}
use Rattle.iso_model.specs.declared.Kind.TheVariants.{Cube, Simplex, Pyramid}
use Rattle.iso_cli.specs.declared.files.Axes.{Axes}
use Rattle.iso_cli.specs.declared.files.Axes.TheVariants.{Just, Of}

-- how many axes the cells of a kind need of a grid that has so many: pyramids three, and the others as many as it has
abbrev pub axes_needed : Kind → ℕ → ℕ
axes_needed Cube n = n
axes_needed Simplex n = n
axes_needed Pyramid n = 3

-- how many are needed of a grid that has so many: a table's dimension, or what the cells of a kind need
abbrev pub needed_by : Axes → ℕ → ℕ
needed_by (Just d) n = d
needed_by (Of kind) n = axes_needed kind n
