use Rattle.std.proofs.Common.{ℕ, ◌-◌, [], length, slice_index_or, refl, rules, false}
use Rattle.iso_model.specs.declared.Kind.TheVariants.{Simplex}
use Rattle.iso_model.specs.Cells.{HasDimension}
use Rattle.cell_lattice.specs.CellLemmas.{seam_in_range}
use Rattle.cell_lattice.specs.declared.Seam.{Seam}
use Rattle.cell_lattice.specs.SeamTables.{seam_at, met_corners, padded}
use Rattle.iso_model.specs.Dimensions.{IsDimension}
use Rattle.cell_lattice.specs.Agreement.{agree_in_each}
use Rattle.cell_lattice.specs.declared.simplices.TheConstants.{SEAMS}
use Rattle.cell_lattice.proofs.simplices.simplex_seam.Goals as goal

-- the seams as the code has them
abbrev written : ℕ → ℕ → Seam
written d n = slice_index_or (slice_index_or SEAMS (d - 2) []) n (record { facet = 0; other = 0; size = 0; map = []; same = false })

pub returns : goal.returns
returns g c =
    let is : IsDimension g.row.D = search rules in
    let has : HasDimension Simplex g.row.D = search rules in
    let facet =
    agree_in_each (λ d. d) (λ d n. (written d n).facet) (λ d n. (seam_at Simplex d n).facet) refl refl refl g.row.D is c.args.number
    c.requires.number in
    let other =
    agree_in_each (λ d. d) (λ d n. (written d n).other) (λ d n. (seam_at Simplex d n).other) refl refl refl g.row.D is c.args.number
    c.requires.number in
    let size =
    agree_in_each (λ d. d) (λ d n. (written d n).size) (λ d n. length (met_corners Simplex d (seam_at Simplex d n))) refl refl refl g.row.D is
    c.args.number c.requires.number in
    let map =
    agree_in_each (λ d. d) (λ d n. (written d n).map) (λ d n. padded 8 (met_corners Simplex d (seam_at Simplex d n))) refl refl refl g.row.D is
    c.args.number c.requires.number in
    let same =
    agree_in_each (λ d. d) (λ d n. (written d n).same) (λ d n. (seam_at Simplex d n).same_parity) refl refl refl g.row.D is c.args.number
    c.requires.number in
    let range = seam_in_range Simplex g.row.D is has c.args.number c.requires.number in
    record {
      facet = facet;
      other = other;
      size = size;
      map = map;
      same = same;
      facets = (rw facet range.facet, rw other range.other);
      places = rw size range.size;
      corners = λ i h. rw map (range.corners i h);
    }
