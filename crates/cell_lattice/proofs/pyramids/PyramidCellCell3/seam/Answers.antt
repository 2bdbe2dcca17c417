use Rattle.std.proofs.Common.{ℕ, [], length, slice_index_or, refl, false}
use Rattle.iso_model.specs.declared.Kind.TheVariants.{Pyramid}
use Rattle.std.proofs.Common.{inl, inr}
use Rattle.cell_lattice.specs.CellLemmas.{seam_in_range}
use Rattle.cell_lattice.specs.declared.Seam.{Seam}
use Rattle.cell_lattice.specs.SeamTables.{seam_at, met_corners, padded}
use Rattle.cell_lattice.specs.Agreement.{agree}
use Rattle.cell_lattice.specs.declared.pyramids.TheConstants.{SEAMS}
use Rattle.cell_lattice.proofs.pyramids.PyramidCellCell3.seam.Goals as goal

-- the seams as the code has them
abbrev written : ℕ → Seam
written n = slice_index_or SEAMS n (record { facet = 0; other = 0; size = 0; map = []; same = false })

pub returns : goal.returns
returns c =
    let facet = agree 11 (λ n. (written n).facet) (λ n. (seam_at Pyramid 3 n).facet) refl c.args.number c.requires in
    let other = agree 11 (λ n. (written n).other) (λ n. (seam_at Pyramid 3 n).other) refl c.args.number c.requires in
    let size = agree 11 (λ n. (written n).size) (λ n. length (met_corners Pyramid 3 (seam_at Pyramid 3 n))) refl c.args.number c.requires in
    let map = agree 11 (λ n. (written n).map) (λ n. padded 8 (met_corners Pyramid 3 (seam_at Pyramid 3 n))) refl c.args.number c.requires in
    let same = agree 11 (λ n. (written n).same) (λ n. (seam_at Pyramid 3 n).same_parity) refl c.args.number c.requires in
    let range = seam_in_range Pyramid 3 (inr (inl refl)) refl c.args.number c.requires in
    record {
      facet = facet;
      other = other;
      size = size;
      map = map;
      same = same;
      facets = (rw facet range.facet, rw other range.other);
      places = rw size range.size;
      corners = λ i h. rw map (range.corners i h);
    }
