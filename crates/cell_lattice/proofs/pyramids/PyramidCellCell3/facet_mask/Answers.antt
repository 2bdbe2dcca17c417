use Rattle.std.proofs.Common.{slice_index_or, refl}
use Rattle.iso_model.specs.declared.Kind.TheVariants.{Pyramid}
use Rattle.std.proofs.Common.{inl, inr}
use Rattle.iso_model.specs.Cells.{facet_corners}
use Rattle.cell_lattice.specs.CellLemmas.{facet_members, few_corners}
use Rattle.cell_lattice.specs.Agreement.{agree}
use Rattle.cell_lattice.specs.declared.pyramids.TheConstants.{CORNERS_OF_FACETS}
use Rattle.lists.specs.Bits.{set_number}
use Rattle.cell_lattice.proofs.pyramids.PyramidCellCell3.facet_mask.Goals as goal

pub returns : goal.returns
returns c =
    let set = agree 5 (λ f. slice_index_or CORNERS_OF_FACETS f 0) (λ f. set_number (facet_corners Pyramid 3 f)) refl c.args.facet c.requires in
    record {
      set = set;
      members = λ k h. rw set (facet_members Pyramid 3 (inr (inl refl)) refl c.args.facet c.requires k h);
      few = rw set (few_corners Pyramid 3 (inr (inl refl)) refl c.args.facet c.requires);
    }
