use Rattle.std.proofs.Common.{◌-◌, ◌*◌, [], slice_index_or, refl, rules}
use Rattle.iso_model.specs.declared.Kind.TheVariants.{Cube}
use Rattle.iso_model.specs.Cells.{HasDimension, facet_corners}
use Rattle.cell_lattice.specs.CellLemmas.{facet_members, few_corners}
use Rattle.iso_model.specs.Dimensions.{IsDimension}
use Rattle.cell_lattice.specs.Agreement.{agree_in_each}
use Rattle.cell_lattice.specs.declared.cubes.TheConstants.{CORNERS_OF_FACETS}
use Rattle.lists.specs.Bits.{set_number}
use Rattle.cell_lattice.proofs.cubes.cube_facet.Goals as goal

pub returns : goal.returns
returns g c =
    let is : IsDimension g.row.D = search rules in
    let has : HasDimension Cube g.row.D = search rules in
    let set =
    agree_in_each (λ d. 2 * d) (λ d f. slice_index_or (slice_index_or CORNERS_OF_FACETS (d - 2) []) f 0)
    (λ d f. set_number (facet_corners Cube d f)) refl refl refl g.row.D is c.args.facet c.requires.facet in
    record {
      set = set;
      members = λ k h. rw set (facet_members Cube g.row.D is has c.args.facet c.requires.facet k h);
      few = rw set (few_corners Cube g.row.D is has c.args.facet c.requires.facet);
    }
