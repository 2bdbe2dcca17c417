use Rattle.std.proofs.Common.{◌+◌, ◌-◌, [], slice_index_or, refl, rules}
use Rattle.iso_model.specs.declared.Kind.TheVariants.{Simplex}
use Rattle.iso_model.specs.Cells.{HasDimension, facet_edges}
use Rattle.cell_lattice.specs.CellLemmas.{facet_edge_members, few_edges}
use Rattle.iso_model.specs.Dimensions.{IsDimension}
use Rattle.cell_lattice.specs.Agreement.{agree_in_each}
use Rattle.cell_lattice.specs.declared.simplices.TheConstants.{EDGES_OF_FACETS}
use Rattle.lists.specs.Bits.{set_number}
use Rattle.cell_lattice.proofs.simplices.edges_of_simplex_facet.Goals as goal

pub returns : goal.returns
returns g c =
    let is : IsDimension g.row.D = search rules in
    let has : HasDimension Simplex g.row.D = search rules in
    let set =
    agree_in_each (λ d. d + 1) (λ d f. slice_index_or (slice_index_or EDGES_OF_FACETS (d - 2) []) f 0)
    (λ d f. set_number (facet_edges Simplex d f)) refl refl refl g.row.D is c.args.facet c.requires.facet in
    record {
      set = set;
      members = λ e h. rw set (facet_edge_members Simplex g.row.D is has c.args.facet c.requires.facet e h);
      few = rw set (few_edges Simplex g.row.D is has c.args.facet c.requires.facet);
    }
