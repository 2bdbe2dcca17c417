use Rattle.std.proofs.Common.{ℕ, List, sym, subst}
use Rattle.iso_model.specs.Entries.{label_points}
use Rattle.case_patch.specs.FacetLists.{AreAllFacets}
use Rattle.case_patch.proofs.FacetSets.{listed_facets}
use Rattle.case_patch.proofs.Narrow.{bytes_fit}
use Rattle.case_patch.proofs.patches.patch_alone.Goals as goal

pub entry_with-requires : goal.entry_with-requires
entry_with-requires g c = (
  bytes_fit g.row.D g.met.C.Cell.is_dimension,
  (
    c.requires,
    subst (λ (xs : List ℕ). AreAllFacets g.row.D (label_points g.C.Cell.KIND g.row.D c.args.label) xs) (sym c.deref.ensures.value)
        (listed_facets g.row.D (label_points g.C.Cell.KIND g.row.D c.args.label) c.in_ok-facets.facets.items c.in_ok-facets.ensures),
  ),
)
