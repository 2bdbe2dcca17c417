use Rattle.std.proofs.Common.{◌≡◌, ◌<◌, subst, List, slice_index_or}
use Rattle.iso_model.specs.Cells.{facet_count}
use Rattle.seam_traces.specs.declared.facets.Facet.{Facet}
use Rattle.seam_traces.proofs.TraceTables.{sound_read, facet_read}
use Rattle.seam_traces.proofs.table_traces.Traces.facet.Goals as goal

pub returns : goal.returns
returns g c =
    let law = g.met.C.Cell in
    let x = c.index.result.now in
    let f = c.args.number in
    let facets = c.self.inside.facets.items in
    let less : f < facet_count g.C.Cell.KIND g.row.D = subst (λ n. f < n) law.facets c.requires in
    record {
      read = subst (λ (xs : List Facet). x ≡ slice_index_or xs f x) c.self.view_is c.index.ensures;
      sound = sound_read g.C.Cell.KIND g.row.D f facets x law.is_dimension law.has_dimension c.self.invariant less c.index.ensures;
      facet = facet_read g.C.Cell.KIND g.row.D f facets x c.self.invariant less c.index.ensures;
    }
