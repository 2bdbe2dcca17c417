use Rattle.std.proofs.Common.{refl, inl, inr, Some, None}
use Rattle.seam_traces.specs.SeamLists.{seam_of}
use Rattle.seam_traces.proofs.SeamRule.{both_kept}
use Rattle.seam_traces.proofs.TraceTables.{seam_law, seam_read}
use Rattle.seam_traces.proofs.table_traces.Traces.clash_at.Goals as goal

pub returns-in-Some : goal.returns-in-Some
returns-in-Some g c =
    let law = g.met.C.Cell in
    let s = seam_of c.args.seam in
    let x = c.facet-facet.result.now in
    let y = c.facet-other.result.now in
    let seam =
    seam_read g.C.Cell.KIND g.row.D c.args.self.now s x y law.is_dimension law.has_dimension c.requires c.facet-facet.ensures.facet
    c.facet-other.ensures.facet c.facet-facet.ensures.read c.facet-other.ensures.read in
    λ t tell are.
    let told =
    seam_law g.C.Cell.KIND g.row.D t c.args.self.now c.args.label c.args.tallies.now s x y (Some c.in-Some.against) None
    law.is_dimension law.has_dimension tell seam are in
    inl (record { facet = refl; other_facet = refl; other = told.0 c.in-Some.ensures })

pub returns-in-Some-least_against : goal.returns-in-Some-least_against
returns-in-Some-least_against g c =
    let law = g.met.C.Cell in
    let s = seam_of c.args.seam in
    let x = c.facet-facet.result.now in
    let y = c.facet-other.result.now in
    let seam =
    seam_read g.C.Cell.KIND g.row.D c.args.self.now s x y law.is_dimension law.has_dimension c.requires c.facet-facet.ensures.facet
    c.facet-other.ensures.facet c.facet-facet.ensures.read c.facet-other.ensures.read in
    λ t tell are.
    let told =
    seam_law g.C.Cell.KIND g.row.D t c.args.self.now c.args.label c.args.tallies.now s x y None (Some c.in-Some-least_against.against)
    law.is_dimension law.has_dimension tell seam are in
    inr (record {
      forwards = told.0 c.in_default.ensures;
      facet = refl;
      other_facet = refl;
      other = told.1 c.in-Some-least_against.ensures;
    })

pub returns-in-None : goal.returns-in-None
returns-in-None g c =
    let law = g.met.C.Cell in
    let s = seam_of c.args.seam in
    let x = c.facet-facet.result.now in
    let y = c.facet-other.result.now in
    let seam =
    seam_read g.C.Cell.KIND g.row.D c.args.self.now s x y law.is_dimension law.has_dimension c.requires c.facet-facet.ensures.facet
    c.facet-other.ensures.facet c.facet-facet.ensures.read c.facet-other.ensures.read in
    λ t tell are.
    let told =
    seam_law g.C.Cell.KIND g.row.D t c.args.self.now c.args.label c.args.tallies.now s x y None None
    law.is_dimension law.has_dimension tell seam are in
    both_kept t c.args.label s (told.0 c.in_default.ensures) (told.1 c.in-None.ensures)
