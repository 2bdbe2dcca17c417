use Rattle.std.proofs.Common.{◌≡◌, ◌+◌, ◌∙◌, sym, ap, subst, length, All, List, ℕ, arith}
use Rattle.std.proofs.lemmas.List.{with_items_is}
use Rattle.iso_model.specs.declared.Kind.{Kind}
use Rattle.iso_model.specs.Cells.{facet_count}
use Rattle.iso_model.specs.Tables.{entry_of}
use Rattle.face_tallies.specs.declared.faces.FaceTally.{FaceTally}
use Rattle.face_tallies.specs.Tallies.{AreTallies}
use Rattle.seam_traces.specs.declared.facets.Facet.{Facet}
use Rattle.seam_traces.specs.Kept.{IsSound, AreFacetsOf, EachTakesLabel, TellLabels}
use Rattle.seam_traces.proofs.TraceTables.{facets_sound, facets_taken, tells_more, tells_none}
use Rattle.seam_traces.proofs.run_traces.RunTraces.gather.Goals as goal

pub add_label-requires : goal.add_label-requires
add_label-requires g c =
    let law = g.met.C.Cell in
    subst (λ (xs : List Facet). All IsSound xs) (sym c.deref_mut.ensures.value)
    (facets_sound g.C.Cell.KIND g.row.D c.loop-label.facets.items law.is_dimension law.has_dimension c.loop-label.invariant.facets)

pub loop-label-init : goal.loop-label-init
loop-label-init g c =
    let are = c.in_ok-facets.ensures.are_facets in
    let d = c.kind-kind.ensures.dimension in
    let count : length c.in_ok-facets.facets.items ≡ facet_count c.args.table.now.kind c.args.table.now.dimension =
    are.count ∙ sym (ap (λ (k : Kind). facet_count k g.row.D) c.requires.kind) ∙ sym (ap (λ (n : ℕ). facet_count c.args.table.now.kind n) d) in
    record {
      facets = are;
      run = omega arith;
      labels = tells_none c.args.table.now c.args.from c.in_ok-facets.facets.items c.in_ok-facets.ensures.never count;
    }

pub loop-label-preserved : goal.loop-label-preserved
loop-label-preserved g c =
    let law = g.met.C.Cell in
    let t = c.args.table.now in
    let n = c.loop-label.label in
    let old = c.loop-label.facets.items in
    let new = c.add_label.new.facets in
    let tallies = c.tally.new.tallies.items in
    let takes : EachTakesLabel n tallies old new =
    subst (λ (ts : List FaceTally). EachTakesLabel n ts old new) c.deref.ensures.value
    (subst (λ (xs : List Facet). EachTakesLabel n c.deref.result.now xs new) c.deref_mut.ensures.value c.in_ok-add_label.ensures) in
    let are : AreTallies g.row.D (entry_of t n) tallies = subst (λ ws. AreTallies g.row.D ws tallies) c.tuples.ensures.tuples c.in_ok-tally.ensures in
    let e =
    with_items_is c.loop-label.facets new
    (takes.count ∙ ap (λ (xs : List Facet). length xs) (sym c.deref_mut.ensures.value) ∙ c.deref_mut.ensures.len) in
    record {
      facets =
          subst (λ xs. AreFacetsOf g.C.Cell.KIND g.row.D xs) (sym e)
          (facets_taken g.C.Cell.KIND g.row.D n tallies old new c.loop-label.invariant.facets takes);
      run = let low = c.loop-label.invariant.run in omega arith;
      labels = subst (λ xs. TellLabels t c.args.from (n + 1) xs) (sym e)
          (tells_more g.C.Cell.KIND g.row.D t c.args.from n tallies old new c.requires.kind c.kind-kind.ensures.dimension law.is_dimension
          law.has_dimension c.loop-label.invariant.facets c.loop-label.invariant.run are takes c.loop-label.invariant.labels);
    }

pub returns-clause-tell : goal.returns-clause-tell
returns-clause-tell g c =
    let last : c.loop-label.label ≡ c.args.to = omega (arith, c.loop-label-test.false, c.loop-label.auto.label-end, c.requires.run) in
    record {
      kind_is = c.requires.kind;
      dimension_is = c.kind-kind.ensures.dimension;
      labels = subst (λ n. TellLabels c.args.table.now c.args.from n c.loop-label.facets.items) last c.loop-label.invariant.labels;
    }
