use Rattle.std.proofs.Common.{rules, ◌≡◌, ◌<◌, true, length, take, get_or, sym, ap, ◌∙◌, subst, arith, below_more}
use Rattle.std.proofs.lemmas.List.{length-take-le, get_or-take}
use Rattle.iso_model.specs.declared.Kind.{Kind}
use Rattle.iso_model.specs.Cells.{edge_ends, edge_count}
use Rattle.iso_model.specs.Tables.{IsEntry, entry_of}
use Rattle.iso_model.specs.Acceptance.{rule_edges}
use Rattle.iso_model.proofs.DimensionLaws.{is_small_cell}
use Rattle.edge_sets.specs.Sets.{Suits, differs}
use Rattle.lists.proofs.Contained.{any_default}
use Rattle.mesh_placing.proofs.tests.keeps_rule.Goals as goal

pub bipolar_set-requires-clause-corners : goal.bipolar_set-requires-clause-corners
bipolar_set-requires-clause-corners g c k d h =
    let small = is_small_cell g.C.Cell.KIND g.row.D g.met.C.Cell.has_dimension in
    let long : length c.all_ends-all.result ≡ 32 = search rules in
    let whole : length (take c.EDGES.result c.all_ends-all.result) ≡ c.EDGES.result =
    length-take-le c.EDGES.result c.all_ends-all.result (omega (arith, long, c.EDGES.ensures, g.met.C.Cell.edges, small.edges)) in
    let inside : k < edge_count g.C.Cell.KIND g.row.D = omega (arith, h, whole, c.EDGES.ensures, g.met.C.Cell.edges) in
    let ends = g.met.C.Cell.ordered_ends k inside in
    let is : get_or (take c.EDGES.result c.all_ends-all.result) k d ≡ edge_ends g.C.Cell.KIND g.row.D k =
    any_default (take c.EDGES.result c.all_ends-all.result) k d (0, 0) h
    ∙ get_or-take c.EDGES.result c.all_ends-all.result k (0, 0) (omega (arith, h, whole))
    ∙ c.all_ends-all.ensures k (omega (arith, inside, g.met.C.Cell.edges)) in
    rw is (omega (arith, ends.0, ends.1, small.corners), omega (arith, ends.1, small.corners))

pub loop-label-preserved : goal.loop-label-preserved
loop-label-preserved g c =
    let kept : c.keeps_edges.result ≡ true = search rules in
    let small = is_small_cell g.C.Cell.KIND g.row.D g.met.C.Cell.has_dimension in
    let long : length c.all_ends-all.result ≡ 32 = search rules in
    let whole : length (take c.EDGES.result c.all_ends-all.result) ≡ edge_count g.C.Cell.KIND g.row.D =
    length-take-le c.EDGES.result c.all_ends-all.result (omega (arith, long, c.EDGES.ensures, g.met.C.Cell.edges, small.edges)) ∙ c.EDGES.ensures
    ∙ g.met.C.Cell.edges in
    let suits : Suits g.C.Cell.KIND g.row.D c.loop-label.label c.bipolar_set.result c.tuples.result.now = record {
      fits = g.met.C.Cell.has_dimension;
      tuples = (subst (λ (k : Kind). IsEntry k g.row.D c.tuples.result.now) c.requires c.tuples.ensures.sound).1;
      bipolar_is = λ e h.
          c.bipolar_set.ensures.members e (omega (arith, h, whole))
          ∙ ap (differs c.loop-label.label)
          (get_or-take c.EDGES.result c.all_ends-all.result e (0, 0) (omega (arith, h, c.EDGES.ensures, g.met.C.Cell.edges))
          ∙ c.all_ends-all.ensures e (omega (arith, h, g.met.C.Cell.edges)));
      others = λ e h. c.bipolar_set.ensures.others e (omega (arith, h, whole));
    } in
    below_more (λ label. rule_edges g.C.Cell.KIND g.row.D label (entry_of c.args.table.now label) ≡ true) c.loop-label.label c.loop-label.invariant
    (ap (rule_edges g.C.Cell.KIND g.row.D c.loop-label.label) (sym c.tuples.ensures.tuples)
    ∙ sym (c.keeps_edges.ensures g.C.Cell.KIND c.loop-label.label suits) ∙ kept)
