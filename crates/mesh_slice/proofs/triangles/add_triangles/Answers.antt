use Rattle.std.proofs.Common.{◌≡◌, ℕ, ◌<◌, List, ◌++◌, length, slice_index, ap, sym, ◌∙◌, subst, arith}
use Rattle.std.specs.Prelude.{◌==◌}
use Rattle.std.proofs.lemmas.List.{append-nil}
use Rattle.lists.specs.Orders.{is_odd_order}
use Rattle.lists.proofs.Results.{OnOk-weaker}
use Rattle.iso_model.specs.Tables.{entry_of}
use Rattle.cut_laws.specs.Cuts.{number_in, edge_of, label_of, late_label, link_at}
use Rattle.cut_laws.proofs.LateLabels.{no_triangles}
use Rattle.mesh_slice.specs.Slices.{late_by, Name}
use Rattle.mesh_slice.proofs.PlacedTriangles.{sixteen, local_edges, triangles_are}
use Rattle.mesh_slice.proofs.WholeCuts.{name_sorted}
use Rattle.mesh_slice.proofs.triangles.add_triangles.Goals as goal

pub label_of-requires : goal.label_of-requires
label_of-requires c =
    subst (Name (length c.args.late.now)) (sym c.in_order-corners.ensures) (name_sorted (length c.args.late.now) c.args.simplex.now c.requires.simplex.below)

pub tuples-tuples-requires : goal.tuples-tuples-requires
tuples-tuples-requires c =
    let all = sixteen c.args.cut.now c.requires.table c.requires.cells in
    (omega arith, (omega arith, omega (arith, all, c.label_of.ensures.few)))

pub link_numbers-places-requires-clause-corners : goal.link_numbers-places-requires-clause-corners
link_numbers-places-requires-clause-corners c =
    subst (Name (length c.args.late.now)) (sym c.in_order-corners.ensures) (name_sorted (length c.args.late.now) c.args.simplex.now c.requires.simplex.below)

pub add_placed-requires : goal.add_placed-requires
add_placed-requires c = local_edges c.args.cut.now.kind c.tuples-tuples.result.now c.requires.cells.kind c.tuples-tuples.ensures.sound

pub returns-then-is_cut : goal.returns-then-is_cut
returns-then-is_cut c =
    let late = late_by c.args.late.now in
    let corners = c.in_order-corners.ensures in
    let places : (e : ℕ) → e < 6 → slice_index c.link_numbers-places.result e ≡ number_in c.args.links.now (link_at c.args.simplex.now e) =
    λ e h. c.link_numbers-places.ensures e h ∙ ap (λ (ks : List ℕ). number_in c.args.links.now (edge_of ks e)) corners in
    let label : c.label_of.result ≡ late_label late c.args.simplex.now = c.label_of.ensures.label ∙ ap (label_of late) corners in
    let parity : (c.order_parity.result == 1) ≡ is_odd_order c.args.simplex.now = ap (λ (n : ℕ). n == 1) c.order_parity.ensures in
    let few = local_edges c.args.cut.now.kind c.tuples-tuples.result.now c.requires.cells.kind c.tuples-tuples.ensures.sound in
    let same = triangles_are late (c.order_parity.result == 1) c.link_numbers-places.result c.args.links.now c.args.cut.now c.args.simplex.now
    c.tuples-tuples.result.now few parity places (c.tuples-tuples.ensures.tuples ∙ ap (entry_of c.args.cut.now) label) in
    OnOk-weaker c.add_placed.result _ _ (λ e. e ∙ ap (λ (ws : List (List ℕ)). c.args.found.now.items ++ ws) same) c.add_placed.ensures

pub returns : goal.returns
returns c =
    let late = late_by c.args.late.now in
    let none = no_triangles (length c.args.late.now) late c.args.links.now c.args.cut.now c.args.simplex.now c.requires.ends c.requires.simplex
    (sym c.is_cut.ensures ∙ c.if-is_cut.false) in
    sym (ap (λ (ws : List (List ℕ)). c.args.found.now.items ++ ws) none ∙ append-nil c.args.found.now.items)
