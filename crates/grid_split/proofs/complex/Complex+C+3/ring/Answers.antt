use Rattle.std.proofs.Common.{◌≡◌, ℕ, ◌+◌, ◌*◌, ◌<◌, ◌≤◌, List, length, arith, refl, sym, ◌∙◌, ap, subst, rules, Bool}
use Rattle.std.specs.Prelude.{slice_index, Contains}
use Rattle.iso_model.specs.declared.Kind.{Kind}
use Rattle.iso_model.specs.Splits.{Edge, cells_per_cube}
use Rattle.iso_model.specs.Neighbours.{IsRing}
use Rattle.grid_split.specs.Strides.{IsComplex}
use Rattle.split_checks.specs.CellsRound.{IsWay, AreRound}
use Rattle.split_laws.specs.RoundEdges.{IsEdge, IsMiddle, AreFit, IsArc}
use Rattle.grid_split.specs.EdgeEnds.{as_edge}
use Rattle.grid_split.proofs.CubeNumbers.{few_cubes}
use Rattle.split_laws.proofs.RingsOfEdges.{is_way, back_small, within, ring_is, ends_bounded}
use Rattle.grid_split.proofs.complex.Complex+C+3.ring.Goals as goal

pub middle-requires : goal.middle-requires
middle-requires g c =
    let inv =
    subst (λ (xs : List ℕ). IsComplex g.C.Cell.KIND 3 xs c.self.inside.spans c.self.inside.strides c.self.inside.count) c.self.view_is
    c.self.invariant in
    let e : Edge = as_edge c.args.edge.now in
    let cell : IsEdge g.C.Cell.KIND c.args.self.now e = c.requires.edge in
    record {
      few = λ i hi.
          let bound =
          ends_bounded g.C.Cell.KIND c.args.self.now inv.long 134217728 (few_cubes c.args.self.now inv.some inv.few) e cell.0 cell.1 cell.2 i hi in
          omega (arith, bound);
    }

pub cells_round-requires : goal.cells_round-requires
cells_round-requires g c =
    let inv =
    subst (λ (xs : List ℕ). IsComplex g.C.Cell.KIND 3 xs c.self.inside.spans c.self.inside.strides c.self.inside.count) c.self.view_is
    c.self.invariant in
    let e : Edge = as_edge c.args.edge.now in
    let cell : IsEdge g.C.Cell.KIND c.args.self.now e = c.requires.edge in
    record {
      way =
          subst (λ (k : Kind). IsWay k c.middle.result.1) (sym c.KIND.ensures)
          (is_way g.C.Cell.KIND c.args.self.now inv.long e c.middle.result.0 c.middle.result.1 c.middle.ensures cell.0 cell.1 cell.2);
    }

pub arc-requires : goal.arc-requires
arc-requires g c =
    let inv =
    subst (λ (xs : List ℕ). IsComplex g.C.Cell.KIND 3 xs c.self.inside.spans c.self.inside.strides c.self.inside.count) c.self.view_is
    c.self.invariant in
    let e : Edge = as_edge c.args.edge.now in
    let cell : IsEdge g.C.Cell.KIND c.args.self.now e = c.requires.edge in
    let round : AreRound g.C.Cell.KIND c.middle.result.1 c.cells_round.result.now =
    subst (λ (k : Kind). AreRound k c.middle.result.1 c.cells_round.result.now) c.KIND.ensures c.cells_round.ensures.round in (
      omega arith,
      record {
        axes = inv.long;
        few = c.cells_round.ensures.few;
        ranks = λ p listed. let h = round.has p listed in h.1.is_rank;
        backs = λ p listed.
            let h = round.has p listed in (
              h.1.axes,
              back_small g.C.Cell.KIND c.args.self.now inv.long e c.middle.result.0 c.middle.result.1 c.middle.ensures cell.0 cell.1 cell.2 p h.0 h.1,
            );
        inside = within g.C.Cell.KIND c.args.self.now inv.long e c.middle.result.0 c.middle.result.1 c.middle.ensures cell.0 cell.1 cell.2;
      },
    )

pub returns : goal.returns
returns g c =
    let inv =
    subst (λ (xs : List ℕ). IsComplex g.C.Cell.KIND 3 xs c.self.inside.spans c.self.inside.strides c.self.inside.count) c.self.view_is
    c.self.invariant in
    let e : Edge = as_edge c.args.edge.now in
    let cell : IsEdge g.C.Cell.KIND c.args.self.now e = c.requires.edge in
    let round : AreRound g.C.Cell.KIND c.middle.result.1 c.cells_round.result.now =
    subst (λ (k : Kind). AreRound k c.middle.result.1 c.cells_round.result.now) c.KIND.ensures c.cells_round.ensures.round in
    let arc : IsArc g.C.Cell.KIND c.args.self.now c.middle.result.0 c.cells_round.result.now c.arc.result.cells.items c.arc.result.closed =
    c.arc.ensures.arc in
    record {
      ring =
          subst (IsRing g.C.Cell.KIND c.args.self.now e c.arc.result.cells.items) (sym arc.whole)
          (ring_is g.C.Cell.KIND c.args.self.now inv.long e c.middle.result.0 c.middle.result.1 c.middle.ensures cell.0 cell.1 cell.2
          c.cells_round.result.now round c.arc.result.cells.items arc.at);
    }
