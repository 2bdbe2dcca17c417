use Rattle.std.proofs.Common.{◌≡◌, ℕ, ◌+◌, ◌*◌, ◌<◌, ◌≤◌, true, List, length, slice_set, sym, ap, ◌∙◌, subst, arith, below_more}
use Rattle.std.specs.Prelude.{slice_index}
use Rattle.std.proofs.Math.ListN.{length-set}
use Rattle.std.proofs.lemmas.Bool.{false≢true}
use Rattle.iso_model.specs.Splits as Splits
use Rattle.iso_model.specs.Bipolar.{is_bipolar_in, place_in}
use Rattle.iso_model.specs.Cells.{edge_count}
use Rattle.iso_model.proofs.DimensionLaws.{is_small_cell}
use Rattle.edge_vertex.specs.EdgeValue.{edge_of}
use Rattle.iso_model.proofs.CellCounts.{few_axes}
use Rattle.mesh_placing.specs.Placing.{ArePlaces}
use Rattle.mesh_placing.proofs.FilledLists.{set_next}
use Rattle.mesh_placing.proofs.places.cell_places.Goals as goal
use Rattle.mesh_placing.proofs.places.cell_places.Goals.{then-is_bipolar, else-is_bipolar}

pub place_of-requires : goal.place_of-requires
place_of-requires g c =
    let few : g.row.D ≤ 4 = few_axes g.row.D g.met.C.Cell.is_dimension in
    let there = c.requires.listed in
    let n : ℕ = c.loop-edge.edge in
    let e : Splits.Edge = Splits.edge g.C.Cell.KIND there.grid.sizes (there.number * g.C.Split.PER_CUBE + c.args.rank) n in
    let low : c.edge.result.low ≡ e.low = c.edge.ensures.low there.grid there.iso there.number there.axes there.was_read in
    let high : c.edge.result.high ≡ e.high = c.edge.ensures.high there.grid there.iso there.number there.axes there.was_read in
    let is : edge_of c.edge.result ≡ e = λ i. record { low = low i; high = high i } in
    let below : n < edge_count g.C.Cell.KIND g.row.D = omega (arith, c.loop-edge-test.true, c.EDGES-edge-end.ensures, g.met.C.Cell.edges) in
    let listed : place_in c.args.edges.now (edge_of c.edge.result) < length c.args.edges.now =
    subst (λ (x : Splits.Edge). place_in c.args.edges.now x < length c.args.edges.now) (sym is)
    (there.listed n below (sym c.is_bipolar.ensures ∙ c.if-is_bipolar.true)) in
    (omega arith, (omega (arith, few), listed))

pub bounds-places-edge : goal.bounds-places-edge
bounds-places-edge g c =
    let small = is_small_cell g.C.Cell.KIND g.row.D g.met.C.Cell.has_dimension in
    omega (arith, c.loop-edge-test.true, c.EDGES-edge-end.ensures, g.met.C.Cell.edges, small.edges)

pub loop-edge-preserved : goal.loop-edge-preserved
loop-edge-preserved g c =
    let n : ℕ = c.loop-edge.edge in
    let P : List ℕ → ℕ → ℕ → ℕ → Type 0 =
    λ sizes cell e x.
    is_bipolar_in g.C.Cell.KIND g.row.D c.args.label e ≡ true → x ≡ place_in c.args.edges.now (Splits.edge g.C.Cell.KIND sizes cell e) in
    let small = is_small_cell g.C.Cell.KIND g.row.D g.met.C.Cell.has_dimension in
    let inside : n < 32 = omega (arith, c.loop-edge-test.true, c.EDGES-edge-end.ensures, g.met.C.Cell.edges, small.edges) in
    elim c.if-is_bipolar.branch [
      | then-is_bipolar w ↦ (
        subst (λ (xs : List ℕ). length xs ≡ 32) (sym w.places-is) (simp length-set c.loop-edge.invariant.0),
        λ s iso number axes is.
            let cell : ℕ = number * g.C.Split.PER_CUBE + c.args.rank in
            let e : Splits.Edge = Splits.edge g.C.Cell.KIND s.sizes cell n in
            let low : w.edge.result.low ≡ e.low = w.edge.ensures.low s iso number axes is in
            let high : w.edge.result.high ≡ e.high = w.edge.ensures.high s iso number axes is in
            let same : edge_of w.edge.result ≡ e = λ i. record { low = low i; high = high i } in
            let here : P s.sizes cell n w.place_of.result = λ h. w.place_of.ensures ∙ ap (place_in c.args.edges.now) same in
            let next : (length (slice_set c.loop-edge.places n w.place_of.result) ≡ 32)
            × ((i : ℕ) → i < n + 1 → P s.sizes cell i (slice_index (slice_set c.loop-edge.places n w.place_of.result) i)) =
            set_next (P s.sizes cell) 0 c.loop-edge.places n 32 w.place_of.result c.loop-edge.invariant.0 inside
            (c.loop-edge.invariant.1 s iso number axes is) here in
            subst (λ (xs : List ℕ). ArePlaces g.C.Cell.KIND g.row.D s.sizes c.args.edges.now cell c.args.label (n + 1) xs) (sym w.places-is) next.1,
      )
      | else-is_bipolar w ↦ (
        subst (λ (xs : List ℕ). length xs ≡ 32) (sym w.places-is) c.loop-edge.invariant.0,
        λ s iso number axes is.
            let cell : ℕ = number * g.C.Split.PER_CUBE + c.args.rank in
            subst (λ (xs : List ℕ). ArePlaces g.C.Cell.KIND g.row.D s.sizes c.args.edges.now cell c.args.label (n + 1) xs) (sym w.places-is)
            (below_more (λ i. P s.sizes cell i (slice_index c.loop-edge.places i)) n (c.loop-edge.invariant.1 s iso number axes is)
            (λ h. absurd (false≢true (sym w.if-is_bipolar.false ∙ c.is_bipolar.ensures ∙ h)))),
      )
    ]

pub returns : goal.returns
returns g c = λ s iso number axes is.
    let all : c.loop-edge.edge ≡ g.C.Cell.EDGES = omega (arith, c.loop-edge-test.false, c.loop-edge.auto.edge-end, c.EDGES-edge-end.ensures) in
    subst
    (λ (n : ℕ).
    ArePlaces g.C.Cell.KIND g.row.D s.sizes c.args.edges.now (number * g.C.Split.PER_CUBE + c.args.rank) c.args.label n c.loop-edge.places)
    all (c.loop-edge.invariant.1 s iso number axes is)
