use Rattle.std.proofs.Common.{◌≡◌, ℕ, ◌+◌, ◌*◌, ◌<◌, List, ℤ, pos, Some, refl, sym, ◌∙◌, ap, subst, rules}
use Rattle.std.specs.Prelude.{◌↔◌, slice_index_or}
use Rattle.iso_model.specs.Cells.{facet_count}
use Rattle.iso_model.specs.Splits.{cells_per_cube}
use Rattle.iso_model.specs.Neighbours.{IsNeighbour}
use Rattle.grid_split.specs.Steps.{IsStep, LeavesCubes, IsShiftedCube}
use Rattle.grid_split.proofs.NeighbourFound.{steps_across, some_neighbour, some_inside, none_outside, none_neighbour}
use Rattle.grid_split.proofs.complex.Complex.neighbour.Goals as goal

pub shifted_number-requires : goal.shifted_number-requires
shifted_number-requires g c = (
  search rules,
  (
    search rules,
    (
      search rules,
      (
        c.cube_of-cube.ensures.inside,
        λ i h.
            subst (λ (s : List ℤ). IsStep (slice_index_or s i (pos 0))) (sym c.across-shift.ensures.shift)
            (steps_across g.C.Cell.KIND g.row.D c.rank_of.result c.args.facet i h),
      ),
    ),
  ),
)

pub returns-in-Some : goal.returns-in-Some
returns-in-Some g c =
    let hf : c.args.facet < facet_count g.C.Cell.KIND g.row.D = subst (λ (n : ℕ). c.args.facet < n) g.met.C.Cell.facets c.requires.facet in
    let hr : c.rank_of.result < cells_per_cube g.C.Cell.KIND g.row.D = subst (λ (n : ℕ). c.rank_of.result < n) g.met.C.Split.counted c.rank_of.ensures.below in
    let at : IsShiftedCube g.row.D c.args.self.now c.cube_of-cube.result c.across-shift.result.0 c.in-Some.number = c.in-Some.ensures.number in
    let is : c.from.result * c.per_cube.result + c.from-in-Some.result ≡ c.in-Some.number * cells_per_cube g.C.Cell.KIND g.row.D + c.across-shift.result.1 =
    ap (λ (n : ℕ). n * c.per_cube.result + c.from-in-Some.result) c.from.ensures
    ∙ ap (λ (n : ℕ). c.in-Some.number * n + c.from-in-Some.result) c.per_cube.ensures.count
    ∙ ap (λ (n : ℕ). c.in-Some.number * cells_per_cube g.C.Cell.KIND g.row.D + n) c.from-in-Some.ensures in
    let found = some_neighbour g.C.Cell.KIND c.args.self.now g.row.D c.args.cell c.args.facet c.rank_of.result c.across-shift.result.1
    c.across-shift.result.2 c.cube_of-cube.result c.across-shift.result.0 c.rank_of.ensures.axes c.requires.cell hf c.cube_of-cube.ensures.cube
    c.rank_of.ensures.rank c.across-shift.ensures.shift c.across-shift.ensures.across
    (λ other. g.met.C.Split.stands c.args.self.now c.rank_of.ensures.axes c.args.cell c.args.facet other c.requires.cell hf)
    (g.met.C.Split.leaves c.args.self.now c.rank_of.ensures.axes c.args.cell c.args.facet c.requires.cell hf)
    (λ p h across.
    let same =
    g.met.C.Split.one_across c.rank_of.result c.args.facet c.across-shift.result.1 c.across-shift.result.2 p h hr hf
    c.across-shift.ensures.across across in
    same.0)
    c.in-Some.number at in
    let inside = some_inside g.C.Cell.KIND c.args.self.now g.row.D c.args.cell c.args.facet c.rank_of.result c.across-shift.result.1
    c.across-shift.result.2 c.cube_of-cube.result c.across-shift.result.0 c.rank_of.ensures.axes c.requires.cell hf c.cube_of-cube.ensures.cube
    c.rank_of.ensures.rank c.across-shift.ensures.shift c.across-shift.ensures.across
    (λ other. g.met.C.Split.stands c.args.self.now c.rank_of.ensures.axes c.args.cell c.args.facet other c.requires.cell hf)
    (g.met.C.Split.leaves c.args.self.now c.rank_of.ensures.axes c.args.cell c.args.facet c.requires.cell hf)
    (λ p h across.
    let same =
    g.met.C.Split.one_across c.rank_of.result c.args.facet c.across-shift.result.1 c.across-shift.result.2 p h hr hf
    c.across-shift.ensures.across across in
    same.0)
    c.in-Some.number at in
    record {
      neighbour =
          λ other.
          subst (λ (n : ℕ). IsNeighbour g.C.Cell.KIND c.args.self.now c.args.cell c.args.facet other ↔ (Some n ≡ Some other)) (sym is)
          (found other);
      boundary = (λ e. absurd (cc), λ on. absurd (inside on));
    }

pub returns-in-None : goal.returns-in-None
returns-in-None g c =
    let hf : c.args.facet < facet_count g.C.Cell.KIND g.row.D = subst (λ (n : ℕ). c.args.facet < n) g.met.C.Cell.facets c.requires.facet in
    let hr : c.rank_of.result < cells_per_cube g.C.Cell.KIND g.row.D = subst (λ (n : ℕ). c.rank_of.result < n) g.met.C.Split.counted c.rank_of.ensures.below in
    let out : LeavesCubes g.row.D c.args.self.now c.cube_of-cube.result c.across-shift.result.0 = c.in-None.ensures.none in
    let on = none_outside g.C.Cell.KIND c.args.self.now g.row.D c.args.cell c.args.facet c.rank_of.result c.across-shift.result.1
    c.across-shift.result.2 c.cube_of-cube.result c.across-shift.result.0 c.rank_of.ensures.axes c.requires.cell hf c.cube_of-cube.ensures.cube
    c.rank_of.ensures.rank c.across-shift.ensures.shift c.across-shift.ensures.across
    (λ other. g.met.C.Split.stands c.args.self.now c.rank_of.ensures.axes c.args.cell c.args.facet other c.requires.cell hf)
    (g.met.C.Split.leaves c.args.self.now c.rank_of.ensures.axes c.args.cell c.args.facet c.requires.cell hf)
    (λ p h across.
    let same =
    g.met.C.Split.one_across c.rank_of.result c.args.facet c.across-shift.result.1 c.across-shift.result.2 p h hr hf
    c.across-shift.ensures.across across in
    same.0)
    out in
    let apart = none_neighbour g.C.Cell.KIND c.args.self.now g.row.D c.args.cell c.args.facet c.rank_of.result c.across-shift.result.1
    c.across-shift.result.2 c.cube_of-cube.result c.across-shift.result.0 c.rank_of.ensures.axes c.requires.cell hf c.cube_of-cube.ensures.cube
    c.rank_of.ensures.rank c.across-shift.ensures.shift c.across-shift.ensures.across
    (λ other. g.met.C.Split.stands c.args.self.now c.rank_of.ensures.axes c.args.cell c.args.facet other c.requires.cell hf)
    (g.met.C.Split.leaves c.args.self.now c.rank_of.ensures.axes c.args.cell c.args.facet c.requires.cell hf)
    (λ p h across.
    let same =
    g.met.C.Split.one_across c.rank_of.result c.args.facet c.across-shift.result.1 c.across-shift.result.2 p h hr hf
    c.across-shift.ensures.across across in
    same.0)
    out in
    record {
      neighbour = λ other. (λ nb. absurd (apart other nb), λ e. absurd (cc));
      boundary = (λ _. on, λ _. refl);
    }
