use Rattle.std.proofs.Common.{◌≡◌, ℕ, ◌+◌, ◌/◌, ◌%◌, ◌<◌, List, slice_index_or, arith, rules, refl, sym, ◌∙◌, subst}
use Rattle.std.specs.Prelude.{slice_index}
use Rattle.iso_model.specs.Splits.{cells_per_cube, cube_at}
use Rattle.split_laws.proofs.Coordinates.{lists_same, length-cube_at, cube_below}
use Rattle.grid_split.specs.Strides.{IsComplex}
use Rattle.grid_split.proofs.CubeNumbers.{next_axis, few_in_all, few_cubes, put_length, put_next, cube_number_in, cube_of_is}
use Rattle.grid_split.proofs.complex.Complex.cube_of.Goals as goal

pub overflow_cast-rest : goal.overflow_cast-rest
overflow_cast-rest g c =
    let inv =
    subst (λ (xs : List ℕ). IsComplex g.C.Cell.KIND g.row.D xs c.self.inside.spans c.self.inside.strides c.self.inside.count) c.self.view_is
    c.self.invariant in
    let number = cube_number_in g.C.Cell.KIND c.args.self.now g.row.D c.args.cell inv.long c.requires in
    let few = few_in_all c.args.self.now inv.some inv.few in
    rw c.per_cube.ensures.count (omega (arith, number, few))

pub loop-axis-init : goal.loop-axis-init
loop-axis-init g c =
    let inv =
    subst (λ (xs : List ℕ). IsComplex g.C.Cell.KIND g.row.D xs c.self.inside.spans c.self.inside.strides c.self.inside.count) c.self.view_is
    c.self.invariant in
    record {
      long = search rules;
      left = rw c.per_cube.ensures.count (cube_number_in g.C.Cell.KIND c.args.self.now g.row.D c.args.cell inv.long c.requires);
      others = rw c.per_cube.ensures.count refl;
      places = λ i h. absurd (omega (arith, h));
    }

pub nonzero_rem-cube : goal.nonzero_rem-cube
nonzero_rem-cube g c =
    let inv =
    subst (λ (xs : List ℕ). IsComplex g.C.Cell.KIND g.row.D xs c.self.inside.spans c.self.inside.strides c.self.inside.count) c.self.view_is
    c.self.invariant in
    let next =
    next_axis c.args.self.now (c.args.cell / cells_per_cube g.C.Cell.KIND g.row.D) c.loop-axis.axis c.loop-axis.rest
    (slice_index_or c.self.inside.spans c.loop-axis.axis 0) (omega (arith, inv.long, c.loop-axis-test.true))
    (inv.cubes_along.1 c.loop-axis.axis c.loop-axis-test.true) c.loop-axis.invariant.left c.loop-axis.invariant.others in
    omega (arith, next.some)

pub nonzero_div-rest-in-loop-axis : goal.nonzero_div-rest-in-loop-axis
nonzero_div-rest-in-loop-axis g c =
    let inv =
    subst (λ (xs : List ℕ). IsComplex g.C.Cell.KIND g.row.D xs c.self.inside.spans c.self.inside.strides c.self.inside.count) c.self.view_is
    c.self.invariant in
    let next =
    next_axis c.args.self.now (c.args.cell / cells_per_cube g.C.Cell.KIND g.row.D) c.loop-axis.axis c.loop-axis.rest
    (slice_index_or c.self.inside.spans c.loop-axis.axis 0) (omega (arith, inv.long, c.loop-axis-test.true))
    (inv.cubes_along.1 c.loop-axis.axis c.loop-axis-test.true) c.loop-axis.invariant.left c.loop-axis.invariant.others in
    omega (arith, next.some)

pub loop-axis-preserved : goal.loop-axis-preserved
loop-axis-preserved g c =
    let inv =
    subst (λ (xs : List ℕ). IsComplex g.C.Cell.KIND g.row.D xs c.self.inside.spans c.self.inside.strides c.self.inside.count) c.self.view_is
    c.self.invariant in
    let q : ℕ = c.args.cell / cells_per_cube g.C.Cell.KIND g.row.D in
    let span : ℕ = slice_index_or c.self.inside.spans c.loop-axis.axis 0 in
    let next =
    next_axis c.args.self.now q c.loop-axis.axis c.loop-axis.rest span (omega (arith, inv.long, c.loop-axis-test.true))
    (inv.cubes_along.1 c.loop-axis.axis c.loop-axis-test.true) c.loop-axis.invariant.left c.loop-axis.invariant.others in
    record {
      long = put_length c.loop-axis.cube c.loop-axis.axis g.row.D (c.loop-axis.rest % span) c.loop-axis.invariant.long;
      left = next.left;
      others = next.others;
      places =
          put_next (λ i. slice_index_or (cube_at c.args.self.now q) i 0) c.loop-axis.cube c.loop-axis.axis g.row.D (c.loop-axis.rest % span)
          c.loop-axis.invariant.long c.loop-axis-test.true c.loop-axis.invariant.places (sym next.place);
    }

pub returns : goal.returns
returns g c =
    let inv =
    subst (λ (xs : List ℕ). IsComplex g.C.Cell.KIND g.row.D xs c.self.inside.spans c.self.inside.strides c.self.inside.count) c.self.view_is
    c.self.invariant in
    let q : ℕ = c.args.cell / cells_per_cube g.C.Cell.KIND g.row.D in
    let number = cube_number_in g.C.Cell.KIND c.args.self.now g.row.D c.args.cell inv.long c.requires in
    let found : c.loop-axis.cube ≡ cube_at c.args.self.now q =
    lists_same c.loop-axis.cube (cube_at c.args.self.now q) (c.loop-axis.invariant.long ∙ sym inv.long ∙ sym (length-cube_at c.args.self.now q))
    (λ i h. c.loop-axis.invariant.places i (omega (arith, h, c.loop-axis.invariant.long, c.loop-axis-test.false))) in
    let inside : (i : ℕ) → i < g.row.D → slice_index c.loop-axis.cube i + 1 < slice_index c.args.self.now i =
    λ i h. rw found (cube_below c.args.self.now q number i (omega (arith, h, inv.long))) in
    record {
      cube = found ∙ cube_of_is g.C.Cell.KIND c.args.self.now g.row.D c.args.cell inv.long;
      inside = inside;
      few = λ i h. omega (arith, inside i h, few_cubes c.args.self.now inv.some inv.few i (omega (arith, h, inv.long)));
    }
