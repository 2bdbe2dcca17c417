use Rattle.std.proofs.Common.{◌≡◌, ℕ, ◌+◌, ◌-◌, ◌*◌, ◌<◌, ◌≤◌, List, length, slice_index_or, arith, refl, sym, ◌∙◌, ap, subst, below_more, Fits, w64}
use Rattle.std.proofs.Math.Nat.{mul-le-mul_left}
use Rattle.std.specs.Prelude.{slice_index}
use Rattle.iso_model.specs.Splits.{cells_per_cube, cube_count}
use Rattle.split_laws.specs.RoundEdges.{StandsAt}
use Rattle.grid_split.specs.Strides.{IsComplex}
use Rattle.split_laws.proofs.PlacesThere.{stands_from}
use Rattle.grid_split.proofs.CubeNumbers.{few_in_all}
use Rattle.grid_split.proofs.PlaceSums.{number_before, number_of, NumberOf, next_part}
use Rattle.grid_split.proofs.complex.Complex+C+3.cell_at.Goals as goal

pub add_places-number-requires : goal.add_places-number-requires
add_places-number-requires g c =
    let inv =
    subst (λ (xs : List ℕ). IsComplex g.C.Cell.KIND 3 xs c.self.inside.spans c.self.inside.strides c.self.inside.count) c.self.view_is
    c.self.invariant in
    let axis : ℕ = c.loop-axis.axis in
    let f = λ (i : ℕ). slice_index_or c.args.cube.now i 0 - slice_index_or c.args.place.now.back i 0 in
    let some = c.in-Some.ensures.some in
    let place_is : c.in-Some.x ≡ f axis = omega (arith, some.1) in
    let here : f axis + 1 < slice_index c.args.self.now axis = omega (arith, some.0, place_is, inv.cubes_along.1 axis c.loop-axis-test.true) in
    let next =
    next_part c.args.self.now f axis c.loop-axis.number c.in-Some.x (slice_index_or c.self.inside.strides axis 0) inv.some inv.few
    (omega (arith, inv.long, c.loop-axis-test.true))
    (below_more (λ i. f i + 1 < slice_index c.args.self.now i) axis c.loop-axis.invariant.inside here)
    c.loop-axis.invariant.number place_is (inv.cubes_before.1 axis c.loop-axis-test.true) in
    next.0

pub loop-axis-preserved : goal.loop-axis-preserved
loop-axis-preserved g c =
    let inv =
    subst (λ (xs : List ℕ). IsComplex g.C.Cell.KIND 3 xs c.self.inside.spans c.self.inside.strides c.self.inside.count) c.self.view_is
    c.self.invariant in
    let axis : ℕ = c.loop-axis.axis in
    let f = λ (i : ℕ). slice_index_or c.args.cube.now i 0 - slice_index_or c.args.place.now.back i 0 in
    let some = c.in-Some.ensures.some in
    let place_is : c.in-Some.x ≡ f axis = omega (arith, some.1) in
    let here : f axis + 1 < slice_index c.args.self.now axis = omega (arith, some.0, place_is, inv.cubes_along.1 axis c.loop-axis-test.true) in
    let inside = below_more (λ i. f i + 1 < slice_index c.args.self.now i) axis c.loop-axis.invariant.inside here in
    let next =
    next_part c.args.self.now f axis c.loop-axis.number c.in-Some.x (slice_index_or c.self.inside.strides axis 0) inv.some inv.few
    (omega (arith, inv.long, c.loop-axis-test.true)) inside c.loop-axis.invariant.number place_is (inv.cubes_before.1 axis c.loop-axis-test.true) in
    record {
      number = c.add_places-number.ensures ∙ next.1;
      inside = inside;
      places =
          below_more (λ i. slice_index_or c.args.place.now.back i 0 ≤ slice_index_or c.args.cube.now i 0) axis c.loop-axis.invariant.places
          (omega (arith, some.1));
    }

pub overflow_mul-result : goal.overflow_mul-result
overflow_mul-result g c =
    let inv =
    subst (λ (xs : List ℕ). IsComplex g.C.Cell.KIND 3 xs c.self.inside.spans c.self.inside.strides c.self.inside.count) c.self.view_is
    c.self.invariant in
    let f = λ (i : ℕ). slice_index_or c.args.cube.now i 0 - slice_index_or c.args.place.now.back i 0 in
    let at_end : c.loop-axis.axis ≡ length c.args.self.now = omega (arith, c.loop-axis-test.false, c.loop-axis.auto.axis-end, inv.long) in
    let number_is : number_before c.args.self.now f (length c.args.self.now) ≡ c.loop-axis.number =
    sym (c.loop-axis.invariant.number ∙ ap (number_before c.args.self.now f) at_end) in
    let made = number_of c.args.self.now f (λ i h. c.loop-axis.invariant.inside i (omega (arith, h, at_end))) in
    let found = subst (NumberOf c.args.self.now f) number_is made in
    let few = few_in_all c.args.self.now inv.some inv.few in
    let more : c.from.result * c.per_cube.result ≤ c.from.result * 24 = mul-le-mul_left c.from.result c.per_cube.ensures.few in
    omega (arith, more, found.below, few, c.from.ensures)

pub overflow_add-result : goal.overflow_add-result
overflow_add-result g c =
    let inv =
    subst (λ (xs : List ℕ). IsComplex g.C.Cell.KIND 3 xs c.self.inside.spans c.self.inside.strides c.self.inside.count) c.self.view_is
    c.self.invariant in
    let f = λ (i : ℕ). slice_index_or c.args.cube.now i 0 - slice_index_or c.args.place.now.back i 0 in
    let at_end : c.loop-axis.axis ≡ length c.args.self.now = omega (arith, c.loop-axis-test.false, c.loop-axis.auto.axis-end, inv.long) in
    let number_is : number_before c.args.self.now f (length c.args.self.now) ≡ c.loop-axis.number =
    sym (c.loop-axis.invariant.number ∙ ap (number_before c.args.self.now f) at_end) in
    let made = number_of c.args.self.now f (λ i h. c.loop-axis.invariant.inside i (omega (arith, h, at_end))) in
    let found = subst (NumberOf c.args.self.now f) number_is made in
    let few = few_in_all c.args.self.now inv.some inv.few in
    let more : c.from.result * c.per_cube.result ≤ c.from.result * 24 = mul-le-mul_left c.from.result c.per_cube.ensures.few in
    let rank : c.args.place.now.rank < 24 = omega (arith, c.requires.rank, c.per_cube.ensures.few, c.per_cube.ensures.ranks) in
    omega (arith, more, found.below, few, c.from.ensures, c.from-2.ensures, rank)

pub returns-clause-some : goal.returns-clause-some
returns-clause-some g c =
    let inv =
    subst (λ (xs : List ℕ). IsComplex g.C.Cell.KIND 3 xs c.self.inside.spans c.self.inside.strides c.self.inside.count) c.self.view_is
    c.self.invariant in
    let f = λ (i : ℕ). slice_index_or c.args.cube.now i 0 - slice_index_or c.args.place.now.back i 0 in
    let at_end : c.loop-axis.axis ≡ length c.args.self.now = omega (arith, c.loop-axis-test.false, c.loop-axis.auto.axis-end, inv.long) in
    let number_is : number_before c.args.self.now f (length c.args.self.now) ≡ c.loop-axis.number =
    sym (c.loop-axis.invariant.number ∙ ap (number_before c.args.self.now f) at_end) in
    let made = number_of c.args.self.now f (λ i h. c.loop-axis.invariant.inside i (omega (arith, h, at_end))) in
    let found = subst (NumberOf c.args.self.now f) number_is made in
    let rank : c.args.place.now.rank < cells_per_cube g.C.Cell.KIND 3 =
    subst (λ (n : ℕ). c.args.place.now.rank < n) g.met.C.Split.counted c.requires.rank in
    let stands =
    stands_from g.C.Cell.KIND c.args.self.now c.args.cube.now c.args.place.now c.loop-axis.number inv.long found.below rank
    (λ i hi. omega (arith, found.at i (omega (arith, hi, inv.long)), c.loop-axis.invariant.places i (omega (arith, hi, at_end, inv.long)))) in
    let same : c.from.result * c.per_cube.result + c.from-2.result ≡ c.loop-axis.number * cells_per_cube g.C.Cell.KIND 3 + c.args.place.now.rank =
    ap (λ (n : ℕ). n * c.per_cube.result + c.from-2.result) c.from.ensures
    ∙ ap (λ (n : ℕ). c.loop-axis.number * n + c.from-2.result) c.per_cube.ensures.count
    ∙ ap (λ (n : ℕ). c.loop-axis.number * cells_per_cube g.C.Cell.KIND 3 + n) c.from-2.ensures in
    subst (StandsAt g.C.Cell.KIND c.args.self.now c.args.cube.now c.args.place.now) (sym same) stands
