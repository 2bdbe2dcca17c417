use Rattle.std.proofs.Common.{◌≡◌, ℕ, ◌+◌, ◌<◌, List, length, pos, ◌+ℤ◌, ℤ, slice_index_or, arith, refl, sym, ◌∙◌, ap, subst, inl, inr, w8}
use Rattle.std.proofs.Common.{FitsSigned, to_z, of_z, below_more}
use Rattle.std.specs.Prelude.{slice_index}
use Rattle.std.proofs.lemmas.Int.{ints, to_z-of_z}
use Rattle.grid_split.specs.Strides.{IsComplex}
use Rattle.grid_split.specs.Steps.{IsStep, stepped}
use Rattle.grid_split.proofs.PlaceSums.{number_before, number_of, NumberOf, next_part}
use Rattle.grid_split.proofs.complex.Complex.shifted_number.Goals as goal

-- a step stays what it is where the code reads it
as_read : (s : ℤ) → IsStep s → to_z w8 (of_z w8 s) ≡ s
as_read s (inl e) = let fits : FitsSigned w8 s = omega (arith, ints, e) in rw to_z-of_z refl
as_read s (inr (inl e)) = let fits : FitsSigned w8 s = omega (arith, ints, e) in rw to_z-of_z refl
as_read s (inr (inr e)) = let fits : FitsSigned w8 s = omega (arith, ints, e) in rw to_z-of_z refl

pub step-requires : goal.step-requires
step-requires g c =
    let inv =
    subst (λ (xs : List ℕ). IsComplex g.C.Cell.KIND g.row.D xs c.self.inside.spans c.self.inside.strides c.self.inside.count) c.self.view_is
    c.self.invariant in
    let s : ℤ = slice_index_or c.args.shift.now c.loop-axis.axis (pos 0) in
    let is_step = c.requires.steps c.loop-axis.axis c.loop-axis-test.true in
    record {
      step = subst IsStep (sym (as_read s is_step)) is_step;
      inside = omega (arith, c.requires.inside c.loop-axis.axis c.loop-axis-test.true, inv.cubes_along.1 c.loop-axis.axis c.loop-axis-test.true);
    }

pub add_places-number-requires : goal.add_places-number-requires
add_places-number-requires g c =
    let inv =
    subst (λ (xs : List ℕ). IsComplex g.C.Cell.KIND g.row.D xs c.self.inside.spans c.self.inside.strides c.self.inside.count) c.self.view_is
    c.self.invariant in
    let s : ℤ = slice_index_or c.args.shift.now c.loop-axis.axis (pos 0) in
    let x : ℕ = slice_index_or c.args.cube.now c.loop-axis.axis 0 in
    let read = as_read s (c.requires.steps c.loop-axis.axis c.loop-axis-test.true) in
    let place_is : c.in-Some.place ≡ stepped x s = c.in-Some.ensures.some.1 ∙ ap (stepped x) read in
    let here : stepped x s + 1 < slice_index c.args.self.now c.loop-axis.axis =
    omega (arith, c.in-Some.ensures.some.0, place_is, inv.cubes_along.1 c.loop-axis.axis c.loop-axis-test.true) in
    let next =
    next_part c.args.self.now (λ i. stepped (slice_index_or c.args.cube.now i 0) (slice_index_or c.args.shift.now i (pos 0))) c.loop-axis.axis
    c.loop-axis.number c.in-Some.place (slice_index_or c.self.inside.strides c.loop-axis.axis 0) inv.some inv.few
    (omega (arith, inv.long, c.loop-axis-test.true))
    (below_more (λ i. stepped (slice_index_or c.args.cube.now i 0) (slice_index_or c.args.shift.now i (pos 0)) + 1 < slice_index c.args.self.now i)
    c.loop-axis.axis c.loop-axis.invariant.inside here)
    c.loop-axis.invariant.number place_is (inv.cubes_before.1 c.loop-axis.axis c.loop-axis-test.true) in
    next.0

pub loop-axis-preserved : goal.loop-axis-preserved
loop-axis-preserved g c =
    let inv =
    subst (λ (xs : List ℕ). IsComplex g.C.Cell.KIND g.row.D xs c.self.inside.spans c.self.inside.strides c.self.inside.count) c.self.view_is
    c.self.invariant in
    let s : ℤ = slice_index_or c.args.shift.now c.loop-axis.axis (pos 0) in
    let x : ℕ = slice_index_or c.args.cube.now c.loop-axis.axis 0 in
    let read = as_read s (c.requires.steps c.loop-axis.axis c.loop-axis-test.true) in
    let place_is : c.in-Some.place ≡ stepped x s = c.in-Some.ensures.some.1 ∙ ap (stepped x) read in
    let here : stepped x s + 1 < slice_index c.args.self.now c.loop-axis.axis =
    omega (arith, c.in-Some.ensures.some.0, place_is, inv.cubes_along.1 c.loop-axis.axis c.loop-axis-test.true) in
    let inside =
    below_more (λ i. stepped (slice_index_or c.args.cube.now i 0) (slice_index_or c.args.shift.now i (pos 0)) + 1 < slice_index c.args.self.now i)
    c.loop-axis.axis c.loop-axis.invariant.inside here in
    let next =
    next_part c.args.self.now (λ i. stepped (slice_index_or c.args.cube.now i 0) (slice_index_or c.args.shift.now i (pos 0))) c.loop-axis.axis
    c.loop-axis.number c.in-Some.place (slice_index_or c.self.inside.strides c.loop-axis.axis 0) inv.some inv.few
    (omega (arith, inv.long, c.loop-axis-test.true)) inside c.loop-axis.invariant.number place_is (inv.cubes_before.1 c.loop-axis.axis c.loop-axis-test.true) in
    record {
      number = c.add_places-number.ensures ∙ next.1;
      inside = inside;
      places =
          below_more
          (λ i.
          pos (stepped (slice_index_or c.args.cube.now i 0) (slice_index_or c.args.shift.now i (pos 0)))
          ≡ pos (slice_index_or c.args.cube.now i 0) +ℤ slice_index_or c.args.shift.now i (pos 0))
          c.loop-axis.axis c.loop-axis.invariant.places
          (ap pos (sym place_is) ∙ c.in-Some.ensures.some.2 ∙ ap (λ (z : ℤ). pos x +ℤ z) read);
    }

pub returns : goal.returns
returns g c =
    let inv =
    subst (λ (xs : List ℕ). IsComplex g.C.Cell.KIND g.row.D xs c.self.inside.spans c.self.inside.strides c.self.inside.count) c.self.view_is
    c.self.invariant in
    let at_end : c.loop-axis.axis ≡ length c.args.self.now = omega (arith, c.loop-axis-test.false, c.loop-axis.auto.axis-end, inv.long) in
    let number_is : number_before c.args.self.now (λ i. stepped (slice_index_or c.args.cube.now i 0) (slice_index_or c.args.shift.now i (pos 0)))
    (length c.args.self.now)
    ≡ c.loop-axis.number =
    sym
    (c.loop-axis.invariant.number
    ∙ ap (number_before c.args.self.now (λ i. stepped (slice_index_or c.args.cube.now i 0) (slice_index_or c.args.shift.now i (pos 0))))
    at_end)
    in
    let made =
    number_of c.args.self.now (λ i. stepped (slice_index_or c.args.cube.now i 0) (slice_index_or c.args.shift.now i (pos 0)))
    (λ i h. c.loop-axis.invariant.inside i (omega (arith, h, at_end))) in
    let found =
    subst (NumberOf c.args.self.now (λ i. stepped (slice_index_or c.args.cube.now i 0) (slice_index_or c.args.shift.now i (pos 0)))) number_is
    made in
    record {
      number = record {
        below = found.below;
        places = λ i h. ap pos (found.at i (omega (arith, h, inv.long))) ∙ c.loop-axis.invariant.places i (omega (arith, h, at_end, inv.long));
      };
      none = tt;
    }
