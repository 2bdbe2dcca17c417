use Rattle.std.proofs.Common.{◌≡◌, ℕ, ◌+◌, ◌-◌, ℤ, w64, to_z, of_z, ap, ◌∙◌, arith}
use Rattle.std.specs.Prelude.{not, int_le}
use Rattle.std.specs.List.{list_any}
use Rattle.mixed_cubes.specs.declared.cubes.CubePlace.{CubePlace}
use Rattle.mixed_cubes.specs.CubePlaces.{place_in_row}
use Rattle.mixed_cubes.specs.CubeFaces.{face_samples, is_mixed_from}
use Rattle.mixed_cubes.proofs.SampleRows.{one_more, by_signs}
use Rattle.mixed_cubes.proofs.cubes.add_row.Goals as goal

abbrev place_at : ℕ → ℕ → CubePlace
place_at number sample = record { number = number; sample = sample }

pub loop-place-preserved : goal.loop-place-preserved
loop-place-preserved c =
    let iso : ℤ = to_z w64 (of_z w64 c.args.iso) in
    let at : c.args.first + c.loop-place.place ≡ c.args.first + ((c.args.number + c.loop-place.place) - c.args.number) = omega arith in
    let next : c.args.first + c.loop-place.place + 1 ≡ c.args.first + (c.loop-place.place + 1) = omega arith in
    let cube : CubePlace = record { number = c.args.number + c.loop-place.place; sample = c.args.first + c.loop-place.place } in
    let stands : cube ≡ place_in_row c.args.first c.args.number (c.args.number + c.loop-place.place) =
    ap (λ (s : ℕ). place_at (c.args.number + c.loop-place.place) s) at in
    record {
      cubes =
          one_more (place_in_row c.args.first c.args.number)
          (λ k. is_mixed_from iso c.args.samples.now c.args.steps.now (c.args.first + (k - c.args.number))) c.args.cubes.now.items
          c.loop-place.cubes.items c.push_if.new.cubes.items cube c.args.number c.loop-place.place c.are_mixed.result
          c.loop-place.invariant.cubes
          (by_signs iso c.args.samples.now c.args.steps.now (c.args.first + c.loop-place.place) (c.args.first + c.loop-place.place + 1)
          c.loop-place.near.above c.loop-place.near.below c.face_signs-far.result.above c.face_signs-far.result.below c.are_mixed.result (omega arith)
          c.loop-place.invariant.above c.loop-place.invariant.below c.face_signs-far.ensures.above c.face_signs-far.ensures.below c.are_mixed.ensures
          ∙ ap (λ (n : ℕ). is_mixed_from iso c.args.samples.now c.args.steps.now n) at)
          stands c.in_ok-push_if.ensures;
      above = c.face_signs-far.ensures.above ∙ ap (λ (n : ℕ). list_any (λ s. int_le iso s) (face_samples c.args.samples.now c.args.steps.now n)) next;
      below = c.face_signs-far.ensures.below ∙ ap (λ (n : ℕ). list_any (λ s. not (int_le iso s)) (face_samples c.args.samples.now c.args.steps.now n)) next;
    }
