use Rattle.std.proofs.Common.{ap, rules, sym, FitsSigned, ◌∙◌, ◌+◌, ◌*◌, ℤ, pos, slice_index_or, w64, to_z, of_z}
use Rattle.std.specs.Prelude.{Some}
use Rattle.std.proofs.lemmas.Int.{to_z-of_z}
use Rattle.bit_rows.specs.SampleRows.{is_clear}
use Rattle.bit_rows.proofs.WordSets.{one_more_place}
use Rattle.bit_rows.proofs.samples.other_word.Goals as goal

pub loop-place-preserved : goal.loop-place-preserved
loop-place-preserved c =
    let value : ℤ = to_z w64 (of_z w64 c.args.value) in
    let sample : ℤ = slice_index_or c.args.samples.now (64 * c.args.w + c.loop-place.place) (pos 0) in
    let fits : FitsSigned w64 sample = search rules in
    one_more_place (is_clear (Some value)) c.args.samples.now (64 * c.args.w) c.loop-place.place c.loop-place.word c.with_test-word.result
    c.is_other.result (ap (is_clear (Some value)) (sym (to_z-of_z w64 sample fits)) ∙ sym c.is_other.ensures) c.loop-place.invariant c.with_test-word.ensures
