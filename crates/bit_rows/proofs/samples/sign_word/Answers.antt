use Rattle.std.proofs.Common.{ap, rules, sym, FitsSigned, ◌+◌, ◌*◌, ℤ, pos, slice_index_or, w64, to_z, of_z}
use Rattle.std.specs.Prelude.{int_le}
use Rattle.std.proofs.lemmas.Int.{to_z-of_z}
use Rattle.bit_rows.proofs.WordSets.{one_more_place}
use Rattle.bit_rows.proofs.samples.sign_word.Goals as goal

pub loop-place-preserved : goal.loop-place-preserved
loop-place-preserved c =
    let iso : ℤ = to_z w64 (of_z w64 c.args.iso) in
    let sample : ℤ = slice_index_or c.args.samples.now (64 * c.args.w + c.loop-place.place) (pos 0) in
    let fits : FitsSigned w64 sample = search rules in
    one_more_place (int_le iso) c.args.samples.now (64 * c.args.w) c.loop-place.place c.loop-place.word c.with_test-word.result
    (int_le iso (to_z w64 (of_z w64 sample))) (ap (int_le iso) (sym (to_z-of_z w64 sample fits))) c.loop-place.invariant c.with_test-word.ensures
