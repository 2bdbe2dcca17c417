use Rattle.std.proofs.Common.{rules, true, ◌≡◌}
use Rattle.std.specs.Prelude.{slice_index}
use Rattle.off_read.specs.Scans.{is_word_byte}
use Rattle.off_read.proofs.TakingLaws.{run_more}
use Rattle.off_read.proofs.reader.run_length.Goals as goal

pub loop-place-preserved : goal.loop-place-preserved
loop-place-preserved c =
    let good : is_word_byte (slice_index c.args.bytes.now c.loop-place.place) ≡ true = search rules in
    run_more c.args.bytes.now c.loop-place.place c.loop-place-test.true c.loop-place.invariant good
