use Rattle.std.proofs.Common.{arith, ◌∙◌, ◌+◌, ◌%◌, ◌^◌, ◌<◌, ℕ, take, length}
use Rattle.std.specs.List.{sum}
use Rattle.edge_spectrum.proofs.StepSums.{count_more, counted_push}
use Rattle.edge_spectrum.proofs.differences.Differences.counts.Goals as goal
use Rattle.std.proofs.lemmas.Grind.{get_or_default_zero}

pub loop-place-preserved : goal.loop-place-preserved
loop-place-preserved c =
    let steps = c.args.self.now.steps.items in
    let place : ℕ = c.loop-place.place in
    let inside : place < length steps = omega (arith, c.loop-place-test.true, c.requires.sound.long) in
    let more = count_more steps place c.loop-place.count c.index.result.now inside c.loop-place.invariant.count
    (c.index.ensures ∙ get_or_default_zero steps place c.index.result.now inside) in
    record {
      count = more;
      counts = counted_push (λ i. sum (take (i + 1) steps) % 2 ^ 64) place ((c.loop-place.count + c.index.result.now) % 2 ^ 64) c.loop-place.counts.items
          c.push.new.counts.items c.loop-place.invariant.counts c.in_ok-push.ensures more;
    }
