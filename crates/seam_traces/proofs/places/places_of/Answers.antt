use Rattle.std.proofs.Common.{◌<◌, ◌^◌, true, false, sym, ◌∙◌, arith}
use Rattle.std.proofs.Math.Pow.{pow-lt}
use Rattle.seam_traces.proofs.GatheredSteps.{places_more}
use Rattle.seam_traces.proofs.places.places_of.Goals.{then-has_member, else-has_member}
use Rattle.lists.proofs.Bits.{twice_power}
use Rattle.seam_traces.proofs.places.places_of.Goals as goal

pub loop-place-preserved : goal.loop-place-preserved
loop-place-preserved c =
    let members = c.args.members.now in
    let i = c.loop-place.place in
    elim c.if-has_member.branch [
      | then-has_member w ↦
          let e = places_more members i c.args.set 0 true c.loop-place-test.true (sym w.if-has_member.true ∙ c.has_member.ensures) in
          let small : 2 ^ i < 2 ^ 32 = pow-lt {i = i} {j = 32} (omega arith) in
          let more = twice_power i in
          let is = w.places-is in
          record { so_far = omega arith; few = omega arith }
      | else-has_member w ↦
          let e = places_more members i c.args.set 0 false c.loop-place-test.true (sym w.if-has_member.false ∙ c.has_member.ensures) in
          let more = twice_power i in
          let is = w.places-is in
          record { so_far = omega arith; few = omega arith }
    ]
