use Rattle.std.proofs.Common.{arith, ◌∙◌, pos, get_or, w64, lit<, length-set}
use Rattle.std.proofs.lemmas.Int.{to_z-of_z}
use Rattle.std.proofs.Common.{w32, ◌<◌, length}
use Rattle.polynomials.specs.Small.{IsSmall}
use Rattle.polynomials.proofs.SmallLaws.{small-fits_narrow, same_ints, copied_more}
use Rattle.small_turn.proofs.wide.Goals as goal

pub loop-i-preserved : goal.loop-i-preserved
loop-i-preserved g c =
    let p : c.loop-i.i < length c.args.row.now = omega arith in
    let small : IsSmall 64 (get_or c.args.row.now c.loop-i.i (pos 0)) = c.requires.small c.loop-i.i (pos 0) p in (
      length-set _ _ _ ∙ c.loop-i.invariant.0,
      copied_more c.loop-i.out c.args.row.now c.loop-i.i _ c.from.result (omega arith)
          (to_z-of_z w64 c.from.result (record { sfits = c.from.type_inv }))
          (c.from.ensures
          ∙ to_z-of_z w32 (get_or c.args.row.now c.loop-i.i (pos 0))
          (small-fits_narrow 64 (get_or c.args.row.now c.loop-i.i (pos 0)) small (lit< tt)))
          c.loop-i.invariant.1,
    )

pub returns : goal.returns
returns g c = same_ints c.loop-i.out c.args.row.now (omega arith) (λ k p. c.loop-i.invariant.1 k (omega arith))
