use Rattle.std.proofs.Common.{◌<◌, ℤ, List, [], arith}
use Rattle.std.proofs.lemmas.List.Elements.{All-from_get_or}
use Rattle.polynomials.specs.Small.{AreSmall}
use Rattle.case_patch.proofs.SideTurnRows.{rows_are}
use Rattle.case_patch.proofs.sides.rows.Goals as goal

pub returns-clause-value : goal.returns-clause-value
returns-clause-value g c =
    let some : 0 < g.row.D = omega (arith, g.met.C.Cell.is_dimension) in
    rows_are g.C.Cell.KIND g.row.D c.args.label c.args.tuple.now c.loop-place.rows c.told-tuple some (omega arith)
    (λ k h. c.loop-place.invariant.same k (omega arith))

pub returns-clause-small : goal.returns-clause-small
returns-clause-small g c = All-from_get_or (λ (row : List ℤ). AreSmall 64 row) c.loop-place.rows [] (λ k h. c.loop-place.invariant.small k (omega arith))
