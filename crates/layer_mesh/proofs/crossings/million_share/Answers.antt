use Rattle.std.proofs.Common.{rules, ◌≡◌, ◌*◌, ◌/◌, ◌<◌, ◌-ℤ◌, unsigned_abs, arith}
use Rattle.split_laws.proofs.Coordinates.{quotient_below}
use Rattle.layer_mesh.proofs.CrossedEnds.{lies_within}
use Rattle.layer_mesh.proofs.crossings.million_share.Goals as goal

pub returns-clause-small : goal.returns-clause-small
returns-clause-small c =
    let within = lies_within c.args.low c.args.high c.args.iso c.requires.bipolar in
    let part : c.abs_diff.result ≡ unsigned_abs (c.args.iso -ℤ c.args.low) = search rules in
    let way : c.abs_diff-2.result ≡ unsigned_abs (c.args.high -ℤ c.args.low) = search rules in
    let below : 1000000 * c.abs_diff.result / c.abs_diff-2.result < 1000001 =
    quotient_below c.abs_diff-2.result 1000001 (1000000 * c.abs_diff.result) (omega (arith, within.0, within.1, part, way)) in
    omega (arith, below)
