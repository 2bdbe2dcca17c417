use Rattle.std.proofs.Common.{ap, rules, ◌∙◌, ◌+◌, ◌*◌}
use Rattle.std.proofs.lemmas.List.{take_all}
use Rattle.std.specs.Prelude.{List, length, take, ℕ, ◌<◌, ◌≤◌}
use Rattle.layer_scan.specs.Corners.{some_of_four, some_corner}
use Rattle.layer_scan.proofs.CornerBits.{some_more}
use Rattle.layer_scan.proofs.WordTests.{or_words}
use Rattle.layer_scan.proofs.corners.CornerRows.some.Goals as goal

pub loop-number-preserved : goal.loop-number-preserved
loop-number-preserved c =
    let corners : List ℕ = c.args.self.now.row.corners in
    let i : ℕ = c.loop-number.number-index in
    let within : i < length corners = search rules in
    let before = some_corner c.args.self.now.lower.now c.args.self.now.upper.now (take i corners) in
    let near : List ℕ = c.row.result.now in
    let far : List ℕ = c.row-in-loop-number.result.now in
    λ k low.
    or_words before (some_of_four near far) c.args.w c.loop-number.some c.some_of_four-some.result c.loop-number.invariant c.some_of_four-some.ensures k low
    ∙ some_more c.args.self.now.lower.now c.args.self.now.upper.now corners i (64 * c.args.w + k) near far within c.row.ensures.row
    c.row-in-loop-number.ensures.row

pub returns : goal.returns
returns c =
    let corners : List ℕ = c.args.self.now.row.corners in
    let all : length corners ≤ c.loop-number.number-index = search rules in
    λ k low.
    c.loop-number.invariant k low
    ∙ ap (λ (ns : List ℕ). some_corner c.args.self.now.lower.now c.args.self.now.upper.now ns (64 * c.args.w + k))
    (take_all c.loop-number.number-index corners all)
