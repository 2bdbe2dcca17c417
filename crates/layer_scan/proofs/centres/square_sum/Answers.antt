use Rattle.std.proofs.Common.{List, ap, arith, ◌∙◌, ◌≡◌, ◌+◌, ℤ, ◌+ℤ◌, pos, slice_index_or}
use Rattle.std.proofs.lemmas.Int.{ints}
use Rattle.layer_scan.proofs.CentreSums.{sum_of_two}
use Rattle.layer_scan.proofs.centres.square_sum.Goals as goal

four : (a b c d : ℤ) → (a +ℤ b) +ℤ (c +ℤ d) ≡ a +ℤ (b +ℤ (c +ℤ (d +ℤ pos 0)))
four a b c d = omega (arith, ints)

pub returns-clause-sum : goal.returns-clause-sum
returns-clause-sum c =
    let samples : List ℤ = c.args.samples.now in
    let a : ℤ = slice_index_or samples c.args.near (pos 0) in
    let b : ℤ = slice_index_or samples (c.args.near + 1) (pos 0) in
    let d : ℤ = slice_index_or samples c.args.far (pos 0) in
    let e : ℤ = slice_index_or samples (c.args.far + 1) (pos 0) in
    let second : ℤ = c.pair_sum-2.result in
    sum_of_two c.pair_sum.result second (omega (arith, c.pair_sum.ensures.small)) (omega (arith, c.pair_sum-2.ensures.small))
    ∙ ap (λ (z : ℤ). z +ℤ second) c.pair_sum.ensures.sum ∙ ap (λ (z : ℤ). (a +ℤ b) +ℤ z) c.pair_sum-2.ensures.sum ∙ four a b d e
