use Rattle.std.proofs.Common.{ap, arith, ◌∙◌, ◌<◌, ◌≤◌, ◌≡◌, ◌^◌, ℕ, ℤ, pos, ◌-ℤ◌, ◌+ℤ◌, w64, to_z, nat_lt}
use Rattle.std.specs.Prelude.{unsigned_abs}
use Rattle.std.specs.Int.{int_max, int_min}
use Rattle.std.proofs.lemmas.Int.{to_z_pos}
use Rattle.edge_spectrum.proofs.StepSums.{between, reached_is, small_fits, wrapped_past}
use Rattle.edge_spectrum.proofs.differences.Differences.reached.Goals as goal

pub returns-clause-reached : goal.returns-clause-reached
returns-clause-reached c = λ i h.
    let from : ℤ = c.args.self.now.from in
    let value : ℤ = c.args.value in
    let n : ℕ = c.args.self.now.isovalues in
    let z : ℤ = c.clamp.result in
    let past = wrapped_past value from c.requires.small c.requires.sound.small in
    let short : n < 2 ^ 63 = omega (arith, c.requires.sound.few) in
    let most : to_z w64 n ≡ pos n = to_z_pos w64 n short in
    let is : z ≡ int_max (pos 0) (int_min ((value -ℤ from) +ℤ pos 1) (pos n)) =
    c.clamp.ensures.value ∙ (λ k. int_max (pos 0) (int_min (past k) (most k))) in
    let low : unsigned_abs z ≤ n = between z (to_z w64 n) n c.clamp.ensures.lower_bound c.clamp.ensures.upper_bound most in
    ap (λ y. nat_lt i (unsigned_abs y)) (small_fits z (omega (arith, low, c.requires.sound.few))) ∙ reached_is from value z n i is h
