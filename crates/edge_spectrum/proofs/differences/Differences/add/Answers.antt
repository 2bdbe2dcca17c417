use Rattle.std.proofs.Common.{ap, arith, refl, ◌∙◌, ◌+◌, ◌%◌, ◌^◌, ◌<◌, ◌≡◌, ℕ, List, set, get_or, length}
use Rattle.std.specs.Prelude.{int_le, nat_lt}
use Rattle.std.proofs.lemmas.List.{length-set}
use Rattle.iso_model.specs.Bipolar.{differ}
use Rattle.edge_spectrum.specs.Growing.{count_at, one_if}
use Rattle.edge_spectrum.specs.Spectrum.{iso_after}
use Rattle.edge_spectrum.proofs.StepSums.{added, small_fits}
use Rattle.edge_spectrum.proofs.differences.Differences.add.Goals as goal
use Rattle.std.proofs.lemmas.Grind.{get_or_default_zero}

pub returns : goal.returns
returns c =
    let old : List ℕ = c.args.self.now.steps.items in
    let r : ℕ = c.reached-reached.result in
    let o : ℕ = c.reached-other_reached.result in
    let low : ℕ = c.min-low.result in
    let high : ℕ = c.max-high.result in
    let v : ℕ = (c.index.result.now + 1) % 2 ^ 64 in
    let w : ℕ = (c.index-2.result.now + 18446744073709551615) % 2 ^ 64 in
    let long : length old ≡ c.args.self.now.isovalues + 1 = c.requires.sound.long in
    let inside : r < length old = omega (arith, c.reached-reached.ensures.within, long) in
    let within : o < length old = omega (arith, c.reached-other_reached.ensures.within, long) in
    let low_in : low < length old = omega (arith, c.min-low.ensures, inside, within) in
    let high_in : high < length (set old low v) = omega (arith, c.max-high.ensures, inside, within, length-set old low v) in
    let first : v ≡ (get_or old low 0 + 1) % 2 ^ 64 = ap (λ n. (n + 1) % 2 ^ 64) (c.index.ensures ∙ get_or_default_zero old low c.index.result.now low_in) in
    let second : w ≡ (get_or (set old low v) high 0 + 18446744073709551615) % 2 ^ 64 =
    ap (λ n. (n + 18446744073709551615) % 2 ^ 64) (c.index-2.ensures ∙ get_or_default_zero (set old low v) high c.index-2.result.now high_in) in
    record {
      sound = record {
        few = c.requires.sound.few;
        small = c.requires.sound.small;
        long = length-set (set old low v) high w ∙ length-set old low v ∙ long;
      };
      from = refl;
      isovalues = refl;
      counts = λ i h.
          let one : nat_lt i r ≡ int_le (iso_after c.args.self.now.from i) c.args.value =
          c.reached-reached.ensures.reached i h ∙ ap (λ z. int_le (iso_after c.args.self.now.from i) z) (small_fits c.args.value c.requires.small) in
          let other : nat_lt i o ≡ int_le (iso_after c.args.self.now.from i) c.args.other =
          c.reached-other_reached.ensures.reached i h
          ∙ ap (λ z. int_le (iso_after c.args.self.now.from i) z) (small_fits c.args.other c.requires.other_small) in
          added old i r o low high v w c.min-low.ensures c.max-high.ensures inside within first second
          ∙ (λ k. (count_at c.args.self.now i + one_if (differ (one k) (other k))) % 2 ^ 64);
    }
