-- Numbers of edges that are written to an array, row by row.
use Rattle.std.proofs.Common.{ap, arith, inl, inr, refl, sym, ◌∙◌}
use Rattle.std.proofs.lemmas.Bool.{cases_lt}
use Rattle.std.specs.Prelude.{List, length, slice_index, slice_index_or, suc, zero, ℕ, ◌*◌, ◌+◌, ◌<◌, ◌≤◌, ◌≡◌}
use Rattle.lists.proofs.Tests.{next_below}
use Rattle.grid_rows.specs.declared.planes.EdgeWord.{EdgeWord}
use Rattle.grid_rows.specs.Planes.{no_edge}
use Rattle.layer_scan.specs.CubeNumbers.{HaveRanks, KeepsBelow, ranked}

-- what is written later leaves them
pub ranks_kept : (old new : List ℕ) (first each : ℕ) (words : List EdgeWord) (count place bound : ℕ) → HaveRanks old first each words count place
    → KeepsBelow bound old new → first + each * count ≤ bound → HaveRanks new first each words count place
ranks_kept old new first each words count place bound ranks keeps room k step h low =
    let inside = next_below step each k count low h in
    keeps.1 (first + each * k + step) (omega (arith, inside, room)) ∙ ranks k step h low

-- one word more
pub ranks_more : (old new : List ℕ) (first each : ℕ) (words : List EdgeWord) (count place : ℕ) → HaveRanks old first each words count place
    → KeepsBelow (first + each * count) old new
    → ((step : ℕ) → step < each → slice_index new (first + each * count + step) ≡ ranked (slice_index_or words count no_edge) place step)
    → HaveRanks new first each words (count + 1) place
ranks_more old new first each words count place before keeps here k step h low = elim (cases_lt k count) [
  | inl less ↦ ranks_kept old new first each words count place (first + each * count) before keeps (omega arith) k step less low
  | inr more ↦
      let own : count ≡ k = omega (arith, h, more) in
      sym (ap (λ n. slice_index new (first + each * n + step)) own) ∙ here step low ∙ ap (λ n. ranked (slice_index_or words n no_edge) place step) own
]

-- what is kept below a bound, and again
pub keeps_on : (first bound : ℕ) (old middle new : List ℕ) → KeepsBelow first old middle → KeepsBelow bound middle new → first ≤ bound
    → KeepsBelow first old new
keeps_on first bound old middle new one two h = (two.0 ∙ one.0, λ n lt. two.1 n (omega (arith, lt, h)) ∙ one.1 n lt)

-- three numbers, and two, by their steps
pub three_here : (numbers : List ℕ) (at : ℕ) (word : EdgeWord) (place : ℕ) → slice_index numbers at ≡ ranked word place 0
    → slice_index numbers (at + 1) ≡ ranked word place 1 → slice_index numbers (at + 2) ≡ ranked word place 2
    → (step : ℕ) → step < 3 → slice_index numbers (at + step) ≡ ranked word place step
three_here numbers at word place first second third zero h = let plain : at + 0 ≡ at = omega arith in ap (slice_index numbers) plain ∙ first
three_here numbers at word place first second third (suc zero) h = second
three_here numbers at word place first second third (suc (suc zero)) h = third
three_here numbers at word place first second third (suc (suc (suc n))) h = absurd (omega (arith, h))

pub two_here : (numbers : List ℕ) (at : ℕ) (word : EdgeWord) (place : ℕ) → slice_index numbers at ≡ ranked word place 0
    → slice_index numbers (at + 1) ≡ ranked word place 1 → (step : ℕ) → step < 2 → slice_index numbers (at + step) ≡ ranked word place step
two_here numbers at word place first second zero h = let plain : at + 0 ≡ at = omega arith in ap (slice_index numbers) plain ∙ first
two_here numbers at word place first second (suc zero) h = second
two_here numbers at word place first second (suc (suc n)) h = absurd (omega (arith, h))
