-- From the counts modulo 2^64 to the spectrum.
use Rattle.std.proofs.Common.{ap, arith, refl, ◌∙◌}
use Rattle.std.proofs.Math.Nat.{mod-eq_of_lt}
use Rattle.std.proofs.lemmas.List.Sums.{sum_by-cons}
use Rattle.std.specs.Prelude.{ℕ, suc, zero, ◌+◌, ◌%◌, ◌^◌, ◌<◌, ◌≤◌, ◌≡◌, ◌∷◌, ℤ, length, map, replicate, take}
use Rattle.std.specs.List.{sum}
use Rattle.lists.specs.Members.{In}
use Rattle.lists.specs.Orders.{numbers}
use Rattle.lists.proofs.MemberLaws.{from_In-numbers, map_same}
use Rattle.iso_model.specs.declared.Kind.{Kind}
use Rattle.iso_model.specs.Cells.{HasDimension}
use Rattle.iso_model.specs.Values.{Grid, IsRegularGrid}
use Rattle.edge_spectrum.specs.declared.differences.Differences.{Differences}
use Rattle.edge_spectrum.specs.Growing.{Grows, IsNew, count_at}
use Rattle.edge_spectrum.specs.Spectrum.{edges_at, iso_after, isovalues, spectrum_of}
use Rattle.edge_spectrum.proofs.Walked.{few_edges_at}

zeros : (k n : ℕ) → sum (take k (replicate n 0)) ≡ 0
zeros zero n = refl
zeros (suc k) zero = refl
zeros (suc k) (suc n) =
    let first : sum (0 ∷ take k (replicate n 0)) ≡ 0 + sum (take k (replicate n 0)) = sum_by-cons (λ y. y) 0 (take k (replicate n 0)) in
    let all : sum (0 ∷ take k (replicate n 0)) ≡ 0 = omega (arith, first, zeros k n) in
    all

pub counted_all : (kind : Kind) (grid : Grid) (from to : ℤ) (new d : Differences) → IsRegularGrid grid → HasDimension kind (length grid.sizes)
    → IsNew from (isovalues from to) new → Grows new d (edges_at kind grid)
    → map (λ i. sum (take (i + 1) d.steps.items) % 2 ^ 64) (numbers d.isovalues) ≡ spectrum_of kind grid from to
counted_all kind grid from to new d regular fits is grown =
    let count : d.isovalues ≡ isovalues from to = grown.isovalues ∙ is.1 in
    let one : (i : ℕ) → In i (numbers d.isovalues) → sum (take (i + 1) d.steps.items) % 2 ^ 64 ≡ edges_at kind grid (iso_after from i) =
    λ i member.
    let inside : i < new.isovalues = omega (arith, from_In-numbers d.isovalues i member, grown.isovalues) in
    let nothing : count_at new i ≡ 0 = ap (λ xs. sum (take (i + 1) xs)) is.2 ∙ zeros (i + 1) (isovalues from to + 1) in
    let few : edges_at kind grid (iso_after new.from i) ≤ 2 ^ 31 = few_edges_at kind grid (iso_after new.from i) fits regular.few in
    let small : edges_at kind grid (iso_after new.from i) < 2 ^ 64 = omega (arith, few) in
    let whole : count_at new i + edges_at kind grid (iso_after new.from i) ≡ edges_at kind grid (iso_after new.from i) = omega (arith, nothing) in
    grown.counts i inside ∙ ap (λ n. n % 2 ^ 64) whole ∙ mod-eq_of_lt small ∙ ap (λ z. edges_at kind grid (iso_after z i)) is.0 in
    map_same (λ i. sum (take (i + 1) d.steps.items) % 2 ^ 64) (λ i. edges_at kind grid (iso_after from i)) (numbers d.isovalues) one
    ∙ ap (λ n. map (λ i. edges_at kind grid (iso_after from i)) (numbers n)) count
