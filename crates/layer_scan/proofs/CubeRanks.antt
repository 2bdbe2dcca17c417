-- The numbers of a word's edges are those of the edges that come before in the grid.
use Rattle.std.proofs.Common.{ap, arith, refl, sym, ◌∙◌}
use Rattle.std.specs.Int.{bit_at}
use Rattle.std.specs.Prelude.{Bool, List, ◌∷◌, count_by, false, length, suc, true, ℕ, if◌then◌else◌, ◌*◌, ◌+◌, ◌<◌, ◌≤◌, ◌≡◌}
use Rattle.lists.specs.Bits.{is_set}
use Rattle.lists.specs.Orders.{numbers}
use Rattle.lists.proofs.Bits.{bit-set, bit-unset}
use Rattle.iso_model.specs.declared.Kind.TheVariants.{Pyramid}
use Rattle.iso_model.specs.Cells.{HasDimension}
use Rattle.iso_model.specs.Values.{Volume}
use Rattle.bit_rows.specs.Rows.{set_below}
use Rattle.grid_rows.specs.declared.planes.EdgeWord.{EdgeWord}
use Rattle.edge_middles.specs.GridMiddles.{count_before, is_there}
use Rattle.edge_middles.specs.Middles.{joins_centre, joins_samples}
use Rattle.edge_middles.proofs.RowCounts.{counts_first, counts_first_centre, counts_next}
use Rattle.layer_scan.specs.CubeNumbers.{ranked}
use Rattle.layer_scan.specs.GridEdges.{TellsWord}
use Rattle.layer_scan.specs.RowsOfEdges.{number_at}
use Rattle.layer_scan.proofs.CentresThere.{along_centres}
use Rattle.layer_scan.proofs.EdgeNumbers.{along_samples}
use Rattle.layer_scan.proofs.EdgeWordSteps.{counted_places}

bit_of : (n c : ℕ) (t : Bool) → is_set n c ≡ t → bit_at n c ≡ (if t then 1 else 0)
bit_of n c true e = bit-set n c e
bit_of n c false e = bit-unset n c e

-- before a place of a word
ranked_at : (v : Volume) (at_first at_second : ℕ → ℕ) (rest : List ℕ) (w place : ℕ) (word : EdgeWord) → place < 64
    → ((m : ℕ) → count_before v (4 * m ∷ rest)
    ≡ number_at (λ x. is_there v (at_first x ∷ rest)) (λ x. is_there v (at_second x ∷ rest)) (count_before v (0 ∷ rest)) m)
    → TellsWord v at_first at_second rest w word → ranked word place 0 ≡ count_before v (4 * (64 * w + place) ∷ rest)
ranked_at v at_first at_second rest w place word low along tells =
    let first = counted_places (λ x. is_there v (at_first x ∷ rest)) w word.first place tells.first (omega (arith, low)) in
    let second = counted_places (λ x. is_there v (at_second x ∷ rest)) w word.second place tells.second (omega (arith, low)) in
    omega (arith, tells.before, along (64 * w), along (64 * w + place), first, second)

-- in a row of edges that join samples
pub record HasSampleRanks (v : Volume) (rest : List ℕ) (w place : ℕ) (word : EdgeWord) : Type 0 where
  pub at_first : ranked word place 0 ≡ count_before v (4 * (64 * w + place) ∷ rest)
  pub at_second : ranked word place 1 ≡ count_before v ((4 * (64 * w + place) + 2) ∷ rest)
  pub at_next : ranked word place 2 ≡ count_before v ((4 * (64 * w + place) + 4) ∷ rest)

pub sample_ranks : (v : Volume) (rest : List ℕ) (w place : ℕ) (word : EdgeWord) → HasDimension v.kind (length v.sizes)
    → suc (length rest) ≡ length v.sizes → joins_samples rest ≡ true → place < 64 → TellsWord v (λ x. 4 * x) (λ x. 4 * x + 2) rest w word
    → HasSampleRanks v rest w place word
sample_ranks v rest w place word fits long joins low tells =
    let start = ranked_at v (λ x. 4 * x) (λ x. 4 * x + 2) rest w place word low (λ m. along_samples v rest m fits long joins) tells in
    let first : bit_at word.first place ≡ (if is_there v (4 * (64 * w + place) ∷ rest) then 1 else 0) =
    bit_of word.first place (is_there v (4 * (64 * w + place) ∷ rest)) (tells.first place low) in
    let second : bit_at word.second place ≡ (if is_there v ((4 * (64 * w + place) + 2) ∷ rest) then 1 else 0) =
    bit_of word.second place (is_there v ((4 * (64 * w + place) + 2) ∷ rest)) (tells.second place low) in
    let one = counts_first v rest fits long joins (64 * w + place) in
    let two = counts_next v rest fits long joins (64 * w + place) in
    let next : 4 * (64 * w + place + 1) ≡ 4 * (64 * w + place) + 4 = omega arith in
    record {
      at_first = start;
      at_second = omega (arith, start, first, one);
      at_next = omega (arith, start, first, second, two, ap (λ c. count_before v (c ∷ rest)) next);
    }

-- in a row of edges to centres
pub record HasCentreRanks (v : Volume) (rest : List ℕ) (w place : ℕ) (word : EdgeWord) : Type 0 where
  pub at_first : ranked word place 0 ≡ count_before v ((4 * (64 * w + place) + 1) ∷ rest)
  pub at_second : ranked word place 1 ≡ count_before v ((4 * (64 * w + place) + 3) ∷ rest)

pub centre_ranks : (v : Volume) (rest : List ℕ) (w place : ℕ) (word : EdgeWord) → HasDimension v.kind (length v.sizes)
    → suc (length rest) ≡ length v.sizes → joins_centre rest ≡ true → place < 64 → TellsWord v (λ x. 4 * x + 1) (λ x. 4 * x + 3) rest w word
    → HasCentreRanks v rest w place word
centre_ranks v rest w place word fits long joins low tells =
    let start = ranked_at v (λ x. 4 * x + 1) (λ x. 4 * x + 3) rest w place word low (λ m. along_centres v rest m fits long joins) tells in
    let first : bit_at word.first place ≡ (if is_there v ((4 * (64 * w + place) + 1) ∷ rest) then 1 else 0) =
    bit_of word.first place (is_there v ((4 * (64 * w + place) + 1) ∷ rest)) (tells.first place low) in
    let one = counts_first_centre v rest fits long joins (64 * w + place) in
    record {
      at_first = start ∙ sym one.0;
      at_second = omega (arith, start, first, one.1);
    }
