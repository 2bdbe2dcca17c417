-- A tuple of edges without repeats, and the set of its edges.
use Rattle.std.specs.Prelude.{◌≡◌, ◌≢◌, ◌⊎◌, ◌<◌, ◌≤◌, ◌+◌, ◌-◌, ◌*◌, ◌%◌, ◌^◌, ℕ, min, true, false, not, ◌==◌, List}
use Rattle.std.specs.Prelude.{length, take, drop, bit_and}
use Rattle.std.specs.Int.{bit_at}
use Rattle.std.proofs.Common.{get_or, ap, sym, ◌∙◌, arith, inl, inr, w32}
use Rattle.std.proofs.lemmas.Bool.{cases_lt, and_from, and_right, both_ways}
use Rattle.std.proofs.lemmas.Bool.{false_from_ne_true, not_from_true, not_from_false}
use Rattle.std.proofs.lemmas.Nat.Bits.{bit_at_and, bit_at_above, bit_at_clear_other}
use Rattle.std.proofs.lemmas.List.{take-append-drop}
use Rattle.lists.specs.Orders.{has, is_distinct}
use Rattle.lists.specs.Bits.{is_set}
use Rattle.lists.proofs.DistinctLists.{distinct-push, distinct-front}
use Rattle.edge_sets.proofs.SetLaws.{taken}

-- ---- one more member

-- ---- one more place

pub distinct_more : (w : List ℕ) (i x : ℕ) → i < length w → x ≡ get_or w i x → is_distinct (take i w) ≡ true → has (take i w) x ≡ false
    → is_distinct (take (i + 1) w) ≡ true
distinct_more w i x inside read before new =
    ap is_distinct (taken w i x inside read) ∙ distinct-push (take i w) x
    ∙ and_from (is_distinct (take i w)) (not (has (take i w) x)) before (not_from_false (has (take i w) x) new)

pub repeated : (w : List ℕ) (i x : ℕ) → i < length w → x ≡ get_or w i x → has (take i w) x ≡ true → is_distinct w ≡ false
repeated w i x inside read old =
    let now : is_distinct (take (i + 1) w) ≡ false =
    ap is_distinct (taken w i x inside read) ∙ distinct-push (take i w) x
    ∙ and_right (is_distinct (take i w)) (not (has (take i w) x)) (not_from_true (has (take i w) x) old) in
    false_from_ne_true (is_distinct w)
    (λ h. both_ways (is_distinct (take (i + 1) w)) now (distinct-front (take (i + 1) w) (drop (i + 1) w) (ap is_distinct (take-append-drop (i + 1) w) ∙ h)))

-- ---- one member less

pub cleared_other : (set edge e : ℕ) → set < 2 ^ 32 → edge < 32 → e ≢ edge → is_set (bit_and set (4294967295 - 1 * 2 ^ edge % 4294967296)) e ≡ is_set set e
cleared_other set edge e small inside n = ap (λ b. b == 1) (by_place (cases_lt e 32))
  where
    by_place : (e < 32) ⊎ (32 ≤ e) → bit_at (bit_and set (4294967295 - 1 * 2 ^ edge % 4294967296)) e ≡ bit_at set e
    by_place (inl h) = bit_at_clear_other w32 set edge inside e h n
    by_place (inr h) =
        let none : bit_at set e ≡ 0 = bit_at_above set 32 e small h in
        let least : (b : ℕ) → min 0 b ≡ 0 = λ b. omega arith in
        bit_at_and set (4294967295 - 1 * 2 ^ edge % 4294967296) e ∙ ap (λ b. min b (bit_at (4294967295 - 1 * 2 ^ edge % 4294967296) e)) none
        ∙ least (bit_at (4294967295 - 1 * 2 ^ edge % 4294967296) e) ∙ sym none
