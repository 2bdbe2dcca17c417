-- Verdicts on pieces that lie one after another.
use Rattle.std.specs.Prelude.{◌≡◌, ◌⊎◌, ℕ, ◌+◌, ◌-◌, ◌<◌, ◌≤◌, ◌*◌, ◌/◌, List, length}
use Rattle.std.proofs.Common.{ap, ◌∙◌, subst, arith, inl, inr}
use Rattle.std.proofs.Math.Nat.{zero-div, mul-div_cancel_left}
use Rattle.std.proofs.lemmas.Bool.{cases_lt}
use Rattle.iso_model.specs.Seams.{Seam}
use Rattle.iso_model.specs.Tables.{Table, IsTable}
use Rattle.iso_model.specs.Acceptance.{KeepsOver}
use Rattle.iso_base.specs.Parts.{start_of}
use Rattle.iso_base.proofs.PartLaws.{starts_ascend}
use Rattle.table_check.specs.declared.verdicts.Verdict.{Verdict}
use Rattle.table_check.specs.declared.verdicts.Verdict.TheVariants.{Accepted, Refused}
use Rattle.table_check.specs.Verdicts.{KeptBetween, IsVerdictBetween, IsVerdictOver}
use Rattle.table_check.specs.Pieces.{IsVerdictOnPieces, first_refused}
use Rattle.table_check.proofs.RuleOrder.{whole_verdict}

joined_kept : (ss : List Seam) (t : Table) (a b c : ℕ) → KeptBetween ss t a b → KeptBetween ss t b c → KeptBetween ss t a c
joined_kept ss t a b c left right = λ label r from less is_rule. by label r from less is_rule (cases_lt label b)
  where
    by : (label r : ℕ) → a ≤ label → label < c → r ≤ 6 → (label < b) ⊎ (b ≤ label) → KeepsOver ss t label r
    by label r from less is_rule (inl before) = left label r from before is_rule
    by label r from less is_rule (inr behind) = right label r behind less is_rule

-- the verdict on two runs of labels
joined_verdict : (ss : List Seam) (t : Table) (a b c : ℕ) (left right : Verdict) → a ≤ b → b ≤ c → IsVerdictBetween ss t a b left
    → IsVerdictBetween ss t b c right → IsVerdictBetween ss t a c (first_refused left right)
joined_verdict ss t a b c Accepted Accepted low high one two = joined_kept ss t a b c one two
joined_verdict ss t a b c Accepted (Refused label r) low high one two = record {
  from = let h = two.from in omega arith;
  before = two.before;
  first = two.first;
  labels_below = joined_kept ss t a b label one two.labels_below;
}
joined_verdict ss t a b c (Refused label r) right low high one two = record {
  from = one.from;
  before = let h = one.before in omega arith;
  first = one.first;
  labels_below = one.labels_below;
}

-- the verdict on two runs of pieces
pub joined_pieces : (ss : List Seam) (t : Table) (parts low half count : ℕ) (left right : Verdict) → 0 < parts → half ≤ count
    → IsVerdictOnPieces ss t parts low half left → IsVerdictOnPieces ss t parts (low + half) (count - half) right
    → IsVerdictOnPieces ss t parts low count (first_refused left right)
joined_pieces ss t parts low half count left right some less one two =
    let n = length t.entries in
    let e : low + half + (count - half) ≡ low + count = omega arith in
    let two' = subst (λ k. IsVerdictBetween ss t (start_of n parts (low + half)) (start_of n parts k) right) e two in
    joined_verdict ss t (start_of n parts low) (start_of n parts (low + half)) (start_of n parts (low + count)) left right
    (starts_ascend n parts low (low + half) some (omega arith)) (starts_ascend n parts (low + half) (low + count) some (omega arith)) one two'

-- where the first piece begins, and where the last one ends
pub first_start : (n parts : ℕ) → start_of n parts 0 ≡ 0
first_start n parts = let z : 0 * n ≡ 0 = omega arith in ap (λ (k : ℕ). k / parts) z ∙ zero-div parts

pub last_start : (n parts : ℕ) → 1 ≤ parts → start_of n parts (0 + parts) ≡ n
last_start n parts some = let e : 0 + parts ≡ parts = omega arith in ap (λ (k : ℕ). k * n / parts) e ∙ mul-div_cancel_left n (omega arith)

-- the verdict on all pieces is that on the table
pub whole_pieces : (ss : List Seam) (t : Table) (parts : ℕ) (v : Verdict) → 1 ≤ parts → IsTable t → IsVerdictOnPieces ss t parts 0 parts v
    → IsVerdictOver ss t v
whole_pieces ss t parts v some is verdict =
    let n = length t.entries in
    whole_verdict ss t n v is.whole
    (subst (λ k. IsVerdictBetween ss t k n v) (first_start n parts)
    (subst (λ k. IsVerdictBetween ss t (start_of n parts 0) k v) (last_start n parts some) verdict))
