-- The rules of a label, asked in ascending order.
use Rattle.std.specs.Prelude.{◌≡◌, ◌⊎◌, ℕ, ◌+◌, ◌<◌, ◌≤◌, Bool, true, List}
use Rattle.std.proofs.Common.{refl, sym, ap, ◌∙◌, subst, arith, inl, inr}
use Rattle.std.proofs.lemmas.Bool.{cases_lt}
use Rattle.iso_model.specs.declared.Kind.{Kind}
use Rattle.iso_model.specs.Cells.{label_count}
use Rattle.iso_model.specs.Seams.{Seam}
use Rattle.iso_model.specs.Tables.{Table, entry_of}
use Rattle.iso_model.specs.Acceptance.{rule_over, rule_edges, rule_faces, rule_side, rule_path, KeepsOver}
use Rattle.table_check.specs.declared.verdicts.Verdict.{Verdict}
use Rattle.table_check.specs.declared.verdicts.Verdict.TheVariants.{Accepted, Refused}
use Rattle.table_check.specs.Verdicts.{KeepsAll, KeepsBelow, KeptBetween, IsVerdictOver, IsVerdictBetween}

-- ---- keeping and failing

pub all_kept : (ss : List Seam) (t : Table) (label : ℕ) → KeepsBelow ss t label 7 → KeepsAll ss t label
all_kept ss t label kept = λ q h. kept q (omega (arith, h))

-- ---- the rules of a label, told of its kind, dimension and tuples

pub record IsLabelAt (t : Table) (label : ℕ) (kind : Kind) (d : ℕ) (ws : List (List ℕ)) : Type 0 where
  pub kind_is : t.kind ≡ kind
  pub dimension_is : t.dimension ≡ d
  pub tuples_are : ws ≡ entry_of t label

pub label_is : (t : Table) (label : ℕ) (kind cell : Kind) (d : ℕ) (ws : List (List ℕ)) → t.kind ≡ cell → kind ≡ cell → t.dimension ≡ d
    → ws ≡ entry_of t label → IsLabelAt t label kind d ws
label_is t label kind cell d ws table figures e tuples = record { kind_is = table ∙ sym figures; dimension_is = e; tuples_are = tuples }

told : (f : Kind → ℕ → List (List ℕ) → Bool) (t : Table) (label : ℕ) (kind : Kind) (d : ℕ) (ws : List (List ℕ)) (b : Bool)
    → IsLabelAt t label kind d ws → b ≡ f kind d ws
    → f t.kind t.dimension (entry_of t label) ≡ b
told f t label kind d ws b is e =
    ap (λ k. f k t.dimension (entry_of t label)) is.kind_is ∙ ap (λ n. f kind n (entry_of t label)) is.dimension_is
    ∙ ap (λ v. f kind d v) (sym is.tuples_are) ∙ sym e

pub told_edges : (ss : List Seam) (t : Table) (label : ℕ) (kind : Kind) (d : ℕ) (ws : List (List ℕ)) (b : Bool) → IsLabelAt t label kind d ws
    → b ≡ rule_edges kind d label ws → rule_over ss t label 1 ≡ b
told_edges ss t label = told (λ k n v. rule_edges k n label v) t label

pub told_faces : (ss : List Seam) (t : Table) (label : ℕ) (kind : Kind) (d : ℕ) (ws : List (List ℕ)) (b : Bool) → IsLabelAt t label kind d ws
    → b ≡ rule_faces kind d ws → rule_over ss t label 3 ≡ b
told_faces ss t label = told (λ k n v. rule_faces k n v) t label

pub told_side : (ss : List Seam) (t : Table) (label : ℕ) (kind : Kind) (d : ℕ) (ws : List (List ℕ)) (b : Bool) → IsLabelAt t label kind d ws
    → b ≡ rule_side kind d label ws → rule_over ss t label 4 ≡ b
told_side ss t label = told (λ k n v. rule_side k n label v) t label

pub told_path : (ss : List Seam) (t : Table) (label : ℕ) (kind : Kind) (d : ℕ) (ws : List (List ℕ)) (b : Bool) → IsLabelAt t label kind d ws
    → b ≡ rule_path kind d label ws → rule_over ss t label 5 ≡ b
told_path ss t label = told (λ k n v. rule_path k n label v) t label

-- ---- what later rules count on

pub kept_edges : (ss : List Seam) (t : Table) (label n : ℕ) (kind : Kind) (d : ℕ) (ws : List (List ℕ))
    → IsLabelAt t label kind d ws → KeepsBelow ss t label n → 1 < n
    → rule_edges kind d label ws ≡ true
kept_edges ss t label n kind d ws is before h = sym (told_edges ss t label kind d ws (rule_edges kind d label ws) is refl) ∙ before 1 h

pub kept_faces : (ss : List Seam) (t : Table) (label n : ℕ) (kind : Kind) (d : ℕ) (ws : List (List ℕ))
    → IsLabelAt t label kind d ws → KeepsBelow ss t label n → 3 < n
    → rule_faces kind d ws ≡ true
kept_faces ss t label n kind d ws is before h = sym (told_faces ss t label kind d ws (rule_faces kind d ws) is refl) ∙ before 3 h

-- ---- runs of labels

-- the verdict on all labels is that on the table
pub whole_verdict : (ss : List Seam) (t : Table) (n : ℕ) (v : Verdict) → n ≡ label_count t.kind t.dimension → IsVerdictBetween ss t 0 n v
    → IsVerdictOver ss t v
whole_verdict ss t n Accepted e kept = λ label r less is_rule. kept label r (omega arith) (omega (arith, e, less)) is_rule
whole_verdict ss t n (Refused label rule) e first = record {
  fails = first.first.fails;
  is_label = let less = first.before in omega (arith, e, less);
  is_rule = first.first.is_rule;
  rules_below = first.first.rules_below;
  labels_below = λ m q less is_rule. first.labels_below m q (omega arith) less is_rule;
}

-- one label more
pub one_more_kept : (ss : List Seam) (t : Table) (low high : ℕ) → KeptBetween ss t low high → KeepsAll ss t high → KeptBetween ss t low (high + 1)
one_more_kept ss t low high kept last = λ label r from less is_rule. by label r from less is_rule (cases_lt label high)
  where
    by : (label r : ℕ) → low ≤ label → label < high + 1 → r ≤ 6 → (label < high) ⊎ (high ≤ label) → KeepsOver ss t label r
    by label r from less is_rule (inl below) = kept label r from below is_rule
    by label r from less is_rule (inr here) = let e : high ≡ label = omega arith in subst (λ m. KeepsOver ss t m r) e (last r is_rule)
