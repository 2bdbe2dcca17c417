-- Lists of faults, label after label.
use Rattle.std.specs.Prelude.{◌≡◌, ℕ, zero, suc, ◌+◌, ◌<◌, Bool, true, false, List, [], ◌∷◌, ◌++◌, All, Contains, IsTrue}
use Rattle.std.proofs.Common.{refl, sym, ap, ◌∙◌, subst, arith, inl, inr}
use Rattle.std.proofs.lemmas.Bool.{cases_lt, false≢true}
use Rattle.std.proofs.lemmas.List.{map-append}
use Rattle.std.proofs.lemmas.List.Elements.{All-append, Contains-append_left, Contains-append_right}
use Rattle.iso_model.specs.Seams.{Seam}
use Rattle.iso_model.specs.Tables.{Table}
use Rattle.iso_model.specs.Acceptance.{rule, KeepsOver, IsAccepted, IsRefusedAt}
use Rattle.lists.specs.Members.{In, Ascends}
use Rattle.lists.proofs.Contained.{none_contained, Contains-head, Contains-split}
use Rattle.lists.proofs.MemberLaws.{In_from, Contains_from, from_In-append}
use Rattle.table_check.specs.Verdicts.{KeepsAll}
use Rattle.table_faults.specs.declared.faults.Fault.{Fault}
use Rattle.table_faults.specs.Faults.{IsFault, labels_of, AreFaultsBelow, AreFaults}

-- ---- one more label

pub none_below : (ss : List Seam) (t : Table) → AreFaultsBelow ss t 0 []
none_below ss t = record {
  each = λ k d less. absurd (omega (arith, less));
  below = λ k d less. absurd (omega (arith, less));
  ascending = tt;
  whole = λ label r less is_rule fails. absurd (omega (arith, less));
}

-- a label that keeps each rule
pub kept_more : (ss : List Seam) (t : Table) (n : ℕ) (faults : List Fault) → AreFaultsBelow ss t n faults → KeepsAll ss t n
    → AreFaultsBelow ss t (n + 1) faults
kept_more ss t n faults are kept = record {
  each = are.each;
  below = λ k d less. let h = are.below k d less in omega arith;
  ascending = are.ascending;
  whole = λ label r less is_rule fails. elim (cases_lt label n) as (λ _. Contains (labels_of faults) label) [
    | inl before ↦ are.whole label r before is_rule fails
    | inr behind ↦ let e : n ≡ label = omega arith in absurd (fails (subst (λ m. KeepsOver ss t m r) e (kept r is_rule)))
  ];
}

single : {X : Type 0} (P : X → Type 0) (x : X) → P x → All P (x ∷ [])
single P x h zero d less = h
single P x h (suc k) d less = absurd (omega arith)

ascends_push : (xs : List ℕ) (n : ℕ) → Ascends xs → ((y : ℕ) → In y xs → y < n) → Ascends (xs ++ n ∷ [])
ascends_push [] n a below = (λ y i. absurd i, tt)
ascends_push (x ∷ xs) n a below = (
  λ y i. elim (from_In-append xs (n ∷ []) y i) as (λ _. x < y) [
    | inl before ↦ a.0 y before
    | inr last ↦ elim last as (λ _. x < y) [
      | inl e ↦ subst (λ k. x < k) (sym e) (below x (inl refl))
      | inr none ↦ absurd none
    ]
  ],
  ascends_push xs n a.1 (λ y i. below y (inr i)),
)

-- a label that fails a rule
pub fault_more : (ss : List Seam) (t : Table) (n : ℕ) (faults : List Fault) (fault : Fault) → AreFaultsBelow ss t n faults → fault.label ≡ n
    → IsFault ss t fault → AreFaultsBelow ss t (n + 1) (faults ++ fault ∷ [])
fault_more ss t n faults fault are here is =
    let labels = labels_of faults in
    let e : labels ++ n ∷ [] ≡ labels_of (faults ++ fault ∷ []) =
    ap (λ k. labels ++ k ∷ []) (sym here) ∙ sym (map-append (λ (f : Fault). f.label) faults (fault ∷ [])) in
    let low : (y : ℕ) → In y labels → y < n = λ y i. let c = Contains_from labels y i in subst (λ k. k < n) c.2 (are.below c.0 y c.1) in
    record {
      each = All-append (IsFault ss t) faults (fault ∷ []) are.each (single (IsFault ss t) fault is);
      below = subst (λ (l : List ℕ). All (λ label. label < n + 1) l) e
          (All-append (λ label. label < n + 1) labels (n ∷ []) (λ k d less. let h = are.below k d less in omega arith)
          (single (λ label. label < n + 1) n (omega arith)));
      ascending = subst (λ (l : List ℕ). Ascends l) e (ascends_push labels n are.ascending low);
      whole = λ label r less is_rule fails.
          subst (λ (l : List ℕ). Contains l label) e (elim (cases_lt label n) as (λ _. Contains (labels ++ n ∷ []) label) [
            | inl before ↦ Contains-append_left labels (n ∷ []) label (are.whole label r before is_rule fails)
            | inr behind ↦
                let same : n ≡ label = omega arith in
                Contains-append_right labels (n ∷ []) label (subst (λ k. Contains (n ∷ []) k) same (Contains-head n []))
          ]);
    }

-- ---- the empty list, and the first fault

keeps_unless : (b : Bool) → (¬ IsTrue b → ⊥) → IsTrue b
keeps_unless true h = refl
keeps_unless false h = absurd (h (λ e. false≢true e))

pub none_accepted : (t : Table) (faults : List Fault) → AreFaults t faults → faults ≡ [] → IsAccepted t
none_accepted t faults are none = λ label r less is_rule.
    keeps_unless (rule t label r) (λ fails.
    none_contained label (subst (λ (fs : List Fault). Contains (labels_of fs) label) none (are.whole label r less is_rule fails)))

pub accepted_none : (t : Table) (faults : List Fault) → AreFaults t faults → IsAccepted t → faults ≡ []
accepted_none t [] are accepted = refl
accepted_none t (f ∷ fs) are accepted =
    let is = are.each 0 f (omega arith) in absurd (is.fails_first.fails (accepted f.label f.rule is.is_label is.fails_first.is_rule))

pub first_refused : (t : Table) (f : Fault) (fs : List Fault) → AreFaults t (f ∷ fs) → IsRefusedAt t f.label f.rule
first_refused t f fs are =
    let is = are.each 0 f (omega arith) in
    let few = is.is_label in
    record {
      fails = is.fails_first.fails;
      is_label = few;
      is_rule = is.fails_first.is_rule;
      rules_below = is.fails_first.rules_below;
      labels_below = λ m q less is_rule.
          keeps_unless (rule t m q)
          (λ fails. elim (Contains-split m f.label (labels_of fs) (are.whole m q (omega (arith, few, less)) is_rule fails)) as (λ _. ⊥) [
            | inl e ↦ omega (arith, e, less)
            | inr later ↦ let above = are.ascending.0 m (In_from (labels_of fs) m later) in omega (arith, above, less)
          ]);
    }
