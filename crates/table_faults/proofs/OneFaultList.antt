-- A table has one list of faults.
use Rattle.std.specs.Prelude.{◌≡◌, ℕ, suc, ◌<◌, Bool, false, Option, Some, None, List, [], ◌∷◌, length, All, slice_index_or}
use Rattle.std.proofs.Common.{refl, sym, ap, ◌∙◌, subst, arith, inl, inr}
use Rattle.std.proofs.lemmas.Bool.{cases_lt}
use Rattle.iso_model.specs.Seams.{Seam, seam}
use Rattle.iso_model.specs.Tables.{Table}
use Rattle.lists.specs.Members.{In}
use Rattle.lists.proofs.Ascending.{same_members}
use Rattle.lists.proofs.MemberLaws.{In_from, Contains_from, from_In-map}
use Rattle.seam_traces.specs.declared.clashes.Clash.{Clash}
use Rattle.seam_traces.specs.Clashes.{IsLeastFailing, ClashesAt, IsFirstClash}
use Rattle.seam_traces.proofs.SeamRule.{clash_fails}
use Rattle.table_check.specs.Verdicts.{FailsFirst}
use Rattle.table_faults.specs.declared.faults.Fault.{Fault}
use Rattle.table_faults.specs.Faults.{TellsRuleClash, IsFault, labels_of, AreFaultsBelow}

-- ---- one clash

one_least : (p : ℕ → Bool) (n a b : ℕ) → IsLeastFailing p n a → IsLeastFailing p n b → a ≡ b
one_least p n a b one two = elim (cases_lt a b) as (λ _. a ≡ b) [
  | inl less ↦ absurd (one.fails (two.least a less))
  | inr up ↦ elim (cases_lt b a) as (λ _. a ≡ b) [
    | inl less ↦ absurd (two.fails (one.least b less))
    | inr down ↦ omega arith
  ]
]

make : ℕ → ℕ → ℕ → Clash
make facet other other_facet = record { facet = facet; other = other; other_facet = other_facet }

same_clash : (a b : Clash) → a.facet ≡ b.facet → a.other ≡ b.other → a.other_facet ≡ b.other_facet → a ≡ b
unfolding make
same_clash a b facet other other_facet =
    ap (λ x. make x a.other a.other_facet) facet ∙ ap (λ x. make b.facet x a.other_facet) other ∙ ap (λ x. make b.facet b.other x) other_facet

one_clash_at : (t : Table) (label : ℕ) (s : Seam) (a b : Clash) → ClashesAt t label s a → ClashesAt t label s b → a ≡ b
one_clash_at t label s a b (inl one) (inl two) =
    same_clash a b (one.facet ∙ sym two.facet) (one_least _ _ a.other b.other one.other two.other) (one.other_facet ∙ sym two.other_facet)
one_clash_at t label s a b (inl one) (inr two) = absurd (one.other.fails (two.forwards a.other one.other.below))
one_clash_at t label s a b (inr one) (inl two) = absurd (two.other.fails (one.forwards b.other two.other.below))
one_clash_at t label s a b (inr one) (inr two) =
    same_clash a b (one.facet ∙ sym two.facet) (one_least _ _ a.other b.other one.other two.other) (one.other_facet ∙ sym two.other_facet)

one_first_clash : (ss : List Seam) (t : Table) (label : ℕ) (a b : Clash) → IsFirstClash ss t label a → IsFirstClash ss t label b → a ≡ b
one_first_clash ss t label a b one two = elim (cases_lt one.place two.place) as (λ _. a ≡ b) [
  | inl less ↦ absurd (clash_fails t label _ a (one.clashes blank) (two.before one.place blank less))
  | inr up ↦ elim (cases_lt two.place one.place) as (λ _. a ≡ b) [
    | inl less ↦ absurd (clash_fails t label _ b (two.clashes blank) (one.before two.place blank less))
    | inr down ↦
        let same : two.place ≡ one.place = omega arith in
        one_clash_at t label (slice_index_or ss one.place blank) a b (one.clashes blank)
        (subst (λ k. ClashesAt t label (slice_index_or ss k blank) b) same (two.clashes blank))
  ]
]
  where
    blank : Seam
    blank = seam 0 0 false

-- ---- one fault of a label

one_rule : (ss : List Seam) (t : Table) (label a b : ℕ) → FailsFirst ss t label a → FailsFirst ss t label b → a ≡ b
one_rule ss t label a b one two = elim (cases_lt a b) as (λ _. a ≡ b) [
  | inl less ↦ absurd (one.fails (two.rules_below a less))
  | inr up ↦ elim (cases_lt b a) as (λ _. a ≡ b) [
    | inl less ↦ absurd (two.fails (one.rules_below b less))
    | inr down ↦ omega arith
  ]
]

one_said : (ss : List Seam) (t : Table) (label rule : ℕ) (x y : Option Clash) → TellsRuleClash ss t label rule x → TellsRuleClash ss t label rule y → x ≡ y
one_said ss t label rule None None one two = refl
one_said ss t label rule None (Some b) one two = absurd (one two.0)
one_said ss t label rule (Some a) None one two = absurd (two one.0)
one_said ss t label rule (Some a) (Some b) one two = ap Some (one_first_clash ss t label a b one.1 two.1)

put : ℕ → ℕ → Option Clash → Fault
put label rule clash = record { label = label; rule = rule; clash = clash }

one_fault : (ss : List Seam) (t : Table) (f g : Fault) → IsFault ss t f → IsFault ss t g → f.label ≡ g.label → f ≡ g
unfolding put
one_fault ss t f g one two label =
    let rule : f.rule ≡ g.rule = one_rule ss t g.label f.rule g.rule (subst (λ l. FailsFirst ss t l f.rule) label one.fails_first) two.fails_first in
    let said : TellsRuleClash ss t g.label g.rule f.clash =
    subst (λ r. TellsRuleClash ss t g.label r f.clash) rule (subst (λ l. TellsRuleClash ss t l f.rule f.clash) label one.tells_clash) in
    let clash : f.clash ≡ g.clash = one_said ss t g.label g.rule f.clash g.clash said two.tells_clash in
    ap (λ x. put x f.rule f.clash) label ∙ ap (λ x. put g.label x f.clash) rule ∙ ap (λ x. put g.label g.rule x) clash

-- ---- one list

same_faults : (ss : List Seam) (t : Table) (fs gs : List Fault) → labels_of fs ≡ labels_of gs → All (IsFault ss t) fs → All (IsFault ss t) gs → fs ≡ gs
same_faults ss t [] [] e one two = refl
same_faults ss t [] (g ∷ gs) e one two = let h = ap length e in absurd (omega arith)
same_faults ss t (f ∷ fs) [] e one two = let h = ap length e in absurd (omega arith)
same_faults ss t (f ∷ fs) (g ∷ gs) e one two =
    let first : f.label ≡ g.label = cc in
    let rest : labels_of fs ≡ labels_of gs = cc in
    let head : f ≡ g = one_fault ss t f g (one 0 f (omega arith)) (two 0 g (omega arith)) first in
    let tail : fs ≡ gs = same_faults ss t fs gs rest (λ k d less. one (suc k) d (omega (arith, less))) (λ k d less. two (suc k) d (omega (arith, less))) in
    cc

-- a label of one list is one of the other
shared : (ss : List Seam) (t : Table) (n : ℕ) (fs gs : List Fault) → AreFaultsBelow ss t n fs → AreFaultsBelow ss t n gs → (label : ℕ)
    → In label (labels_of fs) → In label (labels_of gs)
shared ss t n fs gs one two label i =
    let r = from_In-map (λ (f : Fault). f.label) fs label i in
    let at = Contains_from fs r.0 r.1 in
    let is : IsFault ss t r.0 = subst (IsFault ss t) at.2 (one.each at.0 r.0 at.1) in
    let c = Contains_from (labels_of fs) label i in
    let less : label < n = subst (λ l. l < n) c.2 (one.below c.0 label c.1) in
    let first : FailsFirst ss t label r.0.rule = subst (λ l. FailsFirst ss t l r.0.rule) (sym r.2) is.fails_first in
    In_from (labels_of gs) label (two.whole label r.0.rule less first.is_rule first.fails)

pub one_list : (ss : List Seam) (t : Table) (n : ℕ) (fs gs : List Fault) → AreFaultsBelow ss t n fs → AreFaultsBelow ss t n gs → fs ≡ gs
one_list ss t n fs gs one two =
    same_faults ss t fs gs
    (same_members (labels_of fs) (labels_of gs) one.ascending two.ascending (shared ss t n fs gs one two) (shared ss t n gs fs two one))
    one.each two.each
