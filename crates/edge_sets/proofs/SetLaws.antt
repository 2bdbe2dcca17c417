-- Bits, members, and lists without repeats.
use Rattle.std.specs.Prelude.{◌≡◌, ◌≢◌, ℕ, zero, suc, ◌+◌, ◌<◌, ◌≤◌, max, Bool, true, false, not, ◌||◌, ◌==◌, nat_eq, List, [], ◌∷◌, ◌++◌}
use Rattle.std.specs.Prelude.{length, take, drop}
use Rattle.std.specs.List.{list_all}
use Rattle.std.specs.Int.{bit_at}
use Rattle.std.proofs.Common.{get_or, refl, sym, ap, ◌∙◌, subst, arith, inl, inr}
use Rattle.std.proofs.lemmas.Bool.{cases_eq, and_parts, and_from, and_left, and_right, or_right, eq-eqb, ne_eqb, both_ways}
use Rattle.std.proofs.lemmas.Bool.{false_from_ne_true, not_from_true, not_from_false}
use Rattle.std.proofs.lemmas.Nat.Bits.{bit_at-zero, bit_at-lt}
use Rattle.std.proofs.lemmas.List.{take_more, take-append-drop}
use Rattle.std.proofs.lemmas.List.Folds.{list_all_more, list_all_at}
use Rattle.lists.specs.Orders.{has, is_distinct}
use mathlib.Core.Bool.{beq}
use Rattle.iso_model.specs.Bipolar.{differ}
use Rattle.edge_sets.specs.Sets.{IsSetOf, is_sound_in, differs}
use Rattle.lists.specs.Bits.{is_set}
use Rattle.lists.proofs.Bits.{max_bits}
use Rattle.lists.proofs.Tests.{or_false}
use Rattle.lists.proofs.DistinctLists.{has-push, distinct-push, distinct-front}

pub set_none : IsSetOf 0 []
set_none e = ap (λ n. n == 1) (bit_at-zero e)

pub set_push : (set more x : ℕ) (es : List ℕ) → IsSetOf set es → is_set more x ≡ true → ((e : ℕ) → e ≢ x → is_set more e ≡ is_set set e)
    → IsSetOf more (es ++ x ∷ [])
set_push set more x es s same others e = elim (cases_eq e x) [
  | inl h ↦
      let here : is_set more e ≡ true = ap (λ k. is_set more k) h ∙ same in
      let member : (nat_eq e x || false) ≡ true = or_false (nat_eq e x) ∙ eq-eqb e x h in
      here ∙ sym (has-push es x e ∙ or_right (has es e) (nat_eq e x || false) member)
  | inr h ↦
      let absent : (nat_eq e x || false) ≡ false = or_false (nat_eq e x) ∙ ne_eqb e x h in
      others e h ∙ s e ∙ sym (has-push es x e ∙ ap (λ b. has es e || b) absent ∙ or_false (has es e))
]

pub set_or : (a b e : ℕ) → (max (bit_at a e) (bit_at b e) == 1) ≡ (is_set a e || is_set b e)
set_or a b e = max_bits (bit_at a e) (bit_at b e) (bit_at-lt a e) (bit_at-lt b e)

-- ---- lists without repeats

pub sound_none : (set : ℕ) → is_sound_in set [] ≡ true
sound_none set = refl

pub taken : (w : List ℕ) (i x : ℕ) → i < length w → x ≡ get_or w i x → take (i + 1) w ≡ take i w ++ x ∷ []
taken w i x inside read = take_more w i x inside ∙ ap (λ y. take i w ++ y ∷ []) (sym read)

pub sound_more : (set : ℕ) (w : List ℕ) (i x : ℕ) → i < length w → x ≡ get_or w i x → is_sound_in set (take i w) ≡ true → has (take i w) x ≡ false
    → is_set set x ≡ true
    → is_sound_in set (take (i + 1) w) ≡ true
sound_more set w i x inside read sound new there =
    let p = and_parts (is_distinct (take i w)) (list_all (is_set set) (take i w)) sound in
    and_from (is_distinct (take (i + 1) w)) (list_all (is_set set) (take (i + 1) w))
    (
    ap is_distinct (taken w i x inside read) ∙ distinct-push (take i w) x
    ∙ and_from (is_distinct (take i w)) (not (has (take i w) x)) p.0 (not_from_false (has (take i w) x) new))
    (
    list_all_more (is_set set) w i x inside
    ∙ and_from (list_all (is_set set) (take i w)) (is_set set (get_or w i x)) p.1 (subst (λ e. is_set set e ≡ true) read there))

pub set_more : (set more : ℕ) (w : List ℕ) (i x : ℕ) → i < length w → x ≡ get_or w i x → IsSetOf set (take i w) → is_set more x ≡ true
    → ((e : ℕ) → e ≢ x → is_set more e ≡ is_set set e)
    → IsSetOf more (take (i + 1) w)
set_more set more w i x inside read s same others = subst (IsSetOf more) (sym (taken w i x inside read)) (set_push set more x (take i w) s same others)

pub repeats : (set : ℕ) (w : List ℕ) (i x : ℕ) → i < length w → x ≡ get_or w i x → has (take i w) x ≡ true → is_sound_in set w ≡ false
repeats set w i x inside read old =
    let now : is_distinct (take (i + 1) w) ≡ false =
    ap is_distinct (taken w i x inside read) ∙ distinct-push (take i w) x
    ∙ and_right (is_distinct (take i w)) (not (has (take i w) x)) (not_from_true (has (take i w) x) old) in
    and_left (is_distinct w) (list_all (is_set set) w)
    (false_from_ne_true (is_distinct w)
    (λ h. both_ways (is_distinct (take (i + 1) w)) now (distinct-front (take (i + 1) w) (drop (i + 1) w) (ap is_distinct (take-append-drop (i + 1) w) ∙ h))))

pub leaves : (set : ℕ) (w : List ℕ) (i x : ℕ) → i < length w → x ≡ get_or w i x → is_set set x ≡ false → is_sound_in set w ≡ false
leaves set w i x inside read out =
    and_right (is_distinct w) (list_all (is_set set) w) (list_all_at (is_set set) w i x inside (subst (λ e. is_set set e ≡ false) read out))

-- ---- the bipolar edges

not-beq : (a b : Bool) → not (beq a b) ≡ differ a b
not-beq true true = refl
not-beq true false = refl
not-beq false true = refl
not-beq false false = refl

pub differs_as : (label : ℕ) (ends : ℕ × ℕ) (a b r : Bool) → a ≡ is_set label ends.0 → b ≡ is_set label ends.1 → not (beq a b) ≡ r → differs label ends ≡ r
differs_as label ends a b r first second told =
    ap (λ x. differ x (is_set label ends.1)) (sym first) ∙ ap (λ y. differ a y) (sym second) ∙ sym (not-beq a b) ∙ told

-- the edges before a place are the members that differ
pub record AreBipolarBelow (label set place : ℕ) (ends : List (ℕ × ℕ)) : Type 0 where
  pub members : (e : ℕ) → e < place → is_set set e ≡ differs label (get_or ends e (0, 0))
  pub others : (e : ℕ) → place ≤ e → is_set set e ≡ false

pub bipolar_none : (label : ℕ) (ends : List (ℕ × ℕ)) → AreBipolarBelow label 0 0 ends
bipolar_none label ends = record { members = λ e h. absurd (omega arith); others = λ e h. set_none e }

pub bipolar_more : (label set more i : ℕ) (ends : List (ℕ × ℕ)) (r : Bool) → AreBipolarBelow label set i ends
    → differs label (get_or ends i (0, 0)) ≡ r → is_set more i ≡ r
    → ((e : ℕ) → e ≢ i → is_set more e ≡ is_set set e) → AreBipolarBelow label more (i + 1) ends
bipolar_more label set more i ends r s told here others = record {
  members = λ e h. elim (cases_eq e i) [
    | inl same ↦ subst (λ k. is_set more k ≡ differs label (get_or ends k (0, 0))) (sym same) (here ∙ sym told)
    | inr other ↦ let before : e < i = omega arith in others e other ∙ s.members e before
  ];
  others = λ e h. let other : e ≢ i = omega arith in others e other ∙ s.others e (omega arith);
}
