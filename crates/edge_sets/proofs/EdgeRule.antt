-- The rule of bipolar edges, by sets.
use Rattle.std.specs.Prelude.{◌≡◌, ℕ, ◌+◌, ◌<◌, Bool, true, false, not, ◌&&◌, ◌||◌, ◌==◌, nat_eq, List, [], ◌∷◌, length, take, All}
use Rattle.std.specs.List.{list_all, list_any}
use Rattle.std.proofs.Common.{get_or, refl, sym, ap, ◌∙◌, subst, arith, inl, inr}
use Rattle.std.proofs.lemmas.Bool.{cases_lt, and_parts, and_from, and_left, or_cases, eqb-true, eq-eqb, both_ways, false≢true}
use Rattle.std.proofs.lemmas.List.FromFn.{get_or-range_with_len, length-range_with_len}
use Rattle.std.proofs.lemmas.List.Elements.{All-head, All-tail}
use Rattle.std.proofs.lemmas.List.Folds.{list_any_more, list_all_more, list_all_at}
use Rattle.std.proofs.lemmas.List.Sums.{AllPass-from_list_all, list_all-from_AllPass}
use Rattle.iso_model.specs.declared.Kind.{Kind}
use Rattle.lists.specs.Orders.{numbers, has, is_distinct}
use Rattle.iso_model.specs.Cells.{edge_count}
use Rattle.iso_model.specs.Tables.{IsTuple}
use Rattle.iso_model.specs.Bipolar.{is_bipolar_in}
use Rattle.iso_model.specs.Acceptance.{is_sound_tuple, rule_edges}
use Rattle.edge_sets.proofs.SetLaws.{set_none}
use Rattle.edge_sets.specs.Sets.{IsSetOf, is_sound_in, Suits}
use Rattle.lists.specs.Bits.{is_set}
use Rattle.lists.proofs.Tests.{not_or_from, same_tests, not_or}
use Rattle.lists.proofs.Bits.{same_sets}

-- tests that agree on the members
pub all_same : {X : Type 0} (p q : X → Bool) (xs : List X) → All (λ x. p x ≡ q x) xs → list_all p xs ≡ list_all q xs
all_same p q [] h = refl
all_same {X} p q (x ∷ xs) h =
    ap (λ b. b && list_all p xs) (All-head (λ (y : X). p y ≡ q y) x xs h) ∙ ap (λ b. q x && b) (all_same p q xs (All-tail (λ (y : X). p y ≡ q y) x xs h))

-- a tuple of edges is sound where none stands twice and all are bipolar
sound_same : (kind : Kind) (d label bipolar : ℕ) (ws : List (List ℕ)) → Suits kind d label bipolar ws → (w : List ℕ) → IsTuple kind d w
    → is_sound_tuple kind d label w ≡ is_sound_in bipolar w
sound_same kind d label bipolar ws s w t =
    ap (λ b. (b && is_distinct w) && list_all (is_bipolar_in kind d label) w) (eq-eqb (length w) d t.0)
    ∙ ap (λ b. is_distinct w && b) (all_same (is_bipolar_in kind d label) (is_set bipolar) w (λ k n h. sym (s.bipolar_is (get_or w k n) (t.1 k n h))))

tuples_same : (kind : Kind) (d label bipolar : ℕ) (ws : List (List ℕ)) → Suits kind d label bipolar ws
    → list_all (is_sound_tuple kind d label) ws ≡ list_all (is_sound_in bipolar) ws
tuples_same kind d label bipolar ws s =
    all_same (is_sound_tuple kind d label) (is_sound_in bipolar) ws (λ k n h. sound_same kind d label bipolar ws s (get_or ws k n) (s.tuples k n h))

-- a tuple that is not sound
pub unsound : (kind : Kind) (d label bipolar : ℕ) (ws : List (List ℕ)) (i : ℕ) (w : List ℕ) → Suits kind d label bipolar ws → i < length ws → w ≡ get_or ws i w
    → is_sound_in bipolar w ≡ false → false ≡ rule_edges kind d label ws
unsound kind d label bipolar ws i w s inside read fails =
    let covers = list_all (λ e. not (is_bipolar_in kind d label e) || list_any (λ w. has w e) ws) (numbers (edge_count kind d)) in
    let never = list_all_at (is_sound_in bipolar) ws i w inside (subst (λ v. is_sound_in bipolar v ≡ false) read fails) in
    sym (and_left (list_all (is_sound_tuple kind d label) ws) covers (tuples_same kind d label bipolar ws s ∙ never))

-- ---- what the tuples cover

abbrev pub IsCover : ℕ → List (List ℕ) → Type 0
IsCover covered ws = (e : ℕ) → is_set covered e ≡ list_any (λ w. has w e) ws

pub cover_none : IsCover 0 []
cover_none e = set_none e

pub cover_more : (covered set more : ℕ) (ws : List (List ℕ)) (i : ℕ) (w : List ℕ) → i < length ws → w ≡ get_or ws i w → IsCover covered (take i ws)
    → IsSetOf set w
    → ((e : ℕ) → is_set more e ≡ (is_set covered e || is_set set e)) → IsCover more (take (i + 1) ws)
cover_more covered set more ws i w inside read cover s joined e =
    joined e ∙ ap (λ b. b || is_set set e) (cover e) ∙ ap (λ b. list_any (λ v. has v e) (take i ws) || b) (s e ∙ ap (λ v. has v e) read)
    ∙ sym (list_any_more (λ v. has v e) ws i w inside)

pub all_more : (bipolar : ℕ) (ws : List (List ℕ)) (i : ℕ) (w : List ℕ) → i < length ws → w ≡ get_or ws i w → list_all (is_sound_in bipolar) (take i ws) ≡ true
    → is_sound_in bipolar w ≡ true → list_all (is_sound_in bipolar) (take (i + 1) ws) ≡ true
all_more bipolar ws i w inside read before here =
    list_all_more (is_sound_in bipolar) ws i w inside
    ∙ and_from (list_all (is_sound_in bipolar) (take i ws)) (is_sound_in bipolar (get_or ws i w)) before (subst (λ v. is_sound_in bipolar v ≡ true) read here)

-- an edge that stands in a sound tuple is in the set
covered_within : (bipolar e : ℕ) (ws : List (List ℕ)) → list_all (is_sound_in bipolar) ws ≡ true → list_any (λ w. has w e) ws ≡ true → is_set bipolar e ≡ true
covered_within bipolar e [] sound any = absurd (false≢true any)
covered_within bipolar e (w ∷ ws) sound any =
    let p = and_parts (is_sound_in bipolar w) (list_all (is_sound_in bipolar) ws) sound in
    elim (or_cases (has w e) (list_any (λ v. has v e) ws) any) as (λ _. is_set bipolar e ≡ true) [
      | inl here ↦ member w (and_parts (is_distinct w) (list_all (is_set bipolar) w) p.0).1 here
      | inr there ↦ covered_within bipolar e ws p.1 there
    ]
  where
    member : (v : List ℕ) → list_all (is_set bipolar) v ≡ true → has v e ≡ true → is_set bipolar e ≡ true
    member [] all h = absurd (false≢true h)
    member (x ∷ xs) all h =
        let q = and_parts (is_set bipolar x) (list_all (is_set bipolar) xs) all in
        elim (or_cases (nat_eq e x) (has xs e) h) as (λ _. is_set bipolar e ≡ true) [
          | inl same ↦ subst (λ k. is_set bipolar k ≡ true) (sym (eqb-true e x same)) q.0
          | inr other ↦ member xs q.1 other
        ]

-- ---- sets that are equal

number_at : (n k d : ℕ) → k < n → get_or (numbers n) k d ≡ k
number_at n k d h = get_or-range_with_len 0 n k d h ∙ omega arith

-- whether each bipolar edge stands in some tuple
abbrev pub covers_all : Kind → ℕ → ℕ → List (List ℕ) → Bool
covers_all kind d label ws = list_all (λ e. not (is_bipolar_in kind d label e) || list_any (λ w. has w e) ws) (numbers (edge_count kind d))

-- where it does, what the tuples cover are the bipolar edges
covered_same : (kind : Kind) (d label bipolar covered : ℕ) (ws : List (List ℕ)) → Suits kind d label bipolar ws
    → list_all (is_sound_in bipolar) ws ≡ true → IsCover covered ws
    → covers_all kind d label ws ≡ true → covered ≡ bipolar
covered_same kind d label bipolar covered ws s sound cover all =
    same_sets covered bipolar
    (λ e. same_tests (is_set covered e) (is_set bipolar e) (λ h. covered_within bipolar e ws sound (sym (cover e) ∙ h))
    (λ h. elim (cases_lt e (edge_count kind d)) as (λ _. is_set covered e ≡ true) [
      | inl inside ↦
          let test : ℕ → Bool = λ k. not (is_bipolar_in kind d label k) || list_any (λ w. has w k) ws in
          let long : e < length (numbers (edge_count kind d)) = omega (arith, inside, length-range_with_len 0 (edge_count kind d)) in
          let passed = AllPass-from_list_all test (numbers (edge_count kind d)) all e 0 long in
          let at : test e ≡ true = subst (λ k. test k ≡ true) (number_at (edge_count kind d) e 0 inside) passed in
          cover e ∙ not_or (is_bipolar_in kind d label e) (list_any (λ w. has w e) ws) at (sym (s.bipolar_is e inside) ∙ h)
      | inr outside ↦ absurd (both_ways (is_set bipolar e) (s.others e outside) h)
    ]))

-- and where they are, it does
covers_same : (kind : Kind) (d label bipolar covered : ℕ) (ws : List (List ℕ)) → Suits kind d label bipolar ws → IsCover covered ws → covered ≡ bipolar
    → covers_all kind d label ws ≡ true
covers_same kind d label bipolar covered ws s cover same =
    let test : ℕ → Bool = λ k. not (is_bipolar_in kind d label k) || list_any (λ w. has w k) ws in
    list_all-from_AllPass test (numbers (edge_count kind d))
    (λ k n h.
    let inside : k < edge_count kind d = omega (arith, h, length-range_with_len 0 (edge_count kind d)) in
    subst (λ e. test e ≡ true) (sym (number_at (edge_count kind d) k n inside))
    (not_or_from (is_bipolar_in kind d label k) (list_any (λ w. has w k) ws)
    (λ b. sym (cover k) ∙ ap (λ set. is_set set k) same ∙ s.bipolar_is k inside ∙ b)))

pub edges_rule : (kind : Kind) (d label bipolar covered : ℕ) (ws : List (List ℕ)) → Suits kind d label bipolar ws
    → list_all (is_sound_in bipolar) ws ≡ true → IsCover covered ws
    → (covered == bipolar) ≡ rule_edges kind d label ws
edges_rule kind d label bipolar covered ws s sound cover =
    let sounds : list_all (is_sound_tuple kind d label) ws ≡ true = tuples_same kind d label bipolar ws s ∙ sound in
    let same : (covered == bipolar) ≡ covers_all kind d label ws =
    same_tests (covered == bipolar) (covers_all kind d label ws) (λ h. covers_same kind d label bipolar covered ws s cover (eqb-true covered bipolar h))
    (λ h. eq-eqb covered bipolar (covered_same kind d label bipolar covered ws s sound cover h)) in
    same ∙ ap (λ b. b && covers_all kind d label ws) (sym sounds)
