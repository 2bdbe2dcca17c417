-- The finding that is computed is the one that holds, and no other holds.
use Rattle.std.specs.Prelude.{◌≡◌, ◌<◌, ◌≤◌, ◌+◌, ℕ, zero, suc, Bool, true, false, cond, List, length, find, Option, Some, None}
use Rattle.std.specs.List.{list_any, range_with_len}
use Rattle.std.proofs.Math.Nat.{eq-or-lt_of_le}
use Rattle.std.proofs.lemmas.Bool.{cases_order}
use Rattle.std.proofs.Common.{refl, ap, arith, subst, sym, ◌∙◌, inl, inr}
use Rattle.iso_model.specs.Faces.{face_sum}
use Rattle.mesh_audit.specs.declared.findings.Finding.{Finding}
use Rattle.mesh_audit.specs.declared.findings.Finding.TheVariants.{Clean, Repeat, Face, Link}
use Rattle.mesh_audit.specs.Findings.{face_at, HasFinding, HasOneFinding, IsLeast, NonePasses, NoneRepeats, AllGlued, least_below, finding, by_repeat}
use Rattle.mesh_audit.specs.Findings.{by_face, by_place, by_link, has_repeat, has_wrong_face, is_wrong_at, has_wrong_link, simplex_at}

-- a number found from a on is the first there that passes
pub record IsFound (test : ℕ → Bool) (a n k : ℕ) : Type 0 where
  pub from : a ≤ k
  pub below : k < a + n
  pub passes : test k ≡ true
  pub least : (j : ℕ) → a ≤ j → j < k → test j ≡ false

fails_from : (test : ℕ → Bool) (a : ℕ) → test a ≡ false → (P : ℕ → Type 0)
    → ((j : ℕ) → a + 1 ≤ j → P j → test j ≡ false) → (j : ℕ) → a ≤ j → P j → test j ≡ false
fails_from test a e P later j h p = elim (eq-or-lt_of_le h) as (λ _. test j ≡ false) [
  | inl s ↦ subst (λ (i : ℕ). test i
      ≡ false) s e
  | inr l ↦ later j (omega (arith, l)) p
]

found : (test : ℕ → Bool) (a n k : ℕ) → find test (range_with_len a n) ≡ Some k → IsFound test a n k
found test a zero k e = absurd (cc)
found test a (suc n) k e = go (test a) refl (found test (a + 1) n k) e
  where
    go : (b : Bool) → test a ≡ b → (find test (range_with_len (a + 1) n) ≡ Some k → IsFound test (a + 1) n k)
        → cond b (Some a) (find test (range_with_len (a + 1) n)) ≡ Some k → IsFound test a (suc n) k
    go true t later e =
        let s : a ≡ k = cc in
        record {
          from = omega (arith, s);
          below = omega (arith, s);
          passes = subst (λ (i : ℕ). test i ≡ true) s t;
          least =
              λ j h l. absurd (omega (arith, s, h, l));
        }
    go false t later e =
        let f = later e in
        record { from = omega (arith, f.from); below = omega (arith, f.below); passes = f.passes; least = fails_from test a t (λ j. j < k) f.least }

none_found : (test : ℕ → Bool) (a n : ℕ) → find test (range_with_len a n) ≡ None → (j : ℕ) → a ≤ j → j < a + n → test j ≡ false
none_found test a zero e = λ j h l. absurd (omega (arith, h, l))
none_found test a (suc n) e = go (test a) refl (none_found test (a + 1) n) e
  where
    go : (b : Bool) → test a ≡ b → (find test (range_with_len (a + 1) n) ≡ None → (j : ℕ) → a + 1 ≤ j → j < a + 1 + n → test j ≡ false)
        → cond b (Some a) (find test (range_with_len (a + 1) n)) ≡ None → (j : ℕ) → a ≤ j → j < a + suc n → test j ≡ false
    go true t later e = absurd (cc)
    go false t later e = fails_from test a t (λ j. j < a + suc n) (λ j h l. later e j h (omega (arith, l)))

-- a found number is the least that passes
pub least_found : (test : ℕ → Bool) (n k : ℕ) → least_below test n ≡ Some k → IsLeast test n k
least_found test n k e =
    let f = found test 0 n k e in
    record { below = omega (arith, f.below); passes = f.passes; least = λ j l. f.least j (omega arith) l }

-- where none is found none passes
pub none_passes : (test : ℕ → Bool) (n : ℕ) → least_below test n ≡ None → NonePasses test n
none_passes test n e = λ k l. none_found test 0 n e k (omega arith) (omega (arith, l))

-- there is only one least number
pub one_least : (test : ℕ → Bool) (n j k : ℕ) → IsLeast test n j → IsLeast test n k → j ≡ k
one_least test n j k a b = elim (cases_order j k) as (λ _. j ≡ k) [
  | inl e ↦ e
  | inr o ↦ elim o as (λ _. j ≡ k) [
    | inl l ↦ absurd (let x = b.least j l in let y = a.passes in cc)
    | inr l ↦ absurd (let x = a.least k l in let y = b.passes in cc)
  ]
]

pub found_least : (test : ℕ → Bool) (n k : ℕ) → IsLeast test n k → least_below test n ≡ Some k
found_least test n k h = go (least_below test n) refl
  where
    go : (o : Option ℕ) → least_below test n ≡ o → o ≡ Some k
    go (Some j) e = ap Some (one_least test n j k (least_found test n j e) h)
    go None e = absurd (let x = none_passes test n e k h.below in let y = h.passes in cc)

pub found_none : (test : ℕ → Bool) (n : ℕ) → NonePasses test n → least_below test n ≡ None
found_none test n h = go (least_below test n) refl
  where
    go : (o : Option ℕ) → least_below test n ≡ o → o ≡ None
    go (Some j) e = absurd (let l = least_found test n j e in let x = h j l.below in let y = l.passes in cc)
    go None e = refl

-- where no number passes a test, the test of any of them fails
none_any : (test : ℕ → Bool) (a n : ℕ) → find test (range_with_len a n) ≡ None → list_any test (range_with_len a n) ≡ false
none_any test a zero e = refl
none_any test a (suc n) e = go (test a) refl (none_any test (a + 1) n) e
  where
    go : (b : Bool) → test a ≡ b → (find test (range_with_len (a + 1) n) ≡ None → list_any test (range_with_len (a + 1) n) ≡ false)
        → cond b (Some a) (find test (range_with_len (a + 1) n)) ≡ None → list_any test (range_with_len a (suc n)) ≡ false
    go true t later e = absurd (cc)
    go false t later e = rw t (later e)

-- ---- the finding

holds_at_link : (d v : ℕ) (ss : List (List ℕ)) → NoneRepeats ss → AllGlued ss → (o : Option ℕ) → least_below (has_wrong_link d ss) v ≡ o
    → HasFinding d v ss (by_link ss o)
holds_at_link d v ss nr ag (Some k) e = (nr, ag, least_found (has_wrong_link d ss) v k e)
holds_at_link d v ss nr ag None e = (nr, ag, none_passes (has_wrong_link d ss) v e, refl)

holds_at_place : (d v : ℕ) (ss : List (List ℕ)) (i : ℕ) → NoneRepeats ss → IsLeast (has_wrong_face ss) (length ss) i
    → (o : Option ℕ) → least_below (is_wrong_at ss i) (length (simplex_at ss i)) ≡ o → HasFinding d v ss (by_place ss i o)
holds_at_place d v ss i nr h (Some p) e = (nr, h, least_found (is_wrong_at ss i) (length (simplex_at ss i)) p e, refl, refl)
holds_at_place d v ss i nr h None e = absurd (let x = none_any (is_wrong_at ss i) 0 (length (simplex_at ss i)) e in let y = h.passes in cc)

holds_at_face : (d v : ℕ) (ss : List (List ℕ)) → NoneRepeats ss → (o : Option ℕ) → least_below (has_wrong_face ss) (length ss) ≡ o
    → HasFinding d v ss (by_face d v ss o)
holds_at_face d v ss nr (Some i) e =
    holds_at_place d v ss i nr (least_found (has_wrong_face ss) (length ss) i e) (least_below (is_wrong_at ss i) (length (simplex_at ss i))) refl
holds_at_face d v ss nr None e = holds_at_link d v ss nr (none_passes (has_wrong_face ss) (length ss) e) (least_below (has_wrong_link d ss) v) refl

holds_at_repeat : (d v : ℕ) (ss : List (List ℕ)) → (o : Option ℕ) → least_below (has_repeat ss) (length ss) ≡ o → HasFinding d v ss (by_repeat d v ss o)
holds_at_repeat d v ss (Some i) e = least_found (has_repeat ss) (length ss) i e
holds_at_repeat d v ss None e = holds_at_face d v ss (none_passes (has_repeat ss) (length ss) e) (least_below (has_wrong_face ss) (length ss)) refl

-- the finding computed holds
pub finding_holds : (d v : ℕ) (ss : List (List ℕ)) → HasFinding d v ss (finding d v ss)
finding_holds d v ss = holds_at_repeat d v ss (least_below (has_repeat ss) (length ss)) refl

-- and a finding that holds is the one computed
pub one_finding : (d v : ℕ) (ss : List (List ℕ)) (f : Finding) → HasFinding d v ss f → finding d v ss ≡ f
one_finding d v ss (Repeat i) h = ap (by_repeat d v ss) (found_least (has_repeat ss) (length ss) i h)
one_finding d v ss (Face i p c s) h =
    ap (by_repeat d v ss) (found_none (has_repeat ss) (length ss) h.0)
    ∙ ap (by_face d v ss) (found_least (has_wrong_face ss) (length ss) i h.1)
    ∙ ap (by_place ss i) (found_least (is_wrong_at ss i) (length (simplex_at ss i)) p h.2)
    ∙ ap (λ (n : ℕ). Face i p n (face_sum ss (face_at ss i p))) (sym h.3)
    ∙ ap (Face i p c) (sym h.4)
one_finding d v ss (Link k) h =
    ap (by_repeat d v ss) (found_none (has_repeat ss) (length ss) h.0)
    ∙ ap (by_face d v ss) (found_none (has_wrong_face ss) (length ss) h.1)
    ∙ ap (by_link ss) (found_least (has_wrong_link d ss) v k h.2)
one_finding d v ss (Clean n) h =
    ap (by_repeat d v ss) (found_none (has_repeat ss) (length ss) h.0)
    ∙ ap (by_face d v ss) (found_none (has_wrong_face ss) (length ss) h.1)
    ∙ ap (by_link ss) (found_none (has_wrong_link d ss) v h.2)
    ∙ ap Clean (sym h.3)

pub has_one_finding : (d v : ℕ) (ss : List (List ℕ)) → HasOneFinding d v ss
has_one_finding d v ss = record {
  found = (finding d v ss, finding_holds d v ss);
  one = λ a b h k. sym (one_finding d v ss a h) ∙ one_finding d v ss b k;
}
