-- Lists of which no member stands twice.
use Rattle.std.proofs.Common.{Bool, List, [], ap, arith, false, not, refl, sym, true, ℕ, ◌&&◌, ◌+◌, ◌||◌, ◌∙◌, ◌∷◌, ◌≡◌, ◌≤◌}
use Rattle.std.proofs.lemmas.Bool.{and_from, and_parts, not-true, not_from_false, or_parts}
use Rattle.std.proofs.lemmas.List.Folds.{list_any-append}
use Rattle.std.specs.List.{list_any, range_with_len}
use Rattle.std.specs.Prelude.{cond, count_by, filter, nat_eq, suc, zero, ◌++◌}
use Rattle.lists.proofs.Counts.{count_none, count_some, never_there, not_there}
use Rattle.lists.proofs.MemberLaws.{from_any, any_from, above_range, from_filter}
use Rattle.lists.proofs.Tests.{nat_eq-sym}
use Rattle.lists.specs.Members.{Distinct}
use Rattle.lists.specs.Orders.{has, is_distinct}

pub Distinct-range : (a n : ℕ) → Distinct (range_with_len a n)
Distinct-range a zero = tt
Distinct-range a (suc n) = (never_there a (range_with_len (a + 1) n) (λ i. omega (arith, above_range (a + 1) n a i)), Distinct-range (a + 1) n)

pub Distinct-filter_case : (p : ℕ → Bool) (y : ℕ) (ys : List ℕ) → count_by (nat_eq y) ys ≡ 0 → Distinct (filter p ys) → (b : Bool)
    → Distinct (cond b (y ∷ filter p ys) (filter p ys))
Distinct-filter_case p y ys none later true = (never_there y (filter p ys) (λ i. not_there y ys none (from_filter p ys y i).0), later)
Distinct-filter_case p y ys none later false = later

pub Distinct-filter : (p : ℕ → Bool) (xs : List ℕ) → Distinct xs → Distinct (filter p xs)
Distinct-filter p [] d = tt
Distinct-filter p (y ∷ ys) d = Distinct-filter_case p y ys d.0 (Distinct-filter p ys d.1) (p y)

pub has-push : (es : List ℕ) (x e : ℕ) → has (es ++ x ∷ []) e ≡ (has es e || (nat_eq e x || false))
has-push es x e = list_any-append (nat_eq e) es (x ∷ [])

test_parts : (a b p q : Bool) → (not (a || (b || false)) && (p && not q)) ≡ ((not a && p) && not (b || q))
test_parts true b p q = refl
test_parts false true true q = refl
test_parts false true false q = refl
test_parts false false p q = refl

pub distinct-push : (es : List ℕ) (x : ℕ) → is_distinct (es ++ x ∷ []) ≡ (is_distinct es && not (has es x))
distinct-push [] x = refl
distinct-push (e ∷ es) x =
    ap (λ b. not b && is_distinct (es ++ x ∷ [])) (has-push es x e) ∙ ap (λ b. not (has es e || (nat_eq e x || false)) && b) (distinct-push es x)
    ∙ test_parts (has es e) (nat_eq e x) (is_distinct es) (has es x) ∙ ap (λ b. (not (has es e) && is_distinct es) && not (b || has es x)) (nat_eq-sym e x)

pub distinct-front : (es fs : List ℕ) → is_distinct (es ++ fs) ≡ true → is_distinct es ≡ true
distinct-front [] fs h = refl
distinct-front (e ∷ es) fs h =
    let p = and_parts (not (has (es ++ fs) e)) (is_distinct (es ++ fs)) h in
    let q = or_parts (has es e) (has fs e) (sym (list_any-append (nat_eq e) es fs) ∙ not-true (has (es ++ fs) e) p.0) in
    and_from (not (has es e)) (is_distinct es) (not_from_false (has es e) q.0) (distinct-front es fs p.1)

pub any-count : (p : ℕ → Bool) (xs : List ℕ) → count_by p xs ≡ 0 → list_any p xs ≡ false
any-count p xs none =
    not_true (list_any p xs)
    (λ h. let r = from_any p xs h in let some : 1 ≤ count_by p xs = count_some p xs r.0 r.1 r.2 in absurd (omega (arith, some, none)))
  where
    not_true : (b : Bool) → (b ≡ true → ⊥) → b ≡ false
    not_true true h = absurd (h refl)
    not_true false h = refl

pub distinct_test : (w : List ℕ) → Distinct w → is_distinct w ≡ true
distinct_test [] d = refl
distinct_test (x ∷ w) d = rw (any-count (nat_eq x) w d.0, distinct_test w d.1) refl

pub count-any : (p : ℕ → Bool) (xs : List ℕ) → list_any p xs ≡ false → count_by p xs ≡ 0
count-any p xs h = count_none p xs (λ x i e. clash (list_any p xs) h (any_from p xs x i e))
  where
    clash : (b : Bool) → b ≡ false → b ≡ true → ⊥
    clash b e f = cc

pub from_distinct_test : (w : List ℕ) → is_distinct w ≡ true → Distinct w
from_distinct_test [] h = tt
from_distinct_test (x ∷ w) h = let r = both (list_any (nat_eq x) w) (is_distinct w) h in (count-any (nat_eq x) w r.0, from_distinct_test w r.1)
  where
    both : (a b : Bool) → (not a && b) ≡ true → (a ≡ false) × (b ≡ true)
    both true b e = absurd (cc)
    both false b e = (refl, e)
