-- The third edge of a triangle, and the number of triangles at an edge.
use Rattle.std.specs.Prelude.{◌≡◌, ℕ, zero, suc, ◌<◌, Bool, true, false, not, ◌&&◌, ◌==◌, List, [], ◌∷◌, filter, find, length, count_by, Some, None}
use Rattle.std.specs.Prelude.{if◌then◌else◌}
use Rattle.std.proofs.Common.{refl, sym, ap, ◌∙◌, arith, get_or}
use Rattle.std.proofs.lemmas.List.Sums.{length-filter}
use Rattle.std.proofs.lemmas.List.{length-map}
use Rattle.lists.specs.Orders.{has}
use Rattle.iso_model.specs.Acceptance.{others_at}
use Rattle.path_rule.specs.PathRule.{third}

third_is : (e x : ℕ) (w : List ℕ) → has w e ≡ true → has w x ≡ true → third e x w ≡ find (λ y. not (y == e) && not (y == x)) w
third_is e x w a b =
    ap (λ c. if c && has w x then find (λ y. not (y == e) && not (y == x)) w else None) a
    ∙ ap (λ c. if c then find (λ y. not (y == e) && not (y == x)) w else None) b

find_first : (p : ℕ → Bool) (w : List ℕ) (i : ℕ) → i < length w → ((k : ℕ) → k < i → p (get_or w k 0) ≡ false) → p (get_or w i 0) ≡ true
    → find p w ≡ Some (get_or w i 0)
find_first p [] i inside before here = absurd (omega arith)
find_first p (x ∷ w) zero inside before here = ap (λ b. if b then Some x else find p w) here
find_first p (x ∷ w) (suc i) inside before here =
    ap (λ b. if b then Some x else find p w) (before 0 (omega arith)) ∙ find_first p w i (omega arith) (λ k h. before (suc k) (omega arith)) here

find_none : (p : ℕ → Bool) (w : List ℕ) → ((k : ℕ) → k < length w → p (get_or w k 0) ≡ false) → find p w ≡ None
find_none p [] all = refl
find_none p (x ∷ w) all = ap (λ b. if b then Some x else find p w) (all 0 (omega arith)) ∙ find_none p w (λ k h. all (suc k) (omega arith))

pub third_first : (e x : ℕ) (w : List ℕ) (i : ℕ) → has w e ≡ true → has w x ≡ true → i < length w
    → ((k : ℕ) → k < i → (not (get_or w k 0 == e) && not (get_or w k 0 == x)) ≡ false) → (not (get_or w i 0 == e) && not (get_or w i 0 == x)) ≡ true
    → Some (get_or w i 0) ≡ third e x w
third_first e x w i a b inside before here = sym (third_is e x w a b ∙ find_first (λ y. not (y == e) && not (y == x)) w i inside before here)

pub third_none : (e x : ℕ) (w : List ℕ) → has w e ≡ true → has w x ≡ true
    → ((k : ℕ) → k < length w → (not (get_or w k 0 == e) && not (get_or w k 0 == x)) ≡ false) → None ≡ third e x w
third_none e x w a b all = sym (third_is e x w a b ∙ find_none (λ y. not (y == e) && not (y == x)) w all)

pub count_others : (e : ℕ) (ws : List (List ℕ)) → length (others_at e ws) ≡ count_by (λ w. has w e) ws
count_others e ws = length-map (filter (λ w. has w e) ws) (λ w. filter (λ x. not (x == e)) w) ∙ length-filter (λ w. has w e) ws
