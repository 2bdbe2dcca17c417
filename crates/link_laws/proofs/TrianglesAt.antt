-- The triangles at a vertex by their numbers: where no two of them have one p, or one q, the step from triangle to triangle goes from q to p, and a
-- start is one whose p is no q.
use Rattle.std.specs.Prelude.{◌≡◌, ◌<◌, ◌==◌, ℕ, Bool, true, false, not, cond, List, [], ◌∷◌, length, find}
use Rattle.std.specs.Prelude.{filter, is_some, Option, Some, None, option_and_then}
use Rattle.std.specs.List.{list_any}
use Rattle.std.specs.Option.{option_map_or, unwrap_or}
use Rattle.std.proofs.Common.{refl, ap, sym, ◌∙◌, subst, inl, inr}
use Rattle.lists.specs.Orders.{numbers}
use Rattle.iso_model.specs.Walks.{reading, triangles_at, has_p, has_q, next_at, is_start}
use Rattle.lists.specs.Members.{In, Distinct}
use Rattle.lists.proofs.Tests.{equal_of, of_equal}
use Rattle.lists.proofs.Contained.{below_contained, contained_below}
use Rattle.lists.proofs.MemberLaws.{Contains_from, from_any, any_from, In-filter, In_from}
use Rattle.lists.proofs.DistinctLists.{Distinct-range, Distinct-filter}

-- the triangle of this number reads (k, p, q)
abbrev pub ReadsAt : List (List ℕ) → ℕ → ℕ → ℕ → ℕ → Type 0
ReadsAt ts k t p q = (t < length ts) × (reading ts k t ≡ Some (p, q))

-- ---- members of a list that pass a test

from_kept_case : (p : ℕ → Bool) (x y : ℕ) (ys : List ℕ) → (In x (filter p ys) → In x ys × (p x ≡ true)) → (b : Bool) → p y ≡ b
    → In x (cond b (y ∷ filter p ys) (filter p ys)) → In x (y ∷ ys) × (p x ≡ true)
from_kept_case p x y ys later true is (inl e) = (inl e, subst (λ (v : ℕ). p v ≡ true) (sym e) is)
from_kept_case p x y ys later true is (inr i) = let r = later i in (inr r.0, r.1)
from_kept_case p x y ys later false is i = let r = later i in (inr r.0, r.1)

from_kept : (p : ℕ → Bool) (xs : List ℕ) (x : ℕ) → In x (filter p xs) → In x xs × (p x ≡ true)
from_kept p [] x i = absurd i
from_kept p (y ∷ ys) x i = from_kept_case p x y ys (from_kept p ys x) (p y) refl i

from_find_case : (p : ℕ → Bool) (v y : ℕ) (ys : List ℕ) → (find p ys ≡ Some v → In v ys × (p v ≡ true)) → (b : Bool) → p y ≡ b
    → cond b (Some y) (find p ys) ≡ Some v → In v (y ∷ ys) × (p v ≡ true)
from_find_case p v y ys later true is e = let same : y ≡ v = some_same y v e in (inl (sym same), subst (λ (z : ℕ). p z ≡ true) same is)
  where
    some_same : (a b : ℕ) → Some a ≡ Some b → a ≡ b
    some_same a b h = cc
from_find_case p v y ys later false is e = let r = later e in (inr r.0, r.1)

-- what was found is a member that passes
pub from_find : (p : ℕ → Bool) (xs : List ℕ) (v : ℕ) → find p xs ≡ Some v → In v xs × (p v ≡ true)
from_find p [] v e = absurd (nothing e)
  where
    nothing : None ≡ Some v → ⊥
    nothing h = cc
from_find p (y ∷ ys) v e = from_find_case p v y ys (from_find p ys v) (p y) refl e

found_case : (p : ℕ → Bool) (u y : ℕ) (ys : List ℕ) → In u (y ∷ ys) → p u ≡ true → (In u ys → (v : ℕ) × (find p ys ≡ Some v)) → (b : Bool) → p y ≡ b
    → (v : ℕ) × (cond b (Some y) (find p ys) ≡ Some v)
found_case p u y ys i h later true is = (y, refl)
found_case p u y ys (inl e) h later false is = let clash : true ≡ false = sym h ∙ ap p e ∙ is in absurd (cc)
found_case p u y ys (inr i) h later false is = later i

-- where a member passes, one is found
pub found : (p : ℕ → Bool) (xs : List ℕ) (u : ℕ) → In u xs → p u ≡ true → (v : ℕ) × (find p xs ≡ Some v)
found p [] u i h = absurd i
found p (y ∷ ys) u i h = found_case p u y ys i h (λ j. found p ys u j h) (p y) refl

-- ---- the triangles at k, and how they read

some_value : (o : Option (ℕ × ℕ)) → is_some o ≡ true → (p : ℕ) × (q : ℕ) × (o ≡ Some (p, q))
some_value None e = absurd (cc)
some_value (Some r) e = (r.0, r.1, refl)

with_p : (p : ℕ) (o : Option (ℕ × ℕ)) → option_map_or (λ (r : ℕ × ℕ). r.0 == p) o false ≡ true → (q : ℕ) × (o ≡ Some (p, q))
with_p p None e = absurd (cc)
with_p p (Some r) e = let h : r.0 ≡ p = equal_of r.0 p e in (r.1, ap Some (λ i. (h i, r.1)))

with_q : (q : ℕ) (o : Option (ℕ × ℕ)) → option_map_or (λ (r : ℕ × ℕ). r.1 == q) o false ≡ true → (p : ℕ) × (o ≡ Some (p, q))
with_q q None e = absurd (cc)
with_q q (Some r) e = let h : r.1 ≡ q = equal_of r.1 q e in (r.0, ap Some (λ i. (r.0, h i)))

module _ (ts : List (List ℕ)) (k : ℕ) where
  -- a triangle that reads (k, p, q) is one of those at k
  pub triangles_have : (t p q : ℕ) → ReadsAt ts k t p q → In t (triangles_at ts k)
  triangles_have t p q r =
      In-filter (λ u. is_some (reading ts k u)) (numbers (length ts)) t (In_from (numbers (length ts)) t (contained_below (length ts) t r.0))
      (ap is_some r.1)

  triangles_below : (t : ℕ) → In t (triangles_at ts k) → t < length ts
  triangles_below t i =
      below_contained (length ts) t (Contains_from (numbers (length ts)) t (from_kept (λ u. is_some (reading ts k u)) (numbers (length ts)) t i).0)

  -- each triangle at k reads (k, p, q) with some p and q
  pub triangles_read : (t : ℕ) → In t (triangles_at ts k) → (p : ℕ) × (q : ℕ) × ReadsAt ts k t p q
  triangles_read t i =
      let r = some_value (reading ts k t) (from_kept (λ u. is_some (reading ts k u)) (numbers (length ts)) t i).1 in
      (r.0, r.1, (triangles_below t i, r.2))

  -- the list of them has none twice
  pub triangles_distinct : Distinct (triangles_at ts k)
  triangles_distinct = Distinct-filter (λ u. is_some (reading ts k u)) (numbers (length ts)) (Distinct-range 0 (length ts))

  has_p_at : (t p q : ℕ) → ReadsAt ts k t p q → has_p ts k p t ≡ true
  has_p_at t p q r = subst (λ (o : Option (ℕ × ℕ)). option_map_or (λ (s : ℕ × ℕ). s.0 == p) o false ≡ true) (sym r.1) (of_equal p p refl)

  has_q_at : (t p q : ℕ) → ReadsAt ts k t p q → has_q ts k q t ≡ true
  has_q_at t p q r = subst (λ (o : Option (ℕ × ℕ)). option_map_or (λ (s : ℕ × ℕ). s.1 == q) o false ≡ true) (sym r.1) (of_equal q q refl)

  -- a triangle reads in one way
  pub reads_once : (t p q r s : ℕ) → ReadsAt ts k t p q → ReadsAt ts k t r s → (p ≡ r) × (q ≡ s)
  reads_once t p q r s a b = let e = same_pair (p, q) (r, s) (sym a.1 ∙ b.1) in (ap (λ (x : ℕ × ℕ). x.0) e, ap (λ (x : ℕ × ℕ). x.1) e)
    where
      same_pair : (x y : ℕ × ℕ) → Some x ≡ Some y → x ≡ y
      same_pair x y h = cc

  -- ---- starts

  start_is : (t p q : ℕ) → ReadsAt ts k t p q → is_start ts k t ≡ not (list_any (has_q ts k p) (triangles_at ts k))
  start_is t p q r = ap (λ (o : Option (ℕ × ℕ)). option_map_or (λ (s : ℕ × ℕ). not (list_any (has_q ts k s.0) (triangles_at ts k))) o false) r.1

  -- a triangle is no start where its p is the q of one
  pub no_start : (t p q u x : ℕ) → ReadsAt ts k t p q → ReadsAt ts k u x p → is_start ts k t ≡ false
  no_start t p q u x r s = start_is t p q r ∙ ap not (any_from (has_q ts k p) (triangles_at ts k) u (triangles_have u x p s) (has_q_at u x p s))

  -- and a start where it is the q of none
  pub start_where : (t p q : ℕ) → ReadsAt ts k t p q → ((u x : ℕ) → ReadsAt ts k u x p → ⊥) → is_start ts k t ≡ true
  start_where t p q r never = start_is t p q r ∙ negated (list_any (has_q ts k p) (triangles_at ts k)) (λ e.
      let f = from_any (has_q ts k p) (triangles_at ts k) e in
      let s = with_q p (reading ts k f.0) f.2 in
      never f.0 s.0 (triangles_below f.0 f.1, s.1))
    where
      negated : (b : Bool) → (b ≡ true → ⊥) → not b ≡ true
      negated true n = absurd (n refl)
      negated false n = refl

  -- the p of a start is the q of none
  pub from_start : (t p q : ℕ) → ReadsAt ts k t p q → is_start ts k t ≡ true → (u x : ℕ) → ReadsAt ts k u x p → ⊥
  from_start t p q r e u x s = let clash : true ≡ false = sym e ∙ no_start t p q u x r s in cc

  -- ---- the step

  next_finds : (t p q : ℕ) → ReadsAt ts k t p q → next_at ts k t ≡ find (has_p ts k q) (triangles_at ts k)
  next_finds t p q r = ap (λ (o : Option (ℕ × ℕ)). option_and_then (λ (s : ℕ × ℕ). find (has_p ts k s.1) (triangles_at ts k)) o) r.1

  -- from a triangle that reads (k, p, q) the step goes to one that reads (k, q, r)
  pub from_next_at : (t p q u : ℕ) → ReadsAt ts k t p q → next_at ts k t ≡ Some u → (r : ℕ) × ReadsAt ts k u q r
  from_next_at t p q u r e =
      let f = from_find (has_p ts k q) (triangles_at ts k) u (sym (next_finds t p q r) ∙ e) in
      let s = with_p q (reading ts k u) f.1 in
      (s.0, (triangles_below u f.0, s.1))

  -- no two triangles at k have one p, and no two have one q
  pub record OneByOne : Type 0 where
    pub leaves : (t u p q r : ℕ) → ReadsAt ts k t p q → ReadsAt ts k u p r → t ≡ u
    pub enters : (t u p q r : ℕ) → ReadsAt ts k t q p → ReadsAt ts k u r p → t ≡ u

  -- the number of the triangle with this p
  abbrev pub number : ℕ → ℕ
  number p = unwrap_or (find (has_p ts k p) (triangles_at ts k)) 0

  module _ (one : OneByOne) where
    find_at : (t p q : ℕ) → ReadsAt ts k t p q → find (has_p ts k p) (triangles_at ts k) ≡ Some t
    find_at t p q r =
        let f = found (has_p ts k p) (triangles_at ts k) t (triangles_have t p q r) (has_p_at t p q r) in
        let g = from_find (has_p ts k p) (triangles_at ts k) f.0 f.1 in
        let s = with_p p (reading ts k f.0) g.1 in
        f.1 ∙ ap Some (one.leaves f.0 t p s.0 q (triangles_below f.0 g.0, s.1) r)

    pub number_is : (t p q : ℕ) → ReadsAt ts k t p q → number p ≡ t
    number_is t p q r = ap (λ (o : Option ℕ). unwrap_or o 0) (find_at t p q r)

    -- the step goes to the triangle that reads (k, q, r), where there is one
    pub next_is_at : (t u p q r : ℕ) → ReadsAt ts k t p q → ReadsAt ts k u q r → next_at ts k t ≡ Some u
    next_is_at t u p q r a b = next_finds t p q a ∙ find_at u q r b
