-- A walk through the triangles at an edge: which triangles it has left, and that paths through these are asked for.
use Rattle.std.specs.Prelude.{◌≡◌, ◌≢◌, ◌<◌, ◌⊎◌, ℕ, suc, Bool, true, false, List, [], ◌∷◌, ◌++◌, map, length, slice_index_or, ⊤, Option, Some}
use Rattle.std.specs.List.{list_any}
use Rattle.std.proofs.Common.{refl, sym, ap, ◌∙◌, subst, inl, inr}
use Rattle.std.proofs.lemmas.Bool.{cases_eq}
use Rattle.iso_model.specs.declared.Kind.{Kind}
use Rattle.lists.specs.Orders.{has, orders_of}
use Rattle.iso_model.specs.Acceptance.{goes_on}
use Rattle.path_rule.specs.PathRule.{HasFace, IsNext, SharesByTwo}
use Rattle.path_rule.proofs.Orders.{any_same, orders_suc, picks_none, picks_only}
use Rattle.path_rule.proofs.Triangles.{others, goes_lacks, goes_first, goes_second, IsFound, found_third, has_third, one_of_two}
use Rattle.lists.specs.Members.{In}
use Rattle.lists.proofs.MemberLaws.{In-append_left, In-append_right, In_of_has, has_of_In, any_none}
use Rattle.std.proofs.lemmas.Option.{same_Some}

-- ---- lists in which no number stands twice

abbrev pub Once : List ℕ → Type 0
Once [] = ⊤
Once (x ∷ xs) = (In x xs → ⊥) × Once xs

-- a list taken apart at a member
pub record IsApart (t : ℕ) (is : List ℕ) : Type 0 where
  pub front : List ℕ
  pub back : List ℕ
  pub whole : is ≡ front ++ t ∷ back
  pub once : Once (front ++ back)
  pub taken : In t (front ++ back) → ⊥
  pub kept : (i : ℕ) → In i (front ++ back) → In i is
  pub parts : (i : ℕ) → In i is → (i ≡ t) ⊎ In i (front ++ back)
  pub shorter : length is ≡ suc (length (front ++ back))

pub taken_apart : (t : ℕ) (is : List ℕ) → Once is → In t is → IsApart t is
taken_apart t [] once m = absurd m
taken_apart t (x ∷ is) once (inl e) = record {
  front = [];
  back = is;
  whole = ap (λ y. y ∷ is) (sym e);
  once = once.1;
  taken = subst (λ (y : ℕ). In y is → ⊥) (sym e) once.0;
  kept = λ i m. inr m;
  parts = λ i m. elim m as (λ _. (i ≡ t) ⊎ In i is) [ inl f ↦ inl (f ∙ sym e) | inr n ↦ inr n ];
  shorter = refl;
}
taken_apart t (x ∷ is) once (inr m) =
    let r = taken_apart t is once.1 m in
    record {
      front = x ∷ r.front;
      back = r.back;
      whole = ap (λ (l : List ℕ). x ∷ l) r.whole;
      once = ((λ n. once.0 (r.kept x n)), r.once);
      taken = λ n. elim n as (λ _. ⊥) [ inl e ↦ once.0 (subst (λ (y : ℕ). In y is) e m) | inr o ↦ r.taken o ];
      kept = λ i n. elim n as (λ _. In i (x ∷ is)) [ inl e ↦ inl e | inr o ↦ inr (r.kept i o) ];
      parts = λ i n. elim n as (λ _. (i ≡ t) ⊎ In i (x ∷ r.front ++ r.back)) [
        | inl e ↦ inr (inl e)
        | inr o ↦ elim (r.parts i o) as (λ _. (i ≡ t) ⊎ In i (x ∷ r.front ++ r.back)) [ inl f ↦ inl f | inr p ↦ inr (inr p) ]
      ];
      shorter = ap suc r.shorter;
    }

-- ---- paths through what is left

-- the two other edges of a triangle
abbrev pub pair_at : ℕ → List (List ℕ) → ℕ → List ℕ
pair_at e ws i = others e (slice_index_or ws i [])

-- some order of n triangles, by their numbers, is a path from the face of e and x to facet f
abbrev pub leads_on : Kind → ℕ → ℕ → ℕ → ℕ → List (List ℕ) → List ℕ → Bool
leads_on kind e f x n ws is = list_any (goes_on kind 3 e f x) (orders_of n (map (pair_at e ws) is))

pub leads_stuck : (kind : Kind) (e f x n : ℕ) (ws : List (List ℕ)) (is : List ℕ) → ((i : ℕ) → In i is → has (pair_at e ws i) x ≡ false)
    → leads_on kind e f x (suc n) ws is ≡ false
leads_stuck kind e f x n ws is lacks =
    orders_suc (goes_on kind 3 e f x) n (map (pair_at e ws) is)
    ∙ picks_none (pair_at e ws) (λ (p : List ℕ × List (List ℕ)). list_any (λ r. goes_on kind 3 e f x (p.0 ∷ r)) (orders_of n p.1)) is
    (λ i m rest. any_none (λ r. goes_on kind 3 e f x (pair_at e ws i ∷ r)) (orders_of n rest) (λ r. goes_lacks kind 3 e f x (pair_at e ws i) r (lacks i m)))

pub leads_step : (kind : Kind) (e f x q n : ℕ) (ws : List (List ℕ)) (front : List ℕ) (t : ℕ) (back : List ℕ) → x ≢ q
    → (pair_at e ws t ≡ x ∷ q ∷ []) ⊎ (pair_at e ws t ≡ q ∷ x ∷ []) → ((i : ℕ) → In i (front ++ back) → has (pair_at e ws i) x ≡ false)
    → leads_on kind e f x (suc n) ws (front ++ t ∷ back) ≡ leads_on kind e f q n ws (front ++ back)
leads_step kind e f x q n ws front t back ne pair lacks =
    orders_suc (goes_on kind 3 e f x) n (map (pair_at e ws) (front ++ t ∷ back))
    ∙ picks_only (pair_at e ws) (λ (p : List ℕ × List (List ℕ)). list_any (λ r. goes_on kind 3 e f x (p.0 ∷ r)) (orders_of n p.1)) front t back
    (λ i m. fails i (In-append_left front back i m)) (λ i m. fails i (In-append_right front back i m))
    ∙ any_same (λ r. goes_on kind 3 e f x (pair_at e ws t ∷ r)) (goes_on kind 3 e f q) (orders_of n (map (pair_at e ws) (front ++ back))) (passes pair)
  where
    fails : (i : ℕ) → In i (front ++ back) → (rest : List (List ℕ)) → list_any (λ r. goes_on kind 3 e f x (pair_at e ws i ∷ r)) (orders_of n rest) ≡ false
    fails i m rest = any_none (λ r. goes_on kind 3 e f x (pair_at e ws i ∷ r)) (orders_of n rest) (λ r. goes_lacks kind 3 e f x (pair_at e ws i) r (lacks i m))

    passes : (pair_at e ws t ≡ x ∷ q ∷ []) ⊎ (pair_at e ws t ≡ q ∷ x ∷ []) → (r : List (List ℕ))
        → goes_on kind 3 e f x (pair_at e ws t ∷ r) ≡ goes_on kind 3 e f q r
    passes (inl s) r = ap (λ (v : List ℕ). goes_on kind 3 e f x (v ∷ r)) s ∙ goes_first kind 3 e f x q r ne
    passes (inr s) r = ap (λ (v : List ℕ). goes_on kind 3 e f x (v ∷ r)) s ∙ goes_second kind 3 e f x q r ne

-- ---- what a walk keeps

-- the walk stands at the face of e and x, left the present triangle by it, and has these triangles left
pub record Walking (e : ℕ) (ws : List (List ℕ)) (x : ℕ) (present : Option ℕ) (is : List ℕ) : Type 0 where
  pub off : x ≢ e
  pub inside : (i : ℕ) → In i is → i < length ws
  pub at_edge : (i : ℕ) → In i is → has (slice_index_or ws i []) e ≡ true
  pub once : Once is
  pub one : (i j : ℕ) → In i is → In j is → has (slice_index_or ws i []) x ≡ true → has (slice_index_or ws j []) x ≡ true → i ≡ j
  pub sharing : (i : ℕ) → HasFace ws e x i → (present ≡ Some i) ⊎ In i is
  pub gone : (i : ℕ) → present ≡ Some i → In i is → ⊥
  pub closed : (y i j : ℕ) → y ≢ e → y ≢ x → HasFace ws e y i → (In i is → ⊥) → In j is → has (slice_index_or ws j []) y ≡ true → ⊥

pub found_at : (e x : ℕ) (present : Option ℕ) (t q : ℕ) (ws : List (List ℕ)) → SharesByTwo e ws → x ≢ e → IsNext e x present ws t q
    → IsFound e x q (slice_index_or ws t [])
found_at e x present t q ws shares off next =
    found_third e x q (slice_index_or ws t []) (shares.long t [] next.inside) (shares.distinct t [] next.inside) off next.is_third

has_face_of : (e x : ℕ) (present : Option ℕ) (t q : ℕ) (ws : List (List ℕ)) → IsNext e x present ws t q → IsFound e x q (slice_index_or ws t [])
    → HasFace ws e x t
has_face_of e x present t q ws next found = (next.inside, found.has_e, found.has_x)

member_cases : (i : ℕ) (is : List ℕ) → In i is ⊎ (In i is → ⊥)
member_cases i is = by (has is i) refl
  where
    by : (b : Bool) → has is i ≡ b → In i is ⊎ (In i is → ⊥)
    by true h = inl (In_of_has is i h)
    by false h = inr (λ m. let a = has_of_In is i m in absurd (cc))

-- the next triangle is one of those that are left
pub next_left : (e x : ℕ) (present : Option ℕ) (t q : ℕ) (ws : List (List ℕ)) (is : List ℕ) → Walking e ws x present is → IsNext e x present ws t q
    → IsFound e x q (slice_index_or ws t []) → In t is
next_left e x present t q ws is walking next found = elim (walking.sharing t (has_face_of e x present t q ws next found)) as (λ _. In t is) [
  | inl e ↦ absurd (next.other e)
  | inr m ↦ m
]

-- two of three triangles with a face are the same
last_two : (e x t i j : ℕ) (ws : List (List ℕ)) → SharesByTwo e ws → x ≢ e → HasFace ws e x t → HasFace ws e x i → HasFace ws e x j → t ≢ i → t ≢ j → i ≡ j
last_two e x t i j ws shares off a b c ne nf = elim (shares.two x t i j off a b c) as (λ _. i ≡ j) [
  | inl s ↦ absurd (ne s)
  | inr o ↦ elim o as (λ _. i ≡ j) [ inl s ↦ absurd (nf s) | inr s ↦ s ]
]

pub walk_step : (e x : ℕ) (present : Option ℕ) (t q : ℕ) (ws : List (List ℕ)) (is : List ℕ) → SharesByTwo e ws → (w : Walking e ws x present is)
    → IsNext e x present ws t q
    → (a : IsApart t is) → IsFound e x q (slice_index_or ws t []) → In t is → Walking e ws q (Some t) (a.front ++ a.back)
walk_step e x present t q ws is shares w next a found left = record {
  off = found.triangle.off;
  inside = λ i m. w.inside i (a.kept i m);
  at_edge = λ i m. w.at_edge i (a.kept i m);
  once = a.once;
  one = λ i j m n hi hj. last_two e q t i j ws shares found.triangle.off here (face i m hi) (face j n hj) (other i m) (other j n);
  sharing = λ i h. elim (member_cases i is) as (λ _. (Some t ≡ Some i) ⊎ In i rest) [
    | inl m ↦ elim (a.parts i m) as (λ _. (Some t ≡ Some i) ⊎ In i rest) [ inl s ↦ inl (ap Some (sym s)) | inr o ↦ inr o ]
    | inr out ↦ absurd (w.closed q i t found.triangle.off (λ s. found.triangle.apart (sym s)) h out left has_q)
  ];
  gone = λ i s m. a.taken (subst (λ (k : ℕ). In k rest) (same_Some i t (sym s)) m);
  closed = λ y i j off ne h out m hj. elim (member_cases i is) as (λ _. ⊥) [
    | inl n ↦ elim (a.parts i n) as (λ _. ⊥) [
      | inl s ↦ by_x y j m hj (elim (one_of_two e x q y (slice_index_or ws t []) w.off found.triangle off
          (subst (λ (k : ℕ). has (slice_index_or ws k []) y ≡ true) s h.2)) as (λ _. y ≡ x) [
            | inl s ↦ s
            | inr s ↦ absurd (ne s)
          ])
      | inr o ↦ out o
    ]
    | inr gone ↦ elim (cases_eq y x) as (λ _. ⊥) [
      | inl s ↦ by_x y j m hj s
      | inr differ ↦ w.closed y i j off differ h gone (a.kept j m) hj
    ]
  ];
}
  where
    rest : List ℕ
    rest = a.front ++ a.back

    has_q : has (slice_index_or ws t []) q ≡ true
    has_q = has_third e x q (slice_index_or ws t []) found.triangle

    here : HasFace ws e q t
    here = (next.inside, found.has_e, has_q)

    face : (i : ℕ) → In i rest → has (slice_index_or ws i []) q ≡ true → HasFace ws e q i
    face i m h = (w.inside i (a.kept i m), w.at_edge i (a.kept i m), h)

    other : (i : ℕ) → In i rest → t ≢ i
    other i m s = a.taken (subst (λ (k : ℕ). In k rest) (sym s) m)

    -- the face that the walk stood at is in none of those that are left
    by_x : (y j : ℕ) → In j rest → has (slice_index_or ws j []) y ≡ true → y ≡ x → ⊥
    by_x y j m h s = other j m (w.one t j left (a.kept j m) found.has_x (subst (λ (z : ℕ). has (slice_index_or ws j []) z ≡ true) s h))
