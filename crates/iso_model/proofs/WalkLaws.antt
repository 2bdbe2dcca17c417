-- The triangles that a walk meets, as they are computed by steps, are a walk, and no others from the same first triangle are.
use Rattle.std.specs.Prelude.{◌≡◌, ◌≢◌, ◌<◌, ◌≤◌, ◌+◌, ◌⊎◌, ℕ, zero, suc, Bool, true, false, not, ◌&&◌, nat_eq, List, [], ◌∷◌, length, find}
use Rattle.std.specs.Prelude.{slice_index_or, Contains, Option, Some, None, option_and_then, if◌then◌else◌, ⊤}
use Rattle.std.specs.Bool.{Decides}
use Rattle.std.specs.List.{AllAdjacentBelow}
use Rattle.std.proofs.Common.{refl, sym, ap, ◌∙◌, arith, subst, inl, inr}
use Rattle.std.proofs.lemmas.Bool.{false≢true, cases_Bool, false_from_ne_true}
use Rattle.std.proofs.lemmas.Bool.Decides.{Decides-eqb}
use Rattle.lists.specs.Orders.{has, is_distinct}
use Rattle.iso_model.specs.Walks.{next_at, has_p, reading, triangles_at, steps_from, until_repeated, walk_from, next_after, IsWalk}
use Rattle.lists.proofs.Contained.{Contains-head, Contains-tail, Contains-split, Decides-some, none_contained}
use Rattle.std.proofs.lemmas.Option.{same_Some}
use Rattle.lists.proofs.Tests.{next_place}

-- ---- members and tests

pub has-Decides : (xs : List ℕ) (y : ℕ) → Decides (has xs y) (Contains xs y)
has-Decides xs y =
    let d = Decides-some (nat_eq y) (λ x. y ≡ x) (Decides-eqb y) xs in
    (λ e. let h = d.0 e in subst (λ (x : ℕ). Contains xs x) (sym h.2) h.1, λ c. d.1 (y, c, refl))

lacks : (xs : List ℕ) (y : ℕ) → (Contains xs y → ⊥) → has xs y ≡ false
lacks xs y n = false_from_ne_true (has xs y) (λ e. n ((has-Decides xs y).0 e))

distinct_cases : (a b : Bool) → (not a && b) ≡ true → (a ≡ false) × (b ≡ true)
distinct_cases true b e = absurd (cc)
distinct_cases false b e = (refl, e)

-- the first of a list that has no member twice is none_contained of the others
first_apart : (x : ℕ) (xs : List ℕ) → is_distinct (x ∷ xs) ≡ true → Contains xs x → ⊥
first_apart x xs e c = false≢true (sym (distinct_cases (has xs x) (is_distinct xs) e).0 ∙ (has-Decides xs x).1 c)

others_distinct : (x : ℕ) (xs : List ℕ) → is_distinct (x ∷ xs) ≡ true → is_distinct xs ≡ true
others_distinct x xs e = (distinct_cases (has xs x) (is_distinct xs) e).1

distinct_from : (x : ℕ) (xs : List ℕ) → (Contains xs x → ⊥) → is_distinct xs ≡ true → is_distinct (x ∷ xs) ≡ true
distinct_from x xs n e = ap (λ b. not b && is_distinct xs) (lacks xs x n) ∙ e

-- ---- a list without repeats is no longer than one that has its members

pub record Removed (xs : List ℕ) (x : ℕ) : Type 0 where
  pub rest : List ℕ
  pub shorter : length xs ≡ suc (length rest)
  pub kept : (z : ℕ) → Contains xs z → z ≢ x → Contains rest z

removed : (xs : List ℕ) (x : ℕ) → Contains xs x → Removed xs x
removed [] x c = absurd (none_contained x c)
removed (y ∷ xs) x c = elim (Contains-split x y xs c) as (λ _. Removed (y ∷ xs) x) [
  | inl e ↦ record {
    rest = xs;
    shorter = refl;
    kept = λ z d n. elim (Contains-split z y xs d) as (λ _. Contains xs z) [
      | inl f ↦ absurd (n (sym f ∙ e))
      | inr m ↦ m
    ];
  }
  | inr m ↦
      let r = removed xs x m in
      record {
        rest = y ∷ r.rest;
        shorter = ap suc r.shorter;
        kept = λ z d n. elim (Contains-split z y xs d) as (λ _. Contains (y ∷ r.rest) z) [
          | inl f ↦ subst (λ (w : ℕ). Contains (y ∷ r.rest) w) f (Contains-head y r.rest)
          | inr o ↦ Contains-tail z y r.rest (r.kept z o n)
        ];
      }
]

pub length-distinct-le : (xs ys : List ℕ) → is_distinct xs ≡ true → ((z : ℕ) → Contains xs z → Contains ys z) → length xs ≤ length ys
length-distinct-le [] ys e part = omega arith
length-distinct-le (x ∷ xs) ys e part =
    let r = removed ys x (part x (Contains-head x xs)) in
    let l = length-distinct-le xs r.rest (others_distinct x xs e)
    (λ z c. r.kept z (part z (Contains-tail z x xs c)) (λ same. first_apart x xs e (subst (λ (w : ℕ). Contains xs w) same c))) in
    omega (arith, l, r.shorter)

-- ---- from triangle to triangle

-- from x through the others, one after another
abbrev Chain : List (List ℕ) → ℕ → ℕ → List ℕ → Type 0
Chain simplices k x [] = ⊤
Chain simplices k x (y ∷ ys) = (next_at simplices k x ≡ Some y) × Chain simplices k y ys

chain_steps : (simplices : List (List ℕ)) (k x : ℕ) (xs : List ℕ) → Chain simplices k x xs
    → AllAdjacentBelow (λ t u. next_at simplices k t ≡ Some u) (x ∷ xs) (length (x ∷ xs))
chain_steps simplices k x [] c i d h = absurd (omega (arith, h))
chain_steps simplices k x (y ∷ ys) c zero d h = c.0
chain_steps simplices k x (y ∷ ys) c (suc i) d h =
    subst (λ (n : ℕ). next_at simplices k (slice_index_or (y ∷ ys) i d) ≡ Some (slice_index_or (x ∷ y ∷ ys) n d)) (next_place i)
    (chain_steps simplices k y ys c.1 i d (omega (arith, h)))

steps_chain : (simplices : List (List ℕ)) (k x : ℕ) (xs : List ℕ)
    → AllAdjacentBelow (λ t u. next_at simplices k t ≡ Some u) (x ∷ xs) (length (x ∷ xs)) → Chain simplices k x xs
steps_chain simplices k x [] a = tt
steps_chain simplices k x (y ∷ ys) a = (
  a 0 0 (omega arith),
  steps_chain simplices k y ys (λ i d h.
      subst (λ (n : ℕ). next_at simplices k (slice_index_or (y ∷ ys) i d) ≡ Some (slice_index_or (x ∷ y ∷ ys) n d)) (sym (next_place i))
      (a (suc i) d (omega (arith, h)))),
)

find_in : (p : ℕ → Bool) (xs : List ℕ) (y : ℕ) → find p xs ≡ Some y → Contains xs y
find_in p [] y e = absurd (cc)
find_in p (x ∷ xs) y e = elim (p x) as (λ b. (if b then Some x else find p xs) ≡ Some y → Contains (x ∷ xs) y) [
  | true ↦ λ f. subst (λ (z : ℕ). Contains (x ∷ xs) z) (let g : Some x ≡ Some y = f in cc) (Contains-head x xs)
  | false ↦ λ f. Contains-tail y x xs (find_in p xs y f)
] e

read_in : (simplices : List (List ℕ)) (k : ℕ) (o : Option (ℕ × ℕ)) (u : ℕ)
    → option_and_then (λ (r : ℕ × ℕ). find (has_p simplices k r.1) (triangles_at simplices k)) o ≡ Some u → Contains (triangles_at simplices k) u
read_in simplices k None u e = absurd (cc)
read_in simplices k (Some r) u e = find_in (has_p simplices k r.1) (triangles_at simplices k) u e

-- the next triangle is one at k
pub next_in : (simplices : List (List ℕ)) (k t u : ℕ) → next_at simplices k t ≡ Some u → Contains (triangles_at simplices k) u
next_in simplices k t u e = read_in simplices k (reading simplices k t) u e

chain_in : (simplices : List (List ℕ)) (k x : ℕ) (xs : List ℕ) → Contains (triangles_at simplices k) x → Chain simplices k x xs → (z : ℕ)
    → Contains (x ∷ xs) z → Contains (triangles_at simplices k) z
chain_in simplices k x [] at c z d = elim (Contains-split z x [] d) as (λ _. Contains (triangles_at simplices k) z) [
  | inl e ↦ subst (λ (w : ℕ). Contains (triangles_at simplices k) w) e at
  | inr m ↦ absurd (none_contained z m)
]
chain_in simplices k x (y ∷ ys) at c z d = elim (Contains-split z x (y ∷ ys) d) as (λ _. Contains (triangles_at simplices k) z) [
  | inl e ↦ subst (λ (w : ℕ). Contains (triangles_at simplices k) w) e at
  | inr m ↦ chain_in simplices k y ys (next_in simplices k x y c.0) c.1 z m
]

-- ---- the steps of a walk

met_stops : (simplices : List (List ℕ)) (k n : ℕ) (met : List ℕ) (u : ℕ) → has met u ≡ true → until_repeated met (steps_from simplices k n (Some u)) ≡ []
met_stops simplices k zero met u e = ap (λ b. if b then [] else u ∷ until_repeated (u ∷ met) []) e
met_stops simplices k (suc n) met u e = ap (λ b. if b then [] else u ∷ until_repeated (u ∷ met) (steps_from simplices k n (next_at simplices k u))) e

stops : (simplices : List (List ℕ)) (k n : ℕ) (met : List ℕ) (o : Option ℕ) → ((u : ℕ) → o ≡ Some u → Contains met u)
    → until_repeated met (steps_from simplices k n o) ≡ []
stops simplices k n met None ends = refl
stops simplices k n met (Some u) ends = met_stops simplices k n met u ((has-Decides met u).1 (ends u refl))

-- one step, to a triangle that was not met before
steps_once : (simplices : List (List ℕ)) (k n : ℕ) (met : List ℕ) (x : ℕ) → (Contains met x → ⊥)
    → until_repeated met (steps_from simplices k (suc n) (Some x)) ≡ x ∷ until_repeated (x ∷ met) (steps_from simplices k n (next_at simplices k x))
steps_once simplices k n met x new =
    ap (λ b. if b then [] else x ∷ until_repeated (x ∷ met) (steps_from simplices k n (next_at simplices k x))) (lacks met x new)

follow : (simplices : List (List ℕ)) (k : ℕ) (met : List ℕ) (x : ℕ) (xs : List ℕ) (n : ℕ) → Chain simplices k x xs → is_distinct (x ∷ xs) ≡ true
    → ((z : ℕ) → Contains met z → Contains (x ∷ xs) z → ⊥) → ((u : ℕ) → next_after simplices k (x ∷ xs) ≡ Some u → Contains met u ⊎ Contains (x ∷ xs) u)
    → length xs < n → until_repeated met (steps_from simplices k n (Some x)) ≡ x ∷ xs
follow simplices k met x xs zero c e apart ends h = absurd (omega (arith, h))
follow simplices k met x [] (suc n) c e apart ends h =
    steps_once simplices k n met x (λ m. apart x m (Contains-head x []))
    ∙ ap (λ (l : List ℕ). x ∷ l) (stops simplices k n (x ∷ met) (next_at simplices k x) (λ u f. elim (ends u f) as (λ _. Contains (x ∷ met) u) [
      | inl m ↦ Contains-tail u x met m
      | inr m ↦ elim (Contains-split u x [] m) as (λ _. Contains (x ∷ met) u) [
        | inl g ↦ subst (λ (w : ℕ). Contains (x ∷ met) w) g (Contains-head x met)
        | inr o ↦ absurd (none_contained u o)
      ]
    ]))
follow simplices k met x (y ∷ ys) (suc n) c e apart ends h =
    steps_once simplices k n met x (λ m. apart x m (Contains-head x (y ∷ ys)))
    ∙ ap (λ (o : Option ℕ). x ∷ until_repeated (x ∷ met) (steps_from simplices k n o)) c.0
    ∙ ap (λ (l : List ℕ). x ∷ l) (follow simplices k (x ∷ met) y ys n c.1 (others_distinct x (y ∷ ys) e)
    (λ z m d. elim (Contains-split z x met m) as (λ _. ⊥) [
      | inl g ↦ first_apart x (y ∷ ys) e (subst (λ (w : ℕ). Contains (y ∷ ys) w) (sym g) d)
      | inr o ↦ apart z o (Contains-tail z x (y ∷ ys) d)
    ])
    (λ u f. elim (ends u f) as (λ _. Contains (x ∷ met) u ⊎ Contains (y ∷ ys) u) [
      | inl m ↦ inl (Contains-tail u x met m)
      | inr m ↦ elim (Contains-split u x (y ∷ ys) m) as (λ _. Contains (x ∷ met) u ⊎ Contains (y ∷ ys) u) [
        | inl g ↦ inl (subst (λ (w : ℕ). Contains (x ∷ met) w) g (Contains-head x met))
        | inr o ↦ inr o
      ]
    ])
    (omega (arith, h)))

walk_shape : (simplices : List (List ℕ)) (k x : ℕ) (further order : List ℕ) → Contains (triangles_at simplices k) x → IsWalk simplices k x order
    → order ≡ x ∷ further
    → walk_from simplices k (Some x) ≡ x ∷ further
walk_shape simplices k x further order at is e =
    let once = subst (λ (l : List ℕ). is_distinct l ≡ true) e is.once in
    let goes = steps_chain simplices k x further (subst (λ (l : List ℕ). AllAdjacentBelow (λ t u. next_at simplices k t ≡ Some u) l (length l)) e is.goes_on) in
    let few = length-distinct-le (x ∷ further) (triangles_at simplices k) once (chain_in simplices k x further at goes) in
    follow simplices k [] x further (length (triangles_at simplices k)) goes once (λ z m d. none_contained z m)
    (λ u f. inr (subst (λ (l : List ℕ). next_after simplices k l ≡ Some u → Contains l u) e (is.ends u) f)) (omega (arith, few))

-- a walk from a triangle at k is the one that the steps give
pub walk_from-fixed : (simplices : List (List ℕ)) (k t : ℕ) (order : List ℕ) → Contains (triangles_at simplices k) t → IsWalk simplices k t order
    → order ≡ walk_from simplices k (Some t)
walk_from-fixed simplices k t order at is = is.begins.1 ∙ sym (walk_shape simplices k t is.begins.0 order at is is.begins.1)

-- ---- what the steps give is a walk

-- the triangles that come after those that were met
pub record Walked (simplices : List (List ℕ)) (k : ℕ) (met : List ℕ) (x : ℕ) (order : List ℕ) : Type 0 where
  pub further : List ℕ
  pub is : order ≡ x ∷ further
  pub chain : Chain simplices k x further
  pub once : is_distinct (x ∷ further) ≡ true
  pub apart : (z : ℕ) → Contains met z → Contains (x ∷ further) z → ⊥
  pub ends : (u : ℕ) → next_after simplices k (x ∷ further) ≡ Some u → Contains met u ⊎ Contains (x ∷ further) u

alone : (met : List ℕ) (x : ℕ) → (Contains met x → ⊥) → (z : ℕ) → Contains met z → Contains (x ∷ []) z → ⊥
alone met x new z m d = elim (Contains-split z x [] d) as (λ _. ⊥) [
  | inl e ↦ new (subst (λ (w : ℕ). Contains met w) (sym e) m)
  | inr o ↦ none_contained z o
]

-- after x none_contained comes, or one that was met
last_step : (simplices : List (List ℕ)) (k n : ℕ) (met : List ℕ) (x : ℕ) (order : List ℕ) → (Contains met x → ⊥)
    → order ≡ x ∷ until_repeated (x ∷ met) (steps_from simplices k n (next_at simplices k x))
    → ((u : ℕ) → next_at simplices k x ≡ Some u → Contains (x ∷ met) u) → Walked simplices k met x order
last_step simplices k n met x order new e ends = record {
  further = [];
  is = e ∙ ap (λ (l : List ℕ). x ∷ l) (stops simplices k n (x ∷ met) (next_at simplices k x) ends);
  chain = tt;
  once = refl;
  apart = alone met x new;
  ends = λ u f. elim (Contains-split u x met (ends u f)) as (λ _. Contains met u ⊎ Contains (x ∷ []) u) [
    | inl g ↦ inr (subst (λ (w : ℕ). Contains (x ∷ []) w) g (Contains-head x []))
    | inr m ↦ inl m
  ];
}

-- after x a triangle comes that was not met
more_steps : (simplices : List (List ℕ)) (k n : ℕ) (met : List ℕ) (x u : ℕ) (order : List ℕ) → (Contains met x → ⊥) → next_at simplices k x ≡ Some u
    → order ≡ x ∷ until_repeated (x ∷ met) (steps_from simplices k n (next_at simplices k x))
    → Walked simplices k (x ∷ met) u (until_repeated (x ∷ met) (steps_from simplices k n (Some u))) → Walked simplices k met x order
more_steps simplices k n met x u order new next e w = record {
  further = u ∷ w.further;
  is = e ∙ ap (λ (o : Option ℕ). x ∷ until_repeated (x ∷ met) (steps_from simplices k n o)) next ∙ ap (λ (l : List ℕ). x ∷ l) w.is;
  chain = (next, w.chain);
  once = distinct_from x (u ∷ w.further) (w.apart x (Contains-head x met)) w.once;
  apart = λ z m d. elim (Contains-split z x (u ∷ w.further) d) as (λ _. ⊥) [
    | inl g ↦ new (subst (λ (y : ℕ). Contains met y) (sym g) m)
    | inr o ↦ w.apart z (Contains-tail z x met m) o
  ];
  ends = λ y f. elim (w.ends y f) as (λ _. Contains met y ⊎ Contains (x ∷ u ∷ w.further) y) [
    | inl m ↦ elim (Contains-split y x met m) as (λ _. Contains met y ⊎ Contains (x ∷ u ∷ w.further) y) [
      | inl g ↦ inr (subst (λ (z : ℕ). Contains (x ∷ u ∷ w.further) z) g (Contains-head x (u ∷ w.further)))
      | inr o ↦ inl o
    ]
    | inr m ↦ inr (Contains-tail y x (u ∷ w.further) m)
  ];
}

-- the triangles that were met, none_contained of them twice, are at k, and there are steps for all others
pub record StepsLeft (simplices : List (List ℕ)) (k : ℕ) (met : List ℕ) (x n : ℕ) : Type 0 where
  pub at : Contains (triangles_at simplices k) x
  pub new : Contains met x → ⊥
  pub once : is_distinct met ≡ true
  pub part : (z : ℕ) → Contains met z → Contains (triangles_at simplices k) z
  pub left : length (triangles_at simplices k) ≤ length met + n

some_left : (simplices : List (List ℕ)) (k : ℕ) (met : List ℕ) (x n : ℕ) → StepsLeft simplices k met x n → 0 < n
some_left simplices k met x n s =
    let l = length-distinct-le (x ∷ met) (triangles_at simplices k) (distinct_from x met s.new s.once)
    (λ z c. elim (Contains-split z x met c) as (λ _. Contains (triangles_at simplices k) z) [
      | inl e ↦ subst (λ (w : ℕ). Contains (triangles_at simplices k) w) e s.at
      | inr m ↦ s.part z m
    ]) in
    omega (arith, l, s.left)

left_after : (simplices : List (List ℕ)) (k : ℕ) (met : List ℕ) (x u n : ℕ) → StepsLeft simplices k met x (suc n) → next_at simplices k x ≡ Some u
    → (Contains (x ∷ met) u → ⊥)
    → StepsLeft simplices k (x ∷ met) u n
left_after simplices k met x u n s next new = record {
  at = next_in simplices k x u next;
  new = new;
  once = distinct_from x met s.new s.once;
  part = λ z c. elim (Contains-split z x met c) as (λ _. Contains (triangles_at simplices k) z) [
    | inl e ↦ subst (λ (w : ℕ). Contains (triangles_at simplices k) w) e s.at
    | inr m ↦ s.part z m
  ];
  left = omega (arith, s.left);
}

steps_walk : (simplices : List (List ℕ)) (k : ℕ) (met : List ℕ) (x n : ℕ) → StepsLeft simplices k met x n
    → Walked simplices k met x (until_repeated met (steps_from simplices k n (Some x)))
steps_walk simplices k met x zero s = absurd (omega (arith, some_left simplices k met x 0 s))
steps_walk simplices k met x (suc n) s =
    next_cases (next_at simplices k x) refl (λ u new e. steps_walk simplices k (x ∷ met) u n (left_after simplices k met x u n s e new))
  where
    order : List ℕ
    order = until_repeated met (steps_from simplices k (suc n) (Some x))

    once : order ≡ x ∷ until_repeated (x ∷ met) (steps_from simplices k n (next_at simplices k x))
    once = steps_once simplices k n met x s.new

    some_case : (u : ℕ) → next_at simplices k x ≡ Some u → (has (x ∷ met) u ≡ true) ⊎ (has (x ∷ met) u ≡ false)
        →
        ((u : ℕ) → (Contains (x ∷ met) u → ⊥) → next_at simplices k x ≡ Some u
        → Walked simplices k (x ∷ met) u (until_repeated (x ∷ met) (steps_from simplices k n (Some u))))
        → Walked simplices k met x order
    some_case u e (inl was) more =
        last_step simplices k n met x order s.new once
        (λ w f. subst (λ (z : ℕ). Contains (x ∷ met) z) (same_Some u w (sym e ∙ f)) ((has-Decides (x ∷ met) u).0 was))
    some_case u e (inr not_was) more =
        let new : Contains (x ∷ met) u → ⊥ = λ c. false≢true (sym not_was ∙ (has-Decides (x ∷ met) u).1 c) in
        more_steps simplices k n met x u order s.new e once (more u new e)

    next_cases : (o : Option ℕ) → next_at simplices k x ≡ o
        →
        ((u : ℕ) → (Contains (x ∷ met) u → ⊥) → next_at simplices k x ≡ Some u
        → Walked simplices k (x ∷ met) u (until_repeated (x ∷ met) (steps_from simplices k n (Some u))))
        → Walked simplices k met x order
    next_cases None e more = last_step simplices k n met x order s.new once (λ u f. absurd (let no : None ≡ Some u = sym e ∙ f in cc))
    next_cases (Some u) e more = some_case u e (cases_Bool (has (x ∷ met) u)) more

-- what the steps from a triangle at k give is a walk
pub walk_from-is : (simplices : List (List ℕ)) (k t : ℕ) → Contains (triangles_at simplices k) t → IsWalk simplices k t (walk_from simplices k (Some t))
walk_from-is simplices k t at =
    let w =
    steps_walk simplices k [] t (length (triangles_at simplices k))
    (record { at = at; new = none_contained t; once = refl; part = λ z c. absurd (none_contained z c); left = omega arith }) in
    record {
      begins = (w.further, w.is);
      goes_on =
          subst (λ (l : List ℕ). AllAdjacentBelow (λ t u. next_at simplices k t ≡ Some u) l (length l)) (sym w.is)
          (chain_steps simplices k t w.further w.chain);
      once = subst (λ (l : List ℕ). is_distinct l ≡ true) (sym w.is) w.once;
      ends = subst (λ (l : List ℕ). (u : ℕ) → next_after simplices k l ≡ Some u → Contains l u) (sym w.is)
          (λ u f. elim (w.ends u f) as (λ _. Contains (t ∷ w.further) u) [
            | inl m ↦ absurd (none_contained u m)
            | inr m ↦ m
          ]);
    }
