-- A walk that goes on from place to place is the walk of the definition.
use Rattle.std.proofs.Common.{Bool, List, [], ap, arith, false, inl, inr, length, refl, subst, suc, sym, true, zero, ℕ, ◌++◌, ◌+◌, ◌<◌, ◌≤◌, ◌∙◌, ◌∷◌, ◌≡◌}
use Rattle.std.specs.Prelude.{All, Contains, Option, Some, None, find, nat_eq, option_and_then, slice_index, slice_index_or, slice_set}
use Rattle.std.specs.Prelude.{cond, IfSome, ◌==◌, ◌||◌, not, is_some, filter}
use Rattle.std.specs.List.{AllAdjacentBelow, list_any, last_or}
use Rattle.std.specs.Option.{option_eq, option_map_or, option_or}
use Rattle.std.proofs.lemmas.Bool.{cases_eq, cases_lt, and_from}
use Rattle.std.proofs.lemmas.List.{get_or_push, get_or_append_left, get_or-map, get_or-set_same, get_or-set_other, length_push}
use Rattle.std.proofs.lemmas.List.{map-append, append-nil, length-map}
use Rattle.std.proofs.lemmas.List.FromFn.{length-range_with_len}
use Rattle.std.proofs.lemmas.List.Elements.{All-append, All-cons, All-nil, Contains-append_cases, filter-append}
use Rattle.lists.specs.Orders.{has, is_distinct, numbers}
use Rattle.lists.specs.Members.{Distinct}
use Rattle.lists.proofs.Contained.{Contains-split, Contains-at, none_contained}
use Rattle.lists.proofs.DistinctLists.{Distinct-filter, Distinct-range, has-push, distinct-push}
use Rattle.lists.proofs.MemberLaws.{last_is, range-push}
use Rattle.lists.proofs.Tests.{equal_self, nat_eq-sym, same_number, same_tests}
use Rattle.iso_model.specs.Walks.{reading, triangles_at, has_p, has_q, next_at, is_start, next_after, comes_back, walk_from, first_triangle, Trail, walk}
use Rattle.iso_model.proofs.WalkLaws.{has-Decides, length-distinct-le, walk_from-fixed}
use Rattle.mesh_laws.specs.declared.rounds.Corner.{Corner}
use Rattle.mesh_laws.specs.Rounds.{numbers_of, ps_of, qs_of, corner_of, AreCornersAt, AreCornersBelow, IsFirstWith, IsStart, number_at, IsWalked}
use Rattle.mesh_laws.specs.Rounds.{WalksFrom, IsMeeting, IsWalkRound}
use Rattle.mesh_laws.proofs.RoundPlaces.{find_first, find_none, find_with, same_place, unequal}

-- ---- triangles with how they read, place by place

pub length_numbers : (corners : List Corner) → length (numbers_of corners) ≡ length corners
length_numbers corners = length-map corners (λ (c : Corner). c.triangle)

pub length_ps : (corners : List Corner) → length (ps_of corners) ≡ length corners
length_ps corners = length-map corners (λ (c : Corner). c.p)

pub number_is : (corners : List Corner) (i : ℕ) (d : Corner) → i < length corners
    → slice_index (numbers_of corners) i ≡ (slice_index_or corners i d).triangle
number_is corners i d h = get_or-map (λ (c : Corner). c.triangle) corners i d 0 h

pub p_at : (corners : List Corner) (i : ℕ) (d : Corner) → i < length corners → slice_index (ps_of corners) i ≡ (slice_index_or corners i d).p
p_at corners i d h = get_or-map (λ (c : Corner). c.p) corners i d 0 h

pub q_at : (corners : List Corner) (i : ℕ) (d : Corner) → i < length corners → slice_index (qs_of corners) i ≡ (slice_index_or corners i d).q
q_at corners i d h = get_or-map (λ (c : Corner). c.q) corners i d 0 h

pub starts_more : (corners : List Corner) (n : ℕ) (d : Corner)
    → ((i : ℕ) → i < n → has (qs_of corners) (slice_index (ps_of corners) i) ≡ true) → n < length corners
    → has (qs_of corners) (slice_index_or corners n d).p ≡ true
    → (i : ℕ) → i < n + 1 → has (qs_of corners) (slice_index (ps_of corners) i) ≡ true
starts_more corners n d before h found i l = elim (cases_lt i n) as (λ _. has (qs_of corners) (slice_index (ps_of corners) i) ≡ true) [
  | inl b ↦ before i b
  | inr b ↦
      let same : i ≡ n = omega (arith, l, b) in
      ap (λ (k : ℕ). has (qs_of corners) (slice_index (ps_of corners) k)) same ∙ ap (has (qs_of corners)) (p_at corners n d h) ∙ found
]

-- one triangle more
pub corners_more : (n : ℕ) (simplices : List (List ℕ)) (k : ℕ) (corners : List Corner) → n < length simplices → AreCornersBelow n simplices k corners
    → AreCornersBelow (n + 1) simplices k (corners ++ corner_of n (reading simplices k n))
corners_more n simplices k corners h a = by_reading (reading simplices k n) refl
  where
    at_n : 0 + n ≡ n
    at_n = omega arith

    one_more : filter (λ t. is_some (reading simplices k t)) (numbers (n + 1))
        ≡ filter (λ t. is_some (reading simplices k t)) (numbers n) ++ cond (is_some (reading simplices k n)) (n ∷ []) []
    one_more =
        ap (filter (λ t. is_some (reading simplices k t))) (range-push 0 n ∙ ap (λ (x : ℕ). numbers n ++ (x ∷ [])) at_n)
        ∙ filter-append (λ t. is_some (reading simplices k t)) (numbers n) (n ∷ [])

    by_reading : (o : Option (ℕ × ℕ)) → reading simplices k n ≡ o → AreCornersBelow (n + 1) simplices k (corners ++ corner_of n o)
    by_reading None e = record {
      numbered = ap numbers_of (append-nil corners) ∙ a.numbered
          ∙ sym (append-nil (filter (λ t. is_some (reading simplices k t)) (numbers n)))
          ∙ sym (one_more ∙ ap (λ (o : Option (ℕ × ℕ)). filter (λ t. is_some (reading simplices k t)) (numbers n) ++ cond (is_some o) (n ∷ []) []) e);
      read = subst (λ (cs : List Corner). All (λ (c : Corner). reading simplices k c.triangle ≡ Some (c.p, c.q)) cs) (sym (append-nil corners)) a.read;
    }
    by_reading (Some r) e = record {
      numbered = map-append (λ (c : Corner). c.triangle) corners (corner_of n (Some r))
          ∙ ap (λ (ts : List ℕ). ts ++ n ∷ []) a.numbered
          ∙ sym (one_more ∙ ap (λ (o : Option (ℕ × ℕ)). filter (λ t. is_some (reading simplices k t)) (numbers n) ++ cond (is_some o) (n ∷ []) []) e);
      read = All-append (λ (c : Corner). reading simplices k c.triangle ≡ Some (c.p, c.q)) corners (corner_of n (Some r)) a.read
          (All-cons (λ (c : Corner). reading simplices k c.triangle ≡ Some (c.p, c.q)) (record { triangle = n; p = r.0; q = r.1 }) [] e
          (All-nil (λ (c : Corner). reading simplices k c.triangle ≡ Some (c.p, c.q))));
    }

-- ---- a walk under way

-- where the walk goes on: to its first triangle, or to the one to which its last one leads
abbrev pub lead : List (List ℕ) → ℕ → ℕ → List ℕ → Option ℕ
lead simplices k first [] = Some first
lead simplices k first (t ∷ ts) = next_after simplices k (t ∷ ts)

-- these triangles were met, and marked, and the place is where the walk goes on
pub record IsUnderWay (simplices : List (List ℕ)) (k : ℕ) (corners : List Corner) (first : ℕ) (met : List Bool) (order : List ℕ)
    (next : Option ℕ) : Type 0 where
  pub begins : (u : ℕ) (us : List ℕ) → order ≡ u ∷ us → u ≡ slice_index (numbers_of corners) first
  pub goes_on : AllAdjacentBelow (λ t u. next_at simplices k t ≡ Some u) order (length order)
  pub once : is_distinct order ≡ true
  pub inside : (z : ℕ) → Contains order z → Contains (triangles_at simplices k) z
  pub leads : lead simplices k (slice_index (numbers_of corners) first) order ≡ number_at corners next
  pub marked : (i : ℕ) → i < length corners → slice_index_or met i false ≡ has order (slice_index (numbers_of corners) i)

-- so it is at each vertex of which these are the triangles
abbrev pub UnderWay : List Corner → ℕ → List Bool → List ℕ → Option ℕ → Type 0
UnderWay corners first met order next =
    (simplices : List (List ℕ)) (k : ℕ) → AreCornersAt simplices k corners → IsUnderWay simplices k corners first met order next

-- one after another, and then one more
adjacent_more : (R : ℕ → ℕ → Type 0) (x : ℕ) (xs : List ℕ) (y : ℕ) → AllAdjacentBelow R (x ∷ xs) (length (x ∷ xs)) → R (slice_index (x ∷ xs) (length xs)) y
    → AllAdjacentBelow R ((x ∷ xs) ++ y ∷ []) (length ((x ∷ xs) ++ y ∷ []))
adjacent_more R x xs y before last i d h = elim (cases_lt (i + 1) (length (x ∷ xs)))
    as (λ _. R (slice_index_or ((x ∷ xs) ++ y ∷ []) i d) (slice_index_or ((x ∷ xs) ++ y ∷ []) (i + 1) d)) [
      | inl l ↦
          subst (λ (v : ℕ). R v (slice_index_or ((x ∷ xs) ++ y ∷ []) (i + 1) d)) (sym (get_or_append_left (x ∷ xs) (y ∷ []) d i (omega (arith, l))))
          (subst (λ (v : ℕ). R (slice_index_or (x ∷ xs) i d) v) (sym (get_or_append_left (x ∷ xs) (y ∷ []) d (i + 1) l)) (before i d l))
      | inr l ↦
          let n : length ((x ∷ xs) ++ y ∷ []) ≡ length (x ∷ xs) + 1 = length_push (x ∷ xs) y in
          let at : i ≡ length xs = omega (arith, h, l, n) in
          subst (λ (v : ℕ). R v (slice_index_or ((x ∷ xs) ++ y ∷ []) (i + 1) d))
          (sym (get_or_append_left (x ∷ xs) (y ∷ []) d i (omega (arith, at)) ∙ within (x ∷ xs) i d (omega (arith, at)) ∙ ap (slice_index (x ∷ xs)) at))
          (subst (λ (v : ℕ). R (slice_index (x ∷ xs) (length xs)) v) (sym (get_or_push (x ∷ xs) y d (i + 1) (omega (arith, at)))) last)
    ]
  where
    within : (zs : List ℕ) (j e : ℕ) → j < length zs → slice_index_or zs j e ≡ slice_index zs j
    within [] j e l = absurd (omega arith)
    within (z ∷ zs) zero e l = refl
    within (z ∷ zs) (suc j) e l = within zs j e (omega arith)

next_after-push : (simplices : List (List ℕ)) (k : ℕ) (order : List ℕ) (t : ℕ) → next_after simplices k (order ++ t ∷ []) ≡ next_at simplices k t
next_after-push simplices k order t = ap (option_and_then (next_at simplices k)) (last-push None order)
  where
    last-push : (o : Option ℕ) (xs : List ℕ) → last_or o (xs ++ t ∷ []) ≡ Some t
    last-push o [] = refl
    last-push o (x ∷ xs) = last-push (Some x) xs

module _ (simplices : List (List ℕ)) (k : ℕ) (corners : List Corner) (a : AreCornersAt simplices k corners) where
  distinct : Distinct (numbers_of corners)
  distinct = subst (λ (xs : List ℕ). Distinct xs) (sym a.numbered)
      (Distinct-filter (λ t. is_some (reading simplices k t)) (numbers (length simplices)) (Distinct-range 0 (length simplices)))

  read_at : (i : ℕ) → i < length corners
      → reading simplices k (slice_index (numbers_of corners) i) ≡ Some (slice_index (ps_of corners) i, slice_index (qs_of corners) i)
  read_at i h =
      let d : Corner = record { triangle = 0; p = 0; q = 0 } in
      ap (reading simplices k) (number_is corners i d h) ∙ a.read i d h
      ∙ ap (λ (x : ℕ). Some (x, (slice_index_or corners i d).q)) (sym (p_at corners i d h))
      ∙ ap (λ (y : ℕ). Some (slice_index (ps_of corners) i, y)) (sym (q_at corners i d h))

  -- from a triangle the walk goes on to the first place with its q as p
  next_of : (i : ℕ) (next : Option ℕ) → i < length corners → IsFirstWith (ps_of corners) (slice_index (qs_of corners) i) next
      → next_at simplices k (slice_index (numbers_of corners) i) ≡ number_at corners next
  next_of i next h first =
      ap (option_and_then (λ (r : ℕ × ℕ). find (has_p simplices k r.1) (triangles_at simplices k))) (read_at i h)
      ∙ ap (find (has_p simplices k (slice_index (qs_of corners) i))) (sym a.numbered)
      ∙ find_with (has_p simplices k (slice_index (qs_of corners) i)) (numbers_of corners) (ps_of corners) (slice_index (qs_of corners) i) next
      (length_numbers corners ∙ sym (length_ps corners))
      (λ j l. ap (λ (o : Option (ℕ × ℕ)). option_map_or (λ (r : ℕ × ℕ). r.0 == slice_index (qs_of corners) i) o false)
      (read_at j (omega (arith, l, length_ps corners)))) first

  at_place : (i : ℕ) → i < length corners → Contains (triangles_at simplices k) (slice_index (numbers_of corners) i)
  at_place i h =
      subst (λ (xs : List ℕ). Contains xs (slice_index (numbers_of corners) i)) a.numbered
      (Contains-at (numbers_of corners) i 0 (omega (arith, h, length_numbers corners)))

  marked_more : (met : List Bool) (order : List ℕ) (place : ℕ) → place < length corners → length met ≡ length corners
      → ((i : ℕ) → i < length corners → slice_index_or met i false ≡ has order (slice_index (numbers_of corners) i))
      → (i : ℕ) → i < length corners
      → slice_index_or (slice_set met place true) i false ≡ has (order ++ slice_index (numbers_of corners) place ∷ []) (slice_index (numbers_of corners) i)
  marked_more met order place h m before i l =
      let t = slice_index (numbers_of corners) place in
      let u = slice_index (numbers_of corners) i in
      elim (cases_eq i place) as (λ _. slice_index_or (slice_set met place true) i false ≡ has (order ++ t ∷ []) u) [
        | inl e ↦
            ap (λ (j : ℕ). slice_index_or (slice_set met place true) j false) e ∙ get_or-set_same met place true false (omega (arith, h, m))
            ∙ sym (has-push order t u ∙ ap (λ (j : ℕ). has order u || (nat_eq (slice_index (numbers_of corners) j) t || false)) e
            ∙ ap (λ (b : Bool). has order u || (b || false)) (equal_self t) ∙ or_true (has order u))
        | inr n ↦
            get_or-set_other met place i true false n ∙ before i l
            ∙ sym (has-push order t u ∙ ap (λ (b : Bool). has order u || (b || false))
            (unequal u t (λ e. n (same_place (numbers_of corners) i place distinct (omega (arith, l, length_numbers corners))
            (omega (arith, h, length_numbers corners)) e))) ∙ or_none (has order u))
      ]
    where
      or_true : (b : Bool) → (b || (true || false)) ≡ true
      or_true true = refl
      or_true false = refl

      or_none : (b : Bool) → (b || (false || false)) ≡ b
      or_none true = refl
      or_none false = refl

  goes_to : (first : ℕ) (met : List Bool) (order : List ℕ) (place : ℕ) → IsUnderWay simplices k corners first met order (Some place)
      → AllAdjacentBelow (λ t u. next_at simplices k t ≡ Some u) (order ++ slice_index (numbers_of corners) place ∷ [])
      (length (order ++ slice_index (numbers_of corners) place ∷ []))
  goes_to first met [] place w = λ i d h. absurd (omega (arith, h))
  goes_to first met (x ∷ xs) place w =
      adjacent_more (λ t u. next_at simplices k t ≡ Some u) x xs (slice_index (numbers_of corners) place) w.goes_on
      (ap (option_and_then (next_at simplices k)) (sym (last_is None x xs)) ∙ w.leads)

  -- the walk goes on to a triangle that was not met
  step : (first : ℕ) (met : List Bool) (order : List ℕ) (place : ℕ) (next : Option ℕ) → place < length corners → length met ≡ length corners
      → slice_index_or met place false ≡ false → IsFirstWith (ps_of corners) (slice_index (qs_of corners) place) next
      → IsUnderWay simplices k corners first met order (Some place)
      → IsUnderWay simplices k corners first (slice_set met place true) (order ++ slice_index (numbers_of corners) place ∷ []) next
  step first met order place next h m new to w =
      let t = slice_index (numbers_of corners) place in
      record {
        begins = begin_of order w.begins w.leads;
        goes_on = goes_to first met order place w;
        once = distinct-push order t ∙ and_from (is_distinct order) (not (has order t)) w.once (ap not (sym (w.marked place h) ∙ new));
        inside = λ z c. elim (Contains-append_cases order (t ∷ []) z c) as (λ _. Contains (triangles_at simplices k) z) [
          | inl o ↦ w.inside z o
          | inr o ↦ elim (Contains-split z t [] o) as (λ _. Contains (triangles_at simplices k) z) [
            | inl e ↦ subst (λ (v : ℕ). Contains (triangles_at simplices k) v) e (at_place place h)
            | inr n ↦ absurd (none_contained z n)
          ]
        ];
        leads = lead_push order ∙ next_after-push simplices k order t ∙ next_of place next h to;
        marked = marked_more met order place h m w.marked;
      }
    where
      begin_of : (order : List ℕ) → ((u : ℕ) (us : List ℕ) → order ≡ u ∷ us → u ≡ slice_index (numbers_of corners) first)
          → lead simplices k (slice_index (numbers_of corners) first) order ≡ Some (slice_index (numbers_of corners) place)
          → (u : ℕ) (us : List ℕ) → order ++ slice_index (numbers_of corners) place ∷ [] ≡ u ∷ us → u ≡ slice_index (numbers_of corners) first
      begin_of [] before leads u us e =
          let f : Some (slice_index (numbers_of corners) first) ≡ Some (slice_index (numbers_of corners) place) = leads in cc
      begin_of (x ∷ xs) before leads u us e =
          let f : (x ∷ (xs ++ slice_index (numbers_of corners) place ∷ [])) ≡ u ∷ us = e in
          let g : x ≡ u = cc in
          sym g ∙ before x xs refl

      lead_push : (order : List ℕ) → lead simplices k (slice_index (numbers_of corners) first) (order ++ slice_index (numbers_of corners) place ∷ [])
          ≡ next_after simplices k (order ++ slice_index (numbers_of corners) place ∷ [])
      lead_push [] = refl
      lead_push (x ∷ xs) = refl

  -- ---- the end

  -- where the walk can't go on, or would meet one again, it is done
  ended : (first : ℕ) (met : List Bool) (order : List ℕ) (next : Option ℕ) → IsUnderWay simplices k corners first met order next
      → ((j : ℕ) → next ≡ Some j → has order (slice_index (numbers_of corners) j) ≡ true) → IsWalked simplices k corners first order next
  ended first met [] None w again = absurd (let e : Some (slice_index (numbers_of corners) first) ≡ None = w.leads in cc)
  ended first met [] (Some j) w again = absurd (let e : false ≡ true = again j refl in cc)
  ended first met (x ∷ xs) next w again = record {
    walked = record {
      begins = (xs, ap (λ (y : ℕ). y ∷ xs) (w.begins x xs refl));
      goes_on = w.goes_on;
      once = w.once;
      ends = λ u e. met_again next again u (sym w.leads ∙ e);
    };
    leads = w.leads;
  }
    where
      met_again : (next : Option ℕ) → ((j : ℕ) → next ≡ Some j → has (x ∷ xs) (slice_index (numbers_of corners) j) ≡ true)
          → (u : ℕ) → number_at corners next ≡ Some u → Contains (x ∷ xs) u
      met_again None again u e = absurd (cc)
      met_again (Some j) again u e =
          let f : Some (slice_index (numbers_of corners) j) ≡ Some u = e in
          let g : slice_index (numbers_of corners) j ≡ u = cc in
          subst (λ (v : ℕ). Contains (x ∷ xs) v) g ((has-Decides (x ∷ xs) (slice_index (numbers_of corners) j)).0 (again j refl))

  -- where as many triangles were met as there are, each next one was met
  all_met : (first : ℕ) (met : List Bool) (order : List ℕ) (next : Option ℕ) → IsUnderWay simplices k corners first met order next
      → length order ≡ length corners → (j : ℕ) → j < length corners → has order (slice_index (numbers_of corners) j) ≡ true
  all_met first met order next w n j h = by_test (has order (slice_index (numbers_of corners) j)) refl
    where
      by_test : (b : Bool) → has order (slice_index (numbers_of corners) j) ≡ b → b ≡ true
      by_test true e = refl
      by_test false e =
          let t = slice_index (numbers_of corners) j in
          let more : is_distinct (t ∷ order) ≡ true = and_from (not (has order t)) (is_distinct order) (ap not e) w.once in
          let few = length-distinct-le (t ∷ order) (triangles_at simplices k) more
          (λ z c. elim (Contains-split z t order c) as (λ _. Contains (triangles_at simplices k) z) [
            | inl s ↦ subst (λ (v : ℕ). Contains (triangles_at simplices k) v) s (at_place j h)
            | inr o ↦ w.inside z o
          ]) in
          absurd (omega (arith, few, n, length_numbers corners, ap length a.numbered))

  -- ---- the start, and whether it closes

  any_q : (p : ℕ) (cs : List Corner) → All (λ (c : Corner). reading simplices k c.triangle ≡ Some (c.p, c.q)) cs
      → list_any (has_q simplices k p) (numbers_of cs) ≡ has (qs_of cs) p
  any_q p [] r = refl
  any_q p (c ∷ cs) r =
      let head : has_q simplices k p c.triangle ≡ nat_eq p c.q =
      ap (λ (o : Option (ℕ × ℕ)). option_map_or (λ (x : ℕ × ℕ). x.1 == p) o false) (r 0 c (omega arith)) ∙ turned_test c.q p in
      ap (λ (b : Bool). b || list_any (has_q simplices k p) (numbers_of cs)) head
      ∙ ap (λ (b : Bool). nat_eq p c.q || b) (any_q p cs (λ i d h. r (suc i) d (omega (arith, h))))
    where
      turned_test : (x y : ℕ) → (x == y) ≡ nat_eq y x
      turned_test x y = same_tests (x == y) (nat_eq y x) (λ e. ap (nat_eq y) (sym (same_number x y e)) ∙ equal_self y)
          (λ e. ap (λ (z : ℕ). z == y) (same_number y x e) ∙ equal_self y)

  start_test : (i : ℕ) → i < length corners
      → is_start simplices k (slice_index (numbers_of corners) i) ≡ not (has (qs_of corners) (slice_index (ps_of corners) i))
  start_test i h =
      ap (λ (o : Option (ℕ × ℕ)). option_map_or (λ (r : ℕ × ℕ). not (list_any (has_q simplices k r.0) (triangles_at simplices k))) o false) (read_at i h)
      ∙ ap (λ (ts : List ℕ). not (list_any (has_q simplices k (slice_index (ps_of corners) i)) ts)) (sym a.numbered)
      ∙ ap not (any_q (slice_index (ps_of corners) i) corners a.read)

  start_at : (first : ℕ) → IsStart (ps_of corners) (qs_of corners) first → first_triangle simplices k ≡ Some (slice_index (numbers_of corners) first)
  start_at first (h, inl s) =
      ap (λ (o : Option ℕ). option_or o (find (λ t. true) (triangles_at simplices k)))
      (ap (find (is_start simplices k)) (sym a.numbered)
      ∙ find_first (is_start simplices k) (numbers_of corners) first (omega (arith, h, length_ps corners, length_numbers corners))
      (start_test first (omega (arith, h, length_ps corners)) ∙ ap not s.0)
      (λ i l. start_test i (omega (arith, l, h, length_ps corners)) ∙ ap not (s.1 i l)))
  start_at first (h, inr s) =
      ap (λ (o : Option ℕ). option_or o (find (λ t. true) (triangles_at simplices k)))
      (ap (find (is_start simplices k)) (sym a.numbered)
      ∙ find_none (is_start simplices k) (numbers_of corners)
      (λ i l. start_test i (omega (arith, l, length_numbers corners)) ∙ ap not (s.1 i (omega (arith, l, length_ps corners, length_numbers corners)))))
      ∙ ap (find (λ t. true)) (sym a.numbered)
      ∙ find_first (λ t. true) (numbers_of corners) first (omega (arith, h, length_ps corners, length_numbers corners)) refl
      (λ i l. absurd (omega (arith, l, s.0)))

  -- the walk of the definition, from the place where it starts
  pub walk_order : (first : ℕ) (order : List ℕ) (next : Option ℕ) → IsStart (ps_of corners) (qs_of corners) first
      → IsWalked simplices k corners first order next → order ≡ walk_from simplices k (first_triangle simplices k)
  walk_order first order next s w =
      walk_from-fixed simplices k (slice_index (numbers_of corners) first) order (at_place first (omega (arith, s.0, length_ps corners))) w.walked
      ∙ ap (walk_from simplices k) (sym (start_at first s))

  pub walk_closes : (first : ℕ) (order : List ℕ) (next : Option ℕ) → first < length corners
      → ((j : ℕ) → next ≡ Some j → j < length corners) → IsWalked simplices k corners first order next
      → option_map_or (nat_eq first) next false ≡ comes_back simplices k order
  walk_closes first order next h inside w =
      sym (ap (comes_back simplices k) w.walked.begins.1
      ∙ ap (λ (o : Option ℕ). option_map_or (nat_eq t) o false)
      (ap (next_after simplices k) (sym w.walked.begins.1) ∙ w.leads) ∙ same next inside)
    where
      t : ℕ
      t = slice_index (numbers_of corners) first

      same : (next : Option ℕ) → ((j : ℕ) → next ≡ Some j → j < length corners)
          → option_map_or (nat_eq (slice_index (numbers_of corners) first)) (number_at corners next) false ≡ option_map_or (nat_eq first) next false
      same None inside = refl
      same (Some j) inside =
          same_tests (nat_eq (slice_index (numbers_of corners) first) (slice_index (numbers_of corners) j)) (nat_eq first j)
          (λ e. subst (λ (i : ℕ). nat_eq first i ≡ true)
          (same_place (numbers_of corners) first j distinct (omega (arith, h, length_numbers corners))
          (omega (arith, inside j refl, length_numbers corners)) (sym (same_number _ _ e))) (equal_self first))
          (λ e. subst (λ (i : ℕ). nat_eq (slice_index (numbers_of corners) first) (slice_index (numbers_of corners) i) ≡ true)
          (sym (same_number first j e)) (equal_self (slice_index (numbers_of corners) first)))

  pub no_walk : length corners ≡ 0 → [] ≡ walk_from simplices k (first_triangle simplices k)
  no_walk n = sym (ap (walk_from simplices k) (no_start (triangles_at simplices k) (ap length (sym a.numbered) ∙ length_numbers corners ∙ n)))
    where
      no_start : (ts : List ℕ) → length ts ≡ 0 → option_or (find (is_start simplices k) ts) (find (λ t. true) ts) ≡ None
      no_start [] e = refl
      no_start (t ∷ ts) e = absurd (omega (arith, e))

-- ---- the answers

pub under : (corners : List Corner) (next : Option ℕ) → IfSome next (λ place. place < length corners) → (j : ℕ) → next ≡ Some j → j < length corners
under corners (Some k) h j e = let same : k ≡ j = cc in omega (arith, h, same)
under corners None h j e = absurd (cc)

-- the place is the first one, with the two in either order
pub closes_by : (next : Option ℕ) (first : ℕ) (b : Bool) → b ≡ option_eq nat_eq next (Some first) → b ≡ option_map_or (nat_eq first) next false
closes_by (Some n) first b e = e ∙ nat_eq-sym n first
closes_by None first b e = e

pub few_corners : (simplices : List (List ℕ)) (k : ℕ) (corners : List Corner) → AreCornersAt simplices k corners → length corners ≤ length simplices
few_corners simplices k corners a =
    let n = ap length a.numbered in
    omega (
      arith,
      n,
      length_numbers corners,
      filtered (λ t. is_some (reading simplices k t)) (numbers (length simplices)),
      length-range_with_len 0 (length simplices),
    )
  where
    filtered : (p : ℕ → Bool) (xs : List ℕ) → length (filter p xs) ≤ length xs
    filtered p [] = omega arith
    filtered p (x ∷ xs) = elim (p x) as (λ b. length (cond b (x ∷ filter p xs) (filter p xs)) ≤ length (x ∷ xs)) [
      | true ↦ omega (arith, filtered p xs)
      | false ↦ omega (arith, filtered p xs)
    ]

pub goes_further : (corners : List Corner) (first : ℕ) (met : List Bool) (order : List ℕ) (place : ℕ) (next : Option ℕ) → place < length corners
    → length met ≡ length corners → slice_index_or met place false ≡ false → IsFirstWith (ps_of corners) (slice_index (qs_of corners) place) next
    → UnderWay corners first met order (Some place)
    → UnderWay corners first (slice_set met place true) (order ++ slice_index (numbers_of corners) place ∷ []) next
goes_further corners first met order place next h m new to w simplices k a =
    step simplices k corners a first met order place next h m new to (w simplices k a)

pub meets_again : (corners : List Corner) (first : ℕ) (met : List Bool) (order : List ℕ) (place : ℕ) → place < length corners
    → slice_index_or met place false ≡ true → UnderWay corners first met order (Some place) → WalksFrom corners first order (Some place)
meets_again corners first met order place h m w simplices k a =
    let u = w simplices k a in
    ended simplices k corners a first met order (Some place) u (λ j e.
    let s : place ≡ j = cc in
    subst (λ (i : ℕ). has order (slice_index (numbers_of corners) i) ≡ true) s (sym (u.marked place h) ∙ m))

pub met_all : (corners : List Corner) (first : ℕ) (met : List Bool) (order : List ℕ) (next : Option ℕ) → length order ≡ length corners
    → ((j : ℕ) → next ≡ Some j → j < length corners) → UnderWay corners first met order next → WalksFrom corners first order next
met_all corners first met order next n inside w simplices k a =
    let u = w simplices k a in
    ended simplices k corners a first met order next u (λ j e. all_met simplices k corners a first met order next u n j (inside j e))

pub is_meeting : (corners : List Corner) (first : ℕ) (order : List ℕ) (next : Option ℕ) (closed : Bool)
    → IsStart (ps_of corners) (qs_of corners) first → ((j : ℕ) → next ≡ Some j → j < length corners) → WalksFrom corners first order next
    → closed ≡ option_map_or (nat_eq first) next false → IsMeeting corners order closed
unfolding walk
is_meeting corners first order next closed s inside w e simplices k a =
    let same = walk_order simplices k corners a first order next s (w simplices k a) in (
      same,
      e ∙ walk_closes simplices k corners a first order next (omega (arith, s.0, length_ps corners)) inside (w simplices k a)
          ∙ ap (comes_back simplices k) same,
    )

pub meets_none : (corners : List Corner) → length corners ≡ 0 → IsMeeting corners [] false
unfolding walk
meets_none corners n simplices k a =
    let same = no_walk simplices k corners a n in
    (same, ap (comes_back simplices k) same)

pub is_walk : (corners : List Corner) (order : List ℕ) (closed whole : Bool) → IsMeeting corners order closed
    → whole ≡ (length order == length corners) → IsWalkRound corners (record { order = order; closed = closed; whole = whole })
unfolding walk
is_walk corners order closed whole m e simplices k a =
    let w = m simplices k a in
    let n : length corners ≡ length (triangles_at simplices k) = sym (length_numbers corners) ∙ ap length a.numbered in
    same_trail order _ closed _ whole _ w.0 w.1
    (e ∙ ap (λ (l : ℕ). length order == l) n ∙ ap (λ (o : List ℕ). length o == length (triangles_at simplices k)) w.0)
  where
    same_trail : (order order' : List ℕ) (closed closed' whole whole' : Bool) → order ≡ order' → closed ≡ closed' → whole ≡ whole'
        → ◌≡◌ {A = Trail} (record { order = order; closed = closed; whole = whole }) (record { order = order'; closed = closed'; whole = whole' })
    same_trail order order' closed closed' whole whole' e f g = cc
