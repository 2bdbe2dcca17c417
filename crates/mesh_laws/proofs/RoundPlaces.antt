-- Places in lists, found by sorted copies of them.
use Rattle.std.proofs.Common.{Bool, List, [], ap, arith, false, inl, inr, length, refl, subst, suc, sym, true, zero, ℕ, ◌++◌, ◌+◌, ◌<◌, ◌≤◌, ◌∙◌, ◌∷◌, ◌≡◌}
use Rattle.std.specs.Prelude.{Contains, Option, Some, None, find, option_map, slice_index, slice_index_or, Result, Ok, Err, is_ok, ◌⊎◌, ◌≢◌, ◌==◌}
use Rattle.std.proofs.Common.{ltb}
use Rattle.std.specs.List.Sorted.{IsNonDecreasingBy, IsBinarySearchResult, IsPartitionPoint}
use Rattle.std.specs.Ordering.{nat_cmp}
use Rattle.std.proofs.lemmas.Bool.{cases_eq, cases_lt, false_from_ne_true}
use Rattle.std.proofs.lemmas.Bool.Decides.{nat_tests}
use Rattle.std.proofs.lemmas.List.Elements.{Contains-append_left, Contains-append_right}
use Rattle.std.proofs.lemmas.List.Sorted.{searched, Contains-permutation, IsPermutation-sym}
use Rattle.lists.specs.Orders.{has}
use Rattle.lists.specs.Members.{Distinct, In}
use Rattle.lists.proofs.Contained.{Contains-head, any_default}
use Rattle.lists.proofs.Counts.{not_there}
use Rattle.iso_model.proofs.WalkLaws.{has-Decides}
use Rattle.mesh_laws.specs.declared.rounds.Begin.{Begin}
use Rattle.mesh_laws.proofs.FaceOf.{In-at}
use Rattle.mesh_laws.specs.Rounds.{AreBegins, AreEnds, AreListed, IsFirstPlace, LacksPlace, IsFirstWith}

-- ---- a search of ends

pub end_found : (qs ends : List ℕ) (x : ℕ) (r : Result ℕ ℕ) → AreEnds qs ends → IsBinarySearchResult (λ y. nat_cmp y x) ends r → is_ok r ≡ has qs x
end_found qs ends x (Ok i) a s =
    let m = searched ends x (Ok i) s (λ i j h l. a.0 i j 0 h l) in
    let at : Contains ends x = (i, m.0, any_default ends i x 0 m.0 ∙ m.1) in
    sym ((has-Decides qs x).1 (Contains-permutation ends qs x (IsPermutation-sym qs ends a.1) at))
end_found qs ends x (Err i) a s =
    let m = searched ends x (Err i) s (λ i j h l. a.0 i j 0 h l) in
    sym (false_from_ne_true (has qs x) (λ e. never m (Contains-permutation qs ends x a.1 ((has-Decides qs x).0 e))))
  where
    never : (i ≤ length ends) × ((k : ℕ) → k < i → slice_index_or ends k 0 < x) × ((k : ℕ) → i ≤ k → k < length ends → x < slice_index_or ends k 0)
        → Contains ends x → ⊥
    never m c =
        let same : slice_index_or ends c.0 0 ≡ x = any_default ends c.0 0 x c.1 ∙ c.2 in
        elim (cases_lt c.0 i) as (λ _. ⊥) [
          | inl l ↦ let less = m.1 c.0 l in omega (arith, less, same)
          | inr l ↦ let more = m.2 c.0 l c.1 in omega (arith, more, same)
        ]

-- ---- a search of begins

pub begins_by_p : (ps : List ℕ) (begins : List Begin) → AreBegins ps begins → IsNonDecreasingBy (λ (b : Begin). b.p) begins
begins_by_p ps begins a i j d h l =
    let low = (a.placed j d l).0 in
    omega (arith, a.sorted i j d h l, low, a.few)

module _ (ps : List ℕ) (begins : List Begin) (p index : ℕ) (a : AreBegins ps begins)
    (point : IsPartitionPoint (λ (b : Begin). ltb b.p p ≡ true) (λ (b : Begin). ltb b.p p ≡ false) begins index) where
  -- the begin of a place with this p stands from the index on
  from_index : (m : ℕ) (d : Begin) → m < length begins → (slice_index_or begins m d).p ≡ p → index ≤ m
  from_index m d l e = elim (cases_lt m index) as (λ _. index ≤ m) [
    | inl h ↦ absurd (let test = point.0 m d (omega arith) h in clash (slice_index_or begins m d).p p e test)
    | inr h ↦ h
  ]
    where
      clash : (x y : ℕ) → x ≡ y → ltb x y ≡ true → ⊥
      clash x y e t = grind (arith, nat_tests)

  pub place_found : (d : Begin) → index < length begins → (slice_index_or begins index d).p ≡ p → IsFirstPlace ps p (slice_index_or begins index d).place
  place_found d l e =
      let here = a.placed index d l in (
        here.0,
        here.1 ∙ e,
        λ i h s.
            let c = a.listed i (omega (arith, h, here.0)) in
            let b : Begin = record { p = slice_index ps i; place = i } in
            let same : slice_index_or begins c.0 d ≡ b = any_default begins c.0 d b c.1 ∙ c.2 in
            let low = from_index c.0 d c.1 (ap (λ (x : Begin). x.p) same ∙ s) in
            let ranks = a.sorted index c.0 d low c.1 in
            let its_p : (slice_index_or begins c.0 d).p ≡ p = ap (λ (x : Begin). x.p) same ∙ s in
            let its_place : (slice_index_or begins c.0 d).place ≡ i = ap (λ (x : Begin). x.place) same in
            omega (arith, ranks, its_p, its_place, e, h),
      )

  pub place_missing : ((d : Begin) → index < length begins → (slice_index_or begins index d).p ≢ p) → LacksPlace ps p
  place_missing differs i h s =
      let c = a.listed i h in
      let d : Begin = record { p = slice_index ps i; place = i } in
      let its_p : (slice_index_or begins c.0 d).p ≡ p = ap (λ (x : Begin). x.p) c.2 ∙ s in
      let low = from_index c.0 d c.1 its_p in
      let inside : index < length begins = omega (arith, low, c.1) in
      let here = at_least (slice_index_or begins index d).p p (point.1 index d (omega arith) inside) in
      let order = begins_by_p ps begins a index c.0 d low c.1 in
      differs d inside (omega (arith, here, order, its_p))
    where
      at_least : (x y : ℕ) → ltb x y ≡ false → y ≤ x
      at_least x y t = grind (arith, nat_tests)

pub listed_more : (ps : List ℕ) (begins : List Begin) (n : ℕ) (b : Begin) → AreListed ps n begins → b ≡ record { p = slice_index ps n; place = n }
    → AreListed ps (n + 1) (begins ++ b ∷ [])
listed_more ps begins n b a e i h = elim (cases_lt i n) as (λ _. Contains (begins ++ b ∷ []) (record { p = slice_index ps i; place = i })) [
  | inl l ↦ Contains-append_left begins (b ∷ []) (record { p = slice_index ps i; place = i }) (a i l)
  | inr l ↦
      let same : i ≡ n = omega (arith, h, l) in
      let at : Contains (b ∷ []) (record { p = slice_index ps n; place = n }) =
      subst (λ (x : Begin). Contains (b ∷ []) x) e (Contains-head b []) in
      subst (λ (k : ℕ). Contains (begins ++ b ∷ []) (record { p = slice_index ps k; place = k })) (sym same) (Contains-append_right begins (b ∷ []) _ at)
]

-- ---- the first member that passes a test

pub find_first : (test : ℕ → Bool) (ts : List ℕ) (j : ℕ) → j < length ts → test (slice_index ts j) ≡ true
    → ((i : ℕ) → i < j → test (slice_index ts i) ≡ false) → find test ts ≡ Some (slice_index ts j)
find_first test [] j h t before = absurd (omega arith)
find_first test (x ∷ ts) zero h t before = rw t refl
find_first test (x ∷ ts) (suc j) h t before =
    let no : test x ≡ false = before 0 (omega arith) in
    rw no (find_first test ts j (omega arith) t (λ i l. before (suc i) (omega arith)))

pub find_none : (test : ℕ → Bool) (ts : List ℕ) → ((i : ℕ) → i < length ts → test (slice_index ts i) ≡ false) → find test ts ≡ None
find_none test [] none = refl
find_none test (x ∷ ts) none =
    let no : test x ≡ false = none 0 (omega arith) in
    rw no (find_none test ts (λ i l. none (suc i) (omega arith)))

pub unequal : (x p : ℕ) → x ≢ p → (x == p) ≡ false
unequal x p n = elim (cases_eq x p) as (λ _. (x == p) ≡ false) [
  | inl e ↦ absurd (n e)
  | inr h ↦ grind (arith, nat_tests)
]

-- a test that asks for p at each place finds the first place with p
pub find_with : (test : ℕ → Bool) (ts ps : List ℕ) (p : ℕ) (place : Option ℕ) → length ts ≡ length ps
    → ((i : ℕ) → i < length ps → test (slice_index ts i) ≡ (slice_index ps i == p))
    → IsFirstWith ps p place → find test ts ≡ option_map (slice_index ts) place
find_with test ts ps p (Some j) same asks first =
    find_first test ts j (omega (arith, first.0)) (asks j first.0 ∙ passed (slice_index ps j) first.1)
    (λ i l. asks i (omega (arith, l, first.0)) ∙ unequal (slice_index ps i) p (first.2 i l))
  where
    passed : (x : ℕ) → x ≡ p → (x == p) ≡ true
    passed x e = grind (arith, nat_tests)
find_with test ts ps p None same asks lacks =
    find_none test ts (λ i l. asks i (omega (arith, l)) ∙ unequal (slice_index ps i) p (lacks i (omega (arith, l))))

-- ---- lists in which no member stands twice

pub same_place : (xs : List ℕ) (i j : ℕ) → Distinct xs → i < length xs → j < length xs → slice_index xs i ≡ slice_index xs j → i ≡ j
same_place [] i j d h l e = absurd (omega arith)
same_place (x ∷ xs) zero zero d h l e = refl
same_place (x ∷ xs) zero (suc j) d h l e =
    absurd (not_there x xs d.0 (subst (λ (y : ℕ). In y xs) (sym e) (In-at xs j (omega arith))))
same_place (x ∷ xs) (suc i) zero d h l e =
    absurd (not_there x xs d.0 (subst (λ (y : ℕ). In y xs) e (In-at xs i (omega arith))))
same_place (x ∷ xs) (suc i) (suc j) d h l e = ap suc (same_place xs i j d.1 (omega arith) (omega arith) e)
