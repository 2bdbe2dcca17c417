-- Walks along a step that never leads from two members to one: each ends, or comes back to its start, and it meets all that is joined to it.
use Rattle.std.proofs.Common.{◌≡◌, ℕ, zero, suc, ◌+◌, ◌≤◌, Bool, true, false, List, [], ◌∷◌, length, Option, Some, None, refl, ap, sym, ◌∙◌, subst}
use Rattle.std.proofs.Common.{arith, inl, inr}
use Rattle.std.specs.Prelude.{count_by, ◌≢◌, ◌⊎◌, nat_eq}
use Rattle.std.proofs.lemmas.Bool.{cases_eq}
use Rattle.std.proofs.lemmas.Bool.Decides.{nat_tests}
use Rattle.lists.specs.Members.{In, Distinct}
use Rattle.lists.proofs.Sorting.{bit, count_by-cons}
use Rattle.lists.proofs.Counts.{apart}
use Rattle.std.proofs.lemmas.Option.{same_Some}

-- ---- lengths

remove_once : (x : ℕ) (xs : List ℕ) → In x xs → (ys : List ℕ) × (suc (length ys) ≡ length xs) × ((z : ℕ) → In z xs → z ≢ x → In z ys)
remove_once x [] i = absurd i
remove_once x (y ∷ xs) (inl e) = (xs, refl, λ z i differ. elim i [ inl s ↦ absurd (differ (s ∙ sym e)) | inr j ↦ j ])
remove_once x (y ∷ xs) (inr i) =
    let r = remove_once x xs i in
    (y ∷ r.0, ap suc r.1, λ z j differ. elim j [ inl s ↦ inl s | inr k ↦ inr (r.2 z k differ) ])

-- a list of distinct members of xs is at most as long as xs
pub no_longer : (ws xs : List ℕ) → Distinct ws → ((x : ℕ) → In x ws → In x xs) → length ws ≤ length xs
no_longer [] xs d inside = omega arith
no_longer (w ∷ ws) xs d inside =
    let r = remove_once w xs (inside w (inl refl)) in
    let few : length ws ≤ length r.0 = no_longer ws r.0 d.1 (λ x i. r.2 x (inside x (inr i)) (apart w x ws d.0 i)) in
    omega (arith, few, r.1)

module _ (next : ℕ → Option ℕ) where
  -- the members met from s on, the newest first
  abbrev pub Chain : ℕ → List ℕ → Type 0
  Chain s [] = ⊥
  Chain s (x ∷ []) = x ≡ s
  Chain s (x ∷ y ∷ w) = (next y ≡ Some x) × Chain s (y ∷ w)

  -- each member but the start was come to from an earlier one
  pub come_from : (s : ℕ) (y : ℕ) (w : List ℕ) → Chain s (y ∷ w) → (z : ℕ) → In z (y ∷ w) → z ≢ s → (u : ℕ) × In u w × (next u ≡ Some z)
  come_from s y [] chain z (inl e) differ = absurd (differ (e ∙ chain))
  come_from s y [] chain z (inr i) differ = absurd i
  come_from s y (x ∷ w) chain z (inl e) differ = (x, inl refl, subst (λ (v : ℕ). next x ≡ Some v) (sym e) chain.0)
  come_from s y (x ∷ w) chain z (inr i) differ = let r = come_from s x w chain.1 z i differ in (r.0, inr r.1, r.2)

  -- the start is met
  pub start_in : (s y : ℕ) (w : List ℕ) → Chain s (y ∷ w) → In s (y ∷ w)
  start_in s y [] chain = inl (sym chain)
  start_in s y (x ∷ w) chain = inr (start_in s x w chain.1)

  -- each member but the newest leads to a later one
  leads_to : (s y : ℕ) (w : List ℕ) → Chain s (y ∷ w) → (u : ℕ) → In u w → (z : ℕ) × In z (y ∷ w) × (next u ≡ Some z)
  leads_to s y [] chain u i = absurd i
  leads_to s y (x ∷ w) chain u (inl e) = (y, inl refl, subst (λ (v : ℕ). next v ≡ Some y) (sym e) chain.0)
  leads_to s y (x ∷ w) chain u (inr i) = let r = leads_to s x w chain.1 u i in (r.0, inr r.1, r.2)

  -- the step stays in xs and leads from no two members to one
  pub record IsInjection (xs : List ℕ) : Type 0 where
    pub stays : (x y : ℕ) → In x xs → next x ≡ Some y → In y xs
    pub once : (x x' y : ℕ) → In x xs → In x' xs → next x ≡ Some y → next x' ≡ Some y → x ≡ x'

  -- a whole walk from s
  pub record Walk (xs : List ℕ) (s : ℕ) : Type 0 where
    pub newest : ℕ
    pub earlier : List ℕ
    pub chain : Chain s (newest ∷ earlier)
    pub distinct : Distinct (newest ∷ earlier)
    pub inside : (x : ℕ) → In x (newest ∷ earlier) → In x xs
    pub ends : (next newest ≡ None) ⊎ (next newest ≡ Some s)

  some_is : (x y : ℕ) (o : Option ℕ) → o ≡ Some x → o ≡ Some y → x ≡ y
  some_is x y o e f = let k : Some x ≡ Some y = sym e ∙ f in cc

  module _ (xs : List ℕ) (steps : IsInjection xs) (s : ℕ) where
    met_or : (z : ℕ) (w : List ℕ) → In z w ⊎ (count_by (nat_eq z) w ≡ 0)
    met_or z [] = inr refl
    met_or z (y ∷ w) = elim (cases_eq z y) [
      | inl e ↦ inl (inl e)
      | inr differ ↦ (elim (met_or z w) [
        | inl i ↦ inl (inr i)
        | inr none ↦ (let zero_bit : bit (nat_eq z y) ≡ 0 = grind (arith, nat_tests) in inr (omega (arith, count_by-cons (nat_eq z) y w, none, zero_bit)))
      ])
    ]

    abbrev Grows : ℕ → Type 0
    Grows fuel = (y : ℕ) (w : List ℕ) → Chain s (y ∷ w) → Distinct (y ∷ w) → ((x : ℕ) → In x (y ∷ w) → In x xs) → length xs ≤ fuel + length w → Walk xs s

    grow_case : (fuel : ℕ) → Grows fuel → (y : ℕ) (w : List ℕ) → Chain s (y ∷ w) → Distinct (y ∷ w) → ((x : ℕ) → In x (y ∷ w) → In x xs)
        → length xs ≤ suc fuel + length w →
        (o : Option ℕ) → next y ≡ o → Walk xs s
    grow_case fuel go y w chain d inside room None is = record { newest = y; earlier = w; chain = chain; distinct = d; inside = inside; ends = inl is }
    grow_case fuel go y w chain d inside room (Some z) is = elim (cases_eq z s) [
      | inl back ↦ record { newest = y; earlier = w; chain = chain; distinct = d; inside = inside; ends = inr (subst (λ (v : ℕ). next y ≡ Some v) back is) }
      | inr differ ↦ (elim (met_or z (y ∷ w)) [
        | inl met ↦ (let u = come_from s y w chain z met differ in
            absurd (apart y u.0 w d.0 u.1 (steps.once u.0 y z (inside u.0 (inr u.1)) (inside y (inl refl)) u.2 is)))
        | inr fresh ↦
            go z (y ∷ w) (is, chain) (fresh, d)
            (λ x i. elim i [ inl e ↦ subst (λ (v : ℕ). In v xs) (sym e) (steps.stays y z (inside y (inl refl)) is) | inr j ↦ inside x j ])
            (omega (arith, room))
      ])
    ]

    grow : (fuel : ℕ) → Grows fuel
    grow zero y w chain d inside room = absurd (omega (arith, room, no_longer (y ∷ w) xs d inside))
    grow (suc fuel) y w chain d inside room = grow_case fuel (grow fuel) y w chain d inside room (next y) refl

    -- from each member there is a whole walk
    pub walk : In s xs → Walk xs s
    walk i = grow (length xs) s [] refl (refl, tt) (λ x j. elim j [ inl e ↦ subst (λ (v : ℕ). In v xs) (sym e) i | inr k ↦ absurd k ]) (omega arith)

    module _ (w : Walk xs s) where
      abbrev met : List ℕ
      met = w.newest ∷ w.earlier

      -- what was met leads to what was met
      pub next_met : (u v : ℕ) → In u met → next u ≡ Some v → In v met
      next_met u v (inl e) is = elim w.ends [
        | inl none ↦ (let k : next w.newest ≡ Some v = subst (λ (x : ℕ). next x ≡ Some v) e is in absurd (clash (next w.newest) none k))
        | inr back ↦
            (let k : next w.newest ≡ Some v = subst (λ (x : ℕ). next x ≡ Some v) e is in
            subst (λ (x : ℕ). In x met) (some_is s v (next w.newest) back k) (start_in s w.newest w.earlier w.chain))
      ]
        where
          clash : (o : Option ℕ) → o ≡ None → o ≡ Some v → ⊥
          clash o a b = cc
      next_met u v (inr i) is =
          let r = leads_to s w.newest w.earlier w.chain u i in
          subst (λ (x : ℕ). In x met) (some_is r.0 v (next u) r.2 is) r.1

      -- what leads to it was met, where nothing leads to the start or the walk came back
      pub prev_met : ((u : ℕ) → In u xs → next u ≢ Some s) ⊎ (next w.newest ≡ Some s) → (u v : ℕ) → In u xs → In v met → next u ≡ Some v → In u met
      prev_met begins u v iu iv is = elim (cases_eq v s) [
        | inl e ↦ (elim begins [
          | inl never ↦ absurd (never u iu (subst (λ (x : ℕ). next u ≡ Some x) e is))
          | inr back ↦ inl (steps.once u w.newest s iu (w.inside w.newest (inl refl)) (subst (λ (x : ℕ). next u ≡ Some x) e is) back)
        ])
        | inr differ ↦ (let r = come_from s w.newest w.earlier w.chain v iv differ in
            subst (λ (x : ℕ). In x met) (steps.once r.0 u v (w.inside r.0 (inr r.1)) iu r.2 is) (inr r.1))
      ]

-- joined by steps in either direction, within xs
pub data Joined (next : ℕ → Option ℕ) (xs : List ℕ) : ℕ → ℕ → Type 0 where
  itself : {x : ℕ} → Joined next xs x x
  on : {x y z : ℕ} → next x ≡ Some y → Joined next xs y z → Joined next xs x z
  back : {x y z : ℕ} → In y xs → next y ≡ Some x → Joined next xs y z → Joined next xs x z

module _ (next : ℕ → Option ℕ) (xs : List ℕ) (steps : IsInjection next xs) (s : ℕ) (w : Walk next xs s)
    (begins : ((u : ℕ) → In u xs → next u ≢ Some s) ⊎ (next w.newest ≡ Some s)) where
  -- the walk meets all that is joined to what it meets
  pub meets_joined : {x y : ℕ} → Joined next xs x y → In x (w.newest ∷ w.earlier) → In y (w.newest ∷ w.earlier)
  meets_joined itself i = i
  meets_joined (on {x = x} {y = y} is j) i = meets_joined j (next_met next xs steps s w x y i is)
  meets_joined (back {x = x} {y = y} iy is j) i = meets_joined j (prev_met next xs steps s w begins y x iy i is)

-- ---- backwards

module _ (next : ℕ → Option ℕ) where
  abbrev leads : ℕ → Option ℕ → Bool
  leads y None = false
  leads y (Some z) = nat_eq z y

  abbrev pick : Bool → ℕ → Option ℕ → Option ℕ
  pick true x later = Some x
  pick false x later = later

  -- the first member of the list that leads to y
  abbrev pub before : List ℕ → ℕ → Option ℕ
  before [] y = None
  before (x ∷ xs) y = pick (leads y (next x)) x (before xs y)

  leads_is : (y : ℕ) (o : Option ℕ) → leads y o ≡ true → o ≡ Some y
  leads_is y None h = absurd (cc)
  leads_is y (Some z) h = let e : z ≡ y = grind (arith, nat_tests, h) in ap Some e

  is_leads : (y : ℕ) (o : Option ℕ) → o ≡ Some y → leads y o ≡ true
  is_leads y o e = let h : nat_eq y y ≡ true = grind (arith, nat_tests) in subst (λ (v : Option ℕ). leads y v ≡ true) (sym e) h

  -- an option is not both with a value and without
  pub some_none : (P : Type 0) (a : ℕ) → Some a ≡ None → P
  some_none P a h = cc

  from_before_case : (xs : List ℕ) (x y z : ℕ) → (before xs y ≡ Some z → In z xs × (next z ≡ Some y)) → (b : Bool) → leads y (next x) ≡ b →
      pick b x (before xs y) ≡ Some z → In z (x ∷ xs) × (next z ≡ Some y)
  from_before_case xs x y z later true is e = let s = same_Some x z e in (inl (sym s), subst (λ (v : ℕ). next v ≡ Some y) s (leads_is y (next x) is))
  from_before_case xs x y z later false is e = let r = later e in (inr r.0, r.1)

  -- what it finds is a member that leads to y
  pub from_before : (xs : List ℕ) (y z : ℕ) → before xs y ≡ Some z → In z xs × (next z ≡ Some y)
  from_before [] y z e = some_none _ z (sym e)
  from_before (x ∷ xs) y z e = from_before_case xs x y z (from_before xs y z) (leads y (next x)) refl e

  before_none_case : (xs : List ℕ) (x y z : ℕ) → (before xs y ≡ None → In z xs → next z ≢ Some y) → (b : Bool) → leads y (next x) ≡ b
      → pick b x (before xs y) ≡ None → In z (x ∷ xs) → next z ≢ Some y
  before_none_case xs x y z later true is e i h = some_none ⊥ x e
  before_none_case xs x y z later false is e (inl s) h = let c : true ≡ false = sym (is_leads y (next x) (ap next (sym s) ∙ h)) ∙ is in cc
  before_none_case xs x y z later false is e (inr i) h = later e i h

  -- where it finds none, none leads to y
  pub before_none : (xs : List ℕ) (y z : ℕ) → before xs y ≡ None → In z xs → next z ≢ Some y
  before_none [] y z e i h = i
  before_none (x ∷ xs) y z e i h = before_none_case xs x y z (before_none xs y z) (leads y (next x)) refl e i h

  module _ (xs : List ℕ) (steps : IsInjection next xs) (only : (x y : ℕ) → next x ≡ Some y → In x xs) where
    before_injection : IsInjection (before xs) xs
    before_injection = record {
      stays = λ x y i e. (from_before xs x y e).0;
      once = λ x z y i j e f. same_Some x z (sym (from_before xs x y e).1 ∙ (from_before xs z y f).1);
    }

    before_is : (x y : ℕ) → next x ≡ Some y → before xs y ≡ Some x
    before_is x y e = go (before xs y) refl
      where
        go : (o : Option ℕ) → before xs y ≡ o → before xs y ≡ Some x
        go None is = absurd (before_none xs y x is (only x y e) e)
        go (Some z) is = is ∙ ap Some (steps.once z x y (from_before xs y z is).0 (only x y e) (from_before xs y z is).1 e)

    turn_round : {a b : ℕ} → Joined next xs a b → Joined (before xs) xs a b
    turn_round itself = itself
    turn_round (on {x = x} {y = y} is j) = back (steps.stays x y (only x y is) is) (before_is x y is) (turn_round j)
    turn_round (back {x = x} {y = y} i is j) = on (before_is y x is) (turn_round j)

    -- a walk back to a start joins the start to what it began with
    chain_back : (s y : ℕ) (w : List ℕ) → Chain (before xs) s (y ∷ w) → Joined next xs y s
    chain_back s y [] chain = subst (Joined next xs y) chain itself
    chain_back s y (x ∷ w) chain = on (from_before xs x y chain.0).1 (chain_back s x w chain.1)

    -- what is joined to a member is joined to all that the member is joined to
    pub then_on : {a b c : ℕ} → Joined next xs a b → Joined next xs b c → Joined next xs a c
    then_on itself w = w
    then_on (on is v) w = on is (then_on v w)
    then_on (back i is v) w = back i is (then_on v w)

    -- a walk joins its start to each place that it comes to
    pub chain_on : (s y : ℕ) (w : List ℕ) → Chain next s (y ∷ w) → Joined next xs s y
    chain_on s y [] chain = subst (λ (v : ℕ). Joined next xs v y) chain itself
    chain_on s y (x ∷ w) chain = then_on (chain_on s x w chain.1) (on chain.0 itself)

    -- joined in one direction is joined in the other
    pub the_other_way : {a b : ℕ} → Joined next xs a b → Joined next xs b a
    the_other_way itself = itself
    the_other_way (on {x = x} {y = y} is v) = then_on (the_other_way v) (back (only x y is) is itself)
    the_other_way (back i is v) = then_on (the_other_way v) (on is itself)

    -- and to each that it met
    pub member_joined : (s y : ℕ) (w : List ℕ) → Chain next s (y ∷ w) → (z : ℕ) → In z (y ∷ w) → Joined next xs s z
    member_joined s y w chain z (inl e) = subst (λ (v : ℕ). Joined next xs s v) (sym e) (chain_on s y w chain)
    member_joined s y [] chain z (inr i) = absurd i
    member_joined s y (x ∷ w) chain z (inr i) = member_joined s x w chain.1 z i

    -- what stands on a walk that came back has a member before it
    pub all_before : (s : ℕ) (w : Walk next xs s) → next w.newest ≡ Some s → (z : ℕ) → In z (w.newest ∷ w.earlier) → (u : ℕ) × In u xs × (next u ≡ Some z)
    all_before s w came z i = elim (cases_eq z s) [
      | inl e ↦ (w.newest, w.inside w.newest (inl refl), subst (λ (v : ℕ). next w.newest ≡ Some v) (sym e) came)
      | inr differ ↦ (let r = come_from next s w.newest w.earlier w.chain z i differ in (r.0, w.inside r.0 (inr r.1), r.2))
    ]

    -- and one after it
    pub all_after : (s : ℕ) (w : Walk next xs s) → next w.newest ≡ Some s → (z : ℕ) → In z (w.newest ∷ w.earlier) → (u : ℕ) × (next z ≡ Some u)
    all_after s w came z (inl e) = (s, subst (λ (v : ℕ). next v ≡ Some s) (sym e) came)
    all_after s w came z (inr i) = let r = leads_to next s w.newest w.earlier w.chain z i in (r.0, r.2)

    -- each member stands on a walk that comes back, or on one from a start
    pub record FromStart (y : ℕ) : Type 0 where
      pub start : ℕ
      pub is_member : In start xs
      pub begins : (u : ℕ) → In u xs → next u ≢ Some start
      pub reaches : Joined next xs start y

    pub outcome : (y : ℕ) → In y xs → ((w : Walk next xs y) × (next w.newest ≡ Some y)) ⊎ FromStart y
    outcome y i =
        let w : Walk (before xs) xs y = walk (before xs) xs before_injection y i in
        elim w.ends [
          | inl none ↦
              inr
              (record {
                start = w.newest;
                is_member = w.inside w.newest (inl refl);
                begins = λ u j. before_none xs w.newest u none j;
                reaches = chain_back y w.newest w.earlier w.chain;
              })
          | inr came ↦ inl (forward y i w came)
        ]
      where
        after_of : (y' : ℕ) (w : Walk (before xs) xs y') → before xs w.newest ≡ Some y' → (z : ℕ) → In z (w.newest ∷ w.earlier) → (u : ℕ) × (next z ≡ Some u)
        after_of y' w came z j = elim (cases_eq z y') [
          | inl e ↦ (w.newest, subst (λ (v : ℕ). next v ≡ Some w.newest) (sym e) (from_before xs w.newest y' came).1)
          | inr differ ↦ (let r = come_from (before xs) y' w.newest w.earlier w.chain z j differ in (r.0, (from_before xs r.0 z r.2).1))
        ]

        forward : (y' : ℕ) → In y' xs → (w : Walk (before xs) xs y') → before xs w.newest ≡ Some y' → (v : Walk next xs y') × (next v.newest ≡ Some y')
        forward y' i' w came =
            let v : Walk next xs y' = walk next xs steps y' i' in
            elim v.ends [
              | inl none ↦ (let j : Joined next xs y' v.newest = chain_on y' v.newest v.earlier v.chain in
                  let met = meets_joined (before xs) xs before_injection y' w (inr came) (turn_round j) (start_in (before xs) y' w.newest w.earlier w.chain) in
                  let a = after_of y' w came v.newest met in
                  some_none _ a.0 (sym a.1 ∙ none))
              | inr back' ↦ (v, back')
            ]
