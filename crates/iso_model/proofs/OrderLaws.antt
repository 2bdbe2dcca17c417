-- The order "last coordinate first" is strict, and of two points of one dimension that differ one comes first; a list put in this order of keys ascends and has the members of the list.
use Rattle.std.specs.Prelude.{◌≡◌, ◌<◌, ◌⊎◌, ℕ, Bool, true, false, ◌&&◌, nat_lt, List, [], ◌∷◌, length, Contains, if◌then◌else◌}
use Rattle.std.proofs.Common.{refl, sym, ap, ◌∙◌, arith, subst, inl, inr}
use Rattle.std.proofs.lemmas.Bool.{false≢true, or_cases, and_parts, or_left, or_right}
use Rattle.std.proofs.lemmas.Bool.Decides.{nat_tests}
use Rattle.std.proofs.lemmas.Slice.Eq.{bytes_eq-Decides}
use Rattle.lists.specs.Orders.{same_list}
use Rattle.iso_model.specs.Points.{comes_first, entered, ascending}
use Rattle.lists.specs.Members.{IsStrict, AscendsBy}
use Rattle.lists.proofs.Tests.{lt_of, of_lt}
use Rattle.lists.proofs.Contained.{Contains-head, Contains-tail, Contains-split, none_contained}
use Rattle.lists.proofs.Orderings.{before_all}

-- ---- last coordinate first

-- the one point before the other, by the parts of the test
abbrev Before : ℕ → List ℕ → ℕ → List ℕ → Type 0
Before x p y q = (comes_first p q ≡ true) ⊎ ((p ≡ q) × (x < y))

before_of : (x : ℕ) (p : List ℕ) (y : ℕ) (q : List ℕ) → comes_first (x ∷ p) (y ∷ q) ≡ true → Before x p y q
before_of x p y q e = elim (or_cases (comes_first p q) (same_list p q && nat_lt x y) e) as (λ _. Before x p y q) [
  | inl less ↦ inl less
  | inr same ↦ inr ((bytes_eq-Decides p q).0 (and_parts (same_list p q) (nat_lt x y) same).0, lt_of x y (and_parts (same_list p q) (nat_lt x y) same).1)
]

of_before : (x : ℕ) (p : List ℕ) (y : ℕ) (q : List ℕ) → Before x p y q → comes_first (x ∷ p) (y ∷ q) ≡ true
of_before x p y q (inl less) = or_left (comes_first p q) (same_list p q && nat_lt x y) less
of_before x p y q (inr same) =
    or_right (comes_first p q) (same_list p q && nat_lt x y)
    (ap (λ b. b && nat_lt x y) ((bytes_eq-Decides p q).1 same.0) ∙ of_lt x y same.1)

further : (x : ℕ) (p : List ℕ) (y : ℕ) (q : List ℕ) (z : ℕ) (r : List ℕ) → (comes_first p q ≡ true → comes_first q r ≡ true → comes_first p r ≡ true)
    → Before x p y q → Before y q z r → Before x p z r
further x p y q z r trans (inl l) (inl m) = inl (trans l m)
further x p y q z r trans (inl l) (inr m) = inl (subst (λ (s : List ℕ). comes_first p s ≡ true) m.0 l)
further x p y q z r trans (inr l) (inl m) = inl (subst (λ (s : List ℕ). comes_first s r ≡ true) (sym l.0) m)
further x p y q z r trans (inr l) (inr m) = inr (l.0 ∙ m.0, omega (arith, l.1, m.1))

pub comes_first-trans : (p q r : List ℕ) → comes_first p q ≡ true → comes_first q r ≡ true → comes_first p r ≡ true
comes_first-trans [] q r a b = absurd (false≢true a)
comes_first-trans (x ∷ p) [] r a b = absurd (false≢true a)
comes_first-trans (x ∷ p) (y ∷ q) [] a b = absurd (false≢true b)
comes_first-trans (x ∷ p) (y ∷ q) (z ∷ r) a b = of_before x p z r (further x p y q z r (comes_first-trans p q r) (before_of x p y q a) (before_of y q z r b))

pub comes_first-irreflexive : (p : List ℕ) → comes_first p p ≡ true → ⊥
comes_first-irreflexive [] a = false≢true a
comes_first-irreflexive (x ∷ p) a = elim (before_of x p x p a) as (λ _. ⊥) [
  | inl less ↦ comes_first-irreflexive p less
  | inr same ↦ omega (arith, same.1)
]

-- of two points of one dimension that differ, the one comes first
abbrev pub InOrder : List ℕ → List ℕ → Type 0
InOrder p q = (comes_first p q ≡ true) ⊎ ((p ≡ q) ⊎ (comes_first q p ≡ true))

numbers_total : (a b : ℕ) → (a < b) ⊎ ((a ≡ b) ⊎ (b < a))
numbers_total a b = grind (arith, nat_tests)

same_tails : (x : ℕ) (p : List ℕ) (y : ℕ) (q : List ℕ) → p ≡ q → (x < y) ⊎ ((x ≡ y) ⊎ (y < x)) → InOrder (x ∷ p) (y ∷ q)
same_tails x p y q same (inl less) = inl (of_before x p y q (inr (same, less)))
same_tails x p y q same (inr (inl equal)) = inr (inl (let e = same in let f = equal in cc))
same_tails x p y q same (inr (inr more)) = inr (inr (of_before y q x p (inr (sym same, more))))

in_order : (x : ℕ) (p : List ℕ) (y : ℕ) (q : List ℕ) → InOrder p q → InOrder (x ∷ p) (y ∷ q)
in_order x p y q (inl less) = inl (of_before x p y q (inl less))
in_order x p y q (inr (inl same)) = same_tails x p y q same (numbers_total x y)
in_order x p y q (inr (inr more)) = inr (inr (of_before y q x p (inl more)))

pub comes_first-total : (p q : List ℕ) → length p ≡ length q → InOrder p q
comes_first-total [] [] l = inr (inl refl)
comes_first-total [] (y ∷ q) l = absurd (omega arith)
comes_first-total (x ∷ p) [] l = absurd (omega arith)
comes_first-total (x ∷ p) (y ∷ q) l = in_order x p y q (comes_first-total p q (omega (arith, l)))

-- the key of the one comes first
abbrev pub Earlier : {X : Type 0} → (X → List ℕ) → X → X → Type 0
Earlier key x y = comes_first (key x) (key y) ≡ true

pub keys_strict : {X : Type 0} (key : X → List ℕ) → IsStrict (Earlier key)
keys_strict key = record { irreflexive = λ x e. comes_first-irreflexive (key x) e; transitive = λ x y z a b. comes_first-trans (key x) (key y) (key z) a b }

-- ---- lists put in order

cases : {X : Type 0} (key : X → List ℕ) (x y : X) (ys : List X) (P : List X → Type 0) → (comes_first (key x) (key y) ≡ true → P (x ∷ y ∷ ys))
    → (key x ≡ key y → P (y ∷ ys)) → ((comes_first (key x) (key y) ≡ true → ⊥) → (key x ≡ key y → ⊥) → P (y ∷ entered key x ys)) → P (entered key x (y ∷ ys))
cases {X} key x y ys P less same more =
    pick (comes_first (key x) (key y)) (same_list (key x) (key y)) (λ e. less e) (λ e. same ((bytes_eq-Decides (key x) (key y)).0 e))
    (λ a b. more (λ e. false≢true (sym a ∙ e)) (λ e. false≢true (sym b ∙ (bytes_eq-Decides (key x) (key y)).1 e)))
  where
    pick : (a b : Bool) → (a ≡ true → P (x ∷ y ∷ ys)) → (b ≡ true → P (y ∷ ys)) → (a ≡ false → b ≡ false → P (y ∷ entered key x ys))
        → P (if a then x ∷ y ∷ ys else if b then y ∷ ys else y ∷ entered key x ys)
    pick true b less same more = less refl
    pick false true less same more = same refl
    pick false false less same more = more refl refl

pub entered-members : {X : Type 0} (key : X → List ℕ) (x : X) (ys : List X) (z : X) → Contains (entered key x ys) z → (x ≡ z) ⊎ Contains ys z
entered-members key x [] z c = Contains-split z x [] c
entered-members {X} key x (y ∷ ys) z c = cases key x y ys (λ l. Contains l z → (x ≡ z) ⊎ Contains (y ∷ ys) z)
    (λ e c. Contains-split z x (y ∷ ys) c)
    (λ e c. inr c)
    (λ a b c. elim (Contains-split z y (entered key x ys) c) as (λ _. (x ≡ z) ⊎ Contains (y ∷ ys) z) [
      | inl e ↦ inr (subst (λ w. Contains (y ∷ ys) w) e (Contains-head y ys))
      | inr m ↦ elim (entered-members key x ys z m) as (λ _. (x ≡ z) ⊎ Contains (y ∷ ys) z) [
        | inl e ↦ inl e
        | inr n ↦ inr (Contains-tail z y ys n)
      ]
    ])
    c

pub entered-keeps : {X : Type 0} (key : X → List ℕ) (x : X) (ys : List X) (z : X) → Contains ys z → Contains (entered key x ys) z
entered-keeps key x [] z c = absurd (none_contained z c)
entered-keeps key x (y ∷ ys) z c = cases key x y ys (λ l. Contains l z)
    (λ e. Contains-tail z x (y ∷ ys) c)
    (λ e. c)
    (λ a b. elim (Contains-split z y ys c) as (λ _. Contains (y ∷ entered key x ys) z) [
      | inl e ↦ subst (λ w. Contains (y ∷ entered key x ys) w) e (Contains-head y (entered key x ys))
      | inr m ↦ Contains-tail z y (entered key x ys) (entered-keeps key x ys z m)
    ])

-- x is entered, where no other member has its key
pub entered-takes : {X : Type 0} (key : X → List ℕ) (x : X) (ys : List X) → ((y : X) → Contains ys y → key x ≡ key y → x ≡ y) → Contains (entered key x ys) x
entered-takes key x [] own = Contains-head x []
entered-takes key x (y ∷ ys) own = cases key x y ys (λ l. Contains l x)
    (λ e. Contains-head x (y ∷ ys))
    (λ e. subst (λ w. Contains (y ∷ ys) w) (sym (own y (Contains-head y ys) e)) (Contains-head y ys))
    (λ a b. Contains-tail x y (entered key x ys) (entered-takes key x ys (λ z c. own z (Contains-tail z y ys c))))

pub entered-ascends : {X : Type 0} (key : X → List ℕ) (x : X) (ys : List X) → ((y : X) → Contains ys y → length (key x) ≡ length (key y))
    → AscendsBy (Earlier key) ys → AscendsBy (Earlier key) (entered key x ys)
entered-ascends key x [] wide a = (λ y c. absurd (none_contained y c), tt)
entered-ascends {X} key x (y ∷ ys) wide a = cases key x y ys (λ l. AscendsBy (Earlier key) l)
    (λ e. (before_all (Earlier key) (keys_strict key) x y ys e a, a))
    (λ e. a)
    (λ n m. (
      λ z c. elim (entered-members key x ys z c) as (λ _. comes_first (key y) (key z) ≡ true) [
        | inl e ↦ subst (λ w. comes_first (key y) (key w) ≡ true) e
            (elim (comes_first-total (key x) (key y) (wide y (Contains-head y ys))) as (λ _. comes_first (key y) (key x) ≡ true) [
              | inl less ↦ absurd (n less)
              | inr (inl same) ↦ absurd (m same)
              | inr (inr more) ↦ more
            ])
        | inr d ↦ a.0 z d
      ],
      entered-ascends key x ys (λ z c. wide z (Contains-tail z y ys c)) a.1,
    ))

pub ascending-members : {X : Type 0} (key : X → List ℕ) (xs : List X) (z : X) → Contains (ascending key xs) z → Contains xs z
ascending-members key [] z c = c
ascending-members key (x ∷ xs) z c = elim (entered-members key x (ascending key xs) z c) as (λ _. Contains (x ∷ xs) z) [
  | inl e ↦ subst (λ w. Contains (x ∷ xs) w) e (Contains-head x xs)
  | inr m ↦ Contains-tail z x xs (ascending-members key xs z m)
]

-- where different members have different keys, no member is lost
pub ascending-all : {X : Type 0} (key : X → List ℕ) (xs : List X) → ((x y : X) → Contains xs x → Contains xs y → key x ≡ key y → x ≡ y)
    → (z : X) → Contains xs z → Contains (ascending key xs) z
ascending-all key [] own z c = c
ascending-all key (x ∷ xs) own z c =
    let taken = entered-takes key x (ascending key xs) (λ y d. own x y (Contains-head x xs) (Contains-tail y x xs (ascending-members key xs y d))) in
    elim (Contains-split z x xs c) as (λ _. Contains (ascending key (x ∷ xs)) z) [
      | inl e ↦ subst (λ w. Contains (entered key x (ascending key xs)) w) e taken
      | inr m ↦ entered-keeps key x (ascending key xs) z (ascending-all key xs (λ a b ca cb. own a b (Contains-tail a x xs ca) (Contains-tail b x xs cb)) z m)
    ]

-- where all keys have one length, the list ascends
pub ascending-ascends : {X : Type 0} (key : X → List ℕ) (n : ℕ) (xs : List X) → ((x : X) → Contains xs x → length (key x) ≡ n)
    → AscendsBy (Earlier key) (ascending key xs)
ascending-ascends key n [] wide = tt
ascending-ascends key n (x ∷ xs) wide =
    entered-ascends key x (ascending key xs) (λ y c. wide x (Contains-head x xs) ∙ sym (wide y (Contains-tail y x xs (ascending-members key xs y c))))
    (ascending-ascends key n xs (λ y c. wide y (Contains-tail y x xs c)))
