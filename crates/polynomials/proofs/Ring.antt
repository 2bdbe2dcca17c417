-- Equations between polynomials over the whole numbers, by computing.
--
-- `ring ρ a b refl` proves that two polynomials have one value. `a` and `b` are written as `Expr` over the numbered variables `var 0`, `var 1`, ..,
-- whose values are the list ρ; each is brought into one form, a sum of terms in order, and `refl` compares the two.
-- `ring_above ρ a b ps refl h` proves it where a is b and a sum of multiples of things that are 0.
use Rattle.std.specs.Prelude.{◌≡◌, ℕ, zero, suc, ℤ, pos, negsuc, ◌+ℤ◌, ◌*ℤ◌, ◌-ℤ◌, neg_ℤ, Bool, true, false, List, [], ◌∷◌, ltb, leb}
use Rattle.std.proofs.Common.{arith, ap, sym, ◌∙◌, refl, get_or}
use Rattle.std.proofs.lemmas.Int.{ints}
use Rattle.std.proofs.lemmas.Bool.Decides.{nat_tests}
use Rattle.polynomials.proofs.IntLaws.{add-zero_left, add-zero_right, add-assoc, mul-comm, mul-zero_left, mul-one_left, mul-one_right, mul-minus_one}
use Rattle.polynomials.proofs.IntLaws.{mul-distrib_left, mul-distrib_right, mul-assoc, mul-swap, mul-pairs}

infixl 6 ◌⊕◌
infixl 6 ◌⊖◌
infixl 7 ◌⊗◌
pub data Expr : Type 0 where
  var : ℕ → Expr
  con : ℤ → Expr
  ◌⊕◌ : Expr → Expr → Expr
  ◌⊖◌ : Expr → Expr → Expr
  ◌⊗◌ : Expr → Expr → Expr
  neg : Expr → Expr

-- the value where the variables have the values ρ
abbrev pub value : List ℤ → Expr → ℤ
value ρ (var i) = get_or ρ i (pos 0)
value ρ (con c) = c
value ρ (a ⊕ b) = value ρ a +ℤ value ρ b
value ρ (a ⊖ b) = value ρ a -ℤ value ρ b
value ρ (a ⊗ b) = value ρ a *ℤ value ρ b
value ρ (neg a) = neg_ℤ (value ρ a)

-- a polynomial as a sum of terms: coefficient, variables in ascending order
pub data Poly : Type 0 where
  none : Poly
  more : ℤ → List ℕ → Poly → Poly

pub data Place : Type 0 where
  before : Place
  same : Place
  after : Place

-- which product of variables comes first: the one with the greater power of the first variable in which they differ. This order is kept by a product
abbrev pub place : List ℕ → List ℕ → Place
place [] [] = same
place [] (y ∷ ys) = after
place (x ∷ xs) [] = before
place (x ∷ xs) (y ∷ ys) = elim (ltb x y) [ true ↦ before | false ↦ elim (ltb y x) [ true ↦ after | false ↦ place xs ys ] ]

abbrev pub with_var : ℕ → List ℕ → List ℕ
with_var x [] = x ∷ []
with_var x (y ∷ ys) = elim (leb x y) [ true ↦ x ∷ y ∷ ys | false ↦ y ∷ with_var x ys ]

abbrev pub joined : List ℕ → List ℕ → List ℕ
joined [] ys = ys
joined (x ∷ xs) ys = with_var x (joined xs ys)

-- c times m and p, where c may be 0
abbrev pub put : ℤ → List ℕ → Poly → Poly
put (pos zero) m p = p
put (pos (suc n)) m p = more (pos (suc n)) m p
put (negsuc n) m p = more (negsuc n) m p

abbrev pub add_term : ℤ → List ℕ → (Poly → Poly) → Poly → Poly
add_term c m k none = more c m (k none)
add_term c m k (more d n q) =
    elim (place m n) [ before ↦ more c m (k (more d n q)) | same ↦ put (c +ℤ d) m (k q) | after ↦ more d n (add_term c m k q) ]

abbrev pub add : Poly → Poly → Poly
add none q = q
add (more c m p) q = add_term c m (λ r. add p r) q

abbrev pub mul_term : ℤ → List ℕ → Poly → Poly
mul_term c m none = none
mul_term c m (more d n q) = more (c *ℤ d) (joined m n) (mul_term c m q)

abbrev pub mul : Poly → Poly → Poly
mul none q = none
mul (more c m p) q = add (mul_term c m q) (mul p q)

-- the one form of an expression
abbrev pub normal : Expr → Poly
normal (var i) = more (pos 1) (i ∷ []) none
normal (con c) = put c [] none
normal (a ⊕ b) = add (normal a) (normal b)
normal (a ⊖ b) = add (normal a) (mul_term (negsuc 0) [] (normal b))
normal (a ⊗ b) = mul (normal a) (normal b)
normal (neg a) = mul_term (negsuc 0) [] (normal a)

-- ---- the form has the value of the expression

abbrev pub value_of_vars : List ℤ → List ℕ → ℤ
value_of_vars ρ [] = pos 1
value_of_vars ρ (x ∷ xs) = get_or ρ x (pos 0) *ℤ value_of_vars ρ xs

abbrev pub value_of : List ℤ → Poly → ℤ
value_of ρ none = pos 0
value_of ρ (more c m p) = c *ℤ value_of_vars ρ m +ℤ value_of ρ p

second_test : (x y : ℕ) (xs ys : List ℕ) → (place xs ys ≡ same → xs ≡ ys) → (t : Bool) → ltb y x ≡ t → ltb x y ≡ false
    → elim t as (λ _. Place) [ true ↦ after | false ↦ place xs ys ] ≡ same → (x ∷ xs) ≡ (y ∷ ys)
second_test x y xs ys r true q p e = cc
second_test x y xs ys r false q p e = let h : x ≡ y = grind (arith, nat_tests) in let k = r e in cc

first_test : (x y : ℕ) (xs ys : List ℕ) → (place xs ys ≡ same → xs ≡ ys) → (t : Bool) → ltb x y ≡ t
    → elim t as (λ _. Place) [ true ↦ before | false ↦ elim (ltb y x) as (λ _. Place) [ true ↦ after | false ↦ place xs ys ] ] ≡ same → (x ∷ xs) ≡ (y ∷ ys)
first_test x y xs ys r true p e = cc
first_test x y xs ys r false p e = second_test x y xs ys r (ltb y x) refl p e

place-same : (m n : List ℕ) → place m n ≡ same → m ≡ n
place-same [] [] e = refl
place-same [] (y ∷ ys) e = cc
place-same (x ∷ xs) [] e = cc
place-same (x ∷ xs) (y ∷ ys) e = first_test x y xs ys (place-same xs ys) (ltb x y) refl e

value-with_var : (ρ : List ℤ) (x : ℕ) (ys : List ℕ) → value_of_vars ρ (with_var x ys) ≡ get_or ρ x (pos 0) *ℤ value_of_vars ρ ys
value-with_var ρ x [] = refl
value-with_var ρ x (y ∷ ys) =
    elim (leb x y) as (λ t. value_of_vars ρ (elim t as (λ _. List ℕ) [ true ↦ x ∷ y ∷ ys | false ↦ y ∷ with_var x ys ]) ≡ get_or ρ x (pos 0) *ℤ
    value_of_vars ρ (y ∷ ys)) [
      | true ↦ refl
      | false ↦ ap (λ v. get_or ρ y (pos 0) *ℤ v) (value-with_var ρ x ys) ∙ mul-swap (get_or ρ y (pos 0)) (get_or ρ x (pos 0)) (value_of_vars ρ ys)
    ]

value-joined : (ρ : List ℤ) (xs ys : List ℕ) → value_of_vars ρ (joined xs ys) ≡ value_of_vars ρ xs *ℤ value_of_vars ρ ys
value-joined ρ [] ys = sym (mul-one_left (value_of_vars ρ ys))
value-joined ρ (x ∷ xs) ys =
    value-with_var ρ x (joined xs ys) ∙ ap (λ v. get_or ρ x (pos 0) *ℤ v) (value-joined ρ xs ys)
    ∙ sym (mul-assoc (get_or ρ x (pos 0)) (value_of_vars ρ xs) (value_of_vars ρ ys))

value-put : (ρ : List ℤ) (c : ℤ) (m : List ℕ) (p : Poly) → value_of ρ (put c m p) ≡ c *ℤ value_of_vars ρ m +ℤ value_of ρ p
value-put ρ (pos zero) m p = sym (ap (λ v. v +ℤ value_of ρ p) (mul-zero_left (value_of_vars ρ m)) ∙ add-zero_left (value_of ρ p))
value-put ρ (pos (suc n)) m p = refl
value-put ρ (negsuc n) m p = refl

shuffle : (a b v q : ℤ) → (a +ℤ b) +ℤ (v +ℤ q) ≡ (a +ℤ v) +ℤ (b +ℤ q)
shuffle a b v q = omega (arith, ints)

swapped : (a b q : ℤ) → a +ℤ (b +ℤ q) ≡ b +ℤ (a +ℤ q)
swapped a b q = omega (arith, ints)

add_at : (ρ : List ℤ) (c d : ℤ) (m n : List ℕ) (k : Poly → Poly) (v : ℤ) → ((r : Poly) → value_of ρ (k r) ≡ v +ℤ value_of ρ r) → (q : Poly)
    → value_of ρ (add_term c m k q) ≡ (c *ℤ value_of_vars ρ m +ℤ v) +ℤ value_of ρ q
    → (o : Place) → place m n ≡ o
    → value_of ρ (elim o as (λ _. Poly) [ before ↦ more c m (k (more d n q)) | same ↦ put (c +ℤ d) m (k q) | after ↦ more d n (add_term c m k q) ])
    ≡ (c *ℤ value_of_vars ρ m +ℤ v) +ℤ (d *ℤ value_of_vars ρ n +ℤ value_of ρ q)
add_at ρ c d m n k v h q rest before e =
    ap (λ w. c *ℤ value_of_vars ρ m +ℤ w) (h (more d n q))
    ∙ sym (add-assoc (c *ℤ value_of_vars ρ m) v (d *ℤ value_of_vars ρ n +ℤ value_of ρ q))
add_at ρ c d m n k v h q rest same e =
    value-put ρ (c +ℤ d) m (k q)
    ∙ ap (λ w. (c +ℤ d) *ℤ value_of_vars ρ m +ℤ w) (h q)
    ∙ ap (λ w. w +ℤ (v +ℤ value_of ρ q)) (mul-distrib_right c d (value_of_vars ρ m))
    ∙ shuffle (c *ℤ value_of_vars ρ m) (d *ℤ value_of_vars ρ m) v (value_of ρ q)
    ∙ ap (λ l. (c *ℤ value_of_vars ρ m +ℤ v) +ℤ (d *ℤ value_of_vars ρ l +ℤ value_of ρ q)) (place-same m n e)
add_at ρ c d m n k v h q rest after e =
    ap (λ w. d *ℤ value_of_vars ρ n +ℤ w) rest
    ∙ swapped (d *ℤ value_of_vars ρ n) (c *ℤ value_of_vars ρ m +ℤ v) (value_of ρ q)

value-add_term : (ρ : List ℤ) (c : ℤ) (m : List ℕ) (k : Poly → Poly) (v : ℤ) → ((r : Poly) → value_of ρ (k r) ≡ v +ℤ value_of ρ r) → (q : Poly)
    → value_of ρ (add_term c m k q) ≡ (c *ℤ value_of_vars ρ m +ℤ v) +ℤ value_of ρ q
value-add_term ρ c m k v h none =
    ap (λ w. c *ℤ value_of_vars ρ m +ℤ w) (h none) ∙ sym (add-assoc (c *ℤ value_of_vars ρ m) v (pos 0))
value-add_term ρ c m k v h (more d n q) = add_at ρ c d m n k v h q (value-add_term ρ c m k v h q) (place m n) refl

value-add : (ρ : List ℤ) (p q : Poly) → value_of ρ (add p q) ≡ value_of ρ p +ℤ value_of ρ q
value-add ρ none q = sym (add-zero_left (value_of ρ q))
value-add ρ (more c m p) q = value-add_term ρ c m (λ r. add p r) (value_of ρ p) (λ r. value-add ρ p r) q

value-mul_term : (ρ : List ℤ) (c : ℤ) (m : List ℕ) (q : Poly) → value_of ρ (mul_term c m q) ≡ (c *ℤ value_of_vars ρ m) *ℤ value_of ρ q
value-mul_term ρ c m none = sym (mul-comm (c *ℤ value_of_vars ρ m) (pos 0) ∙ mul-zero_left (c *ℤ value_of_vars ρ m))
value-mul_term ρ c m (more d n q) =
    ap (λ w. (c *ℤ d) *ℤ w +ℤ value_of ρ (mul_term c m q)) (value-joined ρ m n)
    ∙ ap (λ w. w +ℤ value_of ρ (mul_term c m q)) (mul-pairs c d (value_of_vars ρ m) (value_of_vars ρ n))
    ∙ ap (λ w. (c *ℤ value_of_vars ρ m) *ℤ (d *ℤ value_of_vars ρ n) +ℤ w) (value-mul_term ρ c m q)
    ∙ sym (mul-distrib_left (c *ℤ value_of_vars ρ m) (d *ℤ value_of_vars ρ n) (value_of ρ q))

value-mul : (ρ : List ℤ) (p q : Poly) → value_of ρ (mul p q) ≡ value_of ρ p *ℤ value_of ρ q
value-mul ρ none q = sym (mul-zero_left (value_of ρ q))
value-mul ρ (more c m p) q =
    value-add ρ (mul_term c m q) (mul p q)
    ∙ ap (λ w. w +ℤ value_of ρ (mul p q)) (value-mul_term ρ c m q)
    ∙ ap (λ w. (c *ℤ value_of_vars ρ m) *ℤ value_of ρ q +ℤ w) (value-mul ρ p q)
    ∙ sym (mul-distrib_right (c *ℤ value_of_vars ρ m) (value_of ρ p) (value_of ρ q))

value-negated : (ρ : List ℤ) (p : Poly) → value_of ρ (mul_term (negsuc 0) [] p) ≡ neg_ℤ (value_of ρ p)
value-negated ρ p =
    value-mul_term ρ (negsuc 0) [] p ∙ ap (λ w. w *ℤ value_of ρ p) (mul-one_right (negsuc 0)) ∙ mul-minus_one (value_of ρ p)

value-normal : (ρ : List ℤ) (a : Expr) → value_of ρ (normal a) ≡ value ρ a
value-normal ρ (var i) =
    add-zero_right (pos 1 *ℤ (get_or ρ i (pos 0) *ℤ pos 1)) ∙ mul-one_left (get_or ρ i (pos 0) *ℤ pos 1) ∙ mul-one_right (get_or ρ i (pos 0))
value-normal ρ (con c) = value-put ρ c [] none ∙ add-zero_right (c *ℤ pos 1) ∙ mul-one_right c
value-normal ρ (a ⊕ b) =
    value-add ρ (normal a) (normal b) ∙ ap (λ w. w +ℤ value_of ρ (normal b)) (value-normal ρ a) ∙ ap (λ w. value ρ a +ℤ w) (value-normal ρ b)
value-normal ρ (a ⊖ b) =
    value-add ρ (normal a) (mul_term (negsuc 0) [] (normal b)) ∙ ap (λ w. w +ℤ value_of ρ (mul_term (negsuc 0) [] (normal b))) (value-normal ρ a)
    ∙ ap (λ w. value ρ a +ℤ w) (value-negated ρ (normal b)) ∙ ap (λ w. value ρ a -ℤ w) (value-normal ρ b)
value-normal ρ (a ⊗ b) =
    value-mul ρ (normal a) (normal b) ∙ ap (λ w. w *ℤ value_of ρ (normal b)) (value-normal ρ a) ∙ ap (λ w. value ρ a *ℤ w) (value-normal ρ b)
value-normal ρ (neg a) = value-negated ρ (normal a) ∙ ap neg_ℤ (value-normal ρ a)

-- two expressions with one form have one value
pub ring : (ρ : List ℤ) (a b : Expr) → normal a ≡ normal b → value ρ a ≡ value ρ b
ring ρ a b e = sym (value-normal ρ a) ∙ ap (value_of ρ) e ∙ value-normal ρ b

-- ---- equations that follow from others

-- a sum of multiples: each pair is a factor and what it multiplies
abbrev pub combined : List (Expr × Expr) → Expr
combined [] = con (pos 0)
combined (p ∷ ps) = p.0 ⊗ p.1 ⊕ combined ps

-- each thing that is multiplied is 0
abbrev pub AreZero : List ℤ → List (Expr × Expr) → Type 0
AreZero ρ [] = Unit {0}
AreZero ρ (p ∷ ps) = (value ρ p.1 ≡ pos 0) × AreZero ρ ps

value-combined : (ρ : List ℤ) (ps : List (Expr × Expr)) → AreZero ρ ps → value ρ (combined ps) ≡ pos 0
value-combined ρ [] h = refl
value-combined ρ (p ∷ ps) h =
    ap (λ v. value ρ p.0 *ℤ v +ℤ value ρ (combined ps)) h.0
    ∙ ap (λ v. value ρ p.0 *ℤ pos 0 +ℤ v) (value-combined ρ ps h.1)
    ∙ add-zero_right (value ρ p.0 *ℤ pos 0) ∙ mul-comm (value ρ p.0) (pos 0) ∙ mul-zero_left (value ρ p.0)

-- a is b and a sum of multiples of zeros
pub ring_above : (ρ : List ℤ) (a b : Expr) (ps : List (Expr × Expr)) → normal a ≡ normal (b ⊕ combined ps) → AreZero ρ ps → value ρ a ≡ value ρ b
ring_above ρ a b ps e h =
    ring ρ a (b ⊕ combined ps) e ∙ ap (λ v. value ρ b +ℤ v) (value-combined ρ ps h) ∙ add-zero_right (value ρ b)
