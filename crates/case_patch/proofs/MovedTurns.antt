-- Rows with their columns in another order and with signs: the turn stays other than zero.
use Rattle.std.specs.Prelude.{◌≡◌, ◌≢◌, ℕ, ◌+◌, ◌-◌, ◌*◌, ◌/◌, ◌%◌, ◌<◌, ℤ, pos, negsuc, ◌+ℤ◌, ◌*ℤ◌, Bool, true, false, nat_lt, if◌then◌else◌, List, [], ◌∷◌}
use Rattle.std.specs.Prelude.{map, length, slice_index, slice_index_or, All, Contains, zero, suc}
use Rattle.std.proofs.Common.{refl, sym, ap, ◌∙◌, arith}
use Rattle.std.proofs.lemmas.Bool.Decides.{nat_tests}
use Rattle.std.proofs.lemmas.Int.{ints}
use Rattle.std.proofs.lemmas.List.{length-map}
use Rattle.std.proofs.lemmas.List.FromFn.{fill_by_all, get_or-map-range_with_len, length-map-range_with_len}
use Rattle.polynomials.proofs.IntLaws.{mul-eq-zero, mul-minus_one, mul-one_left}
use Rattle.polynomials.proofs.Ring.{Expr, var, ◌⊗◌, value, normal, ring}
use Rattle.iso_model.specs.Moves.{Move}
use Rattle.iso_model.specs.Turns.{turn, total, signed, product_along}
use Rattle.small_turn.proofs.TurnExpr as E
use Rattle.cell_lattice.specs.Agreement.{agree_on}
use Rattle.cube_moves.proofs.OrderChecks.{axis-below}
use Rattle.lists.specs.Orders.{numbers, orders, is_odd_order}
use Rattle.lists.specs.Bits.{is_set}
use Rattle.lists.proofs.Contained.{below_contained, each-from_All, Contains-head, Contains-tail}
use Rattle.lists.proofs.MemberLaws.{map-map}
use Rattle.iso_model.specs.Dimensions.{IsDimension, in_each_dimension}

-- ---- lists over the numbers below n

pub map_below : {X : Type 0} (f g : ℕ → X) (n : ℕ) → ((i : ℕ) → i < n → f i ≡ g i) → map f (numbers n) ≡ map g (numbers n)
map_below {X} f g n same =
    fill_by_all g (map f (numbers n)) n (f 0) (length-map-range_with_len f 0 n)
    (λ k h. get_or-map-range_with_len f 0 n k k (f 0) h (omega arith) ∙ same k h)

-- a list is the list of what stands at its places
pub places_of : {X : Type 0} (d : X) (xs : List X) (n : ℕ) → length xs ≡ n → xs ≡ map (λ i. slice_index_or xs i d) (numbers n)
places_of d xs n l = fill_by_all (λ i. slice_index_or xs i d) xs n d l (λ k h. refl)

pub at_place : {X : Type 0} (f : ℕ → X) (n i : ℕ) (d : X) → i < n → slice_index_or (map f (numbers n)) i d ≡ f i
at_place f n i d h = get_or-map-range_with_len f 0 n i i d h (omega arith)

-- ---- the value of a turn of expressions

pub value-total : (ρ : List ℤ) (xs : List Expr) → value ρ (E.total xs) ≡ total (map (value ρ) xs)
value-total ρ [] = refl
value-total ρ (x ∷ xs) = ap (λ (z : ℤ). value ρ x +ℤ z) (value-total ρ xs)

value-signed : (ρ : List ℤ) (odd : Bool) (x : Expr) → value ρ (E.signed odd x) ≡ signed odd (value ρ x)
value-signed ρ true x = refl
value-signed ρ false x = refl

value-at : (ρ : List ℤ) (row : List Expr) (k : ℕ) → value ρ (E.at row k) ≡ slice_index_or (map (value ρ) row) k (pos 0)
value-at ρ [] k = refl
value-at ρ (x ∷ row) zero = refl
value-at ρ (x ∷ row) (suc k) = value-at ρ row k

value-along : (ρ : List ℤ) (rows : List (List Expr)) (ks : List ℕ) → value ρ (E.product_along rows ks) ≡ product_along (map (map (value ρ)) rows) ks
value-along ρ [] ks = refl
value-along ρ (row ∷ rows) [] = refl
value-along ρ (row ∷ rows) (k ∷ ks) =
    ap (λ (z : ℤ). z *ℤ value ρ (E.product_along rows ks)) (value-at ρ row k)
    ∙ ap (λ (z : ℤ). slice_index_or (map (value ρ) row) k (pos 0) *ℤ z) (value-along ρ rows ks)

value-turn : (ρ : List ℤ) (rows : List (List Expr)) → value ρ (E.turn rows) ≡ turn (map (map (value ρ)) rows)
unfolding turn
value-turn ρ rows =
    value-total ρ (map (λ o. E.signed (is_odd_order o) (E.product_along rows o)) (orders (length rows)))
    ∙ ap total (each (orders (length rows)))
    ∙ ap (λ (n : ℕ). total (map (λ o. signed (is_odd_order o) (product_along (map (map (value ρ)) rows) o)) (orders n))) (sym (length-map rows (map (value ρ))))
  where
    each : (os : List (List ℕ)) → map (value ρ) (map (λ o. E.signed (is_odd_order o) (E.product_along rows o)) os)
        ≡ map (λ o. signed (is_odd_order o) (product_along (map (map (value ρ)) rows) o)) os
    each [] = refl
    each (o ∷ os) =
        ap (λ (z : ℤ). z ∷ map (value ρ) (map (λ o. E.signed (is_odd_order o) (E.product_along rows o)) os))
        (value-signed ρ (is_odd_order o) (E.product_along rows o) ∙ ap (signed (is_odd_order o)) (value-along ρ rows o))
        ∙ ap (λ (zs : List ℤ). signed (is_odd_order o) (product_along (map (map (value ρ)) rows) o) ∷ zs) (each os)

-- ---- rows with columns in another order and with signs, as expressions: first the entries row by row are variables, then the signs

abbrev plain_rows : ℕ → List (List Expr)
plain_rows d = map (λ r. map (λ i. var (r * d + i)) (numbers d)) (numbers d)

abbrev moved_rows : ℕ → List ℕ → List (List Expr)
moved_rows d axes = map (λ r. map (λ i. var (d * d + i) ⊗ var (r * d + slice_index axes i)) (numbers d)) (numbers d)

abbrev times : ℕ → List ℕ → Expr → Expr
times n [] x = x
times n (i ∷ is) x = var (n + i) ⊗ times n is x

-- moved columns multiply the turn by the signs, and by the sign of the order
same_turn : (d : ℕ) → IsDimension d → (axes : List ℕ) → Contains (orders d) axes
    → normal (E.turn (moved_rows d axes)) ≡ normal (E.signed (is_odd_order axes) (times (d * d) (numbers d) (E.turn (plain_rows d))))
same_turn d is axes o =
    each-from_All (λ axes. normal (E.turn (moved_rows d axes)) ≡ normal (E.signed (is_odd_order axes) (times (d * d) (numbers d) (E.turn (plain_rows d)))))
    (orders d) (all d is) axes o
  where
    all : (d : ℕ) → IsDimension d
        → All (λ axes. normal (E.turn (moved_rows d axes)) ≡ normal (E.signed (is_odd_order axes) (times (d * d) (numbers d) (E.turn (plain_rows d)))))
        (orders d)
    all = in_each_dimension
        (λ d. All (λ axes. normal (E.turn (moved_rows d axes)) ≡ normal (E.signed (is_odd_order axes) (times (d * d) (numbers d) (E.turn (plain_rows d)))))
        (orders d))
        (agree_on (λ axes. normal (E.turn (moved_rows 2 axes))) (λ axes. normal (E.signed (is_odd_order axes) (times 4 (numbers 2) (E.turn (plain_rows 2)))))
        (orders 2) refl)
        (agree_on (λ axes. normal (E.turn (moved_rows 3 axes))) (λ axes. normal (E.signed (is_odd_order axes) (times 9 (numbers 3) (E.turn (plain_rows 3)))))
        (orders 3) refl)
        (agree_on (λ axes. normal (E.turn (moved_rows 4 axes))) (λ axes. normal (E.signed (is_odd_order axes) (times 16 (numbers 4) (E.turn (plain_rows 4)))))
        (orders 4) refl)

-- ---- the values of the variables

abbrev sign_of : Bool → ℤ
sign_of b = if b then negsuc 0 else pos 1

signed-times : (b : Bool) (z : ℤ) → sign_of b *ℤ z ≡ signed b z
signed-times true z = mul-minus_one z
signed-times false z = mul-one_left z

sign-not_zero : (b : Bool) → sign_of b ≢ pos 0
sign-not_zero true e = cc
sign-not_zero false e = cc

abbrev value_at : ℕ → (ℕ → ℕ → ℤ) → (ℕ → Bool) → ℕ → ℤ
value_at d entry flip n = if nat_lt n (d * d) then entry (n / d) (n % d) else sign_of (flip (n - d * d))

-- the entries row by row, and then the signs
abbrev values : ℕ → (ℕ → ℕ → ℤ) → (ℕ → Bool) → List ℤ
values d entry flip = map (value_at d entry flip) (numbers (d * d + d))

record IsEntry (d r a : ℕ) : Type 0 where
  pub inside : r * d + a < d * d
  pub row : (r * d + a) / d ≡ r
  pub column : (r * d + a) % d ≡ a

is_entry : (d : ℕ) → IsDimension d → (r a : ℕ) → r < d → a < d → IsEntry d r a
is_entry = in_each_dimension (λ d. (r a : ℕ) → r < d → a < d → IsEntry d r a)
    (λ r a h k. record { inside = omega arith; row = omega arith; column = omega arith })
    (λ r a h k. record { inside = omega arith; row = omega arith; column = omega arith })
    (λ r a h k. record { inside = omega arith; row = omega arith; column = omega arith })

value-entry : (d : ℕ) → IsDimension d → (entry : ℕ → ℕ → ℤ) (flip : ℕ → Bool) (r a : ℕ) → r < d → a < d
    → slice_index_or (values d entry flip) (r * d + a) (pos 0) ≡ entry r a
value-entry d is entry flip r a in_r in_a =
    let e = is_entry d is r a in_r in_a in
    let t : nat_lt (r * d + a) (d * d) ≡ true = let h = e.inside in grind (arith, nat_tests) in
    at_place (value_at d entry flip) (d * d + d) (r * d + a) (pos 0) (let h = e.inside in omega arith)
    ∙ ap (λ (b : Bool). if b then entry ((r * d + a) / d) ((r * d + a) % d) else sign_of (flip (r * d + a - d * d))) t
    ∙ ap (λ (n : ℕ). entry n ((r * d + a) % d)) e.row ∙ ap (entry r) e.column

value-sign : (d : ℕ) (entry : ℕ → ℕ → ℤ) (flip : ℕ → Bool) (i : ℕ) → i < d → slice_index_or (values d entry flip) (d * d + i) (pos 0) ≡ sign_of (flip i)
value-sign d entry flip i h =
    let t : nat_lt (d * d + i) (d * d) ≡ false = grind (arith, nat_tests) in
    let e : d * d + i - d * d ≡ i = omega arith in
    at_place (value_at d entry flip) (d * d + d) (d * d + i) (pos 0) (omega arith)
    ∙ ap (λ (b : Bool). if b then entry ((d * d + i) / d) ((d * d + i) % d) else sign_of (flip (d * d + i - d * d))) t
    ∙ ap (λ (n : ℕ). sign_of (flip n)) e

-- ---- rows that are turned

-- a vector with its coordinates in the order of a move, and negated where the move flips
abbrev pub turned : ℕ → Move → List ℤ → List ℤ
turned d by v = map (λ i. signed (is_set by.flips i) (slice_index_or v (slice_index by.axes i) (pos 0))) (numbers d)

abbrev rows_of : ℕ → (ℕ → ℕ → ℤ) → List (List ℤ)
rows_of d entry = map (λ r. map (entry r) (numbers d)) (numbers d)

plain_value : (d : ℕ) → IsDimension d → (entry : ℕ → ℕ → ℤ) (flip : ℕ → Bool) → map (map (value (values d entry flip))) (plain_rows d) ≡ rows_of d entry
plain_value d is entry flip =
    map-map (λ r. map (λ i. var (r * d + i)) (numbers d)) (map (value (values d entry flip))) (numbers d)
    ∙ map_below (λ r. map (value (values d entry flip)) (map (λ i. var (r * d + i)) (numbers d))) (λ r. map (entry r) (numbers d)) d
    (λ r in_r. map-map (λ i. var (r * d + i)) (value (values d entry flip)) (numbers d)
    ∙ map_below (λ i. slice_index_or (values d entry flip) (r * d + i) (pos 0)) (entry r) d (λ i in_i. value-entry d is entry flip r i in_r in_i))

moved_value : (d : ℕ) → IsDimension d → (by : Move) → Contains (orders d) by.axes → (entry : ℕ → ℕ → ℤ)
    → map (map (value (values d entry (is_set by.flips)))) (moved_rows d by.axes) ≡ map (turned d by) (rows_of d entry)
moved_value d is by o entry =
    map-map (λ r. map (λ i. var (d * d + i) ⊗ var (r * d + slice_index by.axes i)) (numbers d)) (map (value ρ)) (numbers d)
    ∙ map_below (λ r. map (value ρ) (map (λ i. var (d * d + i) ⊗ var (r * d + slice_index by.axes i)) (numbers d)))
    (λ r. turned d by (map (entry r) (numbers d))) d
    (λ r in_r. map-map (λ i. var (d * d + i) ⊗ var (r * d + slice_index by.axes i)) (value ρ) (numbers d)
    ∙ map_below (λ i. slice_index_or ρ (d * d + i) (pos 0) *ℤ slice_index_or ρ (r * d + slice_index by.axes i) (pos 0))
    (λ i. signed (is_set by.flips i) (slice_index_or (map (entry r) (numbers d)) (slice_index by.axes i) (pos 0))) d
    (λ i in_i. let a = axis-below d is by.axes o i in_i in
    ap (λ (z : ℤ). z *ℤ slice_index_or ρ (r * d + slice_index by.axes i) (pos 0)) (value-sign d entry (is_set by.flips) i in_i)
    ∙ ap (λ (z : ℤ). sign_of (is_set by.flips i) *ℤ z) (value-entry d is entry (is_set by.flips) r (slice_index by.axes i) in_r a)
    ∙ signed-times (is_set by.flips i) (entry r (slice_index by.axes i))
    ∙ ap (signed (is_set by.flips i)) (sym (at_place (entry r) d (slice_index by.axes i) (pos 0) a))))
    ∙ sym (map-map (λ r. map (entry r) (numbers d)) (turned d by) (numbers d))
  where
    ρ : List ℤ
    ρ = values d entry (is_set by.flips)

times-not_zero : (ρ : List ℤ) (n : ℕ) (is : List ℕ) (x : Expr) → ((i : ℕ) → Contains is i → slice_index_or ρ (n + i) (pos 0) ≢ pos 0) → value ρ x ≢ pos 0
    → value ρ (times n is x) ≢ pos 0
times-not_zero ρ n [] x each ne = ne
times-not_zero ρ n (i ∷ is) x each ne =
    λ e. times-not_zero ρ n is x (λ j c. each j (Contains-tail j i is c)) ne
    (mul-eq-zero (slice_index_or ρ (n + i) (pos 0)) (value ρ (times n is x)) e (each i (Contains-head i is)))

signed-not_zero : (b : Bool) (z : ℤ) → z ≢ pos 0 → signed b z ≢ pos 0
signed-not_zero true z ne e = ne (omega (arith, ints, e))
signed-not_zero false z ne e = ne e

pub turned_rows : (d : ℕ) → IsDimension d → (by : Move) → Contains (orders d) by.axes → (entry : ℕ → ℕ → ℤ) → turn (rows_of d entry) ≢ pos 0
    → turn (map (turned d by) (rows_of d entry)) ≢ pos 0
turned_rows d is by o entry ne e =
    signed-not_zero (is_odd_order by.axes) (value ρ (times (d * d) (numbers d) (E.turn (plain_rows d))))
    (times-not_zero ρ (d * d) (numbers d) (E.turn (plain_rows d))
    (λ i c z. sign-not_zero (is_set by.flips i) (sym (value-sign d entry (is_set by.flips) i (below_contained d i c)) ∙ z))
    (λ z. ne (ap turn (sym (plain_value d is entry (is_set by.flips))) ∙ sym (value-turn ρ (plain_rows d)) ∙ z)))
    (sym (value-signed ρ (is_odd_order by.axes) (times (d * d) (numbers d) (E.turn (plain_rows d))))
    ∙ sym (ring ρ (E.turn (moved_rows d by.axes)) (E.signed (is_odd_order by.axes) (times (d * d) (numbers d) (E.turn (plain_rows d))))
    (same_turn d is by.axes o))
    ∙ value-turn ρ (moved_rows d by.axes) ∙ ap turn (moved_value d is by o entry) ∙ e)
  where
    ρ : List ℤ
    ρ = values d entry (is_set by.flips)

-- each row has d numbers
abbrev pub AllWide : ℕ → List (List ℤ) → Type 0
AllWide d rows = All (λ row. length row ≡ d) rows

pub rows_are : (d : ℕ) (rows : List (List ℤ)) → length rows ≡ d → AllWide d rows → rows ≡ rows_of d (λ r a. slice_index_or (slice_index_or rows r []) a (pos 0))
rows_are d rows l wide =
    places_of [] rows d l
    ∙ map_below (λ r. slice_index_or rows r []) (λ r. map (λ a. slice_index_or (slice_index_or rows r []) a (pos 0)) (numbers d)) d
    (λ r h. places_of (pos 0) (slice_index_or rows r []) d (wide r [] (omega arith)))

-- turned rows span as well
pub turned_spans : (d : ℕ) → IsDimension d → (by : Move) → Contains (orders d) by.axes → (rows : List (List ℤ)) → length rows ≡ d → AllWide d rows
    → turn rows ≢ pos 0 → turn (map (turned d by) rows) ≢ pos 0
turned_spans d is by o rows l wide ne e =
    let r = rows_are d rows l wide in
    turned_rows d is by o (λ r a. slice_index_or (slice_index_or rows r []) a (pos 0)) (λ z. ne (ap turn r ∙ z))
    (ap (λ (rs : List (List ℤ)). turn (map (turned d by) rs)) (sym r) ∙ e)
