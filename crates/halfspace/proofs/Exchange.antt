-- Points exchanged: the turn of the rows to a further point changes its sign. And the half-space through D points is tight at each of them.
use Rattle.std.specs.Prelude.{◌≡◌, ℤ, pos, neg_ℤ, List, [], ◌∷◌, ◌++◌, map, length}
use Rattle.std.proofs.Common.{refl}
use Rattle.polynomials.proofs.Ring.{Expr, ring, var, con, neg}
use Rattle.iso_model.specs.Turns.{turn, dot, cofactors, rows_to}
use Rattle.small_turn.proofs.TurnExpr as E
use Rattle.lists.proofs.MemberLaws.{by_two, by_three, by_four}

-- ---- lists of a known length, number by number

-- the expressions of the rows to a further point
abbrev rows_of : List (List Expr) → List Expr → List (List Expr)
rows_of [] x = []
rows_of (p ∷ ps) x = map (λ q. E.minus q p) ps ++ (E.minus x p ∷ [])

-- ---- exchange

-- the turn to z changes its sign where the one order of the points takes the place of the other
abbrev pub Exchanges : List (List ℤ) → List (List ℤ) → List ℤ → Type 0
Exchanges ps qs z = turn (rows_to ps z) ≡ neg_ℤ (turn (rows_to qs z))

exchange_two_0_vars : (a0 a1 b0 b1 z0 z1 : ℤ) → Exchanges ((a0 ∷ a1 ∷ []) ∷ (b0 ∷ b1 ∷ []) ∷ []) ((b0 ∷ b1 ∷ []) ∷ (a0 ∷ a1 ∷ []) ∷ []) (z0 ∷ z1 ∷ [])
unfolding turn
exchange_two_0_vars a0 a1 b0 b1 z0 z1 =
    ring (a0 ∷ a1 ∷ b0 ∷ b1 ∷ z0 ∷ z1 ∷ [])
    (E.turn (rows_of ((var 0 ∷ var 1 ∷ []) ∷ (var 2 ∷ var 3 ∷ []) ∷ []) (var 4 ∷ var 5 ∷ [])))
    (neg (E.turn (rows_of ((var 2 ∷ var 3 ∷ []) ∷ (var 0 ∷ var 1 ∷ []) ∷ []) (var 4 ∷ var 5 ∷ []))))
    refl

pub exchange_two_0 : (a b z : List ℤ) → length a ≡ 2 → length b ≡ 2 → length z ≡ 2 → Exchanges (a ∷ b ∷ []) (b ∷ a ∷ []) z
exchange_two_0 a b z la lb lz =
    (by_two (λ a. Exchanges (a ∷ b ∷ []) (b ∷ a ∷ []) z) (λ a0 a1.
    (by_two (λ b. Exchanges ((a0 ∷ a1 ∷ []) ∷ b ∷ []) (b ∷ (a0 ∷ a1 ∷ []) ∷ []) z) (λ b0 b1.
    (by_two (λ z. Exchanges ((a0 ∷ a1 ∷ []) ∷ (b0 ∷ b1 ∷ []) ∷ []) ((b0 ∷ b1 ∷ []) ∷ (a0 ∷ a1 ∷ []) ∷ []) z) (λ z0 z1.
    exchange_two_0_vars a0 a1 b0 b1 z0 z1
    ) z lz)) b lb)) a la)

exchange_three_0_vars : (a0 a1 a2 b0 b1 b2 c0 c1 c2 z0 z1 z2 : ℤ)
    → Exchanges ((a0 ∷ a1 ∷ a2 ∷ []) ∷ (b0 ∷ b1 ∷ b2 ∷ []) ∷ (c0 ∷ c1 ∷ c2 ∷ []) ∷ [])
    ((b0 ∷ b1 ∷ b2 ∷ []) ∷ (a0 ∷ a1 ∷ a2 ∷ []) ∷ (c0 ∷ c1 ∷ c2 ∷ []) ∷ []) (z0 ∷ z1 ∷ z2 ∷ [])
unfolding turn
exchange_three_0_vars a0 a1 a2 b0 b1 b2 c0 c1 c2 z0 z1 z2 =
    ring (a0 ∷ a1 ∷ a2 ∷ b0 ∷ b1 ∷ b2 ∷ c0 ∷ c1 ∷ c2 ∷ z0 ∷ z1 ∷ z2 ∷ [])
    (E.turn (rows_of ((var 0 ∷ var 1 ∷ var 2 ∷ []) ∷ (var 3 ∷ var 4 ∷ var 5 ∷ []) ∷ (var 6 ∷ var 7 ∷ var 8 ∷ []) ∷ []) (var 9 ∷ var 10 ∷ var 11 ∷ [])))
    (neg (E.turn (rows_of ((var 3 ∷ var 4 ∷ var 5 ∷ []) ∷ (var 0 ∷ var 1 ∷ var 2 ∷ []) ∷ (var 6 ∷ var 7 ∷ var 8 ∷ []) ∷ []) (var 9 ∷ var 10 ∷ var 11 ∷ []))))
    refl

pub exchange_three_0 : (a b c z : List ℤ) → length a ≡ 3 → length b ≡ 3 → length c ≡ 3 → length z ≡ 3 → Exchanges (a ∷ b ∷ c ∷ []) (b ∷ a ∷ c ∷ []) z
exchange_three_0 a b c z la lb lc lz =
    (by_three (λ a. Exchanges (a ∷ b ∷ c ∷ []) (b ∷ a ∷ c ∷ []) z) (λ a0 a1 a2.
    (by_three (λ b. Exchanges ((a0 ∷ a1 ∷ a2 ∷ []) ∷ b ∷ c ∷ []) (b ∷ (a0 ∷ a1 ∷ a2 ∷ []) ∷ c ∷ []) z) (λ b0 b1 b2.
    (by_three (λ c. Exchanges ((a0 ∷ a1 ∷ a2 ∷ []) ∷ (b0 ∷ b1 ∷ b2 ∷ []) ∷ c ∷ []) ((b0 ∷ b1 ∷ b2 ∷ []) ∷ (a0 ∷ a1 ∷ a2 ∷ []) ∷ c ∷ []) z) (λ c0 c1 c2.
    (by_three (λ z. Exchanges ((a0 ∷ a1 ∷ a2 ∷ []) ∷ (b0 ∷ b1 ∷ b2 ∷ []) ∷ (c0 ∷ c1 ∷ c2 ∷ []) ∷ [])
    ((b0 ∷ b1 ∷ b2 ∷ []) ∷ (a0 ∷ a1 ∷ a2 ∷ []) ∷ (c0 ∷ c1 ∷ c2 ∷ []) ∷ []) z) (λ z0 z1 z2.
    exchange_three_0_vars a0 a1 a2 b0 b1 b2 c0 c1 c2 z0 z1 z2
    ) z lz)) c lc)) b lb)) a la)

exchange_three_1_vars : (a0 a1 a2 b0 b1 b2 c0 c1 c2 z0 z1 z2 : ℤ)
    → Exchanges ((a0 ∷ a1 ∷ a2 ∷ []) ∷ (b0 ∷ b1 ∷ b2 ∷ []) ∷ (c0 ∷ c1 ∷ c2 ∷ []) ∷ [])
    ((a0 ∷ a1 ∷ a2 ∷ []) ∷ (c0 ∷ c1 ∷ c2 ∷ []) ∷ (b0 ∷ b1 ∷ b2 ∷ []) ∷ []) (z0 ∷ z1 ∷ z2 ∷ [])
unfolding turn
exchange_three_1_vars a0 a1 a2 b0 b1 b2 c0 c1 c2 z0 z1 z2 =
    ring (a0 ∷ a1 ∷ a2 ∷ b0 ∷ b1 ∷ b2 ∷ c0 ∷ c1 ∷ c2 ∷ z0 ∷ z1 ∷ z2 ∷ [])
    (E.turn (rows_of ((var 0 ∷ var 1 ∷ var 2 ∷ []) ∷ (var 3 ∷ var 4 ∷ var 5 ∷ []) ∷ (var 6 ∷ var 7 ∷ var 8 ∷ []) ∷ []) (var 9 ∷ var 10 ∷ var 11 ∷ [])))
    (neg (E.turn (rows_of ((var 0 ∷ var 1 ∷ var 2 ∷ []) ∷ (var 6 ∷ var 7 ∷ var 8 ∷ []) ∷ (var 3 ∷ var 4 ∷ var 5 ∷ []) ∷ []) (var 9 ∷ var 10 ∷ var 11 ∷ []))))
    refl

pub exchange_three_1 : (a b c z : List ℤ) → length a ≡ 3 → length b ≡ 3 → length c ≡ 3 → length z ≡ 3 → Exchanges (a ∷ b ∷ c ∷ []) (a ∷ c ∷ b ∷ []) z
exchange_three_1 a b c z la lb lc lz =
    (by_three (λ a. Exchanges (a ∷ b ∷ c ∷ []) (a ∷ c ∷ b ∷ []) z) (λ a0 a1 a2.
    (by_three (λ b. Exchanges ((a0 ∷ a1 ∷ a2 ∷ []) ∷ b ∷ c ∷ []) ((a0 ∷ a1 ∷ a2 ∷ []) ∷ c ∷ b ∷ []) z) (λ b0 b1 b2.
    (by_three (λ c. Exchanges ((a0 ∷ a1 ∷ a2 ∷ []) ∷ (b0 ∷ b1 ∷ b2 ∷ []) ∷ c ∷ []) ((a0 ∷ a1 ∷ a2 ∷ []) ∷ c ∷ (b0 ∷ b1 ∷ b2 ∷ []) ∷ []) z) (λ c0 c1 c2.
    (by_three (λ z. Exchanges ((a0 ∷ a1 ∷ a2 ∷ []) ∷ (b0 ∷ b1 ∷ b2 ∷ []) ∷ (c0 ∷ c1 ∷ c2 ∷ []) ∷ [])
    ((a0 ∷ a1 ∷ a2 ∷ []) ∷ (c0 ∷ c1 ∷ c2 ∷ []) ∷ (b0 ∷ b1 ∷ b2 ∷ []) ∷ []) z) (λ z0 z1 z2.
    exchange_three_1_vars a0 a1 a2 b0 b1 b2 c0 c1 c2 z0 z1 z2
    ) z lz)) c lc)) b lb)) a la)

exchange_four_0_vars : (a0 a1 a2 a3 b0 b1 b2 b3 c0 c1 c2 c3 e0 e1 e2 e3 z0 z1 z2 z3 : ℤ)
    → Exchanges ((a0 ∷ a1 ∷ a2 ∷ a3 ∷ []) ∷ (b0 ∷ b1 ∷ b2 ∷ b3 ∷ []) ∷ (c0 ∷ c1 ∷ c2 ∷ c3 ∷ []) ∷ (e0 ∷ e1 ∷ e2 ∷ e3 ∷ []) ∷ [])
    ((b0 ∷ b1 ∷ b2 ∷ b3 ∷ []) ∷ (a0 ∷ a1 ∷ a2 ∷ a3 ∷ []) ∷ (c0 ∷ c1 ∷ c2 ∷ c3 ∷ []) ∷ (e0 ∷ e1 ∷ e2 ∷ e3 ∷ []) ∷ []) (z0 ∷ z1 ∷ z2 ∷ z3 ∷ [])
unfolding turn
exchange_four_0_vars a0 a1 a2 a3 b0 b1 b2 b3 c0 c1 c2 c3 e0 e1 e2 e3 z0 z1 z2 z3 =
    ring (a0 ∷ a1 ∷ a2 ∷ a3 ∷ b0 ∷ b1 ∷ b2 ∷ b3 ∷ c0 ∷ c1 ∷ c2 ∷ c3 ∷ e0 ∷ e1 ∷ e2 ∷ e3 ∷ z0 ∷ z1 ∷ z2 ∷ z3 ∷ [])
    (E.turn
    (rows_of
    ((var 0 ∷ var 1 ∷ var 2 ∷ var 3 ∷ []) ∷ (var 4 ∷ var 5 ∷ var 6 ∷ var 7 ∷ []) ∷ (var 8 ∷ var 9 ∷ var 10 ∷ var 11 ∷ [])
    ∷ (var 12 ∷ var 13 ∷ var 14 ∷ var 15 ∷ []) ∷ [])
    (var 16 ∷ var 17 ∷ var 18 ∷ var 19 ∷ [])))
    (neg
    (E.turn
    (rows_of
    ((var 4 ∷ var 5 ∷ var 6 ∷ var 7 ∷ []) ∷ (var 0 ∷ var 1 ∷ var 2 ∷ var 3 ∷ []) ∷ (var 8 ∷ var 9 ∷ var 10 ∷ var 11 ∷ [])
    ∷ (var 12 ∷ var 13 ∷ var 14 ∷ var 15 ∷ []) ∷ [])
    (var 16 ∷ var 17 ∷ var 18 ∷ var 19 ∷ []))))
    refl

pub exchange_four_0 : (a b c e z : List ℤ) → length a ≡ 4 → length b ≡ 4 → length c ≡ 4 → length e ≡ 4 → length z ≡ 4
    → Exchanges (a ∷ b ∷ c ∷ e ∷ []) (b ∷ a ∷ c ∷ e ∷ []) z
exchange_four_0 a b c e z la lb lc le lz =
    (by_four (λ a. Exchanges (a ∷ b ∷ c ∷ e ∷ []) (b ∷ a ∷ c ∷ e ∷ []) z) (λ a0 a1 a2 a3.
    (by_four (λ b. Exchanges ((a0 ∷ a1 ∷ a2 ∷ a3 ∷ []) ∷ b ∷ c ∷ e ∷ []) (b ∷ (a0 ∷ a1 ∷ a2 ∷ a3 ∷ []) ∷ c ∷ e ∷ []) z) (λ b0 b1 b2 b3.
    (by_four (λ c. Exchanges ((a0 ∷ a1 ∷ a2 ∷ a3 ∷ []) ∷ (b0 ∷ b1 ∷ b2 ∷ b3 ∷ []) ∷ c ∷ e ∷ [])
    ((b0 ∷ b1 ∷ b2 ∷ b3 ∷ []) ∷ (a0 ∷ a1 ∷ a2 ∷ a3 ∷ []) ∷ c ∷ e ∷ []) z) (λ c0 c1 c2 c3.
    (by_four (λ e. Exchanges ((a0 ∷ a1 ∷ a2 ∷ a3 ∷ []) ∷ (b0 ∷ b1 ∷ b2 ∷ b3 ∷ []) ∷ (c0 ∷ c1 ∷ c2 ∷ c3 ∷ []) ∷ e ∷ [])
    ((b0 ∷ b1 ∷ b2 ∷ b3 ∷ []) ∷ (a0 ∷ a1 ∷ a2 ∷ a3 ∷ []) ∷ (c0 ∷ c1 ∷ c2 ∷ c3 ∷ []) ∷ e ∷ []) z) (λ e0 e1 e2 e3.
    (by_four (λ z. Exchanges ((a0 ∷ a1 ∷ a2 ∷ a3 ∷ []) ∷ (b0 ∷ b1 ∷ b2 ∷ b3 ∷ []) ∷ (c0 ∷ c1 ∷ c2 ∷ c3 ∷ []) ∷ (e0 ∷ e1 ∷ e2 ∷ e3 ∷ []) ∷ [])
    ((b0 ∷ b1 ∷ b2 ∷ b3 ∷ []) ∷ (a0 ∷ a1 ∷ a2 ∷ a3 ∷ []) ∷ (c0 ∷ c1 ∷ c2 ∷ c3 ∷ []) ∷ (e0 ∷ e1 ∷ e2 ∷ e3 ∷ []) ∷ []) z) (λ z0 z1 z2 z3.
    exchange_four_0_vars a0 a1 a2 a3 b0 b1 b2 b3 c0 c1 c2 c3 e0 e1 e2 e3 z0 z1 z2 z3
    ) z lz)) e le)) c lc)) b lb)) a la)

exchange_four_1_vars : (a0 a1 a2 a3 b0 b1 b2 b3 c0 c1 c2 c3 e0 e1 e2 e3 z0 z1 z2 z3 : ℤ)
    → Exchanges ((a0 ∷ a1 ∷ a2 ∷ a3 ∷ []) ∷ (b0 ∷ b1 ∷ b2 ∷ b3 ∷ []) ∷ (c0 ∷ c1 ∷ c2 ∷ c3 ∷ []) ∷ (e0 ∷ e1 ∷ e2 ∷ e3 ∷ []) ∷ [])
    ((a0 ∷ a1 ∷ a2 ∷ a3 ∷ []) ∷ (c0 ∷ c1 ∷ c2 ∷ c3 ∷ []) ∷ (b0 ∷ b1 ∷ b2 ∷ b3 ∷ []) ∷ (e0 ∷ e1 ∷ e2 ∷ e3 ∷ []) ∷ []) (z0 ∷ z1 ∷ z2 ∷ z3 ∷ [])
unfolding turn
exchange_four_1_vars a0 a1 a2 a3 b0 b1 b2 b3 c0 c1 c2 c3 e0 e1 e2 e3 z0 z1 z2 z3 =
    ring (a0 ∷ a1 ∷ a2 ∷ a3 ∷ b0 ∷ b1 ∷ b2 ∷ b3 ∷ c0 ∷ c1 ∷ c2 ∷ c3 ∷ e0 ∷ e1 ∷ e2 ∷ e3 ∷ z0 ∷ z1 ∷ z2 ∷ z3 ∷ [])
    (E.turn
    (rows_of
    ((var 0 ∷ var 1 ∷ var 2 ∷ var 3 ∷ []) ∷ (var 4 ∷ var 5 ∷ var 6 ∷ var 7 ∷ []) ∷ (var 8 ∷ var 9 ∷ var 10 ∷ var 11 ∷ [])
    ∷ (var 12 ∷ var 13 ∷ var 14 ∷ var 15 ∷ []) ∷ [])
    (var 16 ∷ var 17 ∷ var 18 ∷ var 19 ∷ [])))
    (neg
    (E.turn
    (rows_of
    ((var 0 ∷ var 1 ∷ var 2 ∷ var 3 ∷ []) ∷ (var 8 ∷ var 9 ∷ var 10 ∷ var 11 ∷ []) ∷ (var 4 ∷ var 5 ∷ var 6 ∷ var 7 ∷ [])
    ∷ (var 12 ∷ var 13 ∷ var 14 ∷ var 15 ∷ []) ∷ [])
    (var 16 ∷ var 17 ∷ var 18 ∷ var 19 ∷ []))))
    refl

pub exchange_four_1 : (a b c e z : List ℤ) → length a ≡ 4 → length b ≡ 4 → length c ≡ 4 → length e ≡ 4 → length z ≡ 4
    → Exchanges (a ∷ b ∷ c ∷ e ∷ []) (a ∷ c ∷ b ∷ e ∷ []) z
exchange_four_1 a b c e z la lb lc le lz =
    (by_four (λ a. Exchanges (a ∷ b ∷ c ∷ e ∷ []) (a ∷ c ∷ b ∷ e ∷ []) z) (λ a0 a1 a2 a3.
    (by_four (λ b. Exchanges ((a0 ∷ a1 ∷ a2 ∷ a3 ∷ []) ∷ b ∷ c ∷ e ∷ []) ((a0 ∷ a1 ∷ a2 ∷ a3 ∷ []) ∷ c ∷ b ∷ e ∷ []) z) (λ b0 b1 b2 b3.
    (by_four (λ c. Exchanges ((a0 ∷ a1 ∷ a2 ∷ a3 ∷ []) ∷ (b0 ∷ b1 ∷ b2 ∷ b3 ∷ []) ∷ c ∷ e ∷ [])
    ((a0 ∷ a1 ∷ a2 ∷ a3 ∷ []) ∷ c ∷ (b0 ∷ b1 ∷ b2 ∷ b3 ∷ []) ∷ e ∷ []) z) (λ c0 c1 c2 c3.
    (by_four (λ e. Exchanges ((a0 ∷ a1 ∷ a2 ∷ a3 ∷ []) ∷ (b0 ∷ b1 ∷ b2 ∷ b3 ∷ []) ∷ (c0 ∷ c1 ∷ c2 ∷ c3 ∷ []) ∷ e ∷ [])
    ((a0 ∷ a1 ∷ a2 ∷ a3 ∷ []) ∷ (c0 ∷ c1 ∷ c2 ∷ c3 ∷ []) ∷ (b0 ∷ b1 ∷ b2 ∷ b3 ∷ []) ∷ e ∷ []) z) (λ e0 e1 e2 e3.
    (by_four (λ z. Exchanges ((a0 ∷ a1 ∷ a2 ∷ a3 ∷ []) ∷ (b0 ∷ b1 ∷ b2 ∷ b3 ∷ []) ∷ (c0 ∷ c1 ∷ c2 ∷ c3 ∷ []) ∷ (e0 ∷ e1 ∷ e2 ∷ e3 ∷ []) ∷ [])
    ((a0 ∷ a1 ∷ a2 ∷ a3 ∷ []) ∷ (c0 ∷ c1 ∷ c2 ∷ c3 ∷ []) ∷ (b0 ∷ b1 ∷ b2 ∷ b3 ∷ []) ∷ (e0 ∷ e1 ∷ e2 ∷ e3 ∷ []) ∷ []) z) (λ z0 z1 z2 z3.
    exchange_four_1_vars a0 a1 a2 a3 b0 b1 b2 b3 c0 c1 c2 c3 e0 e1 e2 e3 z0 z1 z2 z3
    ) z lz)) e le)) c lc)) b lb)) a la)

exchange_four_2_vars : (a0 a1 a2 a3 b0 b1 b2 b3 c0 c1 c2 c3 e0 e1 e2 e3 z0 z1 z2 z3 : ℤ)
    → Exchanges ((a0 ∷ a1 ∷ a2 ∷ a3 ∷ []) ∷ (b0 ∷ b1 ∷ b2 ∷ b3 ∷ []) ∷ (c0 ∷ c1 ∷ c2 ∷ c3 ∷ []) ∷ (e0 ∷ e1 ∷ e2 ∷ e3 ∷ []) ∷ [])
    ((a0 ∷ a1 ∷ a2 ∷ a3 ∷ []) ∷ (b0 ∷ b1 ∷ b2 ∷ b3 ∷ []) ∷ (e0 ∷ e1 ∷ e2 ∷ e3 ∷ []) ∷ (c0 ∷ c1 ∷ c2 ∷ c3 ∷ []) ∷ []) (z0 ∷ z1 ∷ z2 ∷ z3 ∷ [])
unfolding turn
exchange_four_2_vars a0 a1 a2 a3 b0 b1 b2 b3 c0 c1 c2 c3 e0 e1 e2 e3 z0 z1 z2 z3 =
    ring (a0 ∷ a1 ∷ a2 ∷ a3 ∷ b0 ∷ b1 ∷ b2 ∷ b3 ∷ c0 ∷ c1 ∷ c2 ∷ c3 ∷ e0 ∷ e1 ∷ e2 ∷ e3 ∷ z0 ∷ z1 ∷ z2 ∷ z3 ∷ [])
    (E.turn
    (rows_of
    ((var 0 ∷ var 1 ∷ var 2 ∷ var 3 ∷ []) ∷ (var 4 ∷ var 5 ∷ var 6 ∷ var 7 ∷ []) ∷ (var 8 ∷ var 9 ∷ var 10 ∷ var 11 ∷ [])
    ∷ (var 12 ∷ var 13 ∷ var 14 ∷ var 15 ∷ []) ∷ [])
    (var 16 ∷ var 17 ∷ var 18 ∷ var 19 ∷ [])))
    (neg
    (E.turn
    (rows_of
    ((var 0 ∷ var 1 ∷ var 2 ∷ var 3 ∷ []) ∷ (var 4 ∷ var 5 ∷ var 6 ∷ var 7 ∷ []) ∷ (var 12 ∷ var 13 ∷ var 14 ∷ var 15 ∷ [])
    ∷ (var 8 ∷ var 9 ∷ var 10 ∷ var 11 ∷ []) ∷ [])
    (var 16 ∷ var 17 ∷ var 18 ∷ var 19 ∷ []))))
    refl

pub exchange_four_2 : (a b c e z : List ℤ) → length a ≡ 4 → length b ≡ 4 → length c ≡ 4 → length e ≡ 4 → length z ≡ 4
    → Exchanges (a ∷ b ∷ c ∷ e ∷ []) (a ∷ b ∷ e ∷ c ∷ []) z
exchange_four_2 a b c e z la lb lc le lz =
    (by_four (λ a. Exchanges (a ∷ b ∷ c ∷ e ∷ []) (a ∷ b ∷ e ∷ c ∷ []) z) (λ a0 a1 a2 a3.
    (by_four (λ b. Exchanges ((a0 ∷ a1 ∷ a2 ∷ a3 ∷ []) ∷ b ∷ c ∷ e ∷ []) ((a0 ∷ a1 ∷ a2 ∷ a3 ∷ []) ∷ b ∷ e ∷ c ∷ []) z) (λ b0 b1 b2 b3.
    (by_four (λ c. Exchanges ((a0 ∷ a1 ∷ a2 ∷ a3 ∷ []) ∷ (b0 ∷ b1 ∷ b2 ∷ b3 ∷ []) ∷ c ∷ e ∷ [])
    ((a0 ∷ a1 ∷ a2 ∷ a3 ∷ []) ∷ (b0 ∷ b1 ∷ b2 ∷ b3 ∷ []) ∷ e ∷ c ∷ []) z) (λ c0 c1 c2 c3.
    (by_four (λ e. Exchanges ((a0 ∷ a1 ∷ a2 ∷ a3 ∷ []) ∷ (b0 ∷ b1 ∷ b2 ∷ b3 ∷ []) ∷ (c0 ∷ c1 ∷ c2 ∷ c3 ∷ []) ∷ e ∷ [])
    ((a0 ∷ a1 ∷ a2 ∷ a3 ∷ []) ∷ (b0 ∷ b1 ∷ b2 ∷ b3 ∷ []) ∷ e ∷ (c0 ∷ c1 ∷ c2 ∷ c3 ∷ []) ∷ []) z) (λ e0 e1 e2 e3.
    (by_four (λ z. Exchanges ((a0 ∷ a1 ∷ a2 ∷ a3 ∷ []) ∷ (b0 ∷ b1 ∷ b2 ∷ b3 ∷ []) ∷ (c0 ∷ c1 ∷ c2 ∷ c3 ∷ []) ∷ (e0 ∷ e1 ∷ e2 ∷ e3 ∷ []) ∷ [])
    ((a0 ∷ a1 ∷ a2 ∷ a3 ∷ []) ∷ (b0 ∷ b1 ∷ b2 ∷ b3 ∷ []) ∷ (e0 ∷ e1 ∷ e2 ∷ e3 ∷ []) ∷ (c0 ∷ c1 ∷ c2 ∷ c3 ∷ []) ∷ []) z) (λ z0 z1 z2 z3.
    exchange_four_2_vars a0 a1 a2 a3 b0 b1 b2 b3 c0 c1 c2 c3 e0 e1 e2 e3 z0 z1 z2 z3
    ) z lz)) e le)) c lc)) b lb)) a la)

-- ---- the cofactors of rows are upright to each of them

upright_two_0_vars : (a0 a1 : ℤ) → dot (cofactors ((a0 ∷ a1 ∷ []) ∷ [])) (a0 ∷ a1 ∷ []) ≡ pos 0
unfolding turn cofactors dot
upright_two_0_vars a0 a1 =
    ring (a0 ∷ a1 ∷ [])
    (E.dot (E.cofactors ((var 0 ∷ var 1 ∷ []) ∷ [])) (var 0 ∷ var 1 ∷ [])) (con (pos 0)) refl

pub upright_two_0 : (a : List ℤ) → length a ≡ 2 → dot (cofactors (a ∷ [])) a ≡ pos 0
upright_two_0 a la =
    (by_two (λ a. dot (cofactors (a ∷ [])) a ≡ pos 0) (λ a0 a1.
    upright_two_0_vars a0 a1
    ) a la)

upright_three_0_vars : (a0 a1 a2 b0 b1 b2 : ℤ) → dot (cofactors ((a0 ∷ a1 ∷ a2 ∷ []) ∷ (b0 ∷ b1 ∷ b2 ∷ []) ∷ [])) (a0 ∷ a1 ∷ a2 ∷ []) ≡ pos 0
unfolding turn cofactors dot
upright_three_0_vars a0 a1 a2 b0 b1 b2 =
    ring (a0 ∷ a1 ∷ a2 ∷ b0 ∷ b1 ∷ b2 ∷ [])
    (E.dot (E.cofactors ((var 0 ∷ var 1 ∷ var 2 ∷ []) ∷ (var 3 ∷ var 4 ∷ var 5 ∷ []) ∷ [])) (var 0 ∷ var 1 ∷ var 2 ∷ [])) (con (pos 0)) refl

pub upright_three_0 : (a b : List ℤ) → length a ≡ 3 → length b ≡ 3 → dot (cofactors (a ∷ b ∷ [])) a ≡ pos 0
upright_three_0 a b la lb =
    (by_three (λ a. dot (cofactors (a ∷ b ∷ [])) a ≡ pos 0) (λ a0 a1 a2.
    (by_three (λ b. dot (cofactors ((a0 ∷ a1 ∷ a2 ∷ []) ∷ b ∷ [])) (a0 ∷ a1 ∷ a2 ∷ []) ≡ pos 0) (λ b0 b1 b2.
    upright_three_0_vars a0 a1 a2 b0 b1 b2
    ) b lb)) a la)

upright_three_1_vars : (a0 a1 a2 b0 b1 b2 : ℤ) → dot (cofactors ((a0 ∷ a1 ∷ a2 ∷ []) ∷ (b0 ∷ b1 ∷ b2 ∷ []) ∷ [])) (b0 ∷ b1 ∷ b2 ∷ []) ≡ pos 0
unfolding turn cofactors dot
upright_three_1_vars a0 a1 a2 b0 b1 b2 =
    ring (a0 ∷ a1 ∷ a2 ∷ b0 ∷ b1 ∷ b2 ∷ [])
    (E.dot (E.cofactors ((var 0 ∷ var 1 ∷ var 2 ∷ []) ∷ (var 3 ∷ var 4 ∷ var 5 ∷ []) ∷ [])) (var 3 ∷ var 4 ∷ var 5 ∷ [])) (con (pos 0)) refl

pub upright_three_1 : (a b : List ℤ) → length a ≡ 3 → length b ≡ 3 → dot (cofactors (a ∷ b ∷ [])) b ≡ pos 0
upright_three_1 a b la lb =
    (by_three (λ a. dot (cofactors (a ∷ b ∷ [])) b ≡ pos 0) (λ a0 a1 a2.
    (by_three (λ b. dot (cofactors ((a0 ∷ a1 ∷ a2 ∷ []) ∷ b ∷ [])) b ≡ pos 0) (λ b0 b1 b2.
    upright_three_1_vars a0 a1 a2 b0 b1 b2
    ) b lb)) a la)

upright_four_0_vars : (a0 a1 a2 a3 b0 b1 b2 b3 c0 c1 c2 c3 : ℤ)
    → dot (cofactors ((a0 ∷ a1 ∷ a2 ∷ a3 ∷ []) ∷ (b0 ∷ b1 ∷ b2 ∷ b3 ∷ []) ∷ (c0 ∷ c1 ∷ c2 ∷ c3 ∷ []) ∷ [])) (a0 ∷ a1 ∷ a2 ∷ a3 ∷ []) ≡ pos 0
unfolding turn cofactors dot
upright_four_0_vars a0 a1 a2 a3 b0 b1 b2 b3 c0 c1 c2 c3 =
    ring (a0 ∷ a1 ∷ a2 ∷ a3 ∷ b0 ∷ b1 ∷ b2 ∷ b3 ∷ c0 ∷ c1 ∷ c2 ∷ c3 ∷ [])
    (E.dot (E.cofactors ((var 0 ∷ var 1 ∷ var 2 ∷ var 3 ∷ []) ∷ (var 4 ∷ var 5 ∷ var 6 ∷ var 7 ∷ []) ∷ (var 8 ∷ var 9 ∷ var 10 ∷ var 11 ∷ []) ∷ []))
    (var 0 ∷ var 1 ∷ var 2 ∷ var 3 ∷ []))
    (con (pos 0)) refl

pub upright_four_0 : (a b c : List ℤ) → length a ≡ 4 → length b ≡ 4 → length c ≡ 4 → dot (cofactors (a ∷ b ∷ c ∷ [])) a ≡ pos 0
upright_four_0 a b c la lb lc =
    (by_four (λ a. dot (cofactors (a ∷ b ∷ c ∷ [])) a ≡ pos 0) (λ a0 a1 a2 a3.
    (by_four (λ b. dot (cofactors ((a0 ∷ a1 ∷ a2 ∷ a3 ∷ []) ∷ b ∷ c ∷ [])) (a0 ∷ a1 ∷ a2 ∷ a3 ∷ []) ≡ pos 0) (λ b0 b1 b2 b3.
    (by_four (λ c. dot (cofactors ((a0 ∷ a1 ∷ a2 ∷ a3 ∷ []) ∷ (b0 ∷ b1 ∷ b2 ∷ b3 ∷ []) ∷ c ∷ [])) (a0 ∷ a1 ∷ a2 ∷ a3 ∷ []) ≡ pos 0) (λ c0 c1 c2 c3.
    upright_four_0_vars a0 a1 a2 a3 b0 b1 b2 b3 c0 c1 c2 c3
    ) c lc)) b lb)) a la)

upright_four_1_vars : (a0 a1 a2 a3 b0 b1 b2 b3 c0 c1 c2 c3 : ℤ)
    → dot (cofactors ((a0 ∷ a1 ∷ a2 ∷ a3 ∷ []) ∷ (b0 ∷ b1 ∷ b2 ∷ b3 ∷ []) ∷ (c0 ∷ c1 ∷ c2 ∷ c3 ∷ []) ∷ [])) (b0 ∷ b1 ∷ b2 ∷ b3 ∷ []) ≡ pos 0
unfolding turn cofactors dot
upright_four_1_vars a0 a1 a2 a3 b0 b1 b2 b3 c0 c1 c2 c3 =
    ring (a0 ∷ a1 ∷ a2 ∷ a3 ∷ b0 ∷ b1 ∷ b2 ∷ b3 ∷ c0 ∷ c1 ∷ c2 ∷ c3 ∷ [])
    (E.dot (E.cofactors ((var 0 ∷ var 1 ∷ var 2 ∷ var 3 ∷ []) ∷ (var 4 ∷ var 5 ∷ var 6 ∷ var 7 ∷ []) ∷ (var 8 ∷ var 9 ∷ var 10 ∷ var 11 ∷ []) ∷ []))
    (var 4 ∷ var 5 ∷ var 6 ∷ var 7 ∷ []))
    (con (pos 0)) refl

pub upright_four_1 : (a b c : List ℤ) → length a ≡ 4 → length b ≡ 4 → length c ≡ 4 → dot (cofactors (a ∷ b ∷ c ∷ [])) b ≡ pos 0
upright_four_1 a b c la lb lc =
    (by_four (λ a. dot (cofactors (a ∷ b ∷ c ∷ [])) b ≡ pos 0) (λ a0 a1 a2 a3.
    (by_four (λ b. dot (cofactors ((a0 ∷ a1 ∷ a2 ∷ a3 ∷ []) ∷ b ∷ c ∷ [])) b ≡ pos 0) (λ b0 b1 b2 b3.
    (by_four (λ c. dot (cofactors ((a0 ∷ a1 ∷ a2 ∷ a3 ∷ []) ∷ (b0 ∷ b1 ∷ b2 ∷ b3 ∷ []) ∷ c ∷ [])) (b0 ∷ b1 ∷ b2 ∷ b3 ∷ []) ≡ pos 0) (λ c0 c1 c2 c3.
    upright_four_1_vars a0 a1 a2 a3 b0 b1 b2 b3 c0 c1 c2 c3
    ) c lc)) b lb)) a la)

upright_four_2_vars : (a0 a1 a2 a3 b0 b1 b2 b3 c0 c1 c2 c3 : ℤ)
    → dot (cofactors ((a0 ∷ a1 ∷ a2 ∷ a3 ∷ []) ∷ (b0 ∷ b1 ∷ b2 ∷ b3 ∷ []) ∷ (c0 ∷ c1 ∷ c2 ∷ c3 ∷ []) ∷ [])) (c0 ∷ c1 ∷ c2 ∷ c3 ∷ []) ≡ pos 0
unfolding turn cofactors dot
upright_four_2_vars a0 a1 a2 a3 b0 b1 b2 b3 c0 c1 c2 c3 =
    ring (a0 ∷ a1 ∷ a2 ∷ a3 ∷ b0 ∷ b1 ∷ b2 ∷ b3 ∷ c0 ∷ c1 ∷ c2 ∷ c3 ∷ [])
    (E.dot (E.cofactors ((var 0 ∷ var 1 ∷ var 2 ∷ var 3 ∷ []) ∷ (var 4 ∷ var 5 ∷ var 6 ∷ var 7 ∷ []) ∷ (var 8 ∷ var 9 ∷ var 10 ∷ var 11 ∷ []) ∷ []))
    (var 8 ∷ var 9 ∷ var 10 ∷ var 11 ∷ []))
    (con (pos 0)) refl

pub upright_four_2 : (a b c : List ℤ) → length a ≡ 4 → length b ≡ 4 → length c ≡ 4 → dot (cofactors (a ∷ b ∷ c ∷ [])) c ≡ pos 0
upright_four_2 a b c la lb lc =
    (by_four (λ a. dot (cofactors (a ∷ b ∷ c ∷ [])) c ≡ pos 0) (λ a0 a1 a2 a3.
    (by_four (λ b. dot (cofactors ((a0 ∷ a1 ∷ a2 ∷ a3 ∷ []) ∷ b ∷ c ∷ [])) c ≡ pos 0) (λ b0 b1 b2 b3.
    (by_four (λ c. dot (cofactors ((a0 ∷ a1 ∷ a2 ∷ a3 ∷ []) ∷ (b0 ∷ b1 ∷ b2 ∷ b3 ∷ []) ∷ c ∷ [])) c ≡ pos 0) (λ c0 c1 c2 c3.
    upright_four_2_vars a0 a1 a2 a3 b0 b1 b2 b3 c0 c1 c2 c3
    ) c lc)) b lb)) a la)
