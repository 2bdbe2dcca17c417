-- The last two places of a simplex exchanged: the turn of its rows towards a direction changes its sign.
use Rattle.std.specs.Prelude.{◌≡◌, ℕ, ℤ, pos, neg_ℤ, List, [], ◌∷◌, map, length}
use Rattle.std.proofs.Common.{refl, sym, ◌∙◌, arith, inl, inr}
use Rattle.std.proofs.lemmas.List.{length-map}
use Rattle.polynomials.proofs.Ring.{ring, var, neg}
use Rattle.lists.specs.Orders.{exchange_last}
use Rattle.iso_model.specs.Turns.{turn, minus, difference, side_rows}
use Rattle.iso_model.specs.Dimensions.{IsDimension}
use Rattle.small_turn.proofs.TurnExpr as E
use Rattle.lists.specs.Members.{In}
use Rattle.lists.proofs.MemberLaws.{by_two, by_three, by_four}
use Rattle.iso_model.proofs.PointLaws.{length-difference}

-- ---- lists of a known length, number by number

-- ---- two, three and four points, seen by whole numbers

two_vars : (a0 a1 b0 b1 t0 t1 : ℤ)
    → turn (minus (a0 ∷ a1 ∷ []) (b0 ∷ b1 ∷ []) ∷ (t0 ∷ t1 ∷ []) ∷ []) ≡ neg_ℤ (turn (minus (b0 ∷ b1 ∷ []) (a0 ∷ a1 ∷ []) ∷ (t0 ∷ t1 ∷ []) ∷ []))
unfolding turn
two_vars a0 a1 b0 b1 t0 t1 =
    ring (a0 ∷ a1 ∷ b0 ∷ b1 ∷ t0 ∷ t1 ∷ [])
    (E.turn (E.minus (var 0 ∷ var 1 ∷ []) (var 2 ∷ var 3 ∷ []) ∷ (var 4 ∷ var 5 ∷ []) ∷ []))
    (neg (E.turn (E.minus (var 2 ∷ var 3 ∷ []) (var 0 ∷ var 1 ∷ []) ∷ (var 4 ∷ var 5 ∷ []) ∷ [])))
    refl

two : (a b t : List ℤ) → length a ≡ 2 → length b ≡ 2 → length t ≡ 2 → turn (minus a b ∷ t ∷ []) ≡ neg_ℤ (turn (minus b a ∷ t ∷ []))
two a b t la lb lt =
    (by_two (λ a. turn (minus a b ∷ t ∷ []) ≡ neg_ℤ (turn (minus b a ∷ t ∷ []))) (λ a0 a1.
    (by_two (λ b. turn (minus (a0 ∷ a1 ∷ []) b ∷ t ∷ []) ≡ neg_ℤ (turn (minus b (a0 ∷ a1 ∷ []) ∷ t ∷ []))) (λ b0 b1.
    (by_two (λ t. turn (minus (a0 ∷ a1 ∷ []) (b0 ∷ b1 ∷ []) ∷ t ∷ []) ≡ neg_ℤ (turn (minus (b0 ∷ b1 ∷ []) (a0 ∷ a1 ∷ []) ∷ t ∷ []))) (λ t0 t1.
    two_vars a0 a1 b0 b1 t0 t1
    ) t lt)) b lb)) a la)

three_vars : (r0 r1 r2 s0 s1 s2 t0 t1 t2 : ℤ)
    → turn ((r0 ∷ r1 ∷ r2 ∷ []) ∷ (s0 ∷ s1 ∷ s2 ∷ []) ∷ (t0 ∷ t1 ∷ t2 ∷ []) ∷ [])
    ≡ neg_ℤ (turn ((s0 ∷ s1 ∷ s2 ∷ []) ∷ (r0 ∷ r1 ∷ r2 ∷ []) ∷ (t0 ∷ t1 ∷ t2 ∷ []) ∷ []))
unfolding turn
three_vars r0 r1 r2 s0 s1 s2 t0 t1 t2 =
    ring (r0 ∷ r1 ∷ r2 ∷ s0 ∷ s1 ∷ s2 ∷ t0 ∷ t1 ∷ t2 ∷ [])
    (E.turn ((var 0 ∷ var 1 ∷ var 2 ∷ []) ∷ (var 3 ∷ var 4 ∷ var 5 ∷ []) ∷ (var 6 ∷ var 7 ∷ var 8 ∷ []) ∷ []))
    (neg (E.turn ((var 3 ∷ var 4 ∷ var 5 ∷ []) ∷ (var 0 ∷ var 1 ∷ var 2 ∷ []) ∷ (var 6 ∷ var 7 ∷ var 8 ∷ []) ∷ [])))
    refl

three : (r s t : List ℤ) → length r ≡ 3 → length s ≡ 3 → length t ≡ 3 → turn (r ∷ s ∷ t ∷ []) ≡ neg_ℤ (turn (s ∷ r ∷ t ∷ []))
three r s t lr ls lt =
    (by_three (λ r. turn (r ∷ s ∷ t ∷ []) ≡ neg_ℤ (turn (s ∷ r ∷ t ∷ []))) (λ r0 r1 r2.
    (by_three (λ s. turn ((r0 ∷ r1 ∷ r2 ∷ []) ∷ s ∷ t ∷ []) ≡ neg_ℤ (turn (s ∷ (r0 ∷ r1 ∷ r2 ∷ []) ∷ t ∷ []))) (λ s0 s1 s2.
    (by_three (λ t. turn ((r0 ∷ r1 ∷ r2 ∷ []) ∷ (s0 ∷ s1 ∷ s2 ∷ []) ∷ t ∷ []) ≡ neg_ℤ (turn ((s0 ∷ s1 ∷ s2 ∷ []) ∷ (r0 ∷ r1 ∷ r2 ∷ []) ∷ t ∷ []))) (λ t0 t1 t2.
    three_vars r0 r1 r2 s0 s1 s2 t0 t1 t2
    ) t lt)) s ls)) r lr)

four_vars : (q0 q1 q2 q3 r0 r1 r2 r3 s0 s1 s2 s3 t0 t1 t2 t3 : ℤ)
    → turn ((q0 ∷ q1 ∷ q2 ∷ q3 ∷ []) ∷ (r0 ∷ r1 ∷ r2 ∷ r3 ∷ []) ∷ (s0 ∷ s1 ∷ s2 ∷ s3 ∷ []) ∷ (t0 ∷ t1 ∷ t2 ∷ t3 ∷ []) ∷ [])
    ≡ neg_ℤ (turn ((q0 ∷ q1 ∷ q2 ∷ q3 ∷ []) ∷ (s0 ∷ s1 ∷ s2 ∷ s3 ∷ []) ∷ (r0 ∷ r1 ∷ r2 ∷ r3 ∷ []) ∷ (t0 ∷ t1 ∷ t2 ∷ t3 ∷ []) ∷ []))
unfolding turn
four_vars q0 q1 q2 q3 r0 r1 r2 r3 s0 s1 s2 s3 t0 t1 t2 t3 =
    ring (q0 ∷ q1 ∷ q2 ∷ q3 ∷ r0 ∷ r1 ∷ r2 ∷ r3 ∷ s0 ∷ s1 ∷ s2 ∷ s3 ∷ t0 ∷ t1 ∷ t2 ∷ t3 ∷ [])
    (E.turn
    ((var 0 ∷ var 1 ∷ var 2 ∷ var 3 ∷ []) ∷ (var 4 ∷ var 5 ∷ var 6 ∷ var 7 ∷ []) ∷ (var 8 ∷ var 9 ∷ var 10 ∷ var 11 ∷ [])
    ∷ (var 12 ∷ var 13 ∷ var 14 ∷ var 15 ∷ []) ∷ []))
    (neg
    (E.turn
    ((var 0 ∷ var 1 ∷ var 2 ∷ var 3 ∷ []) ∷ (var 8 ∷ var 9 ∷ var 10 ∷ var 11 ∷ []) ∷ (var 4 ∷ var 5 ∷ var 6 ∷ var 7 ∷ [])
    ∷ (var 12 ∷ var 13 ∷ var 14 ∷ var 15 ∷ []) ∷ [])))
    refl

four : (q r s t : List ℤ) → length q ≡ 4 → length r ≡ 4 → length s ≡ 4 → length t ≡ 4 → turn (q ∷ r ∷ s ∷ t ∷ []) ≡ neg_ℤ (turn (q ∷ s ∷ r ∷ t ∷ []))
four q r s t lq lr ls lt =
    (by_four (λ q. turn (q ∷ r ∷ s ∷ t ∷ []) ≡ neg_ℤ (turn (q ∷ s ∷ r ∷ t ∷ []))) (λ q0 q1 q2 q3.
    (by_four (λ r. turn ((q0 ∷ q1 ∷ q2 ∷ q3 ∷ []) ∷ r ∷ s ∷ t ∷ []) ≡ neg_ℤ (turn ((q0 ∷ q1 ∷ q2 ∷ q3 ∷ []) ∷ s ∷ r ∷ t ∷ []))) (λ r0 r1 r2 r3.
    (by_four (λ s. turn ((q0 ∷ q1 ∷ q2 ∷ q3 ∷ []) ∷ (r0 ∷ r1 ∷ r2 ∷ r3 ∷ []) ∷ s ∷ t ∷ []) ≡ neg_ℤ
    (turn ((q0 ∷ q1 ∷ q2 ∷ q3 ∷ []) ∷ s ∷ (r0 ∷ r1 ∷ r2 ∷ r3 ∷ []) ∷ t ∷ []))) (λ s0 s1 s2 s3.
    (by_four (λ t. turn ((q0 ∷ q1 ∷ q2 ∷ q3 ∷ []) ∷ (r0 ∷ r1 ∷ r2 ∷ r3 ∷ []) ∷ (s0 ∷ s1 ∷ s2 ∷ s3 ∷ []) ∷ t ∷ []) ≡ neg_ℤ
    (turn ((q0 ∷ q1 ∷ q2 ∷ q3 ∷ []) ∷ (s0 ∷ s1 ∷ s2 ∷ s3 ∷ []) ∷ (r0 ∷ r1 ∷ r2 ∷ r3 ∷ []) ∷ t ∷ []))) (λ t0 t1 t2 t3.
    four_vars q0 q1 q2 q3 r0 r1 r2 r3 s0 s1 s2 s3 t0 t1 t2 t3
    ) t lt)) s ls)) r lr)) q lq)

-- ---- a simplex, its vertices at points

length-minus : (xs ys : List ℤ) → length ys ≡ length xs → length (minus xs ys) ≡ length xs
length-minus [] ys e = refl
length-minus (x ∷ xs) [] e = absurd (omega (arith, e))
length-minus (x ∷ xs) (y ∷ ys) e = omega (arith, length-minus xs ys (omega (arith, e)))

module _ (at : ℕ → List ℕ) (t : List ℤ) where
  -- what is said of a list of vertices
  abbrev pub Changes : List ℕ → Type 0
  Changes w = turn (side_rows (map at (exchange_last w)) t) ≡ neg_ℤ (turn (side_rows (map at w) t))

  row : (d a b : ℕ) → length (at a) ≡ d → length (at b) ≡ d → length (difference (at b) (at a)) ≡ d
  row d a b la lb = length-difference (at b) (at a) (la ∙ sym lb) ∙ lb

  of_two : (w : List ℕ) → length w ≡ 2 → length t ≡ 2 → ((u : ℕ) → In u w → length (at u) ≡ 2) → Changes w
  of_two [] lw lt wide = absurd (omega (arith, lw))
  of_two (a ∷ []) lw lt wide = absurd (omega (arith, lw))
  of_two (a ∷ b ∷ []) lw lt wide =
      two (map pos (at a)) (map pos (at b)) t (length-map (at a) pos ∙ wide a (inl refl)) (length-map (at b) pos ∙ wide b (inr (inl refl))) lt
  of_two (a ∷ b ∷ c ∷ w) lw lt wide = absurd (omega (arith, lw))

  of_three : (w : List ℕ) → length w ≡ 3 → length t ≡ 3 → ((u : ℕ) → In u w → length (at u) ≡ 3) → Changes w
  of_three [] lw lt wide = absurd (omega (arith, lw))
  of_three (a ∷ []) lw lt wide = absurd (omega (arith, lw))
  of_three (a ∷ b ∷ []) lw lt wide = absurd (omega (arith, lw))
  of_three (a ∷ b ∷ c ∷ []) lw lt wide =
      three (difference (at c) (at a)) (difference (at b) (at a)) t (row 3 a c (wide a (inl refl)) (wide c (inr (inr (inl refl)))))
      (row 3 a b (wide a (inl refl)) (wide b (inr (inl refl)))) lt
  of_three (a ∷ b ∷ c ∷ e ∷ w) lw lt wide = absurd (omega (arith, lw))

  of_four : (w : List ℕ) → length w ≡ 4 → length t ≡ 4 → ((u : ℕ) → In u w → length (at u) ≡ 4) → Changes w
  of_four [] lw lt wide = absurd (omega (arith, lw))
  of_four (a ∷ []) lw lt wide = absurd (omega (arith, lw))
  of_four (a ∷ b ∷ []) lw lt wide = absurd (omega (arith, lw))
  of_four (a ∷ b ∷ c ∷ []) lw lt wide = absurd (omega (arith, lw))
  of_four (a ∷ b ∷ c ∷ e ∷ []) lw lt wide =
      let la = wide a (inl refl) in
      four (difference (at b) (at a)) (difference (at e) (at a)) (difference (at c) (at a)) t (row 4 a b la (wide b (inr (inl refl))))
      (row 4 a e la (wide e (inr (inr (inr (inl refl)))))) (row 4 a c la (wide c (inr (inr (inl refl))))) lt
  of_four (a ∷ b ∷ c ∷ e ∷ g ∷ w) lw lt wide = absurd (omega (arith, lw))

-- in each dimension
pub exchange_changes : (d : ℕ) → IsDimension d → (at : ℕ → List ℕ) (t : List ℤ) (w : List ℕ) → length w ≡ d → length t ≡ d
    → ((u : ℕ) → In u w → length (at u) ≡ d) → Changes at t w
exchange_changes d (inl e) at t w lw lt wide = of_two at t w (lw ∙ e) (lt ∙ e) (λ u i. wide u i ∙ e)
exchange_changes d (inr (inl e)) at t w lw lt wide = of_three at t w (lw ∙ e) (lt ∙ e) (λ u i. wide u i ∙ e)
exchange_changes d (inr (inr e)) at t w lw lt wide = of_four at t w (lw ∙ e) (lt ∙ e) (λ u i. wide u i ∙ e)

in_exchanged_case : (x : ℕ) (xs ys : List ℕ) (k : ℕ) → (In k xs → In k ys) → In k (x ∷ xs) → In k (x ∷ ys)
in_exchanged_case x xs ys k later (inl e) = inl e
in_exchanged_case x xs ys k later (inr i) = inr (later i)

-- the members stay
pub from_exchanged : (w : List ℕ) (k : ℕ) → In k (exchange_last w) → In k w
from_exchanged [] k i = i
from_exchanged (x ∷ []) k i = i
from_exchanged (x ∷ y ∷ []) k (inl e) = inr (inl e)
from_exchanged (x ∷ y ∷ []) k (inr (inl e)) = inl e
from_exchanged (x ∷ y ∷ []) k (inr (inr i)) = absurd i
from_exchanged (x ∷ y ∷ z ∷ w) k i = in_exchanged_case x (exchange_last (y ∷ z ∷ w)) (y ∷ z ∷ w) k (from_exchanged (y ∷ z ∷ w) k) i
