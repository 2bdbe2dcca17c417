use Rattle.std.specs.Prelude.{◌≡◌, ℤ, pos, List, [], ◌∷◌, true}
use Rattle.std.proofs.Common.{refl, neg_ℤ, ◌-ℤ◌, ◌*ℤ◌, length, get_or, arith, sym, subst, ◌∙◌, ap}
use Rattle.polynomials.proofs.Ring.{neg, ring, var, ◌⊖◌, ◌⊗◌}
use Rattle.lists.specs.Orders.{without}
use Rattle.iso_model.specs.Turns.{turn, dot, cofactors}
use Rattle.small_turn.proofs.Cramer.{three_same}
use Rattle.lists.proofs.MemberLaws.{list_of_two, list_of_three, list_of_four}
use Rattle.small_turn.proofs.TurnExpr as E

pub expand_three : (a b c d e f x y z : ℤ) → turn ((a ∷ b ∷ c ∷ []) ∷ (d ∷ e ∷ f ∷ []) ∷ (x ∷ y ∷ z ∷ []) ∷ [])
    ≡ dot (cofactors ((a ∷ b ∷ c ∷ []) ∷ (d ∷ e ∷ f ∷ []) ∷ [])) (x ∷ y ∷ z ∷ [])
unfolding turn cofactors dot
expand_three a b c d e f x y z =
    ring (a ∷ b ∷ c ∷ d ∷ e ∷ f ∷ x ∷ y ∷ z ∷ [])
    (E.turn ((var 0 ∷ var 1 ∷ var 2 ∷ []) ∷ (var 3 ∷ var 4 ∷ var 5 ∷ []) ∷ (var 6 ∷ var 7 ∷ var 8 ∷ []) ∷ []))
    (E.dot (E.cofactors ((var 0 ∷ var 1 ∷ var 2 ∷ []) ∷ (var 3 ∷ var 4 ∷ var 5 ∷ []) ∷ [])) (var 6 ∷ var 7 ∷ var 8 ∷ []))
    refl

pub expand_four : (a b c d e f g h i j k l x y z w : ℤ)
    → turn ((a ∷ b ∷ c ∷ d ∷ []) ∷ (e ∷ f ∷ g ∷ h ∷ []) ∷ (i ∷ j ∷ k ∷ l ∷ []) ∷ (x ∷ y ∷ z ∷ w ∷ []) ∷ [])
    ≡ dot (cofactors ((a ∷ b ∷ c ∷ d ∷ []) ∷ (e ∷ f ∷ g ∷ h ∷ []) ∷ (i ∷ j ∷ k ∷ l ∷ []) ∷ [])) (x ∷ y ∷ z ∷ w ∷ [])
unfolding turn cofactors dot
expand_four a b c d e f g h i j k l x y z w =
    ring (a ∷ b ∷ c ∷ d ∷ e ∷ f ∷ g ∷ h ∷ i ∷ j ∷ k ∷ l ∷ x ∷ y ∷ z ∷ w ∷ [])
    (E.turn
    ((var 0 ∷ var 1 ∷ var 2 ∷ var 3 ∷ []) ∷ (var 4 ∷ var 5 ∷ var 6 ∷ var 7 ∷ []) ∷ (var 8 ∷ var 9 ∷ var 10 ∷ var 11 ∷ [])
    ∷ (var 12 ∷ var 13 ∷ var 14 ∷ var 15 ∷ []) ∷ []))
    (E.dot (E.cofactors ((var 0 ∷ var 1 ∷ var 2 ∷ var 3 ∷ []) ∷ (var 4 ∷ var 5 ∷ var 6 ∷ var 7 ∷ []) ∷ (var 8 ∷ var 9 ∷ var 10 ∷ var 11 ∷ []) ∷ []))
    (var 12 ∷ var 13 ∷ var 14 ∷ var 15 ∷ []))
    refl

-- ---- lists of a known length

-- ---- the cofactors of two rows of three, written out

pub cofactors-two : (a b c d e f : ℤ) → cofactors ((a ∷ b ∷ c ∷ []) ∷ (d ∷ e ∷ f ∷ []) ∷ [])
    ≡ ((b *ℤ f -ℤ c *ℤ e) ∷ (c *ℤ d -ℤ a *ℤ f) ∷ (a *ℤ e -ℤ b *ℤ d) ∷ [])
unfolding turn cofactors
cofactors-two a b c d e f =
    three_same _ _ _ _ _ _
    (ring (b ∷ c ∷ e ∷ f ∷ []) (E.turn ((var 0 ∷ var 1 ∷ []) ∷ (var 2 ∷ var 3 ∷ []) ∷ [])) (var 0 ⊗ var 3 ⊖ var 1 ⊗ var 2) refl)
    (ring (a ∷ c ∷ d ∷ f ∷ []) (E.signed true (E.turn ((var 0 ∷ var 1 ∷ []) ∷ (var 2 ∷ var 3 ∷ []) ∷ []))) (var 1 ⊗ var 2 ⊖ var 0 ⊗ var 3) refl)
    (ring (a ∷ b ∷ d ∷ e ∷ []) (E.turn ((var 0 ∷ var 1 ∷ []) ∷ (var 2 ∷ var 3 ∷ []) ∷ [])) (var 0 ⊗ var 3 ⊖ var 1 ⊗ var 2) refl)

-- the same of rows that are lists
rows_same : (a b c d : List ℤ) → a ≡ c → b ≡ d → (a ∷ b ∷ []) ≡ (c ∷ d ∷ [])
rows_same a b c d p q = cc

pub cofactors-two_rows : (a b : List ℤ) → length a ≡ 3 → length b ≡ 3
    → cofactors (a ∷ b ∷ [])
    ≡ ((get_or a 1 (pos 0) *ℤ get_or b 2 (pos 0) -ℤ get_or a 2 (pos 0) *ℤ get_or b 1 (pos 0))
    ∷ (get_or a 2 (pos 0) *ℤ get_or b 0 (pos 0) -ℤ get_or a 0 (pos 0) *ℤ get_or b 2 (pos 0))
    ∷ (get_or a 0 (pos 0) *ℤ get_or b 1 (pos 0) -ℤ get_or a 1 (pos 0) *ℤ get_or b 0 (pos 0)) ∷ [])
cofactors-two_rows a b p q =
    ap (λ (r : List (List ℤ)). cofactors r) (rows_same a b _ _ (list_of_three a p) (list_of_three b q))
    ∙ cofactors-two (get_or a 0 (pos 0)) (get_or a 1 (pos 0)) (get_or a 2 (pos 0)) (get_or b 0 (pos 0)) (get_or b 1 (pos 0)) (get_or b 2 (pos 0))

-- the turn of three rows by the cofactors of the first two
pub turn-expand_three : (a b c : List ℤ) → length a ≡ 3 → length b ≡ 3 → length c ≡ 3 → turn (a ∷ b ∷ c ∷ []) ≡ dot (cofactors (a ∷ b ∷ [])) c
turn-expand_three a b c p q r =
    subst (λ (x : List ℤ). turn (x ∷ b ∷ c ∷ []) ≡ dot (cofactors (x ∷ b ∷ [])) c) (sym (list_of_three a p))
    (subst (λ (y : List ℤ). turn ((get_or a 0 (pos 0) ∷ get_or a 1 (pos 0) ∷ get_or a 2 (pos 0) ∷ []) ∷ y ∷ c ∷ []) ≡ dot
    (cofactors ((get_or a 0 (pos 0) ∷ get_or a 1 (pos 0) ∷ get_or a 2 (pos 0) ∷ []) ∷ y ∷ [])) c) (sym (list_of_three b q))
    (subst (λ (z : List ℤ). turn ((get_or a 0 (pos 0) ∷ get_or a 1 (pos 0) ∷ get_or a 2 (pos 0) ∷ []) ∷
    (get_or b 0 (pos 0) ∷ get_or b 1 (pos 0) ∷ get_or b 2 (pos 0) ∷ []) ∷ z ∷ []) ≡ dot
    (cofactors ((get_or a 0 (pos 0) ∷ get_or a 1 (pos 0) ∷ get_or a 2 (pos 0) ∷ []) ∷
    (get_or b 0 (pos 0) ∷ get_or b 1 (pos 0) ∷ get_or b 2 (pos 0) ∷ []) ∷ [])) z) (sym (list_of_three c r))
    (expand_three (get_or a 0 (pos 0)) (get_or a 1 (pos 0)) (get_or a 2 (pos 0)) (get_or b 0 (pos 0)) (get_or b 1 (pos 0)) (get_or b 2 (pos 0))
    (get_or c 0 (pos 0)) (get_or c 1 (pos 0)) (get_or c 2 (pos 0)))))

pub expand_two : (a b x y : ℤ) → turn ((a ∷ b ∷ []) ∷ (x ∷ y ∷ []) ∷ []) ≡ dot (cofactors ((a ∷ b ∷ []) ∷ [])) (x ∷ y ∷ [])
unfolding turn cofactors dot
expand_two a b x y =
    ring (a ∷ b ∷ x ∷ y ∷ []) (E.turn ((var 0 ∷ var 1 ∷ []) ∷ (var 2 ∷ var 3 ∷ []) ∷ []))
    (E.dot (E.cofactors ((var 0 ∷ var 1 ∷ []) ∷ [])) (var 2 ∷ var 3 ∷ [])) refl

pub turn-expand_two : (a b : List ℤ) → length a ≡ 2 → length b ≡ 2 → turn (a ∷ b ∷ []) ≡ dot (cofactors (a ∷ [])) b
turn-expand_two a b p q =
    (subst (λ (z : List ℤ). turn (z ∷ b ∷ []) ≡ dot (cofactors (z ∷ [])) b) (sym (list_of_two a p))
    (subst (λ (z : List ℤ). turn ((get_or a 0 (pos 0) ∷ get_or a 1 (pos 0) ∷ []) ∷ z ∷ []) ≡ dot
    (cofactors ((get_or a 0 (pos 0) ∷ get_or a 1 (pos 0) ∷ []) ∷ [])) z) (sym (list_of_two b q))
    (expand_two (get_or a 0 (pos 0)) (get_or a 1 (pos 0)) (get_or b 0 (pos 0)) (get_or b 1 (pos 0)))))

pub turn-expand_four : (a b c d : List ℤ) → length a ≡ 4 → length b ≡ 4 → length c ≡ 4 → length d ≡ 4
    → turn (a ∷ b ∷ c ∷ d ∷ []) ≡ dot (cofactors (a ∷ b ∷ c ∷ [])) d
turn-expand_four a b c d p q r s =
    (subst (λ (z : List ℤ). turn (z ∷ b ∷ c ∷ d ∷ []) ≡ dot (cofactors (z ∷ b ∷ c ∷ [])) d) (sym (list_of_four a p))
    (subst (λ (z : List ℤ). turn ((get_or a 0 (pos 0) ∷ get_or a 1 (pos 0) ∷ get_or a 2 (pos 0) ∷ get_or a 3 (pos 0) ∷ []) ∷ z ∷ c ∷ d ∷ []) ≡ dot
    (cofactors ((get_or a 0 (pos 0) ∷ get_or a 1 (pos 0) ∷ get_or a 2 (pos 0) ∷ get_or a 3 (pos 0) ∷ []) ∷ z ∷ c ∷ [])) d) (sym (list_of_four b q))
    (subst (λ (z : List ℤ). turn ((get_or a 0 (pos 0) ∷ get_or a 1 (pos 0) ∷ get_or a 2 (pos 0) ∷ get_or a 3 (pos 0) ∷ []) ∷
    (get_or b 0 (pos 0) ∷ get_or b 1 (pos 0) ∷ get_or b 2 (pos 0) ∷ get_or b 3 (pos 0) ∷ []) ∷ z ∷ d ∷ []) ≡ dot
    (cofactors ((get_or a 0 (pos 0) ∷ get_or a 1 (pos 0) ∷ get_or a 2 (pos 0) ∷ get_or a 3 (pos 0) ∷ []) ∷
    (get_or b 0 (pos 0) ∷ get_or b 1 (pos 0) ∷ get_or b 2 (pos 0) ∷ get_or b 3 (pos 0) ∷ []) ∷ z ∷ [])) d) (sym (list_of_four c r))
    (subst (λ (z : List ℤ). turn ((get_or a 0 (pos 0) ∷ get_or a 1 (pos 0) ∷ get_or a 2 (pos 0) ∷ get_or a 3 (pos 0) ∷ []) ∷
    (get_or b 0 (pos 0) ∷ get_or b 1 (pos 0) ∷ get_or b 2 (pos 0) ∷ get_or b 3 (pos 0) ∷ []) ∷
    (get_or c 0 (pos 0) ∷ get_or c 1 (pos 0) ∷ get_or c 2 (pos 0) ∷ get_or c 3 (pos 0) ∷ []) ∷ z ∷ []) ≡ dot
    (cofactors ((get_or a 0 (pos 0) ∷ get_or a 1 (pos 0) ∷ get_or a 2 (pos 0) ∷ get_or a 3 (pos 0) ∷ []) ∷
    (get_or b 0 (pos 0) ∷ get_or b 1 (pos 0) ∷ get_or b 2 (pos 0) ∷ get_or b 3 (pos 0) ∷ []) ∷
    (get_or c 0 (pos 0) ∷ get_or c 1 (pos 0) ∷ get_or c 2 (pos 0) ∷ get_or c 3 (pos 0) ∷ []) ∷ [])) z) (sym (list_of_four d s))
    (expand_four (get_or a 0 (pos 0)) (get_or a 1 (pos 0)) (get_or a 2 (pos 0)) (get_or a 3 (pos 0)) (get_or b 0 (pos 0)) (get_or b 1 (pos 0))
    (get_or b 2 (pos 0)) (get_or b 3 (pos 0)) (get_or c 0 (pos 0)) (get_or c 1 (pos 0)) (get_or c 2 (pos 0)) (get_or c 3 (pos 0))
    (get_or d 0 (pos 0)) (get_or d 1 (pos 0)) (get_or d 2 (pos 0)) (get_or d 3 (pos 0)))))))

-- of four numbers the first three
pub without-last_of_four : (xs : List ℤ) → length xs ≡ 4 → (get_or xs 0 (pos 0) ∷ get_or xs 1 (pos 0) ∷ get_or xs 2 (pos 0) ∷ []) ≡ without 3 xs
without-last_of_four (x ∷ y ∷ z ∷ w ∷ []) e = refl
without-last_of_four [] e = absurd (omega arith)
without-last_of_four (x ∷ []) e = absurd (omega arith)
without-last_of_four (x ∷ y ∷ []) e = absurd (omega arith)
without-last_of_four (x ∷ y ∷ z ∷ []) e = absurd (omega arith)
without-last_of_four (x ∷ y ∷ z ∷ w ∷ v ∷ xs) e = absurd (omega arith)

turn-two_vars : (a b c d : ℤ) → turn ((a ∷ b ∷ []) ∷ (c ∷ d ∷ []) ∷ []) ≡ a *ℤ d -ℤ b *ℤ c
unfolding turn
turn-two_vars a b c d =
    ring (a ∷ b ∷ c ∷ d ∷ []) (E.turn ((var 0 ∷ var 1 ∷ []) ∷ (var 2 ∷ var 3 ∷ []) ∷ [])) (var 0 ⊗ var 3 ⊖ var 1 ⊗ var 2) refl

-- the turn of two rows of two, written out
pub turn-two_rows : (a b : List ℤ) → length a ≡ 2 → length b ≡ 2
    → turn (a ∷ b ∷ []) ≡ get_or a 0 (pos 0) *ℤ get_or b 1 (pos 0) -ℤ get_or a 1 (pos 0) *ℤ get_or b 0 (pos 0)
turn-two_rows a b p q =
    ap (λ (r : List (List ℤ)). turn r) (rows_same a b _ _ (list_of_two a p) (list_of_two b q))
    ∙ turn-two_vars (get_or a 0 (pos 0)) (get_or a 1 (pos 0)) (get_or b 0 (pos 0)) (get_or b 1 (pos 0))

cofactors-one_vars : (a b : ℤ) → cofactors ((a ∷ b ∷ []) ∷ []) ≡ (neg_ℤ b ∷ a ∷ [])
unfolding turn cofactors
cofactors-one_vars a b =
    pair_same _ _ _ _ (ring (b ∷ []) (E.signed true (E.turn ((var 0 ∷ []) ∷ []))) (neg (var 0)) refl)
    (ring (a ∷ []) (E.turn ((var 0 ∷ []) ∷ [])) (var 0) refl)
  where
    pair_same : (a b x y : ℤ) → a ≡ x → b ≡ y → (a ∷ b ∷ []) ≡ (x ∷ y ∷ [])
    pair_same a b x y p q = cc

-- the cofactors of one row of two, written out
pub cofactors-one_row : (a : List ℤ) → length a ≡ 2 → cofactors (a ∷ []) ≡ (neg_ℤ (get_or a 1 (pos 0)) ∷ get_or a 0 (pos 0) ∷ [])
cofactors-one_row a p =
    ap (λ (r : List ℤ). cofactors (r ∷ [])) (list_of_two a p) ∙ cofactors-one_vars (get_or a 0 (pos 0)) (get_or a 1 (pos 0))
