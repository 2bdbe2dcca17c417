-- Cramer's rule: where a normal is upright to all rows but the last, the turn of the rows times the normal is the normal's product with the last row
-- times the cofactors of the others.
-- So a normal that is upright to D - 1 rows is fixed up to a factor.
use Rattle.std.specs.Prelude.{◌≡◌, ℤ, pos, List, [], ◌∷◌, map, length, ◌*ℤ◌}
use Rattle.std.proofs.Common.{refl, sym, subst, get_or}
use Rattle.polynomials.proofs.Ring.{ring_above, var, neg, ◌⊗◌}
use Rattle.iso_model.specs.Turns.{turn, dot, cofactors}
use Rattle.small_turn.proofs.TurnExpr as E
use Rattle.lists.proofs.MemberLaws.{list_of_two, list_of_three, list_of_four}

-- each number times a factor
abbrev pub scaled : ℤ → List ℤ → List ℤ
scaled c xs = map (λ x. c *ℤ x) xs

pub two_same : (a b x y : ℤ) → a ≡ x → b ≡ y → (a ∷ b ∷ []) ≡ (x ∷ y ∷ [])
two_same a b x y p q = cc

pub three_same : (a b c x y z : ℤ) → a ≡ x → b ≡ y → c ≡ z → (a ∷ b ∷ c ∷ []) ≡ (x ∷ y ∷ z ∷ [])
three_same a b c x y z p q r = cc

pub four_same : (a b c d x y z w : ℤ) → a ≡ x → b ≡ y → c ≡ z → d ≡ w → (a ∷ b ∷ c ∷ d ∷ []) ≡ (x ∷ y ∷ z ∷ w ∷ [])
four_same a b c d x y z w p q r s = cc

cramer_two_vars : (n₀ n₁ u₀ u₁ x₀ x₁ : ℤ)
    → dot (n₀ ∷ n₁ ∷ []) (u₀ ∷ u₁ ∷ []) ≡ pos 0
    → scaled (turn ((u₀ ∷ u₁ ∷ []) ∷ (x₀ ∷ x₁ ∷ []) ∷ [])) (n₀ ∷ n₁ ∷ []) ≡ scaled (dot (n₀ ∷ n₁ ∷ []) (x₀ ∷ x₁ ∷ [])) (cofactors ((u₀ ∷ u₁ ∷ []) ∷ []))
unfolding turn dot cofactors
cramer_two_vars n₀ n₁ u₀ u₁ x₀ x₁ p =
    two_same _ _ _ _
    (ring_above (n₀ ∷ n₁ ∷ u₀ ∷ u₁ ∷ x₀ ∷ x₁ ∷ []) (E.turn ((var 2 ∷ var 3 ∷ []) ∷ (var 4 ∷ var 5 ∷ []) ∷ []) ⊗ var 0)
    (E.dot (var 0 ∷ var 1 ∷ []) (var 4 ∷ var 5 ∷ []) ⊗ E.at (E.cofactors ((var 2 ∷ var 3 ∷ []) ∷ [])) 0)
    ((neg (E.at (E.cofactors ((var 4 ∷ var 5 ∷ []) ∷ [])) 0), E.dot (var 0 ∷ var 1 ∷ []) (var 2 ∷ var 3 ∷ [])) ∷ []) refl (p, tt))
    (ring_above (n₀ ∷ n₁ ∷ u₀ ∷ u₁ ∷ x₀ ∷ x₁ ∷ []) (E.turn ((var 2 ∷ var 3 ∷ []) ∷ (var 4 ∷ var 5 ∷ []) ∷ []) ⊗ var 1)
    (E.dot (var 0 ∷ var 1 ∷ []) (var 4 ∷ var 5 ∷ []) ⊗ E.at (E.cofactors ((var 2 ∷ var 3 ∷ []) ∷ [])) 1)
    ((neg (E.at (E.cofactors ((var 4 ∷ var 5 ∷ []) ∷ [])) 1), E.dot (var 0 ∷ var 1 ∷ []) (var 2 ∷ var 3 ∷ [])) ∷ []) refl (p, tt))

pub cramer_two : (n u x : List ℤ) → length n ≡ 2 → length u ≡ 2 → length x ≡ 2
    → dot n u ≡ pos 0
    → scaled (turn (u ∷ x ∷ [])) n ≡ scaled (dot n x) (cofactors (u ∷ []))
cramer_two n u x ln lu lx =
    (subst (λ (z : List ℤ). (dot z u ≡ pos 0 → scaled (turn (u ∷ x ∷ [])) z ≡ scaled (dot z x) (cofactors (u ∷ [])))) (sym (list_of_two n ln))
    (subst (λ (z : List ℤ). (dot (get_or n 0 (pos 0) ∷ get_or n 1 (pos 0) ∷ []) z ≡ pos 0
    → scaled (turn (z ∷ x ∷ [])) (get_or n 0 (pos 0) ∷ get_or n 1 (pos 0) ∷ []) ≡ scaled (dot (get_or n 0 (pos 0) ∷ get_or n 1 (pos 0) ∷ []) x)
    (cofactors (z ∷ [])))) (sym (list_of_two u lu))
    (subst (λ (z : List ℤ). (dot (get_or n 0 (pos 0) ∷ get_or n 1 (pos 0) ∷ []) (get_or u 0 (pos 0) ∷ get_or u 1 (pos 0) ∷ []) ≡ pos 0
    → scaled (turn ((get_or u 0 (pos 0) ∷ get_or u 1 (pos 0) ∷ []) ∷ z ∷ [])) (get_or n 0 (pos 0) ∷ get_or n 1 (pos 0) ∷ []) ≡ scaled
    (dot (get_or n 0 (pos 0) ∷ get_or n 1 (pos 0) ∷ []) z) (cofactors ((get_or u 0 (pos 0) ∷ get_or u 1 (pos 0) ∷ []) ∷ [])))) (sym (list_of_two x lx))
    (cramer_two_vars (get_or n 0 (pos 0)) (get_or n 1 (pos 0)) (get_or u 0 (pos 0)) (get_or u 1 (pos 0)) (get_or x 0 (pos 0)) (get_or x 1 (pos 0))))))

cramer_three_vars : (n₀ n₁ n₂ u₀ u₁ u₂ v₀ v₁ v₂ x₀ x₁ x₂ : ℤ)
    → dot (n₀ ∷ n₁ ∷ n₂ ∷ []) (u₀ ∷ u₁ ∷ u₂ ∷ []) ≡ pos 0 → dot (n₀ ∷ n₁ ∷ n₂ ∷ []) (v₀ ∷ v₁ ∷ v₂ ∷ []) ≡ pos 0
    → scaled (turn ((u₀ ∷ u₁ ∷ u₂ ∷ []) ∷ (v₀ ∷ v₁ ∷ v₂ ∷ []) ∷ (x₀ ∷ x₁ ∷ x₂ ∷ []) ∷ [])) (n₀ ∷ n₁ ∷ n₂ ∷ [])
    ≡ scaled (dot (n₀ ∷ n₁ ∷ n₂ ∷ []) (x₀ ∷ x₁ ∷ x₂ ∷ [])) (cofactors ((u₀ ∷ u₁ ∷ u₂ ∷ []) ∷ (v₀ ∷ v₁ ∷ v₂ ∷ []) ∷ []))
unfolding turn dot cofactors
cramer_three_vars n₀ n₁ n₂ u₀ u₁ u₂ v₀ v₁ v₂ x₀ x₁ x₂ p q =
    three_same _ _ _ _ _ _
    (ring_above (n₀ ∷ n₁ ∷ n₂ ∷ u₀ ∷ u₁ ∷ u₂ ∷ v₀ ∷ v₁ ∷ v₂ ∷ x₀ ∷ x₁ ∷ x₂ ∷ [])
    (E.turn ((var 3 ∷ var 4 ∷ var 5 ∷ []) ∷ (var 6 ∷ var 7 ∷ var 8 ∷ []) ∷ (var 9 ∷ var 10 ∷ var 11 ∷ []) ∷ []) ⊗ var 0)
    (E.dot (var 0 ∷ var 1 ∷ var 2 ∷ []) (var 9 ∷ var 10 ∷ var 11 ∷ []) ⊗ E.at
    (E.cofactors ((var 3 ∷ var 4 ∷ var 5 ∷ []) ∷ (var 6 ∷ var 7 ∷ var 8 ∷ []) ∷ [])) 0)
    ((
      E.at (E.cofactors ((var 6 ∷ var 7 ∷ var 8 ∷ []) ∷ (var 9 ∷ var 10 ∷ var 11 ∷ []) ∷ [])) 0,
      E.dot (var 0 ∷ var 1 ∷ var 2 ∷ []) (var 3 ∷ var 4 ∷ var 5 ∷ []),
    )
    ∷ (
      neg (E.at (E.cofactors ((var 3 ∷ var 4 ∷ var 5 ∷ []) ∷ (var 9 ∷ var 10 ∷ var 11 ∷ []) ∷ [])) 0),
      E.dot (var 0 ∷ var 1 ∷ var 2 ∷ []) (var 6 ∷ var 7 ∷ var 8 ∷ []),
    )
    ∷ [])
    refl (p, (q, tt)))
    (ring_above (n₀ ∷ n₁ ∷ n₂ ∷ u₀ ∷ u₁ ∷ u₂ ∷ v₀ ∷ v₁ ∷ v₂ ∷ x₀ ∷ x₁ ∷ x₂ ∷ [])
    (E.turn ((var 3 ∷ var 4 ∷ var 5 ∷ []) ∷ (var 6 ∷ var 7 ∷ var 8 ∷ []) ∷ (var 9 ∷ var 10 ∷ var 11 ∷ []) ∷ []) ⊗ var 1)
    (E.dot (var 0 ∷ var 1 ∷ var 2 ∷ []) (var 9 ∷ var 10 ∷ var 11 ∷ []) ⊗ E.at
    (E.cofactors ((var 3 ∷ var 4 ∷ var 5 ∷ []) ∷ (var 6 ∷ var 7 ∷ var 8 ∷ []) ∷ [])) 1)
    ((
      E.at (E.cofactors ((var 6 ∷ var 7 ∷ var 8 ∷ []) ∷ (var 9 ∷ var 10 ∷ var 11 ∷ []) ∷ [])) 1,
      E.dot (var 0 ∷ var 1 ∷ var 2 ∷ []) (var 3 ∷ var 4 ∷ var 5 ∷ []),
    )
    ∷ (
      neg (E.at (E.cofactors ((var 3 ∷ var 4 ∷ var 5 ∷ []) ∷ (var 9 ∷ var 10 ∷ var 11 ∷ []) ∷ [])) 1),
      E.dot (var 0 ∷ var 1 ∷ var 2 ∷ []) (var 6 ∷ var 7 ∷ var 8 ∷ []),
    )
    ∷ [])
    refl (p, (q, tt)))
    (ring_above (n₀ ∷ n₁ ∷ n₂ ∷ u₀ ∷ u₁ ∷ u₂ ∷ v₀ ∷ v₁ ∷ v₂ ∷ x₀ ∷ x₁ ∷ x₂ ∷ [])
    (E.turn ((var 3 ∷ var 4 ∷ var 5 ∷ []) ∷ (var 6 ∷ var 7 ∷ var 8 ∷ []) ∷ (var 9 ∷ var 10 ∷ var 11 ∷ []) ∷ []) ⊗ var 2)
    (E.dot (var 0 ∷ var 1 ∷ var 2 ∷ []) (var 9 ∷ var 10 ∷ var 11 ∷ []) ⊗ E.at
    (E.cofactors ((var 3 ∷ var 4 ∷ var 5 ∷ []) ∷ (var 6 ∷ var 7 ∷ var 8 ∷ []) ∷ [])) 2)
    ((
      E.at (E.cofactors ((var 6 ∷ var 7 ∷ var 8 ∷ []) ∷ (var 9 ∷ var 10 ∷ var 11 ∷ []) ∷ [])) 2,
      E.dot (var 0 ∷ var 1 ∷ var 2 ∷ []) (var 3 ∷ var 4 ∷ var 5 ∷ []),
    )
    ∷ (
      neg (E.at (E.cofactors ((var 3 ∷ var 4 ∷ var 5 ∷ []) ∷ (var 9 ∷ var 10 ∷ var 11 ∷ []) ∷ [])) 2),
      E.dot (var 0 ∷ var 1 ∷ var 2 ∷ []) (var 6 ∷ var 7 ∷ var 8 ∷ []),
    )
    ∷ [])
    refl (p, (q, tt)))

pub cramer_three : (n u v x : List ℤ) → length n ≡ 3 → length u ≡ 3 → length v ≡ 3 → length x ≡ 3
    → dot n u ≡ pos 0 → dot n v ≡ pos 0
    → scaled (turn (u ∷ v ∷ x ∷ [])) n ≡ scaled (dot n x) (cofactors (u ∷ v ∷ []))
cramer_three n u v x ln lu lv lx =
    (subst (λ (z : List ℤ). (dot z u ≡ pos 0 → dot z v ≡ pos 0 → scaled (turn (u ∷ v ∷ x ∷ [])) z ≡ scaled (dot z x) (cofactors (u ∷ v ∷ []))))
    (sym (list_of_three n ln))
    (subst (λ (z : List ℤ). (dot (get_or n 0 (pos 0) ∷ get_or n 1 (pos 0) ∷ get_or n 2 (pos 0) ∷ []) z ≡ pos 0
    → dot (get_or n 0 (pos 0) ∷ get_or n 1 (pos 0) ∷ get_or n 2 (pos 0) ∷ []) v ≡ pos 0
    → scaled (turn (z ∷ v ∷ x ∷ [])) (get_or n 0 (pos 0) ∷ get_or n 1 (pos 0) ∷ get_or n 2 (pos 0) ∷ []) ≡ scaled
    (dot (get_or n 0 (pos 0) ∷ get_or n 1 (pos 0) ∷ get_or n 2 (pos 0) ∷ []) x) (cofactors (z ∷ v ∷ [])))) (sym (list_of_three u lu))
    (subst (λ (z : List ℤ). (dot (get_or n 0 (pos 0) ∷ get_or n 1 (pos 0) ∷ get_or n 2 (pos 0) ∷ [])
    (get_or u 0 (pos 0) ∷ get_or u 1 (pos 0) ∷ get_or u 2 (pos 0) ∷ []) ≡ pos 0
    → dot (get_or n 0 (pos 0) ∷ get_or n 1 (pos 0) ∷ get_or n 2 (pos 0) ∷ []) z ≡ pos 0
    → scaled (turn ((get_or u 0 (pos 0) ∷ get_or u 1 (pos 0) ∷ get_or u 2 (pos 0) ∷ []) ∷ z ∷ x ∷ []))
    (get_or n 0 (pos 0) ∷ get_or n 1 (pos 0) ∷ get_or n 2 (pos 0) ∷ []) ≡ scaled
    (dot (get_or n 0 (pos 0) ∷ get_or n 1 (pos 0) ∷ get_or n 2 (pos 0) ∷ []) x)
    (cofactors ((get_or u 0 (pos 0) ∷ get_or u 1 (pos 0) ∷ get_or u 2 (pos 0) ∷ []) ∷ z ∷ [])))) (sym (list_of_three v lv))
    (subst (λ (z : List ℤ). (dot (get_or n 0 (pos 0) ∷ get_or n 1 (pos 0) ∷ get_or n 2 (pos 0) ∷ [])
    (get_or u 0 (pos 0) ∷ get_or u 1 (pos 0) ∷ get_or u 2 (pos 0) ∷ []) ≡ pos 0
    → dot (get_or n 0 (pos 0) ∷ get_or n 1 (pos 0) ∷ get_or n 2 (pos 0) ∷ [])
    (get_or v 0 (pos 0) ∷ get_or v 1 (pos 0) ∷ get_or v 2 (pos 0) ∷ []) ≡ pos 0
    → scaled (turn ((get_or u 0 (pos 0) ∷ get_or u 1 (pos 0) ∷ get_or u 2 (pos 0) ∷ []) ∷
    (get_or v 0 (pos 0) ∷ get_or v 1 (pos 0) ∷ get_or v 2 (pos 0) ∷ []) ∷ z ∷ []))
    (get_or n 0 (pos 0) ∷ get_or n 1 (pos 0) ∷ get_or n 2 (pos 0) ∷ []) ≡ scaled
    (dot (get_or n 0 (pos 0) ∷ get_or n 1 (pos 0) ∷ get_or n 2 (pos 0) ∷ []) z)
    (cofactors
    ((get_or u 0 (pos 0) ∷ get_or u 1 (pos 0) ∷ get_or u 2 (pos 0) ∷ []) ∷
    (get_or v 0 (pos 0) ∷ get_or v 1 (pos 0) ∷ get_or v 2 (pos 0) ∷ []) ∷ [])))) (sym (list_of_three x lx))
    (cramer_three_vars (get_or n 0 (pos 0)) (get_or n 1 (pos 0)) (get_or n 2 (pos 0)) (get_or u 0 (pos 0)) (get_or u 1 (pos 0)) (get_or u 2 (pos 0))
    (get_or v 0 (pos 0)) (get_or v 1 (pos 0)) (get_or v 2 (pos 0)) (get_or x 0 (pos 0)) (get_or x 1 (pos 0)) (get_or x 2 (pos 0)))))))

cramer_four_vars : (n₀ n₁ n₂ n₃ u₀ u₁ u₂ u₃ v₀ v₁ v₂ v₃ w₀ w₁ w₂ w₃ x₀ x₁ x₂ x₃ : ℤ)
    → dot (n₀ ∷ n₁ ∷ n₂ ∷ n₃ ∷ []) (u₀ ∷ u₁ ∷ u₂ ∷ u₃ ∷ []) ≡ pos 0 → dot (n₀ ∷ n₁ ∷ n₂ ∷ n₃ ∷ []) (v₀ ∷ v₁ ∷ v₂ ∷ v₃ ∷ []) ≡ pos 0
    → dot (n₀ ∷ n₁ ∷ n₂ ∷ n₃ ∷ []) (w₀ ∷ w₁ ∷ w₂ ∷ w₃ ∷ []) ≡ pos 0
    → scaled (turn ((u₀ ∷ u₁ ∷ u₂ ∷ u₃ ∷ []) ∷ (v₀ ∷ v₁ ∷ v₂ ∷ v₃ ∷ []) ∷ (w₀ ∷ w₁ ∷ w₂ ∷ w₃ ∷ []) ∷ (x₀ ∷ x₁ ∷ x₂ ∷ x₃ ∷ []) ∷ []))
    (n₀ ∷ n₁ ∷ n₂ ∷ n₃ ∷ [])
    ≡ scaled (dot (n₀ ∷ n₁ ∷ n₂ ∷ n₃ ∷ []) (x₀ ∷ x₁ ∷ x₂ ∷ x₃ ∷ []))
    (cofactors ((u₀ ∷ u₁ ∷ u₂ ∷ u₃ ∷ []) ∷ (v₀ ∷ v₁ ∷ v₂ ∷ v₃ ∷ []) ∷ (w₀ ∷ w₁ ∷ w₂ ∷ w₃ ∷ []) ∷ []))
unfolding turn dot cofactors
cramer_four_vars n₀ n₁ n₂ n₃ u₀ u₁ u₂ u₃ v₀ v₁ v₂ v₃ w₀ w₁ w₂ w₃ x₀ x₁ x₂ x₃ p q r =
    four_same _ _ _ _ _ _ _ _
    (ring_above (n₀ ∷ n₁ ∷ n₂ ∷ n₃ ∷ u₀ ∷ u₁ ∷ u₂ ∷ u₃ ∷ v₀ ∷ v₁ ∷ v₂ ∷ v₃ ∷ w₀ ∷ w₁ ∷ w₂ ∷ w₃ ∷ x₀ ∷ x₁ ∷ x₂ ∷ x₃ ∷ [])
    (E.turn
    ((var 4 ∷ var 5 ∷ var 6 ∷ var 7 ∷ []) ∷ (var 8 ∷ var 9 ∷ var 10 ∷ var 11 ∷ []) ∷ (var 12 ∷ var 13 ∷ var 14 ∷ var 15 ∷ [])
    ∷ (var 16 ∷ var 17 ∷ var 18 ∷ var 19 ∷ []) ∷ [])
    ⊗ var 0)
    (E.dot (var 0 ∷ var 1 ∷ var 2 ∷ var 3 ∷ []) (var 16 ∷ var 17 ∷ var 18 ∷ var 19 ∷ []) ⊗ E.at
    (E.cofactors
    ((var 4 ∷ var 5 ∷ var 6 ∷ var 7 ∷ []) ∷ (var 8 ∷ var 9 ∷ var 10 ∷ var 11 ∷ []) ∷ (var 12 ∷ var 13 ∷ var 14 ∷ var 15 ∷ []) ∷ []))
    0)
    ((
      neg
          (E.at
          (E.cofactors
          ((var 8 ∷ var 9 ∷ var 10 ∷ var 11 ∷ []) ∷ (var 12 ∷ var 13 ∷ var 14 ∷ var 15 ∷ [])
          ∷ (var 16 ∷ var 17 ∷ var 18 ∷ var 19 ∷ []) ∷ []))
          0),
      E.dot (var 0 ∷ var 1 ∷ var 2 ∷ var 3 ∷ []) (var 4 ∷ var 5 ∷ var 6 ∷ var 7 ∷ []),
    )
    ∷ (
      E.at
          (E.cofactors
          ((var 4 ∷ var 5 ∷ var 6 ∷ var 7 ∷ []) ∷ (var 12 ∷ var 13 ∷ var 14 ∷ var 15 ∷ []) ∷ (var 16 ∷ var 17 ∷ var 18 ∷ var 19 ∷ [])
          ∷ []))
          0,
      E.dot (var 0 ∷ var 1 ∷ var 2 ∷ var 3 ∷ []) (var 8 ∷ var 9 ∷ var 10 ∷ var 11 ∷ []),
    )
    ∷ (
      neg
          (E.at
          (E.cofactors
          ((var 4 ∷ var 5 ∷ var 6 ∷ var 7 ∷ []) ∷ (var 8 ∷ var 9 ∷ var 10 ∷ var 11 ∷ [])
          ∷ (var 16 ∷ var 17 ∷ var 18 ∷ var 19 ∷ []) ∷ []))
          0),
      E.dot (var 0 ∷ var 1 ∷ var 2 ∷ var 3 ∷ []) (var 12 ∷ var 13 ∷ var 14 ∷ var 15 ∷ []),
    )
    ∷ [])
    refl (p, (q, (r, tt))))
    (ring_above (n₀ ∷ n₁ ∷ n₂ ∷ n₃ ∷ u₀ ∷ u₁ ∷ u₂ ∷ u₃ ∷ v₀ ∷ v₁ ∷ v₂ ∷ v₃ ∷ w₀ ∷ w₁ ∷ w₂ ∷ w₃ ∷ x₀ ∷ x₁ ∷ x₂ ∷ x₃ ∷ [])
    (E.turn
    ((var 4 ∷ var 5 ∷ var 6 ∷ var 7 ∷ []) ∷ (var 8 ∷ var 9 ∷ var 10 ∷ var 11 ∷ []) ∷ (var 12 ∷ var 13 ∷ var 14 ∷ var 15 ∷ [])
    ∷ (var 16 ∷ var 17 ∷ var 18 ∷ var 19 ∷ []) ∷ [])
    ⊗ var 1)
    (E.dot (var 0 ∷ var 1 ∷ var 2 ∷ var 3 ∷ []) (var 16 ∷ var 17 ∷ var 18 ∷ var 19 ∷ []) ⊗ E.at
    (E.cofactors
    ((var 4 ∷ var 5 ∷ var 6 ∷ var 7 ∷ []) ∷ (var 8 ∷ var 9 ∷ var 10 ∷ var 11 ∷ []) ∷ (var 12 ∷ var 13 ∷ var 14 ∷ var 15 ∷ []) ∷ []))
    1)
    ((
      neg
          (E.at
          (E.cofactors
          ((var 8 ∷ var 9 ∷ var 10 ∷ var 11 ∷ []) ∷ (var 12 ∷ var 13 ∷ var 14 ∷ var 15 ∷ [])
          ∷ (var 16 ∷ var 17 ∷ var 18 ∷ var 19 ∷ []) ∷ []))
          1),
      E.dot (var 0 ∷ var 1 ∷ var 2 ∷ var 3 ∷ []) (var 4 ∷ var 5 ∷ var 6 ∷ var 7 ∷ []),
    )
    ∷ (
      E.at
          (E.cofactors
          ((var 4 ∷ var 5 ∷ var 6 ∷ var 7 ∷ []) ∷ (var 12 ∷ var 13 ∷ var 14 ∷ var 15 ∷ []) ∷ (var 16 ∷ var 17 ∷ var 18 ∷ var 19 ∷ [])
          ∷ []))
          1,
      E.dot (var 0 ∷ var 1 ∷ var 2 ∷ var 3 ∷ []) (var 8 ∷ var 9 ∷ var 10 ∷ var 11 ∷ []),
    )
    ∷ (
      neg
          (E.at
          (E.cofactors
          ((var 4 ∷ var 5 ∷ var 6 ∷ var 7 ∷ []) ∷ (var 8 ∷ var 9 ∷ var 10 ∷ var 11 ∷ [])
          ∷ (var 16 ∷ var 17 ∷ var 18 ∷ var 19 ∷ []) ∷ []))
          1),
      E.dot (var 0 ∷ var 1 ∷ var 2 ∷ var 3 ∷ []) (var 12 ∷ var 13 ∷ var 14 ∷ var 15 ∷ []),
    )
    ∷ [])
    refl (p, (q, (r, tt))))
    (ring_above (n₀ ∷ n₁ ∷ n₂ ∷ n₃ ∷ u₀ ∷ u₁ ∷ u₂ ∷ u₃ ∷ v₀ ∷ v₁ ∷ v₂ ∷ v₃ ∷ w₀ ∷ w₁ ∷ w₂ ∷ w₃ ∷ x₀ ∷ x₁ ∷ x₂ ∷ x₃ ∷ [])
    (E.turn
    ((var 4 ∷ var 5 ∷ var 6 ∷ var 7 ∷ []) ∷ (var 8 ∷ var 9 ∷ var 10 ∷ var 11 ∷ []) ∷ (var 12 ∷ var 13 ∷ var 14 ∷ var 15 ∷ [])
    ∷ (var 16 ∷ var 17 ∷ var 18 ∷ var 19 ∷ []) ∷ [])
    ⊗ var 2)
    (E.dot (var 0 ∷ var 1 ∷ var 2 ∷ var 3 ∷ []) (var 16 ∷ var 17 ∷ var 18 ∷ var 19 ∷ []) ⊗ E.at
    (E.cofactors
    ((var 4 ∷ var 5 ∷ var 6 ∷ var 7 ∷ []) ∷ (var 8 ∷ var 9 ∷ var 10 ∷ var 11 ∷ []) ∷ (var 12 ∷ var 13 ∷ var 14 ∷ var 15 ∷ []) ∷ []))
    2)
    ((
      neg
          (E.at
          (E.cofactors
          ((var 8 ∷ var 9 ∷ var 10 ∷ var 11 ∷ []) ∷ (var 12 ∷ var 13 ∷ var 14 ∷ var 15 ∷ [])
          ∷ (var 16 ∷ var 17 ∷ var 18 ∷ var 19 ∷ []) ∷ []))
          2),
      E.dot (var 0 ∷ var 1 ∷ var 2 ∷ var 3 ∷ []) (var 4 ∷ var 5 ∷ var 6 ∷ var 7 ∷ []),
    )
    ∷ (
      E.at
          (E.cofactors
          ((var 4 ∷ var 5 ∷ var 6 ∷ var 7 ∷ []) ∷ (var 12 ∷ var 13 ∷ var 14 ∷ var 15 ∷ []) ∷ (var 16 ∷ var 17 ∷ var 18 ∷ var 19 ∷ [])
          ∷ []))
          2,
      E.dot (var 0 ∷ var 1 ∷ var 2 ∷ var 3 ∷ []) (var 8 ∷ var 9 ∷ var 10 ∷ var 11 ∷ []),
    )
    ∷ (
      neg
          (E.at
          (E.cofactors
          ((var 4 ∷ var 5 ∷ var 6 ∷ var 7 ∷ []) ∷ (var 8 ∷ var 9 ∷ var 10 ∷ var 11 ∷ [])
          ∷ (var 16 ∷ var 17 ∷ var 18 ∷ var 19 ∷ []) ∷ []))
          2),
      E.dot (var 0 ∷ var 1 ∷ var 2 ∷ var 3 ∷ []) (var 12 ∷ var 13 ∷ var 14 ∷ var 15 ∷ []),
    )
    ∷ [])
    refl (p, (q, (r, tt))))
    (ring_above (n₀ ∷ n₁ ∷ n₂ ∷ n₃ ∷ u₀ ∷ u₁ ∷ u₂ ∷ u₃ ∷ v₀ ∷ v₁ ∷ v₂ ∷ v₃ ∷ w₀ ∷ w₁ ∷ w₂ ∷ w₃ ∷ x₀ ∷ x₁ ∷ x₂ ∷ x₃ ∷ [])
    (E.turn
    ((var 4 ∷ var 5 ∷ var 6 ∷ var 7 ∷ []) ∷ (var 8 ∷ var 9 ∷ var 10 ∷ var 11 ∷ []) ∷ (var 12 ∷ var 13 ∷ var 14 ∷ var 15 ∷ [])
    ∷ (var 16 ∷ var 17 ∷ var 18 ∷ var 19 ∷ []) ∷ [])
    ⊗ var 3)
    (E.dot (var 0 ∷ var 1 ∷ var 2 ∷ var 3 ∷ []) (var 16 ∷ var 17 ∷ var 18 ∷ var 19 ∷ []) ⊗ E.at
    (E.cofactors
    ((var 4 ∷ var 5 ∷ var 6 ∷ var 7 ∷ []) ∷ (var 8 ∷ var 9 ∷ var 10 ∷ var 11 ∷ []) ∷ (var 12 ∷ var 13 ∷ var 14 ∷ var 15 ∷ []) ∷ []))
    3)
    ((
      neg
          (E.at
          (E.cofactors
          ((var 8 ∷ var 9 ∷ var 10 ∷ var 11 ∷ []) ∷ (var 12 ∷ var 13 ∷ var 14 ∷ var 15 ∷ [])
          ∷ (var 16 ∷ var 17 ∷ var 18 ∷ var 19 ∷ []) ∷ []))
          3),
      E.dot (var 0 ∷ var 1 ∷ var 2 ∷ var 3 ∷ []) (var 4 ∷ var 5 ∷ var 6 ∷ var 7 ∷ []),
    )
    ∷ (
      E.at
          (E.cofactors
          ((var 4 ∷ var 5 ∷ var 6 ∷ var 7 ∷ []) ∷ (var 12 ∷ var 13 ∷ var 14 ∷ var 15 ∷ []) ∷ (var 16 ∷ var 17 ∷ var 18 ∷ var 19 ∷ [])
          ∷ []))
          3,
      E.dot (var 0 ∷ var 1 ∷ var 2 ∷ var 3 ∷ []) (var 8 ∷ var 9 ∷ var 10 ∷ var 11 ∷ []),
    )
    ∷ (
      neg
          (E.at
          (E.cofactors
          ((var 4 ∷ var 5 ∷ var 6 ∷ var 7 ∷ []) ∷ (var 8 ∷ var 9 ∷ var 10 ∷ var 11 ∷ [])
          ∷ (var 16 ∷ var 17 ∷ var 18 ∷ var 19 ∷ []) ∷ []))
          3),
      E.dot (var 0 ∷ var 1 ∷ var 2 ∷ var 3 ∷ []) (var 12 ∷ var 13 ∷ var 14 ∷ var 15 ∷ []),
    )
    ∷ [])
    refl (p, (q, (r, tt))))

pub cramer_four : (n u v w x : List ℤ) → length n ≡ 4 → length u ≡ 4 → length v ≡ 4 → length w ≡ 4 → length x ≡ 4
    → dot n u ≡ pos 0 → dot n v ≡ pos 0 → dot n w ≡ pos 0
    → scaled (turn (u ∷ v ∷ w ∷ x ∷ [])) n ≡ scaled (dot n x) (cofactors (u ∷ v ∷ w ∷ []))
cramer_four n u v w x ln lu lv lw lx =
    (subst (λ (z : List ℤ). (dot z u ≡ pos 0 → dot z v ≡ pos 0 → dot z w ≡ pos 0
    → scaled (turn (u ∷ v ∷ w ∷ x ∷ [])) z ≡ scaled (dot z x) (cofactors (u ∷ v ∷ w ∷ [])))) (sym (list_of_four n ln))
    (subst (λ (z : List ℤ). (dot (get_or n 0 (pos 0) ∷ get_or n 1 (pos 0) ∷ get_or n 2 (pos 0) ∷ get_or n 3 (pos 0) ∷ []) z ≡ pos 0
    → dot (get_or n 0 (pos 0) ∷ get_or n 1 (pos 0) ∷ get_or n 2 (pos 0) ∷ get_or n 3 (pos 0) ∷ []) v ≡ pos 0
    → dot (get_or n 0 (pos 0) ∷ get_or n 1 (pos 0) ∷ get_or n 2 (pos 0) ∷ get_or n 3 (pos 0) ∷ []) w ≡ pos 0
    → scaled (turn (z ∷ v ∷ w ∷ x ∷ [])) (get_or n 0 (pos 0) ∷ get_or n 1 (pos 0) ∷ get_or n 2 (pos 0) ∷ get_or n 3 (pos 0) ∷ []) ≡ scaled
    (dot (get_or n 0 (pos 0) ∷ get_or n 1 (pos 0) ∷ get_or n 2 (pos 0) ∷ get_or n 3 (pos 0) ∷ []) x) (cofactors (z ∷ v ∷ w ∷ []))))
    (sym (list_of_four u lu))
    (subst (λ (z : List ℤ). (dot (get_or n 0 (pos 0) ∷ get_or n 1 (pos 0) ∷ get_or n 2 (pos 0) ∷ get_or n 3 (pos 0) ∷ [])
    (get_or u 0 (pos 0) ∷ get_or u 1 (pos 0) ∷ get_or u 2 (pos 0) ∷ get_or u 3 (pos 0) ∷ []) ≡ pos 0
    → dot (get_or n 0 (pos 0) ∷ get_or n 1 (pos 0) ∷ get_or n 2 (pos 0) ∷ get_or n 3 (pos 0) ∷ []) z ≡ pos 0
    → dot (get_or n 0 (pos 0) ∷ get_or n 1 (pos 0) ∷ get_or n 2 (pos 0) ∷ get_or n 3 (pos 0) ∷ []) w ≡ pos 0
    → scaled (turn ((get_or u 0 (pos 0) ∷ get_or u 1 (pos 0) ∷ get_or u 2 (pos 0) ∷ get_or u 3 (pos 0) ∷ []) ∷ z ∷ w ∷ x ∷ []))
    (get_or n 0 (pos 0) ∷ get_or n 1 (pos 0) ∷ get_or n 2 (pos 0) ∷ get_or n 3 (pos 0) ∷ []) ≡ scaled
    (dot (get_or n 0 (pos 0) ∷ get_or n 1 (pos 0) ∷ get_or n 2 (pos 0) ∷ get_or n 3 (pos 0) ∷ []) x)
    (cofactors ((get_or u 0 (pos 0) ∷ get_or u 1 (pos 0) ∷ get_or u 2 (pos 0) ∷ get_or u 3 (pos 0) ∷ []) ∷ z ∷ w ∷ []))))
    (sym (list_of_four v lv))
    (subst (λ (z : List ℤ). (dot (get_or n 0 (pos 0) ∷ get_or n 1 (pos 0) ∷ get_or n 2 (pos 0) ∷ get_or n 3 (pos 0) ∷ [])
    (get_or u 0 (pos 0) ∷ get_or u 1 (pos 0) ∷ get_or u 2 (pos 0) ∷ get_or u 3 (pos 0) ∷ []) ≡ pos 0
    → dot (get_or n 0 (pos 0) ∷ get_or n 1 (pos 0) ∷ get_or n 2 (pos 0) ∷ get_or n 3 (pos 0) ∷ [])
    (get_or v 0 (pos 0) ∷ get_or v 1 (pos 0) ∷ get_or v 2 (pos 0) ∷ get_or v 3 (pos 0) ∷ []) ≡ pos 0
    → dot (get_or n 0 (pos 0) ∷ get_or n 1 (pos 0) ∷ get_or n 2 (pos 0) ∷ get_or n 3 (pos 0) ∷ []) z ≡ pos 0
    → scaled (turn ((get_or u 0 (pos 0) ∷ get_or u 1 (pos 0) ∷ get_or u 2 (pos 0) ∷ get_or u 3 (pos 0) ∷ []) ∷
    (get_or v 0 (pos 0) ∷ get_or v 1 (pos 0) ∷ get_or v 2 (pos 0) ∷ get_or v 3 (pos 0) ∷ []) ∷ z ∷ x ∷ []))
    (get_or n 0 (pos 0) ∷ get_or n 1 (pos 0) ∷ get_or n 2 (pos 0) ∷ get_or n 3 (pos 0) ∷ []) ≡ scaled
    (dot (get_or n 0 (pos 0) ∷ get_or n 1 (pos 0) ∷ get_or n 2 (pos 0) ∷ get_or n 3 (pos 0) ∷ []) x)
    (cofactors
    ((get_or u 0 (pos 0) ∷ get_or u 1 (pos 0) ∷ get_or u 2 (pos 0) ∷ get_or u 3 (pos 0) ∷ []) ∷
    (get_or v 0 (pos 0) ∷ get_or v 1 (pos 0) ∷ get_or v 2 (pos 0) ∷ get_or v 3 (pos 0) ∷ []) ∷ z ∷ []))))
    (sym (list_of_four w lw))
    (subst (λ (z : List ℤ). (dot (get_or n 0 (pos 0) ∷ get_or n 1 (pos 0) ∷ get_or n 2 (pos 0) ∷ get_or n 3 (pos 0) ∷ [])
    (get_or u 0 (pos 0) ∷ get_or u 1 (pos 0) ∷ get_or u 2 (pos 0) ∷ get_or u 3 (pos 0) ∷ []) ≡ pos 0
    → dot (get_or n 0 (pos 0) ∷ get_or n 1 (pos 0) ∷ get_or n 2 (pos 0) ∷ get_or n 3 (pos 0) ∷ [])
    (get_or v 0 (pos 0) ∷ get_or v 1 (pos 0) ∷ get_or v 2 (pos 0) ∷ get_or v 3 (pos 0) ∷ []) ≡ pos 0
    → dot (get_or n 0 (pos 0) ∷ get_or n 1 (pos 0) ∷ get_or n 2 (pos 0) ∷ get_or n 3 (pos 0) ∷ [])
    (get_or w 0 (pos 0) ∷ get_or w 1 (pos 0) ∷ get_or w 2 (pos 0) ∷ get_or w 3 (pos 0) ∷ []) ≡ pos 0
    → scaled (turn
    ((get_or u 0 (pos 0) ∷ get_or u 1 (pos 0) ∷ get_or u 2 (pos 0) ∷ get_or u 3 (pos 0) ∷ []) ∷
    (get_or v 0 (pos 0) ∷ get_or v 1 (pos 0) ∷ get_or v 2 (pos 0) ∷ get_or v 3 (pos 0) ∷ []) ∷
    (get_or w 0 (pos 0) ∷ get_or w 1 (pos 0) ∷ get_or w 2 (pos 0) ∷ get_or w 3 (pos 0) ∷ []) ∷ z ∷ []))
    (get_or n 0 (pos 0) ∷ get_or n 1 (pos 0) ∷ get_or n 2 (pos 0) ∷ get_or n 3 (pos 0) ∷ []) ≡ scaled
    (dot (get_or n 0 (pos 0) ∷ get_or n 1 (pos 0) ∷ get_or n 2 (pos 0) ∷ get_or n 3 (pos 0) ∷ []) z)
    (cofactors
    ((get_or u 0 (pos 0) ∷ get_or u 1 (pos 0) ∷ get_or u 2 (pos 0) ∷ get_or u 3 (pos 0) ∷ []) ∷
    (get_or v 0 (pos 0) ∷ get_or v 1 (pos 0) ∷ get_or v 2 (pos 0) ∷ get_or v 3 (pos 0) ∷ []) ∷
    (get_or w 0 (pos 0) ∷ get_or w 1 (pos 0) ∷ get_or w 2 (pos 0) ∷ get_or w 3 (pos 0) ∷
    []) ∷ [])))) (sym (list_of_four x lx))
    (cramer_four_vars (get_or n 0 (pos 0)) (get_or n 1 (pos 0)) (get_or n 2 (pos 0)) (get_or n 3 (pos 0)) (get_or u 0 (pos 0)) (get_or u 1 (pos 0))
    (get_or u 2 (pos 0)) (get_or u 3 (pos 0)) (get_or v 0 (pos 0)) (get_or v 1 (pos 0)) (get_or v 2 (pos 0)) (get_or v 3 (pos 0))
    (get_or w 0 (pos 0)) (get_or w 1 (pos 0)) (get_or w 2 (pos 0)) (get_or w 3 (pos 0)) (get_or x 0 (pos 0)) (get_or x 1 (pos 0))
    (get_or x 2 (pos 0)) (get_or x 3 (pos 0))))))))
