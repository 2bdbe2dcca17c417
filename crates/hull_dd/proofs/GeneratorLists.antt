-- Members of lists.
use Rattle.std.specs.Prelude.{◌≡◌, ◌⊎◌, ℕ, zero, suc, ◌+◌, ◌*◌, ◌%◌, ◌^◌, ◌<◌, bit_or, List, [], ◌∷◌, ◌++◌, length, take, slice_index_or, Contains}
use Rattle.std.specs.Int.{bit_at}
use Rattle.std.proofs.Common.{sym, subst, arith, inl, inr}
use Rattle.std.proofs.lemmas.List.{take_more}
use Rattle.std.proofs.lemmas.List.Elements.{Contains-push, Contains-append_left}
use Rattle.hull_dd.specs.Generators.{with_point}
use Rattle.hull_dd.specs.Starts.{IsSetOf}
use Rattle.hull_dd.proofs.GeneratorBits.{point_added, member_stays, member_split}
use Rattle.lists.proofs.Bits.{shifted_one}

-- a member of a list with one more at the end is that one or a member of the list
pub Contains-pushed : {X : Type 0} (xs : List X) (x y : X) → Contains (xs ++ x ∷ []) y → (y ≡ x) ⊎ Contains xs y
Contains-pushed [] x y (zero, l, e) = inl (sym e)
Contains-pushed [] x y (suc k, l, e) = absurd (omega arith)
Contains-pushed (z ∷ zs) x y (zero, l, e) = inr (0, omega arith, e)
Contains-pushed (z ∷ zs) x y (suc k, l, e) = elim (Contains-pushed zs x y (k, omega arith, e))
    [ inl s ↦ inl s | inr c ↦ inr (suc c.0, omega (arith, c.1), c.2) ]

-- the set of the first points, with one point more, as the code sets its bit
pub set_more : (choice : List ℕ) (i set : ℕ) → i < length choice → slice_index_or choice i 0 < 48 → IsSetOf (take i choice) set
    → IsSetOf (take (i + 1) choice) (bit_or set (1 * 2 ^ slice_index_or choice i 0 % 2 ^ 64))
set_more choice i set l few h =
    subst (λ (n : ℕ). IsSetOf (take (i + 1) choice) (bit_or set n)) (sym (shifted_one (slice_index_or choice i 0) (omega arith)))
    (subst (λ (xs : List ℕ). IsSetOf xs (with_point set p)) (sym (take_more choice i 0 l)) more)
  where
    p : ℕ
    p = slice_index_or choice i 0

    more : IsSetOf (take i choice ++ p ∷ []) (with_point set p)
    more j = (
      λ b. elim (member_split set p j b) [
        | inl e ↦ subst (Contains (take i choice ++ p ∷ [])) (sym e) (Contains-push (take i choice) p)
        | inr m ↦ Contains-append_left (take i choice) (p ∷ []) j ((h j).0 m)
      ],
      λ c. elim (Contains-pushed (take i choice) p j c) [
        | inl e ↦ subst (λ (k : ℕ). bit_at (with_point set p) k ≡ 1) (sym e) (point_added set p)
        | inr m ↦ member_stays set p j ((h j).1 m)
      ],
    )
