-- A face that some simplex has is glued exactly where no two simplices have it with the same sign.
use Rattle.std.proofs.Common.{List, ap, arith, inl, inr, true, ℕ, ◌+◌, ◌≤◌, ◌≡◌, ℤ, pos, negsuc, ◌+ℤ◌}
use Rattle.std.specs.Prelude.{count_by, ◌&&◌, ◌||◌, ◌==◌}
use Rattle.std.proofs.lemmas.Bool.{and_from, and_parts, cases_eq, or_cases, or_left, or_right}
use Rattle.std.proofs.lemmas.Int.{ints}
use Rattle.iso_model.specs.Faces.{face_count, face_sum}
use Rattle.iso_model.specs.Turns.{same_int}
use Rattle.lists.proofs.Tests.{equal_of, of_equal}
use Rattle.mesh_audit.specs.Findings.{is_glued}
use Rattle.mesh_laws.proofs.FaceSigns.{has_signed}
use Rattle.mesh_laws.proofs.SignedFaces.{face_count_is, face_sum_is}

glued : (c : ℕ) (s : ℤ) (p n : ℕ) → c ≡ p + n → s +ℤ pos n ≡ pos p → 1 ≤ c → p ≤ 1 → n ≤ 1 → (c == 1 || (c == 2 && same_int s (pos 0))) ≡ true
glued c s p n e f some one other = elim (cases_eq c 1) as (λ _. (c == 1 || (c == 2 && same_int s (pos 0))) ≡ true) [
  | inl h ↦ or_left (c == 1) (c == 2 && same_int s (pos 0)) (of_equal c 1 h)
  | inr h ↦
      let two : c ≡ 2 = both c h some (omega (arith, e, one, other)) in
      let first : p ≡ 1 = omega (arith, e, two, one, other) in
      let second : n ≡ 1 = omega (arith, e, two, one, other) in
      let none : s ≡ pos 0 = omega (arith, ints, f, first, second) in
      or_right (c == 1) (c == 2 && same_int s (pos 0))
      (and_from (c == 2) (same_int s (pos 0)) (of_equal c 2 two) (ap (λ (z : ℤ). same_int z (pos 0)) none))
]
  where
    both : (c : ℕ) → (c ≡ 1 → ⊥) → 1 ≤ c → c ≤ 2 → c ≡ 2
    both c h l m = elim (cases_eq c 2) as (λ _. c ≡ 2) [
      | inl e ↦ e
      | inr n ↦ absurd (h (one_left c l m n))
    ]
      where
        one_left : (c : ℕ) → 1 ≤ c → c ≤ 2 → (c ≡ 2 → ⊥) → c ≡ 1
        one_left c l m n = grind arith

-- where no two simplices have the face with the same sign, it is glued
pub glued_of_signs : (ws : List (List ℕ)) (face : List ℕ) → 1 ≤ face_count ws face → count_by (has_signed 0 face) ws ≤ 1
    → count_by (has_signed 1 face) ws ≤ 1 → is_glued ws face ≡ true
glued_of_signs ws face some one other =
    glued (face_count ws face) (face_sum ws face) (count_by (has_signed 0 face) ws) (count_by (has_signed 1 face) ws) (face_count_is ws face)
    (face_sum_is ws face) some one other

signs : (c : ℕ) (s : ℤ) (p n : ℕ) → c ≡ p + n → s +ℤ pos n ≡ pos p → (c == 1 || (c == 2 && same_int s (pos 0))) ≡ true → (p ≤ 1) × (n ≤ 1)
signs c s p n e f g = elim (or_cases (c == 1) (c == 2 && same_int s (pos 0)) g) as (λ _. (p ≤ 1) × (n ≤ 1)) [
  | inl h ↦ let one = equal_of c 1 h in (omega (arith, one, e), omega (arith, one, e))
  | inr h ↦
      let parts = and_parts (c == 2) (same_int s (pos 0)) h in
      let two = equal_of c 2 parts.0 in
      let none = no_sum s parts.1 in
      let same : p ≡ n = omega (arith, ints, f, none) in
      (omega (arith, two, e, same), omega (arith, two, e, same))
]
  where
    no_sum : (s : ℤ) → same_int s (pos 0) ≡ true → s ≡ pos 0
    no_sum (pos a) t = ap pos (equal_of a 0 t)
    no_sum (negsuc a) t = absurd (cc)

-- and where it is glued, no two simplices have it with the same sign
pub signs_of_glued : (ws : List (List ℕ)) (face : List ℕ) → is_glued ws face ≡ true
    → (count_by (has_signed 0 face) ws ≤ 1) × (count_by (has_signed 1 face) ws ≤ 1)
signs_of_glued ws face g =
    signs (face_count ws face) (face_sum ws face) (count_by (has_signed 0 face) ws) (count_by (has_signed 1 face) ws) (face_count_is ws face)
    (face_sum_is ws face) g
