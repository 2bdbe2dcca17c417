-- How two to four sizes stand in four places.
use Rattle.std.specs.Prelude.{◌≡◌, ℕ, ◌-◌, ◌≤◌, List, ◌++◌, length, take, drop, replicate, All, Bool, ◌||◌, ◌==◌, ◌^◌, ℤ, pos, neg_ℤ, ◌≤ℤ◌}
use Rattle.std.proofs.Common.{sym, ap, ◌∙◌, arith, take-append-drop}
use Rattle.std.proofs.lemmas.List.{length-take}

-- four places, of which those beyond the axes hold 1
pub record HasShape (dims : ℕ) (sizes : List ℕ) : Type 0 where
  pub few : dims ≤ 4
  pub four : length sizes ≡ 4
  pub beyond : drop dims sizes ≡ replicate (4 - dims) 1

-- the sizes, and 1 in each place beyond them up to four
abbrev pub all_sizes : List ℕ → List ℕ
all_sizes sizes = sizes ++ replicate (4 - length sizes) 1

-- there are as many axes as sizes before the ones
pub axes-stated : (dims : ℕ) (sizes : List ℕ) → HasShape dims sizes → length (take dims sizes) ≡ dims
axes-stated dims sizes shape = omega (arith, length-take dims sizes, shape.few, shape.four)

-- the sizes before the ones fix all four places
pub sizes-stated : (dims : ℕ) (sizes : List ℕ) → HasShape dims sizes → all_sizes (take dims sizes) ≡ sizes
sizes-stated dims sizes shape =
    ap (λ n. take dims sizes ++ replicate (4 - n) 1) (axes-stated dims sizes shape)
    ∙ ap (λ ones. take dims sizes ++ ones) (sym shape.beyond) ∙ take-append-drop dims sizes

-- sizes that a file may state
abbrev pub AreSizes : List ℕ → Type 0
AreSizes sizes = All (λ n. (1 ≤ n) × (n ≤ 4294967295)) sizes

-- 1, 2 or 4 bytes
abbrev pub is_width : ℕ → Bool
is_width width = width == 1 || (width == 2 || width == 4)

-- samples that a grid may have
abbrev pub InRange : ℤ → Type 0
InRange s = (neg_ℤ (pos (2 ^ 31)) ≤ℤ s) × (s ≤ℤ pos (2 ^ 32 - 1))
