-- Rows of so many numbers below a bound, one behind the other.
use Rattle.std.specs.Prelude.{◌≡◌, ℕ, ◌*◌, ◌<◌, List, [], ◌∷◌, flat_map, length, All}
use Rattle.std.proofs.Common.{sym, arith}
use Rattle.std.proofs.lemmas.List.{length-append}
use Rattle.std.proofs.lemmas.List.Elements.{All-nil, All-append, All-head, All-tail}

-- so many members below a bound
abbrev pub IsRow : ℕ → ℕ → List ℕ → Type 0
IsRow d most w = (length w ≡ d) × All (λ e. e < most) w

pub length-rows : (most d : ℕ) (ws : List (List ℕ)) → All (IsRow d most) ws → length (flat_map (λ (w : List ℕ). w) ws) ≡ length ws * d
length-rows most d [] right = let e : 0 * d ≡ 0 = omega arith in sym e
length-rows most d (w ∷ ws) right =
    omega (
      arith,
      length-append w (flat_map (λ (w : List ℕ). w) ws),
      (All-head (IsRow d most) w ws right).0,
      length-rows most d ws (All-tail (IsRow d most) w ws right),
    )

pub All-rows : (most d : ℕ) (ws : List (List ℕ)) → All (IsRow d most) ws → All (λ e. e < most) (flat_map (λ (w : List ℕ). w) ws)
All-rows most d [] right = All-nil (λ e. e < most)
All-rows most d (w ∷ ws) right =
    All-append (λ e. e < most) w (flat_map (λ (w : List ℕ). w) ws) (All-head (IsRow d most) w ws right).1
    (All-rows most d ws (All-tail (IsRow d most) w ws right))
