-- The corners of cubes in rows of samples: one row more, and none past the rows.
use Rattle.std.proofs.Common.{ap, arith, sym, ◌∙◌}
use Rattle.std.proofs.lemmas.Grind.{common_steps}
use Rattle.std.proofs.lemmas.List.Folds.{list_all_at, list_all_more, list_any_more}
use Rattle.std.specs.Prelude.{List, false, length, slice_index, take, ℕ, ◌&&◌, ◌||◌, ◌*◌, ◌+◌, ◌<◌, ◌≤◌, ◌≡◌}
use Rattle.bit_rows.specs.Rows.{row_bit}
use Rattle.grid_rows.specs.declared.planes.BitPlane.{BitPlane}
use Rattle.grid_rows.specs.Planes.{HasRowOfBits, bit_row}
use Rattle.layer_scan.specs.Corners.{HaveCorners, all_four, every_corner, some_corner, some_of_four}
use Rattle.layer_scan.proofs.WordTests.{row_past}

-- a row of a plane has as many words as the plane says
pub long_row : (plane : BitPlane) (n : ℕ) → HasRowOfBits plane n → length (bit_row plane n) ≡ plane.words
long_row plane n h = grind (arith, common_steps)

pub every_more : (lower upper : BitPlane) (corners : List ℕ) (i x : ℕ) (near far : List ℕ) → i < length corners
    → near ≡ bit_row lower (slice_index corners i) → far ≡ bit_row upper (slice_index corners i)
    → (every_corner lower upper (take i corners) x && all_four near far x) ≡ every_corner lower upper (take (i + 1) corners) x
every_more lower upper corners i x near far h is are =
    ap (λ r. every_corner lower upper (take i corners) x && all_four r far x) is
    ∙ ap (λ r. every_corner lower upper (take i corners) x && all_four (bit_row lower (slice_index corners i)) r x) are
    ∙ sym (list_all_more (λ n. all_four (bit_row lower n) (bit_row upper n) x) corners i 0 h)

pub some_more : (lower upper : BitPlane) (corners : List ℕ) (i x : ℕ) (near far : List ℕ) → i < length corners
    → near ≡ bit_row lower (slice_index corners i) → far ≡ bit_row upper (slice_index corners i)
    → (some_corner lower upper (take i corners) x || some_of_four near far x) ≡ some_corner lower upper (take (i + 1) corners) x
some_more lower upper corners i x near far h is are =
    ap (λ r. some_corner lower upper (take i corners) x || some_of_four r far x) is
    ∙ ap (λ r. some_corner lower upper (take i corners) x || some_of_four (bit_row lower (slice_index corners i)) r x) are
    ∙ sym (list_any_more (λ n. some_of_four (bit_row lower n) (bit_row upper n) x) corners i 0 h)

-- past the words of the rows no cube has all its corners
pub every_past : (lower upper : BitPlane) (corners : List ℕ) (x : ℕ) → HaveCorners lower upper corners
    → 64 * lower.words ≤ x → every_corner lower upper corners x ≡ false
every_past lower upper corners x have past =
    let some : 0 < length corners = omega (arith, have.2) in
    let n : ℕ = slice_index corners 0 in
    let there : HasRowOfBits lower n = (have.1 0 0 some).0 in
    let long : length (bit_row lower n) ≡ lower.words = long_row lower n there in
    let row : List ℕ = bit_row lower n in
    let high : List ℕ = bit_row upper n in
    let none : row_bit row x ≡ false = row_past row x (omega (arith, long, past)) in
    list_all_at (λ m. all_four (bit_row lower m) (bit_row upper m) x) corners 0 0 some
    (ap (λ t. (t && row_bit row (x + 1)) && (row_bit high x && row_bit high (x + 1))) none)
