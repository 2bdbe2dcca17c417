-- Planes of cubes that are written row by row.
use Rattle.std.proofs.Common.{ap, arith, inl, inr, subst, sym, ◌∙◌}
use Rattle.std.proofs.lemmas.Bool.{cases_lt}
use Rattle.std.proofs.lemmas.Nat.{div_below, mod_below, row_fits, same_from_place}
use Rattle.std.proofs.Math.Nat.{div-add-mod}
use Rattle.std.specs.Prelude.{Bool, List, length, suc, zero, ℕ, ◌%◌, ◌*◌, ◌+◌, ◌/◌, ◌<◌, ◌≤◌, ◌≡◌, ◌≢◌, ◌⊎◌, All}
use Rattle.lists.proofs.Tests.{next_below}
use Rattle.bit_rows.specs.Rows.{IsRowOf, row_bit}
use Rattle.grid_rows.specs.declared.grids.GridRows.{GridRows}
use Rattle.grid_rows.specs.declared.planes.BitPlane.{BitPlane}
use Rattle.grid_rows.specs.Planes.{HasRowOfBits, bit_row, with_bits}
use Rattle.grid_rows.specs.RowNumbers.{bordered_rows, cube_rows, sample_row, sample_rows}
use Rattle.grid_rows.proofs.PlaneRows.{kept_rows}
use Rattle.layer_scan.specs.Corners.{HaveCorners}
use Rattle.layer_scan.specs.CubePlanes.{HasRows, KeepsBorder, with_border}

pub left_positive : (c n m : ℕ) → c < n * m → 0 < n
left_positive c zero m h = absurd (omega arith)
left_positive c (suc n) m h = omega arith

-- each number below the count of rows has a row
pub row_there : (rows words : ℕ) (plane : BitPlane) (n : ℕ) → HasRows rows words plane → n < rows → HasRowOfBits plane n
row_there rows words plane n has h =
    let fits : n * words + words ≤ rows * words = row_fits n words rows words h (omega arith) in
    let within : n * words + words ≤ length plane.bits.items = omega (arith, fits, has.1) in
    subst (λ (w : ℕ). n * w + w ≤ length plane.bits.items) (sym has.0) within

pub have_corners : (rows words : ℕ) (lower upper : BitPlane) (corners : List ℕ) → HasRows rows words lower → HasRows rows words upper
    → All (λ n. n < rows) corners → length corners ≡ 4 → HaveCorners lower upper corners
have_corners rows words lower upper corners first second within four =
    (second.0 ∙ sym first.0, λ k d h. (row_there rows words lower _ first (within k d h), row_there rows words upper _ second (within k d h)), four)

-- two rows of cubes that have one number with the border are one
pub same_row : (rows : GridRows) (c d : ℕ) → c < cube_rows rows → d < cube_rows rows → with_border rows c ≡ with_border rows d → c ≡ d
same_row rows c d hc hd e =
    let n : ℕ = rows.second.cubes in
    let some : 0 < n = left_positive c n rows.third.cubes hc in
    let first : c % n + 1 < n + 2 = omega (arith, mod_below c n some) in
    let second : d % n + 1 < n + 2 = omega (arith, mod_below d n some) in
    let turned : (c / n + 1) * (n + 2) + (c % n + 1) ≡ (d / n + 1) * (n + 2) + (d % n + 1) = omega (arith, e) in
    let both = same_from_place (c / n + 1) (c % n + 1) (d / n + 1) (d % n + 1) (n + 2) first second turned in
    let quotient : c / n ≡ d / n = omega (arith, both.0) in
    let rest : c % n ≡ d % n = omega (arith, both.1) in
    sym (div-add-mod c n) ∙ ap (λ q. n * q + c % n) quotient ∙ ap (λ r. n * (d / n) + r) rest ∙ div-add-mod d n

pub within_border : (rows : GridRows) (c : ℕ) → c < cube_rows rows → with_border rows c < bordered_rows rows
within_border rows c h =
    let n : ℕ = rows.second.cubes in
    let some : 0 < n = left_positive c n rows.third.cubes h in
    let low : c % n + 1 < n + 2 = omega (arith, mod_below c n some) in
    let turned : c < rows.third.cubes * n = omega (arith, h) in
    let high : c / n + 1 < rows.third.cubes + 2 = omega (arith, div_below c n rows.third.cubes some turned) in
    next_below (c % n + 1) (n + 2) (c / n + 1) (rows.third.cubes + 2) low high

-- the first corner of a row of cubes is in a row of samples
pub sample_row_there : (rows : GridRows) (c : ℕ) → c < cube_rows rows → sample_row rows (c % rows.second.cubes) (c / rows.second.cubes) < sample_rows rows
sample_row_there rows c h =
    let n : ℕ = rows.second.cubes in
    let some : 0 < n = left_positive c n rows.third.cubes h in
    let turned : c < rows.third.cubes * n = omega (arith, h) in
    let low : c % n < rows.second.samples = omega (arith, mod_below c n some, rows.few.0.2) in
    let high : c / n < rows.third.samples = omega (arith, div_below c n rows.third.cubes some turned, rows.few.1.2) in
    next_below (c % n) rows.second.samples (c / n) rows.third.samples low high

-- the rows of cubes below a number are told by a test
abbrev pub AreBelow : GridRows → (ℕ → ℕ → Bool) → ℕ → BitPlane → Type 0
AreBelow rows passes number plane = (c : ℕ) → c < number → IsRowOf (passes c) (bit_row plane (with_border rows c))

-- how far a plane of cubes is written
pub record IsWritten (rows : GridRows) (passes : ℕ → ℕ → Bool) (number : ℕ) (old plane : BitPlane) : Type 0 where
  pub shape : HasRows (bordered_rows rows) rows.words plane
  pub cubes : AreBelow rows passes number plane
  pub border : KeepsBorder rows old plane

-- one row more is written
pub one_more_row : (rows : GridRows) (passes : ℕ → ℕ → Bool) (number n : ℕ) (old plane : BitPlane) (words : List ℕ)
    → IsWritten rows passes number old plane → number < cube_rows rows → n ≡ with_border rows number
    → length words ≡ plane.words → IsRowOf (passes number) words
    → IsWritten rows passes (number + 1) old (with_bits plane n words)
one_more_row rows passes number n old plane words before h at long is =
    let new : BitPlane = with_bits plane n words in
    let total : ℕ = bordered_rows rows in
    let bound : n < total = subst (λ (m : ℕ). m < total) (sym at) (within_border rows number h) in
    let kept = kept_rows plane.bits plane.words n words (row_there total rows.words plane n before.shape bound) long in
    let same = λ (m : ℕ) (b : m < total) (ne : m ≢ n). kept.2 m (row_there total rows.words plane m before.shape b) ne in
    record {
      shape = (before.shape.0, kept.1 ∙ before.shape.1);
      cubes = λ c lt. by_order c (cases_lt c number) lt kept.0 same;
      border = λ m b none. same m b (λ e. none number h (e ∙ at)) ∙ before.border m b none;
    }
  where
    by_order : (c : ℕ) → (c < number) ⊎ (number ≤ c) → c < number + 1 → bit_row (with_bits plane n words) n ≡ words
        → ((m : ℕ) → m < bordered_rows rows → m ≢ n → bit_row (with_bits plane n words) m ≡ bit_row plane m)
        → IsRowOf (passes c) (bit_row (with_bits plane n words) (with_border rows c))
    by_order c (inl less) lt own same = λ x.
        let c_in : c < cube_rows rows = omega (arith, less, h) in
        let other : with_border rows c ≢ n = λ e. let one = same_row rows c number c_in h (e ∙ at) in omega (arith, one, less) in
        ap (λ r. row_bit r x) (same (with_border rows c) (within_border rows c c_in) other) ∙ before.cubes c less x
    by_order c (inr more) lt own same =
        let one : number ≡ c = omega (arith, more, lt) in
        let here : IsRowOf (passes number) (bit_row (with_bits plane n words) (with_border rows number)) =
        λ x. ap (λ m. row_bit (bit_row (with_bits plane n words) m) x) (sym at) ∙ ap (λ r. row_bit r x) own ∙ is x in
        subst (λ (k : ℕ). IsRowOf (passes k) (bit_row (with_bits plane n words) (with_border rows k))) one here

-- ---- planes of which each row is written

-- how far the rows of a plane are told by a test
pub record IsFilled (rows words : ℕ) (passes : ℕ → ℕ → Bool) (number : ℕ) (plane : BitPlane) : Type 0 where
  pub shape : HasRows rows words plane
  pub done : (n : ℕ) → n < number → IsRowOf (passes n) (bit_row plane n)

pub one_more_filled : (rows words : ℕ) (passes : ℕ → ℕ → Bool) (number : ℕ) (plane : BitPlane) (row : List ℕ)
    → IsFilled rows words passes number plane → number < rows → length row ≡ plane.words → IsRowOf (passes number) row
    → IsFilled rows words passes (number + 1) (with_bits plane number row)
one_more_filled rows words passes number plane row before h long is =
    let kept = kept_rows plane.bits plane.words number row (row_there rows words plane number before.shape h) long in
    record { shape = (before.shape.0, kept.1 ∙ before.shape.1); done = λ n lt. by_order n (cases_lt n number) lt kept.0 kept.2 }
  where
    by_order : (n : ℕ) → (n < number) ⊎ (number ≤ n) → n < number + 1 → bit_row (with_bits plane number row) number ≡ row
        → ((m : ℕ) → HasRowOfBits plane m → m ≢ number → bit_row (with_bits plane number row) m ≡ bit_row plane m)
        → IsRowOf (passes n) (bit_row (with_bits plane number row) n)
    by_order n (inl less) lt own same = λ x.
        let there : HasRowOfBits plane n = row_there rows words plane n before.shape (omega (arith, less, h)) in
        let other : n ≢ number = λ e. omega (arith, e, less) in
        ap (λ r. row_bit r x) (same n there other) ∙ before.done n less x
    by_order n (inr more) lt own same =
        let one : number ≡ n = omega (arith, more, lt) in
        let here : IsRowOf (passes number) (bit_row (with_bits plane number row) number) = λ x. ap (λ r. row_bit r x) own ∙ is x in
        subst (λ (k : ℕ). IsRowOf (passes k) (bit_row (with_bits plane number row) k)) one here
