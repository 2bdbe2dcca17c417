-- Planes whose rows are written to: lists in which a part is written over.
use Rattle.std.proofs.Common.{ap, arith, sym, ◌∙◌, ℕ, ◌+◌, ◌-◌, ◌*◌, ◌<◌, ◌≤◌, ◌≡◌, ◌≢◌, ◌⊎◌, inl, inr, List, ◌++◌, length, take, drop, replicate}
use Rattle.std.proofs.Math.Nat.{mul-le-mul_right}
use Rattle.std.proofs.lemmas.Bool.{cases_order}
use Rattle.std.specs.declared.vec.Vec.{Vec}
use Rattle.std.specs.Vec.{with_items_from}
use Rattle.std.specs.List.{slice_range}
use Rattle.std.proofs.Math.Seq.{drop-append-add, drop-append_seam, take-append_seam}
use Rattle.std.proofs.lemmas.Grind.{common_steps}
use Rattle.std.proofs.lemmas.List.{drop-append-le, drop-drop, drop-replicate, drop-take, length-replicate, take-append-le, take-replicate, take-take}
use Rattle.std.proofs.lemmas.List.{with_items_is}

-- a list with other elements from i on
abbrev put : {X : Type 0} → List X → ℕ → List X → List X
put xs i ws = take i xs ++ (ws ++ drop (length ws) (drop i xs))

first_part : {X : Type 0} (xs : List X) (i : ℕ) → i ≤ length xs → length (take i xs) ≡ i
first_part xs i h = grind (arith, common_steps)

long_put : {X : Type 0} (xs : List X) (i : ℕ) (ws : List X) → i + length ws ≤ length xs → length (put xs i ws) ≡ length xs
long_put xs i ws h = grind (arith, common_steps)

from_put : {X : Type 0} (xs : List X) (i : ℕ) (ws : List X) → i + length ws ≤ length xs → drop i (put xs i ws) ≡ ws ++ drop (length ws) (drop i xs)
from_put xs i ws h =
    let e : length (take i xs) ≡ i = first_part xs i (omega (arith, h)) in
    ap (λ n. drop n (put xs i ws)) (sym e) ∙ drop-append_seam (take i xs) (ws ++ drop (length ws) (drop i xs))

put_there : {X : Type 0} (xs : List X) (i : ℕ) (ws : List X) → i + length ws ≤ length xs → take (length ws) (drop i (put xs i ws)) ≡ ws
put_there xs i ws h = ap (take (length ws)) (from_put xs i ws h) ∙ take-append_seam ws (drop (length ws) (drop i xs))

put_after : {X : Type 0} (xs : List X) (i : ℕ) (ws : List X) (j k : ℕ) → j + k ≤ i → i ≤ length xs → take k (drop j (put xs i ws)) ≡ take k (drop j xs)
put_after xs i ws j k h l =
    let tail : List _ = ws ++ drop (length ws) (drop i xs) in
    let e : length (take i xs) ≡ i = first_part xs i l in
    let first = drop-append-le j (take i xs) tail (omega (arith, e, h)) in
    let m : j + (i - j) ≡ i = omega (arith, h) in
    let part : drop j (take i xs) ≡ take (i - j) (drop j xs) = ap (λ n. drop j (take n xs)) (sym m) ∙ drop-take j (i - j) xs in
    let long : k ≤ length (drop j (take i xs)) = grind (arith, common_steps, e, h) in
    ap (take k) first ∙ take-append-le k (drop j (take i xs)) tail long ∙ ap (take k) part ∙ take-take k (i - j) (drop j xs) (omega (arith, h))

put_before : {X : Type 0} (xs : List X) (i : ℕ) (ws : List X) (j : ℕ) → i + length ws ≤ j → i + length ws ≤ length xs → drop j (put xs i ws) ≡ drop j xs
put_before xs i ws j h l =
    let m : ℕ = j - i - length ws in
    let e : i + (length ws + m) ≡ j = omega (arith, h) in
    ap (λ n. drop n (put xs i ws)) (sym e) ∙ sym (drop-drop (length ws + m) i (put xs i ws))
    ∙ ap (drop (length ws + m)) (from_put xs i ws l) ∙ drop-append-add ws (drop (length ws) (drop i xs)) m
    ∙ drop-drop m (length ws) (drop i xs) ∙ drop-drop (length ws + m) i xs ∙ ap (λ n. drop n xs) e

-- ---- rows of the same number of words, one behind the other

written : {X Z : Type 0} (v : Vec X Z) (i : ℕ) (ws : List X) → i + length ws ≤ length v.items → (with_items_from v i ws).items ≡ put v.items i ws
written v i ws h = with_items_is v (put v.items i ws) (long_put v.items i ws h ∙ sym v.ok.0)

row_is : {X : Type 0} (xs : List X) (w n : ℕ) → slice_range xs (n * w) (n * w + w) ≡ take w (drop (n * w) xs)
row_is xs w n = let e : n * w + w - n * w ≡ w = omega arith in ap (λ k. take k (drop (n * w) xs)) e

-- of two rows one ends before the other begins
apart : (w m n : ℕ) → m < n → m * w + w ≤ n * w
apart w m n h = let more : (m + 1) * w ≤ n * w = mul-le-mul_right w (omega (arith, h)) in omega (arith, more)

other_row : {X : Type 0} (xs : List X) (w n : ℕ) (ws : List X) → n * w + w ≤ length xs → length ws ≡ w → (m : ℕ) → m ≢ n
    → take w (drop (m * w) (put xs (n * w) ws)) ≡ take w (drop (m * w) xs)
other_row xs w n ws h e m ne = by_order (cases_order m n)
  where
    within : n * w + length ws ≤ length xs
    within = omega (arith, h, e)

    by_order : (m ≡ n) ⊎ ((m < n) ⊎ (n < m)) → take w (drop (m * w) (put xs (n * w) ws)) ≡ take w (drop (m * w) xs)
    by_order (inl same) = absurd (ne same)
    by_order (inr (inl less)) = put_after xs (n * w) ws (m * w) w (apart w m n less) (omega (arith, h))
    by_order (inr (inr more)) =
        let behind : n * w + w ≤ m * w = apart w n m more in
        ap (take w) (put_before xs (n * w) ws (m * w) (omega (arith, behind, e)) within)

pub kept_rows : {X Z : Type 0} (v : Vec X Z) (w n : ℕ) (ws : List X) → n * w + w ≤ length v.items → length ws ≡ w
    → (slice_range (with_items_from v (n * w) ws).items (n * w) (n * w + w) ≡ ws)
    × (length (with_items_from v (n * w) ws).items ≡ length v.items)
    × ((m : ℕ) → m * w + w ≤ length v.items → m ≢ n
    → slice_range (with_items_from v (n * w) ws).items (m * w) (m * w + w) ≡ slice_range v.items (m * w) (m * w + w))
kept_rows v w n ws h e =
    let within : n * w + length ws ≤ length v.items = omega (arith, h, e) in
    let is = written v (n * w) ws within in (
      row_is (with_items_from v (n * w) ws).items w n ∙ ap (λ xs. take w (drop (n * w) xs)) is
          ∙ ap (λ k. take k (drop (n * w) (put v.items (n * w) ws))) (sym e) ∙ put_there v.items (n * w) ws within,
      ap length is ∙ long_put v.items (n * w) ws within,
      λ m there ne. row_is (with_items_from v (n * w) ws).items w m ∙ ap (λ xs. take w (drop (m * w) xs)) is
          ∙ other_row v.items w n ws h e m ne ∙ sym (row_is v.items w m),
    )

pub empty_rows : {X : Type 0} (xs : List X) (x : X) (rows w n : ℕ) → xs ≡ replicate (rows * w) x → n < rows
    → (n * w + w ≤ length xs) × (slice_range xs (n * w) (n * w + w) ≡ replicate w x)
empty_rows xs x rows w n is less =
    let within : n * w + w ≤ rows * w = apart w n rows less in
    let left : w ≤ rows * w - n * w = omega (arith, within) in (
      let long : length xs ≡ rows * w = ap length is ∙ length-replicate (rows * w) x in omega (arith, long, within),
      row_is xs w n ∙ ap (λ ys. take w (drop (n * w) ys)) is ∙ ap (take w) (drop-replicate (n * w) (rows * w) x)
          ∙ take-replicate w (rows * w - n * w) x left,
    )
