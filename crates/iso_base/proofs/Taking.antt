-- Bytes taken from the front of what is left.
use Rattle.std.proofs.Common.{◌≡◌, ℕ, ◌<◌, ◌≤◌, List, [], ◌++◌, length, take, drop, min, arith, ap, sym, ◌∙◌, length-append, length-drop, take-append-drop}
use Rattle.std.proofs.lemmas.List.{take_at, length-take-le}
use Rattle.std.proofs.Math.ListN.{drop_of_length-le}

-- where the first `count` bytes of what was left stand at the front of a buffer, they were taken off it, and nothing is left where a buffer with room got none
pub consumed : (old new front buf : List ℕ) (count step : ℕ) → front ≡ take count old → new ≡ drop count old
    → count ≡ min (min (length old) step) (length buf) → 1 ≤ step
    → (old ≡ take count (front ++ drop count buf) ++ new) × (count ≡ 0 → 0 < length (front ++ drop count buf) → new ≡ [])
consumed old new front buf count step is_front is_new is_count some =
    let long : count ≤ length old = omega arith in
    let counted : length front ≡ count = ap length is_front ∙ length-take-le count old long in
    let begins : take count (front ++ drop count buf) ≡ take count old = take_at front (drop count buf) count counted ∙ is_front in
    let room : length (front ++ drop count buf) ≡ length buf = omega (arith, length-append front (drop count buf), length-drop count buf) in (
      sym (take-append-drop count old) ∙ ap (λ xs. xs ++ drop count old) (sym begins) ∙ ap (λ xs. take count (front ++ drop count buf) ++ xs) (sym is_new),
      λ none has_room. let ends : length old ≤ count = omega arith in is_new ∙ drop_of_length-le old ends,
    )
