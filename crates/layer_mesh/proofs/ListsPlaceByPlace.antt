-- A list that is made from another of the same length, place by place.
use Rattle.std.proofs.Common.{arith, refl, below_more, get_or-set_other, get_or-set_same}
use Rattle.std.proofs.Math.ListN.{length-set}
use Rattle.std.specs.Prelude.{ℕ, suc, ◌+◌, ◌<◌, ◌≡◌, ◌≢◌, List, [], ◌∷◌, length, map, slice_index, slice_index_or, slice_set}

-- one place more
pub one_more : {Y : Type 0} (f : ℕ → Y) (d : Y) (xs : List ℕ) (ys : List Y) (a : ℕ) (y : Y) → length ys ≡ length xs → a < length xs
    → ((i : ℕ) → i < a → slice_index_or ys i d ≡ f (slice_index xs i)) → y ≡ f (slice_index xs a)
    → (length (slice_set ys a y) ≡ length xs) × ((i : ℕ) → i < a + 1 → slice_index_or (slice_set ys a y) i d ≡ f (slice_index xs i))
one_more f d xs ys a y long inside before here =
    let at : a < length ys = omega (arith, long, inside) in (
      simp length-set long,
      below_more (λ i. slice_index_or (slice_set ys a y) i d ≡ f (slice_index xs i)) a
          (λ i h. let apart : i ≢ a = omega (arith, h) in rw get_or-set_other (before i h))
          (rw get_or-set_same here),
    )

-- all places
pub all_made : {Y : Type 0} (f : ℕ → Y) (d : Y) (xs : List ℕ) (ys : List Y) → length ys ≡ length xs
    → ((k : ℕ) → k < length xs → slice_index_or ys k d ≡ f (slice_index xs k)) → ys ≡ map f xs
all_made f d [] [] l h = refl
all_made f d [] (y ∷ ys) l h = absurd (omega arith)
all_made f d (x ∷ xs) [] l h = absurd (omega arith)
all_made f d (x ∷ xs) (y ∷ ys) l h =
    let a : y ≡ f x = h 0 (omega arith) in
    let b = all_made f d xs ys (omega arith) (λ k p. h (suc k) (omega arith)) in
    cc
