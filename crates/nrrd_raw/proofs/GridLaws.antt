-- Sizes in four places, and what holds of each of them.
use Rattle.std.proofs.Common.{◌≡◌, ℕ, ◌-◌, ◌≤◌, List, length, take, replicate, refl, sym, subst, arith}
use Rattle.std.proofs.Common.{length-append}
use Rattle.std.specs.Prelude.{All}
use Rattle.std.proofs.lemmas.List.{drop_at, length-replicate, take_all, take_at}
use Rattle.nrrd_raw.specs.Shapes.{AreSizes, HasShape, all_sizes}
use Rattle.nrrd_raw.proofs.SizeProducts.{CountsPlaces, counts}

-- the sizes stand before the ones
pub all_sizes-shape : (sizes : List ℕ) → length sizes ≤ 4 → HasShape (length sizes) (all_sizes sizes)
all_sizes-shape sizes few = record {
  few = few;
  four = omega (arith, few, length-append sizes (replicate (4 - length sizes) 1), length-replicate {A = ℕ} (4 - length sizes) 1);
  beyond = drop_at sizes (replicate (4 - length sizes) 1) (length sizes) refl;
}

pub all_sizes-axes : (sizes : List ℕ) → take (length sizes) (all_sizes sizes) ≡ sizes
all_sizes-axes sizes = take_at sizes (replicate (4 - length sizes) 1) (length sizes) refl

-- the four places count what the sizes do
pub counts-all : (sizes : List ℕ) → 2 ≤ length sizes → length sizes ≤ 4 → AreSizes sizes → CountsPlaces sizes (all_sizes sizes)
counts-all sizes two four sized =
    let same : take (length sizes) (all_sizes sizes) ≡ sizes = all_sizes-axes sizes in
    subst (λ (ns : List ℕ). CountsPlaces ns (all_sizes sizes)) same
    (counts (length sizes) (all_sizes sizes) (all_sizes-shape sizes four) (subst (λ (ns : List ℕ). 2 ≤ length ns) (sym same) two)
    (subst AreSizes (sym same) sized))

-- all of them
pub each-all : {X : Type 0} (xs : List X) (P : X → Type 0) (i : ℕ) → length xs ≤ i → All P (take i xs) → All P xs
each-all xs P i h s = subst (All P) (take_all i xs h) s
