-- What holds of the entries that were looked at.
use Rattle.std.specs.Prelude.{◌≡◌, ℕ, ◌+◌, ◌<◌, ◌≤◌, List, map, length, take, All}
use Rattle.std.proofs.Common.{get_or, sym, ap, subst}
use Rattle.std.proofs.lemmas.List.{map_more, take_all}
use Rattle.std.proofs.lemmas.List.Elements.{All-push, All-more}

pub mapped_more : {X : Type 0} (xs : List X) (f : X → List (List ℕ)) (P : List (List ℕ) → Type 0) (i : ℕ) (x : X) → i < length xs → x ≡ get_or xs i x
    → All P (map f (take i xs)) → P (f x) → All P (map f (take (i + 1) xs))
mapped_more xs f P i x h read s p =
    subst (All P) (sym (map_more f xs i x h)) (All-push P (map f (take i xs)) (f (get_or xs i x)) s (subst P (ap f read) p))

pub mapped_all : {X : Type 0} (xs : List X) (f : X → List (List ℕ)) (P : List (List ℕ) → Type 0) (i : ℕ) → length xs ≤ i → All P (map f (take i xs))
    → All P (map f xs)
mapped_all {X} xs f P i h s = subst (λ (l : List X). All P (map f l)) (take_all i xs h) s

pub each_more : (xs : List (List ℕ)) (P : List ℕ → Type 0) (i : ℕ) (x : List ℕ) → i < length xs → x ≡ get_or xs i x → All P (take i xs) → P x
    → All P (take (i + 1) xs)
each_more xs P i x h read s p = All-more P xs i x h s (subst P read p)

pub each_all : (xs : List (List ℕ)) (P : List ℕ → Type 0) (i : ℕ) → length xs ≤ i → All P (take i xs) → All P xs
each_all xs P i h s = subst (All P) (take_all i xs h) s
