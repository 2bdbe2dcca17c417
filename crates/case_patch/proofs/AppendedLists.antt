-- Lists over the numbers below n, one more.
use Rattle.std.specs.Prelude.{◌≡◌, ◌+◌, ◌*◌, ◌<◌, ℕ, suc, zero, ℤ, pos, ◌+ℤ◌, Bool, true, false, cond, List, [], ◌∷◌, ◌++◌, map, filter, length}
use Rattle.std.specs.Prelude.{slice_index_or, slice_set, take, drop, OnOk, IfOk, Result}
use Rattle.std.specs.Prelude.{Ok, Err}
use Rattle.std.proofs.Common.{refl, sym, ap, ◌∙◌, arith}
use Rattle.std.proofs.lemmas.Int.{ints}
use Rattle.std.proofs.lemmas.List.{length-map, map-append, get_or-map, append-nil}
use Rattle.std.proofs.lemmas.List.FromFn.{fill_by_all}
use Rattle.lists.specs.Orders.{numbers}
use Rattle.halfspace.proofs.TightNumbers.{numbers_more, filter_numbers_more}

-- one more number that passes
pub kept_more : (p : ℕ → Bool) (n : ℕ) (items more : List ℕ) → items ≡ filter p (numbers n) → p n ≡ true → more ≡ items ++ n ∷ []
    → more ≡ filter p (numbers (n + 1))
kept_more p n items more e t m =
    m ∙ ap (λ (xs : List ℕ). xs ++ n ∷ []) e ∙ ap (λ (b : Bool). filter p (numbers n) ++ cond b (n ∷ []) []) (sym t) ∙ sym (filter_numbers_more p n)

-- and one that does not
pub kept_same : (p : ℕ → Bool) (n : ℕ) (items : List ℕ) → items ≡ filter p (numbers n) → p n ≡ false → items ≡ filter p (numbers (n + 1))
kept_same p n items e t =
    e ∙ sym (append-nil (filter p (numbers n))) ∙ ap (λ (b : Bool). filter p (numbers n) ++ cond b (n ∷ []) []) (sym t) ∙ sym (filter_numbers_more p n)

pub mapped_more : {X : Type 0} (f : ℕ → X) (n : ℕ) → map f (numbers (n + 1)) ≡ map f (numbers n) ++ f n ∷ []
mapped_more f n = ap (map f) (numbers_more n) ∙ map-append f (numbers n) (n ∷ [])

-- ---- twice the numbers

two_times : (a : ℕ) → pos a +ℤ pos a ≡ pos (2 * a)
two_times a = omega (arith, ints)

pub doubled_points : (d : ℕ) (p : List ℕ) → length p ≡ d
    → map (λ i. slice_index_or (map pos p) i (pos 0) +ℤ slice_index_or (map pos p) i (pos 0)) (numbers d) ≡ map (λ x. pos (2 * x)) p
doubled_points d p l =
    sym
    (fill_by_all (λ i. slice_index_or (map pos p) i (pos 0) +ℤ slice_index_or (map pos p) i (pos 0)) (map (λ x. pos (2 * x)) p) d (pos 0)
    (length-map p (λ x. pos (2 * x)) ∙ l) at)
  where
    at : (k : ℕ) → k < d → slice_index_or (map (λ x. pos (2 * x)) p) k (pos 0) ≡ slice_index_or (map pos p) k (pos 0) +ℤ slice_index_or (map pos p) k (pos 0)
    at k h =
        let inside : k < length p = omega arith in
        get_or-map (λ x. pos (2 * x)) p k 0 (pos 0) inside ∙ sym (two_times (slice_index_or p k 0))
        ∙ ap (λ (z : ℤ). z +ℤ z) (sym (get_or-map pos p k 0 (pos 0) inside))

-- ---- a list that is changed place by place

-- f of the first i members, and the others as they were
pub changed_more : {X : Type 0} (f : X → X) (xs ys : List X) (i : ℕ) (d v : X) → i < length xs → ys ≡ map f (take i xs) ++ drop i xs
    → v ≡ f (slice_index_or ys i d)
    → slice_set ys i v ≡ map f (take (i + 1) xs) ++ drop (i + 1) xs
changed_more {X} f xs ys i d v h e r =
    ap (λ (zs : List X). slice_set zs i v) e
    ∙ go xs i h (r ∙ ap (λ (zs : List X). f (slice_index_or zs i d)) e)
    ∙ ap (λ (n : ℕ). map f (take n xs) ++ drop n xs) next
  where
    next : suc i ≡ i + 1
    next = omega arith

    go : (us : List X) (k : ℕ) → k < length us → v ≡ f (slice_index_or (map f (take k us) ++ drop k us) k d)
        → slice_set (map f (take k us) ++ drop k us) k v ≡ map f (take (suc k) us) ++ drop (suc k) us
    go [] k h r = absurd (omega arith)
    go (u ∷ us) zero h r = ap (λ (z : X). z ∷ us) r
    go (u ∷ us) (suc k) h r = ap (λ (zs : List X). f u ∷ zs) (go us k (omega arith) r)

-- a list that is written over another of its length
pub written_back : {X : Type 0} (n : ℕ) (xs ys : List X) → length xs ≡ length ys → n ≡ length xs → take n (xs ++ drop (length xs) ys) ≡ xs
written_back {X} n xs ys l e = ap (λ (k : ℕ). take k (xs ++ drop (length xs) ys)) e ∙ go xs ys l
  where
    go : (us vs : List X) → length us ≡ length vs → take (length us) (us ++ drop (length us) vs) ≡ us
    go [] [] l = refl
    go [] (v ∷ vs) l = absurd (omega arith)
    go (u ∷ us) [] l = absurd (omega arith)
    go (u ∷ us) (v ∷ vs) l = ap (λ (zs : List X). u ∷ zs) (go us vs (omega arith))

-- ---- facts that are known where a call gave Ok
