-- Lists that are made place by place of a word.
use Rattle.std.proofs.Common.{ap, append-nil, arith, get_or, inl, inr, refl, sym, ◌∙◌}
use Rattle.std.proofs.lemmas.List.{flat_map_more, map-append}
use Rattle.std.specs.Int.{bit_at}
use Rattle.std.specs.Prelude.{ℕ, zero, suc, ◌+◌, ◌*◌, ◌<◌, ◌≤◌, ◌≡◌, ◌++◌, Bool, true, false, List, [], ◌∷◌, filter, flat_map, length, map, if◌then◌else◌}
use Rattle.lists.specs.Bits.{is_set}
use Rattle.lists.specs.Members.{In}
use Rattle.lists.specs.Orders.{numbers}
use Rattle.lists.proofs.MemberLaws.{In_from_place, from_In-numbers, range-push}
use Rattle.lists.proofs.Tests.{of_equal}
use Rattle.bit_rows.specs.Rows.{places}
use Rattle.bit_rows.proofs.SetPlaces.{of_places}

-- members that do not pass give nothing
passing_alone : {X : Type 0} (h : ℕ → List X) (p : ℕ → Bool) (xs : List ℕ) → ((x : ℕ) → In x xs → p x ≡ false → h x ≡ [])
    → flat_map h (filter p xs) ≡ flat_map h xs
passing_alone h p [] none = refl
passing_alone {X} h p (x ∷ xs) none = by_case (p x) refl (passing_alone h p xs (λ y i. none y (inr i)))
  where
    by_case : (t : Bool) → p x ≡ t → flat_map h (filter p xs) ≡ flat_map h xs
        → flat_map h (if t then x ∷ filter p xs else filter p xs) ≡ h x ++ flat_map h xs
    by_case true e rest = ap (λ ys. h x ++ ys) rest
    by_case false e rest = rest ∙ ap (λ ys. ys ++ flat_map h xs) (sym (none x (inl refl) e))

-- the places of a word whose bits are set, where the others give nothing
pub set_places : {X : Type 0} (h : ℕ → List X) (word : ℕ) → ((k : ℕ) → k < 64 → is_set word k ≡ false → h k ≡ [])
    → flat_map h (places word) ≡ flat_map h (numbers 64)
unfolding places
set_places h word none = passing_alone h (is_set word) (numbers 64) (λ k i. none k (from_In-numbers 64 k i))

-- a member is below 64
pub place_below : (word n k : ℕ) → n < length (places word) → k ≡ get_or (places word) n k → k < 64
place_below word n k inside same =
    (of_places word k (In_from_place (places word) k n inside (sym same))).0

pub place_set : (word n k : ℕ) → n < length (places word) → k ≡ get_or (places word) n k → is_set word k ≡ true
place_set word n k inside same =
    of_equal (bit_at word k) 1 (of_places word k (In_from_place (places word) k n inside (sym same))).1

-- ---- lists that are made number by number

-- one number more
pub one_number_more : {X : Type 0} (h : ℕ → List X) (front : List X) (n : ℕ) → (front ++ flat_map h (numbers n)) ++ h n ≡ front ++ flat_map h (numbers (n + 1))
one_number_more h front n =
    let from_none : 0 + n ≡ n = omega arith in
    flat_map_more h front (numbers n) n ∙ ap (λ (k : ℕ). front ++ flat_map h (numbers n ++ k ∷ [])) (sym from_none)
    ∙ ap (λ ns. front ++ flat_map h ns) (sym (range-push 0 n))

-- the same list by two functions that agree below n
pub same_below : {X : Type 0} (f g : ℕ → List X) (n : ℕ) → ((k : ℕ) → k < n → f k ≡ g k) → flat_map f (numbers n) ≡ flat_map g (numbers n)
same_below f g zero same = refl
same_below f g (suc n) same =
    let more : n + 1 ≡ suc n = omega arith in
    ap (λ k. flat_map f (numbers k)) (sym more) ∙ sym (one_number_more f [] n)
    ∙ (λ i. same_below f g n (λ k l. same k (omega (arith, l))) i ++ same n (omega arith) i)
    ∙ one_number_more g [] n ∙ ap (λ k. flat_map g (numbers k)) more

-- numbers from n on that give nothing
pub none_from : {X : Type 0} (h : ℕ → List X) (n d : ℕ) → ((k : ℕ) → n ≤ k → h k ≡ []) → flat_map h (numbers (n + d)) ≡ flat_map h (numbers n)
none_from h n zero none = let same : n + 0 ≡ n = omega arith in ap (λ k. flat_map h (numbers k)) same
none_from h n (suc d) none =
    let more : n + suc d ≡ n + d + 1 = omega arith in
    ap (λ k. flat_map h (numbers k)) more ∙ sym (one_number_more h [] (n + d))
    ∙ ap (λ ys. flat_map h (numbers (n + d)) ++ ys) (none (n + d) (omega arith)) ∙ append-nil (flat_map h (numbers (n + d))) ∙ none_from h n d none

-- numbers from a on
pub from_number : {X : Type 0} (h : ℕ → List X) (a n : ℕ) → flat_map h (numbers a) ++ flat_map (λ k. h (a + k)) (numbers n) ≡ flat_map h (numbers (a + n))
from_number h a zero = let same : a ≡ a + 0 = omega arith in append-nil (flat_map h (numbers a)) ∙ ap (λ k. flat_map h (numbers k)) same
from_number h a (suc n) =
    let more : n + 1 ≡ suc n = omega arith in
    let further : a + n + 1 ≡ a + suc n = omega arith in
    ap (λ k. flat_map h (numbers a) ++ flat_map (λ j. h (a + j)) (numbers k)) (sym more)
    ∙ sym (one_number_more (λ j. h (a + j)) (flat_map h (numbers a)) n)
    ∙ ap (λ ys. ys ++ h (a + n)) (from_number h a n) ∙ one_number_more h [] (a + n) ∙ ap (λ k. flat_map h (numbers k)) further

-- numbers by blocks of b
pub by_blocks : {X : Type 0} (h : ℕ → List X) (b n : ℕ) → flat_map (λ w. flat_map (λ k. h (b * w + k)) (numbers b)) (numbers n) ≡ flat_map h (numbers (b * n))
by_blocks h b zero = let none : 0 ≡ b * 0 = omega arith in ap (λ k. flat_map h (numbers k)) none
by_blocks h b (suc n) =
    let more : n + 1 ≡ suc n = omega arith in
    let block : b * n + b ≡ b * suc n = omega arith in
    ap (λ k. flat_map (λ w. flat_map (λ j. h (b * w + j)) (numbers b)) (numbers k)) (sym more)
    ∙ sym (one_number_more (λ w. flat_map (λ j. h (b * w + j)) (numbers b)) [] n)
    ∙ ap (λ ys. ys ++ flat_map (λ j. h (b * n + j)) (numbers b)) (by_blocks h b n) ∙ from_number h (b * n) b ∙ ap (λ k. flat_map h (numbers k)) block

-- what is made of lists one after another
pub map_of_joined : {X Y Z : Type 0} (f : Y → Z) (g : X → List Y) (xs : List X) → map f (flat_map g xs) ≡ flat_map (λ x. map f (g x)) xs
map_of_joined f g [] = refl
map_of_joined f g (x ∷ xs) = map-append f (g x) (flat_map g xs) ∙ ap (λ ys. map f (g x) ++ ys) (map_of_joined f g xs)
