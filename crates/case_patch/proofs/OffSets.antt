-- A set is off the cell's boundary where its number lies within none of those of the points in the cell's facets.
use Rattle.std.specs.Prelude.{◌≡◌, ◌+◌, ◌≤◌, ◌<◌, ◌^◌, ◌==◌, ◌&&◌, ◌||◌, ℕ, Bool, true, false, not, List, [], ◌∷◌, map, filter, length, All, Contains}
use Rattle.std.specs.Prelude.{bit_and, if◌then◌else◌}
use Rattle.std.specs.List.{list_all, list_any}
use Rattle.std.proofs.Common.{refl, sym, ap, ◌∙◌, subst, arith}
use Rattle.std.proofs.lemmas.Bool.{false≢true}
use Rattle.std.proofs.lemmas.List.Elements.{filter_passes}
use Rattle.std.proofs.lemmas.List.Folds.{list_all-map}
use Rattle.std.proofs.lemmas.List.Sums.{list_all-from_AllPass}
use Rattle.std.proofs.Math.Pow.{pow_mono}
use Rattle.iso_model.specs.declared.Kind.{Kind}
use Rattle.lists.specs.Orders.{numbers, has}
use Rattle.iso_model.specs.Cells.{facet_count}
use Rattle.iso_model.specs.Hulls.{LiesWithin}
use Rattle.iso_model.specs.Entries.{label_edges, label_corners, is_off_boundary}
use Rattle.halfspace.proofs.TightNumbers.{set_number-below, has_test, has_passing}
use Rattle.pulling_tri.specs.PointSets.{point_set}
use Rattle.pulling_tri.proofs.PointSetLaws.{points-within, within-points}
use Rattle.case_patch.specs.BoundarySets.{is_in_facet, is_off}
use Rattle.case_patch.proofs.FacetSets.{tested_set}
use Rattle.lists.specs.Bits.{set_number}
use Rattle.lists.proofs.Tests.{same_tests, equal_of, of_equal}
use Rattle.lists.proofs.Contained.{Contains-head, Contains-tail, Contains-filter, below_contained}

-- ---- lists of which each member passes

all_kept : {X : Type 0} (p : X → Bool) (xs : List X) → list_all p xs ≡ true → filter p xs ≡ xs
all_kept p [] e = refl
all_kept {X} p (x ∷ xs) e = by_test (p x) e (all_kept p xs)
  where
    by_test : (b : Bool) → (b && list_all p xs) ≡ true → (list_all p xs ≡ true → filter p xs ≡ xs) → (if b then x ∷ filter p xs else filter p xs) ≡ x ∷ xs
    by_test true e behind = ap (λ (ys : List X). x ∷ ys) (behind e)
    by_test false e behind = absurd (false≢true e)

kept_all : {X : Type 0} (p : X → Bool) (xs : List X) → filter p xs ≡ xs → list_all p xs ≡ true
kept_all {X} p xs e = list_all-from_AllPass p xs (subst (λ (ys : List X). All (λ x. p x ≡ true) ys) e (filter_passes p xs))

all_same : {X : Type 0} (p q : X → Bool) (xs : List X) → ((x : X) → Contains xs x → p x ≡ q x) → list_all p xs ≡ list_all q xs
all_same p q [] h = refl
all_same {X} p q (x ∷ xs) h =
    ap (λ (b : Bool). b && list_all p xs) (h x (Contains-head x xs))
    ∙ ap (λ (b : Bool). q x && b) (all_same p q xs (λ y c. h y (Contains-tail y x xs c)))

not_any : {X : Type 0} (p : X → Bool) (xs : List X) → list_all (λ x. not (p x)) xs ≡ not (list_any p xs)
not_any p [] = refl
not_any {X} p (x ∷ xs) = ap (λ (b : Bool). not (p x) && b) (not_any p xs) ∙ de_morgan (p x) (list_any p xs)
  where
    de_morgan : (a b : Bool) → (not a && not b) ≡ not (a || b)
    de_morgan true b = refl
    de_morgan false b = refl

-- ---- a set within another, both given by tests

-- a test that the members below n of a set that is tested for are its members
pub has_is_test : (q : ℕ → Bool) (n i : ℕ) → i < n → has (filter q (numbers n)) i ≡ q i
has_is_test q n i h = same_tests (has (filter q (numbers n)) i) (q i) (λ e. has_test q n i e) (λ e. has_passing q n i h e)

within_test : (p q : ℕ → Bool) (n : ℕ) → list_all (has (filter q (numbers n))) (filter p (numbers n)) ≡ list_all q (filter p (numbers n))
within_test p q n =
    all_same (has (filter q (numbers n))) q (filter p (numbers n))
    (λ i c. has_is_test q n i (below_contained n i (Contains-filter p (numbers n) i c)))

number_small : (p : ℕ → Bool) (n : ℕ) → n ≤ 64 → set_number (filter p (numbers n)) < 2 ^ 64
number_small p n h = let l = set_number-below p n in let k : 2 ^ n ≤ 2 ^ 64 = pow_mono h in omega arith

-- the number of the one set lies within that of the other where each member passes the other's test
pub within_is : (p q : ℕ → Bool) (n : ℕ) → n ≤ 64
    → (bit_and (set_number (filter p (numbers n))) (set_number (filter q (numbers n))) == set_number (filter p (numbers n))) ≡ list_all q (filter p (numbers n))
within_is p q n h = same_tests _ _ (λ e. there (equal_of _ _ e)) (λ e. of_equal _ _ (back e))
  where
    there : bit_and (set_number (filter p (numbers n))) (set_number (filter q (numbers n))) ≡ set_number (filter p (numbers n))
        → list_all q (filter p (numbers n)) ≡ true
    there e =
        let w = points-within (set_number (filter p (numbers n))) (set_number (filter q (numbers n))) e in
        let l : LiesWithin (filter p (numbers n)) (filter q (numbers n)) =
        subst (λ (s : List ℕ). LiesWithin s (filter q (numbers n))) (tested_set p n h)
        (subst (λ (s : List ℕ). LiesWithin (point_set (set_number (filter p (numbers n)))) s) (tested_set q n h) w) in
        sym (within_test p q n) ∙ kept_all (has (filter q (numbers n))) (filter p (numbers n)) l

    back : list_all q (filter p (numbers n)) ≡ true
        → bit_and (set_number (filter p (numbers n))) (set_number (filter q (numbers n))) ≡ set_number (filter p (numbers n))
    back e =
        let l : LiesWithin (filter p (numbers n)) (filter q (numbers n)) =
        all_kept (has (filter q (numbers n))) (filter p (numbers n)) (within_test p q n ∙ e) in
        within-points (set_number (filter p (numbers n))) (set_number (filter q (numbers n))) (number_small p n h)
        (subst (λ (s : List ℕ). LiesWithin s (point_set (set_number (filter q (numbers n))))) (sym (tested_set p n h))
        (subst (λ (s : List ℕ). LiesWithin (filter p (numbers n)) s) (sym (tested_set q n h)) l))

-- ---- the sets of the cell's facets

abbrev pub boundary_of : Kind → ℕ → ℕ → List ℕ
boundary_of kind d label =
    map
    (λ f.
    set_number
    (filter (is_in_facet kind d (label_edges kind d label) (label_corners kind d label) f)
    (numbers (length (label_edges kind d label) + length (label_corners kind d label)))))
    (numbers (facet_count kind d))

pub boundary_is : (kind : Kind) (d label n : ℕ) (es ks sets : List ℕ) → es ≡ label_edges kind d label → ks ≡ label_corners kind d label → n ≡ facet_count kind d
    → sets ≡ map (λ f. set_number (filter (is_in_facet kind d es ks f) (numbers (length es + length ks)))) (numbers n) → sets ≡ boundary_of kind d label
boundary_is kind d label n es ks sets e k m s =
    s
    ∙ ap (λ (xs : List ℕ). map (λ f. set_number (filter (is_in_facet kind d xs ks f) (numbers (length xs + length ks)))) (numbers n)) e
    ∙ ap
    (λ (xs : List ℕ).
    map
    (λ f.
    set_number
    (filter (is_in_facet kind d (label_edges kind d label) xs f) (numbers (length (label_edges kind d label) + length xs))))
    (numbers n))
    k
    ∙ ap
    (λ (c : ℕ).
    map
    (λ f.
    set_number
    (filter (is_in_facet kind d (label_edges kind d label) (label_corners kind d label) f)
    (numbers (length (label_edges kind d label) + length (label_corners kind d label)))))
    (numbers c))
    m

-- over sets that are given by tests on the numbers below n
off_by_tests : (p : ℕ → Bool) (inside : ℕ → ℕ → Bool) (n m : ℕ) → n ≤ 64
    → is_off (set_number (filter p (numbers n))) (map (λ f. set_number (filter (inside f) (numbers n))) (numbers m))
    ≡ not (list_any (λ f. list_all (inside f) (filter p (numbers n))) (numbers m))
off_by_tests p inside n m h =
    list_all-map (λ other. not (bit_and (set_number (filter p (numbers n))) other == set_number (filter p (numbers n))))
    (λ f. set_number (filter (inside f) (numbers n))) (numbers m)
    ∙ all_same
    (λ f. not (bit_and (set_number (filter p (numbers n))) (set_number (filter (inside f) (numbers n))) == set_number (filter p (numbers n))))
    (λ f. not (list_all (inside f) (filter p (numbers n)))) (numbers m)
    (λ f c. ap not (within_is p (inside f) n h))
    ∙ not_any (λ f. list_all (inside f) (filter p (numbers n))) (numbers m)

pub off_is : (kind : Kind) (d label : ℕ) (p : ℕ → Bool) → length (label_edges kind d label) + length (label_corners kind d label) ≤ 64
    → is_off (set_number (filter p (numbers (length (label_edges kind d label) + length (label_corners kind d label))))) (boundary_of kind d label)
    ≡ is_off_boundary kind d label (filter p (numbers (length (label_edges kind d label) + length (label_corners kind d label))))
off_is kind d label p h =
    off_by_tests p (is_in_facet kind d (label_edges kind d label) (label_corners kind d label))
    (length (label_edges kind d label) + length (label_corners kind d label)) (facet_count kind d) h
