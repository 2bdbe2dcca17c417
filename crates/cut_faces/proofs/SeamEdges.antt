-- What the seam of two facets of tetrahedra does with corners and edges, where the corners of the two facets are the same in ascending order.
use Rattle.std.proofs.Common.{◌≡◌, ◌≢◌, ℕ, zero, suc, ◌+◌, ◌<◌, ◌≤◌, Bool, true, false, List, [], ◌∷◌, refl, inl, inr, ap, sym, ◌∙◌, arith}
use Rattle.std.specs.Prelude.{slice_index, not, ◌&&◌, ◌||◌, ◌==◌, ◌⊎◌, nat_lt, nat_le}
use Rattle.std.proofs.lemmas.Bool.Decides.{nat_tests}
use Rattle.std.specs.List.{list_all, position_or_len}
use Rattle.std.proofs.lemmas.Bool.{and_parts, and_from}
use Rattle.lists.specs.Orders.{numbers, without, is_odd}
use Rattle.lists.proofs.MemberLaws.{all_below}
use Rattle.lists.proofs.Tests.{not_or, lt_of, equal_of, differ_test, test_differ}
use Rattle.iso_model.specs.declared.Kind.TheVariants.{Simplex}
use Rattle.iso_model.specs.Cells.{edge_ends, edge_between, facet_corners, edge_in_facet}
use Rattle.iso_model.specs.Seams.{seam, corner_across, edge_across}
use Rattle.cut_laws.specs.Cuts.{edge_of}

le_of : (a b : ℕ) → nat_le a b ≡ true → a ≤ b
le_of a b t = grind (arith, nat_tests)

of_le : (a b : ℕ) → a ≤ b → nat_le a b ≡ true
of_le a b h = grind (arith, nat_tests)

either : (a b : Bool) → (a || b) ≡ true → (a ≡ true) ⊎ (b ≡ true)
either true b h = inl refl
either false b h = inr h

-- the place of a corner among those of a facet, counted from 0
abbrev place_there : ℕ → ℕ → ℕ
place_there f k = position_or_len (λ c. c == k) (facet_corners Simplex 3 f)

-- a corner of a facet stands at its place among the corners without the one that the facet leaves out
pub corner_place : (f k a b c d : ℕ) → f < 4 → k < 4 → k ≢ f
    → slice_index (a ∷ b ∷ c ∷ d ∷ []) k ≡ slice_index (without f (a ∷ b ∷ c ∷ d ∷ [])) (place_there f k)
corner_place zero zero a b c d hf hk n = absurd (n refl)
corner_place zero (suc zero) a b c d hf hk n = refl
corner_place zero (suc (suc zero)) a b c d hf hk n = refl
corner_place zero (suc (suc (suc zero))) a b c d hf hk n = refl
corner_place zero (suc (suc (suc (suc k)))) a b c d hf hk n = absurd (omega (arith, hk))
corner_place (suc zero) zero a b c d hf hk n = refl
corner_place (suc zero) (suc zero) a b c d hf hk n = absurd (n refl)
corner_place (suc zero) (suc (suc zero)) a b c d hf hk n = refl
corner_place (suc zero) (suc (suc (suc zero))) a b c d hf hk n = refl
corner_place (suc zero) (suc (suc (suc (suc k)))) a b c d hf hk n = absurd (omega (arith, hk))
corner_place (suc (suc zero)) zero a b c d hf hk n = refl
corner_place (suc (suc zero)) (suc zero) a b c d hf hk n = refl
corner_place (suc (suc zero)) (suc (suc zero)) a b c d hf hk n = absurd (n refl)
corner_place (suc (suc zero)) (suc (suc (suc zero))) a b c d hf hk n = refl
corner_place (suc (suc zero)) (suc (suc (suc (suc k)))) a b c d hf hk n = absurd (omega (arith, hk))
corner_place (suc (suc (suc zero))) zero a b c d hf hk n = refl
corner_place (suc (suc (suc zero))) (suc zero) a b c d hf hk n = refl
corner_place (suc (suc (suc zero))) (suc (suc zero)) a b c d hf hk n = refl
corner_place (suc (suc (suc zero))) (suc (suc (suc zero))) a b c d hf hk n = absurd (n refl)
corner_place (suc (suc (suc zero))) (suc (suc (suc (suc k)))) a b c d hf hk n = absurd (omega (arith, hk))
corner_place (suc (suc (suc (suc f)))) k a b c d hf hk n = absurd (omega (arith, hf))

-- and the corner at a place of a facet
pub corner_at : (g j a b c d : ℕ) → g < 4 → j < 3
    → slice_index (without g (a ∷ b ∷ c ∷ d ∷ [])) j ≡ slice_index (a ∷ b ∷ c ∷ d ∷ []) (slice_index (facet_corners Simplex 3 g) j)
corner_at zero zero a b c d hg hj = refl
corner_at zero (suc zero) a b c d hg hj = refl
corner_at zero (suc (suc zero)) a b c d hg hj = refl
corner_at zero (suc (suc (suc j))) a b c d hg hj = absurd (omega (arith, hj))
corner_at (suc zero) zero a b c d hg hj = refl
corner_at (suc zero) (suc zero) a b c d hg hj = refl
corner_at (suc zero) (suc (suc zero)) a b c d hg hj = refl
corner_at (suc zero) (suc (suc (suc j))) a b c d hg hj = absurd (omega (arith, hj))
corner_at (suc (suc zero)) zero a b c d hg hj = refl
corner_at (suc (suc zero)) (suc zero) a b c d hg hj = refl
corner_at (suc (suc zero)) (suc (suc zero)) a b c d hg hj = refl
corner_at (suc (suc zero)) (suc (suc (suc j))) a b c d hg hj = absurd (omega (arith, hj))
corner_at (suc (suc (suc zero))) zero a b c d hg hj = refl
corner_at (suc (suc (suc zero))) (suc zero) a b c d hg hj = refl
corner_at (suc (suc (suc zero))) (suc (suc zero)) a b c d hg hj = refl
corner_at (suc (suc (suc zero))) (suc (suc (suc j))) a b c d hg hj = absurd (omega (arith, hj))
corner_at (suc (suc (suc (suc g)))) j a b c d hg hj = absurd (omega (arith, hg))

place_few : (f k : ℕ) → f < 4 → k < 4 → k ≢ f → place_there f k < 3
place_few zero zero hf hk n = absurd (n refl)
place_few zero (suc zero) hf hk n = omega arith
place_few zero (suc (suc zero)) hf hk n = omega arith
place_few zero (suc (suc (suc zero))) hf hk n = omega arith
place_few zero (suc (suc (suc (suc k)))) hf hk n = absurd (omega (arith, hk))
place_few (suc zero) zero hf hk n = omega arith
place_few (suc zero) (suc zero) hf hk n = absurd (n refl)
place_few (suc zero) (suc (suc zero)) hf hk n = omega arith
place_few (suc zero) (suc (suc (suc zero))) hf hk n = omega arith
place_few (suc zero) (suc (suc (suc (suc k)))) hf hk n = absurd (omega (arith, hk))
place_few (suc (suc zero)) zero hf hk n = omega arith
place_few (suc (suc zero)) (suc zero) hf hk n = omega arith
place_few (suc (suc zero)) (suc (suc zero)) hf hk n = absurd (n refl)
place_few (suc (suc zero)) (suc (suc (suc zero))) hf hk n = omega arith
place_few (suc (suc zero)) (suc (suc (suc (suc k)))) hf hk n = absurd (omega (arith, hk))
place_few (suc (suc (suc zero))) zero hf hk n = omega arith
place_few (suc (suc (suc zero))) (suc zero) hf hk n = omega arith
place_few (suc (suc (suc zero))) (suc (suc zero)) hf hk n = omega arith
place_few (suc (suc (suc zero))) (suc (suc (suc zero))) hf hk n = absurd (n refl)
place_few (suc (suc (suc zero))) (suc (suc (suc (suc k)))) hf hk n = absurd (omega (arith, hk))
place_few (suc (suc (suc (suc f)))) k hf hk n = absurd (omega (arith, hf))

pub corner_across_few : (f g k : ℕ) → f < 4 → g < 4 → k < 4 → k ≢ f → corner_across Simplex 3 (seam f g (is_odd (f + g))) k < 4
corner_across_few f g k hf hg hk n =
    let all = all_below 4 (λ h. list_all (λ j. nat_lt (slice_index (facet_corners Simplex 3 h) j) 4) (numbers 3)) refl g hg in
    lt_of (slice_index (facet_corners Simplex 3 g) (place_there f k)) 4
    (all_below 3 (λ j. nat_lt (slice_index (facet_corners Simplex 3 g) j) 4) all (place_there f k) (place_few f k hf hk n))

-- ---- edges

-- an edge is the one between its ends
pub edge_of_ends : (e : ℕ) → e < 6 → edge_between Simplex 3 (edge_ends Simplex 3 e).0 (edge_ends Simplex 3 e).1 ≡ e
edge_of_ends e h =
    equal_of (edge_between Simplex 3 (edge_ends Simplex 3 e).0 (edge_ends Simplex 3 e).1) e
    (all_below 6 (λ k. edge_between Simplex 3 (edge_ends Simplex 3 k).0 (edge_ends Simplex 3 k).1 == k) refl e h)

pub ends_few : (e : ℕ) → e < 6 → ((edge_ends Simplex 3 e).0 < 4) × ((edge_ends Simplex 3 e).1 < 4)
ends_few e h =
    let both = and_parts (nat_lt (edge_ends Simplex 3 e).0 4) (nat_lt (edge_ends Simplex 3 e).1 4)
    (all_below 6 (λ k. nat_lt (edge_ends Simplex 3 k).0 4 && nat_lt (edge_ends Simplex 3 k).1 4) refl e h) in
    (lt_of (edge_ends Simplex 3 e).0 4 both.0, lt_of (edge_ends Simplex 3 e).1 4 both.1)

-- an edge lies in a facet where neither end is the corner that the facet leaves out
pub in_facet_from : (f e : ℕ) → (edge_ends Simplex 3 e).0 ≢ f → (edge_ends Simplex 3 e).1 ≢ f → edge_in_facet Simplex 3 f e ≡ true
in_facet_from f e p q =
    and_from (not ((edge_ends Simplex 3 e).0 == f)) (not ((edge_ends Simplex 3 e).1 == f)) (test_differ (edge_ends Simplex 3 e).0 f p)
    (test_differ (edge_ends Simplex 3 e).1 f q)

pub from_in_facet : (f e : ℕ) → edge_in_facet Simplex 3 f e ≡ true → ((edge_ends Simplex 3 e).0 ≢ f) × ((edge_ends Simplex 3 e).1 ≢ f)
from_in_facet f e h =
    let both = and_parts (not ((edge_ends Simplex 3 e).0 == f)) (not ((edge_ends Simplex 3 e).1 == f)) h in
    (differ_test (edge_ends Simplex 3 e).0 f both.0, differ_test (edge_ends Simplex 3 e).1 f both.1)

-- of two different edges of a facet each corner of the facet is an end
abbrev is_end : ℕ → ℕ → Bool
is_end k e = ((edge_ends Simplex 3 e).0 == k) || ((edge_ends Simplex 3 e).1 == k)

abbrev is_met : ℕ → ℕ → ℕ → ℕ → Bool
is_met f a b k = not (edge_in_facet Simplex 3 f a) || (not (edge_in_facet Simplex 3 f b) || (not (not (a == b)) || (not (not (k == f)) || (is_end k a || is_end k b))))

all_met : list_all (λ f. list_all (λ a. list_all (λ b. list_all (is_met f a b) (numbers 4)) (numbers 6)) (numbers 6)) (numbers 4) ≡ true
all_met = refl

abbrev pub IsEnd : ℕ → ℕ → Type 0
IsEnd k e = ((edge_ends Simplex 3 e).0 ≡ k) ⊎ ((edge_ends Simplex 3 e).1 ≡ k)

end_of : (k e : ℕ) → is_end k e ≡ true → IsEnd k e
end_of k e h = elim (either ((edge_ends Simplex 3 e).0 == k) ((edge_ends Simplex 3 e).1 == k) h) as (λ _. IsEnd k e) [
  | inl p ↦ inl (equal_of (edge_ends Simplex 3 e).0 k p)
  | inr p ↦ inr (equal_of (edge_ends Simplex 3 e).1 k p)
]

pub corner_met : (f a b k : ℕ) → f < 4 → a < 6 → b < 6 → k < 4 → edge_in_facet Simplex 3 f a ≡ true → edge_in_facet Simplex 3 f b ≡ true
    → a ≢ b → k ≢ f → IsEnd k a ⊎ IsEnd k b
corner_met f a b k hf ha hb hk ia ib n m =
    let one =
    all_below 4 (is_met f a b)
    (all_below 6 (λ y. list_all (is_met f a y) (numbers 4))
    (all_below 6 (λ x. list_all (λ y. list_all (is_met f x y) (numbers 4)) (numbers 6))
    (all_below 4 (λ h. list_all (λ x. list_all (λ y. list_all (is_met h x y) (numbers 4)) (numbers 6)) (numbers 6)) all_met f hf) a ha) b hb) k hk in
    let met =
    not_or (not (k == f)) _
    (not_or (not (a == b)) _ (not_or (edge_in_facet Simplex 3 f b) _ (not_or (edge_in_facet Simplex 3 f a) _ one ia) ib) (test_differ a b n))
    (test_differ k f m) in
    elim (either (is_end k a) (is_end k b) met) as (λ _. IsEnd k a ⊎ IsEnd k b) [ inl p ↦ inl (end_of k a p) | inr p ↦ inr (end_of k b p) ]

-- ---- edges across a seam

-- the seam takes edges of a facet to others in their order, and back
abbrev there : ℕ → ℕ → ℕ → ℕ
there f g e = edge_across Simplex 3 (seam f g (is_odd (f + g))) e

abbrev goes_back : ℕ → ℕ → ℕ → Bool
goes_back f g e = not (edge_in_facet Simplex 3 f e) || (there g f (there f g e) == e)

all_go_back : list_all (λ f. list_all (λ g. list_all (goes_back f g) (numbers 6)) (numbers 4)) (numbers 4) ≡ true
all_go_back = refl

pub edge_goes_back : (f g e : ℕ) → f < 4 → g < 4 → e < 6 → edge_in_facet Simplex 3 f e ≡ true
    → edge_across Simplex 3 (seam g f (is_odd (g + f))) (edge_across Simplex 3 (seam f g (is_odd (f + g))) e) ≡ e
edge_goes_back f g e hf hg he i =
    let one =
    all_below 6 (goes_back f g)
    (all_below 4 (λ h. list_all (goes_back f h) (numbers 6)) (all_below 4 (λ k. list_all (λ h. list_all (goes_back k h) (numbers 6)) (numbers 4)) all_go_back f hf) g hg) e he in
    equal_of (there g f (there f g e)) e (not_or (edge_in_facet Simplex 3 f e) _ one i)

abbrev keeps_order : ℕ → ℕ → ℕ → ℕ → Bool
keeps_order f g a b = not (edge_in_facet Simplex 3 f a) || (not (edge_in_facet Simplex 3 f b) || (not (nat_le a b) || nat_le (there f g a) (there f g b)))

all_keep_order : list_all (λ f. list_all (λ g. list_all (λ a. list_all (keeps_order f g a) (numbers 6)) (numbers 6)) (numbers 4)) (numbers 4) ≡ true
all_keep_order = refl

pub edge_order : (f g a b : ℕ) → f < 4 → g < 4 → a < 6 → b < 6 → edge_in_facet Simplex 3 f a ≡ true → edge_in_facet Simplex 3 f b ≡ true → a ≤ b
    → edge_across Simplex 3 (seam f g (is_odd (f + g))) a ≤ edge_across Simplex 3 (seam f g (is_odd (f + g))) b
edge_order f g a b hf hg ha hb ia ib h =
    let one =
    all_below 6 (keeps_order f g a)
    (all_below 6 (λ x. list_all (keeps_order f g x) (numbers 6))
    (all_below 4 (λ y. list_all (λ x. list_all (keeps_order f y x) (numbers 6)) (numbers 6))
    (all_below 4 (λ z. list_all (λ y. list_all (λ x. list_all (keeps_order z y x) (numbers 6)) (numbers 6)) (numbers 4)) all_keep_order f hf) g hg) a ha) b hb in
    le_of (there f g a) (there f g b)
    (not_or (nat_le a b) _ (not_or (edge_in_facet Simplex 3 f b) _ (not_or (edge_in_facet Simplex 3 f a) _ one ia) ib) (of_le a b h))

-- an edge of the first facet goes to an edge of the other one, between the corners that meet its ends; its ends are corners of the first facet
abbrev goes_across : ℕ → ℕ → ℕ → Bool
goes_across f g e =
    let there = edge_across Simplex 3 (seam f g (is_odd (f + g))) e in
    not (edge_in_facet Simplex 3 f e)
    || (nat_lt there 6
    && (edge_in_facet Simplex 3 g there
    && (((edge_ends Simplex 3 there).0 == corner_across Simplex 3 (seam f g (is_odd (f + g))) (edge_ends Simplex 3 e).0)
    && (((edge_ends Simplex 3 there).1 == corner_across Simplex 3 (seam f g (is_odd (f + g))) (edge_ends Simplex 3 e).1)
    && (not ((edge_ends Simplex 3 e).0 == f)
    && (not ((edge_ends Simplex 3 e).1 == f) && (nat_lt (edge_ends Simplex 3 e).0 4 && nat_lt (edge_ends Simplex 3 e).1 4)))))))

all_go_across : list_all (λ f. list_all (λ g. list_all (goes_across f g) (numbers 6)) (numbers 4)) (numbers 4) ≡ true
all_go_across = refl

one_goes_across : (f g e : ℕ) → f < 4 → g < 4 → e < 6 → goes_across f g e ≡ true
one_goes_across f g e hf hg he =
    all_below 6 (goes_across f g)
    (all_below 4 (λ h. list_all (goes_across f h) (numbers 6)) (all_below 4 (λ k. list_all (λ h. list_all (goes_across k h) (numbers 6)) (numbers 4)) all_go_across f hf) g hg) e he

-- an edge of the first facet, seen from the other side
pub record GoesAcross (f g e there : ℕ) : Type 0 where
  pub below : there < 6
  pub inside : edge_in_facet Simplex 3 g there ≡ true
  pub first : (edge_ends Simplex 3 there).0 ≡ corner_across Simplex 3 (seam f g (is_odd (f + g))) (edge_ends Simplex 3 e).0
  pub second : (edge_ends Simplex 3 there).1 ≡ corner_across Simplex 3 (seam f g (is_odd (f + g))) (edge_ends Simplex 3 e).1
  pub first_inside : (edge_ends Simplex 3 e).0 ≢ f
  pub second_inside : (edge_ends Simplex 3 e).1 ≢ f
  pub first_below : (edge_ends Simplex 3 e).0 < 4
  pub second_below : (edge_ends Simplex 3 e).1 < 4

pub edge_goes_across : (f g e : ℕ) → f < 4 → g < 4 → e < 6 → edge_in_facet Simplex 3 f e ≡ true
    → GoesAcross f g e (edge_across Simplex 3 (seam f g (is_odd (f + g))) e)
edge_goes_across f g e hf hg he i =
    let s = seam f g (is_odd (f + g)) in
    let there = edge_across Simplex 3 s e in
    let p = edge_ends Simplex 3 e in
    let q = edge_ends Simplex 3 there in
    let a = and_parts (nat_lt there 6) _ (not_or (edge_in_facet Simplex 3 f e) _ (one_goes_across f g e hf hg he) i) in
    let b = and_parts (edge_in_facet Simplex 3 g there) _ a.1 in
    let c = and_parts (q.0 == corner_across Simplex 3 s p.0) _ b.1 in
    let d = and_parts (q.1 == corner_across Simplex 3 s p.1) _ c.1 in
    let h = and_parts (not (p.0 == f)) _ d.1 in
    let j = and_parts (not (p.1 == f)) _ h.1 in
    let k = and_parts (nat_lt p.0 4) (nat_lt p.1 4) j.1 in
    record {
      below = lt_of there 6 a.0;
      inside = b.0;
      first = equal_of q.0 (corner_across Simplex 3 s p.0) c.0;
      second = equal_of q.1 (corner_across Simplex 3 s p.1) d.0;
      first_inside = differ_test p.0 f h.0;
      second_inside = differ_test p.1 f j.0;
      first_below = lt_of p.0 4 k.0;
      second_below = lt_of p.1 4 k.1;
    }

-- where two tetrahedra have the same corners but for those that the facets leave out, the edge there is the same pair of numbers
module _ (f g : ℕ) (hf : f < 4) (hg : g < 4) (a b c d p q r s : ℕ) (same : without f (a ∷ b ∷ c ∷ d ∷ []) ≡ without g (p ∷ q ∷ r ∷ s ∷ [])) where
  pub corner_meets : (k : ℕ) → k < 4 → k ≢ f
      → slice_index (p ∷ q ∷ r ∷ s ∷ []) (corner_across Simplex 3 (seam f g (is_odd (f + g))) k) ≡ slice_index (a ∷ b ∷ c ∷ d ∷ []) k
  corner_meets k hk n =
      sym (corner_at g (place_there f k) p q r s hg (place_few f k hf hk n))
      ∙ ap (λ (xs : List ℕ). slice_index xs (place_there f k)) (sym same) ∙ sym (corner_place f k a b c d hf hk n)

  pub edge_meets : (e : ℕ) → e < 6 → edge_in_facet Simplex 3 f e ≡ true
      → edge_of (p ∷ q ∷ r ∷ s ∷ []) (edge_across Simplex 3 (seam f g (is_odd (f + g))) e) ≡ edge_of (a ∷ b ∷ c ∷ d ∷ []) e
  edge_meets e he i =
      let x = edge_goes_across f g e hf hg he i in
      let low = ap (λ (k : ℕ). slice_index (p ∷ q ∷ r ∷ s ∷ []) k) x.first ∙ corner_meets (edge_ends Simplex 3 e).0 x.first_below x.first_inside in
      let high = ap (λ (k : ℕ). slice_index (p ∷ q ∷ r ∷ s ∷ []) k) x.second ∙ corner_meets (edge_ends Simplex 3 e).1 x.second_below x.second_inside in
      λ t. record { low = low t; high = high t }
