-- What stands across a facet of a cell of a cube, from the tests.
use Rattle.std.proofs.Common.{◌≡◌, ℕ, ◌+◌, ◌-◌, ◌*◌, ◌<◌, Bool, true, false, not, ◌&&◌, ◌||◌, List, [], ◌∷◌, length, get_or, refl, ap, sym, ◌∙◌}
use Rattle.std.proofs.Common.{subst, arith, inl, inr, ℤ}
use Rattle.std.specs.Prelude.{◌≢◌, ◌⊎◌, ◌==◌, nat_lt, pos, negsuc, neg_ℤ, ◌+ℤ◌, ◌-ℤ◌, ◌*ℤ◌, slice_index, slice_index_or, map, Contains, if◌then◌else◌}
use Rattle.std.specs.List.{list_all, list_any}
use Rattle.std.proofs.lemmas.Bool.{eqb-true, ltb-true, or_cases, and_from}
use Rattle.std.proofs.lemmas.Bool.Decides.{nat_tests}
use Rattle.std.proofs.lemmas.Int.{ints}
use Rattle.std.proofs.lemmas.List.{length-map}
use Rattle.std.proofs.lemmas.List.FromFn.{length-map-range_with_len}
use Rattle.iso_model.specs.declared.Kind.{Kind}
use Rattle.lists.specs.Orders.{numbers, same_list}
use Rattle.iso_model.specs.Points.{axes}
use Rattle.iso_model.specs.Cells.{facet_count, facet_corners}
use Rattle.iso_model.specs.Splits.{cells_per_cube, corner_offset}
use Rattle.iso_model.specs.Neighbours.{facet_offsets, shift_across, shifted, IsAcross}
use Rattle.split_checks.specs.CubeShifts.{meets, move_to, stays, same_places}
use Rattle.split_checks.specs.AcrossTests.{next_across, next_at, all_facets, facet_at, move_across, is_known, all_known, is_across, across_at, across_of}
use Rattle.split_laws.proofs.Coordinates.{meet_from, move_is}
use Rattle.split_laws.proofs.Offsets.{OffsetsFit, in_facet}
use Rattle.lists.proofs.Tests.{not_refused, and_left, and_right}
use Rattle.lists.specs.Members.{In}
use Rattle.lists.proofs.MemberLaws.{In_from, Contains_from, In-map, from_In-map, from_any, any_from, all_In, all_from, all_below, at_numbers, lists_equal}

-- ---- shifts and moves: a move has one more

abbrev pub less_one : ℕ → ℤ
less_one m = pos m -ℤ pos 1

abbrev one_shift : Bool → Bool → ℤ
one_shift a b = if a then negsuc 0 else if b then pos 1 else pos 0

abbrev pub one_move : Bool → Bool → ℕ
one_move a b = if a then 0 else if b then 2 else 1

shift_is_move : (a b : Bool) → one_shift a b ≡ less_one (one_move a b)
shift_is_move true b = refl
shift_is_move false true = refl
shift_is_move false false = refl

shift_list : (A B : ℕ → Bool) (xs : List ℕ) → map (λ i. one_shift (A i) (B i)) xs ≡ map less_one (map (λ i. one_move (A i) (B i)) xs)
shift_list A B [] = refl
shift_list A B (x ∷ xs) = rw (shift_is_move (A x) (B x), shift_list A B xs) refl

pub shift_is : (kind : Kind) (d r f : ℕ) → shift_across kind d r f ≡ map less_one (move_across d (facet_offsets kind d r f))
shift_is kind d r f =
    shift_list (λ i. list_all (λ p. slice_index p i == 0) (facet_offsets kind d r f))
    (λ i. list_all (λ p. slice_index p i == 2) (facet_offsets kind d r f)) (axes d)

move_back : (a b : Bool) → less_one (2 - one_move a b) ≡ neg_ℤ (less_one (one_move a b))
move_back true b = refl
move_back false true = refl
move_back false false = refl

pub back_list : (A B : ℕ → Bool) (xs : List ℕ)
    → map less_one (map (λ m. 2 - m) (map (λ i. one_move (A i) (B i)) xs)) ≡ map neg_ℤ (map less_one (map (λ i. one_move (A i) (B i)) xs))
back_list A B [] = refl
back_list A B (x ∷ xs) = rw (move_back (A x) (B x), back_list A B xs) refl

pub length-move : (d : ℕ) (here : List (List ℕ)) → length (move_across d here) ≡ d
length-move d here = length-map-range_with_len (λ i. one_move (list_all (λ p. slice_index p i == 0) here) (list_all (λ p. slice_index p i == 2) here)) 0 d

pub shifted_from : (xs ms ys : List ℕ) → meets xs ms ys ≡ true → map pos xs ≡ shifted (map less_one ms) ys
shifted_from [] [] [] h = refl
shifted_from [] [] (y ∷ ys) h = absurd (cc)
shifted_from [] (m ∷ ms) ys h = absurd (cc)
shifted_from (x ∷ xs) [] ys h = absurd (cc)
shifted_from (x ∷ xs) (m ∷ ms) [] h = absurd (cc)
shifted_from (x ∷ xs) (m ∷ ms) (y ∷ ys) h =
    let e : x + 2 ≡ 2 * m + y = eqb-true (x + 2) (2 * m + y) (and_left (x + 2 == 2 * m + y) (meets xs ms ys) h) in
    let first : pos x ≡ (pos 2 *ℤ less_one m +ℤ pos y) = omega (arith, ints, e) in
    let rest : map pos xs ≡ shifted (map less_one ms) ys = shifted_from xs ms ys (and_right (x + 2 == 2 * m + y) (meets xs ms ys) h) in
    cc

pub meets_from_shifted : (xs ms ys : List ℕ) → length ms ≡ length xs → length ys ≡ length xs → map pos xs ≡ shifted (map less_one ms) ys → meets xs ms ys ≡ true
meets_from_shifted [] [] [] lm ly h = refl
meets_from_shifted [] [] (y ∷ ys) lm ly h = absurd (omega (arith, ly))
meets_from_shifted [] (m ∷ ms) ys lm ly h = absurd (omega (arith, lm))
meets_from_shifted (x ∷ xs) [] ys lm ly h = absurd (omega (arith, lm))
meets_from_shifted (x ∷ xs) (m ∷ ms) [] lm ly h = absurd (omega (arith, ly))
meets_from_shifted (x ∷ xs) (m ∷ ms) (y ∷ ys) lm ly h =
    let first : pos x ≡ (pos 2 *ℤ less_one m +ℤ pos y) = cc in
    let rest : map pos xs ≡ shifted (map less_one ms) ys = cc in
    let e : x + 2 ≡ 2 * m + y = omega (arith, ints, first) in
    and_from (x + 2 == 2 * m + y) (meets xs ms ys) (grind (arith, nat_tests, e)) (meets_from_shifted xs ms ys (omega (arith, lm)) (omega (arith, ly)) rest)

-- ---- what the test found across a facet

-- the rank and the facet across
abbrev pub next_of : Kind → ℕ → ℕ → ℕ → ℕ × ℕ
next_of kind d r f = next_at (next_across kind d) r f

pub record FoundAcross (kind : Kind) (d r f : ℕ) : Type 0 where
  pub is_rank : (next_of kind d r f).0 < cells_per_cube kind d
  pub is_facet : (next_of kind d r f).1 < facet_count kind d
  pub another : (next_of kind d r f).0 ≡ r → (next_of kind d r f).1 ≢ f
  pub elsewhere : (next_of kind d r f).0 ≡ r → stays (move_across d (facet_offsets kind d r f)) ≡ true → ⊥
  pub places :
      same_places (move_across d (facet_offsets kind d r f)) (facet_offsets kind d r f)
      (facet_offsets kind d (next_of kind d r f).0 (next_of kind d r f).1)
      ≡ true
  pub back : map (λ m. 2 - m) (move_across d (facet_offsets kind d r f)) ≡ move_across d (facet_offsets kind d (next_of kind d r f).0 (next_of kind d r f).1)
  pub known : (o g : ℕ) → o < cells_per_cube kind d → g < facet_count kind d →
      all_known r f (next_of kind d r f) (move_across d (facet_offsets kind d r f)) (facet_offsets kind d r f)
      (slice_index_or (facet_offsets kind d r f) 0 []) o g (facet_offsets kind d o g)
      ≡ true

-- the tests, at each rank
abbrev pub AcrossPass : Kind → ℕ → Type 0
AcrossPass kind d =
    (r : ℕ) → r < cells_per_cube kind d → across_of d (all_facets kind d) (next_across kind d) (cells_per_cube kind d) (facet_count kind d) r ≡ true

pub listed : (kind : Kind) (d r f : ℕ) → r < cells_per_cube kind d → f < facet_count kind d → facet_at (all_facets kind d) r f ≡ facet_offsets kind d r f
listed kind d r f hr hf =
    ap (λ (row : List (List (List ℕ))). slice_index_or row f [])
    (at_numbers (λ s. map (facet_offsets kind d s) (numbers (facet_count kind d))) (cells_per_cube kind d) r [] hr)
    ∙ at_numbers (facet_offsets kind d r) (facet_count kind d) f [] hf

both_equal : (a b x y : ℕ) → a ≡ x → b ≡ y → (a == x && (b == y)) ≡ true
both_equal a b x y e e' = and_from (a == x) (b == y) (grind (arith, nat_tests, e)) (grind (arith, nat_tests, e'))

module _ (kind : Kind) (d r f : ℕ) (hr : r < cells_per_cube kind d) (hf : f < facet_count kind d)
    (passed : across_of d (all_facets kind d) (next_across kind d) (cells_per_cube kind d) (facet_count kind d) r ≡ true) where
  abbrev next : ℕ × ℕ
  next = next_of kind d r f

  abbrev H : List (List ℕ)
  H = facet_offsets kind d r f

  abbrev M : List ℕ
  M = move_across d H

  abbrev in_ranks : Bool
  in_ranks = nat_lt next.0 (cells_per_cube kind d)

  abbrev in_facets : Bool
  in_facets = nat_lt next.1 (facet_count kind d)

  abbrev stands : Bool
  stands = is_across d r f next M H (facet_at (all_facets kind d) next.0 next.1)

  abbrev others : Bool
  others =
      list_all
      (λ o. list_all (λ g. all_known r f next M H (slice_index_or H 0 []) o g (facet_at (all_facets kind d) o g)) (numbers (facet_count kind d)))
      (numbers (cells_per_cube kind d))

  at : (in_ranks && in_facets && stands && others) ≡ true
  at =
      let row =
      all_below (facet_count kind d)
      (λ g.
      across_at d (all_facets kind d) (cells_per_cube kind d) (facet_count kind d) r g (next_at (next_across kind d) r g)
      (move_across d (facet_at (all_facets kind d) r g)) (facet_at (all_facets kind d) r g))
      passed f hf in
      subst (λ (h : List (List ℕ)). across_at d (all_facets kind d) (cells_per_cube kind d) (facet_count kind d) r f next (move_across d h) h ≡ true)
      (listed kind d r f hr hf) row

  rank_in : next.0 < cells_per_cube kind d
  rank_in =
      ltb-true next.0 (cells_per_cube kind d)
      (and_left in_ranks in_facets (and_left (in_ranks && in_facets) stands (and_left (in_ranks && in_facets && stands) others at)))

  facet_in : next.1 < facet_count kind d
  facet_in =
      ltb-true next.1 (facet_count kind d)
      (and_right in_ranks in_facets (and_left (in_ranks && in_facets) stands (and_left (in_ranks && in_facets && stands) others at)))

  abbrev T : List (List ℕ)
  T = facet_offsets kind d next.0 next.1

  abbrev itself : Bool
  itself = (next.0 == r) && (next.1 == f)

  abbrev same_cell : Bool
  same_cell = (next.0 == r) && stays M

  stands_at : (not itself && not same_cell && same_places M H T && same_list (map (λ m. 2 - m) M) (move_across d T)) ≡ true
  stands_at =
      subst (λ (t : List (List ℕ)). is_across d r f next M H t ≡ true) (listed kind d next.0 next.1 rank_in facet_in)
      (and_right (in_ranks && in_facets) stands (and_left (in_ranks && in_facets && stands) others at))

  first_three : (not itself && not same_cell && same_places M H T) ≡ true
  first_three = and_left (not itself && not same_cell && same_places M H T) (same_list (map (λ m. 2 - m) M) (move_across d T)) stands_at

  first_two : (not itself && not same_cell) ≡ true
  first_two = and_left (not itself && not same_cell) (same_places M H T) first_three

  pub found : FoundAcross kind d r f
  found = record {
    is_rank = rank_in;
    is_facet = facet_in;
    another = λ e e'. not_refused itself (and_left (not itself) (not same_cell) first_two) (both_equal next.0 next.1 r f e e');
    elsewhere =
        λ e s.
        not_refused same_cell (and_right (not itself) (not same_cell) first_two)
        (and_from (next.0 == r) (stays M) (grind (arith, nat_tests, e)) s);
    places = and_right (not itself && not same_cell) (same_places M H T) first_three;
    back =
        lists_equal (map (λ m. 2 - m) M) (move_across d T)
        (and_right (not itself && not same_cell && same_places M H T) (same_list (map (λ m. 2 - m) M) (move_across d T)) stands_at);
    known = λ o g ho hg.
        let row =
        all_below (cells_per_cube kind d)
        (λ o'.
        list_all (λ g'. all_known r f next M H (slice_index_or H 0 []) o' g' (facet_at (all_facets kind d) o' g'))
        (numbers (facet_count kind d)))
        (and_right (in_ranks && in_facets && stands) others at) o ho in
        let cell = all_below (facet_count kind d) (λ g'. all_known r f next M H (slice_index_or H 0 []) o g' (facet_at (all_facets kind d) o g')) row g hg in
        subst (λ (t : List (List ℕ)). all_known r f next M H (slice_index_or H 0 []) o g t ≡ true) (listed kind d o g ho hg) cell;
  }

-- ---- by ranks

pub In_first : {X : Type 0} (xs : List X) (d : X) → 0 < length xs → In (get_or xs 0 d) xs
In_first [] d h = absurd (omega (arith, h))
In_first (x ∷ xs) d h = inl refl

-- each facet has a corner
abbrev pub HaveCorners : Kind → ℕ → Type 0
HaveCorners kind d = (f : ℕ) → f < facet_count kind d → 0 < length (facet_corners kind d f)

-- a facet whose offsets are at the same places as those of the facet f, at a move by which the first corners meet
pub known_cases : (r f : ℕ) (next : ℕ × ℕ) (move : List ℕ) (here : List (List ℕ)) (o g : ℕ) (there : List (List ℕ)) (m : List ℕ)
    → is_known r f next move here o g there m ≡ true → same_places m here there ≡ true →
    ((o ≡ r) × (g ≡ f) × (stays m ≡ true)) ⊎ ((o ≡ next.0) × (g ≡ next.1) × (m ≡ move))
known_cases r f next move here o g there m h same =
    elim (or_cases (not (same_places m here there) || ((o == r) && (g == f) && stays m)) ((o == next.0) && (g == next.1) && same_list m move) h) [
      | inl first ↦ (elim (or_cases (not (same_places m here there)) ((o == r) && (g == f) && stays m) first) [
        | inl apart ↦ absurd (not_refused (same_places m here there) apart same)
        | inr home ↦
            (let ranks = and_left (o == r && (g == f)) (stays m) home in
            inl (
              eqb-true o r (and_left (o == r) (g == f) ranks),
              eqb-true g f (and_right (o == r) (g == f) ranks),
              and_right (o == r && (g == f)) (stays m) home,
            ))
      ])
      | inr across ↦
          (let ranks = and_left (o == next.0 && (g == next.1)) (same_list m move) across in
          inr (
            eqb-true o next.0 (and_left (o == next.0) (g == next.1) ranks),
            eqb-true g next.1 (and_right (o == next.0) (g == next.1) ranks),
            lists_equal m move (and_right (o == next.0 && (g == next.1)) (same_list m move) across),
          ))
    ]

module _ (kind : Kind) (d : ℕ) (fit : OffsetsFit kind d) (corners : HaveCorners kind d) (passed : AcrossPass kind d) where
  pub found_at : (r f : ℕ) → r < cells_per_cube kind d → f < facet_count kind d → FoundAcross kind d r f
  found_at r f hr hf = found kind d r f hr hf (passed r hr)

  module _ (r f : ℕ) (hr : r < cells_per_cube kind d) (hf : f < facet_count kind d) where
    abbrev here : List (List ℕ)
    here = facet_offsets kind d r f

    abbrev move : List ℕ
    move = move_across d here

    long_here : (k : ℕ) → In k (facet_corners kind d f) → length (corner_offset kind d r k) ≡ d
    long_here k i = fit.long r k hr (in_facet kind d f k i).0

    -- from the places of two facets to their points, seen by whole numbers
    pub across_from : (o g : ℕ) → o < cells_per_cube kind d → g < facet_count kind d → (o ≡ r → g ≢ f)
        → same_places move here (facet_offsets kind d o g) ≡ true → IsAcross kind d r f o g
    across_from o g ho hg other places = record {
      is_rank = ho;
      is_facet = hg;
      another = other;
      same = λ p. (to p, from p);
    }
      where
        there : List (List ℕ)
        there = facet_offsets kind d o g

        to : (p : List ℤ) → Contains (map (map pos) (facet_offsets kind d r f)) p
            → Contains (map (shifted (shift_across kind d r f)) (facet_offsets kind d o g)) p
        to p has =
            let x = from_In-map (map pos) (facet_offsets kind d r f) p (In_from (map (map pos) (facet_offsets kind d r f)) p has) in
            let y =
            from_any (λ q. meets x.0 (move_across d (facet_offsets kind d r f)) q) (facet_offsets kind d o g)
            (all_In (λ s. list_any (λ q. meets s (move_across d (facet_offsets kind d r f)) q) (facet_offsets kind d o g))
            (facet_offsets kind d r f)
            (and_left
            (list_all (λ s. list_any (λ q. meets s (move_across d (facet_offsets kind d r f)) q) (facet_offsets kind d o g))
            (facet_offsets kind d r f))
            (list_all (λ q. list_any (λ s. meets s (move_across d (facet_offsets kind d r f)) q) (facet_offsets kind d r f))
            (facet_offsets kind d o g))
            places)
            x.0 x.1) in
            let is : shifted (shift_across kind d r f) y.0 ≡ p =
            ap (λ (s : List ℤ). shifted s y.0) (shift_is kind d r f) ∙ sym (shifted_from x.0 (move_across d (facet_offsets kind d r f)) y.0 y.2)
            ∙ sym x.2 in
            Contains_from (map (shifted (shift_across kind d r f)) (facet_offsets kind d o g)) p
            (subst (λ (z : List ℤ). In z (map (shifted (shift_across kind d r f)) (facet_offsets kind d o g))) is
            (In-map (shifted (shift_across kind d r f)) (facet_offsets kind d o g) y.0 y.1))

        from : (p : List ℤ) → Contains (map (shifted (shift_across kind d r f)) (facet_offsets kind d o g)) p
            → Contains (map (map pos) (facet_offsets kind d r f)) p
        from p has =
            let y =
            from_In-map (shifted (shift_across kind d r f)) (facet_offsets kind d o g) p
            (In_from (map (shifted (shift_across kind d r f)) (facet_offsets kind d o g)) p has) in
            let x =
            from_any (λ s. meets s (move_across d (facet_offsets kind d r f)) y.0) (facet_offsets kind d r f)
            (all_In (λ q. list_any (λ s. meets s (move_across d (facet_offsets kind d r f)) q) (facet_offsets kind d r f))
            (facet_offsets kind d o g)
            (and_right
            (list_all (λ s. list_any (λ q. meets s (move_across d (facet_offsets kind d r f)) q) (facet_offsets kind d o g))
            (facet_offsets kind d r f))
            (list_all (λ q. list_any (λ s. meets s (move_across d (facet_offsets kind d r f)) q) (facet_offsets kind d r f))
            (facet_offsets kind d o g))
            places)
            y.0 y.1) in
            let is : map pos x.0 ≡ p =
            shifted_from x.0 (move_across d (facet_offsets kind d r f)) y.0 x.2 ∙ sym (ap (λ (s : List ℤ). shifted s y.0) (shift_is kind d r f))
            ∙ sym y.2 in
            Contains_from (map (map pos) (facet_offsets kind d r f)) p
            (subst (λ (z : List ℤ). In z (map (map pos) (facet_offsets kind d r f))) is (In-map (map pos) (facet_offsets kind d r f) x.0 x.1))

    pub places_from : (o g : ℕ) → IsAcross kind d r f o g → same_places move here (facet_offsets kind d o g) ≡ true
    places_from o g across =
        and_from (list_all (λ s. list_any (λ q. meets s move q) (facet_offsets kind d o g)) here)
        (list_all (λ q. list_any (λ s. meets s move q) here) (facet_offsets kind d o g))
        (all_from (λ s. list_any (λ q. meets s move q) (facet_offsets kind d o g)) here (λ x i.
        let has = (across.same (map pos x)).0 (Contains_from (map (map pos) here) (map pos x) (In-map (map pos) here x i)) in
        let y =
        from_In-map (shifted (shift_across kind d r f)) (facet_offsets kind d o g) (map pos x)
        (In_from (map (shifted (shift_across kind d r f)) (facet_offsets kind d o g)) (map pos x) has) in
        any_from (λ q. meets x move q) (facet_offsets kind d o g) y.0 y.1 (met x i y.0 y.1 y.2)))
        (all_from (λ q. list_any (λ s. meets s move q) here) (facet_offsets kind d o g) (λ y i.
        let has =
        (across.same (shifted (shift_across kind d r f) y)).1
        (Contains_from (map (shifted (shift_across kind d r f)) (facet_offsets kind d o g)) (shifted (shift_across kind d r f) y)
        (In-map (shifted (shift_across kind d r f)) (facet_offsets kind d o g) y i)) in
        let x = from_In-map (map pos) here (shifted (shift_across kind d r f) y) (In_from (map (map pos) here) (shifted (shift_across kind d r f) y) has) in
        any_from (λ s. meets s move y) here x.0 x.1 (met x.0 x.1 y i (sym x.2))))
      where
        length_here : (x : List ℕ) → In x (facet_offsets kind d r f) → length x ≡ d
        length_here x i =
            let k = from_In-map (corner_offset kind d r) (facet_corners kind d f) x i in
            ap length k.2 ∙ fit.long r k.0 hr (in_facet kind d f k.0 k.1).0

        length_there : (y : List ℕ) → In y (facet_offsets kind d o g) → length y ≡ d
        length_there y i =
            let k = from_In-map (corner_offset kind d o) (facet_corners kind d g) y i in
            ap length k.2 ∙ fit.long o k.0 across.is_rank (in_facet kind d g k.0 k.1).0

        met : (x : List ℕ) → In x (facet_offsets kind d r f) → (y : List ℕ) → In y (facet_offsets kind d o g)
            → map pos x ≡ shifted (shift_across kind d r f) y → meets x (move_across d (facet_offsets kind d r f)) y ≡ true
        met x i y j is =
            meets_from_shifted x (move_across d (facet_offsets kind d r f)) y (length-move d (facet_offsets kind d r f) ∙ sym (length_here x i))
            (length_there y j ∙ sym (length_here x i)) (is ∙ ap (λ (s : List ℤ). shifted s y) (shift_is kind d r f))

    first : List ℕ
    first = slice_index_or here 0 []

    some_here : 0 < length here
    some_here =
        let many : length here ≡ length (facet_corners kind d f) = length-map (facet_corners kind d f) (corner_offset kind d r) in
        omega (arith, many, corners f hf)

    -- only one facet is across
    pub only_across : (o g : ℕ) → IsAcross kind d r f o g → (o ≡ (next_of kind d r f).0) × (g ≡ (next_of kind d r f).1)
    only_across o g across =
        let places = places_from o g across in
        let y =
        from_any (λ q. meets (slice_index_or here 0 []) move q) (facet_offsets kind d o g)
        (all_In (λ s. list_any (λ q. meets s move q) (facet_offsets kind d o g)) here
        (and_left (list_all (λ s. list_any (λ q. meets s move q) (facet_offsets kind d o g)) here)
        (list_all (λ q. list_any (λ s. meets s move q) here) (facet_offsets kind d o g)) places)
        (slice_index_or here 0 []) (In_first here [] some_here)) in
        let is : move ≡ move_to (slice_index_or here 0 []) y.0 =
        move_is (slice_index_or here 0 []) move y.0 (meet_from (slice_index_or here 0 []) move y.0 y.2) in
        let tried =
        all_In (λ q. is_known r f (next_of kind d r f) move here o g (facet_offsets kind d o g) (move_to (slice_index_or here 0 []) q))
        (facet_offsets kind d o g) ((found_at r f hr hf).known o g across.is_rank across.is_facet) y.0 y.1 in
        let at_move = subst (λ (m : List ℕ). is_known r f (next_of kind d r f) move here o g (facet_offsets kind d o g) m ≡ true) (sym is) tried in
        elim (known_cases r f (next_of kind d r f) move here o g (facet_offsets kind d o g) move at_move places) [
          | inl home ↦ absurd (across.another home.0 home.1)
          | inr on ↦ (on.0, on.1)
        ]

    pub next_is_across : IsAcross kind d r f (next_of kind d r f).0 (next_of kind d r f).1
    next_is_across =
        let there = found_at r f hr hf in
        across_from (next_of kind d r f).0 (next_of kind d r f).1 there.is_rank there.is_facet there.another there.places
