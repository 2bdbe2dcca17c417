-- Two cells of a grid that share a corner: how their cubes stand, and which of their corners are the same points.
use Rattle.std.proofs.Common.{◌≡◌, ℕ, zero, suc, ◌+◌, ◌*◌, ◌<◌, ◌≤◌, true, List, [], ◌∷◌, length, refl, ap, sym, ◌∙◌, subst, arith, inl, inr}
use Rattle.std.specs.Prelude.{◌/◌, ◌==◌, slice_index, slice_index_or, map}
use Rattle.std.specs.List.{list_all, list_any}
use Rattle.std.proofs.lemmas.Bool.{eqb-true, and_from}
use Rattle.iso_model.specs.declared.Kind.{Kind}
use Rattle.iso_model.specs.Cells.{corner_count, facet_corners}
use Rattle.iso_model.specs.Splits.{cells_per_cube, corner_offset, cube_of, rank_of, corner}
use Rattle.iso_model.specs.Neighbours.{facet_points, SamePoints, facet_offsets}
use Rattle.split_checks.specs.CubeShifts.{meets, move_to, stays, offsets, facet_of, same_places}
use Rattle.split_laws.proofs.Coordinates.{coordinate, length-cube_at, lists_same, points_same, rank_below, meet_from, meets_from, length-move_to, move_to_at}
use Rattle.split_laws.proofs.Offsets.{OffsetsFit, in_facet}
use Rattle.lists.specs.Members.{In}
use Rattle.lists.proofs.MemberLaws.{In_from, Contains_from, In-map, from_In-map, from_any, any_from, all_In, all_from, at_numbers}
use Rattle.lists.proofs.Tests.{and_left, and_right}

pub map_same : {X : Type 0} (f g : ℕ → X) (xs : List ℕ) → ((x : ℕ) → In x xs → f x ≡ g x) → map f xs ≡ map g xs
map_same f g [] same = refl
map_same f g (x ∷ xs) same = rw (same x (inl refl), map_same f g xs (λ y i. same y (inr i))) refl

-- a facet, taken from the offsets of the cell
pub facet_of_offsets : (kind : Kind) (d r f : ℕ) → facet_of kind d (offsets kind d r) f ≡ facet_offsets kind d r f
facet_of_offsets kind d r f =
    map_same (λ k. slice_index_or (offsets kind d r) k []) (corner_offset kind d r) (facet_corners kind d f) (λ k i.
    at_numbers (corner_offset kind d r) (corner_count kind d) k [] (in_facet kind d f k i).0)

-- the cube of e is that of c, moved
pub record Moved (kind : Kind) (sizes : List ℕ) (c e : ℕ) (ms : List ℕ) : Type 0 where
  pub long : length ms ≡ length sizes
  pub at : (i : ℕ) → i < length sizes → slice_index (cube_of kind sizes e) i + 1 ≡ slice_index (cube_of kind sizes c) i + slice_index ms i

module _ (kind : Kind) (sizes : List ℕ) (fit : OffsetsFit kind (length sizes)) where
  abbrev offset : ℕ → ℕ → List ℕ
  offset c k = corner_offset kind (length sizes) (rank_of kind sizes c) k

  pub below : (c : ℕ) → rank_of kind sizes c < cells_per_cube kind (length sizes)
  below c = rank_below kind sizes c fit.some_rank

  pub coordinate_of : (c k i : ℕ) → i < length sizes
      → slice_index (corner kind sizes c k) i ≡ 2 * slice_index (cube_of kind sizes c) i + slice_index (offset c k) i
  coordinate_of c k i h = coordinate (length sizes) (λ j. 2 * slice_index (cube_of kind sizes c) j + slice_index (offset c k) j) i h

  pub long_offset : (c k : ℕ) → k < corner_count kind (length sizes) → length (offset c k) ≡ length sizes
  long_offset c k h = fit.long (rank_of kind sizes c) k (below c) h

  pub small_offset : (c k i : ℕ) → k < corner_count kind (length sizes) → slice_index (offset c k) i ≤ 2
  small_offset c k i h = fit.small (rank_of kind sizes c) k i (below c) h

  module _ (c e : ℕ) where
    -- what one shared corner says in each axis
    balance : (k l : ℕ) → corner kind sizes c k ≡ corner kind sizes e l → (i : ℕ) → i < length sizes →
        2 * slice_index (cube_of kind sizes c) i + slice_index (offset c k) i ≡ 2 * slice_index (cube_of kind sizes e) i + slice_index (offset e l) i
    balance k l same i h = sym (coordinate_of c k i h) ∙ ap (λ (p : List ℕ). slice_index p i) same ∙ coordinate_of e l i h

    pub moved_by : (k l : ℕ) → k < corner_count kind (length sizes) → l < corner_count kind (length sizes) → corner kind sizes c k ≡ corner kind sizes e l →
        Moved kind sizes c e (move_to (offset c k) (offset e l))
    moved_by k l hk hl same =
        let as_long : length (offset e l) ≡ length (offset c k) = long_offset e l hl ∙ sym (long_offset c k hk) in
        record {
          long = length-move_to (offset c k) (offset e l) as_long ∙ long_offset c k hk;
          at =
              λ i h.
              omega (
                arith,
                balance k l same i h,
                small_offset c k i hk,
                small_offset e l i hl,
                move_to_at (offset c k) (offset e l) as_long i (omega (arith, h, long_offset c k hk)),
              );
        }

    module _ (ms : List ℕ) (moved : Moved kind sizes c e ms) where
      pub meet_where_same : (k l : ℕ) → k < corner_count kind (length sizes) → l < corner_count kind (length sizes)
          → corner kind sizes c k ≡ corner kind sizes e l → meets (offset c k) ms (offset e l) ≡ true
      meet_where_same k l hk hl same = meets_from (offset c k) ms (offset e l) (record {
        moves = moved.long ∙ sym (long_offset c k hk);
        others = long_offset e l hl ∙ sym (long_offset c k hk);
        same = λ i h. let in_axes : i < length sizes = omega (arith, h, long_offset c k hk) in omega (arith, balance k l same i in_axes, moved.at i in_axes);
      })

      pub same_where_meet : (k l : ℕ) → k < corner_count kind (length sizes) → l < corner_count kind (length sizes)
          → meets (offset c k) ms (offset e l) ≡ true → corner kind sizes c k ≡ corner kind sizes e l
      same_where_meet k l hk hl h =
          let met = meet_from (offset c k) ms (offset e l) h in
          points_same (length sizes) (λ j. 2 * slice_index (cube_of kind sizes c) j + slice_index (offset c k) j)
          (λ j. 2 * slice_index (cube_of kind sizes e) j + slice_index (offset e l) j)
          (λ i in_axes. omega (arith, met.same i (omega (arith, in_axes, long_offset c k hk)), moved.at i in_axes))

      pub stands_there : stays ms ≡ true → cube_of kind sizes c ≡ cube_of kind sizes e
      stands_there h =
          lists_same (cube_of kind sizes c) (cube_of kind sizes e)
          (length-cube_at sizes (c / cells_per_cube kind (length sizes)) ∙ sym (length-cube_at sizes (e / cells_per_cube kind (length sizes)))) (λ i q.
          let in_axes : i < length sizes = omega (arith, q, length-cube_at sizes (c / cells_per_cube kind (length sizes))) in
          omega (arith, moved.at i in_axes, one_at ms h i (omega (arith, moved.long, in_axes))))
        where
          one_at : (xs : List ℕ) → list_all (λ m. m == 1) xs ≡ true → (j : ℕ) → j < length xs → slice_index xs j ≡ 1
          one_at [] t j q = absurd (omega (arith, q))
          one_at (x ∷ xs) t zero q = eqb-true x 1 (and_left (x == 1) (list_all (λ m. m == 1) xs) t)
          one_at (x ∷ xs) t (suc j) q = one_at xs (and_right (x == 1) (list_all (λ m. m == 1) xs) t) j (omega (arith, q))

      module _ (f g : ℕ) where
        abbrev here : List (List ℕ)
        here = facet_offsets kind (length sizes) (rank_of kind sizes c) f

        abbrev there : List (List ℕ)
        there = facet_offsets kind (length sizes) (rank_of kind sizes e) g

        -- the facets' offsets are at the same places: the facets have the same points
        pub same_points : same_places ms here there ≡ true → SamePoints (facet_points kind sizes c f) (facet_points kind sizes e g)
        same_points h p = (
          λ has.
              let k = from_In-map (corner kind sizes c) (facet_corners kind (length sizes) f) p (In_from (facet_points kind sizes c f) p has) in
              let k_in = in_facet kind (length sizes) f k.0 k.1 in
              let q =
              from_any (λ y. meets (offset c k.0) ms y) there
              (all_In (λ x. list_any (λ y. meets x ms y) there) here
              (and_left (list_all (λ x. list_any (λ y. meets x ms y) there) here)
              (list_all (λ y. list_any (λ x. meets x ms y) here) there) h)
              (offset c k.0)
              (In-map (corner_offset kind (length sizes) (rank_of kind sizes c)) (facet_corners kind (length sizes) f) k.0 k.1)) in
              let l = from_In-map (corner_offset kind (length sizes) (rank_of kind sizes e)) (facet_corners kind (length sizes) g) q.0 q.1 in
              let met : meets (offset c k.0) ms (offset e l.0) ≡ true = subst (λ (y : List ℕ). meets (offset c k.0) ms y ≡ true) l.2 q.2 in
              let same : corner kind sizes e l.0 ≡ p = sym (same_where_meet k.0 l.0 k_in.0 (in_facet kind (length sizes) g l.0 l.1).0 met) ∙ sym k.2 in
              Contains_from (facet_points kind sizes e g) p
              (subst (λ (x : List ℕ). In x (facet_points kind sizes e g)) same
              (In-map (corner kind sizes e) (facet_corners kind (length sizes) g) l.0 l.1)),
          λ has.
              let l = from_In-map (corner kind sizes e) (facet_corners kind (length sizes) g) p (In_from (facet_points kind sizes e g) p has) in
              let l_in = in_facet kind (length sizes) g l.0 l.1 in
              let q =
              from_any (λ x. meets x ms (offset e l.0)) here
              (all_In (λ y. list_any (λ x. meets x ms y) here) there
              (and_right (list_all (λ x. list_any (λ y. meets x ms y) there) here)
              (list_all (λ y. list_any (λ x. meets x ms y) here) there) h)
              (offset e l.0)
              (In-map (corner_offset kind (length sizes) (rank_of kind sizes e)) (facet_corners kind (length sizes) g) l.0 l.1)) in
              let k = from_In-map (corner_offset kind (length sizes) (rank_of kind sizes c)) (facet_corners kind (length sizes) f) q.0 q.1 in
              let met : meets (offset c k.0) ms (offset e l.0) ≡ true = subst (λ (x : List ℕ). meets x ms (offset e l.0) ≡ true) k.2 q.2 in
              let same : corner kind sizes c k.0 ≡ p = same_where_meet k.0 l.0 (in_facet kind (length sizes) f k.0 k.1).0 l_in.0 met ∙ sym l.2 in
              Contains_from (facet_points kind sizes c f) p
              (subst (λ (x : List ℕ). In x (facet_points kind sizes c f)) same
              (In-map (corner kind sizes c) (facet_corners kind (length sizes) f) k.0 k.1)),
        )

        pub places_same : SamePoints (facet_points kind sizes c f) (facet_points kind sizes e g) → same_places ms here there ≡ true
        places_same same =
            and_from (list_all (λ x. list_any (λ y. meets x ms y) there) here) (list_all (λ y. list_any (λ x. meets x ms y) here) there)
            (all_from (λ x. list_any (λ y. meets x ms y) there) here (λ x i.
            let k = from_In-map (corner_offset kind (length sizes) (rank_of kind sizes c)) (facet_corners kind (length sizes) f) x i in
            let has =
            (same (corner kind sizes c k.0)).0
            (Contains_from (facet_points kind sizes c f) (corner kind sizes c k.0)
            (In-map (corner kind sizes c) (facet_corners kind (length sizes) f) k.0 k.1)) in
            let l =
            from_In-map (corner kind sizes e) (facet_corners kind (length sizes) g) (corner kind sizes c k.0)
            (In_from (facet_points kind sizes e g) (corner kind sizes c k.0) has) in
            any_from (λ y. meets x ms y) there (offset e l.0)
            (In-map (corner_offset kind (length sizes) (rank_of kind sizes e)) (facet_corners kind (length sizes) g) l.0 l.1)
            (subst (λ (z : List ℕ). meets z ms (offset e l.0) ≡ true) (sym k.2)
            (meet_where_same k.0 l.0 (in_facet kind (length sizes) f k.0 k.1).0 (in_facet kind (length sizes) g l.0 l.1).0 l.2))))
            (all_from (λ y. list_any (λ x. meets x ms y) here) there (λ y i.
            let l = from_In-map (corner_offset kind (length sizes) (rank_of kind sizes e)) (facet_corners kind (length sizes) g) y i in
            let has =
            (same (corner kind sizes e l.0)).1
            (Contains_from (facet_points kind sizes e g) (corner kind sizes e l.0)
            (In-map (corner kind sizes e) (facet_corners kind (length sizes) g) l.0 l.1)) in
            let k =
            from_In-map (corner kind sizes c) (facet_corners kind (length sizes) f) (corner kind sizes e l.0)
            (In_from (facet_points kind sizes c f) (corner kind sizes e l.0) has) in
            any_from (λ x. meets x ms y) here (offset c k.0)
            (In-map (corner_offset kind (length sizes) (rank_of kind sizes c)) (facet_corners kind (length sizes) f) k.0 k.1)
            (subst (λ (z : List ℕ). meets (offset c k.0) ms z ≡ true) (sym l.2)
            (meet_where_same k.0 l.0 (in_facet kind (length sizes) f k.0 k.1).0 (in_facet kind (length sizes) g l.0 l.1).0 (sym k.2)))))
