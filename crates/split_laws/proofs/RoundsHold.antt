-- What the tests of the cells round edges say: the lists are the cells round the edges of each way.
use Rattle.std.proofs.Common.{◌≡◌, ℕ, zero, suc, ◌+◌, ◌-◌, ◌*◌, ◌/◌, ◌%◌, ◌<◌, ◌≤◌, Bool, true, false, not, ◌&&◌, List, [], ◌∷◌, ◌++◌, length}
use Rattle.std.proofs.Common.{refl, ap, sym, ◌∙◌, subst, arith, inl, inr, ℤ, if◌then◌else◌}
use Rattle.std.specs.Prelude.{◌==◌, ◌||◌, ◌⊎◌, nat_lt, nat_le, pos, ◌+ℤ◌, map, filter, slice_index, slice_index_or, Contains}
use Rattle.std.specs.List.{list_all, list_any}
use Rattle.std.proofs.lemmas.Bool.{eqb-true, leb-true, ltb-true, and_from, or_cases}
use Rattle.std.proofs.lemmas.Int.{ints}
use Rattle.std.proofs.lemmas.List.{get_or-map}
use Rattle.iso_model.specs.declared.Kind.{Kind}
use Rattle.iso_model.specs.declared.Kind.TheVariants.{Cube, Simplex, Pyramid}
use Rattle.lists.specs.Orders.{numbers, same_list}
use Rattle.lists.specs.Members.{In}
use Rattle.lists.proofs.Tests.{and_left, and_right, not_or, not_refused, equal_of, of_equal}
use Rattle.lists.proofs.Contained.{Contains-at, any_default}
use Rattle.lists.proofs.MemberLaws.{In_from, Contains_from, from_any, any_from, all_In, all_below, from_In-numbers, lists_equal}
use Rattle.lists.proofs.MemberLaws.{In-append_left, In-append_right, from_In-append, In-filter, from_filter}
use Rattle.iso_model.specs.Dimensions.{IsDimension}
use Rattle.iso_model.specs.Points.{point, plus, axes}
use Rattle.iso_model.specs.Cells.{HasDimension, edge_count, edge_in_facet, facet_count}
use Rattle.iso_model.specs.Splits.{cells_per_cube}
use Rattle.iso_model.specs.Neighbours.{IsAcross, facet_offsets, shift_across}
use Rattle.split_checks.specs.AcrossTests.{next_across, move_across}
use Rattle.split_laws.proofs.Across.{next_of, less_one, shift_is, length-move}
use Rattle.split_laws.proofs.Coordinates.{coordinate, length-point, lists_same}
use Rattle.split_laws.proofs.Midpoints.{plus_at}
use Rattle.split_laws.proofs.Offsets.{equal_lists}
use Rattle.split_laws.proofs.SplitTheorems.{found_across}
use Rattle.split_checks.specs.declared.rounds.Place.{Place}
use Rattle.split_checks.specs.CellsRound.{sum_of, way_of, IsBelow4, IsWay, HasWay, IsNextTo, AreInTurn, AreOwn, stands, before_gap, after_gap, arc_of, AreRound}
use Rattle.split_checks.proofs.RoundsFound.{places_of, ways, same_place, place_of, is_listed, all_listed, has_way, has_some, goes_over, is_next, in_turn}
use Rattle.split_checks.proofs.RoundsFound.{none_twice, last_to_first, on_both_sides, of_both, of_each_side, is_arc, are_arcs, is_round, all_round}
use Rattle.split_checks.proofs.RoundsFound.{cubes_listed, simplices_listed, pyramids_listed, cubes_round, simplices_round, pyramids_round}

-- ---- places

abbrev place : ℕ → List ℕ → Place
place r b = record { rank = r; back = b }

pub same_parts : (p q : Place) → p.rank ≡ q.rank → p.back ≡ q.back → p ≡ q
same_parts p q r b = ap (λ (x : ℕ). place x p.back) r ∙ ap (place q.rank) b

place_same : (p q : Place) → same_place p q ≡ true → p ≡ q
place_same p q h =
    same_parts p q (equal_of p.rank q.rank (and_left (p.rank == q.rank) (same_list p.back q.back) h))
    (lists_equal p.back q.back (and_right (p.rank == q.rank) (same_list p.back q.back) h))

same_place_of : (p q : Place) → p ≡ q → same_place p q ≡ true
same_place_of p q e =
    and_from (p.rank == q.rank) (same_list p.back q.back) (of_equal p.rank q.rank (ap (λ (x : Place). x.rank) e))
    (equal_lists p.back q.back (ap (λ (x : Place). x.back) e))

-- ---- arcs

module _ (sides : List (Bool × Bool)) where
  before_case : (p q : Place) (rest : List Place) → (In p (before_gap sides rest) → In p rest × (stands sides p.back ≡ true)) → (b : Bool)
      → stands sides q.back ≡ b → In p (if b then q ∷ before_gap sides rest else []) → In p (q ∷ rest) × (stands sides p.back ≡ true)
  before_case p q rest later true is (inl e) = (inl e, subst (λ (x : Place). stands sides x.back ≡ true) (sym e) is)
  before_case p q rest later true is (inr i) = let r = later i in (inr r.0, r.1)
  before_case p q rest later false is i = absurd i

  before_in : (places : List Place) (p : Place) → In p (before_gap sides places) → In p places × (stands sides p.back ≡ true)
  before_in [] p i = absurd i
  before_in (q ∷ rest) p i = before_case p q rest (before_in rest p) (stands sides q.back) refl i

  after_case : (p q : Place) (rest : List Place) → (In p (after_gap sides rest) → In p rest × (stands sides p.back ≡ true)) → (b : Bool)
      → In p (if b then after_gap sides rest else filter (λ (x : Place). stands sides x.back) rest) → In p (q ∷ rest) × (stands sides p.back ≡ true)
  after_case p q rest later true i = let r = later i in (inr r.0, r.1)
  after_case p q rest later false i = let r = from_filter (λ (x : Place). stands sides x.back) rest p i in (inr r.0, r.1)

  after_in : (places : List Place) (p : Place) → In p (after_gap sides places) → In p places × (stands sides p.back ≡ true)
  after_in [] p i = absurd i
  after_in (q ∷ rest) p i = after_case p q rest (after_in rest p) (stands sides q.back) i

  -- an arc has the places whose cubes are there
  pub arc_in : (places : List Place) (p : Place) → In p (arc_of sides places) → In p places × (stands sides p.back ≡ true)
  arc_in places p i = elim (from_In-append (after_gap sides places) (before_gap sides places) p i) [
    | inl j ↦ after_in places p j
    | inr j ↦ before_in places p j
  ]

  in_case : (p q : Place) (rest : List Place) → In p (q ∷ rest) → stands sides p.back ≡ true
      → (In p rest → In p (after_gap sides rest) ⊎ In p (before_gap sides rest)) → (b : Bool) → stands sides q.back ≡ b
      → In p (if b then after_gap sides rest else filter (λ (x : Place). stands sides x.back) rest) ⊎ In p (if b then q ∷ before_gap sides rest else [])
  in_case p q rest (inl e) h later true is = inr (inl e)
  in_case p q rest (inl e) h later false is =
      absurd (let both : true ≡ false = sym h ∙ ap (λ (x : Place). stands sides x.back) e ∙ is in cc)
  in_case p q rest (inr i) h later true is = elim (later i) [ inl j ↦ inl j | inr j ↦ inr (inr j) ]
  in_case p q rest (inr i) h later false is = inl (In-filter (λ (x : Place). stands sides x.back) rest p i h)

  in_parts : (places : List Place) (p : Place) → In p places → stands sides p.back ≡ true → In p (after_gap sides places) ⊎ In p (before_gap sides places)
  in_parts [] p i h = absurd i
  in_parts (q ∷ rest) p i h = in_case p q rest i h (λ j. in_parts rest p j h) (stands sides q.back) refl

  pub in_arc : (places : List Place) (p : Place) → In p places → stands sides p.back ≡ true → In p (arc_of sides places)
  in_arc places p i h = elim (in_parts places p i h) [
    | inl j ↦ In-append_left (after_gap sides places) (before_gap sides places) p j
    | inr j ↦ In-append_right (after_gap sides places) (before_gap sides places) p j
  ]

-- ---- the tests of one list

pub three_axes : (kind : Kind) → HasDimension kind 3
three_axes Cube = (omega arith, omega arith)
three_axes Simplex = (omega arith, omega arith)
three_axes Pyramid = refl

pub three_is : IsDimension 3
three_is = inr (inl refl)

module _ (kind : Kind) (way : List ℕ) where
  -- a place of the list
  record Listed (p : Place) : Type 0 where
    pub is_rank : p.rank < cells_per_cube kind 3
    pub axes : length p.back ≡ 3
    pub edge : ℕ
    pub has : HasWay kind way p edge

  way_from : (p : Place) (n : ℕ) → p.rank < cells_per_cube kind 3 → length p.back ≡ 3 → n < edge_count kind 3 → has_way kind way p n ≡ true
      → HasWay kind way p n
  way_from p n hr long hn h =
      record {
        is_rank = hr;
        is_edge = hn;
        axes = long;
        sum = lists_equal (sum_of kind p.rank n) (point 3 (λ i. slice_index way i + 4 * slice_index p.back i)) h;
      }

  listed_from : (p : Place) → has_some kind way p ≡ true → Listed p
  listed_from p h =
      let a = nat_lt p.rank (cells_per_cube kind 3) in
      let b = length p.back == 3 in
      let c = list_any (has_way kind way p) (numbers (edge_count kind 3)) in
      let n = from_any (has_way kind way p) (numbers (edge_count kind 3)) (and_right (a && b) c h) in
      let hr = ltb-true p.rank (cells_per_cube kind 3) (and_left a b (and_left (a && b) c h)) in
      let long = equal_of (length p.back) 3 (and_right a b (and_left (a && b) c h)) in
      record {
        is_rank = hr;
        axes = long;
        edge = n.0;
        has = way_from p n.0 hr long (from_In-numbers (edge_count kind 3) n.0 n.1) n.2;
      }

  cube_from : (back other move : ℕ) (s : ℤ) → suc back ≡ other + move → s ≡ less_one move → pos back ≡ pos other +ℤ s
  cube_from back other move s e shift = omega (arith, ints, e, shift)

  over_from : (p q : Place) (n f : ℕ) → Listed p → Listed q → HasWay kind way p n → f < facet_count kind 3
      → goes_over kind (next_across kind 3) p q n f ≡ true → IsNextTo kind way p q
  over_from p q n f lp lq has hf h =
      let move = move_across 3 (facet_offsets kind 3 p.rank f) in
      let a = edge_in_facet kind 3 f n in
      let b = (next_of kind 3 p.rank f).0 == q.rank in
      let c = same_list (map suc p.back) (plus q.back move) in
      let rank_is : (next_of kind 3 p.rank f).0 ≡ q.rank = equal_of (next_of kind 3 p.rank f).0 q.rank (and_right a b (and_left (a && b) c h)) in
      let backs : map suc p.back ≡ plus q.back move = lists_equal (map suc p.back) (plus q.back move) (and_right (a && b) c h) in
      record {
        edge = n;
        facet = f;
        other = (next_of kind 3 p.rank f).1;
        has = has;
        is_facet = hf;
        facet_has = and_left a b (and_left (a && b) c h);
        across =
            subst (λ (r : ℕ). IsAcross kind 3 p.rank f r (next_of kind 3 p.rank f).1) rank_is
            (found_across kind 3 three_is (three_axes kind) p.rank f lp.is_rank hf);
        cube = λ i hi.
            let long : length move ≡ 3 = length-move 3 (facet_offsets kind 3 p.rank f) in
            let here : slice_index (map suc p.back) i ≡ suc (slice_index p.back i) = get_or-map suc p.back i 0 0 (omega (arith, hi, lp.axes)) in
            let there : slice_index (plus q.back move) i ≡ slice_index q.back i + slice_index move i =
            plus_at q.back move (long ∙ sym lq.axes) i (omega (arith, hi, lq.axes)) in
            let shift : slice_index_or (shift_across kind 3 p.rank f) i (pos 0) ≡ less_one (slice_index move i) =
            ap (λ (s : List ℤ). slice_index_or s i (pos 0)) (shift_is kind 3 p.rank f)
            ∙ get_or-map less_one move i 0 (pos 0) (omega (arith, hi, long)) in
            cube_from (slice_index p.back i) (slice_index q.back i) (slice_index move i) (slice_index_or (shift_across kind 3 p.rank f) i (pos 0))
            (sym here ∙ ap (λ (xs : List ℕ). slice_index xs i) backs ∙ there) shift;
      }

  next_from : (p q : Place) → Listed p → Listed q → is_next kind (next_across kind 3) way p q ≡ true → IsNextTo kind way p q
  next_from p q lp lq h =
      let n =
      from_any (λ m. has_way kind way p m && list_any (goes_over kind (next_across kind 3) p q m) (numbers (facet_count kind 3)))
      (numbers (edge_count kind 3)) h in
      let over = list_any (goes_over kind (next_across kind 3) p q n.0) (numbers (facet_count kind 3)) in
      let f = from_any (goes_over kind (next_across kind 3) p q n.0) (numbers (facet_count kind 3)) (and_right (has_way kind way p n.0) over n.2) in
      let has = way_from p n.0 lp.is_rank lp.axes (from_In-numbers (edge_count kind 3) n.0 n.1) (and_left (has_way kind way p n.0) over n.2) in
      over_from p q n.0 f.0 lp lq has (from_In-numbers (facet_count kind 3) f.0 f.1) f.2

  turn_from : (ps : List Place) → ((p : Place) → In p ps → Listed p) → in_turn kind (next_across kind 3) way ps ≡ true → AreInTurn kind way ps
  turn_from [] each h = tt
  turn_from (p ∷ []) each h = tt
  turn_from (p ∷ q ∷ rest) each h =
      let first = is_next kind (next_across kind 3) way p q in
      let later = in_turn kind (next_across kind 3) way (q ∷ rest) in (
        next_from p q (each p (inl refl)) (each q (inr (inl refl))) (and_left first later h),
        turn_from (q ∷ rest) (λ x i. each x (inr i)) (and_right first later h),
      )

own_from : (ps : List Place) → none_twice ps ≡ true → AreOwn ps
own_from [] h = tt
own_from (p ∷ rest) h =
    let a = list_any (same_place p) rest in (
      λ has.
          not_refused a (and_left (not a) (none_twice rest) h)
          (any_from (same_place p) rest p (In_from rest p has) (same_place_of p p refl)),
      own_from rest (and_right (not a) (none_twice rest) h),
    )

-- ---- both truth values

at_both : (test : Bool → Bool) → of_both test ≡ true → (b : Bool) → test b ≡ true
at_both test h true = and_left (test true) (test false) h
at_both test h false = and_right (test true) (test false) h

at_side : (test : Bool × Bool → Bool) → of_each_side test ≡ true → (s : Bool × Bool) → test s ≡ true
at_side test h (x, y) = at_both (λ b. test (x, b)) (at_both (λ a. of_both (λ b. test (a, b))) h x) y

-- ---- each kind

listed_all : (kind : Kind) → all_listed kind ≡ true
listed_all Cube = cubes_listed
listed_all Simplex = simplices_listed
listed_all Pyramid = pyramids_listed

round_all : (kind : Kind) → all_round kind ≡ true
round_all Cube = cubes_round
round_all Simplex = simplices_round
round_all Pyramid = pyramids_round

listed_at : (kind : Kind) (r n : ℕ) → r < cells_per_cube kind 3 → n < edge_count kind 3 → is_listed kind r (sum_of kind r n) ≡ true
listed_at kind r n hr hn =
    all_below (edge_count kind 3) (λ m. is_listed kind r (sum_of kind r m))
    (all_below (cells_per_cube kind 3) (λ q. list_all (λ m. is_listed kind q (sum_of kind q m)) (numbers (edge_count kind 3))) (listed_all kind) r hr) n hn

round_at : (kind : Kind) (way : List ℕ) → IsWay kind way → is_round kind (next_across kind 3) way (places_of kind way) ≡ true
round_at kind way (r, n, hr, hn, is) =
    let sum = sum_of kind r n in
    let w =
    from_any (same_list (way_of sum)) (ways kind)
    (and_left (list_any (same_list (way_of sum)) (ways kind)) (list_any (same_place (place_of r sum)) (places_of kind (way_of sum)))
    (listed_at kind r n hr hn)) in
    let same : w.0 ≡ way = sym (lists_equal (way_of sum) w.0 w.2) ∙ is in
    subst (λ (x : List ℕ). is_round kind (next_across kind 3) x (places_of kind x) ≡ true) same
    (all_In (λ x. is_round kind (next_across kind 3) x (places_of kind x)) (ways kind) (round_all kind) w.0 w.1)

module _ (kind : Kind) (way : List ℕ) (is : IsWay kind way) where
  abbrev next : List (List (ℕ × ℕ))
  next = next_across kind 3

  abbrev places : List Place
  places = places_of kind way

  abbrev t_long : Bool
  t_long = length way == 3

  abbrev t_small : Bool
  t_small = list_all (λ c. nat_lt c 4) way

  abbrev t_some : Bool
  t_some = list_all (has_some kind way) (places_of kind way)

  abbrev t_three : Bool
  t_three = nat_le 3 (length (places_of kind way))

  abbrev t_round : Bool
  t_round = last_to_first kind (next_across kind 3) way (places_of kind way)

  abbrev t_both : Bool
  t_both = list_all (on_both_sides way (places_of kind way)) (axes 3)

  abbrev t_arcs : Bool
  t_arcs = are_arcs kind (next_across kind 3) way (places_of kind way)

  six : (((((t_long && t_small) && t_some) && t_three) && t_round) && t_both) ≡ true
  six = and_left (((((t_long && t_small) && t_some) && t_three) && t_round) && t_both) t_arcs (round_at kind way is)

  five : ((((t_long && t_small) && t_some) && t_three) && t_round) ≡ true
  five = and_left ((((t_long && t_small) && t_some) && t_three) && t_round) t_both six

  four : (((t_long && t_small) && t_some) && t_three) ≡ true
  four = and_left (((t_long && t_small) && t_some) && t_three) t_round five

  three : ((t_long && t_small) && t_some) ≡ true
  three = and_left ((t_long && t_small) && t_some) t_three four

  two : (t_long && t_small) ≡ true
  two = and_left (t_long && t_small) t_some three

  -- a way has three numbers, each below 4
  pub way_long : length way ≡ 3
  way_long = equal_of (length way) 3 (and_left t_long t_small two)

  way_small : (c : ℕ) → In c way → c < 4
  way_small c i = ltb-true c 4 (all_In (λ x. nat_lt x 4) way (and_right t_long t_small two) c i)

  each_listed : (p : Place) → In p (places_of kind way) → Listed kind way p
  each_listed p i = listed_from kind way p (all_In (has_some kind way) (places_of kind way) (and_right (t_long && t_small) t_some three) p i)

  -- ---- each cell that has an edge of the way is listed

  pub way_at : IsBelow4 way
  way_at i hi = way_small (slice_index way i) (In_from way (slice_index way i) (Contains-at way i 0 (omega (arith, hi, way_long))))

  sum_back : (w b : ℕ) → w < 4 → (w + 4 * b) / 4 ≡ b
  sum_back w b h = omega (arith, h)

  sum_way : (w b : ℕ) → w < 4 → (w + 4 * b) % 4 ≡ w
  sum_way w b h = omega (arith, h)

  abbrev at_sum : Place → List ℕ
  at_sum p = point 3 (λ i. slice_index way i + 4 * slice_index p.back i)

  way_is : (p : Place) → way_of (at_sum p) ≡ way
  way_is p = lists_same (way_of (at_sum p)) way (long ∙ sym way_long) (λ i h.
      let hi : i < 3 = omega (arith, h, long) in
      get_or-map (λ c. c % 4) (at_sum p) i 0 0 (omega (arith, hi, length-point 3 (λ j. slice_index way j + 4 * slice_index p.back j)))
      ∙ ap (λ c. c % 4) (coordinate 3 (λ j. slice_index way j + 4 * slice_index p.back j) i hi)
      ∙ sum_way (slice_index way i) (slice_index p.back i) (way_at i hi))
    where
      long : length (way_of (at_sum p)) ≡ 3
      long = refl

  back_is : (p : Place) → length p.back ≡ 3 → map (λ c. c / 4) (at_sum p) ≡ p.back
  back_is p axes_of = lists_same (map (λ c. c / 4) (at_sum p)) p.back (long ∙ sym axes_of) (λ i h.
      let hi : i < 3 = omega (arith, h, long) in
      get_or-map (λ c. c / 4) (at_sum p) i 0 0 (omega (arith, hi, length-point 3 (λ j. slice_index way j + 4 * slice_index p.back j)))
      ∙ ap (λ c. c / 4) (coordinate 3 (λ j. slice_index way j + 4 * slice_index p.back j) i hi)
      ∙ sum_back (slice_index way i) (slice_index p.back i) (way_at i hi))
    where
      long : length (map (λ c. c / 4) (at_sum p)) ≡ 3
      long = refl

  all_in : (p : Place) (n : ℕ) → HasWay kind way p n → In p (places_of kind way)
  all_in p n has =
      let sum = sum_of kind p.rank n in
      let q =
      from_any (same_place (place_of p.rank sum)) (places_of kind (way_of sum))
      (and_right (list_any (same_list (way_of sum)) (ways kind)) (list_any (same_place (place_of p.rank sum)) (places_of kind (way_of sum)))
      (listed_at kind p.rank n has.is_rank has.is_edge)) in
      let of_way : way_of sum ≡ way = ap way_of has.sum ∙ way_is p in
      let of_back : map (λ c. c / 4) sum ≡ p.back = ap (map (λ c. c / 4)) has.sum ∙ back_is p has.axes in
      let is_p : q.0 ≡ p = sym (place_same (place_of p.rank sum) q.0 q.2) ∙ same_parts (place_of p.rank sum) p refl of_back in
      subst (λ (x : Place). In x (places_of kind way)) is_p (subst (λ (w : List ℕ). In q.0 (places_of kind w)) of_way q.1)

  -- ---- the others

  arc_at : (a b c : Bool × Bool) → is_arc kind (next_across kind 3) way (arc_of (a ∷ b ∷ c ∷ []) (places_of kind way)) ≡ true
  arc_at a b c =
      let test = λ (x y z : Bool × Bool). is_arc kind (next_across kind 3) way (arc_of (x ∷ y ∷ z ∷ []) (places_of kind way)) in
      at_side (test a b)
      (at_side (λ y. of_each_side (test a y))
      (at_side (λ x. of_each_side (λ y. of_each_side (test x y)))
      (and_right (((((t_long && t_small) && t_some) && t_three) && t_round) && t_both) t_arcs (round_at kind way is)) a) b) c

  last_from : (ps : List Place) → ((p : Place) → In p ps → Listed kind way p) → last_to_first kind (next_across kind 3) way ps ≡ true → (d : Place)
      → IsNextTo kind way (slice_index_or ps (length ps - 1) d) (slice_index_or ps 0 d)
  last_from [] each h d = absurd (cc)
  last_from (p ∷ rest) each h d =
      let last = slice_index_or (p ∷ rest) (length (p ∷ rest) - 1) p in
      let at_end : In last (p ∷ rest) =
      In_from (p ∷ rest) last (Contains-at (p ∷ rest) (length (p ∷ rest) - 1) p (omega arith)) in
      subst (λ (x : Place). IsNextTo kind way x p) (any_default (p ∷ rest) (length (p ∷ rest) - 1) p d (omega arith))
      (next_from kind way last p (each last at_end) (each p (inl refl)) h)

  sides_at : (i : ℕ) → i < 3 → slice_index way i ≡ 0 →
      ((p : Place) × Contains (places_of kind way) p × (slice_index p.back i ≡ 0)) × ((p : Place) × Contains (places_of kind way) p × (slice_index p.back i ≡ 1))
  sides_at i hi flat =
      let a = list_any (λ (p : Place). slice_index p.back i == 0) (places_of kind way) in
      let b = list_any (λ (p : Place). slice_index p.back i == 1) (places_of kind way) in
      let tested =
      all_below 3 (on_both_sides way (places_of kind way))
      (and_right ((((t_long && t_small) && t_some) && t_three) && t_round) t_both six) i hi in
      let found = not_or (slice_index way i == 0) (a && b) tested (of_equal (slice_index way i) 0 flat) in
      let p = from_any (λ (p : Place). slice_index p.back i == 0) (places_of kind way) (and_left a b found) in
      let q = from_any (λ (p : Place). slice_index p.back i == 1) (places_of kind way) (and_right a b found) in (
        (p.0, Contains_from (places_of kind way) p.0 p.1, equal_of (slice_index p.0.back i) 0 p.2),
        (q.0, Contains_from (places_of kind way) q.0 q.1, equal_of (slice_index q.0.back i) 1 q.2),
      )

  -- the list of the way has the cells round its edges
  pub rounds : AreRound kind way (places_of kind way)
  rounds = record {
    has = λ p i. let l = each_listed p (In_from (places_of kind way) p i) in (l.edge, l.has);
    all = λ p n has. Contains_from (places_of kind way) p (all_in p n has);
    three = leb-true 3 (length (places_of kind way)) (and_right ((t_long && t_small) && t_some) t_three four);
    own = λ a b c.
        own_from (arc_of (a ∷ b ∷ c ∷ []) (places_of kind way))
        (and_left (none_twice (arc_of (a ∷ b ∷ c ∷ []) (places_of kind way)))
        (in_turn kind (next_across kind 3) way (arc_of (a ∷ b ∷ c ∷ []) (places_of kind way))) (arc_at a b c));
    arcs = λ a b c.
        turn_from kind way (arc_of (a ∷ b ∷ c ∷ []) (places_of kind way))
        (λ p i. each_listed p (arc_in (a ∷ b ∷ c ∷ []) (places_of kind way) p i).0)
        (and_right (none_twice (arc_of (a ∷ b ∷ c ∷ []) (places_of kind way)))
        (in_turn kind (next_across kind 3) way (arc_of (a ∷ b ∷ c ∷ []) (places_of kind way))) (arc_at a b c));
    round = last_from (places_of kind way) each_listed (and_right (((t_long && t_small) && t_some) && t_three) t_round five);
    both = sides_at;
  }

-- a number below 8
pub eight_cases : (n : ℕ) → n < 8
    → (n ≡ 0) ⊎ ((n ≡ 1) ⊎ ((n ≡ 2) ⊎ ((n ≡ 3) ⊎ ((n ≡ 4) ⊎ ((n ≡ 5) ⊎ ((n ≡ 6) ⊎ (n ≡ 7)))))))
eight_cases zero h = inl refl
eight_cases (suc zero) h = inr (inl refl)
eight_cases (suc (suc zero)) h = inr (inr (inl refl))
eight_cases (suc (suc (suc zero))) h = inr (inr (inr (inl refl)))
eight_cases (suc (suc (suc (suc zero)))) h = inr (inr (inr (inr (inl refl))))
eight_cases (suc (suc (suc (suc (suc zero))))) h = inr (inr (inr (inr (inr (inl refl)))))
eight_cases (suc (suc (suc (suc (suc (suc zero)))))) h = inr (inr (inr (inr (inr (inr (inl refl))))))
eight_cases (suc (suc (suc (suc (suc (suc (suc zero))))))) h = inr (inr (inr (inr (inr (inr (inr refl))))))
eight_cases (suc (suc (suc (suc (suc (suc (suc (suc n)))))))) h = absurd (omega (arith, h))
