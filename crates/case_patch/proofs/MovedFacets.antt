-- Facets of points that are moved by an order of the coordinates with flips: the moved facets.
use Rattle.std.specs.Prelude.{◌≡◌, ℕ, ◌<◌, ℤ, pos, ◌+ℤ◌, ◌*ℤ◌, ◌-ℤ◌, ◌≤ℤ◌, Bool, true, false, if◌then◌else◌, List, [], ◌∷◌, ◌++◌, map, filter, length}
use Rattle.std.specs.Prelude.{slice_index, slice_index_or, All, Contains, IsTrue}
use Rattle.std.proofs.Common.{refl, sym, ap, ◌∙◌, subst, arith, length-append}
use Rattle.std.proofs.lemmas.Int.{ints}
use Rattle.std.proofs.lemmas.List.{length-map, map-append}
use Rattle.std.proofs.lemmas.List.Elements.{All-nil, All-cons, All-head, All-tail, All-append, All-map}
use Rattle.std.proofs.lemmas.List.FromFn.{length-map-range_with_len}
use Rattle.polynomials.proofs.Ring.{var, con, ◌⊖◌, ◌⊗◌, neg, value, normal, ring}
use Rattle.polynomials.proofs.SmallLaws.{same_ints}
use Rattle.iso_model.specs.Moves.{Move}
use Rattle.iso_model.specs.Turns.{turn, total, signed, minus, dot, HalfSpace, HasNormal, Holds, slack, same_int, Spans, rows_to}
use Rattle.iso_model.specs.Hulls.{IsFacet, members}
use Rattle.small_turn.proofs.TurnExpr as E
use Rattle.small_turn.proofs.Planes.{length-minus}
use Rattle.small_turn.proofs.PointSums.{get_or-minus}
use Rattle.cell_lattice.specs.Agreement.{agree_on}
use Rattle.cube_moves.proofs.OrderChecks.{axis-below, back}
use Rattle.cube_moves.proofs.InverseMoves.{order_turns_back}
use Rattle.halfspace.proofs.Bases.{length-members}
use Rattle.case_patch.proofs.OffSets.{has_is_test}
use Rattle.case_patch.proofs.MovedTurns.{map_below, places_of, at_place, value-total, turned, turned_spans}
use Rattle.lists.specs.Orders.{numbers, orders, has}
use Rattle.lists.specs.Bits.{is_set}
use Rattle.lists.proofs.Contained.{below_contained, each-from_All, All-from_each, any_default, filter-same}
use Rattle.lists.proofs.MemberLaws.{map-map}
use Rattle.iso_model.specs.Dimensions.{IsDimension, in_each_dimension}
use Rattle.halfspace.proofs.TightNumbers.{has_below}

-- a point of the cube in quarter-units that a move carries
abbrev pub placed : ℕ → Move → List ℤ → List ℤ
placed d by x =
    map (λ i. if is_set by.flips i then pos 4 -ℤ slice_index_or x (slice_index by.axes i) (pos 0) else slice_index_or x (slice_index by.axes i) (pos 0))
    (numbers d)

length-placed : (d : ℕ) (by : Move) (x : List ℤ) → length (placed d by x) ≡ d
length-placed d by x =
    length-map-range_with_len
    (λ i. if is_set by.flips i then pos 4 -ℤ slice_index_or x (slice_index by.axes i) (pos 0) else slice_index_or x (slice_index by.axes i) (pos 0)) 0 d

length-turned : (d : ℕ) (by : Move) (v : List ℤ) → length (turned d by v) ≡ d
length-turned d by v = length-map-range_with_len (λ i. signed (is_set by.flips i) (slice_index_or v (slice_index by.axes i) (pos 0))) 0 d

-- ---- differences of moved points

one_difference : (b : Bool) (x y : ℤ) → (if b then pos 4 -ℤ x else x) -ℤ (if b then pos 4 -ℤ y else y) ≡ signed b (x -ℤ y)
one_difference true x y = omega (arith, ints)
one_difference false x y = refl

placed_minus : (d : ℕ) → IsDimension d → (by : Move) → Contains (orders d) by.axes → (x y : List ℤ) → length x ≡ d → length y ≡ d
    → minus (placed d by x) (placed d by y) ≡ turned d by (minus x y)
placed_minus d is by o x y lx ly =
    let long = length-minus (placed d by x) (placed d by y) (length-placed d by x ∙ sym (length-placed d by y)) in
    same_ints (minus (placed d by x) (placed d by y)) (turned d by (minus x y)) (long ∙ length-placed d by x ∙ sym (length-turned d by (minus x y)))
    (λ k h. let in_k : k < d = omega (arith, long, length-placed d by x) in
    let a = axis-below d is by.axes o k in_k in
    get_or-minus (placed d by x) (placed d by y) k (length-placed d by x ∙ sym (length-placed d by y)) (omega (arith, in_k, length-placed d by x))
    ∙ ap (λ (z : ℤ). z -ℤ slice_index_or (placed d by y) k (pos 0))
    (at_place (λ i. if is_set by.flips i then pos 4 -ℤ slice_index_or x (slice_index by.axes i) (pos 0) else slice_index_or x (slice_index by.axes i)
    (pos 0)) d k (pos 0) in_k)
    ∙ ap (λ (z : ℤ). (if is_set by.flips k then pos 4 -ℤ slice_index_or x (slice_index by.axes k) (pos 0) else slice_index_or x (slice_index by.axes k) (pos 0))
    -ℤ z)
    (at_place (λ i. if is_set by.flips i then pos 4 -ℤ slice_index_or y (slice_index by.axes i) (pos 0) else slice_index_or y (slice_index by.axes i) (pos 0)) d
    k (pos 0) in_k)
    ∙ one_difference (is_set by.flips k) (slice_index_or x (slice_index by.axes k) (pos 0)) (slice_index_or y (slice_index by.axes k) (pos 0))
    ∙ ap (signed (is_set by.flips k)) (sym (get_or-minus x y (slice_index by.axes k) (lx ∙ sym ly) (omega (arith, a, lx))))
    ∙ sym (at_place (λ i. signed (is_set by.flips i) (slice_index_or (minus x y) (slice_index by.axes i) (pos 0))) d k (pos 0) in_k))

-- ---- points that span

rows_placed : (d : ℕ) → IsDimension d → (by : Move) → Contains (orders d) by.axes → (ps : List (List ℤ)) (x : List ℤ) → All (λ p. length p ≡ d) ps
    → length x ≡ d
    → rows_to (map (placed d by) ps) (placed d by x) ≡ map (turned d by) (rows_to ps x)
rows_placed d is by o [] x wide lx = refl
rows_placed d is by o (p ∷ ps) x wide lx =
    ap (λ (rs : List (List ℤ)). rs ++ (minus (placed d by x) (placed d by p) ∷ [])) (each ps (All-tail (λ q. length q ≡ d) p ps wide))
    ∙ ap (λ (r : List ℤ). map (turned d by) (map (λ q. minus q p) ps) ++ (r ∷ [])) (placed_minus d is by o x p lx (All-head (λ q. length q ≡ d) p ps wide))
    ∙ sym (map-append (turned d by) (map (λ q. minus q p) ps) (minus x p ∷ []))
  where
    each : (qs : List (List ℤ)) → All (λ q. length q ≡ d) qs → map (λ q. minus q (placed d by p)) (map (placed d by) qs)
        ≡ map (turned d by) (map (λ q. minus q p) qs)
    each [] w = refl
    each (q ∷ qs) w =
        ap (λ (r : List ℤ). r ∷ map (λ q. minus q (placed d by p)) (map (placed d by) qs))
        (placed_minus d is by o q p (All-head (λ q. length q ≡ d) q qs w) (All-head (λ q. length q ≡ d) p ps wide))
        ∙ ap (λ (rs : List (List ℤ)). turned d by (minus q p) ∷ rs) (each qs (All-tail (λ q. length q ≡ d) q qs w))

rows_wide : (d : ℕ) (ps : List (List ℤ)) (x : List ℤ) → All (λ p. length p ≡ d) ps → length x ≡ d → All (λ r. length r ≡ d) (rows_to ps x)
rows_wide d [] x wide lx = All-nil (λ r. length r ≡ d)
rows_wide d (p ∷ ps) x wide lx =
    All-append (λ r. length r ≡ d) (map (λ q. minus q p) ps) (minus x p ∷ []) (each ps (All-tail (λ q. length q ≡ d) p ps wide))
    (All-cons (λ r. length r ≡ d) (minus x p) [] (length-minus x p (lx ∙ sym lp) ∙ lx) (All-nil (λ r. length r ≡ d)))
  where
    lp : length p ≡ d
    lp = All-head (λ q. length q ≡ d) p ps wide

    each : (qs : List (List ℤ)) → All (λ q. length q ≡ d) qs → All (λ r. length r ≡ d) (map (λ q. minus q p) qs)
    each [] w = All-nil (λ r. length r ≡ d)
    each (q ∷ qs) w =
        let lq = All-head (λ q. length q ≡ d) q qs w in
        All-cons (λ r. length r ≡ d) (minus q p) (map (λ q. minus q p) qs) (length-minus q p (lq ∙ sym lp) ∙ lq) (each qs (All-tail (λ q. length q ≡ d) q qs w))

rows_count : (ps : List (List ℤ)) (x : List ℤ) → length (rows_to ps x) ≡ length ps
rows_count [] x = refl
rows_count (p ∷ ps) x = length-append (map (λ q. minus q p) ps) (minus x p ∷ []) ∙ omega (arith, length-map ps (λ q. minus q p))

pub placed_spans : (d : ℕ) → IsDimension d → (by : Move) → Contains (orders d) by.axes → (ps : List (List ℤ)) → length ps ≡ d → All (λ p. length p ≡ d) ps
    → Spans ps → Spans (map (placed d by) ps)
placed_spans d is by o ps l wide s = (
  placed d by s.0,
  length-placed d by s.0 ∙ sym l ∙ sym (length-map ps (placed d by)),
  λ e. turned_spans d is by o (rows_to ps s.0) (rows_count ps s.0 ∙ l) (rows_wide d ps s.0 wide (s.1 ∙ l)) s.2
      (ap turn (sym (rows_placed d is by o ps s.0 wide (s.1 ∙ l))) ∙ e),
)

-- ---- products with a turned normal

total-minus : (f g : ℕ → ℤ) (is : List ℕ) → total (map (λ i. f i -ℤ g i) is) ≡ total (map f is) -ℤ total (map g is)
total-minus f g [] = refl
total-minus f g (i ∷ is) = ap (λ (z : ℤ). (f i -ℤ g i) +ℤ z) (total-minus f g is) ∙ paired (f i) (g i) (total (map f is)) (total (map g is))
  where
    paired : (a b c d : ℤ) → (a -ℤ b) +ℤ (c -ℤ d) ≡ (a +ℤ c) -ℤ (b +ℤ d)
    paired a b c d = omega (arith, ints)

dot-map : (f g : ℕ → ℤ) (is : List ℕ) → dot (map f is) (map g is) ≡ total (map (λ i. f i *ℤ g i) is)
unfolding dot
dot-map f g [] = refl
dot-map f g (i ∷ is) = ap (λ (z : ℤ). f i *ℤ g i +ℤ z) (dot-map f g is)

-- a sum over all axes, in another order
same_sum : (d : ℕ) → IsDimension d → (axes : List ℕ) → Contains (orders d) axes
    → normal (E.total (map (λ i. var (slice_index axes i)) (numbers d))) ≡ normal (E.total (map var (numbers d)))
same_sum d is axes o = each-from_All (λ axes. normal (E.total (map (λ i. var (slice_index axes i)) (numbers d))) ≡ normal (E.total (map var (numbers d))))
    (orders d) (all d is) axes o
  where
    all : (d : ℕ) → IsDimension d → All (λ axes. normal (E.total (map (λ i. var (slice_index axes i)) (numbers d))) ≡ normal (E.total (map var (numbers d))))
        (orders d)
    all = in_each_dimension
        (λ d. All (λ axes. normal (E.total (map (λ i. var (slice_index axes i)) (numbers d))) ≡ normal (E.total (map var (numbers d)))) (orders d))
        (agree_on (λ axes. normal (E.total (map (λ i. var (slice_index axes i)) (numbers 2)))) (λ axes. normal (E.total (map var (numbers 2)))) (orders 2) refl)
        (agree_on (λ axes. normal (E.total (map (λ i. var (slice_index axes i)) (numbers 3)))) (λ axes. normal (E.total (map var (numbers 3)))) (orders 3) refl)
        (agree_on (λ axes. normal (E.total (map (λ i. var (slice_index axes i)) (numbers 4)))) (λ axes. normal (E.total (map var (numbers 4)))) (orders 4) refl)

sum_moved : (d : ℕ) → IsDimension d → (axes : List ℕ) → Contains (orders d) axes → (u : ℕ → ℤ)
    → total (map (λ i. u (slice_index axes i)) (numbers d)) ≡ total (map u (numbers d))
sum_moved d is axes o u =
    ap total (map_below (λ i. u (slice_index axes i)) (λ i. slice_index_or ρ (slice_index axes i) (pos 0)) d
    (λ i h. sym (at_place u d (slice_index axes i) (pos 0) (axis-below d is axes o i h))))
    ∙ ap total (sym (map-map (λ i. var (slice_index axes i)) (value ρ) (numbers d))) ∙ sym (value-total ρ (map (λ i. var (slice_index axes i)) (numbers d)))
    ∙ ring ρ (E.total (map (λ i. var (slice_index axes i)) (numbers d))) (E.total (map var (numbers d))) (same_sum d is axes o)
    ∙ value-total ρ (map var (numbers d)) ∙ ap total (map-map var (value ρ) (numbers d))
    ∙ ap total (map_below (λ i. slice_index_or ρ i (pos 0)) u d (λ i h. at_place u d i (pos 0) h))
  where
    ρ : List ℤ
    ρ = map u (numbers d)

-- what the flips take away
abbrev pub flipped_part : ℕ → Move → List ℤ → ℤ
flipped_part d by n = total (map (λ i. if is_set by.flips i then pos 4 *ℤ slice_index_or n (slice_index by.axes i) (pos 0) else pos 0) (numbers d))

one_product : (b : Bool) (n x : ℤ) → signed b n *ℤ (if b then pos 4 -ℤ x else x) ≡ n *ℤ x -ℤ (if b then pos 4 *ℤ n else pos 0)
one_product true n x = ring (n ∷ x ∷ []) (neg (var 0) ⊗ (con (pos 4) ⊖ var 1)) (var 0 ⊗ var 1 ⊖ con (pos 4) ⊗ var 0) refl
one_product false n x = ring (n ∷ x ∷ []) (var 0 ⊗ var 1) (var 0 ⊗ var 1 ⊖ con (pos 0)) refl

turned_dot : (d : ℕ) → IsDimension d → (by : Move) → Contains (orders d) by.axes → (n x : List ℤ) → length n ≡ d → length x ≡ d
    → dot (turned d by n) (placed d by x) ≡ dot n x -ℤ flipped_part d by n
turned_dot d is by o n x ln lx =
    dot-map (λ i. signed (is_set by.flips i) (at n (slice_index by.axes i)))
    (λ i. if is_set by.flips i then pos 4 -ℤ at x (slice_index by.axes i) else at x (slice_index by.axes i)) (numbers d)
    ∙ ap total (map_below _
    (λ i. at n (slice_index by.axes i) *ℤ at x (slice_index by.axes i) -ℤ (if is_set by.flips i then pos 4 *ℤ at n (slice_index by.axes i) else pos 0)) d
    (λ i h. one_product (is_set by.flips i) (at n (slice_index by.axes i)) (at x (slice_index by.axes i))))
    ∙ total-minus (λ i. at n (slice_index by.axes i) *ℤ at x (slice_index by.axes i))
    (λ i. if is_set by.flips i then pos 4 *ℤ at n (slice_index by.axes i) else pos 0) (numbers d)
    ∙ ap (λ (z : ℤ). z -ℤ flipped_part d by n)
    (sum_moved d is by.axes o (λ a. at n a *ℤ at x a) ∙ sym (dot-map (at n) (at x) (numbers d))
    ∙ ap (λ (m : List ℤ). dot m (map (at x) (numbers d))) (sym (places_of (pos 0) n d ln)) ∙ ap (dot n) (sym (places_of (pos 0) x d lx)))
  where
    at : List ℤ → ℕ → ℤ
    at v a = slice_index_or v a (pos 0)

-- ---- half-spaces that are moved

pub moved_half : ℕ → Move → HalfSpace → HalfSpace
moved_half d by h = record { normal = turned d by h.normal; bound = h.bound -ℤ flipped_part d by h.normal }

moved_width : (d : ℕ) (by : Move) (h : HalfSpace) → length (moved_half d by h).normal ≡ d
unfolding moved_half
moved_width d by h = length-turned d by h.normal

pub moved_slack : (d : ℕ) → IsDimension d → (by : Move) → Contains (orders d) by.axes → (h : HalfSpace) (x : List ℤ) → length h.normal ≡ d → length x ≡ d
    → slack (moved_half d by h) (placed d by x) ≡ slack h x
unfolding moved_half
moved_slack d is by o h x ln lx =
    ap (λ (z : ℤ). h.bound -ℤ flipped_part d by h.normal -ℤ z) (turned_dot d is by o h.normal x ln lx)
    ∙ taken h.bound (flipped_part d by h.normal) (dot h.normal x)
  where
    taken : (b k m : ℤ) → b -ℤ k -ℤ (m -ℤ k) ≡ b -ℤ m
    taken b k m = omega (arith, ints)

pub moved_normal : (d : ℕ) → IsDimension d → (by : Move) → Contains (orders d) by.axes → (h : HalfSpace) → length h.normal ≡ d → HasNormal h
    → HasNormal (moved_half d by h)
unfolding moved_half
moved_normal d is by o h ln n =
    let turns = order_turns_back d is by.axes o in
    let in_d : n.0 < d = omega (arith, ln, n.2) in
    let p : ℕ = slice_index (back d by.axes) n.0 in
    let in_p : p < d = turns.below n.0 in_d in
    let c : slice_index_or h.normal n.0 (pos 0) ≡ n.1 = any_default h.normal n.0 (pos 0) n.1 n.2 ∙ n.3 in (
      p,
      slice_index_or (turned d by h.normal) p (pos 0),
      omega (arith, in_p, length-turned d by h.normal),
      any_default (turned d by h.normal) p (slice_index_or (turned d by h.normal) p (pos 0)) (pos 0) (omega (arith, in_p, length-turned d by h.normal)),
      λ e. n.4 (sym c ∙ unsigned (is_set by.flips p) (slice_index_or h.normal n.0 (pos 0))
          (ap (λ (a : ℕ). signed (is_set by.flips p) (slice_index_or h.normal a (pos 0))) (sym (turns.axis n.0 in_d))
          ∙ sym (at_place (λ i. signed (is_set by.flips i) (slice_index_or h.normal (slice_index by.axes i) (pos 0))) d p (pos 0) in_p) ∙ e)),
    )
  where
    unsigned : (b : Bool) (z : ℤ) → signed b z ≡ pos 0 → z ≡ pos 0
    unsigned true z e = omega (arith, ints, e)
    unsigned false z e = e

-- ---- lists of points of which the one is the other, moved

-- point τ j of P is point j of Q, moved, and σ takes the numbers back
pub record PointsMatch (d : ℕ) (by : Move) (P Q : List (List ℤ)) (τ σ : ℕ → ℕ) : Type 0 where
  pub onto : (j : ℕ) → j < length Q → τ j < length P
  pub into : (i : ℕ) → i < length P → σ i < length Q
  pub there : (i : ℕ) → i < length P → τ (σ i) ≡ i
  pub again : (j : ℕ) → j < length Q → σ (τ j) ≡ j
  pub points : (j : ℕ) → j < length Q → slice_index_or P (τ j) [] ≡ placed d by (slice_index_or Q j [])

-- the moved set: the points that come from its members
abbrev pub moved_set : List (List ℤ) → (ℕ → ℕ) → List ℕ → List ℕ
moved_set P σ set = filter (λ i. has set (σ i)) (numbers (length P))

members_moved : (d : ℕ) (by : Move) (P Q : List (List ℤ)) (τ σ : ℕ → ℕ) → PointsMatch d by P Q τ σ → (basis : List ℕ) → All (λ j. j < length Q) basis
    → members P (map τ basis) ≡ map (placed d by) (members Q basis)
members_moved d by P Q τ σ m [] h = refl
members_moved d by P Q τ σ m (j ∷ js) h =
    ap (λ (p : List ℤ). p ∷ members P (map τ js)) (m.points j (All-head (λ j. j < length Q) j js h))
    ∙ ap (λ (ps : List (List ℤ)). placed d by (slice_index_or Q j []) ∷ ps) (members_moved d by P Q τ σ m js (All-tail (λ j. j < length Q) j js h))

members_long : (d : ℕ) (Q : List (List ℤ)) → All (λ q. length q ≡ d) Q → (basis : List ℕ) → All (λ j. j < length Q) basis
    → All (λ p. length p ≡ d) (members Q basis)
members_long d Q wide [] h = All-nil (λ p. length p ≡ d)
members_long d Q wide (j ∷ js) h =
    All-cons (λ p. length p ≡ d) (slice_index_or Q j []) (members Q js) (wide j [] (All-head (λ j. j < length Q) j js h))
    (members_long d Q wide js (All-tail (λ j. j < length Q) j js h))

-- a facet, moved, is a facet of the moved points
pub facet_moved : (d : ℕ) → IsDimension d → (by : Move) → Contains (orders d) by.axes → (P Q : List (List ℤ)) (τ σ : ℕ → ℕ) → PointsMatch d by P Q τ σ
    → All (λ q. length q ≡ d) Q
    → (set : List ℕ) → IsFacet d Q set → IsFacet d P (moved_set P σ set)
facet_moved d is by o P Q τ σ m wide set f = record {
  half = moved_half d by f.half;
  wide = width;
  normal = moved_normal d is by o f.half f.wide f.normal;
  holds = λ i e h. subst (λ (p : List ℤ). Holds (moved_half d by f.half) p) (any_default P i [] e h)
      (subst (λ (z : ℤ). pos 0 ≤ℤ z) (sym (slack_at i h)) (f.holds (σ i) [] (m.into i h)));
  tight = filter-same (λ i. has set (σ i)) (λ i. same_int (slack (moved_half d by f.half) (slice_index_or P i [])) (pos 0)) (numbers (length P))
      (λ i c. tight_at i (below_contained (length P) i c));
  basis = map τ f.basis;
  within = All-map (λ i. IsTrue (has (moved_set P σ set) i)) τ f.basis
      (All-from_each (λ j. IsTrue (has (moved_set P σ set) (τ j))) f.basis (λ j c. within_at j (each-from_All (λ j. IsTrue (has set j)) f.basis f.within j c)));
  full = length-map f.basis τ ∙ f.full;
  spans = subst Spans (sym (members_moved d by P Q τ σ m f.basis in_Q))
      (placed_spans d is by o (members Q f.basis) (length-members Q f.basis ∙ f.full) (members_long d Q wide f.basis in_Q) f.spans);
}
  where
    width : length (moved_half d by f.half).normal ≡ d
    width = moved_width d by f.half

    slack_at : (i : ℕ) → i < length P → slack (moved_half d by f.half) (slice_index_or P i []) ≡ slack f.half (slice_index_or Q (σ i) [])
    slack_at i h =
        let j = m.into i h in
        ap (slack (moved_half d by f.half)) (ap (λ (k : ℕ). slice_index_or P k []) (sym (m.there i h)) ∙ m.points (σ i) j)
        ∙ moved_slack d is by o f.half (slice_index_or Q (σ i) []) f.wide (wide (σ i) [] j)

    has_at : (j : ℕ) → j < length Q → has set j ≡ same_int (slack f.half (slice_index_or Q j [])) (pos 0)
    has_at j h = ap (λ (s : List ℕ). has s j) f.tight ∙ has_is_test (λ j. same_int (slack f.half (slice_index_or Q j [])) (pos 0)) (length Q) j h

    tight_at : (i : ℕ) → i < length P → has set (σ i) ≡ same_int (slack (moved_half d by f.half) (slice_index_or P i [])) (pos 0)
    tight_at i h = has_at (σ i) (m.into i h) ∙ ap (λ (z : ℤ). same_int z (pos 0)) (sym (slack_at i h))

    member_below : (j : ℕ) → has set j ≡ true → j < length Q
    member_below j e = has_below (λ j. same_int (slack f.half (slice_index_or Q j [])) (pos 0)) (length Q) j (subst (λ (s : List ℕ). has s j ≡ true) f.tight e)

    in_Q : All (λ j. j < length Q) f.basis
    in_Q = All-from_each (λ j. j < length Q) f.basis (λ j c. member_below j (each-from_All (λ j. IsTrue (has set j)) f.basis f.within j c))

    within_at : (j : ℕ) → has set j ≡ true → has (moved_set P σ set) (τ j) ≡ true
    within_at j e =
        let h = member_below j e in
        has_is_test (λ i. has set (σ i)) (length P) (τ j) (m.onto j h) ∙ ap (has set) (m.again j h) ∙ e
