-- Where the edge at a midpoint is crossed, by the samples at its ends.
use Rattle.std.proofs.Common.{ap, arith, inl, inr, refl, sym, ◌∙◌}
use Rattle.std.proofs.Math.IntN.{pos-*ℤ-pos, pos-+ℤ-pos}
use Rattle.std.proofs.Math.Nat.{div-div-eq-div-mul, mul-div_cancel, zero-div}
use Rattle.std.proofs.lemmas.Bool.{cases_lt, false_from_ne_true}
use Rattle.std.proofs.lemmas.List.{get_or-map}
use Rattle.std.proofs.lemmas.Int.{ints, unsigned_abs-mul}
use Rattle.std.specs.Int.{int_div_euclid}
use Rattle.std.specs.Prelude.{Bool, List, [], ◌∷◌, false, length, map, nat_abs, pos, slice_index, suc, true, ℕ, ℤ, ◌*ℤ◌, ◌+ℤ◌, ◌-ℤ◌}
use Rattle.std.specs.Prelude.{◌*◌, ◌+◌, ◌/◌, ◌%◌, ◌<◌, ◌==◌, ◌≡◌, if◌then◌else◌}
use Rattle.iso_model.specs.Crossing.{crossing, distance, vertex_of}
use Rattle.iso_model.specs.Points.{axes, comes_first}
use Rattle.iso_model.specs.Values.{Volume, sample_at, value_at}
use Rattle.iso_model.proofs.OrderLaws.{comes_first-irreflexive, comes_first-trans}
use Rattle.lists.specs.Orders.{numbers}
use Rattle.lists.proofs.MemberLaws.{length_map, map-range_more, map_same}
use Rattle.lists.proofs.Tests.{and_left, and_right, equal_of}
use Rattle.edge_middles.specs.Middles.{centre_edge, edge_at, joins_samples, sample_edge}
use Rattle.edge_middles.specs.MiddleVertices.{HasVertexAlong, HasVertexToCentre, centre_end, centre_value, corner_end, corner_value, million_share, point_along}
use Rattle.edge_middles.specs.WhatIsThere.{sample_above, sample_below}
use Rattle.edge_middles.proofs.Heights.{by_last}
use Rattle.edge_middles.proofs.WhatIsThere.{centre_value_is, no_samples_in, sample_value}

-- ---- eighths

eighths_apart : (a b : ℤ) → nat_abs (pos 8 *ℤ b -ℤ pos 8 *ℤ a) ≡ 8 * nat_abs (b -ℤ a)
eighths_apart a b =
    let factored : pos 8 *ℤ b -ℤ pos 8 *ℤ a ≡ pos 8 *ℤ (b -ℤ a) = omega (arith, ints) in
    ap nat_abs factored ∙ unsigned_abs-mul (pos 8) (b -ℤ a)

without_eighths : (s t : ℕ) → 1000000 * (8 * s) / (8 * t) ≡ 1000000 * s / t
without_eighths s t =
    let turned : 1000000 * (8 * s) ≡ 1000000 * s * 8 = omega arith in
    ap (λ n. n / (8 * t)) turned ∙ sym (div-div-eq-div-mul (1000000 * s * 8) 8 t) ∙ ap (λ n. n / t) (mul-div_cancel (1000000 * s) (omega arith))

-- ---- one coordinate

-- what is added along an axis, where the ends are d half-units apart
added : (p q d s t : ℕ) → q ≡ p + d → int_div_euclid (pos 500000 *ℤ (pos q -ℤ pos p) *ℤ pos (8 * s)) (pos (8 * t)) ≡ pos (500000 * d * (8 * s) / (8 * t))
added p q d s t e =
    let gap : pos q -ℤ pos p ≡ pos d = omega (arith, ints, e) in
    let whole : pos 500000 *ℤ (pos q -ℤ pos p) *ℤ pos (8 * s) ≡ pos (500000 * d * (8 * s)) =
    ap (λ z. pos 500000 *ℤ z *ℤ pos (8 * s)) gap ∙ ap (λ z. z *ℤ pos (8 * s)) (pos-*ℤ-pos 500000 d) ∙ pos-*ℤ-pos (500000 * d) (8 * s) in
    ap (λ z. int_div_euclid z (pos (8 * t))) whole

-- one coordinate of a crossing, by those of the ends, and by a midpoint's
coordinate : (c s t : ℕ) → c % 2 ≡ 0 →
    pos 500000 *ℤ pos (2 * (c / 4)) +ℤ int_div_euclid (pos 500000 *ℤ (pos (2 * ((c + 2) / 4)) -ℤ pos (2 * (c / 4))) *ℤ pos (8 * s)) (pos (8 * t))
    ≡ pos (1000000 * (c / 4) + (if c % 4 == 2 then 1000000 * s / t else 0))
coordinate c s t even = elim (cases_lt (c % 4) 2) as
    (λ _. pos 500000 *ℤ pos (2 * (c / 4)) +ℤ int_div_euclid (pos 500000 *ℤ (pos (2 * ((c + 2) / 4)) -ℤ pos (2 * (c / 4))) *ℤ pos (8 * s)) (pos (8 * t))
    ≡ pos (1000000 * (c / 4) + (if c % 4 == 2 then 1000000 * s / t else 0))) [
      | inl low ↦
          let none : c % 4 ≡ 0 = omega (arith, low, even) in
          let nothing : 500000 * 0 * (8 * s) / (8 * t) ≡ 0 = (let zero_times : 500000 * 0 * (8 * s) ≡ 0 = omega arith in ap (λ n. n / (8 * t)) zero_times)
          ∙ zero-div (8 * t) in
          both (500000 * 0 * (8 * s) / (8 * t)) (added (2 * (c / 4)) (2 * ((c + 2) / 4)) 0 s t (omega (arith, none)))
          ∙ (λ i. pos (1000000 * (c / 4) + nothing i)) ∙ (λ i. pos (1000000 * (c / 4) + (if sym none i == 2 then 1000000 * s / t else 0)))
      | inr high ↦
          let one : c % 4 ≡ 2 = omega (arith, high, even) in
          let twice : 500000 * 2 * (8 * s) ≡ 1000000 * (8 * s) = omega arith in
          let share : 500000 * 2 * (8 * s) / (8 * t) ≡ 1000000 * s / t = ap (λ n. n / (8 * t)) twice ∙ without_eighths s t in
          both (500000 * 2 * (8 * s) / (8 * t)) (added (2 * (c / 4)) (2 * ((c + 2) / 4)) 2 s t (omega (arith, one)))
          ∙ (λ i. pos (1000000 * (c / 4) + share i)) ∙ (λ i. pos (1000000 * (c / 4) + (if sym one i == 2 then 1000000 * s / t else 0)))
    ]
  where
    both : (n : ℕ) → int_div_euclid (pos 500000 *ℤ (pos (2 * ((c + 2) / 4)) -ℤ pos (2 * (c / 4))) *ℤ pos (8 * s)) (pos (8 * t)) ≡ pos n
        → pos 500000 *ℤ pos (2 * (c / 4)) +ℤ int_div_euclid (pos 500000 *ℤ (pos (2 * ((c + 2) / 4)) -ℤ pos (2 * (c / 4))) *ℤ pos (8 * s)) (pos (8 * t))
        ≡ pos (1000000 * (c / 4) + n)
    both n e =
        let start : 500000 * (2 * (c / 4)) ≡ 1000000 * (c / 4) = omega arith in
        ap (λ z. pos 500000 *ℤ pos (2 * (c / 4)) +ℤ z) e ∙ ap (λ z. z +ℤ pos n) (pos-*ℤ-pos 500000 (2 * (c / 4)))
        ∙ pos-+ℤ-pos (500000 * (2 * (c / 4))) n ∙ ap (λ k. pos (k + n)) start

-- ---- all coordinates

-- what is made of two lists place by place, where both are made of one
by_places : (f g : ℕ → ℕ) (h : ℕ → ℕ → ℤ) (m : List ℕ)
    → map (λ i. h (slice_index (map f m) i) (slice_index (map g m) i)) (axes (length (map f m))) ≡ map (λ c. h (f c) (g c)) m
by_places f g h [] = refl
by_places f g h (c ∷ m) =
    let at : ℕ → ℤ = λ i. h (slice_index (map f (c ∷ m)) i) (slice_index (map g (c ∷ m)) i) in
    let rest = by_places f g h m in
    let tail = map-range_more at 0 (length (map f m))
    ∙ map_same (λ i. at (i + 1)) (λ i. h (slice_index (map f m) i) (slice_index (map g m) i)) (numbers (length (map f m)))
    (λ i j. let one : i + 1 ≡ suc i = omega arith in ap at one) in
    ap (λ (zs : List ℤ). h (f c) (g c) ∷ zs) (tail ∙ rest)

each_coordinate : (h : ℕ → ℤ) (g : ℕ → ℤ) (m : List ℕ) → joins_samples m ≡ true → ((c : ℕ) → c % 2 ≡ 0 → h c ≡ g c) → map h m ≡ map g m
each_coordinate h g [] even same = refl
each_coordinate h g (c ∷ m) even same =
    let first = same c (equal_of (c % 2) 0 (and_left (c % 2 == 0) (joins_samples m) even)) in
    let rest = each_coordinate h g m (and_right (c % 2 == 0) (joins_samples m) even) same in
    λ i. first i ∷ rest i

crossing_along : (m : List ℕ) (a b iso : ℤ) → joins_samples m ≡ true
    → crossing (sample_edge m) (pos 8 *ℤ a) (pos 8 *ℤ b) iso ≡ point_along m (million_share a b iso)
unfolding crossing
crossing_along m a b iso even =
    let s : ℕ = nat_abs (iso -ℤ a) in
    let t : ℕ = nat_abs (b -ℤ a) in
    let h : ℤ → ℤ → ℕ → ℕ → ℤ = λ x y p q. pos 500000 *ℤ pos p +ℤ int_div_euclid (pos 500000 *ℤ (pos q -ℤ pos p) *ℤ x) y in
    let part : distance (pos 8 *ℤ a) (pos 8 *ℤ iso) ≡ pos (8 * s) = ap pos (eighths_apart a iso) in
    let way : distance (pos 8 *ℤ a) (pos 8 *ℤ b) ≡ pos (8 * t) = ap pos (eighths_apart a b) in
    by_places (λ c. 2 * (c / 4)) (λ c. 2 * ((c + 2) / 4)) (h (distance (pos 8 *ℤ a) (pos 8 *ℤ iso)) (distance (pos 8 *ℤ a) (pos 8 *ℤ b))) m
    ∙ (λ i. map (λ c. h (part i) (way i) (2 * (c / 4)) (2 * ((c + 2) / 4))) m)
    ∙ each_coordinate (λ c. h (pos (8 * s)) (pos (8 * t)) (2 * (c / 4)) (2 * ((c + 2) / 4)))
    (λ c. pos (1000000 * (c / 4) + (if c % 4 == 2 then 1000000 * s / t else 0))) m even (λ c e. coordinate c s t e)

pub vertex_along : (v : Volume) (m : List ℕ) → HasVertexAlong v m
vertex_along v m even =
    ap (λ t. vertex_of v (if t then sample_edge m else centre_edge m)) even
    ∙ (λ i. crossing (sample_edge m) (sample_value v (λ c. c / 4) m i) (sample_value v (λ c. (c + 2) / 4) m i) v.iso)
    ∙ crossing_along m (sample_at v.sizes v.samples (sample_below m)) (sample_at v.sizes v.samples (sample_above m)) v.iso even

-- ---- edges to centres

-- the end that lies lower along the last axis comes first
lower_end : (m : List ℕ) (f g : ℕ → ℕ) (last : ℕ) → length m ≡ suc last → f (slice_index m last) < g (slice_index m last)
    → comes_first (map f m) (map g m) ≡ true
lower_end m f g last long less =
    let inside : last < length m = omega (arith, long) in
    by_last last (map f m) (map g m) (length_map f m ∙ long) (length_map g m ∙ long)
    (omega (arith, get_or-map f m last 0 0 inside, get_or-map g m last 0 0 inside, less))

ends_by : (v : Volume) (m : List ℕ) (t : Bool) → joins_samples m ≡ false → comes_first (corner_end m) (centre_end m) ≡ t
    → vertex_of v (edge_at m) ≡ vertex_of v (if t then record { low = corner_end m; high = centre_end m }
    else record { low = centre_end m; high = corner_end m })
ends_by v m t odd first =
    ap (λ b. vertex_of v (if b then sample_edge m else centre_edge m)) odd
    ∙ ap (λ b. vertex_of v (if b then record { low = corner_end m; high = centre_end m } else record { low = centre_end m; high = corner_end m })) first

pub vertex_to_centre : (v : Volume) (m : List ℕ) (last : ℕ) → HasVertexToCentre v m last
vertex_to_centre v m last odd long = (
  λ one.
      let first : comes_first (corner_end m) (centre_end m) ≡ true =
      lower_end m (λ c. 2 * ((c + 1) / 4)) (λ c. 2 * (c / 4) + 1) last long (omega (arith, one)) in
      ends_by v m true none first
      ∙ (λ i. crossing (record { low = corner_end m; high = centre_end m }) (low i) (high i) v.iso),
  λ three.
      let second : comes_first (centre_end m) (corner_end m) ≡ true =
      lower_end m (λ c. 2 * (c / 4) + 1) (λ c. 2 * ((c + 1) / 4)) last long (omega (arith, three)) in
      let first : comes_first (corner_end m) (centre_end m) ≡ false = false_from_ne_true (comes_first (corner_end m) (centre_end m))
      (λ e. comes_first-irreflexive (corner_end m) (comes_first-trans (corner_end m) (centre_end m) (corner_end m) e second)) in
      ends_by v m false none first
      ∙ (λ i. crossing (record { low = centre_end m; high = corner_end m }) (high i) (low i) v.iso),
)
  where
    none : joins_samples m ≡ false
    none = no_samples_in m last odd long

    low : value_at v.sizes v.samples (corner_end m) ≡ corner_value v m
    low = sample_value v (λ c. (c + 1) / 4) m

    high : value_at v.sizes v.samples (centre_end m) ≡ centre_value v m
    high = centre_value_is v m last long
