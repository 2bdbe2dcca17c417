-- Cubes whose corners all have one sign have no bipolar edge, and their cells have empty entries.
use Rattle.std.proofs.Common.{ap, arith, inl, inr, refl, sym, subst, ◌∙◌, ◌≤ℤ◌, ◌<ℤ◌}
use Rattle.std.proofs.lemmas.Bool.{cases_lt, false≢true}
use Rattle.std.proofs.lemmas.Int.{ints}
use Rattle.std.proofs.lemmas.Nat.{div-mul-add}
use Rattle.std.proofs.lemmas.Nat.Bits.{bit_at-lt}
use Rattle.std.specs.Int.{bit_at}
use Rattle.std.specs.Prelude.{Bool, List, [], ◌∷◌, false, true, int_le, length, map, nat_le, pos, slice_index, ℕ, ℤ, ◌*ℤ◌}
use Rattle.std.specs.Prelude.{◌*◌, ◌+◌, ◌/◌, ◌%◌, ◌<◌, ◌≤◌, ◌^◌, ◌&&◌, ◌==◌, ◌≡◌, ◌⊎◌}
use Rattle.iso_model.specs.declared.Kind.{Kind}
use Rattle.iso_model.specs.declared.Kind.TheVariants.{Cube, Simplex, Pyramid}
use Rattle.iso_model.specs.Bipolar.{is_bipolar}
use Rattle.iso_model.specs.Cells.{HasDimension}
use Rattle.iso_model.specs.Points.{point}
use Rattle.iso_model.specs.Splits.{cell_count, cells_per_cube, cube_at, cube_count, edge, midpoint}
use Rattle.iso_model.specs.Tables.{IsTuple, Table, entry_of}
use Rattle.iso_model.specs.Turns.{total}
use Rattle.iso_model.specs.Values.{Volume, is_positive, label_of, sample_at}
use Rattle.iso_model.proofs.DimensionLaws.{dimension_cases}
use Rattle.iso_model.proofs.SignLaws.{same_signs}
use Rattle.lists.specs.Members.{In}
use Rattle.lists.specs.Orders.{numbers}
use Rattle.lists.proofs.Contained.{each-from_All}
use Rattle.lists.proofs.MemberLaws.{Contains_from, from_In-map, from_In-numbers}
use Rattle.lists.proofs.Tests.{and_left, and_right, equal_of}
use Rattle.edge_middles.specs.Middles.{edge_at, is_middle, joins_centre, joins_samples}
use Rattle.edge_middles.specs.HeldMiddles.{holds}
use Rattle.edge_middles.specs.PlainCubes.{HasEmptyEntries, HasNoBipolarEdge, HasOneSign, IsCornerOf}
use Rattle.edge_middles.specs.WhatIsThere.{corner_by, is_above_at, is_centre_above, sample_above, sample_below}
use Rattle.split_laws.proofs.Coordinates.{length-cube_at}
use Rattle.edge_middles.proofs.GridMidpoints.{own_middles}
use Rattle.edge_middles.proofs.Heights.{at_samples}
use Rattle.edge_middles.proofs.HeldPoints.{high_side, low_side}
use Rattle.edge_middles.proofs.NextRows.{middle_parity}
use Rattle.edge_middles.proofs.MeshMiddles.{bipolar_by_label, entry_edges}
use Rattle.edge_middles.proofs.PointsThere.{cell_inside, held_by_cube}
use Rattle.edge_middles.proofs.WhatIsThere.{bipolar_centre, bipolar_samples, no_samples_in}

-- ---- the samples at the ends of an edge are at corners of the cube that holds it

corner_below : (x m : List ℕ) → length x ≡ length m → holds x m ≡ true → joins_samples m ≡ true → IsCornerOf x (sample_below m)
corner_below [] [] long held even = tt
corner_below [] (k ∷ m) long held even = absurd (omega (arith, long))
corner_below (c ∷ x) [] long held even = absurd (omega (arith, long))
corner_below (c ∷ x) (k ∷ m) long held even =
    let low : 4 * c ≤ k = low_side c k (holds x m) held in
    let high : k ≤ 4 * c + 4 = high_side c k (holds x m) held in (
      elim (cases_lt k (4 * c + 4)) as (λ _. (k / 4 ≡ c) ⊎ (k / 4 ≡ c + 1)) [
        | inl less ↦ inl (omega (arith, low, less))
        | inr most ↦ inr (omega (arith, high, most))
      ],
      corner_below x m (omega (arith, long)) (and_right (nat_le (4 * c) k && nat_le k (4 * c + 4)) (holds x m) held)
          (and_right (k % 2 == 0) (joins_samples m) even),
    )

corner_above : (x m : List ℕ) → length x ≡ length m → holds x m ≡ true → joins_samples m ≡ true → IsCornerOf x (sample_above m)
corner_above [] [] long held even = tt
corner_above [] (k ∷ m) long held even = absurd (omega (arith, long))
corner_above (c ∷ x) [] long held even = absurd (omega (arith, long))
corner_above (c ∷ x) (k ∷ m) long held even =
    let low : 4 * c ≤ k = low_side c k (holds x m) held in
    let high : k ≤ 4 * c + 4 = high_side c k (holds x m) held in (
      elim (cases_lt k (4 * c + 2)) as (λ _. ((k + 2) / 4 ≡ c) ⊎ ((k + 2) / 4 ≡ c + 1)) [
        | inl less ↦ inl (omega (arith, low, less))
        | inr most ↦ inr (omega (arith, high, most))
      ],
      corner_above x m (omega (arith, long)) (and_right (nat_le (4 * c) k && nat_le k (4 * c + 4)) (holds x m) held)
          (and_right (k % 2 == 0) (joins_samples m) even),
    )

corner_of_centre : (x m : List ℕ) → length x ≡ length m → holds x m ≡ true → joins_centre m ≡ true → IsCornerOf x (corner_by m) × (sample_below m ≡ x)
corner_of_centre [] [] long held odd = (tt, refl)
corner_of_centre [] (k ∷ m) long held odd = absurd (omega (arith, long))
corner_of_centre (c ∷ x) [] long held odd = absurd (omega (arith, long))
corner_of_centre (c ∷ x) (k ∷ m) long held odd =
    let low : 4 * c ≤ k = low_side c k (holds x m) held in
    let high : k ≤ 4 * c + 4 = high_side c k (holds x m) held in
    let one : k % 2 ≡ 1 = equal_of (k % 2) 1 (and_left (k % 2 == 1) (joins_centre m) odd) in
    let rest = corner_of_centre x m (omega (arith, long)) (and_right (nat_le (4 * c) k && nat_le k (4 * c + 4)) (holds x m) held)
    (and_right (k % 2 == 1) (joins_centre m) odd) in
    let here : k / 4 ≡ c = omega (arith, low, high, one) in (
      (
        elim (cases_lt k (4 * c + 2)) as (λ _. ((k + 1) / 4 ≡ c) ⊎ ((k + 1) / 4 ≡ c + 1)) [
          | inl less ↦ inl (omega (arith, low, less))
          | inr most ↦ inr (omega (arith, high, most, one))
        ],
        rest.0,
      ),
      λ i. here i ∷ rest.1 i,
    )

-- ---- the sign of a centre

module _ (iso : ℤ) (f : ℕ → ℤ) where
  -- one of them
  at_least : (k : ℕ) → int_le iso (f k) ≡ true → iso ≤ℤ f k
  at_least k e = grind (arith, ints)

  less_than : (k : ℕ) → int_le iso (f k) ≡ false → f k <ℤ iso
  less_than k e = grind (arith, ints)

  eight_least : ((k : ℕ) → k < 8 → int_le iso (f k) ≡ true) → (pos 8 *ℤ iso) ≤ℤ total (map f (numbers 8))
  eight_least h =
      let a = at_least 0 (h 0 (omega arith)) in
      let b = at_least 1 (h 1 (omega arith)) in
      let c = at_least 2 (h 2 (omega arith)) in
      let d = at_least 3 (h 3 (omega arith)) in
      let e = at_least 4 (h 4 (omega arith)) in
      let g = at_least 5 (h 5 (omega arith)) in
      let i = at_least 6 (h 6 (omega arith)) in
      let j = at_least 7 (h 7 (omega arith)) in
      omega (arith, ints, a, b, c, d, e, g, i, j)

  eight_less : ((k : ℕ) → k < 8 → int_le iso (f k) ≡ false) → total (map f (numbers 8)) <ℤ (pos 8 *ℤ iso)
  eight_less h =
      let a = less_than 0 (h 0 (omega arith)) in
      let b = less_than 1 (h 1 (omega arith)) in
      let c = less_than 2 (h 2 (omega arith)) in
      let d = less_than 3 (h 3 (omega arith)) in
      let e = less_than 4 (h 4 (omega arith)) in
      let g = less_than 5 (h 5 (omega arith)) in
      let i = less_than 6 (h 6 (omega arith)) in
      let j = less_than 7 (h 7 (omega arith)) in
      omega (arith, ints, a, b, c, d, e, g, i, j)

  eight_alike : (above : Bool) → ((k : ℕ) → k < 8 → int_le iso (f k) ≡ above) → int_le (pos 8 *ℤ iso) (total (map f (numbers 8))) ≡ above
  eight_alike true h = passes (pos 8 *ℤ iso) (total (map f (numbers 8))) (eight_least h)
    where
      passes : (a b : ℤ) → a ≤ℤ b → int_le a b ≡ true
      passes a b l = grind (arith, ints)
  eight_alike false h = fails (pos 8 *ℤ iso) (total (map f (numbers 8))) (eight_less h)
    where
      fails : (a b : ℤ) → b <ℤ a → int_le a b ≡ false
      fails a b l = grind (arith, ints)

-- the corners of the cube at x, by the numbers of its samples
corners_alike : (v : Volume) (x : List ℕ) (above : Bool) → length v.sizes ≡ 3 → length x ≡ 3 → HasOneSign v x above → is_centre_above v x ≡ above
corners_alike v [] above three long same = absurd (omega (arith, long))
corners_alike v (a ∷ []) above three long same = absurd (omega (arith, long))
corners_alike v (a ∷ b ∷ []) above three long same = absurd (omega (arith, long))
corners_alike v (a ∷ b ∷ c ∷ d ∷ x) above three long same = absurd (omega (arith, long))
corners_alike v (a ∷ b ∷ c ∷ []) above three long same =
    let at : ℕ → ℕ → List ℕ = λ n k. point n (λ i. slice_index (a ∷ b ∷ c ∷ []) i + bit_at k i) in
    let f : ℕ → ℤ = λ k. sample_at v.sizes v.samples (at 3 k) in
    ap (λ n. is_positive v.iso (total (map (λ k. sample_at v.sizes v.samples (at n k)) (numbers (2 ^ n))))) three
    ∙ eight_alike v.iso f above (λ k few. same (at 3 k) (at_or_next a k 0, (at_or_next b k 1, (at_or_next c k 2, tt))))
  where
    at_or_next : (n k i : ℕ) → (n + bit_at k i ≡ n) ⊎ (n + bit_at k i ≡ n + 1)
    at_or_next n k i = elim (cases_lt (bit_at k i) 1) as (λ _. (n + bit_at k i ≡ n) ⊎ (n + bit_at k i ≡ n + 1)) [
      | inl low ↦ inl (omega (arith, low))
      | inr high ↦ inr (omega (arith, high, bit_at-lt k i))
    ]

-- ---- edges

no_bipolar_middle : (v : Volume) → HasDimension v.kind (length v.sizes) → (x m : List ℕ) (above : Bool) → length x ≡ length v.sizes → length m ≡ length v.sizes
    → holds x m ≡ true → is_middle v.kind m ≡ true → HasOneSign v x above → is_bipolar v (edge_at m) ≡ false
no_bipolar_middle v fits x m above long wide held can same = by_kind v.kind refl
  where
    between_samples : joins_samples m ≡ true → is_bipolar v (edge_at m) ≡ false
    between_samples even =
        bipolar_samples v m even
        ∙ same_signs (is_above_at v (sample_below m)) (is_above_at v (sample_above m))
        (same (sample_below m) (corner_below x m (long ∙ sym wide) held even) ∙ sym (same (sample_above m) (corner_above x m (long ∙ sym wide) held even)))

    to_centre : length v.sizes ≡ 3 → (q : List ℕ) → m ≡ q → length q ≡ 3 → joins_centre q ≡ true → is_bipolar v (edge_at q) ≡ false
    to_centre three [] e long3 odd = absurd (omega (arith, long3))
    to_centre three (c ∷ q) e long3 odd =
        let corner = corner_of_centre x (c ∷ q) (long ∙ sym wide ∙ ap length e) (ap (holds x) (sym e) ∙ held) odd in
        bipolar_centre v c q (no_samples_in (c ∷ q) 2 odd long3)
        ∙ same_signs (is_centre_above v (sample_below (c ∷ q))) (is_above_at v (corner_by (c ∷ q)))
        (ap (is_centre_above v) corner.1 ∙ corners_alike v x above three (long ∙ three) same ∙ sym (same (corner_by (c ∷ q)) corner.0))

    by_kind : (kind : Kind) → v.kind ≡ kind → is_bipolar v (edge_at m) ≡ false
    by_kind Cube e = between_samples (at_samples Cube m (λ p. absurd (cc)) (ap (λ k. is_middle k m) (sym e) ∙ can))
    by_kind Simplex e = between_samples (at_samples Simplex m (λ p. absurd (cc)) (ap (λ k. is_middle k m) (sym e) ∙ can))
    by_kind Pyramid e =
        let three : length v.sizes ≡ 3 = subst (λ k. HasDimension k (length v.sizes)) e fits in
        elim (middle_parity v.kind m can) as (λ _. is_bipolar v (edge_at m) ≡ false) [
          | inl even ↦ between_samples even
          | inr odd ↦ to_centre three m refl (wide ∙ three) odd
        ]

pub no_bipolar : (v : Volume) → HasDimension v.kind (length v.sizes) → HasNoBipolarEdge v
no_bipolar v fits cube above few same cell e there below =
    let dim = dimension_cases v.kind (length v.sizes) fits in
    let per : ℕ = cells_per_cube v.kind (length v.sizes) in
    let rank = from_In-map (λ r. cube * per + r) (numbers per) cell there in
    let low : rank.0 < per = from_In-numbers per rank.0 rank.1 in
    let inside : cell < cell_count v.kind v.sizes =
    subst (λ n. n < cell_count v.kind v.sizes) (sym rank.2) (cell_inside (cube_count v.sizes) per cube rank.0 few low) in
    let own : cell / per ≡ cube = ap (λ n. n / per) rank.2 ∙ div-mul-add cube per rank.0 low in
    let held = held_by_cube v.kind v.sizes fits dim cell e inside below in
    let m : List ℕ = midpoint (edge v.kind v.sizes cell e) in
    ap (is_bipolar v) (sym (own_middles v.kind v.sizes fits dim cell e inside below))
    ∙ no_bipolar_middle v fits (cube_at v.sizes cube) m above (length-cube_at v.sizes cube) held.0
    (subst (λ n. holds (cube_at v.sizes n) m ≡ true) own held.1) held.2 same

-- ---- entries

pub empty_entries : (v : Volume) (t : Table) → HasDimension v.kind (length v.sizes) → HasEmptyEntries v t
empty_entries v t fits cube above few same cell there h = by_entry (entry_of t (label_of v cell)) refl
  where
    by_entry : (ws : List (List ℕ)) → entry_of t (label_of v cell) ≡ ws → entry_of t (label_of v cell) ≡ []
    by_entry [] is = is
    by_entry (w ∷ ws) is =
        let entry : List (List ℕ) = entry_of t (label_of v cell) in
        let first : In w entry = subst (In w) (sym is) (inl refl) in
        by_tuple w (each-from_All (IsTuple v.kind (length v.sizes)) entry h.0.1 w (Contains_from entry w first)).0 first
      where
        by_tuple : (w : List ℕ) → length w ≡ length v.sizes → In w (entry_of t (label_of v cell)) → entry_of t (label_of v cell) ≡ []
        by_tuple [] none first = absurd (omega (arith, none, dimension_cases v.kind (length v.sizes) fits))
        by_tuple (e ∷ w) long first =
            let dim = dimension_cases v.kind (length v.sizes) fits in
            let of = entry_edges v t cell h (e ∷ w) first e (inl refl) in
            absurd (false≢true (sym (no_bipolar v fits cube above few same cell e there of.0) ∙ bipolar_by_label v fits dim cell e of.0 ∙ of.1))
