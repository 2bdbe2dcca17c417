-- A row of edges to the centres of pyramids meets the edges that are there.
use Rattle.std.proofs.Common.{ap, arith, inl, inr, refl, sym, ◌∙◌}
use Rattle.std.specs.Prelude.{ℕ, zero, suc, ◌+◌, ◌-◌, ◌*◌, ◌/◌, ◌%◌, ◌<◌, ◌≡◌, ◌⊎◌, ◌&&◌, ◌==◌, Bool, false, true, [], ◌∷◌, drop}
use Rattle.std.specs.Prelude.{int_le, length, slice_index}
use Rattle.lists.proofs.Tests.{and_left}
use Rattle.iso_model.specs.declared.Kind.TheVariants.{Pyramid}
use Rattle.iso_model.specs.Bipolar.{differ}
use Rattle.iso_model.specs.Crossing.{vertex_of}
use Rattle.iso_model.specs.Turns.{total}
use Rattle.iso_model.specs.Values.{Volume, cube_samples, is_positive, sample_at}
use Rattle.edge_middles.specs.GridMiddles.{is_there}
use Rattle.edge_middles.specs.Middles.{edge_at, joins_centre}
use Rattle.edge_middles.specs.MiddleVertices.{centre_value}
use Rattle.edge_middles.specs.WhatIsThere.{is_above_at, is_centre_above, is_kept_around}
use Rattle.edge_middles.proofs.MiddleVertices.{vertex_to_centre}
use Rattle.edge_middles.proofs.WhatIsThere.{there_at_centre}
use Rattle.edge_vertex.specs.Sums.{sample}
use Rattle.layer_mesh.specs.declared.ends.CentreEnds.{CentreEnds}
use Rattle.layer_mesh.specs.declared.rows.RowEnds.TheVariants.{Centres}
use Rattle.layer_mesh.specs.RowVertices.{DifferToCentre, HoldsCube, centre_crossing, centre_sum, centre_vertex}
use Rattle.layer_mesh.proofs.VerticesThere.{MeetsThere, there_inside}

by_quarter : (q : ℕ) → q % 2 ≡ 1 → q < 4 → (q ≡ 1) ⊎ (q ≡ 3)
by_quarter zero h l = absurd (omega (arith, h))
by_quarter (suc zero) h l = inl refl
by_quarter (suc (suc zero)) h l = absurd (omega (arith, h))
by_quarter (suc (suc (suc zero))) h l = inr refl
by_quarter (suc (suc (suc (suc q)))) h l = absurd (omega (arith, l))

-- an odd height lies a quarter above a slice or a quarter below one
pub odd_quarters : (h : ℕ) → h % 2 ≡ 1 → (h % 4 ≡ 1) ⊎ (h % 4 ≡ 3)
odd_quarters h odd = by_quarter (h % 4) (omega (arith, odd)) (omega arith)

-- the row stands at this coordinate along the middle axis and at this height, and its samples are those of the grid there
pub record StandsAtCentres {D : ℕ} (v : Volume) (middle height : ℕ) (ends : CentreEnds D) : Type 0 where
  pub pyramids : v.kind ≡ Pyramid
  pub three : length v.sizes ≡ 3
  pub odd_middle : middle % 2 ≡ 1
  pub odd : height % 2 ≡ 1
  pub place : drop 1 ends.row ≡ middle ∷ height ∷ []
  pub iso : ends.iso ≡ v.iso
  pub side : ends.above ≡ (height % 4 == 3)
  pub corners_long : length ends.corners.now ≡ slice_index v.sizes 0
  pub corners : (x : ℕ) → x < slice_index v.sizes 0
      → sample ends.corners.now x ≡ sample_at v.sizes v.samples (x ∷ (middle + 1) / 4 ∷ (height + 1) / 4 ∷ [])
  pub held : (x : ℕ) → x + 1 < slice_index v.sizes 0 → HoldsCube ends x
  pub sums : (x : ℕ) → x + 1 < slice_index v.sizes 0
      → centre_sum ends x ≡ total (cube_samples v.sizes v.samples (x ∷ middle / 4 ∷ height / 4 ∷ []))

module _ {D : ℕ} (v : Volume) (middle height : ℕ) (ends : CentreEnds D) (at : StandsAtCentres v middle height ends) where
  long : suc (length (middle ∷ height ∷ [])) ≡ length v.sizes
  long = sym at.three

  odd_rest : joins_centre (middle ∷ height ∷ []) ≡ true
  odd_rest = (λ i. (at.odd_middle i == 1) && ((at.odd i == 1) && true))

  inside : (c : ℕ) → is_there v (c ∷ middle ∷ height ∷ []) ≡ true → c < 4 * slice_index v.sizes 0 - 3
  inside c there = there_inside v c (middle ∷ height ∷ []) long there

  crossed_at : (x y : ℕ) → x + 1 < slice_index v.sizes 0 → y < slice_index v.sizes 0
      → differ (is_centre_above v (x ∷ middle / 4 ∷ height / 4 ∷ [])) (is_above_at v (y ∷ (middle + 1) / 4 ∷ (height + 1) / 4 ∷ [])) ≡ true
      → DifferToCentre ends x y
  crossed_at x y few less bipolar =
      let same : differ (is_positive ends.iso (centre_sum ends x)) (int_le ends.iso (sample ends.corners.now y))
      ≡ differ (is_centre_above v (x ∷ middle / 4 ∷ height / 4 ∷ [])) (is_above_at v (y ∷ (middle + 1) / 4 ∷ (height + 1) / 4 ∷ [])) =
      (λ i. differ (is_positive (at.iso i) (at.sums x few i)) (int_le (at.iso i) (at.corners y less i))) in
      (at.held x few, omega (arith, less, at.corners_long), same ∙ bipolar)

  first_crossed : (x : ℕ) → is_there v ((4 * x + 1) ∷ middle ∷ height ∷ []) ≡ true → DifferToCentre ends x x
  first_crossed x there =
      let few : x + 1 < slice_index v.sizes 0 = omega (arith, inside (4 * x + 1) there) in
      let signs : Bool = differ (is_centre_above v (x ∷ middle / 4 ∷ height / 4 ∷ [])) (is_above_at v (x ∷ (middle + 1) / 4 ∷ (height + 1) / 4 ∷ [])) in
      crossed_at x x few (omega (arith, few)) (and_left signs (is_kept_around v (middle ∷ height ∷ []) x)
      (sym (there_at_centre v (middle ∷ height ∷ []) x at.pyramids long odd_rest).0 ∙ there))

  second_crossed : (x : ℕ) → is_there v ((4 * x + 3) ∷ middle ∷ height ∷ []) ≡ true → DifferToCentre ends x (x + 1)
  second_crossed x there =
      let few : x + 1 < slice_index v.sizes 0 = omega (arith, inside (4 * x + 3) there) in
      let signs : Bool =
      differ (is_centre_above v (x ∷ middle / 4 ∷ height / 4 ∷ [])) (is_above_at v ((x + 1) ∷ (middle + 1) / 4 ∷ (height + 1) / 4 ∷ [])) in
      crossed_at x (x + 1) few few (and_left signs (is_kept_around v (middle ∷ height ∷ []) x)
      (sym (there_at_centre v (middle ∷ height ∷ []) x at.pyramids long odd_rest).1 ∙ there))

  vertex_at : (c x y : ℕ) → c % 2 ≡ 1 → c / 4 ≡ x → (c + 1) / 4 ≡ y → x + 1 < slice_index v.sizes 0 → y < slice_index v.sizes 0
      → centre_vertex ends c x y ≡ vertex_of v (edge_at (c ∷ middle ∷ height ∷ []))
  vertex_at c x y odd low high few less = by_side (odd_quarters height at.odd)
    where
      all_odd : joins_centre (c ∷ middle ∷ height ∷ []) ≡ true
      all_odd = (λ i. (odd i == 1) && odd_rest i)

      corner_is : sample ends.corners.now y ≡ sample_at v.sizes v.samples ((c + 1) / 4 ∷ (middle + 1) / 4 ∷ (height + 1) / 4 ∷ [])
      corner_is = at.corners y less ∙ ap (λ k. sample_at v.sizes v.samples (k ∷ (middle + 1) / 4 ∷ (height + 1) / 4 ∷ [])) (sym high)

      sum_is : centre_sum ends x ≡ centre_value v (c ∷ middle ∷ height ∷ [])
      sum_is = at.sums x few ∙ ap (λ k. total (cube_samples v.sizes v.samples (k ∷ middle / 4 ∷ height / 4 ∷ []))) (sym low)

      parts : (above : Bool) → ends.above ≡ above → centre_vertex ends c x y
          ≡ centre_crossing above (c ∷ middle ∷ height ∷ []) (sample_at v.sizes v.samples ((c + 1) / 4 ∷ (middle + 1) / 4 ∷ (height + 1) / 4 ∷ []))
          (centre_value v (c ∷ middle ∷ height ∷ [])) v.iso
      parts above is = (λ i. centre_crossing (is i) (c ∷ at.place i) (corner_is i) (sum_is i) (at.iso i))

      by_side : (height % 4 ≡ 1) ⊎ (height % 4 ≡ 3) → centre_vertex ends c x y ≡ vertex_of v (edge_at (c ∷ middle ∷ height ∷ []))
      by_side (inl one) =
          parts false (at.side ∙ ap (λ q. q == 3) one)
          ∙ sym ((vertex_to_centre v (c ∷ middle ∷ height ∷ []) 2 all_odd refl).0 one)
      by_side (inr three) =
          parts true (at.side ∙ ap (λ q. q == 3) three)
          ∙ sym ((vertex_to_centre v (c ∷ middle ∷ height ∷ []) 2 all_odd refl).1 three)

  pub meets_centres : MeetsThere v (λ x. 4 * x + 1) (λ x. 4 * x + 3) (middle ∷ height ∷ []) (Centres ends)
  meets_centres = record {
    first_inside = λ x t. omega (arith, inside (4 * x + 1) t);
    second_inside = λ x t. omega (arith, inside (4 * x + 3) t);
    first_crossed = first_crossed;
    second_crossed = second_crossed;
    first_is = λ x t.
        let few : x + 1 < slice_index v.sizes 0 = omega (arith, inside (4 * x + 1) t) in
        vertex_at (4 * x + 1) x x (omega arith) (omega arith) (omega arith) few (omega (arith, few));
    second_is = λ x t.
        let few : x + 1 < slice_index v.sizes 0 = omega (arith, inside (4 * x + 3) t) in
        vertex_at (4 * x + 3) x (x + 1) (omega arith) (omega arith) (omega arith) few few;
  }
