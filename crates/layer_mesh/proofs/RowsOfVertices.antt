-- A row of edges that join samples meets the edges that are there.
use Rattle.std.proofs.Common.{arith, sym, ◌∙◌}
use Rattle.std.specs.Prelude.{ℕ, ◌+◌, ◌-◌, ◌*◌, ◌/◌, ◌%◌, ◌<◌, ◌≡◌, ◌&&◌, ◌||◌, ◌==◌, nat_lt, Bool, true, List, ◌∷◌, drop}
use Rattle.std.specs.Prelude.{int_le, length, slice_index}
use Rattle.lists.proofs.Tests.{and_left, and_right}
use Rattle.iso_model.specs.Bipolar.{differ}
use Rattle.iso_model.specs.Cells.{HasDimension}
use Rattle.iso_model.specs.Crossing.{vertex_of}
use Rattle.iso_model.specs.Values.{Volume, sample_at}
use Rattle.edge_middles.specs.GridMiddles.{is_there}
use Rattle.edge_middles.specs.Middles.{edge_at, joins_samples}
use Rattle.edge_middles.specs.MiddleVertices.{million_share, point_along}
use Rattle.edge_middles.specs.RowCounts.{IsRowOfMiddles}
use Rattle.edge_middles.specs.WhatIsThere.{goes_first, goes_second, is_above_at, is_kept_around, sample_above, sample_below}
use Rattle.edge_middles.proofs.MiddleVertices.{vertex_along}
use Rattle.edge_middles.proofs.WhatIsThere.{there_in_row}
use Rattle.edge_vertex.specs.Sums.{sample}
use Rattle.layer_mesh.specs.declared.ends.SampleEnds.{SampleEnds}
use Rattle.layer_mesh.specs.declared.rows.RowEnds.TheVariants.{Samples}
use Rattle.layer_mesh.specs.RowVertices.{DifferAlong}
use Rattle.layer_mesh.proofs.VerticesThere.{MeetsThere, there_inside}

-- the row stands at these coordinates along the axes after the first, and its samples are those of the grid there
pub record StandsIn {D : ℕ} (v : Volume) (rest : List ℕ) (ends : SampleEnds D) : Type 0 where
  pub fits : HasDimension v.kind (length v.sizes)
  pub long : IsRowOfMiddles v rest
  pub even : joins_samples rest ≡ true
  pub place : drop 1 ends.row ≡ rest
  pub iso : ends.iso ≡ v.iso
  pub near_long : length ends.near.now ≡ slice_index v.sizes 0
  pub far_long : length ends.far.now ≡ slice_index v.sizes 0
  pub near : (x : ℕ) → x < slice_index v.sizes 0 → sample ends.near.now x ≡ sample_at v.sizes v.samples (x ∷ sample_below rest)
  pub far : (x : ℕ) → x < slice_index v.sizes 0 → sample ends.far.now x ≡ sample_at v.sizes v.samples (x ∷ sample_above rest)

module _ {D : ℕ} (v : Volume) (rest : List ℕ) (ends : SampleEnds D) (at : StandsIn v rest ends) where
  -- ---- one place

  crossed_at : (x y : ℕ) → x < slice_index v.sizes 0 → y < slice_index v.sizes 0
      → differ (is_above_at v (x ∷ sample_below rest)) (is_above_at v (y ∷ sample_above rest)) ≡ true → DifferAlong ends x y
  crossed_at x y few less bipolar =
      let same : differ (int_le ends.iso (sample ends.near.now x)) (int_le ends.iso (sample ends.far.now y))
      ≡ differ (is_above_at v (x ∷ sample_below rest)) (is_above_at v (y ∷ sample_above rest)) =
      (λ i. differ (int_le (at.iso i) (at.near x few i)) (int_le (at.iso i) (at.far y less i))) in
      (omega (arith, few, at.near_long), omega (arith, less, at.far_long), same ∙ bipolar)

  first_crossed : (x : ℕ) → is_there v (4 * x ∷ rest) ≡ true → DifferAlong ends x x
  first_crossed x there =
      let inside = there_inside v (4 * x) rest at.long there in
      let few : x < slice_index v.sizes 0 = omega (arith, inside) in
      let signs : Bool = differ (is_above_at v (x ∷ sample_below rest)) (is_above_at v (x ∷ sample_above rest)) in
      let kept : Bool = is_kept_around v rest x || (nat_lt 0 x && is_kept_around v rest (x - 1)) in
      let both : (goes_first v.kind rest && (signs && kept)) ≡ true = sym (there_in_row v rest x at.fits at.long at.even).0 ∙ there in
      crossed_at x x few few (and_left signs kept (and_right (goes_first v.kind rest) (signs && kept) both))

  second_crossed : (x : ℕ) → is_there v ((4 * x + 2) ∷ rest) ≡ true → DifferAlong ends x (x + 1)
  second_crossed x there =
      let inside = there_inside v (4 * x + 2) rest at.long there in
      let few : x < slice_index v.sizes 0 = omega (arith, inside) in
      let less : x + 1 < slice_index v.sizes 0 = omega (arith, inside) in
      let signs : Bool = differ (is_above_at v (x ∷ sample_below rest)) (is_above_at v ((x + 1) ∷ sample_above rest)) in
      let kept : Bool = is_kept_around v rest x in
      let both : (goes_second v.kind rest && (signs && kept)) ≡ true = sym (there_in_row v rest x at.fits at.long at.even).1 ∙ there in
      crossed_at x (x + 1) few less (and_left signs kept (and_right (goes_second v.kind rest) (signs && kept) both))

  vertex_at : (c x y : ℕ) → c % 2 ≡ 0 → c / 4 ≡ x → (c + 2) / 4 ≡ y → x < slice_index v.sizes 0 → y < slice_index v.sizes 0
      → point_along (c ∷ drop 1 ends.row) (million_share (sample ends.near.now x) (sample ends.far.now y) ends.iso) ≡ vertex_of v (edge_at (c ∷ rest))
  vertex_at c x y even low high few less =
      let all_even : joins_samples (c ∷ rest) ≡ true = (λ i. (even i == 0) && at.even i) in
      let share : million_share (sample ends.near.now x) (sample ends.far.now y) ends.iso
      ≡ million_share (sample_at v.sizes v.samples (sample_below (c ∷ rest))) (sample_at v.sizes v.samples (sample_above (c ∷ rest))) v.iso =
      (λ i. million_share (at.near x few i) (at.far y less i) (at.iso i))
      ∙ (λ i. million_share (sample_at v.sizes v.samples (sym low i ∷ sample_below rest))
      (sample_at v.sizes v.samples (sym high i ∷ sample_above rest)) v.iso) in
      (λ i. point_along (c ∷ at.place i) (share i)) ∙ sym (vertex_along v (c ∷ rest) all_even)

  pub meets_samples : MeetsThere v (λ x. 4 * x) (λ x. 4 * x + 2) rest (Samples ends)
  meets_samples = record {
    first_inside = λ x t. omega (arith, there_inside v (4 * x) rest at.long t);
    second_inside = λ x t. omega (arith, there_inside v (4 * x + 2) rest at.long t);
    first_crossed = first_crossed;
    second_crossed = second_crossed;
    first_is = λ x t.
        let few : x < slice_index v.sizes 0 = omega (arith, there_inside v (4 * x) rest at.long t) in
        vertex_at (4 * x) x x (omega arith) (omega arith) (omega arith) few few;
    second_is = λ x t.
        let inside = there_inside v (4 * x + 2) rest at.long t in
        vertex_at (4 * x + 2) x (x + 1) (omega arith) (omega arith) (omega arith) (omega (arith, inside)) (omega (arith, inside));
  }
