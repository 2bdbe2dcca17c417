-- The laws of what stands across: it leads back, and seams join the two facets.
use Rattle.std.proofs.Common.{◌≡◌, ℕ, ◌<◌, Bool, true, false, ◌&&◌, ◌||◌, List, refl, ap, sym, ◌∙◌, subst, inl, inr, ℤ}
use Rattle.std.specs.Prelude.{◌⊎◌, ◌==◌, neg_ℤ, slice_index, map, Any}
use Rattle.std.specs.List.{list_all}
use Rattle.std.proofs.lemmas.Bool.{eqb-true, or_cases}
use Rattle.iso_model.specs.declared.Kind.{Kind}
use Rattle.lists.specs.Orders.{numbers}
use Rattle.iso_model.specs.Points.{axes}
use Rattle.iso_model.specs.Cells.{facet_count, facet_corners}
use Rattle.iso_model.specs.Seams.{Seam, seams, corner_across}
use Rattle.iso_model.specs.Splits.{cells_per_cube, corner_offset, is_odd_rank}
use Rattle.iso_model.specs.Neighbours.{facet_offsets, shift_across, shifted, IsAcross}
use Rattle.iso_model.specs.SplitLaws.{LeadsBack, AcrossLeadsBack, Joins, AreJoined}
use Rattle.split_checks.specs.CubeShifts.{meets}
use Rattle.split_checks.specs.AcrossTests.{next_across, next_at, move_across, leads_back_at, all_lead_back, same_truth, joins, are_joined, joined_with}
use Rattle.split_laws.proofs.Offsets.{OffsetsFit, of_facet}
use Rattle.split_laws.proofs.Across.{less_one, shift_is, back_list, shifted_from, next_of, FoundAcross, AcrossPass, HaveCorners, found_at}
use Rattle.split_laws.proofs.Across.{only_across, next_is_across}
use Rattle.lists.proofs.MemberLaws.{Contains_from, from_any, all_In, all_below}
use Rattle.lists.proofs.Tests.{and_left, and_right}

-- two tests that agree
pub same_truth_is : (a b : Bool) → same_truth a b ≡ true → a ≡ b
same_truth_is true true h = refl
same_truth_is true false h = cc
same_truth_is false true h = cc
same_truth_is false false h = refl

is_same_truth : (a b : Bool) → a ≡ b → same_truth a b ≡ true
is_same_truth true true h = refl
is_same_truth true false h = cc
is_same_truth false true h = cc
is_same_truth false false h = refl

-- at each rank, the facets are joined by seams
abbrev pub JoinedPass : Kind → ℕ → Type 0
JoinedPass kind d = (r : ℕ) → r < cells_per_cube kind d → joined_with kind d (next_across kind d) r ≡ true

module _ (kind : Kind) (d : ℕ) (fit : OffsetsFit kind d) (corners : HaveCorners kind d) (passed : AcrossPass kind d) (back : all_lead_back kind d ≡ true) where
  module _ (r f : ℕ) (hr : r < cells_per_cube kind d) (hf : f < facet_count kind d) where
    abbrev o : ℕ
    o = (next_of kind d r f).0

    abbrev g : ℕ
    g = (next_of kind d r f).1

    there : FoundAcross kind d r f
    there = found_at kind d fit corners passed r f hr hf

    returns_to : leads_back_at (next_across kind d) r f (next_of kind d r f) ≡ true
    returns_to =
        let row =
        all_below (cells_per_cube kind d)
        (λ r'. list_all (λ f'. leads_back_at (next_across kind d) r' f' (next_at (next_across kind d) r' f')) (numbers (facet_count kind d)))
        back r hr in
        all_below (facet_count kind d) (λ f'. leads_back_at (next_across kind d) r f' (next_at (next_across kind d) r f')) row f hf

    back_across : IsAcross kind d o g r f
    back_across =
        let across = next_is_across kind d fit corners passed o g there.is_rank there.is_facet in
        let rank_is : (next_of kind d o g).0 ≡ r =
        eqb-true (next_of kind d o g).0 r (and_left ((next_of kind d o g).0 == r) ((next_of kind d o g).1 == f) returns_to) in
        let facet_is : (next_of kind d o g).1 ≡ f =
        eqb-true (next_of kind d o g).1 f (and_right ((next_of kind d o g).0 == r) ((next_of kind d o g).1 == f) returns_to) in
        subst (λ (y : ℕ). IsAcross kind d o g r y) facet_is (subst (λ (x : ℕ). IsAcross kind d o g x (next_of kind d o g).1) rank_is across)

    shift_back : shift_across kind d o g ≡ map neg_ℤ (shift_across kind d r f)
    shift_back =
        shift_is kind d o g
        ∙ ap (map less_one) (sym there.back)
        ∙ back_list (λ i. list_all (λ p. slice_index p i == 0) (facet_offsets kind d r f))
        (λ i. list_all (λ p. slice_index p i == 2) (facet_offsets kind d r f)) (axes d)
        ∙ ap (map neg_ℤ) (sym (shift_is kind d r f))

  pub leads_back : (r f : ℕ) → r < cells_per_cube kind d → f < facet_count kind d → (o g : ℕ) → AcrossLeadsBack kind d r f o g
  leads_back r f hr hf o g across =
      let only = only_across kind d fit corners passed r f hr hf o g across in
      let known : LeadsBack kind d r f (next_of kind d r f).0 (next_of kind d r f).1 = record { across = back_across r f hr hf; back = shift_back r f hr hf } in
      subst (λ (y : ℕ). LeadsBack kind d r f o y) (sym only.1) (subst (λ (x : ℕ). LeadsBack kind d r f x (next_of kind d r f).1) (sym only.0) known)

  module _ (joined : JoinedPass kind d) where
    -- a seam that passes the test joins the two facets
    joins_from : (s : Seam) (r f o g : ℕ) → joins kind d r f (o, g) (move_across d (facet_offsets kind d r f)) s ≡ true → Joins kind d s r f o g
    joins_from s r f o g h =
        let a : Bool = s.facet == f in
        let b : Bool = s.other == g in
        let c : Bool =
        list_all
        (λ k. meets (corner_offset kind d r k) (move_across d (facet_offsets kind d r f)) (corner_offset kind d o (corner_across kind d s k)))
        (facet_corners kind d f) in
        let p : Bool = same_truth s.same_parity (same_truth (is_odd_rank kind d r) (is_odd_rank kind d o)) in
        let three : (a && b && c) ≡ true = and_left (a && b && c) p h in
        let parity : s.same_parity ≡ same_truth (is_odd_rank kind d r) (is_odd_rank kind d o) =
        same_truth_is s.same_parity (same_truth (is_odd_rank kind d r) (is_odd_rank kind d o)) (and_right (a && b && c) p h) in
        record {
          from = eqb-true s.facet f (and_left a b (and_left (a && b) c three));
          to = eqb-true s.other g (and_right a b (and_left (a && b) c three));
          meets = λ k hk in_f.
              let met =
              all_In
              (λ j.
              meets (corner_offset kind d r j) (move_across d (facet_offsets kind d r f))
              (corner_offset kind d o (corner_across kind d s j)))
              (facet_corners kind d f) (and_right (a && b) c three) k (of_facet kind d f k hk in_f) in
              shifted_from (corner_offset kind d r k) (move_across d (facet_offsets kind d r f)) (corner_offset kind d o (corner_across kind d s k)) met
              ∙ sym (ap (λ (z : List ℤ). shifted z (corner_offset kind d o (corner_across kind d s k))) (shift_is kind d r f));
          parity = (
            λ same. same_truth_is (is_odd_rank kind d r) (is_odd_rank kind d o) (sym parity ∙ same),
            λ same. parity ∙ is_same_truth (is_odd_rank kind d r) (is_odd_rank kind d o) same,
          );
        }

    next_joined : (r f : ℕ) → r < cells_per_cube kind d → f < facet_count kind d →
        Any (λ s. Joins kind d s r f (next_of kind d r f).0 (next_of kind d r f).1 ⊎ Joins kind d s (next_of kind d r f).0 (next_of kind d r f).1 r f)
        (seams kind d)
    next_joined r f hr hf =
        let row = all_below (facet_count kind d) (λ f'. are_joined kind d r f' (next_at (next_across kind d) r f')) (joined r hr) f hf in
        let s =
        from_any
        (λ s'.
        joins kind d r f (next_of kind d r f) (move_across d (facet_offsets kind d r f)) s'
        || joins kind d (next_of kind d r f).0 (next_of kind d r f).1 (r, f)
        (move_across d (facet_offsets kind d (next_of kind d r f).0 (next_of kind d r f).1)) s')
        (seams kind d) row in
        let place = Contains_from (seams kind d) s.0 s.1 in (
          place.0,
          s.0,
          place.1,
          place.2,
          (elim (or_cases (joins kind d r f (next_of kind d r f) (move_across d (facet_offsets kind d r f)) s.0)
              (joins kind d (next_of kind d r f).0 (next_of kind d r f).1 (r, f)
              (move_across d (facet_offsets kind d (next_of kind d r f).0 (next_of kind d r f).1)) s.0) s.2) [
                | inl forwards ↦ inl (joins_from s.0 r f (next_of kind d r f).0 (next_of kind d r f).1 forwards)
                | inr backwards ↦ inr (joins_from s.0 (next_of kind d r f).0 (next_of kind d r f).1 r f backwards)
              ]),
        )

    pub are_joined_by_seams : (r f : ℕ) → r < cells_per_cube kind d → f < facet_count kind d → (o g : ℕ) → AreJoined kind d r f o g
    are_joined_by_seams r f hr hf o g across =
        let only = only_across kind d fit corners passed r f hr hf o g across in
        subst (λ (y : ℕ). Any (λ s. Joins kind d s r f o y ⊎ Joins kind d s o y r f) (seams kind d)) (sym only.1)
        (subst (λ (x : ℕ). Any (λ s. Joins kind d s r f x (next_of kind d r f).1 ⊎ Joins kind d s x (next_of kind d r f).1 r f) (seams kind d))
        (sym only.0) (next_joined r f hr hf))
