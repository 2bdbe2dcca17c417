use Rattle.std.proofs.Common.{◌≡◌, ℕ, ◌+◌, ◌-◌, [], pos, slice_index_or, if◌then◌else◌, rules, arith, ap, sym, ◌∙◌, subst}
use Rattle.std.proofs.lemmas.List.FromFn.{fill_by_all}
use Rattle.iso_model.specs.declared.Kind.TheVariants.{Simplex}
use Rattle.iso_model.specs.Cells.{HasDimension}
use Rattle.iso_model.specs.Neighbours.{IsAcross}
use Rattle.iso_model.specs.Dimensions.{IsDimension}
use Rattle.split_laws.proofs.Across.{next_of}
use Rattle.split_laws.proofs.SplitTheorems.{found_across}
use Rattle.std.specs.Prelude.{map}
use Rattle.iso_model.specs.Points.{axes}
use Rattle.grid_split.specs.Shifts.{first_order, other_facet, shift_at_place}
use Rattle.grid_split.specs.declared.simplices.TheConstants.{PLACES, ACROSS}
use Rattle.grid_split.proofs.Tables.{simplex_shift, simplex_next}
use Rattle.std.proofs.Common.{Bool, true, false, FitsSigned, w8, to_z, of_z}
use Rattle.std.specs.Prelude.{negsuc, ◌==◌, ◌&&◌}
use Rattle.std.proofs.lemmas.Int.{ints, to_z-of_z}
use Rattle.lists.proofs.MemberLaws.{set_next}
use Rattle.grid_split.proofs.simplices.simplex_across.Goals as goal

pub returns : goal.returns
returns g c =
    let is : IsDimension g.row.D = search rules in
    let has : HasDimension Simplex g.row.D = search rules in
    let order_is : c.order_number-order.result ≡ first_order g.row.D + c.args.rank = c.order_number-order.ensures.number in
    let next : next_of Simplex g.row.D c.args.rank c.args.facet
    ≡ (slice_index_or (slice_index_or ACROSS c.order_number-order.result []) c.args.facet 0, c.facet_across.result) =
    simplex_next g.row.D is c.args.rank c.args.facet c.requires.rank c.requires.facet
    ∙ ap (λ (n : ℕ). number_pair (slice_index_or (slice_index_or ACROSS n []) c.args.facet 0) (other_facet g.row.D c.args.facet)) (sym order_is)
    ∙ ap (λ (n : ℕ). number_pair (slice_index_or (slice_index_or ACROSS c.order_number-order.result []) c.args.facet 0) n) (sym c.facet_across.ensures) in
    record {
      shift =
          fill_by_all (λ i. shift_at_place (slice_index_or (slice_index_or PLACES c.order_number-order.result []) i 0) c.args.facet g.row.D)
          c.loop-axis.shift g.row.D (pos 0) c.loop-axis.invariant.0 (λ i h. c.loop-axis.invariant.1 i (omega arith))
          ∙ ap (λ (n : ℕ). map (λ i. shift_at_place (slice_index_or (slice_index_or PLACES n []) i 0) c.args.facet g.row.D) (axes g.row.D)) order_is
          ∙ simplex_shift g.row.D is c.args.rank c.args.facet c.requires.rank c.requires.facet;
      across =
          subst (λ (n : ℕ × ℕ). IsAcross Simplex g.row.D c.args.rank c.args.facet n.0 n.1) next
          (found_across Simplex g.row.D is has c.args.rank c.args.facet c.requires.rank c.requires.facet);
    }
  where
    number_pair : ℕ → ℕ → ℕ × ℕ
    number_pair a b = (a, b)

-- a shift fits eight bits, whichever of the three it is
small_case : (a b : Bool) → FitsSigned w8 (if a then pos 1 else if b then negsuc 0 else pos 0)
small_case true b = omega (arith, ints)
small_case false true = omega (arith, ints)
small_case false false = omega (arith, ints)

pub loop-axis-preserved : goal.loop-axis-preserved
loop-axis-preserved g c =
    let place : ℕ = slice_index_or (slice_index_or PLACES c.order_number-order.result []) c.loop-axis.axis 0 in
    let fits : FitsSigned w8 c.shift_of_place.result =
    rw c.shift_of_place.ensures (small_case (c.args.facet == 0 && (place == 0)) (c.args.facet == g.row.D && (place == g.row.D - 1))) in
    set_next (λ i. shift_at_place (slice_index_or (slice_index_or PLACES c.order_number-order.result []) i 0) c.args.facet g.row.D) c.loop-axis.shift
    c.loop-axis.axis g.row.D (to_z w8 (of_z w8 c.shift_of_place.result))
    c.loop-axis.invariant.0 c.loop-axis-test.true c.loop-axis.invariant.1 (rw to_z-of_z c.shift_of_place.ensures)
