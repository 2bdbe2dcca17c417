use Rattle.std.proofs.Common.{ℕ, [], slice_index_or, nat_lt, if◌then◌else◌, rules, arith, ap, ◌∙◌}
use Rattle.std.proofs.lemmas.List.FromFn.{fill_by_all}
use Rattle.iso_model.specs.declared.Kind.TheVariants.{Simplex}
use Rattle.iso_model.specs.Cells.{HasDimension}
use Rattle.iso_model.specs.Dimensions.{IsDimension}
use Rattle.split_laws.proofs.SplitTheorems.{small_offsets}
use Rattle.std.specs.Prelude.{map}
use Rattle.iso_model.specs.Points.{axes}
use Rattle.grid_split.specs.declared.simplices.TheConstants.{PLACES}
use Rattle.grid_split.proofs.Tables.{simplex_offset}
use Rattle.grid_split.proofs.simplices.simplex_offset.Goals as goal

pub returns : goal.returns
returns g c =
    let is : IsDimension g.row.D = search rules in
    let has : HasDimension Simplex g.row.D = search rules in
    let offset =
    fill_by_all (λ i. if nat_lt (slice_index_or (slice_index_or PLACES c.order_number.result []) i 0) c.args.corner then 2 else 0) c.loop-axis.offset
    g.row.D 0 c.loop-axis.invariant.0 (λ i h. c.loop-axis.invariant.1 i (omega arith))
    ∙ ap (λ (n : ℕ). map (λ i. if nat_lt (slice_index_or (slice_index_or PLACES n []) i 0) c.args.corner then 2 else 0) (axes g.row.D))
    c.order_number.ensures.number
    ∙ simplex_offset g.row.D is c.args.rank c.args.corner c.requires.rank c.requires.corner in
    record {
      offset = offset;
      small = λ i. rw offset (small_offsets Simplex g.row.D is has c.args.rank c.args.corner i c.requires.rank c.requires.corner);
    }
