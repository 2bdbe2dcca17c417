use Rattle.std.proofs.Common.{◌≡◌, ◌∙◌, ℕ, [], map, slice_index_or, ap, sym, subst, arith}
use Rattle.std.proofs.lemmas.List.{get_or-map}
use Rattle.iso_model.specs.Entries.{label_points}
use Rattle.iso_model.specs.Moves.{Move}
use Rattle.halfspace.specs.Choices.{AreFacetNumbers}
use Rattle.cube_moves.proofs.InverseMoves.{undone, undone_is, carried_once}
use Rattle.case_patch.proofs.Narrow.{bytes_fit}
use Rattle.table_make.specs.HullEntries.{AreHullEntries}
use Rattle.table_make.proofs.HullEntryLaws.{one_more_entry}
use Rattle.table_make.proofs.entries.entries_by_classes.Goals as goal
use Rattle.iso_model.proofs.CellCounts.{axes_between}

pub patch_moved-requires : goal.patch_moved-requires
patch_moved-requires g c =
    let is = g.met.C.Cell.is_dimension in
    let few = axes_between g.row.D is in
    let by : Move = record { axes = c.least_label-class.result.1.axes; flips = c.least_label-class.result.1.flips } in
    let least = c.least_label-class.ensures in
    let hull : slice_index_or (map (λ h. h.items) c.hull_place.new.hulls.items) c.in_ok-place.place [] ≡ c.deref.result.now =
    get_or-map (λ h. h.items) c.hull_place.new.hulls.items c.in_ok-place.place c.index.result.now [] c.in_ok-place.ensures.within
    ∙ ap (λ h. h.items) (sym c.index.ensures) ∙ sym c.deref.ensures.value in
    let class : AreFacetNumbers g.row.D (label_points g.C.Cell.KIND g.row.D c.least_label-class.result.0) c.deref.result.now =
    subst (AreFacetNumbers g.row.D (label_points g.C.Cell.KIND g.row.D c.least_label-class.result.0)) hull c.in_ok-place.ensures.found in (
      omega arith,
      (
        bytes_fit g.row.D is,
        (
          c.requires.cube,
          (
            omega arith,
            (
              least.is_move,
              λ other carries. subst (λ (m : ℕ). AreFacetNumbers g.row.D (label_points g.C.Cell.KIND g.row.D m) c.deref.result.now)
                  (carried_once g.row.D by (undone g.row.D by) (undone_is g.row.D is by least.is_move) c.loop-label.label c.least_label-class.result.0 other
                  least.carries carries) class,
            ),
          ),
        ),
      ),
    )

pub loop-label-preserved : goal.loop-label-preserved
loop-label-preserved g c = record {
  low = let low = c.loop-label.invariant.low in omega arith;
  high = let less = c.loop-label-test.true in omega arith;
  entries = one_more_entry g.C.Cell.KIND g.row.D c.args.from c.loop-label.label (map (λ entry. entry.items) c.loop-label.entries.items)
      (map (λ entry. entry.items) c.add_entry.new.entries.items) c.in_ok-entry.entry.items
      c.loop-label.invariant.low c.loop-label.invariant.entries c.in_ok-entry.ensures c.in_ok-add_entry.ensures;
  room = c.in_ok-place.ensures.room ∙ c.loop-label.invariant.room;
  hulls = c.in_ok-place.ensures.known;
}

pub returns : goal.returns
returns g c =
    let high = c.loop-label.invariant.high in
    let last : c.loop-label.label ≡ c.args.to = let low = c.loop-label-test.false in omega arith in
    subst
    (λ (n : ℕ). AreHullEntries g.C.Cell.KIND g.row.D c.args.from n (map (λ entry. entry.items) c.loop-label.entries.items)) last
    c.loop-label.invariant.entries
