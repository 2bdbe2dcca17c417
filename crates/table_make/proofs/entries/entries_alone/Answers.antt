use Rattle.std.proofs.Common.{◌≡◌, ℕ, map, subst, arith}
use Rattle.table_make.specs.HullEntries.{AreHullEntries}
use Rattle.table_make.proofs.HullEntryLaws.{one_more_entry}
use Rattle.table_make.proofs.entries.entries_alone.Goals as goal

pub loop-label-preserved : goal.loop-label-preserved
loop-label-preserved g c = record {
  low = let low = c.loop-label.invariant.low in omega arith;
  high = let less = c.loop-label-test.true in omega arith;
  entries = one_more_entry g.C.Cell.KIND g.row.D c.args.from c.loop-label.label (map (λ entry. entry.items) c.loop-label.entries.items)
      (map (λ entry. entry.items) c.add_entry.new.entries.items) c.in_ok-entry.entry.items
      c.loop-label.invariant.low c.loop-label.invariant.entries c.in_ok-entry.ensures c.in_ok-add_entry.ensures;
}

pub returns : goal.returns
returns g c =
    let high = c.loop-label.invariant.high in
    let last : c.loop-label.label ≡ c.args.to = let low = c.loop-label-test.false in omega arith in
    subst
    (λ (n : ℕ). AreHullEntries g.C.Cell.KIND g.row.D c.args.from n (map (λ entry. entry.items) c.loop-label.entries.items)) last
    c.loop-label.invariant.entries
