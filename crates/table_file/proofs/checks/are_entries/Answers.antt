use Rattle.std.proofs.Common.{refl, ◌∙◌}
use Rattle.std.proofs.lemmas.Bool.{false≢true}
use Rattle.iso_model.specs.Tables.{IsEntry}
use Rattle.table_file.proofs.CheckLaws.{mapped_more, mapped_all}
use Rattle.table_file.proofs.EntryLaws.{sound_at}
use Rattle.table_file.proofs.checks.are_entries.Goals as goal

pub returns-then-not-is_entry : goal.returns-then-not-is_entry
returns-then-not-is_entry g c = (
  λ f. absurd (false≢true f),
  λ all. c.if-not-is_entry.ensures.1
      (rw c.deref.ensures.value
      (sound_at c.args.entries.now (λ entry. entry.items) (IsEntry c.args.kind g.row.D) c.loop-entry.entry-index c.entry-item.result
      c.loop-entry-test.true c.entry-item.is all.1)),
)

pub loop-entry-preserved : goal.loop-entry-preserved
loop-entry-preserved g c =
    mapped_more c.args.entries.now (λ entry. entry.items) (IsEntry c.args.kind g.row.D) c.loop-entry.entry-index c.entry-item.result
    c.loop-entry-test.true c.entry-item.is c.loop-entry.invariant
    (rw (← c.deref.ensures.value) (c.if-not-is_entry.ensures.0 refl))

pub returns : goal.returns
returns g c = (
  λ _. (
    c.if-entries-labels.false ∙ c.labels.ensures,
    mapped_all c.args.entries.now (λ entry. entry.items) (IsEntry c.args.kind g.row.D) c.loop-entry.entry-index c.loop-entry-test.false
        c.loop-entry.invariant,
  ),
  λ _. refl,
)
