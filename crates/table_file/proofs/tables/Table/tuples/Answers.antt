use Rattle.std.proofs.Common.{arith, subst, ap, length}
use Rattle.std.proofs.lemmas.List.{length-map}
use Rattle.iso_model.specs.Tables.{Table, IsEntry}
use Rattle.table_file.proofs.EntryLaws.{sound_at}
use Rattle.table_file.proofs.tables.Table.tuples.Goals as goal

pub returns-clause-sound : goal.returns-clause-sound
returns-clause-sound g c =
    rw c.as_slice.ensures.value
    (subst (λ (t : Table). IsEntry t.kind g.row.D c.index.result.now.items) c.self.view_is
    (sound_at c.self.inside.entries.items (λ entry. entry.items) (IsEntry c.self.inside.kind g.row.D) c.args.label c.index.result.now
    (omega (arith, length-map c.self.inside.entries.items (λ entry. entry.items), ap (λ (t : Table). length t.entries) c.self.view_is, c.requires))
    c.index.ensures c.self.invariant.sound))
