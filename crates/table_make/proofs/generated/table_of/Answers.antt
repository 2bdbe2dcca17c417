use Rattle.std.proofs.Common.{◌≡◌, ◌^◌, ap, sym, subst, map, ℕ}
use Rattle.std.proofs.lemmas.Bool.{false≢true}
use Rattle.iso_model.specs.declared.Kind.{Kind}
use Rattle.iso_model.specs.Cells.{label_count}
use Rattle.iso_model.specs.Entries.{IsHullTable}
use Rattle.iso_model.specs.Tables.{IsTable}
use Rattle.table_make.proofs.HullEntryLaws.{entries_table, hull_table}
use Rattle.table_make.proofs.generated.table_of.Goals as goal

pub unreachable-requires : goal.unreachable-requires
unreachable-requires g c =
    let labels : 2 ^ g.C.Cell.CORNERS ≡ label_count g.C.Cell.KIND g.row.D = ap (λ (n : ℕ). 2 ^ n) g.met.C.Cell.corners in
    let table =
    entries_table g.C.Cell.KIND g.row.D (2 ^ g.C.Cell.CORNERS) (map (λ entry. entry.items) c.args.entries.items)
    g.met.C.Cell.has_dimension labels c.requires in
    false≢true
    (c.in-Err.ensures.accepted
    (subst
    (λ (k : Kind).
    IsTable (record { kind = k; dimension = g.row.D; entries = map (λ entry. entry.items) c.args.entries.items }))
    (sym c.KIND.ensures) table))

pub returns-clause-hulls : goal.returns-clause-hulls
returns-clause-hulls g c =
    let labels : 2 ^ g.C.Cell.CORNERS ≡ label_count g.C.Cell.KIND g.row.D = ap (λ (n : ℕ). 2 ^ n) g.met.C.Cell.corners in
    let entries = map (λ entry. entry.items) c.args.entries.items in
    let table = hull_table g.C.Cell.KIND g.row.D (2 ^ g.C.Cell.CORNERS) entries g.met.C.Cell.has_dimension labels c.requires in
    subst IsHullTable (sym c.in-Ok.ensures.table)
    (subst (λ (k : Kind). IsHullTable (record { kind = k; dimension = g.row.D; entries = entries })) (sym c.KIND.ensures) table)
