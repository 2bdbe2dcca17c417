use Rattle.std.proofs.Common.{arith}
use Rattle.std.proofs.lemmas.Result.{IfOk-weaker, IfErr-weaker}
use Rattle.table_file.proofs.TupleRows.{small_counts}
use Rattle.table_file.proofs.BodyLaws.{body_read, body_cause, all_small}
use Rattle.table_file.proofs.bodies.read_body.Goals as goal

pub judge_count-requires-clause-width : goal.judge_count-requires-clause-width
judge_count-requires-clause-width g c = (small_counts c.args.kind g.row.D c.requires.next.head.fits).dimension

pub judge_count-requires-clause-most : goal.judge_count-requires-clause-most
judge_count-requires-clause-most g c = omega (arith, c.requires.next.few, c.requires.records)

pub judge_count-requires-clause-number : goal.judge_count-requires-clause-number
judge_count-requires-clause-number g c = omega (arith, c.requires.next.counted, c.requires.records)

pub judge_count-requires-clause-index : goal.judge_count-requires-clause-index
judge_count-requires-clause-index g c = omega (arith, c.requires.next.index, c.requires.records)

pub judge_count-requires-clause-inside : goal.judge_count-requires-clause-inside
judge_count-requires-clause-inside g c = c.requires.next.inside

pub returns-clause-body : goal.returns-clause-body
returns-clause-body g c =
    IfOk-weaker c.read_entry.result _ _
    (λ tuples e. body_read c.args.kind g.row.D c.args.bytes.now c.args.number c.args.place tuples.items c.requires.next c.in_ok-judge_count.ensures.right e)
    c.read_entry.ensures.entry

pub returns-clause-cause : goal.returns-clause-cause
returns-clause-cause g c =
    IfErr-weaker c.read_entry.result _ _
    (λ fault f.
    body_cause c.args.kind g.row.D c.args.bytes.now c.args.number c.args.place fault (all_small c.args.bytes.now (λ i. let f = c.type_inv.bytes i in omega (arith, f))) c.requires.next
    c.in_ok-judge_count.ensures.right f)
    c.read_entry.ensures.fault
