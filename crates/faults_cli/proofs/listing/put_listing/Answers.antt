use Rattle.std.proofs.Common.{◌∙◌, length, sym}
use Rattle.std.proofs.lemmas.Bool.{eqb-true}
use Rattle.lists.proofs.Tests.{not_empty}
use Rattle.faults_cli.specs.declared.verdict.Verdict.TheVariants.{Accepted, Faulty}
use Rattle.iso_cli.specs.Outputs.{accepted_line}
use Rattle.table_faults.specs.FaultText.{faults_text}
use Rattle.faults_cli.proofs.EndingLaws.{ending_fault, none_listed, put_leaves, some_listed}
use Rattle.faults_cli.proofs.listing.put_listing.Goals as goal

pub returns-then-is_empty-clause-kinds : goal.returns-then-is_empty-clause-kinds
returns-then-is_empty-clause-kinds g c = rw c.ended.ensures (ending_fault c.put_all.result Accepted)

pub returns-then-is_empty-clause-output : goal.returns-then-is_empty-clause-output
returns-then-is_empty-clause-output g c =
    rw (c.ended.ensures, none_listed c.args.faults.now (eqb-true (length c.args.faults.now) 0 (sym c.is_empty.ensures ∙ c.if-is_empty.true)))
    (put_leaves g.O.Sink.faults g.O.Sink.bytes c.args.out.now c.put_all.new.out c.put_all.result Accepted accepted_line
    c.put_all.ensures.faults c.put_all.ensures.all c.put_all.ensures.front)

pub returns-else-is_empty-clause-kinds : goal.returns-else-is_empty-clause-kinds
returns-else-is_empty-clause-kinds g c = rw c.ended-else-is_empty.ensures (ending_fault c.put_faults.result Faulty)

pub returns-else-is_empty-clause-output : goal.returns-else-is_empty-clause-output
returns-else-is_empty-clause-output g c =
    rw (c.ended-else-is_empty.ensures, some_listed c.args.faults.now (not_empty (length c.args.faults.now) c.is_empty.result c.is_empty.ensures c.if-is_empty.false))
    (put_leaves g.O.Sink.faults g.O.Sink.bytes c.args.out.now c.put_faults.new.out c.put_faults.result Faulty (faults_text c.args.faults.now)
    c.put_faults.ensures.faults c.put_faults.ensures.all c.put_faults.ensures.front)
