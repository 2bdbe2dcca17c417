use Rattle.std.proofs.Common.{◌≡◌, List, sym, subst}
use Rattle.table_file.specs.Reading.{table_in}
use Rattle.table_faults.specs.declared.faults.Fault.{Fault}
use Rattle.table_faults.specs.Faults.{AreFaults}
use Rattle.faults_cli.proofs.EndingLaws.{fault_writing, listed}
use Rattle.faults_cli.proofs.listing.put_faults_of.Goals as goal

pub returns-in-Ok-clause-kinds : goal.returns-in-Ok-clause-kinds
returns-in-Ok-clause-kinds g c = fault_writing c.put_listing.result c.put_listing.ensures.kinds

pub returns-in-Ok-clause-output : goal.returns-in-Ok-clause-output
returns-in-Ok-clause-output g c =
    let same : c.deref.result.now ≡ c.in-Ok.faults.items = c.deref.ensures.value in
    listed g.O.Sink.faults g.O.Sink.bytes (table_in c.args.table.now) c.deref.result.now c.put_listing.result c.args.out.now c.put_listing.new.out
    (subst (λ (fs : List Fault). AreFaults (table_in c.args.table.now) fs) (sym same) c.in-Ok.ensures) c.put_listing.ensures.verdict
    c.put_listing.ensures.output
