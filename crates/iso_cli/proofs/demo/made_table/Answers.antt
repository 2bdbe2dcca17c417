-- The table that was made, and why the check refuses it.
use Rattle.iso_cli.proofs.Demonstrating.{refused_by_check}
use Rattle.iso_cli.proofs.demo.made_table.Goals as goal

pub returns-clause-refused : goal.returns-clause-refused
returns-clause-refused g c =
    let made = c.in_ok-table.ensures in
    refused_by_check g.C.Cell.KIND g.row.D c.in_ok-table.table (record {
      of_kind = made.0;
      of_dimension = made.1;
      made = made.2;
    }) c.certified.result c.certified.ensures.refused
