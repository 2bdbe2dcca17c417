use Rattle.std.proofs.Common.{rules, Bool}
use Rattle.grid_split.specs.contracts.split.EdgePartialEq.TheImpl.{eq-value}
use Rattle.grid_split.specs.declared.split.Edge.{Edge}
use denote.Param.{number}
use Rattle.edge_vertex.proofs.Added.{insert_adds}
use Rattle.edge_vertex.proofs.found.add.Goals as goal

pub returns-in-Ok : goal.returns-in-Ok
returns-in-Ok g c =
    let E : Edge g.row.D → Bool = (eq-value (number g.row.D)).it c.args.edge in
    insert_adds E c.args.edge c.args.edges.now.keys c.insert.new.self.keys (λ y h. search rules) c.in-Ok.ensures.keys
