use Rattle.std.proofs.Common.{rules, ◌≡◌}
use Rattle.std.proofs.lemmas.List.Sorted.{answers_always}
use Rattle.grid_split.specs.contracts.split.EdgePartialEq.TheImpl.{eq-value}
use denote.Param.{number}
use Rattle.edge_vertex.specs.EdgeValue.{order_of}
use Rattle.edge_vertex.proofs.EdgeOrder.{all_apart}
use Rattle.edge_vertex.proofs.found.sort_edges.Goals as goal

pub returns-in-Ok-clause-sorted : goal.returns-in-Ok-clause-sorted
returns-in-Ok-clause-sorted g c = c.in-Ok.ensures.sorted order_of (answers_always _ (λ a r. r ≡ order_of a.0.now) _ (λ f a r f' k. search rules))

pub returns-in-Ok-clause-apart : goal.returns-in-Ok-clause-apart
returns-in-Ok-clause-apart g c =
    all_apart ((eq-value (number g.row.D)).it) c.sort_unstable_by_key-sorted.new.self.keys (λ x y e. search rules) c.in-Ok.ensures.unique
