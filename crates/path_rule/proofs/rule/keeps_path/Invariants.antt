use Rattle.std.proofs.Common.{◌≡◌, ℕ, ◌<◌, true}
use Rattle.iso_model.specs.declared.Kind.{Kind}
use Rattle.iso_model.specs.Acceptance.{rule_edges, rule_faces, is_path}
use Rattle.edge_sets.specs.Sets.{Suits, SuitsFacets}
use Rattle.lists.specs.Bits.{is_set}
use Rattle.path_rule.proofs.rule.keeps_path.Given as goal

abbrev pub invariant-loop-edge : goal.invariant-loop-edge
invariant-loop-edge g l =
    (kind : Kind) (label : ℕ) → SuitsFacets kind 3 l.facets l.tuples → Suits kind 3 label l.bipolar l.tuples → rule_edges kind 3 label l.tuples ≡ true
    → rule_faces kind 3 l.tuples ≡ true
    → (e : ℕ) → e < l.edge → is_set l.bipolar e ≡ true → is_path kind 3 e l.tuples ≡ true
