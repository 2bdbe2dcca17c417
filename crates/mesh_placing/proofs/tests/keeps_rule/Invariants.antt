use Rattle.std.proofs.Common.{◌≡◌, ℕ, ◌<◌, true}
use Rattle.iso_model.specs.Tables.{entry_of}
use Rattle.iso_model.specs.Acceptance.{rule_edges}
use Rattle.mesh_placing.proofs.tests.keeps_rule.Given as goal

abbrev pub invariant-loop-label : goal.invariant-loop-label
invariant-loop-label g l = (label : ℕ) → label < l.label → rule_edges g.C.Cell.KIND g.row.D label (entry_of l.table label) ≡ true
