use Rattle.std.proofs.Common.{◌≡◌, true, take, pos}
use Rattle.std.specs.Prelude.{int_lt}
use Rattle.std.specs.List.{list_all}
use Rattle.iso_model.specs.Acceptance.{side_turn}
use Rattle.label_rules.proofs.canonical.Figures.is_turned.Given as goal

-- the edges so far
abbrev pub invariant-loop-edge : goal.invariant-loop-edge
invariant-loop-edge g l = list_all (λ e. int_lt (pos 0) (side_turn l.self g.row.D l.label l.tuple e)) (take l.edge-index l.tuple) ≡ true
