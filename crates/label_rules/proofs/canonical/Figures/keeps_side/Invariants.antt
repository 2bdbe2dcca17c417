use Rattle.std.proofs.Common.{◌≡◌, true, take}
use Rattle.std.specs.List.{list_all}
use Rattle.label_rules.proofs.SideLaws.{is_turned}
use Rattle.label_rules.proofs.canonical.Figures.keeps_side.Given as goal

-- the tuples so far
abbrev pub invariant-loop-tuple : goal.invariant-loop-tuple
invariant-loop-tuple g l = list_all (is_turned l.self g.row.D l.label) (take l.tuple-index l.tuples) ≡ true
