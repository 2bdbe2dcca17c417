use Rattle.std.proofs.Common.{◌≡◌, ◌^◌, take}
use Rattle.polynomials.specs.Small.{AreSmall}
use Rattle.hull_dd.specs.Steps.{slacks_at}
use Rattle.hull_dd.proofs.step.measure.Given as goal

-- the slacks so far
abbrev pub invariant-loop-generator : goal.invariant-loop-generator
invariant-loop-generator g l = record {
  value : l.slacks.items ≡ slacks_at l.point (take l.generator-index l.generators);
  small : AreSmall (2 ^ 32) l.slacks.items;
}
