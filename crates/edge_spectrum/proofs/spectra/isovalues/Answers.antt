use Rattle.std.proofs.Common.{ap, ◌+◌, ℤ}
use Rattle.std.specs.Prelude.{unsigned_abs}
use Rattle.edge_spectrum.proofs.StepSums.{wrapped_difference}
use Rattle.edge_spectrum.proofs.spectra.isovalues.Goals as goal

pub returns-clause-is : goal.returns-clause-is
returns-clause-is c = ap (λ (z : ℤ). unsigned_abs z + 1) (wrapped_difference c.args.to c.args.from c.requires.to c.requires.from)
