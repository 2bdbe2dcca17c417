use Rattle.std.proofs.Common.{rules}
use Rattle.nrrd_raw.proofs.StatedLaws.{adds-sizes}
use Rattle.nrrd_raw.proofs.fields.stated.Stated.with_sizes.Goals as goal

pub returns-clause-kept : goal.returns-clause-kept
returns-clause-kept c = λ texts text e h n. adds-sizes _ _ c.args.self.sizes _ _ _ texts text c.args.value.now c.args.number c.requires e (search rules) n h
