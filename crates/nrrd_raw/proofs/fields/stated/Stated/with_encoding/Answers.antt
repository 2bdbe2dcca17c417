use Rattle.std.proofs.Common.{rules}
use Rattle.nrrd_raw.proofs.StatedLaws.{adds-encoding}
use Rattle.nrrd_raw.proofs.fields.stated.Stated.with_encoding.Goals as goal

pub returns-clause-kept : goal.returns-clause-kept
returns-clause-kept c = λ texts text e h n. adds-encoding _ _ _ c.args.self.raw _ texts text c.args.value.now c.args.number c.requires e (search rules) h
