use Rattle.std.proofs.Common.{rules}
use Rattle.nrrd_raw.proofs.StatedLaws.{adds-endian}
use Rattle.nrrd_raw.proofs.fields.stated.Stated.with_endian.Goals as goal

pub returns-clause-kept : goal.returns-clause-kept
returns-clause-kept c = λ texts text e h n. adds-endian _ _ _ _ c.args.self.big _ texts text c.args.value.now c.args.number c.requires e (search rules) h
