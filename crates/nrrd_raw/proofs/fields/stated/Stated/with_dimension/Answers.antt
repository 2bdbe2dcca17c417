use Rattle.std.proofs.Common.{rules}
use Rattle.nrrd_raw.proofs.StatedLaws.{adds-dimension}
use Rattle.nrrd_raw.proofs.fields.stated.Stated.with_dimension.Goals as goal

pub returns-clause-kept : goal.returns-clause-kept
returns-clause-kept c =
    λ texts text e h n. adds-dimension _ c.args.self.dimension _ _ _ _ texts text c.args.value.now c.args.number c.requires e (search rules) h
