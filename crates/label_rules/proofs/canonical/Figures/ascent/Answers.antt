use Rattle.std.proofs.Common.{arith}
use Rattle.iso_model.proofs.DimensionLaws.{is_small_cell}
use Rattle.label_rules.proofs.canonical.Figures.ascent.Goals as goal

pub has_member-requires : goal.has_member-requires
has_member-requires g c = omega (arith, c.ends-first.ensures.first, (is_small_cell c.args.self.now g.row.D c.kind-kind.ensures.cell).corners)
