use Rattle.std.proofs.Common.{sym, ◌∙◌}
use Rattle.cut_laws.proofs.LinkOrder.{number_none}
use Rattle.cut_laws.proofs.FoundLinks.{not_parted}
use Rattle.mesh_slice.specs.Slices.{late_by}
use Rattle.mesh_slice.proofs.triangles.number_if_parted.Goals as goal

pub returns-else-is_parted : goal.returns-else-is_parted
returns-else-is_parted c =
    sym (number_none c.args.links.now c.args.link
    (not_parted (late_by c.args.late.now) c.args.links.now c.requires.links c.args.link (sym c.is_parted.ensures ∙ c.if-is_parted.false)))
