use Rattle.std.proofs.Common.{◌^◌, arith}
use Rattle.case_patch.proofs.Narrow.{bytes_fit}
use Rattle.table_file.specs.Holding.{lists_of}
use Rattle.table_make.proofs.HullEntryLaws.{whole_pieces}
use Rattle.table_make.proofs.parts.make_parts.Goals as goal

pub table_of-requires : goal.table_of-requires
table_of-requires g c =
    let law = g.met.C.Cell g.world.𝓛 g.world.𝓜 g.world.𝓡 ((λ s x. x), (λ x. x), (λ x. x), λ x. x) in (
      bytes_fit g.row.D law.is_dimension,
      (
        omega arith,
        whole_pieces g.C.Cell.KIND g.row.D (2 ^ g.C.Cell.CORNERS) c.args.parts (lists_of c.in_ok-entries.entries.items) c.requires.some
            c.in_ok-entries.ensures,
      ),
    )
