use Rattle.off_write.proofs.TextLaws.{text_fixes, some_dimension}
use Rattle.off_write.proofs.law.text_law.Goals as goal

pub returns : goal.returns
returns g c =
    record { law = λ m n. text_fixes g.row.D (some_dimension g.row.D c.requires.dimension) m n }
