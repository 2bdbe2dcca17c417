use Rattle.std.proofs.Common.{ap, arith, ◌∙◌}
use Rattle.off_read.specs.WordForms.{below}
use Rattle.off_read.proofs.KnownWords.{indexed}
use Rattle.off_read.proofs.words.Word.index.Goals as goal

pub returns : goal.returns
returns c = λ text so.
    c.number_below.ensures ∙ ap (λ n. below n c.numeral.result) c.from.ensures
    ∙ ap (below c.args.vertices) (c.numeral.ensures text so) ∙ indexed c.args.vertices text (omega arith)
