use Rattle.std.proofs.Common.{ap, ◌∙◌, ◌^◌}
use Rattle.off_read.specs.WordForms.{below}
use Rattle.off_read.proofs.KnownWords.{counted}
use Rattle.off_read.proofs.words.Word.count.Goals as goal

pub returns : goal.returns
returns c = λ text so. c.number_below.ensures ∙ ap (below (2 ^ 32)) (c.numeral.ensures text so) ∙ counted text
