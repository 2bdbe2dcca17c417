use Rattle.std.proofs.Common.{ap, sym, ◌∙◌, ◌+◌, ◌*◌}
use Rattle.bit_rows.specs.SampleRows.{is_clear_at}
use Rattle.bit_rows.proofs.WordSets.{all_there}
use Rattle.bit_rows.proofs.samples.clear_word.Goals as goal

pub returns-in-None : goal.returns-in-None
returns-in-None c = λ k low.
    all_there c.args.samples.now c.args.w c.count_from.result c.all_ones.result c.requires c.count_from.ensures c.all_ones.ensures k low
    ∙ ap (λ b. is_clear_at b c.args.samples.now (64 * c.args.w + k)) (sym c.in-None.is)
