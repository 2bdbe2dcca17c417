use Rattle.std.proofs.Common.{ap, ◌∙◌, ◌*◌, ◌%◌, ◌^◌}
use Rattle.std.specs.Prelude.{◌||◌}
use Rattle.lists.specs.Bits.{is_set}
use Rattle.bit_rows.proofs.WordBits.{as_number, set_or, test_bit}
use Rattle.bit_rows.proofs.samples.with_test.Goals as goal

pub returns : goal.returns
returns c = λ k low.
    let shifted = test_bit c.args.test c.args.place k c.requires low in
    let number = c.from.ensures ∙ as_number c.args.test in
    set_or c.args.word (c.from.result * 2 ^ c.args.place % 2 ^ 64) k
    ∙ ap (λ t. is_set c.args.word k || t) (ap (λ n. is_set (n * 2 ^ c.args.place % 2 ^ 64) k) number ∙ shifted)
