use Rattle.std.proofs.Common.{ap, arith, ◌∙◌, ◌≡◌, ◌-◌, ◌^◌}
use Rattle.std.specs.Prelude.{bit_and, count_ones}
use Rattle.std.proofs.lemmas.List.FromFn.{length-range_with_len}
use Rattle.std.proofs.lemmas.List.Sums.{count_by-le-length}
use Rattle.lists.specs.Bits.{is_set}
use Rattle.lists.specs.Orders.{numbers}
use Rattle.bit_rows.proofs.WordBits.{ones_below_place}
use Rattle.bit_rows.proofs.words.ones_below.Goals as goal

pub returns-clause-count : goal.returns-clause-count
returns-clause-count c =
    let mask : c.low_ones.result ≡ 2 ^ c.args.place - 1 = omega (arith, c.low_ones.ensures) in
    ap (λ n. count_ones (bit_and c.args.word n)) mask ∙ ones_below_place c.args.word c.args.place

pub returns-clause-few : goal.returns-clause-few
returns-clause-few c =
    let few = count_by-le-length (is_set c.args.word) (numbers c.args.place) in
    omega (arith, returns-clause-count c, few, length-range_with_len 0 c.args.place)
