-- The pieces of a work in parts lie one after another, from the first item to the last.
use Rattle.std.specs.Prelude.{◌≡◌, ℕ, ◌*◌, ◌/◌, ◌<◌, ◌≤◌}
use Rattle.std.proofs.Common.{arith}
use Rattle.std.proofs.Math.Nat.{mul-le-mul}
use Rattle.std.proofs.Math.Nat.{div-mul-le_self, mul-div_cancel_left}
use Rattle.std.proofs.lemmas.Nat.{le-div}
use Rattle.iso_base.specs.Parts.{start_of}

pub starts_ascend : (items parts i j : ℕ) → 0 < parts → i ≤ j → start_of items parts i ≤ start_of items parts j
starts_ascend items parts i j some less =
    let share : i * items / parts * parts ≤ i * items = div-mul-le_self (i * items) parts in
    let more : i * items ≤ j * items = mul-le-mul less (let e : items ≤ items = omega arith in e) in
    le-div (i * items / parts) (j * items) parts some (omega (arith, share, more))

pub start_within : (items parts piece : ℕ) → 0 < parts → piece ≤ parts → start_of items parts piece ≤ items
start_within items parts piece some less =
    let last : parts * items / parts ≡ items = mul-div_cancel_left items some in
    let before = starts_ascend items parts piece parts some less in
    omega (arith, last, before)
