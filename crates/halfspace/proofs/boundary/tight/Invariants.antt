use Rattle.std.proofs.Common.{◌≡◌, ℕ, pos, filter, slice_index_or, []}
use Rattle.lists.specs.Orders.{numbers}
use Rattle.iso_model.specs.Turns.{slack, same_int}
use Rattle.lists.specs.Bits.{set_number}
use Rattle.halfspace.proofs.boundary.tight.Given as goal

-- the number of the tight points below i
abbrev pub invariant-loop-i : goal.invariant-loop-i
invariant-loop-i g l =
    l.set
    ≡ set_number
    (filter (λ (k : ℕ). same_int (slack (record { normal = l.half.normal; bound = l.half.bound }) (slice_index_or l.points k [])) (pos 0))
    (numbers l.i))
