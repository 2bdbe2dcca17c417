use Rattle.std.proofs.Common.{◌≡◌, ◌≤◌, length, ◌-◌}
use Rattle.std.specs.Io.KnownBytes.{Consumes}
use Rattle.iso_base.specs.Shelves.{IsSameShelf}
use Rattle.iso_cli.proofs.read.read_front.Given as goal

-- the bytes so far were taken off the front, and are few enough
abbrev pub invariant-loop-piece : goal.invariant-loop-piece
invariant-loop-piece g l = record {
  same : IsSameShelf g.S.Shelf.faults g.S.Shelf.files g.S.Shelf.sound l.initial.shelf l.shelf;
  taken : Consumes (g.S.Shelf.rest l.initial.shelf) (g.S.Shelf.rest l.shelf) l.bytes.items;
  few : length l.bytes.items ≤ l.most;
  room : length l.piece ≡ 65536;
}

abbrev pub decreases-loop-piece : goal.decreases-loop-piece
decreases-loop-piece g l = l.most - length l.bytes.items
