use Rattle.std.proofs.Common.{◌≡◌, ℕ, ◌+◌, ◌≤◌, length}
use Rattle.std.specs.Prelude.{take}
use Rattle.std.specs.List.{list_all}
use Rattle.split_checks.specs.declared.rounds.Place.{Place}
use Rattle.split_checks.specs.CellsRound.{before_gap, after_gap, stands}
use Rattle.split_laws.specs.RoundEdges.{AreAt, sides_at}
use Rattle.grid_split.proofs.complex.Complex+C+3.arc.Given as goal

abbrev pub invariant-loop-place : goal.invariant-loop-place
invariant-loop-place g l = record {
  before : AreAt g.C.Cell.KIND l.self l.cube (before_gap (sides_at l.self l.cube) (take l.place-index l.places)) l.before.items;
  cells : AreAt g.C.Cell.KIND l.self l.cube (after_gap (sides_at l.self l.cube) (take l.place-index l.places)) l.cells.items;
  closed : l.closed ≡ list_all (λ (p : Place). stands (sides_at l.self l.cube) p.back) (take l.place-index l.places);
  room : length l.before.items + length l.cells.items ≤ l.place-index;
}
