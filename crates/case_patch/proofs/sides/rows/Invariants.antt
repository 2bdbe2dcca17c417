use Rattle.std.proofs.Common.{◌≡◌, ℕ, ◌<◌, [], length, slice_index_or}
use Rattle.polynomials.specs.Small.{AreSmall}
use Rattle.case_patch.specs.SideRows.{side_row}
use Rattle.case_patch.proofs.sides.rows.Given as goal

-- the rows so far
abbrev pub invariant-loop-place : goal.invariant-loop-place
invariant-loop-place g l = record {
  all : length l.rows ≡ l.place-end;
  same : (k : ℕ) → k < l.place → slice_index_or l.rows k [] ≡ side_row g.C.Cell.KIND g.row.D l.label l.tuple k;
  small : (k : ℕ) → k < l.place → AreSmall 64 (slice_index_or l.rows k []);
}
