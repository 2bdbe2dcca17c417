use Rattle.std.proofs.Common.{◌≡◌, ℕ, ◌<◌, length, get_or}
use Rattle.iso_model.specs.Moves.{Carries}
use Rattle.cube_moves.proofs.MovedBits.{flips_alone}
use Rattle.cube_moves.proofs.words.by_flips.Given as goal

abbrev pub invariant-loop-flips : goal.invariant-loop-flips
invariant-loop-flips g l = record {
  room : length l.labels ≡ 16;
  carried : (f : ℕ) → f < l.flips → Carries g.row.D (flips_alone g.row.D f) l.label (get_or l.labels f 0);
}
