-- The least label that flips reach without a change of the order of axes.
use Rattle.std.specs.Prelude.{ℕ, ◌^◌, ◌<◌, ◌≤◌}
use Rattle.iso_model.specs.Moves.{Move, Carries}
use Rattle.lists.specs.Orders.{numbers}

-- flips of the axes in their order
abbrev pub flip_move : ℕ → ℕ → Move
flip_move d f = record { axes = numbers d; flips = f }

-- the least label to which flips carry this one, and the first flips that do so
pub record IsLeastFlip (d label least flips : ℕ) : Type 0 where
  pub within : flips < 2 ^ d
  pub carries : Carries d (flip_move d flips) label least
  pub is_least : (f m : ℕ) → f < 2 ^ d → Carries d (flip_move d f) label m → least ≤ m
  pub is_first : (f m : ℕ) → f < flips → Carries d (flip_move d f) label m → least < m
