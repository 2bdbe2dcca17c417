-- Exchanges of corners in pairs.
use Rattle.std.specs.Prelude.{◌≡◌, ℕ, ◌+◌, ◌-◌, ◌^◌, ◌<◌, ◌≤◌, Bool, true, not, ◌&&◌, ◌||◌, nat_lt, nat_le, if◌then◌else◌}
use Rattle.cube_moves.specs.declared.words.Exchange.{Exchange}
use Rattle.lists.specs.Bits.{is_set}

-- the corner with which a corner is exchanged
abbrev pub partner : Exchange → ℕ → ℕ
partner x c = if is_set x.kept c then c else if is_set x.lower c then c + x.shift else c - x.shift

-- no lower corner is exchanged with this one
abbrev pub is_free : Exchange → ℕ → Bool
is_free x c = nat_lt c x.shift || not (is_set x.lower (c - x.shift))

-- this corner stays, is a lower one of which the other is a corner, or is the other one of a lower corner, and only one of these
abbrev pub fits_at : ℕ → Exchange → ℕ → Bool
fits_at d x c =
    if is_set x.kept c then not (is_set x.lower c) && is_free x c
    else if is_set x.lower c then nat_lt (c + x.shift) (2 ^ d) && is_free x c
    else nat_le x.shift c && is_set x.lower (c - x.shift)

-- each corner of a cube stays or is exchanged with one other
pub record IsExchange (d : ℕ) (x : Exchange) : Type 0 where
  pub each : (c : ℕ) → c < 2 ^ d → fits_at d x c ≡ true
  pub near : x.shift ≤ 16
