-- What a reader of a file's words is seen as.
use Rattle.std.specs.Prelude.{ℕ, ◌^◌, List}
use Rattle.off_read.specs.declared.reader.Place.{Place}

-- the bytes that came and were not looked at yet; how many came; how many lines ended; and where in its line the reader stands
pub record Scan : Type 0 where
  pub left : List ℕ
  pub taken : ℕ
  pub ended : ℕ
  pub place : Place

-- the most bytes that a file has
abbrev pub limit : ℕ
limit = 2 ^ 30
