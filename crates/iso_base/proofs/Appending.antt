-- Bytes appended piece by piece.
use Rattle.std.proofs.Common.{ℕ, ◌+◌, List, take, drop, Option, Some, None, append_assoc}
use Rattle.std.specs.Io.KnownBytes.{Appends}
use Rattle.std.proofs.Math.Seq.{take-add}

-- a front of a piece, and then a front of its rest
pub Appends-take_more : (a b c : Option (List ℕ)) (xs : List ℕ) (i n : ℕ) → Appends a b (take i xs) → Appends b c (take n (drop i xs))
    → Appends a c (take (i + n) xs)
Appends-take_more None b c xs i n p q = tt
Appends-take_more (Some a) None c xs i n p q = absurd p
Appends-take_more (Some a) (Some b) None xs i n p q = absurd q
Appends-take_more (Some a) (Some b) (Some c) xs i n p q = let e = take-add i n xs in let f = append_assoc a (take i xs) (take n (drop i xs)) in cc
