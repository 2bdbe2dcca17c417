use Rattle.layer_scan.specs.CubeNumbers.{HaveRanks, KeepsBelow}
use Rattle.layer_scan.proofs.cubes.count_pairs.Given as goal

abbrev pub invariant-loop-k : goal.invariant-loop-k
invariant-loop-k l = HaveRanks l.numbers 27 2 l.words l.k l.place × KeepsBelow 27 l.fn.numbers l.numbers
