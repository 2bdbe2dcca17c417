use Rattle.layer_scan.specs.CubeNumbers.{HaveRanks, KeepsBelow}
use Rattle.layer_scan.proofs.cubes.count_rows.Given as goal

abbrev pub invariant-loop-k : goal.invariant-loop-k
invariant-loop-k l = HaveRanks l.numbers l.first 3 l.words l.k l.place × KeepsBelow l.first l.fn.numbers l.numbers
