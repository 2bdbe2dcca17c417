use Rattle.std.specs.Prelude.{◌≡◌, ◌+◌, ◌%◌, ◌^◌, map, take}
use Rattle.std.specs.List.{sum}
use Rattle.lists.specs.Orders.{numbers}
use Rattle.edge_spectrum.proofs.differences.Differences.counts.Given as goal

abbrev pub invariant-loop-place : goal.invariant-loop-place
invariant-loop-place l =
    record {
      count : l.count ≡ sum (take l.place l.self.steps.items) % 2 ^ 64;
      counts : l.counts.items ≡ map (λ i. sum (take (i + 1) l.self.steps.items) % 2 ^ 64) (numbers l.place);
    }
