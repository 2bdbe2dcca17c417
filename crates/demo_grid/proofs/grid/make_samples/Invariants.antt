use Rattle.std.proofs.Common.{◌≡◌, ◌-◌, ◌/◌, ◌^◌, ◌++◌, pos, map}
use Rattle.iso_formats.specs.Demo.{numbers_after}
use Rattle.demo_grid.proofs.grid.make_samples.Given as goal

-- the samples so far and those of the numbers after the last one are all
abbrev pub invariant-loop : goal.invariant-loop
invariant-loop l =
    l.samples.items ++ map (λ x. pos (x / 2 ^ 24)) (numbers_after (l.count - l.counter) l.number)
    ≡ map (λ x. pos (x / 2 ^ 24)) (numbers_after l.count l.seed)
