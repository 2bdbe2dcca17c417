-- Lists in groups.
use Rattle.std.specs.Prelude.{List, flat_map, Vec}
use Rattle.std.proofs.Common.{Global}

-- the members of groups, group after group
abbrev pub members_of : {T : Type 0} → List (Vec T Global) → List T
members_of groups = flat_map (λ g. g.items) groups
