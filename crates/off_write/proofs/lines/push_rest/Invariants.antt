use Rattle.std.proofs.Common.{◌≡◌, ◌+◌, ◌*◌, ◌≤◌, ◌∷◌, ◌++◌, length, take}
use Rattle.std.specs.List.{flat_map}
use Rattle.iso_formats.specs.MeshText.{millionths}
use Rattle.off_write.proofs.lines.push_rest.Given as goal

abbrev pub invariant-loop-coordinate : goal.invariant-loop-coordinate
invariant-loop-coordinate l =
    (l.page ≡ l.initial.page ++ flat_map (λ c. 32 ∷ millionths c) (take l.coordinate-index l.coordinates))
    × (length l.page ≤ length l.initial.page + 29 * l.coordinate-index)
