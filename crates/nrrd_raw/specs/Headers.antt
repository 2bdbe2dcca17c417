-- What reading a header leaves.
use Rattle.std.specs.Prelude.{◌≡◌, ℕ, List, Option, Some, None, ⊤}
use Rattle.iso_formats.specs.GridFile.{Header, HasHeader}

-- where the rest is told, it began with the header, and what stands behind its end is left
abbrev pub HeaderIsRead : Option (List ℕ) → Option (List ℕ) → Header → Type 0
HeaderIsRead None new h = ⊤
HeaderIsRead (Some bytes) new h = (data_bytes : List ℕ) × HasHeader bytes h data_bytes × (new ≡ Some data_bytes)
