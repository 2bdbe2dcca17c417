-- The hash of an edge by the weighted sum of its coordinates.
use Rattle.std.specs.Prelude.{ℕ, ◌+◌, ◌*◌, ◌/◌, ◌%◌, ◌^◌, ◌==◌, List, length, slice_index, if◌then◌else◌}
use Rattle.edge_vertex.specs.declared.nearby.NearbyHasher.{NearbyHasher}
use Rattle.edge_vertex.specs.declared.nearby.TheConstants.{WEIGHTS, SPREAD}

abbrev pub initial : NearbyHasher
initial = record { place = 4; sum = 0 }

-- four bytes as a number, the lowest first
abbrev pub read_u32 : List ℕ → ℕ
read_u32 bytes = slice_index bytes 0 + slice_index bytes 1 * 256 + slice_index bytes 2 * 65536 + slice_index bytes 3 * 16777216

-- the state after four bytes, which are a coordinate, or after others, which start a new point
abbrev pub write : NearbyHasher → List ℕ → NearbyHasher
write s bytes =
    if length bytes == 4 then record {
      place = s.place % 8 + 1;
      sum = (s.sum + slice_index WEIGHTS (s.place % 8) * read_u32 bytes % 2 ^ 64) % 2 ^ 64;
    }
    else record { place = (s.place % 8 + 3) / 4 * 4; sum = s.sum }

abbrev pub finish : NearbyHasher → ℕ
finish s = s.sum / 8 % 16777216 + s.sum * SPREAD % 2 ^ 64 / 2 ^ 56 * 16777216
