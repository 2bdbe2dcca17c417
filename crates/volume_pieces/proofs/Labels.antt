-- The label of a cell tells which of its corners are positive, and so which of its edges are bipolar.
use Rattle.std.proofs.Common.{◌≡◌, ℕ, ◌<◌, Bool, length, ap, sym, ◌∙◌}
use Rattle.iso_model.specs.Cells.{corner_count, label_count, edge_count, edge_ends}
use Rattle.iso_model.specs.Splits.{corner, edge}
use Rattle.iso_model.specs.Values.{Volume, IsRegularVolume, positive_at, label_of}
use Rattle.iso_model.specs.Bipolar.{differ, is_bipolar, is_bipolar_in}
use Rattle.iso_model.proofs.DimensionLaws.{dimension_cases}
use Rattle.split_laws.proofs.Passed.{ends_are_corners}
use Rattle.lists.specs.Bits.{is_set}
use Rattle.lists.proofs.Powers.{powers_few}
use Rattle.iso_model.proofs.SignLaws.{bipolar_in_label, label_bit}

-- ---- a number by its bits: the same lemmas stand in `Powers` of `mixed_cubes`, which is no crate below

-- ---- the label

-- the label of a cell is a label of its kind
pub label_few : (v : Volume) (c : ℕ) → label_of v c < label_count v.kind (length v.sizes)
unfolding label_of
label_few v c = powers_few (λ k. positive_at v (corner v.kind v.sizes c k)) (corner_count v.kind (length v.sizes))

-- ---- bipolar edges

-- an edge of a cell is bipolar in the label of the cell where it is bipolar in the volume
pub bipolar_local : (v : Volume) → IsRegularVolume v → (c e : ℕ) → e < edge_count v.kind (length v.sizes)
    → is_bipolar_in v.kind (length v.sizes) (label_of v c) e ≡ is_bipolar v (edge v.kind v.sizes c e)
bipolar_local v regular c e h =
    let are = ends_are_corners v.kind (length v.sizes) (dimension_cases v.kind (length v.sizes) regular.fits) regular.fits e h in
    sym (bipolar_in_label v c e are.0 are.1)
