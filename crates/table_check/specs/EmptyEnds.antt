-- Entries of the labels at which no edge is bipolar.
use Rattle.std.specs.Prelude.{◌≡◌, ◌-◌, []}
use Rattle.iso_model.specs.Cells.{label_count}
use Rattle.iso_model.specs.Tables.{Table, entry_of}

-- the entries of the label without a positive corner, and of the one without a negative corner, are empty
pub record HasEmptyEnds (t : Table) : Type 0 where
  pub none_positive : entry_of t 0 ≡ []
  pub all_positive : entry_of t (label_count t.kind t.dimension - 1) ≡ []
