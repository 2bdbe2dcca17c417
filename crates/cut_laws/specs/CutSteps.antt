-- What the steps of a cut find, simplex after simplex, by a test of which numbers are late.
use Rattle.std.specs.Prelude.{◌≡◌, ℕ, ◌<◌, ◌⊎◌, Bool, true, List, [], map, filter, length, slice_index, All, Contains}
use Rattle.std.specs.List.{list_any}
use Rattle.lists.specs.Orders.{numbers, is_distinct, sorted}
use Rattle.lists.specs.Members.{AscendsBy}
use Rattle.iso_model.specs.Bipolar.{differ}
use Rattle.iso_model.specs.Tables.{Table, entry_of}
use Rattle.cut_laws.specs.declared.Link.{Link}
use Rattle.cut_laws.specs.Cuts.{edge_of}

-- one end of a link is late and the other is not
abbrev pub is_parted : (ℕ → Bool) → Link → Bool
is_parted late l = differ (late l.low) (late l.high)

-- some numbers of a simplex are late and some are not
abbrev pub is_cut : (ℕ → Bool) → List ℕ → Bool
is_cut late w = list_any (λ k. differ (late k) (late (slice_index w 0))) w

-- the local edges of corners of which one end is late and the other is not
abbrev pub parted_edges : (ℕ → Bool) → List ℕ → List Link
parted_edges late corners = filter (is_parted late) (map (edge_of corners) (numbers 6))

-- the links of a simplex
abbrev pub links_in : (ℕ → Bool) → List ℕ → List Link
links_in late w = parted_edges late (sorted w)

-- a simplex has four different numbers, all below n
pub record IsSimplex (n : ℕ) (w : List ℕ) : Type 0 where
  pub four : length w ≡ 4
  pub distinct : is_distinct w ≡ true
  pub below : All (λ k. k < n) w

-- a link comes before another one: by its low number, and where that is the same by its high one
abbrev pub Below : Link → Link → Type 0
Below k l = (k.low < l.low) ⊎ ((k.low ≡ l.low) × (k.high < l.high))

-- links in ascending order, each of which has one late end
pub record AreLinks (late : ℕ → Bool) (ls : List Link) : Type 0 where
  pub ascend : AscendsBy Below ls
  pub parted : (l : Link) → Contains ls l → is_parted late l ≡ true

-- no triangle stands in the entries of the labels at which no corner, or each corner, is late
pub record HasEmptyEnds (t : Table) : Type 0 where
  pub none_late : entry_of t 0 ≡ []
  pub all_late : entry_of t 15 ≡ []
