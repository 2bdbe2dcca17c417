-- Sets of edges as numbers: bit e is set where edge e is a member.
use Rattle.std.specs.Prelude.{◌≡◌, ℕ, ◌<◌, ◌≤◌, Bool, false, ◌&&◌, List, length, slice_index, slice_index_or, All}
use Rattle.std.specs.List.{list_all}
use Rattle.iso_model.specs.declared.Kind.{Kind}
use Rattle.lists.specs.Orders.{has, is_distinct}
use Rattle.iso_model.specs.Cells.{HasDimension, edge_count, facet_count, edge_in_facet}
use Rattle.iso_model.specs.Tables.{IsTuple}
use Rattle.iso_model.specs.Bipolar.{differ, is_bipolar_in}
use Rattle.lists.specs.Bits.{is_set}
use Rattle.iso_model.specs.Acceptance.{rule_edges}

-- the set of the members of a list
abbrev pub IsSetOf : ℕ → List ℕ → Type 0
IsSetOf set es = (e : ℕ) → is_set set e ≡ has es e

-- no edge stands twice, and all are in a set
abbrev pub is_sound_in : ℕ → List ℕ → Bool
is_sound_in set w = is_distinct w && list_all (is_set set) w

-- one of the two corners is positive in a labelling, and the other is not
abbrev pub differs : ℕ → ℕ × ℕ → Bool
differs label ends = differ (is_set label ends.0) (is_set label ends.1)

-- tuples of a cell, and the set of the edges that are bipolar in a labelling of its corners
pub record Suits (kind : Kind) (d label bipolar : ℕ) (ws : List (List ℕ)) : Type 0 where
  pub fits : HasDimension kind d
  pub tuples : All (IsTuple kind d) ws
  pub bipolar_is : (e : ℕ) → e < edge_count kind d → is_set bipolar e ≡ is_bipolar_in kind d label e
  pub others : (e : ℕ) → edge_count kind d ≤ e → is_set bipolar e ≡ false

-- the answer is the rule of bipolar edges, for each kind and labelling that this set of edges suits
abbrev pub AnswersEdges : ℕ → ℕ → List (List ℕ) → Bool → Type 0
AnswersEdges d bipolar ws answer = (kind : Kind) (label : ℕ) → Suits kind d label bipolar ws → answer ≡ rule_edges kind d label ws

-- the set has those edges, by their ends, whose ends differ in a labelling
abbrev pub HasDiffering : List (ℕ × ℕ) → ℕ → ℕ → Type 0
HasDiffering ends label set = (e : ℕ) → e < length ends → is_set set e ≡ differs label (slice_index_or ends e (0, 0))

-- tuples of a cell, and the sets of the edges that lie in its facets
pub record SuitsFacets (kind : Kind) (d : ℕ) (facets : List ℕ) (ws : List (List ℕ)) : Type 0 where
  pub tuples : All (IsTuple kind d) ws
  pub count : length facets ≡ facet_count kind d
  pub members : (f e : ℕ) → f < facet_count kind d → e < edge_count kind d → is_set (slice_index facets f) e ≡ edge_in_facet kind d f e
