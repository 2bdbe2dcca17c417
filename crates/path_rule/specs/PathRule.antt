-- Triangles at an edge, and paths through all of them. A face at edge e is told by its other edge.
use Rattle.std.specs.Prelude.{◌≡◌, ◌≢◌, ◌<◌, ◌≤◌, ◌⊎◌, ℕ, Bool, true, false, not, ◌&&◌, ◌==◌, List, [], length, find, slice_index, slice_index_or}
use Rattle.std.specs.Prelude.{All, Option, Some}
use Rattle.std.specs.Prelude.{None, if◌then◌else◌}
use Rattle.std.specs.List.{list_any}
use Rattle.iso_model.specs.declared.Kind.{Kind}
use Rattle.lists.specs.Orders.{has, is_distinct, orders_of}
use Rattle.iso_model.specs.Cells.{edge_count, facet_count, edge_in_facet}
use Rattle.iso_model.specs.Tables.{IsTuple}
use Rattle.iso_model.specs.Acceptance.{rule_edges, rule_faces, rule_path, others_at, goes_on, leads, is_path}
use Rattle.edge_sets.specs.Sets.{Suits, SuitsFacets}
use Rattle.lists.specs.Bits.{is_set}

-- the first edge of a triangle that is neither e nor x, where it has both
abbrev pub third : ℕ → ℕ → List ℕ → Option ℕ
third e x w = if has w e && has w x then find (λ y. not (y == e) && not (y == x)) w else None

-- triangle i has the face of e and x
abbrev pub HasFace : List (List ℕ) → ℕ → ℕ → ℕ → Type 0
HasFace ws e x i = (i < length ws) × (has (slice_index_or ws i []) e ≡ true) × (has (slice_index_or ws i []) x ≡ true)

-- triangle i is not the present one, has the face of e and x, and has y as its third edge
pub record IsNext (e x : ℕ) (present : Option ℕ) (ws : List (List ℕ)) (i y : ℕ) : Type 0 where
  pub inside : i < length ws
  pub other : present ≢ Some i
  pub is_third : third e x (slice_index_or ws i []) ≡ Some y

-- all but the present triangle have no face of e and x
abbrev pub IsLast : ℕ → ℕ → Option ℕ → List (List ℕ) → Type 0
IsLast e x present ws = (i : ℕ) → i < length ws → present ≢ Some i → third e x (slice_index_or ws i []) ≡ None

-- each triangle has three different edges, and of three triangles with one face at e two are the same
pub record SharesByTwo (e : ℕ) (ws : List (List ℕ)) : Type 0 where
  pub long : All (λ w. length w ≡ 3) ws
  pub distinct : All (λ w. is_distinct w ≡ true) ws
  pub two : (x i j k : ℕ) → x ≢ e → HasFace ws e x i → HasFace ws e x j → HasFace ws e x k → (i ≡ j) ⊎ ((i ≡ k) ⊎ (j ≡ k))

-- at most one triangle has the face of e and x
abbrev pub IsFree : ℕ → ℕ → List (List ℕ) → Type 0
IsFree e x ws = (i j : ℕ) → HasFace ws e x i → HasFace ws e x j → i ≡ j

-- in some order the triangles at e, all of them, form a path from the face of e and x to a face in facet f
abbrev pub reaches : Kind → ℕ → ℕ → ℕ → List (List ℕ) → Bool
reaches kind e f x ws = list_any (goes_on kind 3 e f x) (orders_of (length (others_at e ws)) (others_at e ws))

-- the face at which each path from the face of e and x through all triangles at e ends, or that there is no such path
abbrev pub TellsEnd : ℕ → ℕ → List (List ℕ) → Option ℕ → Type 0
TellsEnd e x ws (Some y) = (kind : Kind) (f : ℕ) → reaches kind e f x ws ≡ (edge_in_facet kind 3 f e && edge_in_facet kind 3 f y)
TellsEnd e x ws None = (kind : Kind) (f : ℕ) → reaches kind e f x ws ≡ false

-- what an edge of a cell of three dimensions and triangles are, where each face inside the cell is in two triangles and each in a facet is in one
pub record SuitsEdge (kind : Kind) (e : ℕ) (ws : List (List ℕ)) : Type 0 where
  pub is_edge : e < edge_count kind 3
  pub shares : SharesByTwo e ws
  pub outer : (f x : ℕ) → f < facet_count kind 3 → x ≢ e → edge_in_facet kind 3 f e ≡ true → edge_in_facet kind 3 f x ≡ true → IsFree e x ws
  pub some : 0 < length (others_at e ws)

-- two facets that have edge e, and the sets of their edges
pub record SuitsPair (kind : Kind) (f g first second e : ℕ) : Type 0 where
  pub first_is_facet : f < facet_count kind 3
  pub first_has : edge_in_facet kind 3 f e ≡ true
  pub first_members : (x : ℕ) → x < edge_count kind 3 → is_set first x ≡ edge_in_facet kind 3 f x
  pub second_has : edge_in_facet kind 3 g e ≡ true
  pub second_members : (x : ℕ) → x < edge_count kind 3 → is_set second x ≡ edge_in_facet kind 3 g x

-- ---- what the answers tell

-- none of the facets from one number up to another has the edge
abbrev pub NoneHas : List ℕ → ℕ → ℕ → ℕ → Type 0
NoneHas facets e from to = (i : ℕ) → from ≤ i → i < to → is_set (slice_index facets i) e ≡ false

-- a number is below each bound of the edges of the triangles
abbrev pub IsBoundedBy : List (List ℕ) → ℕ → Type 0
IsBoundedBy ws y = (m : ℕ) → All (λ w. All (λ e. e < m) w) ws → y < m

-- the answer is that of the path rule, in each cell and label, where these are the sets of the edges of the facets and of the bipolar edges, and the
-- tuples keep the rule of bipolar edges and the rule of faces
abbrev pub TellsPathRule : ℕ → List ℕ → ℕ → List (List ℕ) → Bool → Type 0
TellsPathRule d facets bipolar ws answer =
    (kind : Kind) (label : ℕ) → SuitsFacets kind d facets ws → Suits kind d label bipolar ws → rule_edges kind d label ws ≡ true
    → rule_faces kind d ws ≡ true → answer ≡ rule_path kind d label ws

-- the answer is whether the triangles at an edge form a path, where these are the sets of the edges of the facets
abbrev pub TellsPathAt : List ℕ → ℕ → List (List ℕ) → Bool → Type 0
TellsPathAt facets e ws answer = (kind : Kind) → SuitsFacets kind 3 facets ws → SuitsEdge kind e ws → answer ≡ is_path kind 3 e ws

-- the answer is whether the triangles at an edge lead from one to the other of two facets, of which these are the sets of edges
abbrev pub TellsLead : ℕ → ℕ → ℕ → List (List ℕ) → Bool → Type 0
TellsLead first second e ws answer =
    (kind : Kind) (f g : ℕ) → All (IsTuple kind 3) ws → SuitsPair kind f g first second e → SuitsEdge kind e ws
    → answer ≡ list_any (leads kind 3 e f g) (orders_of (length (others_at e ws)) (others_at e ws))

-- the answer is whether a path from the face of e and x ends at a face in a facet that has e, of which this is the set of edges
abbrev pub TellsReach : ℕ → ℕ → ℕ → List (List ℕ) → Bool → Type 0
TellsReach facet e x ws answer =
    (kind : Kind) (f : ℕ) → All (IsTuple kind 3) ws → 0 < length (others_at e ws) → edge_in_facet kind 3 f e ≡ true
    → ((y : ℕ) → y < edge_count kind 3 → is_set facet y ≡ edge_in_facet kind 3 f y) → SharesByTwo e ws → IsFree e x ws
    → answer ≡ reaches kind e f x ws
