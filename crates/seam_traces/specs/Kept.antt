-- What is kept of the labels of a table, for each facet of the cell and each pattern on it.
use Rattle.std.specs.Prelude.{◌≡◌, ◌≢◌, ◌⊎◌, ◌↔◌, ℕ, ◌^◌, ◌<◌, ◌≤◌, Bool, IsTrue, Option, Some, None, List, [], map, length, All, slice_index_or}
use Rattle.std.specs.Prelude.{if◌then◌else◌}
use Rattle.iso_model.specs.declared.Kind.{Kind}
use Rattle.iso_model.specs.Cells.{facet_count, facet_corners, facet_edges, label_count}
use Rattle.iso_model.specs.Tables.{Table, entry_of}
use Rattle.face_tallies.specs.declared.faces.FaceTally.{FaceTally}
use Rattle.face_tallies.specs.Tallies.{AreTallies}
use Rattle.seam_traces.specs.declared.facets.Facet.{Facet}
use Rattle.seam_traces.specs.declared.facets.Seen.{Seen}
use Rattle.seam_traces.specs.declared.facets.Seen.TheVariants.{Never, Alike, Unlike}
use Rattle.seam_traces.specs.Traces.{places, pattern, trace}
use Rattle.seam_traces.specs.TallyLists.{tallies_in, tallies_across, TellTrace}
use Rattle.lists.specs.Bits.{set_number}

-- ---- one facet

-- how the labels with a pattern compare
abbrev pub seen_at : Facet → ℕ → Seen
seen_at facet p = slice_index_or facet.seen.items p Never

-- the tallies that are kept of a pattern
abbrev pub tallies_at : Facet → ℕ → List FaceTally
tallies_at facet p = slice_index_or (map (λ kept. kept.items) facet.traces.items) p []

-- there are at most 32 corners and edges, with numbers below 32; the set is that of the edges; and each pattern has its place
pub record IsSound (facet : Facet) : Type 0 where
  pub few_corners : length facet.corners.items ≤ 32
  pub corners : All (λ k. k < 32) facet.corners.items
  pub few_edges : length facet.edges.items ≤ 32
  pub edges : All (λ e. e < 32) facet.edges.items
  pub set : facet.edge_set ≡ set_number facet.edges.items
  pub seen : length facet.seen.items ≡ 2 ^ length facet.corners.items
  pub traces : length facet.traces.items ≡ 2 ^ length facet.corners.items

-- the places of a label on a facet
abbrev pub pattern_on : Facet → ℕ → ℕ
pattern_on facet label = places facet.corners.items label

-- the tallies of the faces in a facet
abbrev pub tallies_on : Facet → List FaceTally → List FaceTally
tallies_on facet tallies = tallies_in facet.edges.items tallies

-- what is kept of a pattern before and after one more label with it, which has these tallies in the facet: the first one's are kept, and the later
-- ones' compared with them, until one differs
abbrev pub TakesTallies : ℕ → List FaceTally → Seen → List FaceTally → Seen → List FaceTally → Type 0
TakesTallies label more Never kept after now = (after ≡ Alike label) × (now ≡ more)
TakesTallies label more (Alike first) kept after now =
    (now ≡ kept) × (((after ≡ Alike first) × (kept ≡ more)) ⊎ ((after ≡ Unlike first label) × (kept ≢ more)))
TakesTallies label more (Unlike first other) kept after now = (after ≡ Unlike first other) × (now ≡ kept)

-- a facet takes one more label: at the label's pattern its tallies are taken, and all else stays
pub record TakesLabel (label : ℕ) (tallies : List FaceTally) (old new : Facet) : Type 0 where
  pub corners : new.corners.items ≡ old.corners.items
  pub edges : new.edges.items ≡ old.edges.items
  pub set : new.edge_set ≡ old.edge_set
  pub seen : length new.seen.items ≡ length old.seen.items
  pub traces : length new.traces.items ≡ length old.traces.items
  pub here :
      TakesTallies label (tallies_on old tallies) (seen_at old (pattern_on old label)) (tallies_at old (pattern_on old label))
      (seen_at new (pattern_on old label)) (tallies_at new (pattern_on old label))
  pub others : (p : ℕ) → p ≢ pattern_on old label → (seen_at new p ≡ seen_at old p) × (tallies_at new p ≡ tallies_at old p)

-- each facet takes one more label
pub record EachTakesLabel (label : ℕ) (tallies : List FaceTally) (old new : List Facet) : Type 0 where
  pub count : length new ≡ length old
  pub each : (f : ℕ) (x : Facet) → f < length old → TakesLabel label tallies (slice_index_or old f x) (slice_index_or new f x)

-- how the labels with a pattern compare, where some compare as the first says and later ones as the second, and the test says whether the first labels of
-- both have one trace
abbrev pub joined : Seen → Seen → Bool → Seen
joined Never later same = later
joined (Alike first) Never same = Alike first
joined (Alike first) (Alike next) same = if same then Alike first else Unlike first next
joined (Alike first) (Unlike next other) same = Unlike first (if same then other else next)
joined (Unlike first other) later same = Unlike first other

-- the tallies that are kept then: those of the first label, if there is one
abbrev pub kept_of : Seen → List FaceTally → List FaceTally → List FaceTally
kept_of Never kept more = more
kept_of (Alike first) kept more = kept
kept_of (Unlike first other) kept more = kept

-- what is kept of a pattern, where some labels gave the first and later ones the second
pub record JoinsTallies (seen : Seen) (kept : List FaceTally) (later : Seen) (more : List FaceTally) (after : Seen) (now : List FaceTally) : Type 0 where
  pub same : Bool
  pub is_same : IsTrue same ↔ (kept ≡ more)
  pub seen_is : after ≡ joined seen later same
  pub kept_is : now ≡ kept_of seen kept more

-- two facets have as many places for patterns
pub record HasSamePatterns (facet other : Facet) : Type 0 where
  pub traces : length facet.traces.items ≡ length facet.seen.items
  pub other_seen : length other.seen.items ≡ length facet.seen.items
  pub other_traces : length other.traces.items ≡ length facet.seen.items

-- two lists of facets do, one by one
pub record HaveSamePatterns (facets others : List Facet) : Type 0 where
  pub count : length others ≡ length facets
  pub each : (f : ℕ) (x : Facet) → f < length facets → HasSamePatterns (slice_index_or facets f x) (slice_index_or others f x)

-- a facet takes what was kept from later labels of the pattern n; all else stays, and of the other patterns what is kept of the later labels stays too
pub record TakesPattern (n : ℕ) (old later new rest : Facet) : Type 0 where
  pub corners : new.corners.items ≡ old.corners.items
  pub edges : new.edges.items ≡ old.edges.items
  pub set : new.edge_set ≡ old.edge_set
  pub seen : length new.seen.items ≡ length old.seen.items
  pub traces : length new.traces.items ≡ length old.traces.items
  pub rest_seen : rest.seen.items ≡ later.seen.items
  pub rest_traces : length rest.traces.items ≡ length later.traces.items
  pub here : JoinsTallies (seen_at old n) (tallies_at old n) (seen_at later n) (tallies_at later n) (seen_at new n) (tallies_at new n)
  pub others :
      (p : ℕ) → p ≢ n → (seen_at new p ≡ seen_at old p) × (tallies_at new p ≡ tallies_at old p) × (tallies_at rest p ≡ tallies_at later p)

-- a facet takes what was kept from later labels, pattern by pattern
pub record TakesLater (old later new : Facet) : Type 0 where
  pub corners : new.corners.items ≡ old.corners.items
  pub edges : new.edges.items ≡ old.edges.items
  pub set : new.edge_set ≡ old.edge_set
  pub seen : length new.seen.items ≡ length old.seen.items
  pub traces : length new.traces.items ≡ length old.traces.items
  pub each :
      (p : ℕ) → p < length old.seen.items
      → JoinsTallies (seen_at old p) (tallies_at old p) (seen_at later p) (tallies_at later p) (seen_at new p) (tallies_at new p)

-- each facet takes what the same one kept from later labels
pub record EachTakesLater (old later new : List Facet) : Type 0 where
  pub count : length new ≡ length old
  pub each : (f : ℕ) (x : Facet) → f < length old → TakesLater (slice_index_or old f x) (slice_index_or later f x) (slice_index_or new f x)

-- the least label with a pattern whose trace is not the one across a seam of these tallies, as what is kept tells it
abbrev pub IsAgainst : Bool → List FaceTally → Seen → List FaceTally → Option ℕ → Type 0
IsAgainst same here Never kept answer = answer ≡ None
IsAgainst same here (Alike first) kept answer =
    ((kept ≡ tallies_across same here) × (answer ≡ None)) ⊎ ((kept ≢ tallies_across same here) × (answer ≡ Some first))
IsAgainst same here (Unlike first other) kept answer =
    ((kept ≡ tallies_across same here) × (answer ≡ Some other)) ⊎ ((kept ≢ tallies_across same here) × (answer ≡ Some first))

-- what the kept tallies of one facet say of a label by its pattern and its tallies on another
abbrev pub IsAgainstAt : Bool → ℕ → List FaceTally → Facet → Facet → Option ℕ → Type 0
IsAgainstAt same label tallies here there answer =
    IsAgainst same (tallies_on here tallies) (seen_at there (pattern_on here label)) (tallies_at there (pattern_on here label)) answer

-- ---- the facets of a cell, and the labels of a table

-- a facet has the corners and the edges of one of the cell
pub record IsFacetOf (kind : Kind) (d f : ℕ) (facet : Facet) : Type 0 where
  pub corners : facet.corners.items ≡ facet_corners kind d f
  pub edges : facet.edges.items ≡ facet_edges kind d f
  pub set : facet.edge_set ≡ set_number (facet_edges kind d f)
  pub seen : length facet.seen.items ≡ 2 ^ length (facet_corners kind d f)
  pub traces : length facet.traces.items ≡ 2 ^ length (facet_corners kind d f)

-- the facets of the cell, in their order
pub record AreFacetsOf (kind : Kind) (d : ℕ) (facets : List Facet) : Type 0 where
  pub count : length facets ≡ facet_count kind d
  pub each : (f : ℕ) (x : Facet) → f < facet_count kind d → IsFacetOf kind d f (slice_index_or facets f x)

-- the first label from `low` on with pattern p on facet f, and the kept tallies, which tell of its trace
pub record IsFirstWith (t : Table) (low f p first : ℕ) (kept : List FaceTally) : Type 0 where
  pub from : low ≤ first
  pub has_pattern : pattern t.kind t.dimension f first ≡ p
  pub tells : TellTrace t.kind t.dimension f (entry_of t first) kept
  pub none_before : (m : ℕ) → low ≤ m → m < first → pattern t.kind t.dimension f m ≢ p

-- the labels from `low` on and below n with pattern p on facet f all have the trace of a label
abbrev pub HaveTraceOf : Table → ℕ → ℕ → ℕ → ℕ → ℕ → Type 0
HaveTraceOf t low n f p first =
    (m : ℕ) → low ≤ m → m < n → pattern t.kind t.dimension f m ≡ p
    → trace t.kind t.dimension f (entry_of t m) ≡ trace t.kind t.dimension f (entry_of t first)

-- the labels from `low` on and below n with pattern p on facet f all have the trace of the first of them
pub record HaveTrace (t : Table) (low n f p first : ℕ) (kept : List FaceTally) : Type 0 where
  pub is_label : first < n
  pub is_first : IsFirstWith t low f p first kept
  pub alike : HaveTraceOf t low n f p first

-- of the labels from `low` on and below n with pattern p on facet f, `other` is the first that has another trace than the first of them
pub record HaveTwoTraces (t : Table) (low n f p first other : ℕ) (kept : List FaceTally) : Type 0 where
  pub is_label : first < n
  pub is_first : IsFirstWith t low f p first kept
  pub other_from : low ≤ other
  pub other_label : other < n
  pub other_pattern : pattern t.kind t.dimension f other ≡ p
  pub differ : trace t.kind t.dimension f (entry_of t other) ≢ trace t.kind t.dimension f (entry_of t first)
  pub alike_before : HaveTraceOf t low other f p first

-- what is kept of a pattern tells how the labels from `low` on and below n with this pattern compare
abbrev pub TellsPattern : Table → ℕ → ℕ → ℕ → ℕ → Seen → List FaceTally → Type 0
TellsPattern t low n f p Never kept = (m : ℕ) → low ≤ m → m < n → pattern t.kind t.dimension f m ≢ p
TellsPattern t low n f p (Alike first) kept = HaveTrace t low n f p first kept
TellsPattern t low n f p (Unlike first other) kept = HaveTwoTraces t low n f p first other kept

-- what is kept of each pattern on each facet tells how the labels from `low` on and below n of a table compare
abbrev pub TellLabels : Table → ℕ → ℕ → List Facet → Type 0
TellLabels t low n facets =
    (f p : ℕ) (x : Facet) → f < facet_count t.kind t.dimension → p < 2 ^ length (facet_corners t.kind t.dimension f)
    → TellsPattern t low n f p (seen_at (slice_index_or facets f x) p) (tallies_at (slice_index_or facets f x) p)

-- the same of the labels from `low` on and below n of a table of a kind and a dimension
pub record TellRun (kind : Kind) (d : ℕ) (t : Table) (low n : ℕ) (facets : List Facet) : Type 0 where
  pub kind_is : t.kind ≡ kind
  pub dimension_is : t.dimension ≡ d
  pub labels : TellLabels t low n facets

-- the same of all labels
abbrev pub TellTable : Kind → ℕ → Table → List Facet → Type 0
TellTable kind d t facets = TellRun kind d t 0 (label_count kind d) facets

-- where the first of three tell of a run of labels, and the second of the run behind it, the third tell of both
abbrev pub JoinRuns : Kind → ℕ → List Facet → List Facet → List Facet → Type 0
JoinRuns kind d first later both =
    (t : Table) (low middle high : ℕ) → low ≤ middle → middle ≤ high → TellRun kind d t low middle first → TellRun kind d t middle high later
    → TellRun kind d t low high both

-- what holds of each table in which a label has these tallies, and of whose labels the facets tell
abbrev pub InTables : Kind → ℕ → List Facet → ℕ → List FaceTally → (Table → Type 0) → Type 0
InTables kind d facets label tallies P = (t : Table) → TellTable kind d t facets → AreTallies d (entry_of t label) tallies → P t
