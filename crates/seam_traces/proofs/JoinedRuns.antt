-- What is kept of two runs of labels, of which the second begins where the first ends, tells how the labels of both compare.
use Rattle.std.specs.Prelude.{◌≡◌, ℕ, ◌<◌, ◌≤◌, Bool, true, false, List}
use Rattle.std.proofs.Common.{get_or, refl, sym, ◌∙◌, subst, arith, inl, inr}
use Rattle.std.proofs.lemmas.Bool.{cases_lt, false≢true}
use Rattle.iso_model.specs.declared.Kind.{Kind}
use Rattle.iso_model.specs.Cells.{HasDimension, facet_count}
use Rattle.iso_model.specs.Tables.{Table, entry_of}
use Rattle.iso_model.specs.Dimensions.{IsDimension}
use Rattle.face_tallies.specs.declared.faces.FaceTally.{FaceTally}
use Rattle.seam_traces.specs.declared.facets.Facet.{Facet}
use Rattle.seam_traces.specs.declared.facets.Seen.{Seen}
use Rattle.seam_traces.specs.declared.facets.Seen.TheVariants.{Never, Alike, Unlike}
use Rattle.seam_traces.specs.Traces.{pattern, trace}
use Rattle.seam_traces.specs.Kept.{seen_at, tallies_at, joined, kept_of, JoinsTallies, EachTakesLater, HaveSamePatterns}
use Rattle.seam_traces.specs.Kept.{AreFacetsOf, IsFirstWith, HaveTrace, HaveTwoTraces, TellsPattern, JoinRuns}
use Rattle.seam_traces.proofs.TraceTables.{same_traces}

-- ---- one pattern

-- no label of the first run has the pattern
first_behind : (t : Table) (low middle f p first : ℕ) (more : List FaceTally) → low ≤ middle
    → ((m : ℕ) → low ≤ m → m < middle → pattern t.kind t.dimension f m ≡ p → ⊥) → IsFirstWith t middle f p first more
    → IsFirstWith t low f p first more
first_behind t low middle f p first more run none h = record {
  from = let from = h.from in omega arith;
  has_pattern = h.has_pattern;
  tells = h.tells;
  none_before = λ m from less e. elim (cases_lt m middle) [ inl before ↦ none m from before e | inr behind ↦ h.none_before m behind less e ];
}

behind_none : (t : Table) (low middle high f p : ℕ) (later : Seen) (kept more : List FaceTally) → low ≤ middle
    → TellsPattern t low middle f p Never kept → TellsPattern t middle high f p later more → TellsPattern t low high f p later more
behind_none t low middle high f p Never kept more run none h = λ m from less e. elim (cases_lt m middle) [
  | inl before ↦ none m from before e
  | inr behind ↦ h m behind less e
]
behind_none t low middle high f p (Alike first) kept more run none h = record {
  is_label = h.is_label;
  is_first = first_behind t low middle f p first more run none h.is_first;
  alike = λ m from less e. elim (cases_lt m middle) [ inl before ↦ absurd (none m from before e) | inr behind ↦ h.alike m behind less e ];
}
behind_none t low middle high f p (Unlike first other) kept more run none h = record {
  is_label = h.is_label;
  is_first = first_behind t low middle f p first more run none h.is_first;
  other_from = let from = h.other_from in omega arith;
  other_label = h.other_label;
  other_pattern = h.other_pattern;
  differ = h.differ;
  alike_before = λ m from less e. elim (cases_lt m middle) [ inl before ↦ absurd (none m from before e) | inr behind ↦ h.alike_before m behind less e ];
}

-- the first labels of both runs have different traces
two_firsts : (t : Table) (low middle high f p first next : ℕ) (kept more : List FaceTally) → low ≤ middle → middle ≤ high
    → HaveTrace t low middle f p first kept → next < high → IsFirstWith t middle f p next more
    → (trace t.kind t.dimension f (entry_of t next) ≡ trace t.kind t.dimension f (entry_of t first) → ⊥)
    → HaveTwoTraces t low high f p first next kept
two_firsts t low middle high f p first next kept more run further h less is_next differ = record {
  is_label = let label = h.is_label in omega arith;
  is_first = h.is_first;
  other_from = let from = is_next.from in omega arith;
  other_label = less;
  other_pattern = is_next.has_pattern;
  differ = differ;
  alike_before = λ m from before e. elim (cases_lt m middle) [
    | inl front ↦ h.alike m from front e
    | inr behind ↦ absurd (is_next.none_before m behind before e)
  ];
}

-- the first labels of both runs have one trace
one_first : (t : Table) (low middle high f p first next : ℕ) (kept more : List FaceTally) → middle ≤ high
    → HaveTrace t low middle f p first kept → HaveTrace t middle high f p next more
    → trace t.kind t.dimension f (entry_of t next) ≡ trace t.kind t.dimension f (entry_of t first)
    → HaveTrace t low high f p first kept
one_first t low middle high f p first next kept more further h l same = record {
  is_label = let label = h.is_label in omega arith;
  is_first = h.is_first;
  alike = λ m from less e. elim (cases_lt m middle) [ inl front ↦ h.alike m from front e | inr behind ↦ l.alike m behind less e ∙ same ];
}

one_first_two : (t : Table) (low middle high f p first next other : ℕ) (kept more : List FaceTally) → low ≤ middle → middle ≤ high
    → HaveTrace t low middle f p first kept → HaveTwoTraces t middle high f p next other more
    → trace t.kind t.dimension f (entry_of t next) ≡ trace t.kind t.dimension f (entry_of t first)
    → HaveTwoTraces t low high f p first other kept
one_first_two t low middle high f p first next other kept more run further h l same = record {
  is_label = let label = h.is_label in omega arith;
  is_first = h.is_first;
  other_from = let from = l.other_from in omega arith;
  other_label = l.other_label;
  other_pattern = l.other_pattern;
  differ = λ e. l.differ (e ∙ sym same);
  alike_before = λ m from before e. elim (cases_lt m middle) [
    | inl front ↦ h.alike m from front e
    | inr behind ↦ l.alike_before m behind before e ∙ same
  ];
}

-- the tallies of the first label stay, and the labels behind are judged against it
alike_joined : (t : Table) (low middle high f p first : ℕ) (later : Seen) (b : Bool) (kept more : List FaceTally) → IsDimension t.dimension
    → HasDimension t.kind t.dimension → low ≤ middle → middle ≤ high → (b ≡ true → kept ≡ more) → (kept ≡ more → b ≡ true)
    → HaveTrace t low middle f p first kept → TellsPattern t middle high f p later more → TellsPattern t low high f p (joined (Alike first) later b) kept
alike_joined t low middle high f p first Never b kept more is has run further one two h l = record {
  is_label = let label = h.is_label in omega arith;
  is_first = h.is_first;
  alike = λ m from less e. elim (cases_lt m middle) [ inl front ↦ h.alike m from front e | inr behind ↦ absurd (l m behind less e) ];
}
alike_joined t low middle high f p first (Alike next) true kept more is has run further one two h l =
    one_first t low middle high f p first next kept more further h l
    ((same_traces t f next first kept more is has h.is_first.tells l.is_first.tells).0 (one refl))
alike_joined t low middle high f p first (Alike next) false kept more is has run further one two h l =
    two_firsts t low middle high f p first next kept more run further h l.is_label l.is_first
    (λ e. false≢true (two ((same_traces t f next first kept more is has h.is_first.tells l.is_first.tells).1 e)))
alike_joined t low middle high f p first (Unlike next other) true kept more is has run further one two h l =
    one_first_two t low middle high f p first next other kept more run further h l
    ((same_traces t f next first kept more is has h.is_first.tells l.is_first.tells).0 (one refl))
alike_joined t low middle high f p first (Unlike next other) false kept more is has run further one two h l =
    two_firsts t low middle high f p first next kept more run further h l.is_label l.is_first
    (λ e. false≢true (two ((same_traces t f next first kept more is has h.is_first.tells l.is_first.tells).1 e)))

still_unlike : (t : Table) (low middle high f p first other : ℕ) (kept : List FaceTally) → middle ≤ high
    → HaveTwoTraces t low middle f p first other kept → HaveTwoTraces t low high f p first other kept
still_unlike t low middle high f p first other kept further h = record {
  is_label = let label = h.is_label in omega arith;
  is_first = h.is_first;
  other_from = h.other_from;
  other_label = let label = h.other_label in omega arith;
  other_pattern = h.other_pattern;
  differ = h.differ;
  alike_before = h.alike_before;
}

joined_tells : (t : Table) (low middle high f p : ℕ) (seen later : Seen) (b : Bool) (kept more : List FaceTally) → IsDimension t.dimension
    → HasDimension t.kind t.dimension → low ≤ middle → middle ≤ high → (b ≡ true → kept ≡ more) → (kept ≡ more → b ≡ true)
    → TellsPattern t low middle f p seen kept → TellsPattern t middle high f p later more
    → TellsPattern t low high f p (joined seen later b) (kept_of seen kept more)
joined_tells t low middle high f p Never later b kept more is has run further one two h l = behind_none t low middle high f p later kept more run h l
joined_tells t low middle high f p (Alike first) later b kept more is has run further one two h l =
    alike_joined t low middle high f p first later b kept more is has run further one two h l
joined_tells t low middle high f p (Unlike first other) later b kept more is has run further one two h l =
    still_unlike t low middle high f p first other kept further h

joined_pattern : (t : Table) (low middle high f p : ℕ) (seen later after : Seen) (kept more now : List FaceTally) → IsDimension t.dimension
    → HasDimension t.kind t.dimension → low ≤ middle → middle ≤ high → JoinsTallies seen kept later more after now
    → TellsPattern t low middle f p seen kept → TellsPattern t middle high f p later more → TellsPattern t low high f p after now
joined_pattern t low middle high f p seen later after kept more now is has run further joins h l =
    subst (λ s. TellsPattern t low high f p s now) (sym joins.seen_is)
    (subst (λ k. TellsPattern t low high f p (joined seen later joins.same) k) (sym joins.kept_is)
    (joined_tells t low middle high f p seen later joins.same kept more is has run further joins.is_same.0 joins.is_same.1 h l))

-- ---- all facets

pub joined_runs : (kind : Kind) (d : ℕ) (old later new : List Facet) → IsDimension d → HasDimension kind d → AreFacetsOf kind d old
    → EachTakesLater old later new → JoinRuns kind d old later new
joined_runs kind d old later new is has are takes t low middle high run further one two = record {
  kind_is = one.kind_is;
  dimension_is = one.dimension_is;
  labels = λ f p x in_f in_p.
      let k = one.kind_is in
      let e = one.dimension_is in
      let are' : AreFacetsOf t.kind t.dimension old =
      subst (λ b. AreFacetsOf b t.dimension old) (sym k) (subst (λ b. AreFacetsOf kind b old) (sym e) are) in
      let is' : IsDimension t.dimension = subst IsDimension (sym e) is in
      let has' : HasDimension t.kind t.dimension = subst (λ b. HasDimension b t.dimension) (sym k) (subst (λ b. HasDimension kind b) (sym e) has) in
      let facet = are'.each f x in_f in
      let taken = takes.each f x (let c = are'.count in omega arith) in
      joined_pattern t low middle high f p (seen_at (get_or old f x) p) (seen_at (get_or later f x) p) (seen_at (get_or new f x) p)
      (tallies_at (get_or old f x) p) (tallies_at (get_or later f x) p) (tallies_at (get_or new f x) p) is' has' run further
      (taken.each p (subst (λ n. p < n) (sym facet.seen) in_p)) (one.labels f p x in_f in_p) (two.labels f p x in_f in_p);
}

-- facets that take what was kept of later labels are those of the cell
pub facets_joined : (kind : Kind) (d : ℕ) (old later new : List Facet) → AreFacetsOf kind d old → EachTakesLater old later new → AreFacetsOf kind d new
facets_joined kind d old later new are takes = record {
  count = takes.count ∙ are.count;
  each = λ f x less.
      let taken = takes.each f x (let n = are.count in omega arith) in
      let facet = are.each f x less in
      record {
        corners = taken.corners ∙ facet.corners;
        edges = taken.edges ∙ facet.edges;
        set = taken.set ∙ facet.set;
        seen = taken.seen ∙ facet.seen;
        traces = taken.traces ∙ facet.traces;
      };
}

-- two lists of the facets of one cell
pub same_patterns : (kind : Kind) (d : ℕ) (facets others : List Facet) → AreFacetsOf kind d facets → AreFacetsOf kind d others
    → HaveSamePatterns facets others
same_patterns kind d facets others one two = record {
  count = two.count ∙ sym one.count;
  each = λ f x less.
      let inside : f < facet_count kind d = let n = one.count in omega arith in
      let a = one.each f x inside in
      let b = two.each f x inside in
      record { traces = a.traces ∙ sym a.seen; other_seen = b.seen ∙ sym a.seen; other_traces = b.traces ∙ sym a.seen };
}
