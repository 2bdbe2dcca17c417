-- What is kept of the labels of a table tells how they compare, and so whether a label keeps the rule of seams.
use Rattle.std.specs.Prelude.{◌≡◌, ◌↔◌, ℕ, ℤ, zero, suc, ◌+◌, ◌*◌, ◌^◌, ◌<◌, ◌≤◌, Bool, true, false, List, [], ◌∷◌, map, filter, length, All}
use Rattle.std.specs.Prelude.{Option, slice_index_or}
use Rattle.std.proofs.Common.{get_or, refl, sym, ap, ◌∙◌, subst, arith, inl, inr}
use Rattle.std.proofs.lemmas.Bool.{cases_eq, cases_lt}
use Rattle.std.proofs.lemmas.Nat.{pow-add}
use Rattle.iso_model.specs.declared.Kind.{Kind}
use Rattle.lists.specs.Orders.{numbers}
use Rattle.iso_model.specs.Cells.{HasDimension, corner_count, edge_count, facet_count, corner_in_facet, edge_in_facet, facet_corners, label_count}
use Rattle.iso_model.specs.Seams.{Seam, corner_across}
use Rattle.iso_model.specs.CellLaws.{MeetsCorners, KeepsEdges}
use Rattle.iso_model.specs.Tables.{Table, entry_of}
use Rattle.iso_model.specs.Dimensions.{IsDimension}
use Rattle.face_tallies.specs.declared.faces.FaceTally.{FaceTally}
use Rattle.face_tallies.specs.Tallies.{AreTallies}
use Rattle.seam_traces.specs.declared.facets.Facet.{Facet}
use Rattle.seam_traces.specs.declared.facets.Seen.{Seen}
use Rattle.seam_traces.specs.declared.facets.Seen.TheVariants.{Never, Alike, Unlike}
use Rattle.seam_traces.specs.Traces.{number_of_bits, places, pattern, trace, trace_across}
use Rattle.seam_traces.specs.TallyLists.{tallies_in, tallies_across, TellTrace}
use Rattle.seam_traces.specs.declared.seams.FacetSeam.{FacetSeam}
use Rattle.seam_traces.specs.SeamLists.{seam_of, seams_of, IsSeamOf, AreSeamsOf}
use Rattle.seam_traces.specs.Kept.{seen_at, tallies_at, IsSound, pattern_on, tallies_on, TakesTallies, TakesLabel, EachTakesLabel, IsAgainst, IsAgainstAt}
use Rattle.seam_traces.specs.Kept.{IsFacetOf}
use Rattle.seam_traces.specs.Kept.{AreFacetsOf, IsFirstWith, HaveTrace, HaveTwoTraces, TellsPattern, TellLabels, TellTable}
use Rattle.seam_traces.proofs.FacetLists.{range_in, few_edges, members_few, face_places, seam_places}
use Rattle.seam_traces.proofs.KeptTraces.{traces_correspond, tallies_correspond}
use Rattle.seam_traces.proofs.KeptSteps.{across_same}
use Rattle.seam_traces.proofs.SeamRule.{Corresponds, IsLeastAgainst, TellsAgainst, TellsForwards, TellsBackwards, forwards, backwards}
use Rattle.lists.specs.Bits.{is_set, set_number}
use Rattle.lists.proofs.MemberLaws.{from_filter, All-from_In}
use Rattle.iso_model.proofs.CellCounts.{few_corners}

-- ---- the facets of a cell

small_members : (p : ℕ → Bool) (n bound : ℕ) → n ≤ bound → All (λ k. k < bound) (filter p (numbers n))
small_members p n bound few =
    All-from_In (λ k. k < bound) (filter p (numbers n))
    (λ k i. let r = range_in 0 n k (from_filter p (numbers n) k i).0 in let high = r.1 in omega arith)

pub facet_sound : (kind : Kind) (d f : ℕ) (x : Facet) → IsDimension d → HasDimension kind d → IsFacetOf kind d f x → IsSound x
facet_sound kind d f x is has facet =
    let corners : corner_count kind d ≤ 32 = let few = few_corners kind d is has in omega arith in
    let edges : edge_count kind d ≤ 32 = few_edges kind d is has in
    record {
      few_corners =
          subst (λ (l : List ℕ). length l ≤ 32) (sym facet.corners)
          (let few = members_few (corner_in_facet kind f) (corner_count kind d) in omega arith);
      corners = subst (λ (l : List ℕ). All (λ k. k < 32) l) (sym facet.corners) (small_members (corner_in_facet kind f) (corner_count kind d) 32 corners);
      few_edges = subst (λ (l : List ℕ). length l ≤ 32) (sym facet.edges) (let few = members_few (edge_in_facet kind d f) (edge_count kind d) in omega arith);
      edges = subst (λ (l : List ℕ). All (λ k. k < 32) l) (sym facet.edges) (small_members (edge_in_facet kind d f) (edge_count kind d) 32 edges);
      set = facet.set ∙ ap set_number (sym facet.edges);
      seen = facet.seen ∙ ap (λ (l : List ℕ). 2 ^ length l) (sym facet.corners);
      traces = facet.traces ∙ ap (λ (l : List ℕ). 2 ^ length l) (sym facet.corners);
    }

pub facets_sound : (kind : Kind) (d : ℕ) (xs : List Facet) → IsDimension d → HasDimension kind d → AreFacetsOf kind d xs → All IsSound xs
facets_sound kind d xs is has are k x less = facet_sound kind d k (get_or xs k x) is has (are.each k x (let n = are.count in omega arith))

-- facets that take a label are those of the cell
facet_taken : (kind : Kind) (d f label : ℕ) (tallies : List FaceTally) (old new : Facet) → IsFacetOf kind d f old → TakesLabel label tallies old new
    → IsFacetOf kind d f new
facet_taken kind d f label tallies old new facet takes = record {
  corners = takes.corners ∙ facet.corners;
  edges = takes.edges ∙ facet.edges;
  set = takes.set ∙ facet.set;
  seen = takes.seen ∙ facet.seen;
  traces = takes.traces ∙ facet.traces;
}

pub facets_taken : (kind : Kind) (d label : ℕ) (tallies : List FaceTally) (old new : List Facet) → AreFacetsOf kind d old
    → EachTakesLabel label tallies old new → AreFacetsOf kind d new
facets_taken kind d label tallies old new are takes = record {
  count = takes.count ∙ are.count;
  each =
      λ f x less.
      facet_taken kind d f label tallies (get_or old f x) (get_or new f x) (are.each f x less)
      (takes.each f x (let n = are.count in omega arith));
}

-- ---- one more label

straight : (cs : List (ℕ × ℤ)) → trace_across false cs ≡ cs
straight [] = refl
straight (c ∷ cs) = ap (λ l. c ∷ l) (straight cs)

have_more : (t : Table) (low n f p first : ℕ) (kept : List FaceTally) → HaveTrace t low n f p first kept
    → (pattern t.kind t.dimension f n ≡ p → trace t.kind t.dimension f (entry_of t n) ≡ trace t.kind t.dimension f (entry_of t first))
    → HaveTrace t low (n + 1) f p first kept
have_more t low n f p first kept h last = record {
  is_label = let less = h.is_label in omega arith;
  is_first = h.is_first;
  alike = λ m from less e. elim (cases_lt m n) [
    | inl before ↦ h.alike m from before e
    | inr behind ↦
        let same : n ≡ m = omega arith in
        subst (λ k. trace t.kind t.dimension f (entry_of t k) ≡ trace t.kind t.dimension f (entry_of t first)) same
        (last (subst (λ k. pattern t.kind t.dimension f k ≡ p) (sym same) e))
  ];
}

two_more : (t : Table) (low n f p first other : ℕ) (kept : List FaceTally) → HaveTwoTraces t low n f p first other kept
    → HaveTwoTraces t low (n + 1) f p first other kept
two_more t low n f p first other kept h = record {
  is_label = let less = h.is_label in omega arith;
  is_first = h.is_first;
  other_from = h.other_from;
  other_label = let less = h.other_label in omega arith;
  other_pattern = h.other_pattern;
  differ = h.differ;
  alike_before = h.alike_before;
}

-- a label with another pattern
tells_other : (t : Table) (low n f p : ℕ) (s : Seen) (kept : List FaceTally) → (pattern t.kind t.dimension f n ≡ p → ⊥) → TellsPattern t low n f p s kept
    → TellsPattern t low (n + 1) f p s kept
tells_other t low n f p Never kept other h = λ m from less e. elim (cases_lt m n) [
  | inl before ↦ h m from before e
  | inr behind ↦ let same : n ≡ m = omega arith in other (subst (λ k. pattern t.kind t.dimension f k ≡ p) (sym same) e)
]
tells_other t low n f p (Alike first) kept other h = have_more t low n f p first kept h (λ e. absurd (other e))
tells_other t low n f p (Unlike first second) kept other h = two_more t low n f p first second kept h

-- the trace of a label is that of the first one with its pattern exactly where their tallies are the same
pub same_traces : (t : Table) (f n first : ℕ) (kept more : List FaceTally) → IsDimension t.dimension → HasDimension t.kind t.dimension
    → TellTrace t.kind t.dimension f (entry_of t first) kept → TellTrace t.kind t.dimension f (entry_of t n) more
    → (kept ≡ more) ↔ (trace t.kind t.dimension f (entry_of t n) ≡ trace t.kind t.dimension f (entry_of t first))
same_traces t f n first kept more is has one two = (
  λ e. traces_correspond t.kind t.dimension f f is has false (entry_of t first) (entry_of t n) kept more refl one two (sym e ∙ sym (across_same kept))
      ∙ straight (trace t.kind t.dimension f (entry_of t first)),
  λ e. tallies_correspond t.kind t.dimension f f is has false (entry_of t n) (entry_of t first) more kept refl two one
      (sym e ∙ sym (straight (trace t.kind t.dimension f (entry_of t n))))
      ∙ across_same more,
)

-- a label with this pattern
tells_here : (t : Table) (low n f p : ℕ) (s s' : Seen) (kept kept' more : List FaceTally) → IsDimension t.dimension → HasDimension t.kind t.dimension
    → low ≤ n → pattern t.kind t.dimension f n ≡ p
    → TellTrace t.kind t.dimension f (entry_of t n) more → TakesTallies n more s kept s' kept' → TellsPattern t low n f p s kept
    → TellsPattern t low (n + 1) f p s' kept'
tells_here t low n f p Never s' kept kept' more is has run here tell takes h =
    let whole : HaveTrace t low (n + 1) f p n kept' = record {
      is_label = omega arith;
      is_first = record {
        from = run;
        has_pattern = here;
        tells = subst (TellTrace t.kind t.dimension f (entry_of t n)) (sym takes.1) tell;
        none_before = h;
      };
      alike = λ m from less e. elim (cases_lt m n) [
        | inl before ↦ absurd (h m from before e)
        | inr behind ↦ let same : m ≡ n = omega arith in ap (λ k. trace t.kind t.dimension f (entry_of t k)) same
      ];
    } in
    subst (λ b. TellsPattern t low (n + 1) f p b kept') (sym takes.0) whole
tells_here t low n f p (Alike first) s' kept kept' more is has run here tell takes h = elim takes.1 [
  | inl same ↦
      let traces = (same_traces t f n first kept more is has h.is_first.tells tell).0 same.1 in
      let whole : HaveTrace t low (n + 1) f p first kept = have_more t low n f p first kept h (λ e. traces) in
      subst (λ b. TellsPattern t low (n + 1) f p b kept') (sym same.0) (subst (λ l. HaveTrace t low (n + 1) f p first l) (sym takes.0) whole)
  | inr other ↦
      let whole : HaveTwoTraces t low (n + 1) f p first n kept = record {
        is_label = let less = h.is_label in omega arith;
        is_first = h.is_first;
        other_from = run;
        other_label = omega arith;
        other_pattern = here;
        differ = λ e. other.1 ((same_traces t f n first kept more is has h.is_first.tells tell).1 e);
        alike_before = h.alike;
      } in
      subst (λ b. TellsPattern t low (n + 1) f p b kept') (sym other.0) (subst (λ l. HaveTwoTraces t low (n + 1) f p first n l) (sym takes.0) whole)
]
tells_here t low n f p (Unlike first second) s' kept kept' more is has run here tell takes h =
    subst (λ b. TellsPattern t low (n + 1) f p b kept') (sym takes.0)
    (subst (λ l. HaveTwoTraces t low (n + 1) f p first second l) (sym takes.1) (two_more t low n f p first second kept h))

tells_facet : (t : Table) (low n f p : ℕ) (tallies : List FaceTally) (old new : Facet) → IsDimension t.dimension → HasDimension t.kind t.dimension
    → IsFacetOf t.kind t.dimension f old → low ≤ n
    → AreTallies t.dimension (entry_of t n) tallies → TakesLabel n tallies old new → TellsPattern t low n f p (seen_at old p) (tallies_at old p)
    → TellsPattern t low (n + 1) f p (seen_at new p) (tallies_at new p)
tells_facet t low n f p tallies old new is has facet run are takes h =
    let on : pattern_on old n ≡ pattern t.kind t.dimension f n = ap (λ (l : List ℕ). places l n) facet.corners in
    elim (cases_eq p (pattern_on old n)) [
      | inl e ↦
          let takes_here =
          subst (λ q. TakesTallies n (tallies_on old tallies) (seen_at old q) (tallies_at old q) (seen_at new q) (tallies_at new q)) (sym e)
          takes.here in
          let tell : TellTrace t.kind t.dimension f (entry_of t n) (tallies_on old tallies) =
          record { tallies = tallies; are_tallies = are; kept_are = ap (λ (l : List ℕ). tallies_in l tallies) facet.edges } in
          tells_here t low n f p (seen_at old p) (seen_at new p) (tallies_at old p) (tallies_at new p) (tallies_on old tallies) is has run (sym (e ∙ on)) tell
          takes_here h
      | inr other ↦
          let r = takes.others p other in
          subst (λ s. TellsPattern t low (n + 1) f p s (tallies_at new p)) (sym r.0) (subst (λ l. TellsPattern t low (n + 1) f p (seen_at old p) l) (sym r.1)
          (tells_other t low n f p (seen_at old p) (tallies_at old p) (λ e. other (sym (on ∙ e))) h))
    ]

pub tells_more : (kind : Kind) (d : ℕ) (t : Table) (low n : ℕ) (tallies : List FaceTally) (old new : List Facet) → t.kind ≡ kind → t.dimension ≡ d
    → IsDimension d → HasDimension kind d
    → AreFacetsOf kind d old → low ≤ n → AreTallies d (entry_of t n) tallies → EachTakesLabel n tallies old new → TellLabels t low n old
    → TellLabels t low (n + 1) new
tells_more kind d t low n tallies old new k e is has facets run are takes tell f p x in_f in_p =
    let facets' : AreFacetsOf t.kind t.dimension old =
    subst (λ b. AreFacetsOf b t.dimension old) (sym k) (subst (λ b. AreFacetsOf kind b old) (sym e) facets) in
    let is' : IsDimension t.dimension = subst IsDimension (sym e) is in
    let has' : HasDimension t.kind t.dimension = subst (λ b. HasDimension b t.dimension) (sym k) (subst (λ b. HasDimension kind b) (sym e) has) in
    let are' : AreTallies t.dimension (entry_of t n) tallies = subst (λ b. AreTallies b (entry_of t n) tallies) (sym e) are in
    tells_facet t low n f p tallies (get_or old f x) (get_or new f x) is' has' (facets'.each f x in_f) run are'
    (takes.each f x (let c = facets'.count in omega arith)) (tell f p x in_f in_p)

-- before the first label of a run
pub tells_none : (t : Table) (low : ℕ) (facets : List Facet) → All (λ (x : Facet). (p : ℕ) → seen_at x p ≡ Never) facets
    → length facets ≡ facet_count t.kind t.dimension → TellLabels t low low facets
tells_none t low facets never count f p x in_f in_p =
    subst (λ s. TellsPattern t low low f p s (tallies_at (get_or facets f x) p)) (sym (never f x (omega arith) p)) (λ m from less e. omega (arith, from, less))

-- ---- a label at the ends of a seam

first_against : (t : Table) (n f g : ℕ) (same : Bool) (label first : ℕ) (more kept : List FaceTally) → IsDimension t.dimension
    → HasDimension t.kind t.dimension
    → face_places t.kind t.dimension f ≡ face_places t.kind t.dimension g → TellTrace t.kind t.dimension f (entry_of t label) more
    → first < n → IsFirstWith t 0 g (pattern t.kind t.dimension f label) first kept
    → (kept ≡ tallies_across same more → ⊥) → IsLeastAgainst t n f g same label first
first_against t n f g same label first more kept is has e tell less h differs = record {
  is_label = less;
  has_pattern = h.has_pattern;
  differs = λ d. differs (
      tallies_correspond t.kind t.dimension f g is has same (entry_of t label) (entry_of t first) more kept e tell h.tells d);
  before = λ m less p. absurd (h.none_before m (omega arith) less p);
}

told_against : (t : Table) (n f g : ℕ) (same : Bool) (label : ℕ) (more : List FaceTally) (s : Seen) (kept : List FaceTally) (answer : Option ℕ)
    → IsDimension t.dimension → HasDimension t.kind t.dimension
    → face_places t.kind t.dimension f ≡ face_places t.kind t.dimension g → TellTrace t.kind t.dimension f (entry_of t label) more
    → TellsPattern t 0 n g (pattern t.kind t.dimension f label) s kept
    → IsAgainst same more s kept answer → TellsAgainst t n f g same label answer
told_against t n f g same label more Never kept answer is has e tell h told =
    let all : Corresponds t n f g same label = λ m less p. absurd (h m (omega arith) less p) in subst (TellsAgainst t n f g same label) (sym told) all
told_against t n f g same label more (Alike first) kept answer is has e tell h told = elim told [
  | inl like ↦
      let all : Corresponds t n f g same label = λ m less p.
      h.alike m (omega arith) less p
      ∙ traces_correspond t.kind t.dimension f g is has same (entry_of t label) (entry_of t first) more kept e tell h.is_first.tells like.0 in
      subst (TellsAgainst t n f g same label) (sym like.1) all
  | inr other ↦
      subst (TellsAgainst t n f g same label) (sym other.1)
      (first_against t n f g same label first more kept is has e tell h.is_label h.is_first other.0)
]
told_against t n f g same label more (Unlike first second) kept answer is has e tell h told = elim told [
  | inl like ↦
      let at =
      traces_correspond t.kind t.dimension f g is has same (entry_of t label) (entry_of t first) more kept e tell h.is_first.tells like.0 in
      let least : IsLeastAgainst t n f g same label second = record {
        is_label = h.other_label;
        has_pattern = h.other_pattern;
        differs = λ d. h.differ (d ∙ sym at);
        before = λ m less p. h.alike_before m (omega arith) less p ∙ at;
      } in
      subst (TellsAgainst t n f g same label) (sym like.1) least
  | inr other ↦
      subst (TellsAgainst t n f g same label) (sym other.1)
      (first_against t n f g same label first more kept is has e tell h.is_label h.is_first other.0)
]

places_few : (members : List ℕ) (set : ℕ) → places members set < 2 ^ length members
places_few [] set = omega arith
places_few (m ∷ members) set =
    let e : 1 + length members ≡ suc (length members) = omega arith in
    subst (λ n. number_of_bits (is_set set m ∷ map (is_set set) members) < 2 ^ n) e (by (is_set set m) (places_few members set) (pow-add 2 1 (length members)))
  where
    by : (b : Bool) → places members set < 2 ^ length members → 2 ^ (1 + length members) ≡ 2 ^ 1 * 2 ^ length members
        → number_of_bits (b ∷ map (is_set set) members) < 2 ^ (1 + length members)
    by true h p = omega arith
    by false h p = omega arith

-- where the kept tallies of the facets tell of all labels, what they say of a label is the least label against it
end_law : (t : Table) (facets : List Facet) (f g : ℕ) (same : Bool) (label : ℕ) (tallies : List FaceTally) (here there : Facet) (answer : Option ℕ)
    → IsDimension t.dimension → HasDimension t.kind t.dimension
    → TellLabels t 0 (label_count t.kind t.dimension) facets → IsFacetOf t.kind t.dimension f here → there ≡ get_or facets g there
    → g < facet_count t.kind t.dimension
    → length (facet_corners t.kind t.dimension f) ≡ length (facet_corners t.kind t.dimension g)
    → face_places t.kind t.dimension f ≡ face_places t.kind t.dimension g
    → AreTallies t.dimension (entry_of t label) tallies
    → IsAgainstAt same label tallies here there answer → TellsAgainst t (label_count t.kind t.dimension) f g same label answer
end_law t facets f g same label tallies here there answer is has tell facet read in_g wide e are told =
    let n = label_count t.kind t.dimension in
    let p = pattern t.kind t.dimension f label in
    let on : pattern_on here label ≡ p = ap (λ (l : List ℕ). places l label) facet.corners in
    let few : p < 2 ^ length (facet_corners t.kind t.dimension g) = subst (λ k. p < 2 ^ k) wide (places_few (facet_corners t.kind t.dimension f) label) in
    let known : TellsPattern t 0 n g p (seen_at there p) (tallies_at there p) =
    subst (λ (x : Facet). TellsPattern t 0 n g p (seen_at x p) (tallies_at x p)) (sym read) (tell g p there in_g few) in
    let more : TellTrace t.kind t.dimension f (entry_of t label) (tallies_on here tallies) =
    record { tallies = tallies; are_tallies = are; kept_are = ap (λ (l : List ℕ). tallies_in l tallies) facet.edges } in
    told_against t n f g same label (tallies_on here tallies) (seen_at there p) (tallies_at there p) answer is has e more known
    (subst (λ q. IsAgainst same (tallies_on here tallies) (seen_at there q) (tallies_at there q) answer) on told)

-- what is known of a seam and of its two facets
pub record IsSeam (kind : Kind) (d : ℕ) (facets : List Facet) (s : Seam) (x y : Facet) : Type 0 where
  pub corners : MeetsCorners kind d s
  pub edges : KeepsEdges kind d s
  pub places : face_places kind d s.facet ≡ face_places kind d s.other
  pub in_facets : s.facet < facet_count kind d
  pub other_in_facets : s.other < facet_count kind d
  pub facet : IsFacetOf kind d s.facet x
  pub other : IsFacetOf kind d s.other y
  pub read : x ≡ get_or facets s.facet x
  pub other_read : y ≡ get_or facets s.other y

-- what the kept tallies of the two facets of a seam say of a label at its ends
abbrev pub SeamLaw : Table → List Facet → ℕ → List FaceTally → Seam → Facet → Facet → Option ℕ → Option ℕ → Kind → ℕ → Type 0
SeamLaw t facets label tallies s x y one two kind d =
    IsDimension d → HasDimension kind d → TellLabels t 0 (label_count kind d) facets → IsSeam kind d facets s x y → AreTallies d (entry_of t label) tallies
    → (IsAgainstAt s.same_parity label tallies x y one → TellsForwards t label s one)
    × (IsAgainstAt s.same_parity label tallies y x two → TellsBackwards t label s two)

own_seam_law : (t : Table) (facets : List Facet) (label : ℕ) (tallies : List FaceTally) (s : Seam) (x y : Facet) (one two : Option ℕ)
    → SeamLaw t facets label tallies s x y one two t.kind t.dimension
own_seam_law t facets label tallies s x y one two is has tell seam are =
    let wide : length (facet_corners t.kind t.dimension s.facet) ≡ length (facet_corners t.kind t.dimension s.other) =
    sym (length-map (corner_across t.kind t.dimension s) (facet_corners t.kind t.dimension s.facet)) ∙ ap (λ (l : List ℕ). length l) seam.corners in (
      λ told.
          forwards t label s one seam.corners seam.edges
          (end_law t facets s.facet s.other s.same_parity label tallies x y one is has tell seam.facet seam.other_read seam.other_in_facets wide seam.places
          are told),
      λ told.
          backwards t label s two seam.corners seam.edges
          (end_law t facets s.other s.facet s.same_parity label tallies y x two is has tell seam.other seam.read seam.in_facets (sym wide)
          (sym seam.places) are told),
    )
  where
    length-map : (f : ℕ → ℕ) (xs : List ℕ) → length (map f xs) ≡ length xs
    length-map f [] = refl
    length-map f (x ∷ xs) = let r = length-map f xs in omega arith

pub seam_law : (kind : Kind) (d : ℕ) (t : Table) (facets : List Facet) (label : ℕ) (tallies : List FaceTally) (s : Seam) (x y : Facet)
    (one two : Option ℕ) → IsDimension d → HasDimension kind d
    → TellTable kind d t facets → IsSeam kind d facets s x y → AreTallies d (entry_of t label) tallies
    → (IsAgainstAt s.same_parity label tallies x y one → TellsForwards t label s one)
    × (IsAgainstAt s.same_parity label tallies y x two → TellsBackwards t label s two)
seam_law kind d t facets label tallies s x y one two is has tell seam are =
    let law : SeamLaw t facets label tallies s x y one two kind d =
    subst (λ k. SeamLaw t facets label tallies s x y one two k d) tell.kind_is
    (subst (λ n. SeamLaw t facets label tallies s x y one two t.kind n) tell.dimension_is (own_seam_law t facets label tallies s x y one two)) in
    law is has tell.labels seam are

-- ---- a seam and its facets

pub facet_read : (kind : Kind) (d f : ℕ) (facets : List Facet) (x : Facet) → AreFacetsOf kind d facets → f < facet_count kind d
    → x ≡ get_or facets f x → IsFacetOf kind d f x
facet_read kind d f facets x are less read = subst (IsFacetOf kind d f) (sym read) (are.each f x less)

pub sound_read : (kind : Kind) (d f : ℕ) (facets : List Facet) (x : Facet) → IsDimension d → HasDimension kind d → AreFacetsOf kind d facets
    → f < facet_count kind d → x ≡ get_or facets f x → IsSound x
sound_read kind d f facets x is has are less read = facet_sound kind d f x is has (facet_read kind d f facets x are less read)

pub seam_read : (kind : Kind) (d : ℕ) (facets : List Facet) (s : Seam) (x y : Facet) → IsDimension d → HasDimension kind d → IsSeamOf kind d s
    → IsFacetOf kind d s.facet x → IsFacetOf kind d s.other y → x ≡ get_or facets s.facet x → y ≡ get_or facets s.other y
    → IsSeam kind d facets s x y
seam_read kind d facets s x y is has seam facet other read_x read_y = record {
  corners = seam.corners;
  edges = seam.edges;
  places = seam_places kind d is has s seam;
  in_facets = seam.facet;
  other_in_facets = seam.other;
  facet = facet;
  other = other;
  read = read_x;
  other_read = read_y;
}

-- each seam of a list of seams of the cell is one
pub seam_said : (kind : Kind) (d : ℕ) (ss : List FacetSeam) (k : ℕ) (x : FacetSeam) → AreSeamsOf kind d (seams_of ss) → k < length ss
    → IsSeamOf kind d (seam_of (slice_index_or ss k x))
seam_said kind d [] k x are less = absurd (omega arith)
seam_said kind d (s ∷ ss) zero x are less = are 0 (seam_of x) (omega arith)
seam_said kind d (s ∷ ss) (suc k) x are less = seam_said kind d ss k x (λ n y h. are (suc n) y (omega arith)) (omega arith)
