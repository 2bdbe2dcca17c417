-- A facet takes what was kept of later labels, pattern after pattern.
use Rattle.std.specs.Prelude.{◌≡◌, ◌≢◌, ℕ, ℤ, ◌+◌, ◌<◌, ◌≤◌, ◌&&◌, ◌==◌, ◌↔◌, Bool, true, List, [], ◌∷◌, length}
use Rattle.std.proofs.Common.{get_or, set, refl, sym, ap, ◌∙◌, subst, arith, inl, inr, int_eq, Vec, Global}
use Rattle.std.proofs.lemmas.List.{get_or-set_same, get_or-set_other, map-set, length-set}
use Rattle.std.proofs.lemmas.Bool.{cases_lt, and_parts, and_from}
use Rattle.std.proofs.lemmas.Bool.Decides.{Decides-eqb, Decides-int_eq}
use Rattle.std.specs.Vec.{with_item}
use Rattle.face_tallies.specs.declared.faces.FaceTally.{FaceTally}
use Rattle.seam_traces.specs.declared.facets.Facet.{Facet}
use Rattle.seam_traces.specs.declared.facets.Seen.{Seen}
use Rattle.seam_traces.specs.declared.facets.Seen.TheVariants.{Never, Alike, Unlike}
use Rattle.seam_traces.specs.Kept.{seen_at, tallies_at, joined, kept_of, JoinsTallies, TakesPattern, TakesLater, EachTakesLater}
use Rattle.seam_traces.specs.Kept.{HasSamePatterns, HaveSamePatterns}
use Rattle.seam_traces.proofs.KeptSteps.{lists, seen_is}
use Rattle.lists.proofs.Contained.{any_default}

-- the patterns below n are joined, and the others are as they were; `rest` is what is left of the later labels
pub record JoinedBelow (n : ℕ) (old later new rest : Facet) : Type 0 where
  pub corners : new.corners.items ≡ old.corners.items
  pub edges : new.edges.items ≡ old.edges.items
  pub set_is : new.edge_set ≡ old.edge_set
  pub seen : length new.seen.items ≡ length old.seen.items
  pub traces : length new.traces.items ≡ length old.traces.items
  pub rest_seen : rest.seen.items ≡ later.seen.items
  pub rest_traces : length rest.traces.items ≡ length later.traces.items
  pub each :
      (p : ℕ) → p < n
      → JoinsTallies (seen_at old p) (tallies_at old p) (seen_at later p) (tallies_at later p) (seen_at new p) (tallies_at new p)
  pub left : (p : ℕ) → n ≤ p → (seen_at new p ≡ seen_at old p) × (tallies_at new p ≡ tallies_at old p) × (tallies_at rest p ≡ tallies_at later p)

pub none_joined : (old later : Facet) → JoinedBelow 0 old later old later
none_joined old later = record {
  corners = refl;
  edges = refl;
  set_is = refl;
  seen = refl;
  traces = refl;
  rest_seen = refl;
  rest_traces = refl;
  each = λ p less. absurd (omega (arith, less));
  left = λ p from. (refl, refl, refl);
}

pub all_joined : (n : ℕ) (old later new rest : Facet) → length old.seen.items ≤ n → JoinedBelow n old later new rest → TakesLater old later new
all_joined n old later new rest all below = record {
  corners = below.corners;
  edges = below.edges;
  set = below.set_is;
  seen = below.seen;
  traces = below.traces;
  each = λ p less. below.each p (omega (arith, all, less));
}

pub still_same : (n : ℕ) (old later new rest : Facet) → HasSamePatterns old later → JoinedBelow n old later new rest → HasSamePatterns new rest
still_same n old later new rest same below = record {
  traces = below.traces ∙ same.traces ∙ sym below.seen;
  other_seen = ap (λ (xs : List Seen). length xs) below.rest_seen ∙ same.other_seen ∙ sym below.seen;
  other_traces = below.rest_traces ∙ same.other_traces ∙ sym below.seen;
}

joined_here : (n : ℕ) (old later new rest new' rest' : Facet) → JoinedBelow n old later new rest → TakesPattern n new rest new' rest'
    → JoinsTallies (seen_at old n) (tallies_at old n) (seen_at later n) (tallies_at later n) (seen_at new' n) (tallies_at new' n)
joined_here n old later new rest new' rest' below takes =
    let l = below.left n (omega arith) in
    let from_rest : seen_at rest n ≡ seen_at later n = ap (λ (xs : List Seen). get_or xs n Never) below.rest_seen in
    subst (λ s. JoinsTallies s (tallies_at old n) (seen_at later n) (tallies_at later n) (seen_at new' n) (tallies_at new' n)) l.0
    (subst (λ k. JoinsTallies (seen_at new n) k (seen_at later n) (tallies_at later n) (seen_at new' n) (tallies_at new' n)) l.1
    (subst (λ s. JoinsTallies (seen_at new n) (tallies_at new n) s (tallies_at later n) (seen_at new' n) (tallies_at new' n)) from_rest
    (subst (λ k. JoinsTallies (seen_at new n) (tallies_at new n) (seen_at rest n) k (seen_at new' n) (tallies_at new' n)) l.2 takes.here)))

pub one_more : (n : ℕ) (old later new rest new' rest' : Facet) → JoinedBelow n old later new rest → TakesPattern n new rest new' rest'
    → JoinedBelow (n + 1) old later new' rest'
one_more n old later new rest new' rest' below takes = record {
  corners = takes.corners ∙ below.corners;
  edges = takes.edges ∙ below.edges;
  set_is = takes.set ∙ below.set_is;
  seen = takes.seen ∙ below.seen;
  traces = takes.traces ∙ below.traces;
  rest_seen = takes.rest_seen ∙ below.rest_seen;
  rest_traces = takes.rest_traces ∙ below.rest_traces;
  each = λ p less. elim (cases_lt p n) [
    | inl before ↦
        let o = takes.others p (λ e. omega (arith, e, before)) in
        let l = below.each p before in
        subst (λ s. JoinsTallies (seen_at old p) (tallies_at old p) (seen_at later p) (tallies_at later p) s (tallies_at new' p)) (sym o.0)
        (subst (λ k. JoinsTallies (seen_at old p) (tallies_at old p) (seen_at later p) (tallies_at later p) (seen_at new p) k) (sym o.1) l)
    | inr behind ↦
        let at : n ≡ p = omega arith in
        subst (λ q. JoinsTallies (seen_at old q) (tallies_at old q) (seen_at later q) (tallies_at later q) (seen_at new' q) (tallies_at new' q)) at
        (joined_here n old later new rest new' rest' below takes)
  ];
  left = λ p from.
      let o = takes.others p (λ e. omega (arith, e, from)) in
      let l = below.left p (omega (arith, from)) in
      (o.0 ∙ l.0, o.1 ∙ l.1, o.2 ∙ l.2);
}

-- ---- one pattern

tallies_other : (facet : Facet) (n q : ℕ) (v : Vec FaceTally Global) → q ≢ n → get_or (lists (set facet.traces.items n v)) q [] ≡ tallies_at facet q
tallies_other facet n q v other =
    ap (λ l. get_or l q []) (map-set (λ (k : Vec FaceTally Global). k.items) facet.traces.items n v)
    ∙ get_or-set_other (lists facet.traces.items) n q v.items [] other

tallies_here : (facet : Facet) (n : ℕ) (v : Vec FaceTally Global) → n < length facet.traces.items
    → get_or (lists (set facet.traces.items n v)) n [] ≡ v.items
tallies_here facet n v inside =
    ap (λ l. get_or l n []) (map-set (λ (k : Vec FaceTally Global). k.items) facet.traces.items n v)
    ∙ get_or-set_same (lists facet.traces.items) n v.items [] (subst (λ m. n < m) (sym (length-lists facet.traces.items)) inside)
  where
    length-lists : (vs : List (Vec FaceTally Global)) → length (lists vs) ≡ length vs
    length-lists [] = refl
    length-lists (v ∷ vs) = let r = length-lists vs in omega arith

kept_where : (s : Seen) (kept more : List FaceTally) → s ≢ Never → kept ≡ kept_of s kept more
kept_where Never kept more other = absurd (other refl)
kept_where (Alike first) kept more other = refl
kept_where (Unlike first second) kept more other = refl

moved_where : (s : Seen) (kept more : List FaceTally) → s ≡ Never → more ≡ kept_of s kept more
moved_where s kept more never = sym (ap (λ (x : Seen). kept_of x kept more) never)

-- the test that two lists are the same, of what is kept of a pattern on two facets
pub told_same : (old later : Facet) (n : ℕ) (same : Bool) (one two : List FaceTally) → tallies_at old n ≡ one → tallies_at later n ≡ two
    → (same ≡ true) ↔ (one ≡ two) → (same ≡ true) ↔ (tallies_at old n ≡ tallies_at later n)
told_same old later n same one two here there is = (λ h. here ∙ is.0 h ∙ sym there, λ e. is.1 (sym here ∙ e ∙ there))

-- the tallies of the earlier labels stay
pub kept_pattern : (n : ℕ) (old later : Facet) (earlier next after : Seen) (same : Bool) → n < length old.seen.items → n < length later.seen.items
    → earlier ≡ get_or old.seen.items n earlier → next ≡ get_or later.seen.items n next → (same ≡ true) ↔ (tallies_at old n ≡ tallies_at later n)
    → after ≡ joined earlier next same → earlier ≢ Never
    → TakesPattern n old later (record old { seen = with_item old.seen n after }) later
kept_pattern n old later earlier next after same inside in_later read read_next is after_is some =
    let at : seen_at old n ≡ earlier = seen_is old n earlier inside read in
    let at_next : seen_at later n ≡ next = seen_is later n next in_later read_next in
    record {
      corners = refl;
      edges = refl;
      set = refl;
      seen = length-set old.seen.items n after;
      traces = refl;
      rest_seen = refl;
      rest_traces = refl;
      here = record {
        same = same;
        is_same = is;
        seen_is = get_or-set_same old.seen.items n after Never inside ∙ after_is ∙ ap (λ (x : Seen). joined x next same) (sym at)
            ∙ ap (λ (x : Seen). joined (seen_at old n) x same) (sym at_next);
        kept_is = kept_where (seen_at old n) (tallies_at old n) (tallies_at later n) (λ e. some (sym at ∙ e));
      };
      others = λ q other. (get_or-set_other old.seen.items n q after Never other, refl, refl);
    }

-- the tallies of the later labels come in the place of none
pub moved_pattern : (n : ℕ) (old later : Facet) (earlier next after : Seen) (same : Bool) (v w : Vec FaceTally Global) → n < length old.seen.items
    → n < length later.seen.items → n < length old.traces.items → earlier ≡ get_or old.seen.items n earlier → next ≡ get_or later.seen.items n next
    → (same ≡ true) ↔ (tallies_at old n ≡ tallies_at later n) → after ≡ joined earlier next same → earlier ≡ Never → v.items ≡ tallies_at later n
    → TakesPattern n old later (record old { seen = with_item old.seen n after; traces = with_item old.traces n v })
    (record later { traces = with_item later.traces n w })
moved_pattern n old later earlier next after same v w inside in_later in_traces read read_next is after_is never moved =
    let at : seen_at old n ≡ earlier = seen_is old n earlier inside read in
    let at_next : seen_at later n ≡ next = seen_is later n next in_later read_next in
    record {
      corners = refl;
      edges = refl;
      set = refl;
      seen = length-set old.seen.items n after;
      traces = length-set old.traces.items n v;
      rest_seen = refl;
      rest_traces = length-set later.traces.items n w;
      here = record {
        same = same;
        is_same = is;
        seen_is = get_or-set_same old.seen.items n after Never inside ∙ after_is ∙ ap (λ (x : Seen). joined x next same) (sym at)
            ∙ ap (λ (x : Seen). joined (seen_at old n) x same) (sym at_next);
        kept_is = tallies_here old n v in_traces ∙ moved ∙ moved_where (seen_at old n) (tallies_at old n) (tallies_at later n) (at ∙ never);
      };
      others = λ q other. (
        get_or-set_other old.seen.items n q after Never other,
        tallies_other old n q v other,
        tallies_other later n q w other,
      );
    }

-- ---- the same tallies

abbrev as_tally : ℕ → ℕ → ℤ → FaceTally
as_tally edges count sum = record { edges = edges; count = count; sum = sum }

same_tally : (a b : FaceTally) → a.edges ≡ b.edges → a.count ≡ b.count → a.sum ≡ b.sum → a ≡ b
same_tally a b e c s =
    ap (λ x. as_tally x a.count a.sum) e ∙ ap (λ y. as_tally b.edges y a.sum) c ∙ ap (λ z. as_tally b.edges b.count z) s

-- the test of equality, number by number
pub tally_decides : (a b : FaceTally) → (((a.edges == b.edges) && ((a.count == b.count) && int_eq a.sum b.sum)) ≡ true) ↔ (a ≡ b)
tally_decides a b = (
  λ h.
      let one = and_parts (a.edges == b.edges) ((a.count == b.count) && int_eq a.sum b.sum) h in
      let two = and_parts (a.count == b.count) (int_eq a.sum b.sum) one.1 in
      same_tally a b ((Decides-eqb a.edges b.edges).0 one.0) ((Decides-eqb a.count b.count).0 two.0) ((Decides-int_eq a.sum b.sum).0 two.1),
  λ h.
      and_from (a.edges == b.edges) ((a.count == b.count) && int_eq a.sum b.sum)
      ((Decides-eqb a.edges b.edges).1 (ap (λ (t : FaceTally). t.edges) h))
      (and_from (a.count == b.count) (int_eq a.sum b.sum) ((Decides-eqb a.count b.count).1 (ap (λ (t : FaceTally). t.count) h))
      ((Decides-int_eq a.sum b.sum).1 (ap (λ (t : FaceTally). t.sum) h))),
)

-- ---- one facet after another

-- the facets below n have taken what was kept of later labels, and the others are as they were
pub record FacetsBelow (n : ℕ) (old later new rest : List Facet) : Type 0 where
  pub count : length new ≡ length old
  pub rest_count : length rest ≡ length later
  pub taken : (f : ℕ) (x : Facet) → f < n → f < length old → TakesLater (get_or old f x) (get_or later f x) (get_or new f x)
  pub left : (f : ℕ) (x : Facet) → n ≤ f → get_or new f x ≡ get_or old f x
  pub rest_left : (f : ℕ) (x : Facet) → n ≤ f → get_or rest f x ≡ get_or later f x

pub no_facets : (old later : List Facet) → FacetsBelow 0 old later old later
no_facets old later = record {
  count = refl;
  rest_count = refl;
  taken = λ f x less inside. absurd (omega (arith, less));
  left = λ f x from. refl;
  rest_left = λ f x from. refl;
}

-- the two facets of one number, in lists of which the others are left alone
pub next_facets : (n : ℕ) (old later new rest : List Facet) (x y z w : Facet) → FacetsBelow n old later new rest → n < length old
    → length later ≡ length old → TakesLater (get_or new n x) (get_or rest n y) z
    → FacetsBelow (n + 1) old later (set new n z) (set rest n w)
next_facets n old later new rest x y z w below inside same takes =
    let in_new : n < length new = let c = below.count in omega arith in
    let in_rest : n < length rest = let c = below.rest_count in omega arith in
    let here : (a : Facet) → TakesLater (get_or old n a) (get_or later n a) (get_or (set new n z) n a) = λ a.
    subst (λ b. TakesLater b (get_or later n a) (get_or (set new n z) n a)) (any_default new n x a in_new ∙ below.left n a (omega arith))
    (subst (λ b. TakesLater (get_or new n x) b (get_or (set new n z) n a)) (any_default rest n y a in_rest ∙ below.rest_left n a (omega arith))
    (subst (λ e. TakesLater (get_or new n x) (get_or rest n y) e) (sym (get_or-set_same new n z a in_new)) takes)) in
    record {
      count = length-set new n z ∙ below.count;
      rest_count = length-set rest n w ∙ below.rest_count;
      taken = λ f a less in_old. elim (cases_lt f n) [
        | inl before ↦
            subst (λ e. TakesLater (get_or old f a) (get_or later f a) e) (sym (get_or-set_other new n f z a (λ e. omega (arith, e, before))))
            (below.taken f a before in_old)
        | inr behind ↦
            let at : n ≡ f = omega arith in
            subst (λ k. TakesLater (get_or old k a) (get_or later k a) (get_or (set new n z) k a)) at (here a)
      ];
      left = λ f a from. get_or-set_other new n f z a (λ e. omega (arith, e, from)) ∙ below.left f a (omega (arith, from));
      rest_left = λ f a from. get_or-set_other rest n f w a (λ e. omega (arith, e, from)) ∙ below.rest_left f a (omega (arith, from));
    }

pub all_facets : (n : ℕ) (old later new rest : List Facet) → length old ≤ n → FacetsBelow n old later new rest → EachTakesLater old later new
all_facets n old later new rest all below = record {
  count = below.count;
  each = λ f x less. below.taken f x (omega (arith, all, less)) less;
}

-- what is left of both lists has facets of as many patterns
pub still_facets : (n : ℕ) (old later new rest : List Facet) (x y : Facet) → FacetsBelow n old later new rest → HaveSamePatterns old later → n < length old
    → HasSamePatterns (get_or new n x) (get_or rest n y)
still_facets n old later new rest x y below same inside =
    let in_rest : n < length rest = let r = below.rest_count in let s = same.count in omega arith in
    let from_old : get_or new n x ≡ get_or old n x = below.left n x (omega arith) in
    let from_later : get_or rest n y ≡ get_or later n x = any_default rest n y x in_rest ∙ below.rest_left n x (omega arith) in
    subst (λ a. HasSamePatterns a (get_or rest n y)) (sym from_old)
    (subst (λ b. HasSamePatterns (get_or old n x) b) (sym from_later) (same.each n x inside))
