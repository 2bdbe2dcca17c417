-- A facet takes one more label.
use Rattle.std.specs.Prelude.{◌≡◌, ℕ, zero, suc, ◌++◌, ◌+◌, ◌^◌, ◌<◌, false, List, [], ◌∷◌, map, length, slice_index_or}
use Rattle.std.proofs.Common.{get_or, set, refl, sym, ap, ◌∙◌, subst, arith, inl, inr, Vec, Global}
use Rattle.std.proofs.Math.ListN.{get_or-map}
use Rattle.std.proofs.lemmas.List.{get_or-set_same, get_or-set_other, map-set, length-set}
use Rattle.std.proofs.lemmas.Bool.{cases_lt}
use Rattle.std.specs.Vec.{with_item}
use Rattle.face_tallies.specs.declared.faces.FaceTally.{FaceTally}
use Rattle.seam_traces.specs.declared.facets.Facet.{Facet}
use Rattle.seam_traces.specs.declared.facets.Seen.{Seen}
use Rattle.seam_traces.specs.declared.facets.Seen.TheVariants.{Never, Alike, Unlike}
use Rattle.seam_traces.specs.TallyLists.{tallies_across}
use Rattle.seam_traces.specs.Kept.{seen_at, tallies_at, IsSound, pattern_on, tallies_on, TakesTallies, TakesLabel}
use Rattle.lists.proofs.Contained.{any_default}

pub across_same : (ts : List FaceTally) → tallies_across false ts ≡ ts
across_same [] = refl
across_same (t ∷ ts) = ap (λ l. t ∷ l) (across_same ts)

-- the kept tallies of a pattern, read from the list of lists
pub kept_at : (facet : Facet) (p : ℕ) (v : Vec FaceTally Global) → p < length facet.traces.items → v ≡ get_or facet.traces.items p v
    → tallies_at facet p ≡ v.items
kept_at facet p v inside e =
    any_default (map (λ (k : Vec FaceTally Global). k.items) facet.traces.items) p [] v.items
    (subst (λ n. p < n) (sym (length-map (λ (k : Vec FaceTally Global). k.items) facet.traces.items)) inside)
    ∙ get_or-map (λ (k : Vec FaceTally Global). k.items) facet.traces.items p v ∙ ap (λ (k : Vec FaceTally Global). k.items) (sym e)
  where
    length-map : {X Y : Type 0} (f : X → Y) (xs : List X) → length (map f xs) ≡ length xs
    length-map f [] = refl
    length-map f (x ∷ xs) = let r = length-map f xs in omega arith

abbrev pub lists : List (Vec FaceTally Global) → List (List FaceTally)
lists vs = map (λ (k : Vec FaceTally Global). k.items) vs

pub seen_is : (facet : Facet) (p : ℕ) (s : Seen) → p < length facet.seen.items → s ≡ get_or facet.seen.items p s → seen_at facet p ≡ s
seen_is facet p s inside e = any_default facet.seen.items p Never s inside ∙ sym e

-- the first label with its pattern
pub takes_first : (label : ℕ) (tallies : List FaceTally) (old : Facet) (p : ℕ) (s : Seen) (t : Vec FaceTally Global) → IsSound old
    → p < 2 ^ length old.corners.items → p ≡ pattern_on old label
    → s ≡ get_or old.seen.items p s → s ≡ Never → t.items ≡ tallies_on old tallies
    → TakesLabel label tallies old (record old { seen = with_item old.seen p (Alike label); traces = with_item old.traces p t })
takes_first label tallies old p s t sound less is read never told =
    let in_seen : p < length old.seen.items = let w = sound.seen in omega arith in
    let in_traces : p < length old.traces.items = let w = sound.traces in omega arith in
    let wide : p < length (lists old.traces.items) = subst (λ n. p < n) (sym (length-lists old.traces.items)) in_traces in
    record {
      corners = refl;
      edges = refl;
      set = refl;
      seen = length-set old.seen.items p (Alike label);
      traces = length-set old.traces.items p t;
      here =
          subst
          (λ q.
          TakesTallies label (tallies_on old tallies) (seen_at old q) (tallies_at old q) (get_or (set old.seen.items p (Alike label)) q Never)
          (get_or (lists (set old.traces.items p t)) q []))
          is
          (subst (λ b. TakesTallies label (tallies_on old tallies) b (tallies_at old p) (get_or (set old.seen.items p (Alike label)) p Never)
          (get_or (lists (set old.traces.items p t)) p [])) (sym (seen_is old p s in_seen read ∙ never)) (
            get_or-set_same old.seen.items p (Alike label) Never in_seen,
            ap (λ l. get_or l p []) (map-set (λ (k : Vec FaceTally Global). k.items) old.traces.items p t)
                ∙ get_or-set_same (lists old.traces.items) p t.items [] wide ∙ told,
          ));
      others = λ q other. (
        get_or-set_other old.seen.items p q (Alike label) Never (λ e. other (e ∙ is)),
        ap (λ l. get_or l q []) (map-set (λ (k : Vec FaceTally Global). k.items) old.traces.items p t)
            ∙ get_or-set_other (lists old.traces.items) p q t.items [] (λ e. other (e ∙ is)),
      );
    }
  where
    length-lists : (vs : List (Vec FaceTally Global)) → length (lists vs) ≡ length vs
    length-lists [] = refl
    length-lists (v ∷ vs) = let r = length-lists vs in omega arith

-- a label that differs from the first one with its pattern
pub takes_other : (label : ℕ) (tallies : List FaceTally) (old : Facet) (p first : ℕ) (s : Seen) → IsSound old → p < 2 ^ length old.corners.items
    → p ≡ pattern_on old label
    → s ≡ get_or old.seen.items p s → s ≡ Alike first → (tallies_at old p ≡ tallies_on old tallies → ⊥)
    → TakesLabel label tallies old (record old { seen = with_item old.seen p (Unlike first label) })
takes_other label tallies old p first s sound less is read alike differs =
    let in_seen : p < length old.seen.items = let w = sound.seen in omega arith in
    record {
      corners = refl;
      edges = refl;
      set = refl;
      seen = length-set old.seen.items p (Unlike first label);
      traces = refl;
      here =
          subst
          (λ q.
          TakesTallies label (tallies_on old tallies) (seen_at old q) (tallies_at old q) (get_or (set old.seen.items p (Unlike first label)) q Never)
          (tallies_at old q))
          is
          (subst
          (λ b. TakesTallies label (tallies_on old tallies) b (tallies_at old p)
          (get_or (set old.seen.items p (Unlike first label)) p Never) (tallies_at old p))
          (sym (seen_is old p s in_seen read ∙ alike))
          (refl, inr (get_or-set_same old.seen.items p (Unlike first label) Never in_seen, differs)));
      others = λ q other. (get_or-set_other old.seen.items p q (Unlike first label) Never (λ e. other (e ∙ is)), refl);
    }

-- a label that has the trace of the first one with its pattern
pub takes_same : (label : ℕ) (tallies : List FaceTally) (old : Facet) (p first : ℕ) (s : Seen) → IsSound old → p < 2 ^ length old.corners.items
    → p ≡ pattern_on old label
    → s ≡ get_or old.seen.items p s → s ≡ Alike first → tallies_at old p ≡ tallies_on old tallies
    → TakesLabel label tallies old old
takes_same label tallies old p first s sound less is read alike same =
    let in_seen : p < length old.seen.items = let w = sound.seen in omega arith in
    let at : seen_at old p ≡ Alike first = seen_is old p s in_seen read ∙ alike in
    record {
      corners = refl;
      edges = refl;
      set = refl;
      seen = refl;
      traces = refl;
      here = subst (λ q. TakesTallies label (tallies_on old tallies) (seen_at old q) (tallies_at old q) (seen_at old q) (tallies_at old q)) is
          (subst (λ b. TakesTallies label (tallies_on old tallies) b (tallies_at old p) (seen_at old p) (tallies_at old p)) (sym at) (refl, inl (at, same)));
      others = λ q other. (refl, refl);
    }

-- ---- one more facet

before_end : (xs : List Facet) (y x : Facet) (f : ℕ) → f < length xs → get_or (xs ++ y ∷ []) f x ≡ get_or xs f x
before_end [] y x f h = absurd (omega arith)
before_end (z ∷ xs) y x zero h = refl
before_end (z ∷ xs) y x (suc f) h = before_end xs y x f (omega arith)

at_end : (xs : List Facet) (y x : Facet) → get_or (xs ++ y ∷ []) (length xs) x ≡ y
at_end [] y x = refl
at_end (z ∷ xs) y x = at_end xs y x

-- what holds of each facet, and of one more
pub each_more : (P : ℕ → Facet → Type 0) (xs ys : List Facet) (y : Facet) → ys ≡ xs ++ y ∷ []
    → ((f : ℕ) (x : Facet) → f < length xs → P f (slice_index_or xs f x)) → P (length xs) y
    → (f : ℕ) (x : Facet) → f < length xs + 1 → P f (slice_index_or ys f x)
each_more P xs ys y e each last f x less = elim (cases_lt f (length xs)) as (λ _. P f (slice_index_or ys f x)) [
  | inl h ↦ subst (λ z. P f z) (sym (ap (λ l. get_or l f x) e ∙ before_end xs y x f h)) (each f x h)
  | inr h ↦
      let here : f ≡ length xs = omega arith in
      subst (λ n. P n (slice_index_or ys n x)) (sym here) (subst (λ z. P (length xs) z) (sym (ap (λ l. get_or l (length xs) x) e ∙ at_end xs y x)) last)
]

pub length_more : (xs ys : List Facet) (y : Facet) → ys ≡ xs ++ y ∷ [] → length ys ≡ length xs + 1
length_more xs ys y e = ap length e ∙ by xs
  where
    by : (xs : List Facet) → length (xs ++ y ∷ []) ≡ length xs + 1
    by [] = refl
    by (x ∷ xs) = let r = by xs in omega arith
