-- Count and sum of a face, looked up among tallies.
use Rattle.std.specs.Prelude.{◌≡◌, ◌⊎◌, ℕ, ℤ, pos, ◌<◌, bit_and, Bool, true, false, ◌==◌, List, [], ◌∷◌, map, filter, if◌then◌else◌}
use Rattle.std.proofs.Common.{refl, sym, ap, ◌∙◌, subst, arith, inl, inr}
use Rattle.std.proofs.lemmas.Bool.{false≢true, cases_eq, cases_lt, eq-eqb, ne_eqb, eqb-true}
use Rattle.iso_model.specs.Turns.{signed}
use Rattle.iso_model.specs.Faces.{face_count, face_sum}
use Rattle.face_tallies.specs.declared.faces.FaceTally.{FaceTally}
use Rattle.face_tallies.specs.Tallies.{IsFace, IsTallyOf}
use Rattle.seam_traces.specs.Traces.{places}
use Rattle.seam_traces.specs.TallyLists.{is_within, placed, tallies_in, tally_across, tallies_across}
use Rattle.seam_traces.proofs.Sets.{places_ascend, places_apart}
use Rattle.seam_traces.proofs.ChosenFaces.{face_ascends}
use Rattle.lists.specs.Bits.{set_number}
use Rattle.lists.specs.Members.{In, Climbs, Ascends}
use Rattle.lists.proofs.MemberLaws.{from_In-map, from_filter}
use Rattle.lists.proofs.Ascending.{Climbs-filter}
use Rattle.lists.proofs.Bits.{same_from_number}

-- the set of a tally
abbrev pub key : FaceTally → ℕ
key t = t.edges

abbrev made : ℕ → ℕ → ℤ → FaceTally
made set count sum = record { edges = set; count = count; sum = sum }

-- count and sum of the face of a tally
abbrev pub counts_of : FaceTally → ℕ × ℤ
counts_of t = (t.count, t.sum)

-- no tuples, and the sum 0
abbrev pub no_counts : ℕ × ℤ
no_counts = (0, pos 0)

-- count and sum of the face with this set; none and 0 where no tally has it
abbrev pub found : List FaceTally → ℕ → ℕ × ℤ
found [] set = no_counts
found (t ∷ ts) set = if t.edges == set then counts_of t else found ts set

-- each tally counts some tuples
abbrev pub Counts : List FaceTally → Type 0
Counts ts = (t : FaceTally) → In t ts → 0 < t.count

found_here : (t : FaceTally) (ts : List FaceTally) (set : ℕ) → t.edges ≡ set → found (t ∷ ts) set ≡ counts_of t
found_here t ts set e = ap (λ (b : Bool). if b then counts_of t else found ts set) (eq-eqb t.edges set e)

found_later : (t : FaceTally) (ts : List FaceTally) (set : ℕ) → (t.edges ≡ set → ⊥) → found (t ∷ ts) set ≡ found ts set
found_later t ts set e = ap (λ (b : Bool). if b then counts_of t else found ts set) (ne_eqb t.edges set e)

pub found_none : (ts : List FaceTally) (set : ℕ) → ((t : FaceTally) → In t ts → t.edges ≡ set → ⊥) → found ts set ≡ no_counts
found_none [] set h = refl
found_none (t ∷ ts) set h = found_later t ts set (h t (inl refl)) ∙ found_none ts set (λ u i. h u (inr i))

-- the tally that has the set, or that none has it
pub find_set : (ts : List FaceTally) (set : ℕ)
    → ((t : FaceTally) × In t ts × (t.edges ≡ set) × (found ts set ≡ counts_of t)) ⊎ ((t : FaceTally) → In t ts → t.edges ≡ set → ⊥)
find_set [] set = inr (λ t i e. i)
find_set (t ∷ ts) set = elim (cases_eq t.edges set) [
  | inl e ↦ inl (t, inl refl, e, found_here t ts set e)
  | inr e ↦ elim (find_set ts set) [
    | inl r ↦ inl (r.0, inr r.1, r.2, found_later t ts set e ∙ r.3)
    | inr n ↦ inr (λ u i f. by_place t ts u e n i f)
  ]
]
  where
    by_place : (t : FaceTally) (ts : List FaceTally) (u : FaceTally) → (t.edges ≡ set → ⊥) → ((v : FaceTally) → In v ts → v.edges ≡ set → ⊥)
        → In u (t ∷ ts) → u.edges ≡ set → ⊥
    by_place t ts u e n (inl same) f = e (ap key (sym same) ∙ f)
    by_place t ts u e n (inr i) f = n u i f

-- ---- ascending tallies with the same counts and sums are the same

above_none : (ys : List FaceTally) (set : ℕ) → ((y : FaceTally) → In y ys → set < y.edges) → found ys set ≡ no_counts
above_none ys set h = found_none ys set (λ t i e. let less = h t i in omega arith)

counted : (x : FaceTally) → 0 < x.count → counts_of x ≡ no_counts → ⊥
counted x some e = let f = ap (λ (p : ℕ × ℤ). p.0) e in omega arith

pub same_tallies : (xs ys : List FaceTally) → Climbs key xs → Climbs key ys → Counts xs → Counts ys → ((set : ℕ) → found xs set ≡ found ys set) → xs ≡ ys
same_tallies [] [] a b s t h = refl
same_tallies [] (y ∷ ys) a b s t h = absurd (counted y (t y (inl refl)) (sym (found_here y ys y.edges refl) ∙ sym (h y.edges)))
same_tallies (x ∷ xs) [] a b s t h = absurd (counted x (s x (inl refl)) (sym (found_here x xs x.edges refl) ∙ h x.edges))
same_tallies (x ∷ xs) (y ∷ ys) a b s t h = elim (cases_eq x.edges y.edges) [
  | inl e ↦
      let both : counts_of x ≡ counts_of y = sym (found_here x xs x.edges refl) ∙ h x.edges ∙ found_here y ys x.edges (sym e) in
      let one : x ≡ y = same_parts x y e (ap (λ (p : ℕ × ℤ). p.0) both) (ap (λ (p : ℕ × ℤ). p.1) both) in
      let rest = same_tallies xs ys a.1 b.1 (λ u i. s u (inr i)) (λ u i. t u (inr i)) (λ set. tails x y xs ys a b e h set (cases_eq x.edges set)) in
      cc
  | inr e ↦ absurd (elim (cases_lt x.edges y.edges) [
    | inl less ↦ counted x (s x (inl refl)) (sym (found_here x xs x.edges refl) ∙ h x.edges ∙ above_none (y ∷ ys) x.edges (above y ys x.edges less b))
    | inr more ↦
        counted y (t y (inl refl))
        (sym (found_here y ys y.edges refl) ∙ sym (h y.edges) ∙ above_none (x ∷ xs) y.edges (above x xs y.edges (omega arith) a))
  ])
]
  where
    same_parts : (x y : FaceTally) → x.edges ≡ y.edges → x.count ≡ y.count → x.sum ≡ y.sum → x ≡ y
    same_parts x y e f g =
        ap (λ (n : ℕ). made n x.count x.sum) e ∙ ap (λ (n : ℕ). made y.edges n x.sum) f ∙ ap (λ (z : ℤ). made y.edges y.count z) g

    above : (y : FaceTally) (ys : List FaceTally) (set : ℕ) → set < y.edges → Climbs key (y ∷ ys) → (z : FaceTally) → In z (y ∷ ys) → set < z.edges
    above y ys set less c z (inl e) = let f = ap key e in omega arith
    above y ys set less c z (inr i) = let more = c.0 z i in omega arith

    tails : (x y : FaceTally) (xs ys : List FaceTally) → Climbs key (x ∷ xs) → Climbs key (y ∷ ys) → x.edges ≡ y.edges
        → ((set : ℕ) → found (x ∷ xs) set ≡ found (y ∷ ys) set)
        → (set : ℕ) → (x.edges ≡ set) ⊎ (x.edges ≡ set → ⊥) → found xs set ≡ found ys set
    tails x y xs ys a b e h set (inl same) =
        above_none xs set (λ z i. let more = a.0 z i in omega arith) ∙ sym (above_none ys set (λ z i. let more = b.0 z i in omega arith))
    tails x y xs ys a b e h set (inr other) =
        sym (found_later x xs set other) ∙ h set ∙ found_later y ys set (λ f. other (e ∙ f))

-- ---- tallies in a facet

pub in_tallies : (edges : List ℕ) (ts : List FaceTally) (z : FaceTally) → In z (tallies_in edges ts)
    → (t : FaceTally) × In t ts × (is_within edges t.edges ≡ true) × (z ≡ placed edges t)
in_tallies edges ts z i =
    let r = from_In-map (placed edges) (filter (λ (t : FaceTally). is_within edges t.edges) ts) z i in
    let f = from_filter (λ (t : FaceTally). is_within edges t.edges) ts r.0 r.1 in
    (r.0, f.0, f.1, r.2)

pub within_is : (edges : List ℕ) (set : ℕ) → is_within edges set ≡ true → bit_and set (set_number edges) ≡ set
within_is edges set h = eqb-true (bit_and set (set_number edges)) set h

placed_climb : (edges : List ℕ) → Ascends edges → (ts : List FaceTally) → ((t : FaceTally) → In t ts → is_within edges t.edges ≡ true) → Climbs key ts
    → Climbs key (map (placed edges) ts)
placed_climb edges a [] within c = tt
placed_climb edges a (t ∷ ts) within c = (
  λ y i.
      let r = from_In-map (placed edges) ts y i in
      subst (λ (z : FaceTally). places edges t.edges < z.edges) (sym r.2)
      (places_ascend edges a t.edges r.0.edges (within_is edges t.edges (within t (inl refl))) (within_is edges r.0.edges (within r.0 (inr r.1)))
      (c.0 r.0 r.1)),
  placed_climb edges a ts (λ u i. within u (inr i)) c.1,
)

pub tallies_in_climb : (edges : List ℕ) → Ascends edges → (ts : List FaceTally) → Climbs key ts → Climbs key (tallies_in edges ts)
tallies_in_climb edges a ts c =
    let p = λ (t : FaceTally). is_within edges t.edges in
    placed_climb edges a (filter p ts) (λ t i. (from_filter p ts t i).1) (Climbs-filter key p ts c)

pub tallies_in_count : (edges : List ℕ) (ts : List FaceTally) → Counts ts → Counts (tallies_in edges ts)
tallies_in_count edges ts c z i =
    let r = in_tallies edges ts z i in
    subst (λ (t : FaceTally). 0 < t.count) (sym r.3) (c r.0 r.1)

-- what is found at the places of a set is what is found at the set
pub found_in : (edges : List ℕ) → Ascends edges → (set : ℕ) → bit_and set (set_number edges) ≡ set → (ts : List FaceTally)
    → found (tallies_in edges ts) (places edges set) ≡ found ts set
found_in edges a set in_set [] = refl
found_in edges a set in_set (t ∷ ts) = by (is_within edges t.edges) refl (cases_eq t.edges set) (found_in edges a set in_set ts)
  where
    rest : List FaceTally
    rest = filter (λ (u : FaceTally). is_within edges u.edges) ts

    by : (b : Bool) → is_within edges t.edges ≡ b → (t.edges ≡ set) ⊎ (t.edges ≡ set → ⊥) → found (tallies_in edges ts) (places edges set) ≡ found ts set
        → found (map (placed edges) (if b then t ∷ rest else rest)) (places edges set) ≡ found (t ∷ ts) set
    by true w (inl e) behind = found_here (placed edges t) (tallies_in edges ts) (places edges set) (ap (places edges) e) ∙ sym (found_here t ts set e)
    by true w (inr e) behind =
        found_later (placed edges t) (tallies_in edges ts) (places edges set)
        (λ f. e (places_apart edges a t.edges set (within_is edges t.edges w) in_set f))
        ∙ behind ∙ sym (found_later t ts set e)
    by false w (inl e) behind = absurd (false≢true (sym w ∙ ap (is_within edges) e ∙ eq-eqb (bit_and set (set_number edges)) set in_set))
    by false w (inr e) behind = behind ∙ sym (found_later t ts set e)

-- ---- across a seam

pub across_climb : (same : Bool) (ts : List FaceTally) → Climbs key ts → Climbs key (tallies_across same ts)
across_climb same [] c = tt
across_climb same (t ∷ ts) c = (
  λ y i. let r = from_In-map (tally_across same) ts y i in subst (λ (z : FaceTally). t.edges < z.edges) (sym r.2) (c.0 r.0 r.1),
  across_climb same ts c.1,
)

pub across_count : (same : Bool) (ts : List FaceTally) → Counts ts → Counts (tallies_across same ts)
across_count same ts c z i = let r = from_In-map (tally_across same) ts z i in subst (λ (t : FaceTally). 0 < t.count) (sym r.2) (c r.0 r.1)

-- count and sum on the other side of a seam
abbrev pub counts_across : Bool → ℕ × ℤ → ℕ × ℤ
counts_across same c = (c.0, signed same c.1)

pub zero_across : (same : Bool) → no_counts ≡ counts_across same no_counts
zero_across true = refl
zero_across false = refl

pub found_across : (same : Bool) (ts : List FaceTally) (set : ℕ) → found (tallies_across same ts) set ≡ counts_across same (found ts set)
found_across same [] set = zero_across same
found_across same (t ∷ ts) set = elim (t.edges == set) as
    (λ b. (if b then counts_across same (counts_of t) else found (tallies_across same ts) set) ≡ counts_across same (if b then counts_of t else found ts set)) [
      | true ↦ refl
      | false ↦ found_across same ts set
    ]

-- ---- the tallies of tuples

pub tally_of : (d : ℕ) (ws : List (List ℕ)) (t : FaceTally) (face : List ℕ) → IsFace d face → IsTallyOf d ws t → t.edges ≡ set_number face
    → counts_of t ≡ (let c : ℕ × ℤ = (face_count ws face, face_sum ws face) in c)
tally_of d ws t face f is e =
    let same : is.face ≡ face = same_from_number is.face face (face_ascends d is.face is.is_face) (face_ascends d face f) (sym is.set ∙ e) in
    let c : t.count ≡ face_count ws face = is.count ∙ ap (face_count ws) same in
    let s : t.sum ≡ face_sum ws face = is.sum ∙ ap (face_sum ws) same in
    cc
