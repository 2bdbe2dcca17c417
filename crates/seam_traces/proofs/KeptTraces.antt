-- Kept tallies correspond exactly where the traces of which they tell correspond.
use Rattle.std.specs.Prelude.{◌≡◌, ℕ, suc, ℤ, ◌-◌, ◌<◌, ◌≤◌, Bool, bit_and, List, [], ◌∷◌, map, All}
use Rattle.std.proofs.Common.{sym, ap, ◌∙◌, subst, arith, inl, inr}
use Rattle.iso_model.specs.declared.Kind.{Kind}
use Rattle.lists.specs.Orders.{choices}
use Rattle.iso_model.specs.Cells.{HasDimension, facet_edges}
use Rattle.iso_model.specs.Faces.{face_count, face_sum}
use Rattle.iso_model.specs.Dimensions.{IsDimension}
use Rattle.face_tallies.specs.declared.faces.FaceTally.{FaceTally}
use Rattle.face_tallies.specs.Tallies.{IsFace, IsTallyOf, AreTallies}
use Rattle.seam_traces.specs.Traces.{places, trace, trace_across}
use Rattle.seam_traces.specs.TallyLists.{tallies_across, TellTrace}
use Rattle.seam_traces.proofs.ChosenFaces.{climb_of_steps, face_in_facet, choice_within, choice_is_face}
use Rattle.seam_traces.proofs.Lookups.{key, no_counts, found, Counts, find_set, found_none, same_tallies, in_tallies, within_is, tallies_in_climb}
use Rattle.seam_traces.proofs.Lookups.{tallies_in_count, found_in, across_climb, across_count, counts_across, zero_across, found_across, tally_of}
use Rattle.seam_traces.proofs.FacetLists.{facet_small, face_places}
use Rattle.lists.specs.Bits.{set_number}
use Rattle.lists.specs.Members.{In, Climbs}
use Rattle.lists.proofs.MemberLaws.{In_from_place, In-map, from_In-map, map-map, map_same}
use Rattle.iso_model.proofs.SignLaws.{facet_edges_ascend}
use Rattle.mesh_laws.proofs.FaceLists.{no_faces}

-- count and sum of a face
abbrev pub face_counts : List (List ℕ) → List ℕ → ℕ × ℤ
face_counts ws face = (face_count ws face, face_sum ws face)

each_in : (d : ℕ) (ws : List (List ℕ)) (ts : List FaceTally) → All (IsTallyOf d ws) ts → (t : FaceTally) → In t ts → IsTallyOf d ws t
each_in d ws [] a t i = absurd i
each_in d ws (u ∷ ts) a t (inl e) = subst (IsTallyOf d ws) (sym e) (a 0 u (omega arith))
each_in d ws (u ∷ ts) a t (inr i) = each_in d ws ts (λ k n h. a (suc k) n (omega arith)) t i

no_face : (ws : List (List ℕ)) (face : List ℕ) → (0 < face_count ws face → ⊥) → no_counts ≡ face_counts ws face
no_face ws face none =
    let zero_count : face_count ws face ≡ 0 = omega arith in
    let zero_sum = no_faces ws face zero_count in
    cc

-- among the tallies of tuples the count and the sum of each face are found
pub found_face : (d : ℕ) (ws : List (List ℕ)) (ts : List FaceTally) → AreTallies d ws ts → (face : List ℕ) → IsFace d face
    → found ts (set_number face) ≡ face_counts ws face
found_face d ws ts are face f = elim (find_set ts (set_number face)) [
  | inl r ↦ r.3 ∙ tally_of d ws r.0 face f (each_in d ws ts are.each r.0 r.1) r.2
  | inr none ↦ found_none ts (set_number face) none ∙ no_face ws face (λ some.
      let c = are.whole face f some in
      let m = from_In-map key ts (set_number face) (In_from_place (map key ts) (set_number face) c.0 c.1 c.2) in
      none m.0 m.1 (sym m.2))
]

tallies_climb : (d : ℕ) (ws : List (List ℕ)) (ts : List FaceTally) → AreTallies d ws ts → Climbs key ts
tallies_climb d ws ts are = climb_of_steps key ts are.ascending

tallies_count : (d : ℕ) (ws : List (List ℕ)) (ts : List FaceTally) → AreTallies d ws ts → Counts ts
tallies_count d ws ts are t i = let e = each_in d ws ts are.each t i in let c = e.count in let s = e.some in omega arith

-- ---- what kept tallies tell

kept_climb : (kind : Kind) (d f : ℕ) (ws : List (List ℕ)) (kept : List FaceTally) → TellTrace kind d f ws kept → Climbs key kept
kept_climb kind d f ws kept tell =
    subst (λ (l : List FaceTally). Climbs key l) (sym tell.kept_are)
    (tallies_in_climb (facet_edges kind d f) (facet_edges_ascend kind d f) tell.tallies (tallies_climb d ws tell.tallies tell.are_tallies))

kept_count : (kind : Kind) (d f : ℕ) (ws : List (List ℕ)) (kept : List FaceTally) → TellTrace kind d f ws kept → Counts kept
kept_count kind d f ws kept tell =
    subst (λ (l : List FaceTally). Counts l) (sym tell.kept_are)
    (tallies_in_count (facet_edges kind d f) tell.tallies (tallies_count d ws tell.tallies tell.are_tallies))

-- each kept tally has the places of some face in the facet
kept_places : (kind : Kind) (d f : ℕ) (ws : List (List ℕ)) (kept : List FaceTally) → TellTrace kind d f ws kept → (z : FaceTally) → In z kept
    → In z.edges (face_places kind d f)
kept_places kind d f ws kept tell z i =
    let edges = facet_edges kind d f in
    let r = in_tallies edges tell.tallies z (subst (λ (l : List FaceTally). In z l) tell.kept_are i) in
    let t = each_in d ws tell.tallies tell.are_tallies.each r.0 r.1 in
    let within : bit_and (set_number t.face) (set_number edges) ≡ set_number t.face =
    subst (λ (n : ℕ). bit_and n (set_number edges) ≡ n) t.set (within_is edges r.0.edges r.2) in
    let c : In t.face (choices (d - 1) edges) = face_in_facet d edges t.face (facet_edges_ascend kind d f) t.is_face within in
    let e : z.edges ≡ places edges (set_number t.face) = ap key r.3 ∙ ap (places edges) t.set in
    subst (λ (n : ℕ). In n (face_places kind d f)) (sym e) (In-map (λ face. places edges (set_number face)) (choices (d - 1) edges) t.face c)

agree_map : {X Y : Type 0} (p q : X → Y) (xs : List X) → map p xs ≡ map q xs → (x : X) → In x xs → p x ≡ q x
agree_map p q [] h x i = absurd i
agree_map p q (y ∷ xs) h x (inl e) = ap p e ∙ (let r : p y ≡ q y = cc in r) ∙ sym (ap q e)
agree_map p q (y ∷ xs) h x (inr i) = agree_map p q xs (let r : map p xs ≡ map q xs = cc in r) x i

-- the trace is what is found at the places of the faces
found_trace : (kind : Kind) (d f : ℕ) → IsDimension d → HasDimension kind d → (ws : List (List ℕ)) (kept : List FaceTally) → TellTrace kind d f ws kept
    → map (found kept) (face_places kind d f) ≡ trace kind d f ws
found_trace kind d f is has ws kept tell =
    let edges = facet_edges kind d f in
    let up = facet_edges_ascend kind d f in
    map-map (λ face. places edges (set_number face)) (found kept) (choices (d - 1) edges)
    ∙ map_same (λ face. found kept (places edges (set_number face))) (face_counts ws) (choices (d - 1) edges) (λ c i.
    ap (λ (l : List FaceTally). found l (places edges (set_number c))) tell.kept_are
    ∙ found_in edges up (set_number c) (choice_within (d - 1) edges c up i) tell.tallies
    ∙ found_face d ws tell.tallies tell.are_tallies c (choice_is_face d edges c (some d is) up (facet_small kind d is has f) i))
  where
    some : (n : ℕ) → IsDimension n → 1 ≤ n
    some n (inl e) = omega arith
    some n (inr (inl e)) = omega arith
    some n (inr (inr e)) = omega arith

-- what is found across a seam at the places of the faces
across_trace : (kind : Kind) (d f : ℕ) → IsDimension d → HasDimension kind d → (same : Bool) (ws : List (List ℕ)) (kept : List FaceTally)
    → TellTrace kind d f ws kept
    → map (found (tallies_across same kept)) (face_places kind d f) ≡ trace_across same (trace kind d f ws)
across_trace kind d f is has same ws kept tell =
    map_same (found (tallies_across same kept)) (λ p. counts_across same (found kept p)) (face_places kind d f) (λ p i. found_across same kept p)
    ∙ sym (map-map (found kept) (counts_across same) (face_places kind d f))
    ∙ ap (trace_across same) (found_trace kind d f is has ws kept tell)

-- ---- kept tallies and traces correspond together

pub traces_correspond : (kind : Kind) (d f g : ℕ) → IsDimension d → HasDimension kind d → (same : Bool) (ws vs : List (List ℕ)) (here there : List FaceTally)
    → face_places kind d f ≡ face_places kind d g → TellTrace kind d f ws here → TellTrace kind d g vs there
    → there ≡ tallies_across same here → trace kind d g vs ≡ trace_across same (trace kind d f ws)
traces_correspond kind d f g is has same ws vs here there e k l h =
    sym (found_trace kind d g is has vs there l) ∙ ap (λ (ts : List FaceTally). map (found ts) (face_places kind d g)) h
    ∙ ap (map (found (tallies_across same here))) (sym e) ∙ across_trace kind d f is has same ws here k

pub tallies_correspond : (kind : Kind) (d f g : ℕ) → IsDimension d → HasDimension kind d → (same : Bool) (ws vs : List (List ℕ)) (here there : List FaceTally)
    → face_places kind d f ≡ face_places kind d g → TellTrace kind d f ws here → TellTrace kind d g vs there
    → trace kind d g vs ≡ trace_across same (trace kind d f ws) → there ≡ tallies_across same here
tallies_correspond kind d f g is has same ws vs here there e k l h =
    same_tallies there (tallies_across same here) (kept_climb kind d g vs there l) (across_climb same here (kept_climb kind d f ws here k))
    (kept_count kind d g vs there l) (across_count same here (kept_count kind d f ws here k)) at
  where
    maps : map (found there) (face_places kind d g) ≡ map (found (tallies_across same here)) (face_places kind d g)
    maps = found_trace kind d g is has vs there l ∙ h ∙ sym (across_trace kind d f is has same ws here k) ∙ ap (map (found (tallies_across same here))) e

    inside : (set : ℕ) → In set (face_places kind d g) → found there set ≡ found (tallies_across same here) set
    inside set i = agree_map (found there) (found (tallies_across same here)) (face_places kind d g) maps set i

    at : (set : ℕ) → found there set ≡ found (tallies_across same here) set
    at set = elim (find_set there set) [
      | inl r ↦ inside set (subst (λ (n : ℕ). In n (face_places kind d g)) r.2 (kept_places kind d g vs there l r.0 r.1))
      | inr none ↦ elim (find_set here set) [
        | inl r ↦
            inside set
            (subst (λ (ns : List ℕ). In set ns) e (subst (λ (n : ℕ). In n (face_places kind d f)) r.2 (kept_places kind d f ws here k r.0 r.1)))
        | inr nor ↦ found_none there set none ∙ zero_across same ∙ ap (counts_across same) (sym (found_none here set nor)) ∙ sym (found_across same here set)
      ]
    ]
