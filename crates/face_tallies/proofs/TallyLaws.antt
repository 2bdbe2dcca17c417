-- When parts are tallies, and what tallies determine.
use Rattle.std.specs.Prelude.{◌≡◌, ◌≢◌, ℕ, ◌<◌, ℤ, pos, ◌+ℤ◌, Bool, true, false, ◌==◌, List, [], ◌∷◌, map, length, slice_index_or, All}
use Rattle.std.specs.Prelude.{Contains, IsPermutation, if◌then◌else◌}
use Rattle.std.proofs.Common.{refl, sym, ap, ◌∙◌, subst, arith, inl, inr}
use Rattle.std.proofs.lemmas.Int.{ints}
use Rattle.std.proofs.lemmas.Bool.{eq-eqb, ne_eqb}
use Rattle.std.proofs.lemmas.List.Sums.{sum_by-cons}
use Rattle.iso_model.specs.Faces.{face_count, face_sum}
use Rattle.face_tallies.specs.declared.faces.FaceTally.{FaceTally}
use Rattle.face_tallies.specs.Tallies.{IsFace, IsTallyOf, AreTallies}
use Rattle.face_tallies.specs.Parts.{all_parts, count_at, sum_at, IsWeighed, AddsParts}
use Rattle.face_tallies.proofs.AddedParts.{count_of, sum_of, AscendsBySets, adds_permutation}
use Rattle.face_tallies.proofs.TupleFaces.{all_count, all_sum, counted_part, part_face}
use Rattle.lists.specs.Bits.{set_number}
use Rattle.lists.specs.Members.{In, IsStrict, AscendsBy}
use Rattle.lists.proofs.Contained.{any_default}
use Rattle.lists.proofs.MemberLaws.{In_from_place, Contains_from, In-map, from_In-map}
use Rattle.lists.proofs.Ascending.{ascends_of}
use Rattle.lists.proofs.Orderings.{steps_ascend_by}
use Rattle.mesh_laws.proofs.FaceLists.{zero_sum}

-- ---- tallies that ascend

abbrev Before : FaceTally → FaceTally → Type 0
Before a b = a.edges < b.edges

before_strict : IsStrict Before
before_strict = record { irreflexive = λ x h. omega (arith, h); transitive = λ x y z h k. omega (arith, h, k) }

none_counts : (set : ℕ) (tallies : List FaceTally) → ((t : FaceTally) → In t tallies → t.edges ≢ set) → count_at set tallies ≡ 0
none_counts set [] h = refl
none_counts set (t ∷ tallies) h =
    let first : count_of set t ≡ 0 = ap (λ (b : Bool). if b then t.count else 0) (ne_eqb t.edges set (h t (inl refl))) in
    omega (arith, sum_by-cons (count_of set) t tallies, first, none_counts set tallies (λ s i. h s (inr i)))

none_sums : (set : ℕ) (tallies : List FaceTally) → ((t : FaceTally) → In t tallies → t.edges ≢ set) → sum_at set tallies ≡ pos 0
none_sums set [] h = refl
none_sums set (t ∷ tallies) h =
    zero_sum (sum_of set t) (sum_at set tallies) (ap (λ (b : Bool). if b then t.sum else pos 0) (ne_eqb t.edges set (h t (inl refl))))
    (none_sums set tallies (λ s i. h s (inr i)))

-- the count and the sum at the set of one of them are its own
pub record IsAlone (t : FaceTally) (tallies : List FaceTally) : Type 0 where
  pub count : count_at t.edges tallies ≡ t.count
  pub sum : sum_at t.edges tallies ≡ t.sum

pub alone : (tallies : List FaceTally) → AscendsBy Before tallies → (t : FaceTally) → In t tallies → IsAlone t tallies
alone [] a t i = absurd i
alone (s ∷ tallies) a t (inl e) =
    let others : (u : FaceTally) → In u tallies → u.edges ≢ t.edges = λ u j same.
    let c = Contains_from tallies u j in
    let less : s.edges < u.edges = a.0 u c in
    let first : t.edges ≡ s.edges = ap (λ (v : FaceTally). v.edges) e in
    omega (arith, less, first, same) in
    let here : (s.edges == t.edges) ≡ true = eq-eqb s.edges t.edges (ap (λ (v : FaceTally). v.edges) (sym e)) in
    let own_count : count_of t.edges s ≡ t.count = ap (λ (b : Bool). if b then s.count else 0) here ∙ ap (λ (v : FaceTally). v.count) (sym e) in
    let own_sum : sum_of t.edges s ≡ t.sum = ap (λ (b : Bool). if b then s.sum else pos 0) here ∙ ap (λ (v : FaceTally). v.sum) (sym e) in
    record {
      count = omega (arith, sum_by-cons (count_of t.edges) s tallies, own_count, none_counts t.edges tallies others);
      sum = added (sum_of t.edges s) (sum_at t.edges tallies) t.sum own_sum (none_sums t.edges tallies others);
    }
  where
    added : (x y z : ℤ) → x ≡ z → y ≡ pos 0 → x +ℤ y ≡ z
    added x y z e f = omega (arith, ints)
alone (s ∷ tallies) a t (inr i) =
    let r = alone tallies a.1 t i in
    let less : s.edges < t.edges = a.0 t (Contains_from tallies t i) in
    let other : (s.edges == t.edges) ≡ false = ne_eqb s.edges t.edges (λ same. omega (arith, less, same)) in
    let no_count : count_of t.edges s ≡ 0 = ap (λ (b : Bool). if b then s.count else 0) other in
    let no_sum : sum_of t.edges s ≡ pos 0 = ap (λ (b : Bool). if b then s.sum else pos 0) other in
    record {
      count = omega (arith, sum_by-cons (count_of t.edges) s tallies, no_count, r.count);
      sum = added (sum_of t.edges s) (sum_at t.edges tallies) t.sum no_sum r.sum;
    }
  where
    added : (x y z : ℤ) → x ≡ pos 0 → y ≡ z → x +ℤ y ≡ z
    added x y z e f = omega (arith, ints)

-- ---- parts of all faces are tallies where they ascend

pub tallies_of_parts : (d : ℕ) (ws : List (List ℕ)) (tallies : List FaceTally) → All (λ w. length w ≡ d) ws → All (λ w. All (λ e. e < 32) w) ws
    → ((set : ℕ) → count_at set tallies ≡ count_at set (all_parts ws)) → ((set : ℕ) → sum_at set tallies ≡ sum_at set (all_parts ws))
    → All IsWeighed tallies → AscendsBySets tallies → AreTallies d ws tallies
tallies_of_parts d ws tallies wide small count sum weighed up_to = record {
  ascending = up_to;
  each =
      λ k t h.
      of_tally (slice_index_or tallies k t)
      (In_from_place tallies (slice_index_or tallies k t) k h (any_default tallies k (slice_index_or tallies k t) t h)) (weighed k t h);
  whole = λ face f some.
      let r = counted_part (set_number face) tallies (omega (arith, some, count (set_number face), all_count face ws (ascends_of face f.ascending))) in
      Contains_from (map (λ (t : FaceTally). t.edges) tallies) (set_number face)
      (subst (λ s. In s (map (λ (t : FaceTally). t.edges) tallies)) r.2 (In-map (λ (t : FaceTally). t.edges) tallies r.0 r.1));
}
  where
    of_tally : (t : FaceTally) → In t tallies → IsWeighed t → IsTallyOf d ws t
    of_tally t i w =
        let r = alone tallies (steps_ascend_by Before before_strict tallies up_to) t i in
        let fs = part_face d t.edges ws wide small (omega (arith, w.some, r.count, count t.edges)) in
        let a = ascends_of fs.face fs.is_face.ascending in
        let counted : t.count ≡ face_count ws fs.face = sym r.count ∙ count t.edges ∙ ap (λ s. count_at s (all_parts ws)) fs.number ∙ all_count fs.face ws a in
        let summed : t.sum ≡ face_sum ws fs.face = sym r.sum ∙ sum t.edges ∙ ap (λ s. sum_at s (all_parts ws)) fs.number ∙ all_sum fs.face ws a in
        record { face = fs.face; is_face = fs.is_face; set = fs.number; some = omega (arith, w.some, counted); count = counted; sum = summed }

pub tallies_of_merge : (d : ℕ) (ws : List (List ℕ)) (gathered ordered tallies : List FaceTally) → All (λ w. length w ≡ d) ws → All (λ w. All (λ e. e < 32) w) ws
    → AddsParts (all_parts ws) [] gathered → IsPermutation gathered ordered → AddsParts ordered [] tallies → AscendsBySets tallies → AreTallies d ws tallies
tallies_of_merge d ws gathered ordered tallies wide small a p b up_to =
    let c = adds_permutation (all_parts ws) [] gathered ordered a p in
    tallies_of_parts d ws tallies wide small (λ set. omega (arith, b.count set, c.count set))
    (λ set. same (sum_at set tallies) (sum_at set ordered) (sum_at set (all_parts ws)) (b.sum set) (c.sum set)) b.weighed up_to
  where
    same : (x y z : ℤ) → x ≡ pos 0 +ℤ y → y ≡ pos 0 +ℤ z → x ≡ z
    same x y z e f = omega (arith, ints)

-- ---- what tallies determine

-- the tally of a face's set, where the face is had
pub tally_of_face : (d : ℕ) (ws : List (List ℕ)) (tallies : List FaceTally) → AreTallies d ws tallies → (face : List ℕ) → IsFace d face → 0 < face_count ws face
    → (t : FaceTally) × Contains tallies t × (t.edges ≡ set_number face)
tally_of_face d ws tallies a face f some =
    let c = a.whole face f some in
    let i =
    from_In-map (λ (t : FaceTally). t.edges) tallies (set_number face)
    (In_from_place (map (λ (t : FaceTally). t.edges) tallies) (set_number face) c.0 c.1 c.2) in
    (i.0, Contains_from tallies i.0 i.1, sym i.2)
