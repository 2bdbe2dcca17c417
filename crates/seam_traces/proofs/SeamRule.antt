-- The rule of seams at a label, by patterns and traces.
use Rattle.std.specs.Prelude.{◌≡◌, ℕ, ℤ, pos, ◌+ℤ◌, zero, suc, ◌+◌, ◌-◌, ◌*◌, ◌<◌, Bool, true, false, not, ◌&&◌, ◌==◌, List, [], ◌∷◌}
use Rattle.std.specs.Prelude.{Option, Some, None, MatchOption, is_some, IsTrue, map, length, slice_index_or, if◌then◌else◌}
use Rattle.std.specs.List.{list_all, range_with_len}
use Rattle.std.proofs.Common.{refl, sym, ap, ◌∙◌, subst, arith, inl, inr}
use Rattle.std.proofs.lemmas.Bool.{false≢true, eq-eqb, eqb-true, and_parts, and_from}
use Rattle.std.proofs.lemmas.Int.{ints}
use Rattle.iso_model.specs.declared.Kind.{Kind}
use Rattle.lists.specs.Orders.{choices}
use Rattle.iso_model.specs.Turns.{signed}
use Rattle.iso_model.specs.Cells.{facet_corners, facet_edges, label_count}
use Rattle.iso_model.specs.Seams.{Seam, seam, corner_across, edge_across}
use Rattle.iso_model.specs.CellLaws.{MeetsCorners, KeepsEdges}
use Rattle.iso_model.specs.Faces.{face_count, face_sum}
use Rattle.iso_model.specs.Tables.{Table, entry_of}
use Rattle.iso_model.specs.Acceptance.{labels_meet, sums_match, entries_meet, meets_across, rule_seams}
use Rattle.seam_traces.specs.Traces.{number_of_bits, pattern, trace, trace_across, keeps_seam}
use Rattle.seam_traces.specs.declared.clashes.Clash.{Clash}
use Rattle.seam_traces.specs.Clashes.{IsLeastFailing, ClashesAt, IsFirstClash, TellsClash}
use Rattle.seam_traces.proofs.ChosenFaces.{choices-map}
use Rattle.seam_traces.proofs.Lookups.{counts_across}
use Rattle.seam_traces.proofs.KeptTraces.{face_counts}
use Rattle.lists.specs.Bits.{is_set}
use Rattle.lists.proofs.MemberLaws.{map-map}
use Rattle.lists.proofs.Tests.{not_or, not_or_from, same_if}
use Rattle.iso_model.proofs.PointLaws.{same_int-is, is-same_int}

-- ---- patterns

bits_apart : (a b : Bool) (m n : ℕ) → (if a then 1 else 0) + 2 * m ≡ (if b then 1 else 0) + 2 * n → (a ≡ b) × (m ≡ n)
bits_apart true true m n h = (refl, omega arith)
bits_apart true false m n h = absurd (omega arith)
bits_apart false true m n h = absurd (omega arith)
bits_apart false false m n h = (refl, omega arith)

same_bit : (a b : Bool) → (if a then b else not b) ≡ true → a ≡ b
same_bit true b h = sym h
same_bit false true h = absurd (false≢true h)
same_bit false false h = refl

same_patterns : (p q : ℕ → Bool) (across : ℕ → ℕ) (ks : List ℕ) → list_all (λ k. if p k then q (across k) else not (q (across k))) ks ≡ true
    → number_of_bits (map p ks) ≡ number_of_bits (map q (map across ks))
same_patterns p q across [] h = refl
same_patterns p q across (k ∷ ks) h =
    let r = and_parts (if p k then q (across k) else not (q (across k))) (list_all (λ k. if p k then q (across k) else not (q (across k))) ks) h in
    let one = same_bit (p k) (q (across k)) r.0 in
    let rest = same_patterns p q across ks r.1 in
    cc

patterns_same : (p q : ℕ → Bool) (across : ℕ → ℕ) (ks : List ℕ) → number_of_bits (map p ks) ≡ number_of_bits (map q (map across ks))
    → list_all (λ k. if p k then q (across k) else not (q (across k))) ks ≡ true
patterns_same p q across [] h = refl
patterns_same p q across (k ∷ ks) h =
    let r = bits_apart (p k) (q (across k)) (number_of_bits (map p ks)) (number_of_bits (map q (map across ks))) h in
    and_from (if p k then q (across k) else not (q (across k))) (list_all (λ k. if p k then q (across k) else not (q (across k))) ks)
    (same_if (p k) (q (across k)) r.0) (patterns_same p q across ks r.1)

-- labels agree on the corners that meet across a seam exactly where their patterns are equal
meet_patterns : (kind : Kind) (d : ℕ) (s : Seam) (here there : ℕ) → MeetsCorners kind d s → labels_meet kind d s here there ≡ true
    → pattern kind d s.facet here ≡ pattern kind d s.other there
meet_patterns kind d s here there m h =
    same_patterns (is_set here) (is_set there) (corner_across kind d s) (facet_corners kind d s.facet) h ∙ ap (λ ks. number_of_bits (map (is_set there) ks)) m

patterns_meet : (kind : Kind) (d : ℕ) (s : Seam) (here there : ℕ) → MeetsCorners kind d s → pattern kind d s.facet here ≡ pattern kind d s.other there
    → labels_meet kind d s here there ≡ true
patterns_meet kind d s here there m h =
    patterns_same (is_set here) (is_set there) (corner_across kind d s) (facet_corners kind d s.facet)
    (h ∙ sym (ap (λ ks. number_of_bits (map (is_set there) ks)) m))

-- ---- traces

sums_signed : (same : Bool) (a b : ℤ) → sums_match same a b ≡ true → b ≡ signed same a
sums_signed true a b h = let e = same_int-is (a +ℤ b) (pos 0) h in omega (arith, ints)
sums_signed false a b h = sym (same_int-is a b h)

signed_sums : (same : Bool) (a b : ℤ) → b ≡ signed same a → sums_match same a b ≡ true
signed_sums true a b h = is-same_int (a +ℤ b) (pos 0) (omega (arith, ints))
signed_sums false a b h = is-same_int a b (sym h)

all_to_map : {X Y : Type 0} (p : X → Bool) (a b : X → Y) → ((x : X) → p x ≡ true → a x ≡ b x) → (xs : List X) → list_all p xs ≡ true → map a xs ≡ map b xs
all_to_map p a b f [] h = refl
all_to_map p a b f (x ∷ xs) h =
    let r = and_parts (p x) (list_all p xs) h in
    let one = f x r.0 in
    let rest = all_to_map p a b f xs r.1 in
    cc

map_to_all : {X Y : Type 0} (p : X → Bool) (a b : X → Y) → ((x : X) → a x ≡ b x → p x ≡ true) → (xs : List X) → map a xs ≡ map b xs → list_all p xs ≡ true
map_to_all p a b f [] h = refl
map_to_all p a b f (x ∷ xs) h =
    and_from (p x) (list_all p xs) (f x (let e : a x ≡ b x = cc in e)) (map_to_all p a b f xs (let e : map a xs ≡ map b xs = cc in e))

-- what the trace on the other side is, over the choices of this side
other_trace : (kind : Kind) (d : ℕ) (s : Seam) (there : List (List ℕ)) → KeepsEdges kind d s
    → map (λ face. face_counts there (map (edge_across kind d s) face)) (choices (d - 1) (facet_edges kind d s.facet)) ≡ trace kind d s.other there
other_trace kind d s there keeps =
    sym (map-map (map (edge_across kind d s)) (face_counts there) (choices (d - 1) (facet_edges kind d s.facet)))
    ∙ ap (map (face_counts there)) (sym (choices-map (edge_across kind d s) (d - 1) (facet_edges kind d s.facet)))
    ∙ ap (λ es. map (face_counts there) (choices (d - 1) es)) keeps

-- the test of a face
abbrev face_meets : Kind → ℕ → Seam → List (List ℕ) → List (List ℕ) → List ℕ → Bool
face_meets kind d s here there face =
    face_count here face == face_count there (map (edge_across kind d s) face)
    && sums_match s.same_parity (face_sum here face) (face_sum there (map (edge_across kind d s) face))

-- entries meet across a seam exactly where their traces correspond
entries_traces : (kind : Kind) (d : ℕ) (s : Seam) (here there : List (List ℕ)) → KeepsEdges kind d s → entries_meet kind d s here there ≡ true
    → trace kind d s.other there ≡ trace_across s.same_parity (trace kind d s.facet here)
entries_traces kind d s here there keeps h =
    sym (other_trace kind d s there keeps)
    ∙ sym (all_to_map (face_meets kind d s here there) (λ face. counts_across s.same_parity (face_counts here face))
    (λ face. face_counts there (map (edge_across kind d s) face)) each
    (choices (d - 1) (facet_edges kind d s.facet)) h)
    ∙ sym (map-map (face_counts here) (counts_across s.same_parity) (choices (d - 1) (facet_edges kind d s.facet)))
  where
    each : (face : List ℕ) → face_meets kind d s here there face ≡ true
        → counts_across s.same_parity (face_counts here face) ≡ face_counts there (map (edge_across kind d s) face)
    each face t =
        let other = map (edge_across kind d s) face in
        let r = and_parts (face_count here face == face_count there other) (sums_match s.same_parity (face_sum here face) (face_sum there other)) t in
        let c = eqb-true (face_count here face) (face_count there other) r.0 in
        let z = sums_signed s.same_parity (face_sum here face) (face_sum there other) r.1 in
        cc

traces_entries : (kind : Kind) (d : ℕ) (s : Seam) (here there : List (List ℕ)) → KeepsEdges kind d s
    → trace kind d s.other there ≡ trace_across s.same_parity (trace kind d s.facet here) → entries_meet kind d s here there ≡ true
traces_entries kind d s here there keeps h =
    map_to_all (face_meets kind d s here there) (λ face. counts_across s.same_parity (face_counts here face))
    (λ face. face_counts there (map (edge_across kind d s) face)) each
    (choices (d - 1) (facet_edges kind d s.facet))
    (sym (map-map (face_counts here) (counts_across s.same_parity) (choices (d - 1) (facet_edges kind d s.facet))) ∙ sym h
    ∙ sym (other_trace kind d s there keeps))
  where
    each : (face : List ℕ) → counts_across s.same_parity (face_counts here face) ≡ face_counts there (map (edge_across kind d s) face)
        → face_meets kind d s here there face ≡ true
    each face e =
        let other = map (edge_across kind d s) face in
        and_from (face_count here face == face_count there other) (sums_match s.same_parity (face_sum here face) (face_sum there other))
        (eq-eqb (face_count here face) (face_count there other) (ap (λ (p : ℕ × ℤ). p.0) e))
        (signed_sums s.same_parity (face_sum here face) (face_sum there other) (sym (ap (λ (p : ℕ × ℤ). p.1) e)))

-- ---- a label at the ends of a seam

-- a label keeps the rule with one facet towards another: each label with this pattern there has the corresponding trace
abbrev pub Corresponds : Table → ℕ → ℕ → ℕ → Bool → ℕ → Type 0
Corresponds t n f g same label =
    (m : ℕ) → m < n → pattern t.kind t.dimension g m ≡ pattern t.kind t.dimension f label
    → trace t.kind t.dimension g (entry_of t m) ≡ trace_across same (trace t.kind t.dimension f (entry_of t label))

-- a label is the least below n with the pattern of a label on another facet whose trace does not correspond to its own
pub record IsLeastAgainst (t : Table) (n f g : ℕ) (same : Bool) (label m : ℕ) : Type 0 where
  pub is_label : m < n
  pub has_pattern : pattern t.kind t.dimension g m ≡ pattern t.kind t.dimension f label
  pub differs : trace t.kind t.dimension g (entry_of t m) ≡ trace_across same (trace t.kind t.dimension f (entry_of t label)) → ⊥
  pub before : Corresponds t m f g same label

-- the answer is the least label against a label, and none where all correspond
abbrev pub TellsAgainst : Table → ℕ → ℕ → ℕ → Bool → ℕ → Option ℕ → Type 0
TellsAgainst t n f g same label answer = MatchOption answer (Corresponds t n f g same label) (IsLeastAgainst t n f g same label)

meets_traces : (t : Table) (s : Seam) (here there : ℕ) → MeetsCorners t.kind t.dimension s → KeepsEdges t.kind t.dimension s
    → meets_across t s here there ≡ true
    → pattern t.kind t.dimension s.facet here ≡ pattern t.kind t.dimension s.other there
    → trace t.kind t.dimension s.other (entry_of t there) ≡ trace_across s.same_parity (trace t.kind t.dimension s.facet (entry_of t here))
meets_traces t s here there m k h e =
    entries_traces t.kind t.dimension s (entry_of t here) (entry_of t there) k
    (not_or (labels_meet t.kind t.dimension s here there) (entries_meet t.kind t.dimension s (entry_of t here) (entry_of t there)) h
    (patterns_meet t.kind t.dimension s here there m e))

traces_meets : (t : Table) (s : Seam) (here there : ℕ) → MeetsCorners t.kind t.dimension s → KeepsEdges t.kind t.dimension s
    → (pattern t.kind t.dimension s.facet here ≡ pattern t.kind t.dimension s.other there
    → trace t.kind t.dimension s.other (entry_of t there) ≡ trace_across s.same_parity (trace t.kind t.dimension s.facet (entry_of t here)))
    → meets_across t s here there ≡ true
traces_meets t s here there m k f =
    not_or_from (labels_meet t.kind t.dimension s here there) (entries_meet t.kind t.dimension s (entry_of t here) (entry_of t there))
    (λ l. traces_entries t.kind t.dimension s (entry_of t here) (entry_of t there) k (f (meet_patterns t.kind t.dimension s here there m l)))

twice : (same : Bool) (z : ℤ) → signed same (signed same z) ≡ z
twice true z = omega (arith, ints)
twice false z = refl

back : (same : Bool) (cs : List (ℕ × ℤ)) → trace_across same (trace_across same cs) ≡ cs
back same [] = refl
back same (c ∷ cs) =
    let e = twice same c.1 in let r = back same cs in let one : counts_across same (counts_across same c) ≡ c = ap (λ (z : ℤ). with_sum c.0 z) e in cc
  where
    with_sum : ℕ → ℤ → ℕ × ℤ
    with_sum n z = (n, z)

crossed : (same : Bool) (cs ds : List (ℕ × ℤ)) → cs ≡ trace_across same ds → ds ≡ trace_across same cs
crossed same cs ds e = sym (back same ds) ∙ ap (trace_across same) (sym e)

each_below : (p : ℕ → Bool) (a n : ℕ) → list_all p (range_with_len a n) ≡ true → (m : ℕ) → m < n → p (a + m) ≡ true
each_below p a zero h m less = absurd (omega arith)
each_below p a (suc n) h zero less = let e : a ≡ a + 0 = omega arith in subst (λ k. p k ≡ true) e (and_parts (p a) (list_all p (range_with_len (a + 1) n)) h).0
each_below p a (suc n) h (suc m) less =
    let e : a + 1 + m ≡ a + suc m = omega arith in
    subst (λ k. p k ≡ true) e (each_below p (a + 1) n (and_parts (p a) (list_all p (range_with_len (a + 1) n)) h).1 m (omega arith))

below_each : (p : ℕ → Bool) (a n : ℕ) → ((m : ℕ) → m < n → p (a + m) ≡ true) → list_all p (range_with_len a n) ≡ true
below_each p a zero f = refl
below_each p a (suc n) f =
    and_from (p a) (list_all p (range_with_len (a + 1) n)) (let e : a + 0 ≡ a = omega arith in subst (λ k. p k ≡ true) e (f 0 (omega arith)))
    (below_each p (a + 1) n (λ m less. let e : a + suc m ≡ a + 1 + m = omega arith in subst (λ k. p k ≡ true) e (f (suc m) (omega arith))))

-- ---- the two directions of a seam

-- the label at the first facet of a seam meets each label at its second
abbrev pub MeetsForwards : Table → ℕ → Seam → Type 0
MeetsForwards t label s = (m : ℕ) → m < label_count t.kind t.dimension → IsTrue (meets_across t s label m)

-- the label at the second facet of a seam meets each label at its first
abbrev pub MeetsBackwards : Table → ℕ → Seam → Type 0
MeetsBackwards t label s = (m : ℕ) → m < label_count t.kind t.dimension → IsTrue (meets_across t s m label)

-- the answer is the least label that a label at the first facet does not meet at the second, and none where it meets each
abbrev pub TellsForwards : Table → ℕ → Seam → Option ℕ → Type 0
TellsForwards t label s answer =
    MatchOption answer (MeetsForwards t label s) (IsLeastFailing (λ m. meets_across t s label m) (label_count t.kind t.dimension))

-- the answer is the least label that a label at the second facet does not meet at the first, and none where it meets each
abbrev pub TellsBackwards : Table → ℕ → Seam → Option ℕ → Type 0
TellsBackwards t label s answer =
    MatchOption answer (MeetsBackwards t label s) (IsLeastFailing (λ m. meets_across t s m label) (label_count t.kind t.dimension))

pub forwards : (t : Table) (label : ℕ) (s : Seam) (answer : Option ℕ) → MeetsCorners t.kind t.dimension s → KeepsEdges t.kind t.dimension s
    → TellsAgainst t (label_count t.kind t.dimension) s.facet s.other s.same_parity label answer → TellsForwards t label s answer
forwards t label s None corners edges all = λ m less. traces_meets t s label m corners edges (λ p. all m less (sym p))
forwards t label s (Some m) corners edges h = record {
  below = h.is_label;
  fails = λ meets. h.differs (meets_traces t s label m corners edges meets (sym h.has_pattern));
  least = λ k less. traces_meets t s label k corners edges (λ p. h.before k less (sym p));
}

pub backwards : (t : Table) (label : ℕ) (s : Seam) (answer : Option ℕ) → MeetsCorners t.kind t.dimension s → KeepsEdges t.kind t.dimension s
    → TellsAgainst t (label_count t.kind t.dimension) s.other s.facet s.same_parity label answer → TellsBackwards t label s answer
backwards t label s None corners edges all = λ m less.
    traces_meets t s m label corners edges
    (λ p.
    crossed s.same_parity (trace t.kind t.dimension s.facet (entry_of t m)) (trace t.kind t.dimension s.other (entry_of t label)) (all m less p))
backwards t label s (Some m) corners edges h = record {
  below = h.is_label;
  fails = λ meets. h.differs (
      crossed s.same_parity (trace t.kind t.dimension s.other (entry_of t label)) (trace t.kind t.dimension s.facet (entry_of t m))
      (meets_traces t s m label corners edges meets h.has_pattern));
  least = λ k less.
      traces_meets t s k label corners edges
      (λ p.
      crossed s.same_parity (trace t.kind t.dimension s.facet (entry_of t k)) (trace t.kind t.dimension s.other (entry_of t label)) (h.before k less p));
}

-- ---- a label keeps the rule at a seam exactly where it meets each label in both directions

pub meets_both : (t : Table) (label : ℕ) (s : Seam) → keeps_seam t label s ≡ true → (m : ℕ) → m < label_count t.kind t.dimension
    → (meets_across t s label m ≡ true) × (meets_across t s m label ≡ true)
meets_both t label s h m less =
    let e : 0 + m ≡ m = omega arith in
    let at = each_below (λ m. meets_across t s label m && meets_across t s m label) 0 (label_count t.kind t.dimension) h m less in
    and_parts (meets_across t s label m) (meets_across t s m label) (subst (λ k. (meets_across t s label k && meets_across t s k label) ≡ true) e at)

pub both_kept : (t : Table) (label : ℕ) (s : Seam) → MeetsForwards t label s → MeetsBackwards t label s → keeps_seam t label s ≡ true
both_kept t label s one two =
    below_each (λ m. meets_across t s label m && meets_across t s m label) 0 (label_count t.kind t.dimension) (λ m less.
    let e : m ≡ 0 + m = omega arith in
    subst (λ k. (meets_across t s label k && meets_across t s k label) ≡ true) e
    (and_from (meets_across t s label m) (meets_across t s m label) (one m less) (two m less)))

-- a label with a clash at a seam breaks the rule there
pub clash_fails : (t : Table) (label : ℕ) (s : Seam) (c : Clash) → ClashesAt t label s c → keeps_seam t label s ≡ true → ⊥
clash_fails t label s c (inl f) kept = f.other.fails (meets_both t label s kept c.other f.other.below).0
clash_fails t label s c (inr b) kept = b.other.fails (meets_both t label s kept c.other b.other.below).1

-- ---- all seams

pub keeps_all : (t : Table) (label : ℕ) (ss : List Seam)
    → ((k : ℕ) (s : Seam) → k < length ss → keeps_seam t label (slice_index_or ss k s) ≡ true) → rule_seams ss t label ≡ true
keeps_all t label [] h = refl
keeps_all t label (s ∷ ss) h =
    and_from (keeps_seam t label s) (rule_seams ss t label) (h 0 s (omega arith)) (keeps_all t label ss (λ k x less. h (suc k) x (omega arith)))

-- a label that keeps the rule over seams keeps it at each
pub kept_each : (t : Table) (label : ℕ) (ss : List Seam) (k : ℕ) (s : Seam) → k < length ss → rule_seams ss t label ≡ true
    → keeps_seam t label (slice_index_or ss k s) ≡ true
kept_each t label [] k s less h = absurd (omega arith)
kept_each t label (x ∷ ss) zero s less h = (and_parts (keeps_seam t label x) (rule_seams ss t label) h).0
kept_each t label (x ∷ ss) (suc k) s less h = kept_each t label ss k s (omega arith) (and_parts (keeps_seam t label x) (rule_seams ss t label) h).1

-- a label with a first clash breaks the rule
pub first_clash_fails : (ss : List Seam) (t : Table) (label : ℕ) (c : Clash) → IsFirstClash ss t label c → rule_seams ss t label ≡ true → ⊥
first_clash_fails ss t label c first kept =
    let none = seam 0 0 false in
    clash_fails t label (slice_index_or ss first.place none) c (first.clashes none) (kept_each t label ss first.place none first.inside kept)

-- the rule of seams, by whether a first clash is answered
pub told_rule : (ss : List Seam) (t : Table) (label : ℕ) (answer : Option Clash) (b : Bool) → is_some answer ≡ not b → TellsClash ss t label answer
    → b ≡ rule_seams ss t label
told_rule ss t label None true e kept = sym kept
told_rule ss t label None false e kept = absurd (false≢true e)
told_rule ss t label (Some c) true e first = absurd (false≢true (sym e))
told_rule ss t label (Some c) false e first = no_from (rule_seams ss t label) (first_clash_fails ss t label c first)
  where
    no_from : (b : Bool) → (b ≡ true → ⊥) → false ≡ b
    no_from true h = absurd (h refl)
    no_from false h = refl
