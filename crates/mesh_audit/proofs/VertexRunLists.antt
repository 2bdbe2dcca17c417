-- The triangles at each vertex, side by side in a sorted list.
use Rattle.std.proofs.Common.{Bool, List, [], ap, arith, drop, false, inl, inr, length, not, refl, subst, suc, sym, take, true, zero, ℕ, ◌++◌, ◌+◌, ◌-◌, ◌<◌}
use Rattle.std.proofs.Common.{◌≡◌, ◌≤◌, ◌∙◌, ◌∷◌}
use Rattle.std.specs.Prelude.{All, cond, count_by, filter, is_some, map, nat_eq, nat_lt, None, Option, slice_index_or, Some, ◌&&◌, ◌==◌, ◌≢◌, if◌then◌else◌}
use Rattle.std.specs.List.Sorted.{IsNonDecreasingBy, IsPermutation}
use Rattle.std.proofs.lemmas.Bool.{both_ways, false_from_ne_true}
use Rattle.std.proofs.lemmas.List.{append_assoc, length-append, length-map, map-append, take_more}
use Rattle.std.proofs.lemmas.List.Elements.{All-append, All-push, filter-append}
use Rattle.std.proofs.lemmas.List.Sorted.{All-permutation, length_permutation, sum_by-IsPermutation}
use Rattle.lists.specs.Members.{Distinct, In}
use Rattle.lists.specs.Orders.{inversions, is_distinct, numbers}
use Rattle.lists.proofs.Ascending.{Ascends-filter, Ascends-range}
use Rattle.lists.proofs.Contained.{any_default, Contains-at}
use Rattle.lists.proofs.Counts.{count_none, not_there}
use Rattle.lists.proofs.DistinctLists.{from_distinct_test}
use Rattle.lists.proofs.MemberLaws.{All-from_In, Contains_from, from_filter, from_In-map, from_In-numbers, In_from, In-filter, In-map, range-push}
use Rattle.lists.proofs.Sorting.{bit, count_by-cons}
use Rattle.lists.proofs.Tests.{equal_of, equal_self, lt_of, nat_eq-sym, of_lt, same_number}
use Rattle.iso_model.specs.Walks.{reading, triangles_at, turned, walk}
use Rattle.mesh_laws.specs.declared.rounds.Corner.{Corner}
use Rattle.mesh_laws.specs.Rounds.{corner_of, numbers_of}
use Rattle.mesh_laws.proofs.FaceLists.{ascends_inversions}
use Rattle.mesh_laws.proofs.OnceInLists.{same_in_order}
use Rattle.std.proofs.lemmas.Bool.{cases_lt}
use Rattle.mesh_audit.specs.declared.links.Incidence.{Incidence}
use Rattle.mesh_audit.specs.declared.findings.Finding.TheVariants.{Link}
use Rattle.mesh_audit.specs.Findings.{AllGlued, has_wrong_link, HasFinding, is_trail_right, NoneRepeats}
use Rattle.mesh_audit.specs.VertexRuns.{AreAt, AreFirstCorners, AreIncidences, AreIncidencesBelow, AreRightBefore, IsLeastLink, IsRun}
use Rattle.mesh_audit.specs.VertexRuns.{incidences_of, rank_of, triangles_in}
use Rattle.mesh_audit.specs.VertexRuns.{NoWrongLink, vertex_of}

-- an incidence is at a vertex
abbrev pub is_at : ℕ → Incidence → Bool
is_at k e = nat_eq k e.vertex

-- ---- the incidences of one triangle more

triangles-append : (es fs : List Incidence) (k : ℕ) → triangles_in (es ++ fs) k ≡ triangles_in es k ++ triangles_in fs k
triangles-append es fs k =
    ap (map (λ (e : Incidence). e.triangle)) (filter-append (is_at k) es fs)
    ∙ map-append (λ (e : Incidence). e.triangle) (filter (is_at k) es) (filter (is_at k) fs)

one_triangle : (n : ℕ) (w : List ℕ) (k : ℕ) → length w ≡ 3 → is_distinct w ≡ true
    → triangles_in (incidences_of n w) k ≡ cond (is_some (turned k w)) (n ∷ []) []
one_triangle n [] k e d = absurd (omega (arith, e))
one_triangle n (a ∷ []) k e d = absurd (omega (arith, e))
one_triangle n (a ∷ b ∷ []) k e d = absurd (omega (arith, e))
one_triangle n (a ∷ b ∷ c ∷ x ∷ v) k e d = absurd (omega (arith, e))
one_triangle n (a ∷ b ∷ c ∷ []) k e d = by_tests (nat_eq k a) (nat_eq k b) (nat_eq k c) refl refl refl
  where
    unlike : (x y : ℕ) (xs : List ℕ) → count_by (nat_eq x) xs ≡ 0 → In y xs → nat_eq k x ≡ true → nat_eq k y ≡ true → ⊥
    unlike x y xs none i s t =
        let same : x ≡ y = same_number k x s ∙ sym (same_number k y t) in
        not_there x xs none (subst (λ (z : ℕ). In z xs) (sym same) i)

    apart : Distinct (a ∷ b ∷ c ∷ [])
    apart = from_distinct_test (a ∷ b ∷ c ∷ []) d

    by_tests : (p q r : Bool) → nat_eq k a ≡ p → nat_eq k b ≡ q → nat_eq k c ≡ r
        → triangles_in (incidences_of n (a ∷ b ∷ c ∷ [])) k ≡ cond (is_some (turned k (a ∷ b ∷ c ∷ []))) (n ∷ []) []
    by_tests true true r s t u = absurd (unlike a b (b ∷ c ∷ []) apart.0 (inl refl) s t)
    by_tests true false true s t u = absurd (unlike a c (b ∷ c ∷ []) apart.0 (inr (inl refl)) s u)
    by_tests false true true s t u = absurd (unlike b c (c ∷ []) apart.1.0 (inl refl) t u)
    by_tests true false false s t u = let s' = nat_eq-sym a k ∙ s in simp (s, t, u, s')
    by_tests false true false s t u = let s' = nat_eq-sym a k ∙ s in let t' = nat_eq-sym b k ∙ t in simp (s, t, u, s', t')
    by_tests false false true s t u =
        let s' = nat_eq-sym a k ∙ s in
        let t' = nat_eq-sym b k ∙ t in
        let u' = nat_eq-sym c k ∙ u in
        simp (s, t, u, s', t', u')
    by_tests false false false s t u =
        let s' = nat_eq-sym a k ∙ s in
        let t' = nat_eq-sym b k ∙ t in
        let u' = nat_eq-sym c k ∙ u in
        simp (s, t, u, s', t', u')

-- a triangle at one of its numbers more
pub incidence_more : (t : ℕ) (w : List ℕ) (i : ℕ) (old : List Incidence) → i < length w
    → (old ++ incidences_of t (take i w)) ++ record { vertex = slice_index_or w i 0; triangle = t } ∷ [] ≡ old ++ incidences_of t (take (i + 1) w)
incidence_more t w i old h =
    let v = slice_index_or w i 0 in
    let make : ℕ → Incidence = λ x. record { vertex = x; triangle = t } in
    append_assoc old (map make (take i w)) (make v ∷ [])
    ∙ ap (λ (l : List Incidence). old ++ l) (sym (map-append make (take i w) (v ∷ [])) ∙ ap (map make) (sym (take_more w i 0 h)))

pub incidences_more : (n : ℕ) (ws : List (List ℕ)) (es : List Incidence) (w : List ℕ) → n < length ws → w ≡ slice_index_or ws n [] → length w ≡ 3
    → is_distinct w ≡ true → AreIncidencesBelow n ws es → AreIncidencesBelow (n + 1) ws (es ++ incidences_of n w)
incidences_more n ws es w h same long d a = record {
  inside = All-append (λ (e : Incidence). e.triangle < length ws) es (incidences_of n w) a.inside
      (All-from_In (λ (e : Incidence). e.triangle < length ws) (incidences_of n w) (λ e i.
      let r = from_In-map (λ v. make v) w e i in
      let t : e.triangle ≡ n = ap (λ (f : Incidence). f.triangle) r.2 in
      omega (arith, t, h)));
  few = omega (arith, length-append es (incidences_of n w), a.few, length-map w (λ v. make v), long);
  at_each = λ k.
      triangles-append es (incidences_of n w) k
      ∙ ap (λ (ts : List ℕ). ts ++ triangles_in (incidences_of n w) k) (a.at_each k)
      ∙ ap (λ (ts : List ℕ). filter (λ t. is_some (reading ws k t)) (numbers n) ++ ts) (one_triangle n w k long d)
      ∙ sym (one_more k);
}
  where
    make : ℕ → Incidence
    make v = record { vertex = v; triangle = n }

    at_n : 0 + n ≡ n
    at_n = omega arith

    one_more : (k : ℕ) → filter (λ t. is_some (reading ws k t)) (numbers (n + 1))
        ≡ filter (λ t. is_some (reading ws k t)) (numbers n) ++ cond (is_some (turned k w)) (n ∷ []) []
    one_more k =
        ap (filter (λ t. is_some (reading ws k t))) (range-push 0 n ∙ ap (λ (x : ℕ). numbers n ++ (x ∷ [])) at_n)
        ∙ filter-append (λ t. is_some (reading ws k t)) (numbers n) (n ∷ [])
        ∙ ap (λ (v : List ℕ). filter (λ t. is_some (reading ws k t)) (numbers n) ++ cond (is_some (turned k v)) (n ∷ []) []) (sym same)

-- ---- sorting

count_in : (p : ℕ → Bool) (es : List Incidence) (k : ℕ) → count_by p (triangles_in es k) ≡ count_by (λ (e : Incidence). is_at k e && p e.triangle) es
count_in p [] k = refl
count_in p (e ∷ es) k = by_test (is_at k e) refl (count_in p es k)
  where
    by_test : (b : Bool) → is_at k e ≡ b → count_by p (triangles_in es k) ≡ count_by (λ (f : Incidence). is_at k f && p f.triangle) es
        → count_by p (map (λ (f : Incidence). f.triangle) (cond b (e ∷ filter (is_at k) es) (filter (is_at k) es)))
        ≡ count_by (λ (f : Incidence). is_at k f && p f.triangle) (e ∷ es)
    by_test true t later =
        omega (
          arith,
          count_by-cons (λ (f : Incidence). is_at k f && p f.triangle) e es,
          ap (λ (b : Bool). bit (b && p e.triangle)) t,
          count_by-cons p e.triangle (triangles_in es k),
          later,
        )
    by_test false t later =
        omega (
          arith,
          count_by-cons (λ (f : Incidence). is_at k f && p f.triangle) e es,
          ap (λ (b : Bool). bit (b && p e.triangle)) t,
          later,
        )

in_order : (es : List Incidence) (k : ℕ) → IsNonDecreasingBy rank_of es → inversions (triangles_in es k) ≡ 0
in_order [] k up = refl
in_order (e ∷ es) k up = by_test (is_at k e) refl (in_order es k (λ i j d l h. up (suc i) (suc j) d (omega (arith, l)) (omega (arith, h))))
  where
    above : k ≡ e.vertex → (z : ℕ) → In z (triangles_in es k) → nat_lt z e.triangle ≡ true → ⊥
    above same z i t =
        let r = from_In-map (λ (f : Incidence). f.triangle) (filter (is_at k) es) z i in
        let f = r.0 in
        let found = from_filter (is_at k) es f r.1 in
        let c = Contains_from es f found.0 in
        let higher : rank_of e ≤ rank_of (slice_index_or es c.0 f) = up 0 (suc c.0) f (omega arith) (omega (arith, c.1)) in
        let at : rank_of e ≤ rank_of f = subst (λ (x : Incidence). rank_of e ≤ rank_of x) c.2 higher in
        let vertex : f.vertex ≡ k = same_number k f.vertex found.1 in
        omega (arith, at, vertex, same, r.2, lt_of z e.triangle t)

    by_test : (b : Bool) → is_at k e ≡ b → inversions (triangles_in es k) ≡ 0
        → inversions (map (λ (f : Incidence). f.triangle) (cond b (e ∷ filter (is_at k) es) (filter (is_at k) es))) ≡ 0
    by_test false t later = later
    by_test true t later =
        let none = count_none (λ z. nat_lt z e.triangle) (triangles_in es k) (above (sym (same_number k e.vertex t))) in
        omega (arith, none, later)

pub incidences_sorted : (ws : List (List ℕ)) (es fs : List Incidence) → AreIncidencesBelow (length ws) ws es → IsPermutation es fs
    → IsNonDecreasingBy rank_of fs → AreIncidences ws fs
incidences_sorted ws es fs a moved up = record {
  sorted = up;
  inside = All-permutation (λ (e : Incidence). e.triangle < length ws) es fs moved a.inside;
  few = length_permutation es fs moved ∙ a.few;
  at_each = λ k.
      same_in_order (triangles_in fs k) (triangles_at ws k) (in_order fs k up)
      (ascends_inversions (triangles_at ws k) (Ascends-filter (λ t. is_some (reading ws k t)) (numbers (length ws)) (Ascends-range 0 (length ws))))
      (λ p.
      count_in p fs k ∙ sum_by-IsPermutation (λ (e : Incidence). cond (is_at k e && p e.triangle) 1 0) es fs moved ∙ sym (count_in p es k)
      ∙ ap (count_by p) (a.at_each k));
}

-- ---- runs

-- in order their vertices do not fall
pub by_vertex : (ws : List (List ℕ)) (es : List Incidence) → length ws < 4294967296 → AreIncidences ws es → IsNonDecreasingBy vertex_of es
by_vertex ws es few a i j d l h =
    let low = a.inside i d (omega (arith, l, h)) in
    let high = a.inside j d h in
    omega (arith, a.sorted i j d l h, low, high, few)

pub run_is : (es : List Incidence) (start end k : ℕ) → IsNonDecreasingBy vertex_of es → start < end → end ≤ length es
    → ((i : ℕ) (d : Incidence) → start ≤ i → i < end → (slice_index_or es i d).vertex ≡ k)
    → (end < length es → (d : Incidence) → (slice_index_or es end d).vertex ≢ k) → IsRun es start end
run_is es start end k up more inside same other = record {
  more = more;
  inside = inside;
  same = λ i d l h. same i d l h ∙ sym (same start d (omega arith) more);
  greater = λ i d l h.
      let far = up end i d l h in
      let first = same start d (omega arith) more in
      let near = up start end d (omega (arith, more)) (omega (arith, l, h)) in
      apart (slice_index_or es start d).vertex (slice_index_or es end d).vertex (slice_index_or es i d).vertex near far
      (λ e. other (omega (arith, l, h)) d (sym e ∙ first));
}
  where
    apart : (a b c : ℕ) → a ≤ b → b ≤ c → (a ≡ b → ⊥) → a < c
    apart a b c p q n = grind arith

-- the members that pass are the run of a list, where they stand side by side
filter_run : (p : Incidence → Bool) (es : List Incidence) (a n : ℕ) → a + n ≤ length es
    → ((i : ℕ) (d : Incidence) → i < a → p (slice_index_or es i d) ≡ false)
    → ((i : ℕ) (d : Incidence) → a ≤ i → i < a + n → p (slice_index_or es i d) ≡ true)
    → ((i : ℕ) (d : Incidence) → a + n ≤ i → i < length es → p (slice_index_or es i d) ≡ false) → filter p es ≡ take n (drop a es)
filter_run p [] zero zero long before run behind = refl
filter_run p [] zero (suc n) long before run behind = absurd (omega (arith, long))
filter_run p [] (suc a) n long before run behind = absurd (omega (arith, long))
filter_run p (e ∷ es) zero zero long before run behind =
    rw (behind 0 e (omega arith) (omega arith))
    (filter_run p es 0 0 (omega arith) (λ i d l. absurd (omega (arith, l))) (λ i d l h. absurd (omega (arith, h)))
    (λ i d l h. behind (suc i) d (omega arith) (omega (arith, h))))
filter_run p (e ∷ es) zero (suc n) long before run behind =
    rw (run 0 e (omega arith) (omega arith))
    (ap (λ (fs : List Incidence). e ∷ fs)
    (filter_run p es 0 n (omega (arith, long)) (λ i d l. absurd (omega (arith, l))) (λ i d l h. run (suc i) d (omega arith) (omega (arith, h)))
    (λ i d l h. behind (suc i) d (omega (arith, l)) (omega (arith, h)))))
filter_run p (e ∷ es) (suc a) n long before run behind =
    rw (before 0 e (omega arith))
    (filter_run p es a n (omega (arith, long)) (λ i d l. before (suc i) d (omega (arith, l)))
    (λ i d l h. run (suc i) d (omega (arith, l)) (omega (arith, h))) (λ i d l h. behind (suc i) d (omega (arith, l)) (omega (arith, h))))

apart_test : (k v : ℕ) → (k ≡ v → ⊥) → nat_eq k v ≡ false
apart_test k v n = false_from_ne_true (nat_eq k v) (λ t. n (sym (same_number k v t)))

same_test : (k v : ℕ) → v ≡ k → nat_eq k v ≡ true
same_test k v e = ap (nat_eq k) e ∙ equal_self k

-- a run has the incidences at its vertex
pub run_at : (ws : List (List ℕ)) (es : List Incidence) (start end : ℕ) (d : Incidence) → AreIncidences ws es → AreRightBefore ws es start → IsRun es start end
    → AreAt ws (slice_index_or es start d).vertex (take (end - start) (drop start es))
run_at ws es start end d a before run = record {
  numbered = ap (map (λ (e : Incidence). e.triangle)) (sym run_of) ∙ a.at_each k;
  at = subst (λ (fs : List Incidence). All (λ (e : Incidence). e.vertex ≡ k) fs) run_of
      (All-from_In (λ (e : Incidence). e.vertex ≡ k) (filter (is_at k) es) (λ e i. same_number k e.vertex (from_filter (is_at k) es e i).1));
}
  where
    k : ℕ
    k = (slice_index_or es start d).vertex

    first : (c : Incidence) → (slice_index_or es start c).vertex ≡ (slice_index_or es start d).vertex
    first c = ap vertex_of (any_default es start c d (omega (arith, run.more, run.inside)))

    run_of : filter (is_at (slice_index_or es start d).vertex) es ≡ take (end - start) (drop start es)
    run_of =
        filter_run (is_at (slice_index_or es start d).vertex) es start (end - start) (omega (arith, run.more, run.inside))
        (λ i c l.
        let less = before.cut i start c l (omega arith) (omega (arith, run.more, run.inside)) in
        apart_test (slice_index_or es start d).vertex (slice_index_or es i c).vertex (λ e. absurd (omega (arith, less, first c, e))))
        (λ i c l h.
        same_test (slice_index_or es start d).vertex (slice_index_or es i c).vertex (run.same i c l (omega (arith, run.more, h)) ∙ first c))
        (λ i c l h.
        let more = run.greater i c (omega (arith, run.more, l)) h in
        apart_test (slice_index_or es start d).vertex (slice_index_or es i c).vertex (λ e. absurd (omega (arith, more, first c, e))))

-- ---- right walks

-- a vertex that has triangles is that of some incidence
pub found_at : (ws : List (List ℕ)) (es : List Incidence) (k : ℕ) → AreIncidences ws es → nat_lt 0 (length (triangles_at ws k)) ≡ true
    → (e : Incidence) × In e es × (e.vertex ≡ k)
found_at ws es k a t = of_list (filter (is_at k) es) refl
  where
    of_list : (fs : List Incidence) → filter (is_at k) es ≡ fs → (e : Incidence) × In e es × (e.vertex ≡ k)
    of_list [] e =
        absurd
        (let none : triangles_at ws k ≡ [] = sym (a.at_each k) ∙ ap (map (λ (f : Incidence). f.triangle)) e in
        omega (arith, lt_of 0 (length (triangles_at ws k)) t, ap length none))
    of_list (f ∷ fs) e =
        let i = from_filter (is_at k) es f (subst (λ (gs : List Incidence). In f gs) (sym e) (inl refl)) in
        (f, i.0, same_number k f.vertex i.1)

-- where the walk at each incidence's vertex among the first is right, and a vertex is no other's, its walk is right
pub right_at : (ws : List (List ℕ)) (es : List Incidence) (start k : ℕ) → AreIncidences ws es → AreRightBefore ws es start
    → ((i : ℕ) (d : Incidence) → start ≤ i → i < length es → (slice_index_or es i d).vertex ≢ k) → has_wrong_link 3 ws k ≡ false
right_at ws es start k a before other = by_test (nat_lt 0 (length (triangles_at ws k))) refl
  where
    by_test : (b : Bool) → nat_lt 0 (length (triangles_at ws k)) ≡ b → (b && not (is_trail_right (walk ws k))) ≡ false
    by_test false t = refl
    by_test true t =
        let e = found_at ws es k a t in
        let c = Contains_from es e.0 e.1 in
        let at : (slice_index_or es c.0 e.0).vertex ≡ k = ap vertex_of c.2 ∙ e.2 in
        elim (cases_lt c.0 start) as (λ _. not (is_trail_right (walk ws k)) ≡ false) [
          | inl l ↦ sym (ap (λ (b : Bool). b && not (is_trail_right (walk ws k))) t)
              ∙ subst (λ (v : ℕ). has_wrong_link 3 ws v ≡ false) at (before.right c.0 e.0 l)
          | inr l ↦ absurd (other c.0 e.0 l c.1 at)
        ]

filled : (xs : List ℕ) (x : ℕ) → In x xs → nat_lt 0 (length xs) ≡ true
filled [] x i = absurd i
filled (y ∷ xs) x i = of_lt 0 (length (y ∷ xs)) (omega arith)

and_none : (a b c : Bool) → c ≡ false → (a && b && c) ≡ false
and_none true true c e = e
and_none true false c e = refl
and_none false b c e = refl

-- the vertex of the run at which the walk is not right is the least such one
pub least_link : (ws : List (List ℕ)) (es : List Incidence) (start k : ℕ) (d : Incidence) → length ws < 4294967296 → AreIncidences ws es
    → AreRightBefore ws es start → start < length es → k ≡ (slice_index_or es start d).vertex → is_trail_right (walk ws k) ≡ false → IsLeastLink ws k
least_link ws es start k d few a before h same bad = record {
  wrong = all (filled (triangles_at ws k) (slice_index_or es start d).triangle there);
  least = λ j l. right_at ws es start j a before (λ i c m n e.
      let up = by_vertex ws es few a start i c m n in
      let first : (slice_index_or es start c).vertex ≡ (slice_index_or es start d).vertex = ap vertex_of (any_default es start c d h) in
      omega (arith, up, first, same, e, l));
}
  where
    there : In (slice_index_or es start d).triangle (triangles_at ws k)
    there =
        subst (λ (ts : List ℕ). In (slice_index_or es start d).triangle ts) (a.at_each k)
        (In-map (λ (e : Incidence). e.triangle) (filter (is_at k) es) (slice_index_or es start d)
        (In-filter (is_at k) es (slice_index_or es start d) (In_from es (slice_index_or es start d) (Contains-at es start d h))
        (same_test k (slice_index_or es start d).vertex (sym same))))

    all : nat_lt 0 (length (triangles_at ws k)) ≡ true → has_wrong_link 3 ws k ≡ true
    all t = rw (t, bad) refl

-- behind the last run each walk is right
pub all_right : (ws : List (List ℕ)) (es : List Incidence) (start : ℕ) → AreIncidences ws es → AreRightBefore ws es start → length es ≤ start → NoWrongLink ws
all_right ws es start a before past = λ k. right_at ws es start k a before (λ i d l h e. absurd (omega (arith, l, h, past)))

-- where the walk at the vertex of a run is right, it is right up to the end of the run
pub right_more : (ws : List (List ℕ)) (es : List Incidence) (start end k : ℕ) (d : Incidence) → AreRightBefore ws es start → IsRun es start end
    → k ≡ (slice_index_or es start d).vertex → is_trail_right (walk ws k) ≡ true → AreRightBefore ws es end
right_more ws es start end k d before run same good = record {
  inside = run.inside;
  right = λ i c l. elim (cases_lt i start) as (λ _. has_wrong_link 3 ws (slice_index_or es i c).vertex ≡ false) [
    | inl m ↦ before.right i c m
    | inr m ↦ subst (λ (v : ℕ). has_wrong_link 3 ws v ≡ false) (sym (at i c m l))
        (and_none true (nat_lt 0 (length (triangles_at ws k))) (not (is_trail_right (walk ws k))) (ap not good))
  ];
  cut = λ i j c l m h. elim (cases_lt i start) as (λ _. (slice_index_or es i c).vertex < (slice_index_or es j c).vertex) [
    | inl n ↦ before.cut i j c n (omega (arith, m, run.more)) h
    | inr n ↦
        let greater = run.greater j c m h in
        let one = run.same i c n l in
        omega (arith, greater, one)
  ];
}
  where
    at : (i : ℕ) (c : Incidence) → start ≤ i → i < end → (slice_index_or es i c).vertex ≡ k
    at i c m l = run.same i c m l ∙ ap vertex_of (any_default es start c d (omega (arith, run.more, run.inside))) ∙ sym same

-- ---- the corners of a run

one_corner : (t : ℕ) (o : Option (ℕ × ℕ)) → length (corner_of t o) ≤ 1
one_corner t None = omega arith
one_corner t (Some r) = omega arith

pub few_more : (cs now : List Corner) (t n : ℕ) (o : Option (ℕ × ℕ)) → now ≡ cs ++ corner_of t o → length cs ≤ n → length now ≤ n + 1
few_more cs now t n o e few = omega (arith, ap length e, length-append cs (corner_of t o), one_corner t o, few)

pub first_corners_more : (n : ℕ) (ws : List (List ℕ)) (k : ℕ) (run : List Incidence) (cs now : List Corner) (e : Incidence) (w : List ℕ) → n < length run
    → e ≡ slice_index_or run n e → w ≡ slice_index_or ws e.triangle [] → now ≡ cs ++ corner_of e.triangle (turned e.vertex w)
    → AreAt ws k run → AreFirstCorners n ws k run cs → AreFirstCorners (n + 1) ws k run now
first_corners_more n ws k run cs now e w h is same added a c = by_reading (reading ws k e.triangle) refl
  where
    at : e.vertex ≡ k
    at = ap vertex_of is ∙ a.at n e h

    there : is_some (reading ws k e.triangle) ≡ true
    there =
        (from_filter (λ t. is_some (reading ws k t)) (numbers (length ws)) e.triangle
        (subst (λ (ts : List ℕ). In e.triangle ts) a.numbered
        (In-map (λ (f : Incidence). f.triangle) run e (In_from run e (n, h, sym is))))).1

    read_is : turned e.vertex w ≡ reading ws k e.triangle
    read_is = ap (λ (v : ℕ). turned v w) at ∙ ap (turned k) same

    by_reading : (o : Option (ℕ × ℕ)) → reading ws k e.triangle ≡ o → AreFirstCorners (n + 1) ws k run now
    by_reading None r = absurd (both_ways (is_some (reading ws k e.triangle)) (ap is_some r) there)
    by_reading (Some r) s =
        let all : now ≡ cs ++ corner_of e.triangle (Some r) =
        added ∙ ap (λ (o : Option (ℕ × ℕ)). cs ++ corner_of e.triangle o) (read_is ∙ s) in
        record {
          numbered =
              ap numbers_of all ∙ map-append (λ (x : Corner). x.triangle) cs (corner_of e.triangle (Some r))
              ∙ ap (λ (ts : List ℕ). ts ++ e.triangle ∷ []) c.numbered
              ∙ sym
              (ap (map (λ (f : Incidence). f.triangle)) (take_more run n e h ∙ ap (λ (f : Incidence). take n run ++ f ∷ []) (sym is))
              ∙ map-append (λ (f : Incidence). f.triangle) (take n run) (e ∷ []));
          read = subst (λ (xs : List Corner). All (λ (x : Corner). reading ws k x.triangle ≡ Some (x.p, x.q)) xs) (sym all)
              (All-push (λ (x : Corner). reading ws k x.triangle ≡ Some (x.p, x.q)) cs (record { triangle = e.triangle; p = r.0; q = r.1 }) c.read s);
        }

-- ---- the finding at a vertex

turned_has : (k : ℕ) (w : List ℕ) → is_some (turned k w) ≡ true → In k w
turned_has k [] t = absurd (cc)
turned_has k (a ∷ []) t = absurd (cc)
turned_has k (a ∷ b ∷ []) t = absurd (cc)
turned_has k (a ∷ b ∷ c ∷ x ∷ w) t = absurd (cc)
turned_has k (a ∷ b ∷ c ∷ []) t = by_tests (a == k) (b == k) (c == k) refl refl refl t
  where
    by_tests : (p q r : Bool) → (a == k) ≡ p → (b == k) ≡ q → (c == k) ≡ r
        → is_some {T = ℕ × ℕ} (if p then Some (b, c) else if q then Some (c, a) else if r then Some (a, b) else None) ≡ true → In k (a ∷ b ∷ c ∷ [])
    by_tests true q r e f g s = inl (sym (equal_of a k e))
    by_tests false true r e f g s = inr (inl (sym (equal_of b k f)))
    by_tests false false true e f g s = inr (inr (inl (sym (equal_of c k g))))
    by_tests false false false e f g s = absurd (cc)

-- a vertex that has triangles is below the number of vertices
link_below : (ws : List (List ℕ)) (v k : ℕ) → All (λ (w : List ℕ). All (λ i. i < v) w) ws → nat_lt 0 (length (triangles_at ws k)) ≡ true → k < v
link_below ws v k inside t =
    let r = some_of (triangles_at ws k) (lt_of 0 (length (triangles_at ws k)) t) in
    let f = from_filter (λ i. is_some (reading ws k i)) (numbers (length ws)) r.0 r.1 in
    let c = Contains_from (slice_index_or ws r.0 []) k (turned_has k (slice_index_or ws r.0 []) f.1) in
    let low = inside r.0 [] (from_In-numbers (length ws) r.0 f.0) c.0 k c.1 in
    omega (arith, low, c.2)
  where
    some_of : (xs : List ℕ) → 0 < length xs → (x : ℕ) × In x xs
    some_of [] h = absurd (omega (arith, h))
    some_of (x ∷ xs) h = (x, inl refl)

pub link_found : (d v k : ℕ) (ws : List (List ℕ)) → d ≡ 3 → All (λ (w : List ℕ). All (λ i. i < v) w) ws → NoneRepeats ws → AllGlued ws → IsLeastLink ws k
    → HasFinding d v ws (Link k)
link_found d v k ws three inside none glued link =
    subst (λ (n : ℕ). HasFinding n v ws (Link k)) (sym three) (
      none,
      glued,
      record {
        below = link_below ws v k inside (has_some (nat_lt 0 (length (triangles_at ws k))) link.wrong);
        passes = link.wrong;
        least = link.least;
      },
    )
  where
    has_some : (b : Bool) → (b && not (is_trail_right (walk ws k))) ≡ true → b ≡ true
    has_some true e = refl
    has_some false e = absurd (cc)
