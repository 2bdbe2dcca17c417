-- Cycles and paths of spokes are cycles and paths of triangles: the triangles at a vertex form one cycle where its spokes do, and one path where the
-- spokes of an arc do.
use Rattle.std.specs.Prelude.{◌≡◌, ◌≢◌, ◌<◌, ◌≤◌, ◌==◌, ◌↔◌, ℕ, Bool, true, false, cond, nat_eq, List, [], ◌∷◌, length, find, Contains, Option, Some, None}
use Rattle.std.specs.Option.{option_map_or, option_or}
use Rattle.std.proofs.Common.{refl, ap, sym, ◌∙◌, subst, arith, inl, inr}
use Rattle.std.proofs.lemmas.Bool.Decides.{nat_tests}
use Rattle.iso_model.specs.Values.{Volume}
use Rattle.iso_model.specs.Walks.{walk, walk_from, triangles_at, is_start, next_after, first_triangle, comes_back}
use Rattle.iso_model.specs.Links.{IsCycle, IsPath, StandsOnArc}
use Rattle.iso_model.proofs.WalkLaws.{length-distinct-le}
use Rattle.link_laws.proofs.Walks.{Walk, start_in}
use Rattle.link_laws.proofs.Links.{AreLinked, next, spokes}
use Rattle.link_laws.proofs.TrianglesAt.{ReadsAt, number, no_start, triangles_have, triangles_read, triangles_distinct}
use Rattle.link_laws.proofs.TrianglesOnce.{led, spoke_of, of_spoke, only_of_spoke, next_number, next_nowhere, start_number, from_start_number}
use Rattle.link_laws.proofs.TrianglesMet.{order_of, after_order, order_length, order_has, from_order, order_distinct, order_is_walk, walk_from_order}
use Rattle.lists.specs.Members.{In}
use Rattle.lists.proofs.Tests.{of_equal}
use Rattle.lists.proofs.Contained.{All-from_each}
use Rattle.lists.proofs.MemberLaws.{Contains_from, In_from}
use Rattle.lists.proofs.DistinctLists.{distinct_test}

-- ---- the first triangle, and what is said of the walk from it

nothing_found : (p : ℕ → Bool) (xs : List ℕ) → ((x : ℕ) → In x xs → p x ≡ false) → find p xs ≡ None
nothing_found p [] fails = refl
nothing_found p (x ∷ xs) fails = ap (λ b. cond b (Some x) (find p xs)) (fails x (inl refl)) ∙ nothing_found p xs (λ y i. fails y (inr i))

first_found : (xs : List ℕ) → 0 < length xs → (t : ℕ) × (find (λ x. true) xs ≡ Some t) × In t xs
first_found [] h = absurd (omega (arith, h))
first_found (x ∷ xs) h = (x, refl, inl refl)

first_is : (ts : List (List ℕ)) (k t : ℕ) → find (is_start ts k) (triangles_at ts k) ≡ None → find (λ x. true) (triangles_at ts k) ≡ Some t
    → first_triangle ts k ≡ Some t
first_is ts k t none some = ap (λ (o : Option ℕ). option_or o (find (λ x. true) (triangles_at ts k))) none ∙ some

order_from : (ts : List (List ℕ)) (k : ℕ) → (walk ts k).order ≡ walk_from ts k (first_triangle ts k)
unfolding walk
order_from ts k = refl

pub closed_from : (ts : List (List ℕ)) (k : ℕ) → (walk ts k).closed ≡ comes_back ts k (walk_from ts k (first_triangle ts k))
unfolding walk
closed_from ts k = refl

pub whole_from : (ts : List (List ℕ)) (k : ℕ) → (walk ts k).whole ≡ (length (walk_from ts k (first_triangle ts k)) == length (triangles_at ts k))
unfolding walk
whole_from ts k = refl

-- a walk comes back where its last triangle leads to its first
comes_back_where : (ts : List (List ℕ)) (k t : ℕ) (further : List ℕ) → next_after ts k (t ∷ further) ≡ Some t → comes_back ts k (t ∷ further) ≡ true
comes_back_where ts k t further e = let same : nat_eq t t ≡ true = grind (arith, nat_tests) in ap (λ (o : Option ℕ). option_map_or (nat_eq t) o false) e ∙ same

-- ---- one cycle

-- the spokes at k form one cycle: a walk from s comes back to it, and meets each spoke, of which there are three
pub record IsSpokeCycle (ts : List (List ℕ)) (k s : ℕ) : Type 0 where
  pub round : Walk (next k ts) (spokes k ts) s
  pub closes : next k ts round.newest ≡ Some s
  pub meets_all : (z : ℕ) → In z (spokes k ts) → In z (round.newest ∷ round.earlier)
  pub three : 3 ≤ length (round.newest ∷ round.earlier)

module _ (ts : List (List ℕ)) (k : ℕ) (linked : AreLinked ts) where
  -- the walk round a cycle comes back, is as long as there are triangles, and that is three or more
  module _ (s : ℕ) (c : IsSpokeCycle ts k s) where
    round_closes : comes_back ts k (order_of ts k linked c.round) ≡ true
    round_closes =
        let begins = (order_is_walk ts k linked s c.round).begins in
        let back : next_after ts k (order_of ts k linked c.round) ≡ Some (number ts k s) =
        after_order ts k linked s c.round ∙ next_number ts k linked c.round.newest s c.closes in
        subst (λ (l : List ℕ). comes_back ts k l ≡ true) (sym begins.1)
        (comes_back_where ts k (number ts k s) begins.0 (subst (λ (l : List ℕ). next_after ts k l ≡ Some (number ts k s)) begins.1 back))

    round_in : (t : ℕ) → In t (order_of ts k linked c.round) → In t (triangles_at ts k)
    round_in t i =
        let f = from_order ts k linked s c.round t i in
        let a = of_spoke ts k linked f.0 (c.round.inside f.0 f.1) in
        subst (λ (u : ℕ). In u (triangles_at ts k)) (sym f.2) (triangles_have ts k (number ts k f.0) f.0 a.0 a.1)

    round_has : (t : ℕ) → In t (triangles_at ts k) → In t (order_of ts k linked c.round)
    round_has t i =
        let r = triangles_read ts k t i in
        subst (λ (u : ℕ). In u (order_of ts k linked c.round)) (only_of_spoke ts k linked t r.0 r.1 r.2)
        (order_has ts k linked s c.round r.0 (c.meets_all r.0 (spoke_of ts k linked t r.0 r.1 r.2)))

    round_length : length (order_of ts k linked c.round) ≡ length (triangles_at ts k)
    round_length =
        let most = length-distinct-le (order_of ts k linked c.round) (triangles_at ts k)
        (distinct_test (order_of ts k linked c.round) (order_distinct ts k linked s c.round))
        (λ z m. Contains_from (triangles_at ts k) z (round_in z (In_from (order_of ts k linked c.round) z m))) in
        let least = length-distinct-le (triangles_at ts k) (order_of ts k linked c.round) (distinct_test (triangles_at ts k) (triangles_distinct ts k))
        (λ z m. Contains_from (order_of ts k linked c.round) z (round_has z (In_from (triangles_at ts k) z m))) in
        omega (arith, most, least)

  -- where the spokes form one cycle the triangles do
  pub cycle_of_triangles : 0 < length (triangles_at ts k) → ((s : ℕ) → In s (spokes k ts) → IsSpokeCycle ts k s) → IsCycle ts k
  cycle_of_triangles there cycles =
      let f = first_found (triangles_at ts k) there in
      let r = triangles_read ts k f.0 f.2 in
      cycle_from f.0 r.0 r.1 r.2 f.1 (cycles r.0 (spoke_of ts k linked f.0 r.0 r.1 r.2))
    where
      never : (t : ℕ) → In t (triangles_at ts k) → is_start ts k t ≡ false
      never t i =
          let r = triangles_read ts k t i in
          let c = cycles r.0 (spoke_of ts k linked t r.0 r.1 r.2) in
          no_start ts k t r.0 r.1 (number ts k c.round.newest) c.round.newest r.2 (led ts k linked c.round.newest r.0 c.closes).0

      cycle_from : (t p q : ℕ) → ReadsAt ts k t p q → find (λ x. true) (triangles_at ts k) ≡ Some t → IsSpokeCycle ts k p → IsCycle ts k
      cycle_from t p q r e c =
          let first : first_triangle ts k ≡ Some (number ts k p) =
          first_is ts k t (nothing_found (is_start ts k) (triangles_at ts k) never) e ∙ ap Some (sym (only_of_spoke ts k linked t p q r)) in
          let order : walk_from ts k (first_triangle ts k) ≡ order_of ts k linked c.round = ap (walk_from ts k) first ∙ walk_from_order ts k linked p c.round in
          record {
            no_start = All-from_each (λ u. is_start ts k u ≡ false) (triangles_at ts k) (λ u m. never u (In_from (triangles_at ts k) u m));
            closed = closed_from ts k ∙ ap (comes_back ts k) order ∙ round_closes p c;
            whole =
                whole_from ts k ∙ ap (λ (l : List ℕ). length l == length (triangles_at ts k)) order
                ∙ of_equal (length (order_of ts k linked c.round)) (length (triangles_at ts k)) (round_length p c);
            three = subst (λ (l : List ℕ). 3 ≤ length l) (sym (order_from ts k ∙ order)) (omega (arith, c.three, order_length ts k linked p c.round));
          }

-- ---- one path

-- the spokes at k of which `Stands` holds form one path: exactly one of them is a start, and the walk from it ends, and meets each of them and no other
pub record IsSpokePath (ts : List (List ℕ)) (k : ℕ) (Stands : ℕ → Type 0) : Type 0 where
  pub start : ℕ
  pub stands : Stands start
  pub begins : (u : ℕ) → In u (spokes k ts) → next k ts u ≢ Some start
  pub one_start : (z : ℕ) → Stands z → ((u : ℕ) → In u (spokes k ts) → next k ts u ≢ Some z) → z ≡ start
  pub path : Walk (next k ts) (spokes k ts) start
  pub ends : next k ts path.newest ≡ None
  pub meets_all : (z : ℕ) → Stands z → In z (path.newest ∷ path.earlier)
  pub meets_only : (z : ℕ) → In z (path.newest ∷ path.earlier) → Stands z

-- what is said of spokes is said of the triangles at k that have them
pub record SaysOfTriangles (ts : List (List ℕ)) (k : ℕ) (OfSpoke OfTriangle : ℕ → Type 0) : Type 0 where
  pub at_vertex : (t : ℕ) → OfTriangle t → Contains (triangles_at ts k) t
  pub to_spoke : (t p q : ℕ) → ReadsAt ts k t p q → OfTriangle t → OfSpoke p
  pub to_triangle : (t p q : ℕ) → ReadsAt ts k t p q → OfSpoke p → OfTriangle t

-- the triangles at k of which `Stands` holds form one path, in the words of `IsPath`
pub record IsTrianglePath (ts : List (List ℕ)) (k : ℕ) (Stands : ℕ → Type 0) : Type 0 where
  pub start : ℕ
  pub starts : is_start ts k start ≡ true
  pub stands : Stands start
  pub only : (t : ℕ) → is_start ts k t ≡ true → Stands t → t ≡ start
  pub ends : next_after ts k (walk_from ts k (Some start)) ≡ None
  pub meets : (t : ℕ) → Contains (walk_from ts k (Some start)) t ↔ Stands t

-- where `Stands` says that a triangle stands on the arc of a cell, that is what `IsPath` says
pub path_on_arc : (v : Volume) (ts : List (List ℕ)) (k c : ℕ) → IsTrianglePath ts k (StandsOnArc v ts k c) → IsPath v ts k c
path_on_arc v ts k c path = record { start = path.start; starts = path.starts; stands = path.stands; only = path.only; ends = path.ends; meets = path.meets }

module _ (ts : List (List ℕ)) (k : ℕ) (linked : AreLinked ts) (OfSpoke OfTriangle : ℕ → Type 0) (says : SaysOfTriangles ts k OfSpoke OfTriangle) where
  -- where the spokes form one path the triangles do
  pub path_of_triangles : IsSpokePath ts k OfSpoke → IsTrianglePath ts k OfTriangle
  path_of_triangles path = record {
    start = number ts k path.start;
    starts = start_number ts k linked (number ts k path.start) path.start first.0 first.1 path.begins;
    stands = says.to_triangle (number ts k path.start) path.start first.0 first.1 path.stands;
    only = only;
    ends =
        ap (next_after ts k) order ∙ after_order ts k linked path.start path.path
        ∙ next_nowhere ts k linked path.path.newest (path.path.inside path.path.newest (inl refl)) path.ends;
    meets = λ t. (
      λ m. met t (In_from (order_of ts k linked path.path) t (subst (λ (l : List ℕ). Contains l t) order m)),
      λ o. subst (λ (l : List ℕ). Contains l t) (sym order) (Contains_from (order_of ts k linked path.path) t (meets t o)),
    );
  }
    where
      first : (q : ℕ) × ReadsAt ts k (number ts k path.start) path.start q
      first = of_spoke ts k linked path.start (path.path.inside path.start (start_in (next k ts) path.start path.path.newest path.path.earlier path.path.chain))

      order : walk_from ts k (Some (number ts k path.start)) ≡ order_of ts k linked path.path
      order = walk_from_order ts k linked path.start path.path

      only : (t : ℕ) → is_start ts k t ≡ true → OfTriangle t → t ≡ number ts k path.start
      only t e o =
          let r = triangles_read ts k t (In_from (triangles_at ts k) t (says.at_vertex t o)) in
          let same : r.0 ≡ path.start = path.one_start r.0 (says.to_spoke t r.0 r.1 r.2 o) (from_start_number ts k linked t r.0 r.1 r.2 e) in
          sym (only_of_spoke ts k linked t r.0 r.1 r.2) ∙ ap (number ts k) same

      met : (t : ℕ) → In t (order_of ts k linked path.path) → OfTriangle t
      met t i =
          let f = from_order ts k linked path.start path.path t i in
          let a = of_spoke ts k linked f.0 (path.path.inside f.0 f.1) in
          subst OfTriangle (sym f.2) (says.to_triangle (number ts k f.0) f.0 a.0 a.1 (path.meets_only f.0 f.1))

      meets : (t : ℕ) → OfTriangle t → In t (order_of ts k linked path.path)
      meets t o =
          let r = triangles_read ts k t (In_from (triangles_at ts k) t (says.at_vertex t o)) in
          subst (λ (u : ℕ). In u (order_of ts k linked path.path)) (only_of_spoke ts k linked t r.0 r.1 r.2)
          (order_has ts k linked path.start path.path r.0 (path.meets_all r.0 (says.to_spoke t r.0 r.1 r.2 o)))
