-- A walk from its first face to its last.
use Rattle.std.specs.Prelude.{◌≡◌, ◌≢◌, ◌<◌, ◌≤◌, ◌+◌, ℕ, zero, suc, Bool, true, false, not, ◌&&◌, ◌||◌, ◌==◌, cond, List, [], ◌∷◌, ◌++◌, map, filter}
use Rattle.std.specs.Prelude.{find, length, slice_index_or, All, Option, Some, None, if◌then◌else◌}
use Rattle.std.specs.List.{list_any, range_with_len}
use Rattle.std.proofs.Common.{refl, sym, ap, ◌∙◌, subst, arith, inl, inr}
use Rattle.std.proofs.lemmas.List.{length-map}
use Rattle.iso_model.specs.declared.Kind.{Kind}
use Rattle.iso_model.specs.Cells.{edge_in_facet}
use Rattle.lists.specs.Orders.{numbers, has, orders_of}
use Rattle.iso_model.specs.Acceptance.{goes_on, others_at}
use Rattle.path_rule.specs.PathRule.{third, IsNext, IsLast, SharesByTwo, IsFree, reaches}
use Rattle.path_rule.proofs.Triangles.{others, has-others, IsFound, tells_third, lacks_face}
use Rattle.path_rule.proofs.Walking.{Once, IsApart, taken_apart, pair_at, leads_on, leads_stuck, leads_step, Walking, found_at, next_left, walk_step}
use Rattle.lists.specs.Members.{In}
use Rattle.lists.proofs.MemberLaws.{above_range, from_filter, In-filter, map-map, In-numbers, from_In-numbers}

-- ---- the triangles at an edge by their numbers

filter-map : {X Y : Type 0} (p : Y → Bool) (f : X → Y) (xs : List X) → filter p (map f xs) ≡ map f (filter (λ x. p (f x)) xs)
filter-map p f [] = refl
filter-map {X} {Y} p f (x ∷ xs) = by (p (f x)) (filter-map p f xs)
  where
    by : (b : Bool) → filter p (map f xs) ≡ map f (filter (λ x. p (f x)) xs)
        → cond b (f x ∷ filter p (map f xs)) (filter p (map f xs)) ≡ map f (cond b (x ∷ filter (λ x. p (f x)) xs) (filter (λ x. p (f x)) xs))
    by true e = ap (λ (l : List Y). f x ∷ l) e
    by false e = e

read_range : {X : Type 0} (f : ℕ → X) (d : X) (a : ℕ) (xs : List X) → ((k : ℕ) → k < length xs → f (a + k) ≡ slice_index_or xs k d)
    → map f (range_with_len a (length xs)) ≡ xs
read_range f d a [] h = refl
read_range {X} f d a (x ∷ xs) h =
    let first : f a ≡ x = subst (λ (m : ℕ). f m ≡ x) (let e : a + 0 ≡ a = omega arith in e) (h 0 (omega arith)) in
    let further =
    read_range f d (a + 1) xs
    (λ k less. let e : a + suc k ≡ a + 1 + k = omega arith in subst (λ (m : ℕ). f m ≡ slice_index_or xs k d) e (h (suc k) (omega arith))) in
    ap (λ (y : X). y ∷ map f (range_with_len (a + 1) (length xs))) first ∙ ap (λ (l : List X). x ∷ l) further

read_all : (ws : List (List ℕ)) → map (λ i. slice_index_or ws i []) (numbers (length ws)) ≡ ws
read_all ws = read_range (λ i. slice_index_or ws i []) [] 0 ws (λ k less. let e : 0 + k ≡ k = omega arith in ap (λ (m : ℕ). slice_index_or ws m []) e)

-- the numbers of the triangles at an edge
abbrev pub numbers_at : ℕ → List (List ℕ) → List ℕ
numbers_at e ws = filter (λ i. has (slice_index_or ws i []) e) (numbers (length ws))

others_numbered : (e : ℕ) (ws : List (List ℕ)) → others_at e ws ≡ map (pair_at e ws) (numbers_at e ws)
others_numbered e ws =
    ap (λ (l : List (List ℕ)). map (others e) (filter (λ w. has w e) l)) (sym (read_all ws))
    ∙ ap (λ (l : List (List ℕ)). map (others e) l) (filter-map (λ w. has w e) (λ i. slice_index_or ws i []) (numbers (length ws)))
    ∙ map-map (λ i. slice_index_or ws i []) (others e) (numbers_at e ws)

once-filter : (p : ℕ → Bool) (xs : List ℕ) → Once xs → Once (filter p xs)
once-filter p [] once = tt
once-filter p (x ∷ xs) once = by (p x) (once-filter p xs once.1)
  where
    by : (b : Bool) → Once (filter p xs) → Once (cond b (x ∷ filter p xs) (filter p xs))
    by true o = ((λ m. once.0 (from_filter p xs x m).0), o)
    by false o = o

once_range : (a n : ℕ) → Once (range_with_len a n)
once_range a zero = tt
once_range a (suc n) = ((λ m. omega (arith, above_range (a + 1) n a m)), once_range (a + 1) n)

-- ---- the state of a walk

-- a walk from the face of e and start stands at the face of e and x after so many of all steps
pub record IsWalk (e start : ℕ) (ws : List (List ℕ)) (all x : ℕ) (present : Option ℕ) (steps : ℕ) : Type 0 where
  pub left : List ℕ
  pub walking : Walking e ws x present left
  pub whole : length left + steps ≡ all
  pub same : (kind : Kind) (f : ℕ) → reaches kind e f start ws ≡ leads_on kind e f x (length left) ws left

pub walk_begins : (e start : ℕ) (ws : List (List ℕ)) → start ≢ e → IsFree e start ws → IsWalk e start ws (length (others_at e ws)) start None 0
walk_begins e start ws off free = record {
  left = numbers_at e ws;
  walking = record {
    off = off;
    inside = inside;
    at_edge = at_edge;
    once = once-filter test (numbers (length ws)) (once_range 0 (length ws));
    one = λ i j m n hi hj. free i j (inside i m, at_edge i m, hi) (inside j n, at_edge j n, hj);
    sharing = λ i h. inr (In-filter test (numbers (length ws)) i (In-numbers (length ws) i h.0) h.1);
    gone = λ i s m. absurd (cc);
    closed = λ y i j offy ne h out m hj. out (In-filter test (numbers (length ws)) i (In-numbers (length ws) i h.0) h.1);
  };
  whole = let l = counted in omega (arith, l);
  same = λ kind f.
      ap (λ (n : ℕ). list_any (goes_on kind 3 e f start) (orders_of n (others_at e ws))) (sym counted)
      ∙ ap (λ (l : List (List ℕ)). list_any (goes_on kind 3 e f start) (orders_of (length (numbers_at e ws)) l)) (others_numbered e ws);
}
  where
    test : ℕ → Bool
    test i = has (slice_index_or ws i []) e

    inside : (i : ℕ) → In i (numbers_at e ws) → i < length ws
    inside i m = from_In-numbers (length ws) i (from_filter test (numbers (length ws)) i m).0

    at_edge : (i : ℕ) → In i (numbers_at e ws) → test i ≡ true
    at_edge i m = (from_filter test (numbers (length ws)) i m).1

    counted : length (numbers_at e ws) ≡ length (others_at e ws)
    counted = sym (ap (λ (l : List (List ℕ)). length l) (others_numbered e ws) ∙ length-map (numbers_at e ws) (pair_at e ws))

pub walk_goes : (e start : ℕ) (ws : List (List ℕ)) (all x : ℕ) (present : Option ℕ) (steps t q : ℕ) → SharesByTwo e ws
    → IsWalk e start ws all x present steps → IsNext e x present ws t q
    → IsWalk e start ws all q (Some t) (steps + 1)
walk_goes e start ws all x present steps t q shares w next =
    let found = found_at e x present t q ws shares w.walking.off next in
    let left = next_left e x present t q ws w.left w.walking next found in
    let a = taken_apart t w.left w.walking.once left in
    let lacks : (i : ℕ) → In i (a.front ++ a.back) → has (pair_at e ws i) x ≡ false = lacks_now found left a in
    record {
      left = a.front ++ a.back;
      walking = walk_step e x present t q ws w.left shares w.walking next a found left;
      whole = omega (arith, w.whole, a.shorter);
      same = λ kind f.
          w.same kind f ∙ ap (λ (n : ℕ). leads_on kind e f x n ws w.left) a.shorter
          ∙ ap (λ (l : List ℕ). leads_on kind e f x (suc (length (a.front ++ a.back))) ws l) a.whole
          ∙ leads_step kind e f x q (length (a.front ++ a.back)) ws a.front t a.back found.triangle.apart
          (tells_third e x q (slice_index_or ws t []) w.walking.off found.triangle).pair lacks;
    }
  where
    false_from : (b : Bool) → (b ≡ true → ⊥) → b ≡ false
    false_from true n = absurd (n refl)
    false_from false n = refl

    lacks_now : IsFound e x q (slice_index_or ws t []) → In t w.left → (a : IsApart t w.left) → (i : ℕ) → In i (a.front ++ a.back)
        → has (pair_at e ws i) x ≡ false
    lacks_now found left a i m =
        has-others e x (slice_index_or ws i []) w.walking.off
        ∙ false_from (has (slice_index_or ws i []) x)
        (λ h. a.taken (subst (λ (k : ℕ). In k (a.front ++ a.back)) (sym (w.walking.one t i left (a.kept i m) found.has_x h)) m))

pub walk_stuck : (e start : ℕ) (ws : List (List ℕ)) (all x : ℕ) (present : Option ℕ) (steps : ℕ) → SharesByTwo e ws
    → IsWalk e start ws all x present steps → steps < all → IsLast e x present ws
    → (kind : Kind) (f : ℕ) → reaches kind e f start ws ≡ false
walk_stuck e start ws all x present steps shares w more last kind f = w.same kind f ∙ by w.left (omega (arith, w.whole)) lacks
  where
    false_from : (b : Bool) → (b ≡ true → ⊥) → b ≡ false
    false_from true n = absurd (n refl)
    false_from false n = refl

    lacks : (i : ℕ) → In i w.left → has (pair_at e ws i) x ≡ false
    lacks i m =
        let inside = w.walking.inside i m in
        has-others e x (slice_index_or ws i []) w.walking.off
        ∙ false_from (has (slice_index_or ws i []) x)
        (
        lacks_face e x (slice_index_or ws i []) (shares.long i [] inside) (shares.distinct i [] inside) w.walking.off
        (last i inside (λ s. w.walking.gone i s m)) (w.walking.at_edge i m))

    by : (is : List ℕ) → 0 < length is → ((i : ℕ) → In i is → has (pair_at e ws i) x ≡ false) → leads_on kind e f x (length is) ws is ≡ false
    by [] some all = absurd (omega arith)
    by (i ∷ is) some all = leads_stuck kind e f x (length is) ws (i ∷ is) all

pub walk_ends : (e start : ℕ) (ws : List (List ℕ)) (all x : ℕ) (present : Option ℕ) (steps : ℕ) → IsWalk e start ws all x present steps → all ≤ steps
    → (kind : Kind) (f : ℕ) → reaches kind e f start ws ≡ (edge_in_facet kind 3 f e && edge_in_facet kind 3 f x)
walk_ends e start ws all x present steps w done kind f = w.same kind f ∙ by w.left (omega (arith, w.whole))
  where
    or_false : (b : Bool) → (b || false) ≡ b
    or_false true = refl
    or_false false = refl

    by : (is : List ℕ) → length is ≡ 0 → leads_on kind e f x (length is) ws is ≡ (edge_in_facet kind 3 f e && edge_in_facet kind 3 f x)
    by [] empty = or_false (edge_in_facet kind 3 f e && edge_in_facet kind 3 f x)
    by (i ∷ is) empty = absurd (omega arith)

-- ---- the third edge is one of the triangle's

find_in : (p : ℕ → Bool) (w : List ℕ) (y : ℕ) → find p w ≡ Some y → In y w
find_in p [] y e = absurd (cc)
find_in p (x ∷ w) y e = by (p x) e (find_in p w y)
  where
    by : (b : Bool) → (if b then Some x else find p w) ≡ Some y → (find p w ≡ Some y → In y w) → In y (x ∷ w)
    by true e more = inl (cc)
    by false e more = inr (more e)

third_in : (e x y : ℕ) (w : List ℕ) → third e x w ≡ Some y → In y w
third_in e x y w t = by (has w e && has w x) t
  where
    by : (b : Bool) → (if b then find (λ y. not (y == e) && not (y == x)) w else None) ≡ Some y → In y w
    by true t = find_in (λ y. not (y == e) && not (y == x)) w y t
    by false t = absurd (cc)

all_In : (m : ℕ) (w : List ℕ) → All (λ e. e < m) w → (y : ℕ) → In y w → y < m
all_In m [] all y i = absurd i
all_In m (x ∷ w) all y (inl e) = let h = all 0 0 (omega arith) in omega (arith, e, h)
all_In m (x ∷ w) all y (inr i) = all_In m w (λ k d h. all (suc k) d (omega arith)) y i

pub next_small : (e x : ℕ) (present : Option ℕ) (t q m : ℕ) (ws : List (List ℕ)) → IsNext e x present ws t q → All (λ w. All (λ y. y < m) w) ws → q < m
next_small e x present t q m ws next all = all_In m (slice_index_or ws t []) (all t [] next.inside) q (third_in e x q (slice_index_or ws t []) next.is_third)
