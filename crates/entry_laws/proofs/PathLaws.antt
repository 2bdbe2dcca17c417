-- What the rule of paths says of the triangles at an edge: any two are linked through triangles at the edge, and in each of the two facets that have
-- the edge one of them has a further edge.
use Rattle.std.proofs.Common.{◌≡◌, ℕ, ◌<◌, Bool, true, false, not, ◌&&◌, ◌||◌, ◌==◌, List, [], ◌∷◌, length, refl, sym, subst, arith, inl, inr}
use Rattle.std.specs.Prelude.{◌≢◌, ◌⊎◌, filter, slice_index, slice_index_or}
use Rattle.std.specs.List.{list_any}
use Rattle.std.proofs.lemmas.Bool.{and_parts, false≢true, or_cases}
use Rattle.iso_model.specs.declared.Kind.{Kind}
use Rattle.lists.specs.Orders.{numbers, has, orders_of}
use Rattle.iso_model.specs.Cells.{edge_count, facet_count, edge_in_facet, facets_with, label_count}
use Rattle.iso_model.specs.Bipolar.{is_bipolar_in}
use Rattle.iso_model.specs.Tables.{Table, IsTable, entry_of}
use Rattle.iso_model.specs.Acceptance.{others_at, goes_on, leads, is_path, rule_path, IsAccepted}
use Rattle.cell_lattice.specs.CellLemmas.{two_facets}
use Rattle.entry_laws.proofs.TupleLaws.{facet_found}
use Rattle.entry_laws.proofs.LabelLaws.{LabelLaws, label_laws}
use Rattle.entry_laws.proofs.OrderMembers.{order_inside, order_whole}
use Rattle.lists.specs.Members.{In}
use Rattle.lists.proofs.Tests.{equal_of, differ_test}
use Rattle.lists.proofs.MemberLaws.{In-map, from_In-map, from_any, In_of_has, has_of_In, Each-In, In-numbers, all_In, In-filter, from_filter}

-- ---- chains of tuples

-- tuples of ws that have the edge e, each sharing with the next a further edge
pub data ChainAt (ws : List (List ℕ)) (e : ℕ) : List ℕ → List ℕ → Type 0 where
  alone : {t : List ℕ} → ChainAt ws e t t
  through : {t u v : List ℕ} (x : ℕ) → In u ws → In e u → x ≢ e → In x t → In x u → ChainAt ws e u v → ChainAt ws e t v

-- what holds of a tuple and itself, and is carried over by each step, holds of the ends of a chain
pub carried : (ws : List (List ℕ)) (e : ℕ) (P : List ℕ → List ℕ → Type 0) → ((t : List ℕ) → P t t)
    → ((t u v : List ℕ) (x : ℕ) → In u ws → In e u → x ≢ e → In x t → In x u → P u v → P t v) → {t u : List ℕ} → ChainAt ws e t u → P t u
carried ws e P one step {t} alone = one t
carried ws e P one step {t} {u = v} (through {u = u} x i has_e off in_t in_u c) = step t u v x i has_e off in_t in_u (carried ws e P one step c)

-- a chain is turned round, and another one follows
turned_before : (ws : List (List ℕ)) (e : ℕ) {t u v : List ℕ} → In t ws → In e t → ChainAt ws e t u → ChainAt ws e t v → ChainAt ws e u v
turned_before ws e i has_e alone further = further
turned_before ws e i has_e (through x j has_there off in_t in_u c) further = turned_before ws e j has_there c (through x i has_e off in_u in_t further)

-- ---- the triangles at an edge, by their other edges

-- the edges of a tuple but e
abbrev others : ℕ → List ℕ → List ℕ
others e w = filter (λ x. not (x == e)) w

-- a tuple of ws that has e and a further edge x
pub record HasFurther (ws : List (List ℕ)) (e x : ℕ) (w : List ℕ) : Type 0 where
  pub is_tuple : In w ws
  pub has_e : In e w
  pub has_x : In x w
  pub off : x ≢ e

-- an edge of the others of a tuple is a further edge of it
further_of : (ws : List (List ℕ)) (e x : ℕ) (w : List ℕ) → In w ws → In e w → In x (others e w) → HasFurther ws e x w
further_of ws e x w i has_e j =
    let d = from_filter (λ y. not (y == e)) w x j in
    record { is_tuple = i; has_e = has_e; has_x = d.0; off = differ_test x e d.1 }

-- a tuple at e has its others among those at e
listed : (ws : List (List ℕ)) (e : ℕ) (w : List ℕ) → In w ws → In e w → In (others e w) (others_at e ws)
listed ws e w i has_e = In-map (others e) (filter (λ v. has v e) ws) w (In-filter (λ v. has v e) ws w i (has_of_In w e has_e))

-- and each of those is the others of a tuple at e
record IsOthers (ws : List (List ℕ)) (e : ℕ) (v : List ℕ) : Type 0 where
  tuple : List ℕ
  is_tuple : In tuple ws
  has_e : In e tuple
  is : v ≡ others e tuple

of_listed : (ws : List (List ℕ)) (e : ℕ) (v : List ℕ) → In v (others_at e ws) → IsOthers ws e v
of_listed ws e v i =
    let a = from_In-map (others e) (filter (λ w. has w e) ws) v i in
    let b = from_filter (λ w. has w e) ws a.0 a.1 in
    record { tuple = a.0; is_tuple = b.0; has_e = In_of_has a.0 e b.1; is = a.2 }

further_in : (ws : List (List ℕ)) (e x : ℕ) (v : List ℕ) (o : IsOthers ws e v) → In x v → HasFurther ws e x o.tuple
further_in ws e x v o i = further_of ws e x o.tuple o.is_tuple o.has_e (subst (λ (l : List ℕ). In x l) o.is i)

-- ---- along a path

-- a path goes through a triangle from the present face to one by which it goes on
record GoesThrough (kind : Kind) (e g x : ℕ) (v : List ℕ) (rs : List (List ℕ)) : Type 0 where
  next : ℕ
  has_x : In x v
  has_next : In next v
  goes : goes_on kind 3 e g next rs ≡ true

goes_through : (kind : Kind) (e g x : ℕ) (v : List ℕ) (rs : List (List ℕ)) → goes_on kind 3 e g x (v ∷ rs) ≡ true → GoesThrough kind e g x v rs
goes_through kind e g x [] rs goes = absurd (false≢true goes)
goes_through kind e g x (p ∷ []) rs goes = absurd (false≢true goes)
goes_through kind e g x (p ∷ q ∷ z ∷ v) rs goes = absurd (false≢true goes)
goes_through kind e g x (p ∷ q ∷ []) rs goes =
    by (or_cases (p == x && goes_on kind 3 e g q rs) (q == x && goes_on kind 3 e g p rs)
    (and_parts (not (p == q)) ((p == x && goes_on kind 3 e g q rs) || (q == x && goes_on kind 3 e g p rs)) goes).1)
  where
    by : ((p == x && goes_on kind 3 e g q rs) ≡ true) ⊎ ((q == x && goes_on kind 3 e g p rs) ≡ true) → GoesThrough kind e g x (p ∷ q ∷ []) rs
    by (inl h) =
        let b = and_parts (p == x) (goes_on kind 3 e g q rs) h in
        record { next = q; has_x = inl (sym (equal_of p x b.0)); has_next = inr (inl refl); goes = b.1 }
    by (inr h) =
        let b = and_parts (q == x) (goes_on kind 3 e g p rs) h in
        record { next = p; has_x = inr (inl (sym (equal_of q x b.0))); has_next = inl refl; goes = b.1 }

-- triangles at e that are all listed
abbrev AreListed : List (List ℕ) → ℕ → List (List ℕ) → Type 0
AreListed ws e r = (v : List ℕ) → In v r → In v (others_at e ws)

-- from a tuple with the first face of a path there is a chain to each tuple of the path
reached : (kind : Kind) (ws : List (List ℕ)) (e g x : ℕ) (r : List (List ℕ)) → goes_on kind 3 e g x r ≡ true → AreListed ws e r
    → (s : List ℕ) → In x s → (w : List ℕ) → In w ws → In e w → In (others e w) r → ChainAt ws e s w
reached kind ws e g x [] goes inside s in_s w i has_e m = absurd m
reached kind ws e g x (v ∷ rs) goes inside s in_s w i has_e (inl same) =
    let t = goes_through kind e g x v rs goes in
    let h = further_of ws e x w i has_e (subst (λ (l : List ℕ). In x l) (sym same) t.has_x) in
    through x i has_e h.off in_s h.has_x alone
reached kind ws e g x (v ∷ rs) goes inside s in_s w i has_e (inr later) =
    let t = goes_through kind e g x v rs goes in
    let o = of_listed ws e v (inside v (inl refl)) in
    let h = further_in ws e x v o t.has_x in
    let n = further_in ws e t.next v o t.has_next in
    through x o.is_tuple o.has_e h.off in_s h.has_x (reached kind ws e g t.next rs t.goes (λ u j. inside u (inr j)) o.tuple n.has_x w i has_e later)

-- a tuple at e with a further edge in the facet f
pub record EndsIn (kind : Kind) (ws : List (List ℕ)) (e f : ℕ) : Type 0 where
  pub tuple : List ℕ
  pub further : ℕ
  pub has_further : HasFurther ws e further tuple
  pub lies : edge_in_facet kind 3 f further ≡ true

-- a path ends so
ends_last : (kind : Kind) (ws : List (List ℕ)) (e g x : ℕ) (r : List (List ℕ)) → goes_on kind 3 e g x r ≡ true → AreListed ws e r
    → (s : List ℕ) → HasFurther ws e x s → EndsIn kind ws e g
ends_last kind ws e g x [] goes inside s h =
    record { tuple = s; further = x; has_further = h; lies = (and_parts (edge_in_facet kind 3 g e) (edge_in_facet kind 3 g x) goes).1 }
ends_last kind ws e g x (v ∷ rs) goes inside s h =
    let t = goes_through kind e g x v rs goes in
    let o = of_listed ws e v (inside v (inl refl)) in
    ends_last kind ws e g t.next rs t.goes (λ u j. inside u (inr j)) o.tuple (further_in ws e t.next v o t.has_next)

-- ---- the path at an edge

-- a path through all triangles at e, from a face in the facet f to a face in the facet g
record IsPathThrough (kind : Kind) (ws : List (List ℕ)) (e f g : ℕ) : Type 0 where
  start : ℕ
  tuple : List ℕ
  path : List (List ℕ)
  begins : HasFurther ws e start tuple
  lies : edge_in_facet kind 3 f start ≡ true
  goes : goes_on kind 3 e g start path ≡ true
  inside : AreListed ws e path
  whole : (w : List ℕ) → In w ws → In e w → In (others e w) path

path_through : (kind : Kind) (ws : List (List ℕ)) (e f g : ℕ)
    → list_any (leads kind 3 e f g) (orders_of (length (others_at e ws)) (others_at e ws)) ≡ true → IsPathThrough kind ws e f g
path_through kind ws e f g some =
    let all = others_at e ws in
    let r = from_any (leads kind 3 e f g) (orders_of (length all) all) some in
    let first : List ℕ = slice_index_or r.0 0 [] in
    let x = from_any (λ x. edge_in_facet kind 3 f x && goes_on kind 3 e g x r.0) first r.2 in
    let parts = and_parts (edge_in_facet kind 3 f x.0) (goes_on kind 3 e g x.0 r.0) x.2 in
    let o = of_listed ws e first (order_inside (length all) all r.0 r.1 first (first_in r.0 x.0 x.1)) in
    record {
      start = x.0;
      tuple = o.tuple;
      path = r.0;
      begins = further_in ws e x.0 first o x.1;
      lies = parts.0;
      goes = parts.1;
      inside = order_inside (length all) all r.0 r.1;
      whole = λ w i has_e. order_whole (length all) all r.0 refl r.1 (others e w) (listed ws e w i has_e);
    }
  where
    -- a list whose first member has a member is not empty
    first_in : (rs : List (List ℕ)) (y : ℕ) → In y (slice_index_or rs 0 []) → In (slice_index_or rs 0 []) rs
    first_in [] y i = absurd i
    first_in (v ∷ rs) y i = inl refl

-- any two tuples at e are linked
path_links : (kind : Kind) (ws : List (List ℕ)) (e f g : ℕ) → IsPathThrough kind ws e f g → (t u : List ℕ) → In t ws → In u ws → In e t → In e u
    → ChainAt ws e t u
path_links kind ws e f g p t u i j has_t has_u =
    let to =
    λ (w : List ℕ) (k : In w ws) (has_w : In e w).
    reached kind ws e g p.start p.path p.goes p.inside p.tuple p.begins.has_x w k has_w (p.whole w k has_w) in
    turned_before ws e p.begins.is_tuple p.begins.has_e (to t i has_t) (to u j has_u)

-- the two facets that have an edge
of_two : (xs : List ℕ) (f : ℕ) → length xs ≡ 2 → In f xs → (f ≡ slice_index xs 0) ⊎ (f ≡ slice_index xs 1)
of_two [] f two i = absurd i
of_two (a ∷ []) f two i = absurd (omega (arith, two))
of_two (a ∷ b ∷ []) f two (inl e) = inl e
of_two (a ∷ b ∷ []) f two (inr (inl e)) = inr e
of_two (a ∷ b ∷ []) f two (inr (inr none)) = absurd none
of_two (a ∷ b ∷ c ∷ xs) f two i = absurd (omega (arith, two))

-- the first and the second of the two facets that have e
abbrev facet_at : Kind → ℕ → ℕ → ℕ
facet_at kind e i = slice_index (facets_with kind 3 (e ∷ [])) i

-- a path ends in both facets that have e
path_ends : (kind : Kind) (ws : List (List ℕ)) (e f : ℕ) → IsPathThrough kind ws e (facet_at kind e 0) (facet_at kind e 1) → e < edge_count kind 3
    → f < facet_count kind 3
    → edge_in_facet kind 3 f e ≡ true → EndsIn kind ws e f
path_ends kind ws e f p is_edge is_facet lies =
    by (of_two (facets_with kind 3 (e ∷ [])) f (two_facets kind 3 refl e is_edge) (facet_found kind 3 f (e ∷ []) is_facet (lies, tt)))
  where
    by : (f ≡ facet_at kind e 0) ⊎ (f ≡ facet_at kind e 1) → EndsIn kind ws e f
    by (inl s) = subst (λ (h : ℕ). EndsIn kind ws e h) (sym s) (record { tuple = p.tuple; further = p.start; has_further = p.begins; lies = p.lies })
    by (inr s) = subst (λ (h : ℕ). EndsIn kind ws e h) (sym s) (ends_last kind ws e (facet_at kind e 1) p.start p.path p.goes p.inside p.tuple p.begins)

-- ---- the rule of paths

-- by the rule of paths there is such a path at each bipolar edge
path_at : (kind : Kind) (label : ℕ) (ws : List (List ℕ)) (e : ℕ) → rule_path kind 3 label ws ≡ true → e < edge_count kind 3 → is_bipolar_in kind 3 label e ≡ true
    → IsPathThrough kind ws e (facet_at kind e 0) (facet_at kind e 1)
path_at kind label ws e rule is_edge bipolar =
    let found =
    all_In (λ k. not (is_bipolar_in kind 3 label k) || is_path kind 3 k ws) (numbers (edge_count kind 3)) rule e
    (In-numbers (edge_count kind 3) e is_edge) in
    path_through kind ws e (facet_at kind e 0) (facet_at kind e 1) (second (is_bipolar_in kind 3 label e) (is_path kind 3 e ws) bipolar found)
  where
    second : (a b : Bool) → a ≡ true → (not a || b) ≡ true → b ≡ true
    second true b p q = q
    second false b p q = absurd (false≢true p)

-- what is said of the entry ws of a label, in three dimensions
pub record PathLaws (kind : Kind) (label : ℕ) (ws : List (List ℕ)) : Type 0 where
  -- each tuple is a triangle
  pub three : (w : List ℕ) → In w ws → length w ≡ 3
  -- any two triangles at an edge are linked through triangles at the edge, each sharing with the next a further edge
  pub one_path : (e : ℕ) (t u : List ℕ) → In t ws → In u ws → In e t → In e u → ChainAt ws e t u
  -- in each facet that has a bipolar edge, a triangle at the edge has a further edge
  pub ends : (e f : ℕ) → e < edge_count kind 3 → is_bipolar_in kind 3 label e ≡ true → f < facet_count kind 3 → edge_in_facet kind 3 f e ≡ true
      → EndsIn kind ws e f

-- the laws hold where the rules of bipolar edges and of paths do
from_rule : (kind : Kind) (label : ℕ) (ws : List (List ℕ)) → LabelLaws kind 3 label ws → rule_path kind 3 label ws ≡ true → PathLaws kind label ws
from_rule kind label ws laws rule = record {
  three = λ w i. (laws.tuples w i).wide;
  one_path = λ e t u i j has_t has_u.
      let is_edge = Each-In (λ x. (x < edge_count kind 3) × (is_bipolar_in kind 3 label x ≡ true)) t (laws.tuples t i).edges e has_t in
      path_links kind ws e (facet_at kind e 0) (facet_at kind e 1) (path_at kind label ws e rule is_edge.0 is_edge.1) t u i j has_t has_u;
  ends = λ e f is_edge bipolar is_facet lies. path_ends kind ws e f (path_at kind label ws e rule is_edge bipolar) is_edge is_facet lies;
}

-- the laws hold of the entry of each label of an accepted table of three dimensions
pub path_laws : (t : Table) (label : ℕ) → IsTable t → IsAccepted t → t.dimension ≡ 3 → label < label_count t.kind t.dimension
    → PathLaws t.kind label (entry_of t label)
path_laws t label table accepted three less =
    by t.dimension three (label_laws t label table accepted less) (accepted label 5 less (omega arith))
  where
    by : (d : ℕ) → d ≡ 3 → LabelLaws t.kind d label (entry_of t label) → rule_path t.kind d label (entry_of t label) ≡ true
        → PathLaws t.kind label (entry_of t label)
    by d is laws rule =
        from_rule t.kind label (entry_of t label) (subst (λ (n : ℕ). LabelLaws t.kind n label (entry_of t label)) is laws)
        (subst (λ (n : ℕ). rule_path t.kind n label (entry_of t label) ≡ true) is rule)
