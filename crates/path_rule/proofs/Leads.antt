-- Paths from facet to facet, and where they begin.
use Rattle.std.specs.Prelude.{◌≡◌, ◌≢◌, ◌<◌, ℕ, zero, suc, Bool, true, false, not, ◌&&◌, ◌==◌, List, [], ◌∷◌, map, filter, length, slice_index_or, All}
use Rattle.std.specs.List.{list_any}
use Rattle.std.proofs.Common.{refl, sym, ap, ◌∙◌, subst, arith, inl, inr}
use Rattle.std.proofs.lemmas.Bool.{and_parts, and_from, cases_lt, false≢true, cases_Bool}
use Rattle.iso_model.specs.declared.Kind.{Kind}
use Rattle.iso_model.specs.Cells.{edge_count, edge_in_facet}
use Rattle.lists.specs.Orders.{has, orders_of, picks}
use Rattle.iso_model.specs.Tables.{IsTuple}
use Rattle.iso_model.specs.Acceptance.{goes_on, others_at, leads}
use Rattle.path_rule.specs.PathRule.{IsFree, reaches, SuitsEdge, SuitsPair}
use Rattle.path_rule.proofs.Triangles.{others, goes_lacks}
use Rattle.lists.specs.Bits.{is_set}
use Rattle.lists.specs.Members.{In}
use Rattle.lists.proofs.Contained.{each-from_All}
use Rattle.lists.proofs.MemberLaws.{Contains_from, from_In-map, from_any, any_from, from_In-flat_map, In_of_has, from_filter}
use Rattle.lists.proofs.Tests.{differ_test}

-- ---- the first of an order

In-picks : {X : Type 0} (xs : List X) (p : X × List X) → In p (picks xs) → In p.0 xs
In-picks [] p m = absurd m
In-picks {X} (x ∷ xs) p (inl e) = inl (ap (λ (q : X × List X). q.0) e)
In-picks {X} (x ∷ xs) p (inr m) =
    let r = from_In-map (λ (q : X × List X). (q.0, x ∷ q.1)) (picks xs) p m in
    inr (subst (λ (y : X). In y xs) (sym (ap (λ (q : X × List X). q.0) r.2)) (In-picks xs r.0 r.1))

-- an order of some members begins with one of them
pub order_begins : {X : Type 0} (n : ℕ) (xs : List X) (r : List X) → In r (orders_of (suc n) xs) → (x : X) × (further : List X) × (r ≡ x ∷ further) × In x xs
order_begins {X} n xs r m =
    let a = from_In-flat_map (λ (p : X × List X). map (λ (q : List X). p.0 ∷ q) (orders_of n p.1)) (picks xs) r m in
    let b = from_In-map (λ (q : List X). a.0.0 ∷ q) (orders_of n a.0.1) r a.2 in
    (a.0.0, b.0, b.2, In-picks xs a.0 a.1)

-- ---- where a path begins

-- some triangle at e has the face of e and x
pub record HasBegun (e x : ℕ) (ws : List (List ℕ)) : Type 0 where
  pub off : x ≢ e
  pub triangle : List ℕ
  pub inside : In triangle ws
  pub has_x : In x triangle

pair_begins : (e x : ℕ) (ws : List (List ℕ)) (v : List ℕ) → In v (others_at e ws) → In x v → HasBegun e x ws
pair_begins e x ws v m i =
    let a = from_In-map (others e) (filter (λ w. has w e) ws) v m in
    let b = from_filter (λ w. has w e) ws a.0 a.1 in
    let d = from_filter (λ y. not (y == e)) a.0 x (subst (λ (u : List ℕ). In x u) a.2 i) in
    record { off = differ_test x e d.1; triangle = a.0; inside = b.0; has_x = d.0 }

-- a path that is an order of all triangles at e, which are some, begins at one of them
pub record IsBegun (kind : Kind) (e g x : ℕ) (ws : List (List ℕ)) (r : List (List ℕ)) : Type 0 where
  pub begun : HasBegun e x ws
  pub first_has : In x (slice_index_or r 0 [])

path_begins : (kind : Kind) (e g x : ℕ) (ws : List (List ℕ)) (r : List (List ℕ)) → 0 < length (others_at e ws)
    → In r (orders_of (length (others_at e ws)) (others_at e ws))
    → goes_on kind 3 e g x r ≡ true → IsBegun kind e g x ws r
path_begins kind e g x ws r some m goes = by (length (others_at e ws)) some m
  where
    by : (n : ℕ) → 0 < n → In r (orders_of n (others_at e ws)) → IsBegun kind e g x ws r
    by zero h m = absurd (omega arith)
    by (suc n) h m =
        let b = order_begins n (others_at e ws) r m in
        let v = b.0 in
        let goes_so : goes_on kind 3 e g x (v ∷ b.1) ≡ true = subst (λ (l : List (List ℕ)). goes_on kind 3 e g x l ≡ true) b.2 goes in
        let i : In x v = elim (cases_Bool (has v x)) as (λ _. In x v) [
          | inl t ↦ In_of_has v x t
          | inr f ↦ absurd (false≢true (sym (goes_lacks kind 3 e g x v b.1 f) ∙ goes_so))
        ] in
        record { begun = pair_begins e x ws v b.3 i; first_has = subst (λ (l : List (List ℕ)). In x (slice_index_or l 0 [])) (sym b.2) i }

pub reach_begins : (kind : Kind) (e g x : ℕ) (ws : List (List ℕ)) → 0 < length (others_at e ws) → reaches kind e g x ws ≡ true → HasBegun e x ws
reach_begins kind e g x ws some t =
    let r = from_any (goes_on kind 3 e g x) (orders_of (length (others_at e ws)) (others_at e ws)) t in
    (path_begins kind e g x ws r.0 some r.1 r.2).begun

-- all orders of the triangles at e, asked for a path from facet f to facet g
abbrev pub some_leads : Kind → ℕ → ℕ → ℕ → List (List ℕ) → Bool
some_leads kind e f g ws = list_any (leads kind 3 e f g) (orders_of (length (others_at e ws)) (others_at e ws))

pub leads_of_reach : (kind : Kind) (e f g x : ℕ) (ws : List (List ℕ)) → 0 < length (others_at e ws) → edge_in_facet kind 3 f x ≡ true
    → reaches kind e g x ws ≡ true
    → some_leads kind e f g ws ≡ true
leads_of_reach kind e f g x ws some lies t =
    let all = orders_of (length (others_at e ws)) (others_at e ws) in
    let r = from_any (goes_on kind 3 e g x) all t in
    let b = path_begins kind e g x ws r.0 some r.1 r.2 in
    any_from (leads kind 3 e f g) all r.0 r.1
    (any_from (λ y. edge_in_facet kind 3 f y && goes_on kind 3 e g y r.0) (slice_index_or r.0 0 []) x b.first_has
    (and_from (edge_in_facet kind 3 f x) (goes_on kind 3 e g x r.0) lies r.2))

pub reach_of_leads : (kind : Kind) (e f g : ℕ) (ws : List (List ℕ)) → some_leads kind e f g ws ≡ true
    → (x : ℕ) × (edge_in_facet kind 3 f x ≡ true) × (reaches kind e g x ws ≡ true)
reach_of_leads kind e f g ws t =
    let all = orders_of (length (others_at e ws)) (others_at e ws) in
    let r = from_any (leads kind 3 e f g) all t in
    let y = from_any (λ y. edge_in_facet kind 3 f y && goes_on kind 3 e g y r.0) (slice_index_or r.0 0 []) r.2 in
    let p = and_parts (edge_in_facet kind 3 f y.0) (goes_on kind 3 e g y.0 r.0) y.2 in
    (y.0, p.0, any_from (goes_on kind 3 e g y.0) all r.0 r.1 p.1)

-- ---- by sets of edges

begun_below : (e x m : ℕ) (ws : List (List ℕ)) → HasBegun e x ws → All (λ w. All (λ y. y < m) w) ws → x < m
begun_below e x m ws b all =
    let inner = each-from_All (λ w. All (λ y. y < m) w) ws all b.triangle (Contains_from ws b.triangle b.inside) in
    each-from_All (λ y. y < m) b.triangle inner x (Contains_from b.triangle x b.has_x)

-- a face in the first facet is in one triangle
pub free_first : (kind : Kind) (e f g first second x : ℕ) (ws : List (List ℕ)) → All (IsTuple kind 3) ws → SuitsPair kind f g first second e
    → SuitsEdge kind e ws
    → x ≢ e → is_set first x ≡ true → IsFree e x ws
free_first kind e f g first second x ws tuples pair suits off member = elim (cases_lt x (edge_count kind 3)) as (λ _. IsFree e x ws) [
  | inl inside ↦ suits.outer f x pair.first_is_facet off pair.first_has (sym (pair.first_members x inside) ∙ member)
  | inr outside ↦ λ i j h k.
      let w = slice_index_or ws i [] in
      let below = each-from_All (λ y. y < edge_count kind 3) w (tuples i [] h.0).1 x (Contains_from w x (In_of_has w x h.2)) in
      absurd (omega (arith, below, outside))
]

-- a path that begins at a member of the first set begins in the first facet
pub leads_true : (kind : Kind) (e f g first second x : ℕ) (ws : List (List ℕ)) → All (IsTuple kind 3) ws → SuitsPair kind f g first second e
    → SuitsEdge kind e ws
    → is_set first x ≡ true → reaches kind e g x ws ≡ true → some_leads kind e f g ws ≡ true
leads_true kind e f g first second x ws tuples pair suits member t =
    let inside = begun_below e x (edge_count kind 3) ws (reach_begins kind e g x ws suits.some t) (λ k d h. (tuples k d h).1) in
    leads_of_reach kind e f g x ws suits.some (sym (pair.first_members x inside) ∙ member) t

-- where no member of the first set leads to the second facet, no order does
pub leads_false : (kind : Kind) (e f g first second m : ℕ) (ws : List (List ℕ)) → All (IsTuple kind 3) ws → SuitsPair kind f g first second e
    → SuitsEdge kind e ws
    → All (λ w. All (λ y. y < m) w) ws → ((x : ℕ) → x < m → x ≢ e → is_set first x ≡ true → reaches kind e g x ws ≡ false) → some_leads kind e f g ws ≡ false
leads_false kind e f g first second m ws tuples pair suits below none = by (some_leads kind e f g ws) refl
  where
    by : (b : Bool) → some_leads kind e f g ws ≡ b → b ≡ false
    by false h = refl
    by true h =
        let r = reach_of_leads kind e f g ws h in
        let begun = reach_begins kind e g r.0 ws suits.some r.2 in
        let inside = begun_below e r.0 (edge_count kind 3) ws begun (λ k d h. (tuples k d h).1) in
        absurd (false≢true (sym (none r.0 (begun_below e r.0 m ws begun below) begun.off (pair.first_members r.0 inside ∙ r.1)) ∙ r.2))
