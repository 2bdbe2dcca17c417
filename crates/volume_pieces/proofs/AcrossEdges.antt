-- What a seam carries: corners to corners, edges to edges by their ends, and the order of edges.
use Rattle.std.proofs.Common.{◌≡◌, ℕ, ◌<◌, ◌≤◌, true, ◌&&◌, List, length, get_or, ap, sym, subst, arith, inl, inr}
use Rattle.std.specs.Prelude.{◌==◌, Contains}
use Rattle.std.specs.List.{position_or_len}
use Rattle.std.proofs.lemmas.Bool.{eqb-true, cases_lt, cases_eq}
use Rattle.std.proofs.lemmas.List.Sums.{passes_at_first}
use Rattle.iso_model.specs.declared.Kind.{Kind}
use Rattle.lists.specs.Orders.{numbers}
use Rattle.iso_model.specs.Cells.{HasDimension, edge_count, edges, edge_ends, edge_in_facet, facet_corners, facet_edges}
use Rattle.iso_model.specs.Seams.{Seam, seams, corner_across, edge_across}
use Rattle.iso_model.specs.CellLaws.{MeetsCorners, KeepsEdges}
use Rattle.iso_model.specs.Dimensions.{IsDimension}
use Rattle.cell_lattice.specs.CellLemmas.{meets_corners, keeps_edges, as_many_edges}
use Rattle.lists.specs.Members.{In, Ascends}
use Rattle.lists.proofs.Contained.{each-from_All}
use Rattle.lists.proofs.MemberLaws.{In-numbers, from_In-numbers, In-filter, from_filter, In-map, from_In-map}
use Rattle.lists.proofs.Ascending.{keeps_order}
use Rattle.lists.proofs.Tests.{and_left, and_right}
use Rattle.iso_model.proofs.SignLaws.{facet_edges_ascend}

-- ---- lists that ascend

-- ---- the edges of a facet

pub in_facet_edges : (kind : Kind) (d f e : ℕ) → e < edge_count kind d → edge_in_facet kind d f e ≡ true → In e (facet_edges kind d f)
in_facet_edges kind d f e h t = In-filter (edge_in_facet kind d f) (numbers (edge_count kind d)) e (In-numbers (edge_count kind d) e h) t

pub from_facet_edges : (kind : Kind) (d f e : ℕ) → In e (facet_edges kind d f) → (e < edge_count kind d) × (edge_in_facet kind d f e ≡ true)
from_facet_edges kind d f e i =
    let r = from_filter (edge_in_facet kind d f) (numbers (edge_count kind d)) e i in (from_In-numbers (edge_count kind d) e r.0, r.1)

-- an edge that is found by its ends has them
found_ends : (es : List (ℕ × ℕ)) (a b : ℕ) → position_or_len (λ (p : ℕ × ℕ). (p.0 == a) && (p.1 == b)) es < length es →
    ((get_or es (position_or_len (λ (p : ℕ × ℕ). (p.0 == a) && (p.1 == b)) es) (0, 0)).0 ≡ a)
    × ((get_or es (position_or_len (λ (p : ℕ × ℕ). (p.0 == a) && (p.1 == b)) es) (0, 0)).1 ≡ b)
found_ends es a b h =
    let at = position_or_len (λ (p : ℕ × ℕ). (p.0 == a) && (p.1 == b)) es in
    let passes = passes_at_first (λ (p : ℕ × ℕ). (p.0 == a) && (p.1 == b)) es (0, 0) h in (
      eqb-true (get_or es at (0, 0)).0 a (and_left ((get_or es at (0, 0)).0 == a) ((get_or es at (0, 0)).1 == b) passes),
      eqb-true (get_or es at (0, 0)).1 b (and_right ((get_or es at (0, 0)).0 == a) ((get_or es at (0, 0)).1 == b) passes),
    )

-- ---- a seam

module _ (kind : Kind) (d : ℕ) (is : IsDimension d) (has : HasDimension kind d) (s : Seam) (in_seams : Contains (seams kind d) s) where
  corners_meet : MeetsCorners kind d s
  corners_meet = each-from_All (MeetsCorners kind d) (seams kind d) (meets_corners kind d is has) s in_seams

  edges_kept : KeepsEdges kind d s
  edges_kept = each-from_All (KeepsEdges kind d) (seams kind d) (keeps_edges kind d is has) s in_seams

  -- a corner of the first facet meets one of the other
  pub corner_there : (k : ℕ) → In k (facet_corners kind d s.facet) → In (corner_across kind d s k) (facet_corners kind d s.other)
  corner_there k i = subst (λ (xs : List ℕ). In (corner_across kind d s k) xs) corners_meet (In-map (corner_across kind d s) (facet_corners kind d s.facet) k i)

  -- an edge of the first facet goes to one of the other
  pub edge_there : (e : ℕ) → In e (facet_edges kind d s.facet) → In (edge_across kind d s e) (facet_edges kind d s.other)
  edge_there e i = subst (λ (xs : List ℕ). In (edge_across kind d s e) xs) edges_kept (In-map (edge_across kind d s) (facet_edges kind d s.facet) e i)

  -- and each edge of the other facet is one to which an edge goes
  pub edge_back : (e : ℕ) → In e (facet_edges kind d s.other) → (b : ℕ) × In b (facet_edges kind d s.facet) × (e ≡ edge_across kind d s b)
  edge_back e i = from_In-map (edge_across kind d s) (facet_edges kind d s.facet) e (subst (λ (xs : List ℕ). In e xs) (sym edges_kept) i)

  -- its ends are the corners that meet the ends
  pub ends_there : (e : ℕ) → In e (facet_edges kind d s.facet) →
      ((edge_ends kind d (edge_across kind d s e)).0 ≡ corner_across kind d s (edge_ends kind d e).0)
      × ((edge_ends kind d (edge_across kind d s e)).1 ≡ corner_across kind d s (edge_ends kind d e).1)
  ends_there e i =
      let below = (from_facet_edges kind d s.other (edge_across kind d s e) (edge_there e i)).0 in
      found_ends (edges kind d) (corner_across kind d s (edge_ends kind d e).0) (corner_across kind d s (edge_ends kind d e).1)
      (omega (arith, below, as_many_edges kind d is has))

  -- edges keep their order
  pub order_there : (a b : ℕ) → In a (facet_edges kind d s.facet) → In b (facet_edges kind d s.facet) → a < b → edge_across kind d s a < edge_across kind d s b
  order_there =
      keeps_order (edge_across kind d s) (facet_edges kind d s.facet) (facet_edges_ascend kind d s.facet)
      (subst Ascends (sym edges_kept) (facet_edges_ascend kind d s.other))

  pub weak_order_there : (a b : ℕ) → In a (facet_edges kind d s.facet) → In b (facet_edges kind d s.facet) → a ≤ b
      → edge_across kind d s a ≤ edge_across kind d s b
  weak_order_there a b i j h = elim (cases_eq a b) [
    | inl same ↦ omega (arith, ap (edge_across kind d s) same)
    | inr apart ↦ omega (arith, order_there a b i j (omega (arith, h, apart)))
  ]

  pub order_back : (a b : ℕ) → In a (facet_edges kind d s.facet) → In b (facet_edges kind d s.facet) → edge_across kind d s a ≤ edge_across kind d s b → a ≤ b
  order_back a b i j h = elim (cases_lt b a) [
    | inl less ↦ absurd (omega (arith, h, order_there b a j i less))
    | inr more ↦ more
  ]
