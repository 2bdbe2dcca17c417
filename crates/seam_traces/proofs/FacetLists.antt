-- The lists of edges of facets, and the places of faces on both sides of a seam.
use Rattle.std.specs.Prelude.{◌≡◌, ℕ, zero, suc, ◌+◌, ◌-◌, ◌<◌, ◌≤◌, Bool, true, false, List, ◌∷◌, map, filter, length, nat_le}
use Rattle.std.specs.Prelude.{if◌then◌else◌}
use Rattle.std.specs.List.{range_with_len}
use Rattle.std.proofs.Common.{refl, sym, ap, ◌∙◌, arith, inl, inr}
use Rattle.std.proofs.lemmas.Bool.{leb-true}
use Rattle.std.proofs.lemmas.List.{length-map}
use Rattle.iso_model.specs.declared.Kind.{Kind}
use Rattle.lists.specs.Orders.{numbers, choices}
use Rattle.iso_model.specs.Cells.{HasDimension, edge_count, edge_in_facet, facet_count, facet_edges}
use Rattle.iso_model.specs.Seams.{Seam, edge_across}
use Rattle.cell_lattice.specs.Agreement.{agree}
use Rattle.iso_model.specs.Dimensions.{IsDimension, of_each_cell}
use Rattle.seam_traces.specs.Traces.{places}
use Rattle.seam_traces.specs.SeamLists.{IsSeamOf}
use Rattle.lists.specs.Bits.{is_set, set_number}
use Rattle.lists.specs.Members.{In}
use Rattle.lists.proofs.MemberLaws.{from_filter}

pub range_in : (a n y : ℕ) → In y (range_with_len a n) → (a ≤ y) × (y < a + n)
range_in a zero y i = absurd i
range_in a (suc n) y (inl e) = (omega arith, omega arith)
range_in a (suc n) y (inr i) = let r = range_in (a + 1) n y i in let low = r.0 in let high = r.1 in (omega arith, omega arith)

few : (kind : Kind) (d : ℕ) → IsDimension d → HasDimension kind d → nat_le (edge_count kind d) 32 ≡ true
few = of_each_cell (λ k n. nat_le (edge_count k n) 32 ≡ true) refl refl refl refl refl refl refl

pub few_edges : (kind : Kind) (d : ℕ) → IsDimension d → HasDimension kind d → edge_count kind d ≤ 32
few_edges kind d is has = leb-true (edge_count kind d) 32 (few kind d is has)

pub facet_small : (kind : Kind) (d : ℕ) → IsDimension d → HasDimension kind d → (f y : ℕ) → In y (facet_edges kind d f) → y < 32
facet_small kind d is has f y i =
    let r = range_in 0 (edge_count kind d) y (from_filter (edge_in_facet kind d f) (numbers (edge_count kind d)) y i).0 in
    let high = r.1 in
    let small = few_edges kind d is has in
    omega arith

-- the choices of n members of a list, each by the places of its members
abbrev pub places_of_choices : ℕ → List ℕ → List ℕ
places_of_choices n edges = map (λ face. places edges (set_number face)) (choices n edges)

-- the places of the faces in a facet
abbrev pub face_places : Kind → ℕ → ℕ → List ℕ
face_places kind d f = places_of_choices (d - 1) (facet_edges kind d f)

-- the places of the faces in a facet are those of the choices of as many numbers
places_by_count : (kind : Kind) (d : ℕ) → IsDimension d → HasDimension kind d → (f : ℕ) → f < facet_count kind d
    → face_places kind d f ≡ places_of_choices (d - 1) (numbers (length (facet_edges kind d f)))
places_by_count kind d is has =
    agree (facet_count kind d) (face_places kind d) (λ f. places_of_choices (d - 1) (numbers (length (facet_edges kind d f))))
    (of_each_cell
    (λ k n.
    map (face_places k n) (numbers (facet_count k n))
    ≡ map (λ f. places_of_choices (n - 1) (numbers (length (facet_edges k n f)))) (numbers (facet_count k n)))
    refl refl refl refl refl refl refl kind d is has)

-- the faces on both sides of a seam have the same places
pub seam_places : (kind : Kind) (d : ℕ) → IsDimension d → HasDimension kind d → (s : Seam) → IsSeamOf kind d s
    → face_places kind d s.facet ≡ face_places kind d s.other
seam_places kind d is has s seam =
    let count : length (facet_edges kind d s.facet) ≡ length (facet_edges kind d s.other) =
    sym (length-map (facet_edges kind d s.facet) (edge_across kind d s)) ∙ ap (λ (l : List ℕ). length l) seam.edges in
    places_by_count kind d is has s.facet seam.facet ∙ ap (λ n. places_of_choices (d - 1) (numbers n)) count
    ∙ sym (places_by_count kind d is has s.other seam.other)

-- ---- what the calls of a cell tell

filter_length : (p : ℕ → Bool) (a n : ℕ) → length (filter p (range_with_len a n)) ≤ n
filter_length p a zero = omega arith
filter_length p a (suc n) = by (p a) (filter_length p (a + 1) n)
  where
    by : (b : Bool) → length (filter p (range_with_len (a + 1) n)) ≤ n
        → length (if b then a ∷ filter p (range_with_len (a + 1) n) else filter p (range_with_len (a + 1) n)) ≤ suc n
    by true h = omega arith
    by false h = omega arith

pub members_few : (p : ℕ → Bool) (n : ℕ) → length (filter p (numbers n)) ≤ n
members_few p n = filter_length p 0 n

filter_range : (p q : ℕ → Bool) (a n : ℕ) → ((k : ℕ) → a ≤ k → k < a + n → p k ≡ q k) → filter p (range_with_len a n) ≡ filter q (range_with_len a n)
filter_range p q a zero h = refl
filter_range p q a (suc n) h =
    ap (λ (b : Bool). if b then a ∷ filter p (range_with_len (a + 1) n) else filter p (range_with_len (a + 1) n)) (h a (omega arith) (omega arith))
    ∙ ap (λ (l : List ℕ). if q a then a ∷ l else l) (filter_range p q (a + 1) n (λ k low high. h k (omega arith) (omega arith)))

pub members_are : (set : ℕ) (q : ℕ → Bool) (n m : ℕ) → n ≡ m → ((k : ℕ) → k < n → is_set set k ≡ q k) → filter (is_set set) (numbers n) ≡ filter q (numbers m)
members_are set q n m e h = filter_range (is_set set) q 0 n (λ k low high. h k (omega arith)) ∙ ap (λ l. filter q (numbers l)) e
