-- Signs at the ends of edges, and labels by their bits.
use Rattle.std.proofs.Common.{◌≡◌, Bool, true, false, refl, ℕ, List, sym, ap, ◌<◌, length, ◌∙◌}
use Rattle.iso_model.specs.Bipolar.{differ, is_bipolar, is_bipolar_in, same_edge}
use Rattle.std.specs.Prelude.{if◌then◌else◌, map}
use Rattle.iso_model.specs.Points.{comes_first}
use Rattle.iso_model.specs.Splits.{edge_of_ends, corner, edge, Edge}
use Rattle.iso_model.specs.Values.{Volume, positive_at, label_of}
use Rattle.std.proofs.lemmas.Bool.{false≢true}
use Rattle.std.specs.Int.{bit_at}
use Rattle.iso_model.specs.Cells.{corner_count, edge_count, edge_ends, edge_in_facet, facet_edges}
use Rattle.lists.specs.Bits.{is_set}
use Rattle.lists.proofs.Bits.{bit_is_test}
use Rattle.lists.proofs.Powers.{powers_below, powers_bits}
use Rattle.std.proofs.lemmas.Slice.Eq.{bytes_eq-Decides}
use Rattle.lists.specs.Orders.{same_list, numbers}
use Rattle.iso_model.specs.declared.Kind.{Kind}
use Rattle.lists.specs.Members.{Ascends}
use Rattle.lists.proofs.Ascending.{Ascends-range, Ascends-filter}
use Rattle.std.proofs.lemmas.List.{length-map}
use Rattle.iso_model.specs.Placed.{placed_tuple}
use Rattle.lists.proofs.Sorting.{length-exchange}

pub differ-exchanged : (a b : Bool) → differ b a ≡ differ a b
differ-exchanged true true = refl
differ-exchanged true false = refl
differ-exchanged false true = refl
differ-exchanged false false = refl

pub either_order : (v : Volume) (p q : List ℕ) → is_bipolar v (edge_of_ends p q) ≡ differ (positive_at v p) (positive_at v q)
either_order v p q = go (comes_first p q)
  where
    go : (b : Bool) → is_bipolar v (if b then record { low = p; high = q } else record { low = q; high = p }) ≡ differ (positive_at v p) (positive_at v q)
    go true = refl
    go false = differ-exchanged (positive_at v p) (positive_at v q)

pub same_signs : (a b : Bool) → a ≡ b → differ a b ≡ false
same_signs true true e = refl
same_signs true false e = absurd (false≢true (sym e))
same_signs false true e = absurd (false≢true e)
same_signs false false e = refl

-- bit k of the label of a cell is set where its corner k is positive
pub label_bit : (v : Volume) (c k : ℕ) → k < corner_count v.kind (length v.sizes) → is_set (label_of v c) k ≡ positive_at v (corner v.kind v.sizes c k)
unfolding label_of
label_bit v c k h =
    bit_is_test (positive_at v (corner v.kind v.sizes c k))
    (bit_at (powers_below (λ j. positive_at v (corner v.kind v.sizes c j)) (corner_count v.kind (length v.sizes))) k)
    (powers_bits (λ j. positive_at v (corner v.kind v.sizes c j)) (corner_count v.kind (length v.sizes)) k h)

-- an edge of a cell is bipolar where it is in the cell's label
pub bipolar_in_label : (v : Volume) (cell e : ℕ) → (edge_ends v.kind (length v.sizes) e).0 < corner_count v.kind (length v.sizes)
    → (edge_ends v.kind (length v.sizes) e).1 < corner_count v.kind (length v.sizes)
    → is_bipolar v (edge v.kind v.sizes cell e) ≡ is_bipolar_in v.kind (length v.sizes) (label_of v cell) e
bipolar_in_label v cell e h k =
    let ends = edge_ends v.kind (length v.sizes) e in
    either_order v (corner v.kind v.sizes cell ends.0) (corner v.kind v.sizes cell ends.1)
    ∙ ap (λ (b : Bool). differ b (positive_at v (corner v.kind v.sizes cell ends.1))) (sym (label_bit v cell ends.0 h))
    ∙ ap (λ (b : Bool). differ (is_set (label_of v cell) ends.0) b) (sym (label_bit v cell ends.1 k))

pub edge_itself : (e : Edge) → same_edge e e ≡ true
edge_itself e =
    let low : same_list e.low e.low ≡ true = (bytes_eq-Decides e.low e.low).1 refl in
    let high : same_list e.high e.high ≡ true = (bytes_eq-Decides e.high e.high).1 refl in
    rw (low, high) refl

pub facet_edges_ascend : (kind : Kind) (d f : ℕ) → Ascends (facet_edges kind d f)
facet_edges_ascend kind d f = Ascends-filter (edge_in_facet kind d f) (numbers (edge_count kind d)) (Ascends-range 0 (edge_count kind d))

pub length-placed : (odd : Bool) (f : ℕ → ℕ) (t : List ℕ) → length (placed_tuple odd f t) ≡ length t
length-placed false f t = length-map t f
length-placed true f t = length-exchange (map f t) ∙ length-map t f
