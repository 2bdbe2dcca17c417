-- The numbers of a triangle are numbers of links.
use Rattle.std.proofs.Common.{◌≡◌, ℕ, ◌<◌, Bool, true, List, length, refl, ap, sym, ◌∙◌, subst}
use Rattle.std.specs.Prelude.{map, flat_map, ◌&&◌, nat_lt, slice_index}
use Rattle.std.specs.Int.{bit_at}
use Rattle.std.proofs.lemmas.Bool.{and_parts}
use Rattle.lists.specs.Orders.{numbers, sorted}
use Rattle.lists.specs.Members.{In}
use Rattle.lists.specs.Bits.{is_set}
use Rattle.lists.proofs.Bits.{bit_is_test}
use Rattle.lists.proofs.Powers.{powers_bits}
use Rattle.lists.proofs.Tests.{lt_of}
use Rattle.lists.proofs.MemberLaws.{all_below, In-numbers, In-map, In-filter, Contains_from, In-flat_map}
use Rattle.iso_model.specs.declared.Kind.TheVariants.{Simplex}
use Rattle.iso_model.specs.Cells.{edge_ends}
use Rattle.iso_model.specs.Bipolar.{differ, is_bipolar_in}
use Rattle.cut_laws.specs.Cuts.{label_of, edge_of, late_label, link_at, links_below, number_in}
use Rattle.cut_laws.specs.CutSteps.{IsSimplex, is_parted, links_in}
use Rattle.cut_laws.proofs.FoundLinks.{found_is_link, links_are}
use Rattle.cut_laws.proofs.LinkOrder.{number_at}

-- bit k of the label says whether corner k is late
label_bit : (late : ℕ → Bool) (corners : List ℕ) (k : ℕ) → k < 4 → is_set (label_of late corners) k ≡ late (slice_index corners k)
label_bit late corners k h =
    bit_is_test (late (slice_index corners k)) (bit_at (label_of late corners) k) (powers_bits (λ j. late (slice_index corners j)) 4 k h)

-- the ends of a local edge are corners
ends_small : (e : ℕ) → e < 6 → ((edge_ends Simplex 3 e).0 < 4) × ((edge_ends Simplex 3 e).1 < 4)
ends_small e h =
    let both = and_parts (nat_lt (edge_ends Simplex 3 e).0 4) (nat_lt (edge_ends Simplex 3 e).1 4)
    (all_below 6 (λ k. nat_lt (edge_ends Simplex 3 k).0 4 && nat_lt (edge_ends Simplex 3 k).1 4) refl e h) in
    (lt_of (edge_ends Simplex 3 e).0 4 both.0, lt_of (edge_ends Simplex 3 e).1 4 both.1)

-- a local edge is bipolar in the label of late corners exactly where one of its ends is late and the other is not
pub parted_is_bipolar : (late : ℕ → Bool) (corners : List ℕ) (e : ℕ) → e < 6
    → is_bipolar_in Simplex 3 (label_of late corners) e ≡ is_parted late (edge_of corners e)
parted_is_bipolar late corners e h =
    let small = ends_small e h in
    ap (λ (b : Bool). differ b (is_set (label_of late corners) (edge_ends Simplex 3 e).1)) (label_bit late corners (edge_ends Simplex 3 e).0 small.0)
    ∙ ap (λ (b : Bool). differ (late (slice_index corners (edge_ends Simplex 3 e).0)) b) (label_bit late corners (edge_ends Simplex 3 e).1 small.1)

-- so the link on such an edge has a number
pub number_below : (n : ℕ) (late : ℕ → Bool) (simplices : List (List ℕ)) → ((w : List ℕ) → In w simplices → IsSimplex n w) → (w : List ℕ) → In w simplices
    → (e : ℕ) → e < 6 → is_bipolar_in Simplex 3 (late_label late w) e ≡ true
    → number_in (links_below n late simplices) (link_at w e) < length (links_below n late simplices)
number_below n late simplices are w i e h b =
    let ls = links_below n late simplices in
    let l = link_at w e in
    let parted : is_parted late l ≡ true = sym (parted_is_bipolar late (sorted w) e h) ∙ b in
    let local : In l (links_in late w) = In-filter (is_parted late) (map (link_at w) (numbers 6)) l (In-map (link_at w) (numbers 6) e (In-numbers 6 e h)) parted in
    let c = found_is_link n late simplices are l (Contains_from (flat_map (links_in late) simplices) l (In-flat_map (links_in late) simplices w l i local)) in
    subst (λ (k : ℕ). k < length ls) (sym (number_at ls (links_are n late simplices).ascend c.0 l c.1 c.2)) c.1
