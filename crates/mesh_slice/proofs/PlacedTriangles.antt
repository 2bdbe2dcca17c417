-- The tuples of an entry, placed by the numbers of the links on its local edges, are the triangles in a simplex.
use Rattle.std.proofs.Common.{◌≡◌, ℕ, ◌<◌, Bool, List, length, ap, ◌∙◌, subst}
use Rattle.std.specs.Prelude.{map, All, slice_index, if◌then◌else◌}
use Rattle.lists.specs.Orders.{is_odd_order, exchange_last}
use Rattle.lists.proofs.Contained.{each-from_All}
use Rattle.lists.proofs.MemberLaws.{map_same, Contains_from}
use Rattle.iso_model.specs.declared.Kind.{Kind}
use Rattle.iso_model.specs.declared.Kind.TheVariants.{Simplex}
use Rattle.iso_model.specs.Cells.{label_count}
use Rattle.iso_model.specs.Placed.{placed_tuple}
use Rattle.iso_model.specs.Tables.{Table, IsTable, IsEntry, IsTuple, entry_of}
use Rattle.iso_model.specs.OrderedAcceptance.{IsOfTetrahedron}
use Rattle.cut_laws.specs.declared.Link.{Link}
use Rattle.cut_laws.specs.Cuts.{number_in, late_label, link_at, triangles_in}
use Rattle.mesh_slice.specs.Slices.{placed_by}

-- a table of the tetrahedron has 16 entries
pub sixteen : (t : Table) → IsTable t → IsOfTetrahedron t → length t.entries ≡ 16
sixteen t is of = is.whole ∙ ap (λ (k : Kind). label_count k t.dimension) of.kind ∙ ap (label_count Simplex) of.dimension

-- the tuples of an entry are made of local edges
pub local_edges : (kind : Kind) (ws : List (List ℕ)) → kind ≡ Simplex → IsEntry kind 3 ws → All (All (λ e. e < 6)) ws
local_edges kind ws is entry =
    let all : All (IsTuple Simplex 3) ws = subst (λ (k : Kind). All (IsTuple k 3) ws) is entry.1 in
    λ k w h. (all k w h).1

pub placed_are : (odd : Bool) (places : List ℕ) (ls : List Link) (w : List ℕ) (tuples : List (List ℕ)) → All (All (λ e. e < 6)) tuples
    → ((e : ℕ) → e < 6 → slice_index places e ≡ number_in ls (link_at w e))
    → placed_by odd places tuples ≡ map (placed_tuple odd (λ e. number_in ls (link_at w e))) tuples
placed_are odd places ls w tuples few same =
    map_same (placed_tuple odd (λ e. slice_index places e)) (placed_tuple odd (λ e. number_in ls (link_at w e))) tuples (λ t i.
    ap (λ (ks : List ℕ). if odd then exchange_last ks else ks)
    (map_same (λ e. slice_index places e) (λ e. number_in ls (link_at w e)) t (λ e j.
    same e (each-from_All (λ e. e < 6) t (each-from_All (All (λ e. e < 6)) tuples few t (Contains_from tuples t i)) e (Contains_from t e j)))))

pub triangles_are : (late : ℕ → Bool) (odd : Bool) (places : List ℕ) (ls : List Link) (cut : Table) (w : List ℕ) (tuples : List (List ℕ))
    → All (All (λ e. e < 6)) tuples → odd ≡ is_odd_order w → ((e : ℕ) → e < 6 → slice_index places e ≡ number_in ls (link_at w e))
    → tuples ≡ entry_of cut (late_label late w) → placed_by odd places tuples ≡ triangles_in late ls cut w
triangles_are late odd places ls cut w tuples few parity same entry =
    placed_are odd places ls w tuples few same
    ∙ ap (λ (b : Bool). map (placed_tuple b (λ e. number_in ls (link_at w e))) tuples) parity
    ∙ ap (map (placed_tuple (is_odd_order w) (λ e. number_in ls (link_at w e)))) entry
