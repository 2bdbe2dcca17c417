-- The cut by an accepted table is a mesh of triangles that are made of its vertices, and each of its links is crossed.
use Rattle.std.proofs.Common.{◌≡◌, ℕ, ◌<◌, Bool, true, false, ℤ, List, [], length, refl, ap, ◌∙◌, subst, arith}
use Rattle.std.specs.Prelude.{map, All, ◌&&◌, ◌==◌, slice_index_or}
use Rattle.std.specs.List.{list_all}
use Rattle.std.proofs.lemmas.Bool.{and_parts}
use Rattle.std.proofs.lemmas.List.{length-map}
use Rattle.std.proofs.lemmas.List.Elements.{All-map}
use Rattle.lists.specs.Orders.{is_distinct, sorted, is_odd_order}
use Rattle.lists.specs.Members.{In}
use Rattle.lists.proofs.Sorting.{All-exchange_last}
use Rattle.lists.proofs.Powers.{powers_few}
use Rattle.lists.proofs.Contained.{Contains-at, All-from_each, All-flat_map}
use Rattle.lists.proofs.MemberLaws.{In_from, all_In}
use Rattle.iso_model.specs.declared.Kind.{Kind}
use Rattle.iso_model.specs.declared.Kind.TheVariants.{Simplex}
use Rattle.iso_model.specs.Cells.{label_count}
use Rattle.iso_model.specs.Bipolar.{is_bipolar_in}
use Rattle.iso_model.specs.Placed.{placed_tuple}
use Rattle.iso_model.specs.Faces.{Mesh, IsMesh}
use Rattle.iso_model.specs.Tables.{Table, IsTable, IsTuple, entry_of}
use Rattle.iso_model.specs.Acceptance.{rule_edges, is_sound_tuple}
use Rattle.iso_model.specs.OrderedAcceptance.{IsOfTetrahedron, IsAcceptedInOrder}
use Rattle.iso_model.proofs.SignLaws.{length-placed}
use Rattle.cut_laws.specs.Cuts.{is_late, links, label_of, late_label, link_at, number_in, position_on, triangles_in, cut_of}
use Rattle.cut_laws.specs.CutSteps.{IsSimplex}
use Rattle.cut_laws.proofs.NamedTriangles.{number_below}

All-placed : (P : ℕ → Type 0) (odd : Bool) (f : ℕ → ℕ) (t : List ℕ) → All P (map f t) → All P (placed_tuple odd f t)
All-placed P true f t h = All-exchange_last P (map f t) h
All-placed P false f t h = h

pub label_few : (late : ℕ → Bool) (corners : List ℕ) → label_of late corners < 16
label_few late corners = powers_few (λ k. late (slice_index_or corners k 0)) 4

-- the tuples of an entry: three local edges, all bipolar in the label
pub record IsTriple (label : ℕ) (w : List ℕ) : Type 0 where
  pub three : length w ≡ 3
  pub edges : All (λ e. e < 6) w
  pub bipolar : All (λ e. is_bipolar_in Simplex 3 label e ≡ true) w

module _ (t : Table) (is : IsTable t) (of : IsOfTetrahedron t) (accepted : IsAcceptedInOrder t) where
  pub tuples : (label : ℕ) → label < 16 → All (IsTuple Simplex 3) (entry_of t label)
  tuples label h = by_kind t.kind t.dimension of.kind of.dimension is.whole (λ l. (is.sound label [] l).1)
    where
      by_kind : (kind : Kind) (d : ℕ) → kind ≡ Simplex → d ≡ 3 → length t.entries ≡ label_count kind d
          → (label < length t.entries → All (IsTuple kind d) (entry_of t label)) → All (IsTuple Simplex 3) (entry_of t label)
      by_kind kind d p q whole sound =
          let all : length t.entries ≡ 16 = whole ∙ ap (λ (k : Kind). label_count k d) p ∙ ap (label_count Simplex) q in
          subst (λ (n : ℕ). All (IsTuple Simplex n) (entry_of t label)) q
          (subst (λ (k : Kind). All (IsTuple k d) (entry_of t label)) p (sound (omega (arith, h, all))))

  pub sound : (label : ℕ) → label < 16 → rule_edges Simplex 3 label (entry_of t label) ≡ true
  sound label h = by_kind t.kind t.dimension of.kind of.dimension (λ l. accepted label 1 l (omega arith))
    where
      by_kind : (kind : Kind) (d : ℕ) → kind ≡ Simplex → d ≡ 3 → (label < label_count kind d → rule_edges kind d label (entry_of t label) ≡ true)
          → rule_edges Simplex 3 label (entry_of t label) ≡ true
      by_kind kind d p q rule =
          let few : label_count kind d ≡ 16 = ap (λ (k : Kind). label_count k d) p ∙ ap (label_count Simplex) q in
          subst (λ (n : ℕ). rule_edges Simplex n label (entry_of t label) ≡ true) q
          (subst (λ (k : Kind). rule_edges k d label (entry_of t label) ≡ true) p (rule (omega (arith, h, few))))

  pub triples : (label : ℕ) → label < 16 → All (IsTriple label) (entry_of t label)
  triples label h k w l =
      let tuple = tuples label h k w l in
      let all = (and_parts (list_all (is_sound_tuple Simplex 3 label) (entry_of t label)) _ (sound label h)).0 in
      let at = In_from (entry_of t label) (slice_index_or (entry_of t label) k w) (Contains-at (entry_of t label) k w l) in
      let one = all_In (is_sound_tuple Simplex 3 label) (entry_of t label) all (slice_index_or (entry_of t label) k w) at in
      let edges = (and_parts ((length (slice_index_or (entry_of t label) k w) == 3) && is_distinct (slice_index_or (entry_of t label) k w))
      (list_all (is_bipolar_in Simplex 3 label) (slice_index_or (entry_of t label) k w)) one).1 in
      record {
        three = tuple.0;
        edges = tuple.1;
        bipolar = All-from_each (λ e. is_bipolar_in Simplex 3 label e ≡ true) (slice_index_or (entry_of t label) k w)
            (λ e c. all_In (is_bipolar_in Simplex 3 label) (slice_index_or (entry_of t label) k w) edges e (In_from (slice_index_or (entry_of t label) k w) e c));
      }

  module _ (m : Mesh) (time : ℤ) (are : (w : List ℕ) → In w m.simplices → IsSimplex (length m.vertices) w) where
    pub cut_shape : IsMesh 3 (cut_of m t time)
    unfolding cut_of
    cut_shape = record {
      positions = All-map (λ p. length p ≡ 3) (position_on m.vertices time) (links m time) (λ k l h. refl);
      corners = All-flat_map (λ w. length w ≡ 3) (triangles_in (is_late m time) (links m time) t) m.simplices (λ w c.
          let label = late_label (is_late m time) w in
          All-map (λ v. length v ≡ 3) (placed_tuple (is_odd_order w) (λ e. number_in (links m time) (link_at w e))) (entry_of t label) (λ k v h.
          length-placed (is_odd_order w) (λ e. number_in (links m time) (link_at w e)) (slice_index_or (entry_of t label) k v)
          ∙ (triples label (label_few (is_late m time) (sorted w)) k v h).three));
    }

    pub cut_vertices : All (All (λ k. k < length (cut_of m t time).vertices)) (cut_of m t time).simplices
    unfolding cut_of links
    cut_vertices =
        let ls = links m time in
        let P : ℕ → Type 0 = λ k. k < length (map (position_on m.vertices time) ls) in
        All-flat_map (All P) (triangles_in (is_late m time) ls t) m.simplices (λ w c.
        let label = late_label (is_late m time) w in
        All-map (All P) (placed_tuple (is_odd_order w) (λ e. number_in ls (link_at w e))) (entry_of t label) (λ k v h.
        let triple = triples label (label_few (is_late m time) (sorted w)) k v h in
        All-placed P (is_odd_order w) (λ e. number_in ls (link_at w e)) (slice_index_or (entry_of t label) k v)
        (All-map P (λ e. number_in ls (link_at w e)) (slice_index_or (entry_of t label) k v) (λ j e i.
        let below = number_below (length m.vertices) (is_late m time) m.simplices are w (In_from m.simplices w c)
        (slice_index_or (slice_index_or (entry_of t label) k v) j e) (triple.edges j e i) (triple.bipolar j e i) in
        omega (arith, below, length-map ls (position_on m.vertices time))))))
