-- The placed simplices of an accepted table are turned to their positive sides.
use Rattle.std.proofs.Common.{◌≡◌, ℕ, ◌<◌, Bool, true, false, not, ◌&&◌, ◌||◌, List, [], ◌∷◌, length, refl, ap, sym, ◌∙◌, subst, arith, inl, inr, ℤ}
use Rattle.std.specs.Prelude.{map, pos, neg_ℤ, ◌<ℤ◌, int_lt, T, ◌==◌, nat_lt}
use Rattle.std.specs.List.{list_all}
use Rattle.std.specs.Int.Signed.{lt_z_yes}
use Rattle.std.proofs.Math.IntN.{neg_ℤ-neg_ℤ}
use Rattle.std.proofs.lemmas.Bool.{eqb-true, and_from}
use Rattle.std.proofs.lemmas.List.{length-map}
use Rattle.iso_model.specs.declared.Kind.{Kind}
use Rattle.lists.specs.Orders.{is_distinct, exchange_last}
use Rattle.iso_model.specs.Turns.{turn, signed, difference, side_rows}
use Rattle.iso_model.specs.Cells.{edge_count, label_count}
use Rattle.iso_model.specs.Splits.{Edge, corner, edge, midpoint, is_odd_cell}
use Rattle.iso_model.specs.Values.{Volume, cells, IsRegularVolume, label_of}
use Rattle.iso_model.specs.Bipolar.{is_bipolar, is_bipolar_in, bipolar_edge, bipolar_edges, place_in}
use Rattle.iso_model.specs.Tables.{Table, entry_of}
use Rattle.iso_model.specs.Placed.{placed_tuple, cell_simplices, placed_mesh}
use Rattle.iso_model.specs.Acceptance.{is_sound_tuple, rule_edges, rule_side, side_turn, positive_end, negative_end, IsAccepted}
use Rattle.iso_model.specs.Surface.{IsSided, towards_positive}
use Rattle.iso_model.proofs.BipolarLaws.{length-corner, length-edge}
use Rattle.volume_pieces.proofs.AcrossStands.{volume_dimension}
use Rattle.volume_pieces.proofs.AcrossShares.{PlacesHaveEdges}
use Rattle.volume_pieces.proofs.AcrossMatches.{LabelsAreBelow}
use Rattle.volume_pieces.proofs.Seams.{LabelsTellSigns}
use Rattle.surface_laws.proofs.ExchangedTurns.{exchange_changes, from_exchanged}
use Rattle.surface_laws.proofs.SideRows.{placed_turn}
use Rattle.surface_laws.proofs.TowardsPositive.{bipolar_below, bipolar_by_label, towards_by_label, ends_are_below}
use Rattle.lists.specs.Members.{In}
use Rattle.lists.proofs.Tests.{not_or, of_lt, and_left, and_right}
use Rattle.lists.proofs.MemberLaws.{In_from, all_In, from_In-map, from_In-flat_map}
use Rattle.iso_model.proofs.PointLaws.{length-difference}

-- ---- what the rules say of a tuple of an entry

-- a tuple has D bipolar edges, and its turn towards the positive end of each is positive
pub record IsSidedTuple (kind : Kind) (d label : ℕ) (w : List ℕ) : Type 0 where
  pub long : length w ≡ d
  pub bipolar : (e : ℕ) → In e w → is_bipolar_in kind d label e ≡ true
  pub sided : (e : ℕ) → In e w → int_lt (pos 0) (side_turn kind d label w e) ≡ true

pub tuples_sided : (kind : Kind) (d label : ℕ) (ws : List (List ℕ)) → rule_edges kind d label ws ≡ true → rule_side kind d label ws ≡ true
    → (w : List ℕ) → In w ws → IsSidedTuple kind d label w
tuples_sided kind d label ws edges_kept sides_kept w i =
    let sound : is_sound_tuple kind d label w ≡ true =
    all_In (is_sound_tuple kind d label) ws (and_left (list_all (is_sound_tuple kind d label) ws) _ edges_kept) w i in
    let a : Bool = length w == d in
    let b : Bool = is_distinct w in
    let c : Bool = list_all (is_bipolar_in kind d label) w in
    let at_w = all_In (λ x. not (is_sound_tuple kind d label x) || list_all (λ e. int_lt (pos 0) (side_turn kind d label x e)) x) ws sides_kept w i in
    record {
      long = eqb-true (length w) d (and_left a b (and_left (a && b) c sound));
      bipolar = all_In (is_bipolar_in kind d label) w (and_right (a && b) c sound);
      sided =
          all_In (λ e. int_lt (pos 0) (side_turn kind d label w e)) w
          (not_or (is_sound_tuple kind d label w) (list_all (λ e. int_lt (pos 0) (side_turn kind d label w e)) w) at_w sound);
    }

map_alike : (f g : ℕ → List ℕ) (xs : List ℕ) → ((x : ℕ) → In x xs → f x ≡ g x) → map f xs ≡ map g xs
map_alike f g [] same = refl
map_alike f g (x ∷ xs) same = rw (same x (inl refl), map_alike f g xs (λ y i. same y (inr i))) refl

map_twice : (f : ℕ → ℕ) (g : ℕ → List ℕ) (xs : List ℕ) → map g (map f xs) ≡ map (λ x. g (f x)) xs
map_twice f g [] = refl
map_twice f g (x ∷ xs) = ap (λ (ys : List (List ℕ)). g (f x) ∷ ys) (map_twice f g xs)

positive_of : (x : ℤ) → int_lt (pos 0) x ≡ true → pos 0 <ℤ x
positive_of x h = lt_z_yes (subst T (sym h) tt)

module _ (v : Volume) (t : Table) (regular : IsRegularVolume v) (signs : LabelsTellSigns v) (places : PlacesHaveEdges v t) where
  abbrev D : ℕ
  D = length v.sizes

  -- the place of an edge of a cell, and the point of a vertex
  abbrev place : ℕ → ℕ → ℕ
  place c e = place_in (bipolar_edges v) (edge v.kind v.sizes c e)

  abbrev vertex_point : ℕ → List ℕ
  vertex_point u = midpoint (bipolar_edge v u)

  module _ (c : ℕ) (w : List ℕ) (is_cell : In c (cells v)) (is : IsSidedTuple v.kind (length v.sizes) (label_of v c) w) where
    below : (e : ℕ) → In e w → e < edge_count v.kind (length v.sizes)
    below e i = bipolar_below v.kind D (volume_dimension v regular) regular.fits (label_of v c) e (is.bipolar e i)

    -- the edge at the place of an edge of the tuple
    edge_there : (e : ℕ) → In e w → bipolar_edge v (place c e) ≡ edge v.kind v.sizes c e
    edge_there e i =
        places c e is_cell
        (and_from (nat_lt e (edge_count v.kind D)) (is_bipolar v (edge v.kind v.sizes c e)) (of_lt e (edge_count v.kind D) (below e i))
        (bipolar_by_label v regular signs c e is_cell (below e i) ∙ is.bipolar e i))

    module _ (e : ℕ) (in_tuple : In e w) where
      abbrev front : ℕ
      front = positive_end v.kind (length v.sizes) (label_of v c) e

      abbrev behind : ℕ
      behind = negative_end v.kind (length v.sizes) (label_of v c) e

      abbrev towards : List ℤ
      towards = difference (corner v.kind v.sizes c front) (corner v.kind v.sizes c behind)

      towards_is : towards_positive v (bipolar_edge v (place c e)) ≡ towards
      towards_is = ap (towards_positive v) (edge_there e in_tuple) ∙ towards_by_label v regular signs c e is_cell (below e in_tuple) (is.bipolar e in_tuple)

      some : 0 < length w
      some = has_member w in_tuple
        where
          has_member : (xs : List ℕ) → In e xs → 0 < length xs
          has_member [] i = absurd i
          has_member (x ∷ xs) i = omega arith

      -- before the exchange
      plain_turn :
          turn (side_rows (map vertex_point (map (place c) w)) towards)
          ≡ signed (is_odd_cell v.kind v.sizes c) (side_turn v.kind (length v.sizes) (label_of v c) w e)
      plain_turn =
          let corners_in = ends_are_below v regular signs c e is_cell (below e in_tuple) in
          ap (λ (ps : List (List ℕ)). turn (side_rows ps towards))
          (map_twice (place c) vertex_point w
          ∙ map_alike (λ x. vertex_point (place c x)) (λ x. midpoint (edge v.kind v.sizes c x)) w (λ x i. ap midpoint (edge_there x i)))
          ∙ placed_turn v.kind v.sizes (volume_dimension v regular) regular.fits c w front behind is.long some below corners_in.0 corners_in.1

      wide : (u : ℕ) → In u (map (place c) w) → length (vertex_point u) ≡ length v.sizes
      wide u i =
          let x = from_In-map (place c) w u i in
          ap (λ (k : ℕ). length (vertex_point k)) x.2 ∙ ap (λ (d : Edge). length (midpoint d)) (edge_there x.0 x.1) ∙ length-edge v.kind v.sizes c x.0

      long_towards : length towards ≡ length v.sizes
      long_towards =
          length-difference (corner v.kind v.sizes c front) (corner v.kind v.sizes c behind)
          (length-corner v.kind v.sizes c behind ∙ sym (length-corner v.kind v.sizes c front))
          ∙ length-corner v.kind v.sizes c front

      exchanged_turn :
          turn (side_rows (map vertex_point (exchange_last (map (place c) w))) towards)
          ≡ neg_ℤ (turn (side_rows (map vertex_point (map (place c) w)) towards))
      exchanged_turn =
          exchange_changes D (volume_dimension v regular) vertex_point towards (map (place c) w) (length-map w (place c) ∙ is.long) long_towards wide

      placed_turn_is : (odd : Bool) → is_odd_cell v.kind v.sizes c ≡ odd
          → turn (side_rows (map vertex_point (placed_tuple odd (place c) w)) towards) ≡ side_turn v.kind (length v.sizes) (label_of v c) w e
      placed_turn_is true odd =
          exchanged_turn ∙ ap neg_ℤ (plain_turn ∙ ap (λ (b : Bool). signed b (side_turn v.kind D (label_of v c) w e)) odd)
          ∙ neg_ℤ-neg_ℤ (side_turn v.kind D (label_of v c) w e)
      placed_turn_is false odd = plain_turn ∙ ap (λ (b : Bool). signed b (side_turn v.kind D (label_of v c) w e)) odd

      positive_turn :
          pos 0 <ℤ turn
          (side_rows (map vertex_point (placed_tuple (is_odd_cell v.kind v.sizes c) (place c) w))
          (towards_positive v (bipolar_edge v (place c e))))
      positive_turn =
          let same =
          ap (λ (d : List ℤ). turn (side_rows (map vertex_point (placed_tuple (is_odd_cell v.kind v.sizes c) (place c) w)) d)) towards_is
          ∙ placed_turn_is (is_odd_cell v.kind v.sizes c) refl in
          subst (λ (x : ℤ). pos 0 <ℤ x) (sym same) (positive_of (side_turn v.kind D (label_of v c) w e) (is.sided e in_tuple))

    from_placed : (odd : Bool) (k : ℕ) → In k (placed_tuple odd (place c) w) → In k (map (place c) w)
    from_placed true k i = from_exchanged (map (place c) w) k i
    from_placed false k i = i

    -- a placed tuple is sided at each of its vertices
    sided_at : (k : ℕ) → In k (placed_tuple (is_odd_cell v.kind v.sizes c) (place c) w) →
        pos 0 <ℤ turn (side_rows (map vertex_point (placed_tuple (is_odd_cell v.kind v.sizes c) (place c) w)) (towards_positive v (bipolar_edge v k)))
    sided_at k i =
        let e = from_In-map (place c) w k (from_placed (is_odd_cell v.kind v.sizes c) k i) in
        subst
        (λ (u : ℕ).
        pos 0 <ℤ turn
        (side_rows (map vertex_point (placed_tuple (is_odd_cell v.kind v.sizes c) (place c) w)) (towards_positive v (bipolar_edge v u))))
        (sym e.2) (positive_turn e.0 e.1)

  -- the placed mesh of a table of which each entry keeps the rules on edges and sides
  pub sided_by_entries :
      ((c : ℕ) (w : List ℕ) → In c (cells v) → In w (entry_of t (label_of v c)) → IsSidedTuple v.kind (length v.sizes) (label_of v c) w)
      → IsSided v (placed_mesh v t).simplices
  unfolding placed_mesh
  sided_by_entries entries w k is_simplex is_vertex =
      let c = from_In-flat_map (cell_simplices v t (bipolar_edges v)) (cells v) w (In_from (placed_mesh v t).simplices w is_simplex) in
      let x = from_In-map (placed_tuple (is_odd_cell v.kind v.sizes c.0) (place c.0)) (entry_of t (label_of v c.0)) w c.2 in
      subst (λ (s : List ℕ). pos 0 <ℤ turn (side_rows (map vertex_point s) (towards_positive v (bipolar_edge v k)))) (sym x.2)
      (sided_at c.0 x.0 c.1 (entries c.0 x.0 c.1 x.1) k (subst (λ (s : List ℕ). In k s) x.2 (In_from w k is_vertex)))

  -- the placed mesh of an accepted table in a volume of its kind and dimension is sided
  pub sided : t.kind ≡ v.kind → t.dimension ≡ length v.sizes → IsAccepted t → LabelsAreBelow v → IsSided v (placed_mesh v t).simplices
  sided same_kind same_dimension accepted labels =
      sided_by_entries (λ c w is_cell i. tuples_sided v.kind D (label_of v c) (entry_of t (label_of v c)) (kept_one c is_cell) (kept_four c is_cell) w i)
    where
      label_in : (c : ℕ) → In c (cells v) → label_of v c < label_count t.kind t.dimension
      label_in c is_cell =
          subst (λ (n : ℕ). label_of v c < label_count t.kind n) (sym same_dimension)
          (subst (λ (q : Kind). label_of v c < label_count q (length v.sizes)) (sym same_kind) (labels c is_cell))

      kept_one : (c : ℕ) → In c (cells v) → rule_edges v.kind (length v.sizes) (label_of v c) (entry_of t (label_of v c)) ≡ true
      kept_one c is_cell =
          subst (λ (n : ℕ). rule_edges v.kind n (label_of v c) (entry_of t (label_of v c)) ≡ true) same_dimension
          (subst (λ (q : Kind). rule_edges q t.dimension (label_of v c) (entry_of t (label_of v c)) ≡ true) same_kind
          (accepted (label_of v c) 1 (label_in c is_cell) (omega arith)))

      kept_four : (c : ℕ) → In c (cells v) → rule_side v.kind (length v.sizes) (label_of v c) (entry_of t (label_of v c)) ≡ true
      kept_four c is_cell =
          subst (λ (n : ℕ). rule_side v.kind n (label_of v c) (entry_of t (label_of v c)) ≡ true) same_dimension
          (subst (λ (q : Kind). rule_side q t.dimension (label_of v c) (entry_of t (label_of v c)) ≡ true) same_kind
          (accepted (label_of v c) 4 (label_in c is_cell) (omega arith)))
