-- The vertices of a row of words that tell which edges are there are those on the edges that are there.
use Rattle.std.proofs.Common.{ap, arith, refl, sym, ◌∙◌}
use Rattle.std.proofs.lemmas.List.{map-append}
use Rattle.std.specs.Prelude.{ℕ, suc, ◌+◌, ◌-◌, ◌*◌, ◌<◌, ◌≤◌, ◌≡◌, Bool, true, false, List, [], ◌∷◌, ◌++◌}
use Rattle.std.specs.Prelude.{ℤ, length, map, flat_map, slice_index, slice_index_or, if◌then◌else◌}
use Rattle.lists.specs.Members.{In}
use Rattle.lists.specs.Orders.{numbers}
use Rattle.iso_model.specs.Crossing.{vertex_of}
use Rattle.iso_model.specs.Values.{Volume}
use Rattle.edge_middles.specs.GridMiddles.{is_there, quarter_points}
use Rattle.edge_middles.specs.Middles.{edge_at}
use Rattle.edge_middles.specs.RowCounts.{IsRowOfMiddles}
use Rattle.edge_middles.specs.RowLists.{one_there, row_there}
use Rattle.edge_middles.proofs.NextRows.{point_parts}
use Rattle.edge_middles.proofs.PointsThere.{in_points, stands}
use Rattle.bit_rows.specs.Rows.{word_count}
use Rattle.grid_rows.specs.declared.planes.EdgeWord.{EdgeWord}
use Rattle.grid_rows.specs.Planes.{no_edge}
use Rattle.layer_scan.specs.GridEdges.{TellsRow}
use Rattle.layer_mesh.specs.declared.rows.RowEnds.{RowEnds}
use Rattle.layer_mesh.specs.RowVertices.{IsCrossedRow, IsFirstCrossed, IsSecondCrossed, first_vertex, one_if, place_vertices, row_vertices}
use Rattle.layer_mesh.specs.RowVertices.{second_vertex, word_vertices}
use Rattle.layer_mesh.proofs.PlacesOfWords.{by_blocks, map_of_joined, none_from, same_below}

-- ---- where edges can be

first_inside : (sizes : List ℕ) (c : ℕ) (rest : List ℕ) → In (c ∷ rest) (quarter_points sizes) → suc (length rest) ≡ length sizes
    → c < 4 * slice_index sizes 0 - 3
first_inside [] c rest i long = absurd (omega (arith, long))
first_inside (n ∷ sizes) c rest i long = (point_parts n sizes c rest i).0

pub there_inside : (v : Volume) (c : ℕ) (rest : List ℕ) → IsRowOfMiddles v rest → is_there v (c ∷ rest) ≡ true → c < 4 * slice_index v.sizes 0 - 3
there_inside v c rest long there =
    let s = stands v (c ∷ rest) there in
    first_inside v.sizes c rest (in_points v.sizes s.cube (c ∷ rest) s.inside long s.held) long

-- where edges are there at two midpoints of a place of a row, they are crossed, their vertices are those of the row, and the place is inside
pub record MeetsThere {D : ℕ} (v : Volume) (first second : ℕ → ℕ) (rest : List ℕ) (ends : RowEnds D) : Type 0 where
  pub first_inside : (x : ℕ) → is_there v (first x ∷ rest) ≡ true → x < slice_index v.sizes 0
  pub second_inside : (x : ℕ) → is_there v (second x ∷ rest) ≡ true → x < slice_index v.sizes 0
  pub first_crossed : (x : ℕ) → is_there v (first x ∷ rest) ≡ true → IsFirstCrossed ends x
  pub second_crossed : (x : ℕ) → is_there v (second x ∷ rest) ≡ true → IsSecondCrossed ends x
  pub first_is : (x : ℕ) → is_there v (first x ∷ rest) ≡ true → first_vertex ends x ≡ vertex_of v (edge_at (first x ∷ rest))
  pub second_is : (x : ℕ) → is_there v (second x ∷ rest) ≡ true → second_vertex ends x ≡ vertex_of v (edge_at (second x ∷ rest))

module _ {D : ℕ} (v : Volume) (first second : ℕ → ℕ) (rest : List ℕ) (ends : RowEnds D) (meets : MeetsThere v first second rest ends) where
  one_vertex : (t : Bool) (p : List ℤ) (m : List ℕ) → (t ≡ true → p ≡ vertex_of v (edge_at m))
      → one_if t p ≡ map (λ k. vertex_of v (edge_at k)) (if t then m ∷ [] else [])
  one_vertex true p m same = ap (λ q. q ∷ []) (same refl)
  one_vertex false p m same = refl

  not_past : (t : Bool) (x : ℕ) → slice_index v.sizes 0 ≤ x → (t ≡ true → x < slice_index v.sizes 0) → t ≡ false
  not_past true x far inside = absurd (omega (arith, far, inside refl))
  not_past false x far inside = refl

  -- what is at a place
  at_place : ℕ → List (List ℤ)
  at_place x = one_if (is_there v (first x ∷ rest)) (first_vertex ends x) ++ one_if (is_there v (second x ∷ rest)) (second_vertex ends x)

  place_is : (x : ℕ) → at_place x ≡ map (λ m. vertex_of v (edge_at m)) (one_there v (first x ∷ rest) ++ one_there v (second x ∷ rest))
  unfolding at_place
  place_is x =
      (λ i. one_vertex (is_there v (first x ∷ rest)) (first_vertex ends x) (first x ∷ rest) (meets.first_is x) i
      ++ one_vertex (is_there v (second x ∷ rest)) (second_vertex ends x) (second x ∷ rest) (meets.second_is x) i)
      ∙ sym (map-append (λ m. vertex_of v (edge_at m)) (one_there v (first x ∷ rest)) (one_there v (second x ∷ rest)))

  none_past : (x : ℕ) → slice_index v.sizes 0 ≤ x → at_place x ≡ []
  unfolding at_place
  none_past x far =
      (λ i. one_if (not_past (is_there v (first x ∷ rest)) x far (meets.first_inside x) i) (first_vertex ends x)
      ++ one_if (not_past (is_there v (second x ∷ rest)) x far (meets.second_inside x) i) (second_vertex ends x))

  -- ---- the words of a row

  module _ (row : List EdgeWord) (tells : TellsRow v first second rest row) where
    pub row_crossed : IsCrossedRow ends row
    row_crossed w few k less =
        let t = tells w few in (
          λ set. meets.first_crossed (64 * w + k) (sym (t.first k less) ∙ set),
          λ set. meets.second_crossed (64 * w + k) (sym (t.second k less) ∙ set),
        )

    word_is : (w : ℕ) → w < length row → word_vertices ends w (slice_index_or row w no_edge) ≡ flat_map (λ k. at_place (64 * w + k)) (numbers 64)
    unfolding word_vertices at_place
    word_is w few =
        let t = tells w few in
        same_below (place_vertices ends w (slice_index_or row w no_edge)) (λ k. at_place (64 * w + k)) 64
        (λ k less. (λ i. one_if (t.first k less i) (first_vertex ends (64 * w + k)) ++ one_if (t.second k less i) (second_vertex ends (64 * w + k))))

    pub row_is : length row ≡ word_count (slice_index v.sizes 0)
        → row_vertices ends row ≡ map (λ m. vertex_of v (edge_at m)) (row_there v first second rest)
    row_is long =
        let n = slice_index v.sizes 0 in
        let spare : 64 * length row ≡ n + (64 * length row - n) = omega (arith, long) in
        same_below (λ w. word_vertices ends w (slice_index_or row w no_edge)) (λ w. flat_map (λ k. at_place (64 * w + k)) (numbers 64)) (length row) word_is
        ∙ by_blocks at_place 64 (length row) ∙ ap (λ k. flat_map at_place (numbers k)) spare ∙ none_from at_place n (64 * length row - n) none_past
        ∙ same_below at_place (λ x. map (λ m. vertex_of v (edge_at m)) (one_there v (first x ∷ rest) ++ one_there v (second x ∷ rest))) n (λ x less. place_is x)
        ∙ sym (map_of_joined (λ m. vertex_of v (edge_at m)) (λ x. one_there v (first x ∷ rest) ++ one_there v (second x ∷ rest)) (numbers n))
