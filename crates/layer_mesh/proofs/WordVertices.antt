-- The vertices of a word, by the places of its bits.
use Rattle.std.proofs.Common.{ap, sym, ◌∙◌}
use Rattle.std.specs.Prelude.{ℕ, ◌+◌, ◌*◌, ◌≡◌, ◌++◌, bit_or, flat_map}
use Rattle.std.proofs.lemmas.Bool.{or_parts}
use Rattle.lists.specs.Bits.{is_set}
use Rattle.bit_rows.specs.Rows.{places}
use Rattle.bit_rows.proofs.WordBits.{set_or}
use Rattle.grid_rows.specs.declared.planes.EdgeWord.{EdgeWord}
use Rattle.layer_mesh.specs.declared.rows.RowEnds.{RowEnds}
use Rattle.layer_mesh.specs.RowVertices.{first_vertex, one_if, place_vertices, second_vertex, word_vertices}
use Rattle.layer_mesh.proofs.PlacesOfWords.{set_places}

pub by_places : {D : ℕ} (ends : RowEnds D) (w : ℕ) (word : EdgeWord)
    → flat_map (place_vertices ends w word) (places (bit_or word.first word.second)) ≡ word_vertices ends w word
unfolding word_vertices
by_places ends w word =
    set_places (place_vertices ends w word) (bit_or word.first word.second) (λ k few none.
    let both = or_parts (is_set word.first k) (is_set word.second k) (sym (set_or word.first word.second k) ∙ none) in
    ap (λ t. one_if t (first_vertex ends (64 * w + k)) ++ one_if (is_set word.second k) (second_vertex ends (64 * w + k))) both.0
    ∙ ap (λ t. one_if t (second_vertex ends (64 * w + k))) both.1)
