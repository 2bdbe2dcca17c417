-- The words around a row of cubes tell of its edges.
use Rattle.std.proofs.Common.{ap, arith, refl, sym, subst, ◌∙◌}
use Rattle.std.proofs.lemmas.List.{get_or-drop}
use Rattle.std.proofs.lemmas.Option.{get_or_from_slice_get}
use Rattle.std.specs.List.{slice_get}
use Rattle.std.specs.Prelude.{List, [], ◌∷◌, Some, drop, length, slice_index, slice_index_or, suc, zero, ℕ, ◌*◌, ◌+◌, ◌%◌, ◌/◌, ◌<◌, ◌≤◌, ◌^◌, ◌≡◌}
use Rattle.iso_model.specs.declared.Kind.TheVariants.{Pyramid}
use Rattle.iso_model.specs.Cells.{HasDimension}
use Rattle.iso_model.specs.Values.{Volume, product}
use Rattle.grid_rows.specs.declared.grids.GridRows.{GridRows}
use Rattle.grid_rows.specs.declared.planes.EdgePlane.{EdgePlane}
use Rattle.grid_rows.specs.declared.planes.EdgeWord.{EdgeWord}
use Rattle.grid_rows.specs.Planes.{edge_row, no_edge}
use Rattle.grid_rows.specs.RowNumbers.{cube_rows, edge_rows}
use Rattle.edge_middles.specs.RowLists.{row_at}
use Rattle.edge_middles.proofs.FewMiddles.{counts_few}
use Rattle.layer_scan.specs.declared.cubes.CubeSlots.{CubeSlots}
use Rattle.layer_scan.specs.declared.edges.LayerEdges.{LayerEdges}
use Rattle.layer_scan.specs.CubeNumbers.{AreSlotsOf, AreWordsOf, HasFewBefore, HaveFewBefore, TellsAround, TellsSlots, edges_of}
use Rattle.layer_scan.specs.GridEdges.{TellsCentreEdges, TellsCubes, TellsEdges, TellsWord}
use Rattle.layer_scan.specs.RowsOfEdges.{HasEdgeRows}
use Rattle.layer_scan.specs.ScanEdges.{HasEdges}
use Rattle.layer_scan.proofs.EdgePlaneSteps.{edges_there}
use Rattle.layer_scan.proofs.SliceRows.{long_range}

-- a row of a plane has as many words as the plane says
pub long_edges : (rows words : ℕ) (plane : EdgePlane) (n : ℕ) → HasEdgeRows rows words plane → n < rows → length (edge_row plane n) ≡ words
long_edges rows words plane n has h =
    long_range plane.edges.items (n * plane.words) plane.words (edges_there rows words plane n has h) ∙ has.0

-- a word of each of two rows that come one after the other
pub two_words : (plane : EdgePlane) (n w : ℕ) (a b : EdgeWord) (more : List EdgeWord) → Some a ≡ slice_get (edge_row plane n) w
    → Some b ≡ slice_get (edge_row plane (n + 1)) w → AreWordsOf plane (n ∷ (n + 1) ∷ []) w (a ∷ b ∷ more)
two_words plane n w a b more one two zero h = sym (get_or_from_slice_get (edge_row plane n) w a no_edge (sym one))
two_words plane n w a b more one two (suc zero) h = sym (get_or_from_slice_get (edge_row plane (n + 1)) w b no_edge (sym two))
two_words plane n w a b more one two (suc (suc k)) h = absurd (omega (arith, h))

around_told : (v : Volume) (rows : GridRows) (height c w : ℕ) (plane : EdgePlane) (words : List EdgeWord) → HasEdgeRows (edge_rows rows) rows.words plane
    → ((k : ℕ) → k < 9 → slice_index (edges_of rows c) k < edge_rows rows) → w < rows.words → AreWordsOf plane (edges_of rows c) w words
    → TellsEdges v rows height plane → TellsAround v rows height c w words
around_told v rows height c w plane words has within lt are tells k h =
    let n : ℕ = slice_index (edges_of rows c) k in
    let long = long_edges (edge_rows rows) rows.words plane n has (within k h) in
    subst (λ word. TellsWord v (λ x. 4 * x) (λ x. 4 * x + 2) (row_at (drop 1 v.sizes) height n) w word) (sym (are k h))
    (tells n (within k h) w (omega (arith, long, lt)))

centre_told : (v : Volume) (rows : GridRows) (height n w : ℕ) (plane : EdgePlane) (word : EdgeWord) → HasEdgeRows (2 * cube_rows rows) rows.words plane
    → n < 2 * cube_rows rows → w < rows.words → word ≡ slice_index_or (edge_row plane n) w no_edge → TellsCentreEdges v rows height plane
    → TellsWord v (λ x. 4 * x + 1) (λ x. 4 * x + 3) ((2 * n + 1) ∷ height ∷ []) w word
centre_told v rows height n w plane word has h lt is tells =
    let long = long_edges (2 * cube_rows rows) rows.words plane n has h in
    subst (λ t. TellsWord v (λ x. 4 * x + 1) (λ x. 4 * x + 3) ((2 * n + 1) ∷ height ∷ []) w t) (sym is) (tells n h w (omega (arith, long, lt)))

-- the row and the height by their own names
renamed : (v : Volume) (n m height other w : ℕ) (word : EdgeWord) → n ≡ m → height ≡ other
    → TellsWord v (λ x. 4 * x + 1) (λ x. 4 * x + 3) ((2 * n + 1) ∷ height ∷ []) w word
    → TellsWord v (λ x. 4 * x + 1) (λ x. 4 * x + 3) ((2 * m + 1) ∷ other ∷ []) w word
renamed v n m height other w word e f told =
    subst (λ h. TellsWord v (λ x. 4 * x + 1) (λ x. 4 * x + 3) ((2 * m + 1) ∷ h ∷ []) w word) f
    (subst (λ k. TellsWord v (λ x. 4 * x + 1) (λ x. 4 * x + 3) ((2 * k + 1) ∷ height ∷ []) w word) e told)

pub slots_tell : (v : Volume) (rows : GridRows) (s c w : ℕ) (edges : LayerEdges) (slots : CubeSlots) → HasEdges rows edges → c < cube_rows rows
    → w < rows.words → ((k : ℕ) → k < 9 → slice_index (edges_of rows c) k < edge_rows rows) → AreSlotsOf edges rows c w slots → TellsCubes v rows s edges
    → TellsSlots v rows s c w slots
slots_tell v rows s c w edges slots has inside lt within are tells = record {
  fits = tells.fits;
  stand = tells.stand;
  few = tells.few;
  inside = inside;
  layer_there = tells.layer_there;
  kind = are.kind ∙ tells.kind;
  sides = are.sides;
  below = around_told v rows (4 * s) c w edges.below slots.below has.below within lt are.below tells.below;
  upright = around_told v rows (4 * s + 2) c w edges.upright slots.upright has.upright within lt are.upright tells.layer.upright;
  lower = around_told v rows (4 * (s + 1)) c w edges.lower slots.lower has.lower within lt are.lower tells.lower;
  centres = λ pyramid k h. by_place k h pyramid (tells.kind ∙ pyramid);
}
  where
    by_place : (k : ℕ) → k < 4 → v.kind ≡ Pyramid → edges.kind ≡ Pyramid → TellsWord v (λ x. 4 * x + 1) (λ x. 4 * x + 3)
        ((2 * (2 * c + k % 2) + 1) ∷ (4 * s + 1 + 2 * (k / 2)) ∷ []) w (slice_index_or slots.centres k no_edge)
    by_place zero h pyramid own =
        renamed v (2 * c) (2 * c + 0) (4 * s + 1) (4 * s + 1 + 2 * 0) w (slice_index_or slots.centres 0 no_edge) (omega arith) (omega arith)
        (centre_told v rows (4 * s + 1) (2 * c) w edges.to_lower (slice_index_or slots.centres 0 no_edge) (has.to_lower own) (omega (arith, inside)) lt
        (are.to_lower own 0 (omega arith)) (tells.layer.to_lower pyramid))
    by_place (suc zero) h pyramid own =
        renamed v (2 * c + 1) (2 * c + 1) (4 * s + 1) (4 * s + 1 + 2 * 0) w (slice_index_or slots.centres 1 no_edge) refl (omega arith)
        (centre_told v rows (4 * s + 1) (2 * c + 1) w edges.to_lower (slice_index_or slots.centres 1 no_edge) (has.to_lower own) (omega (arith, inside)) lt
        (are.to_lower own 1 (omega arith)) (tells.layer.to_lower pyramid))
    by_place (suc (suc zero)) h pyramid own =
        renamed v (2 * c) (2 * c + 0) (4 * s + 3) (4 * s + 1 + 2 * 1) w (slice_index_or slots.centres 2 no_edge) (omega arith) (omega arith)
        (centre_told v rows (4 * s + 3) (2 * c) w edges.to_upper (slice_index_or slots.centres 2 no_edge) (has.to_upper own) (omega (arith, inside)) lt
        (sym (get_or-drop 2 slots.centres 0 no_edge) ∙ are.to_upper own 0 (omega arith)) (tells.layer.to_upper pyramid))
    by_place (suc (suc (suc zero))) h pyramid own =
        renamed v (2 * c + 1) (2 * c + 1) (4 * s + 3) (4 * s + 1 + 2 * 1) w (slice_index_or slots.centres 3 no_edge) refl (omega arith)
        (centre_told v rows (4 * s + 3) (2 * c + 1) w edges.to_upper (slice_index_or slots.centres 3 no_edge) (has.to_upper own) (omega (arith, inside)) lt
        (sym (get_or-drop 2 slots.centres 1 no_edge) ∙ are.to_upper own 1 (omega arith)) (tells.layer.to_upper pyramid))
    by_place (suc (suc (suc (suc k)))) h pyramid own = absurd (omega (arith, h))

-- ---- no more edges come before a word than a grid has

pub few_word : (v : Volume) (at_first at_second : ℕ → ℕ) (rest : List ℕ) (w : ℕ) (word : EdgeWord) → HasDimension v.kind (length v.sizes)
    → product v.sizes ≤ 2 ^ 27 → TellsWord v at_first at_second rest w word → HasFewBefore word
few_word v at_first at_second rest w word fits few tells = let most = counts_few v (4 * (64 * w) ∷ rest) fits few in omega (arith, tells.before, most)

pub few_around : (v : Volume) (rows : GridRows) (height c w : ℕ) (words : List EdgeWord) → HasDimension v.kind (length v.sizes)
    → product v.sizes ≤ 2 ^ 27 → TellsAround v rows height c w words → HaveFewBefore 9 words
few_around v rows height c w words fits few tells k h =
    few_word v (λ x. 4 * x) (λ x. 4 * x + 2) (row_at (drop 1 v.sizes) height (slice_index (edges_of rows c) k)) w (slice_index_or words k no_edge)
    fits few (tells k h)
