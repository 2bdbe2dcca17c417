use Rattle.std.proofs.Common.{ap, arith, refl, subst, length, slice_index, slice_index_or, ℕ, List, ◌≡◌, ◌+◌, ◌*◌, ◌<◌}
use Rattle.grid_rows.specs.declared.grids.GridRows.{GridRows}
use Rattle.grid_rows.specs.RowNumbers.{edge_rows}
use Rattle.layer_scan.specs.CubeNumbers.{AreWordsOf, edges_of}
use Rattle.layer_scan.proofs.EdgePlaneSteps.{edges_there}
use Rattle.layer_scan.proofs.SlotsTold.{slots_tell}
use Rattle.layer_scan.proofs.cubes.CubeSlots.new.Goals as goal

pub nine_words-requires-clause-rows : goal.nine_words-requires-clause-rows
nine_words-requires-clause-rows c = λ k d h.
    edges_there (edge_rows c.args.rows.now) c.args.rows.now.words c.args.edges.now.below (slice_index_or c.cube_row-row.result.edges k d)
    c.requires.edges.below (c.cube_row-row.ensures.edges k d h)

pub nine_words-requires-2-clause-rows : goal.nine_words-requires-2-clause-rows
nine_words-requires-2-clause-rows c = λ k d h.
    edges_there (edge_rows c.args.rows.now) c.args.rows.now.words c.args.edges.now.upright (slice_index_or c.cube_row-row.result.edges k d)
    c.requires.edges.upright (c.cube_row-row.ensures.edges k d h)

pub nine_words-requires-3-clause-rows : goal.nine_words-requires-3-clause-rows
nine_words-requires-3-clause-rows c = λ k d h.
    edges_there (edge_rows c.args.rows.now) c.args.rows.now.words c.args.edges.now.lower (slice_index_or c.cube_row-row.result.edges k d)
    c.requires.edges.lower (c.cube_row-row.ensures.edges k d h)

pub returns-clause-told : goal.returns-clause-told
returns-clause-told c = λ v s tells.
    let rows : GridRows = c.args.rows.now in
    let same : c.cube_row-row.result.edges ≡ edges_of rows c.args.number = c.cube_row-row.ensures.row.2 in
    let long : length c.cube_row-row.result.edges ≡ 9 = ap length same in
    slots_tell v rows s c.args.number c.args.w c.args.edges.now _ c.requires.edges c.requires.row c.requires.word
    (subst (λ (l : List ℕ). (k : ℕ) → k < 9 → slice_index l k < edge_rows rows) same
    (λ k h. c.cube_row-row.ensures.edges k 0 (omega (arith, h, long))))
    (record {
      sides = refl;
      kind = refl;
      below = subst (λ (l : List ℕ). AreWordsOf c.args.edges.now.below l c.args.w c.nine_words.result) same c.nine_words.ensures;
      upright = subst (λ (l : List ℕ). AreWordsOf c.args.edges.now.upright l c.args.w c.nine_words-2.result) same c.nine_words-2.ensures;
      lower = subst (λ (l : List ℕ). AreWordsOf c.args.edges.now.lower l c.args.w c.nine_words-3.result) same c.nine_words-3.ensures;
      to_lower = c.centre_words.ensures.to_lower;
      to_upper = c.centre_words.ensures.to_upper;
    })
    tells
