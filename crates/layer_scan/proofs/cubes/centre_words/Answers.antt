use Rattle.std.proofs.Common.{arith, [], ◌∷◌, ◌*◌, ◌+◌}
use Rattle.grid_rows.specs.declared.grids.GridRows.{GridRows}
use Rattle.grid_rows.specs.RowNumbers.{cube_rows}
use Rattle.layer_scan.proofs.EdgePlaneSteps.{edges_there}
use Rattle.layer_scan.proofs.SlotsTold.{two_words}
use Rattle.layer_scan.proofs.cubes.centre_words.Goals as goal

pub word-requires-clause-row : goal.word-requires-clause-row
word-requires-clause-row c =
    let rows : GridRows = c.requires.edges.0 in
    edges_there (2 * cube_rows rows) rows.words c.args.edges.now.to_lower (2 * c.args.number) (c.requires.edges.1.to_lower c.in-Pyramid.is)
    (omega (arith, c.requires.edges.2))

pub word-requires-in-Pyramid-clause-row : goal.word-requires-in-Pyramid-clause-row
word-requires-in-Pyramid-clause-row c =
    let rows : GridRows = c.requires.edges.0 in
    edges_there (2 * cube_rows rows) rows.words c.args.edges.now.to_lower (2 * c.args.number + 1) (c.requires.edges.1.to_lower c.in-Pyramid.is)
    (omega (arith, c.requires.edges.2))

pub word-requires-in-Pyramid-2-clause-row : goal.word-requires-in-Pyramid-2-clause-row
word-requires-in-Pyramid-2-clause-row c =
    let rows : GridRows = c.requires.edges.0 in
    edges_there (2 * cube_rows rows) rows.words c.args.edges.now.to_upper (2 * c.args.number) (c.requires.edges.1.to_upper c.in-Pyramid.is)
    (omega (arith, c.requires.edges.2))

pub word-requires-in-Pyramid-3-clause-row : goal.word-requires-in-Pyramid-3-clause-row
word-requires-in-Pyramid-3-clause-row c =
    let rows : GridRows = c.requires.edges.0 in
    edges_there (2 * cube_rows rows) rows.words c.args.edges.now.to_upper (2 * c.args.number + 1) (c.requires.edges.1.to_upper c.in-Pyramid.is)
    (omega (arith, c.requires.edges.2))

pub returns-in-Pyramid-clause-to_lower : goal.returns-in-Pyramid-clause-to_lower
returns-in-Pyramid-clause-to_lower c = λ own.
    two_words c.args.edges.now.to_lower (2 * c.args.number) c.args.w c.word.result c.word-in-Pyramid.result
    (c.word-in-Pyramid-2.result ∷ c.word-in-Pyramid-3.result ∷ []) c.word.ensures c.word-in-Pyramid.ensures

pub returns-in-Pyramid-clause-to_upper : goal.returns-in-Pyramid-clause-to_upper
returns-in-Pyramid-clause-to_upper c = λ own.
    two_words c.args.edges.now.to_upper (2 * c.args.number) c.args.w c.word-in-Pyramid-2.result c.word-in-Pyramid-3.result [] c.word-in-Pyramid-2.ensures
    c.word-in-Pyramid-3.ensures
