use Rattle.std.proofs.Common.{arith, subst, ◌≡◌, ◌^◌, ◌<◌, ◌≤◌, ℕ}
use Rattle.bit_rows.specs.Rows.{IsWordOf}
use Rattle.mesh_placing.proofs.FilledLists.{set_next}
use Rattle.layer_mesh.specs.PointSigns.{corner_sign}
use Rattle.layer_mesh.proofs.SignWordSteps.{few_corners, whole_is}
use Rattle.layer_mesh.proofs.signs.corner_words.Goals as goal

pub bounds-words-corner : goal.bounds-words-corner
bounds-words-corner g c =
    let few : 2 ^ g.row.D ≤ 16 = few_corners g.row.D c.requires.axes.0 c.requires.axes.1 in
    omega (arith, c.loop-corner-test.true, whole_is g.row.D c.requires.axes.0 c.requires.axes.1, few)

pub loop-corner-preserved : goal.loop-corner-preserved
loop-corner-preserved g c =
    set_next (λ k. IsWordOf (corner_sign g.row.D c.args.rows.now k) c.args.w) 0 c.loop-corner.words c.loop-corner.corner 16 c.corner_word.result
    c.loop-corner.invariant.0 (bounds-words-corner g c) c.loop-corner.invariant.1 c.corner_word.ensures
