use Rattle.std.proofs.Common.{rules, arith, ap, ◌∙◌, length, to_z-of_z, FitsSigned, w64, get_or, pos, length-append, ◌∷◌, [], ◌≡◌, ◌+◌}
use Rattle.iso_formats.specs.MeshText.{millionths}
use Rattle.off_write.proofs.Texts.{pieces_more}
use Rattle.off_write.proofs.lines.push_rest.Goals as goal

pub loop-coordinate-preserved : goal.loop-coordinate-preserved
loop-coordinate-preserved c =
    let fits : FitsSigned w64 (get_or c.args.coordinates.now c.loop-coordinate.coordinate-index (pos 0)) = search rules in
    let text = rw (to_z-of_z fits, c.push.ensures) at c.push_coordinate.ensures.text in
    let grown : length c.push.new.self ≡ length c.loop-coordinate.page + 1 = ap length c.push.ensures ∙ length-append c.loop-coordinate.page (32 ∷ []) in (
      pieces_more millionths c.args.page.now c.loop-coordinate.page c.push_coordinate.new.self c.loop-coordinate.coordinate-index
          c.args.coordinates.now (pos 0) c.loop-coordinate-test.true c.loop-coordinate.invariant.0 text,
      omega arith,
    )
