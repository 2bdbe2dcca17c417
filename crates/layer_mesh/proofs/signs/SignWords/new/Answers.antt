use Rattle.std.proofs.Common.{arith, sym, subst, ◌^◌, ◌≤◌, ℕ}
use Rattle.iso_model.proofs.DimensionLaws.{HasDimension-limits}
use Rattle.layer_mesh.proofs.SignWordSteps.{few_corners, whole_is}
use Rattle.layer_mesh.proofs.signs.SignWords.new.Goals as goal
use Rattle.layer_mesh.proofs.signs.SignWords.new.Goals.{in-Pyramid, in-Cube}

pub invariant_of-result : goal.invariant_of-result
invariant_of-result g c =
    elim c.match-rows.branch [
      | in-Pyramid w ↦ record { few = subst (λ r. r.1.0 ≤ 16) (sym w.result-is) (omega arith) }
      | in-Cube w ↦
          let axes = HasDimension-limits c.args.rows.now.kind g.row.D c.requires.axes in
          let few : 2 ^ g.row.D ≤ 16 = few_corners g.row.D axes.0 axes.1 in
          record { few = subst (λ r. r.1.0 ≤ 16) (sym w.result-is) (subst (λ n. n ≤ 16) (sym (whole_is g.row.D axes.0 axes.1)) few) }
    ]
