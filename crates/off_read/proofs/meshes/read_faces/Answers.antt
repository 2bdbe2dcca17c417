use Rattle.std.proofs.Common.{ap, sym, ◌≡◌, ◌∙◌, ◌<◌, ◌∷◌, ◌++◌, ◌+◌, arith, length, [], List, ℕ, All, subst}
use Rattle.std.proofs.lemmas.List.{length-append}
use Rattle.std.proofs.lemmas.List.Elements.{All-append}
use Rattle.std.proofs.lemmas.Result.{err_from_is_err_and}
use Rattle.iso_base.proofs.SameShelf.{IsSameShelf-then}
use Rattle.off_read.specs.Meshes.{at_next_face}
use Rattle.off_read.proofs.MeshLaws.{all_single}
use Rattle.off_read.proofs.StageLaws.{goes_then, goes_same, fails_at_then}
use Rattle.off_read.proofs.meshes.read_faces.Goals as goal

pub returns-in_err-simplex-clause-fails : goal.returns-in_err-simplex-clause-fails
returns-in_err-simplex-clause-fails g c =
    let p = err_from_is_err_and c.from_residual.result c.from_residual.ensures.1 in
    let h : length c.loop-shelf.simplices.items < c.args.faces = omega (arith, c.loop-shelf-test.true, c.len.ensures) in
    rw (p.1, p.2) (fails_at_then _ _ _ c.args.reader.now c.loop-shelf.reader c.read_face.new.reader _ _ _ c.loop-shelf.invariant.goes
    (c.in_err-simplex.ensures.fails c.args.faces c.loop-shelf.simplices.items h))

pub returns-in_default-clause-fails : goal.returns-in_default-clause-fails
returns-in_default-clause-fails g c =
    let h : length c.loop-shelf.simplices.items < c.args.faces = omega (arith, c.loop-shelf-test.true, c.len.ensures) in
    (goes_then _ _ _ c.args.reader.now c.loop-shelf.reader c.read_face.new.reader _ _ _ c.loop-shelf.invariant.goes
    (c.in_ok-simplex.ensures.gives c.args.faces c.loop-shelf.simplices.items h)).takes

pub loop-shelf-preserved : goal.loop-shelf-preserved
loop-shelf-preserved g c =
    let items = c.loop-shelf.simplices.items in
    let simplex = c.in_ok-simplex.simplex in
    let h : length items < c.args.faces = omega (arith, c.loop-shelf-test.true, c.len.ensures) in
    let same : c.push.new.self.items ≡ items ++ simplex ∷ [] = c.in-Ok.ensures.items in
    let long : length c.push.new.self.items ≡ length items + 1 = ap (λ (l : List (List ℕ)). length l) same ∙ length-append items (simplex ∷ []) in
    let face = c.in_ok-simplex.ensures.gives c.args.faces items h in
    record {
      same = IsSameShelf-then _ _ _ _ _ _ c.loop-shelf.invariant.same c.in_ok-simplex.ensures.shelf;
      few = face.takes.1;
      counted = omega (arith, long, h);
      spends = let x = c.loop-shelf.invariant.spends in let y = c.in_ok-simplex.ensures.spends in omega (arith, long, x, y);
      below = subst (λ (l : List (List ℕ)). All (λ (w : List ℕ). All (λ i. i < c.args.vertices) w) l) (sym same)
          (All-append (λ (w : List ℕ). All (λ i. i < c.args.vertices) w) items (simplex ∷ []) c.loop-shelf.invariant.below
          (all_single (λ (w : List ℕ). All (λ i. i < c.args.vertices) w) simplex c.in_ok-simplex.ensures.below));
      goes = goes_same _ _ _ _ _ _ _ (ap (λ (l : List (List ℕ)). at_next_face g.row.D c.args.vertices c.args.faces l) (sym same))
          (goes_then _ _ _ c.args.reader.now c.loop-shelf.reader c.read_face.new.reader _ _ _ c.loop-shelf.invariant.goes face);
    }
