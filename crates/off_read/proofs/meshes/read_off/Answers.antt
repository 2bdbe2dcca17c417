use Rattle.std.proofs.Common.{sym, ◌≡◌, ◌∙◌, subst}
use Rattle.std.specs.Prelude.{IfErr, is_some, true, false}
use Rattle.std.proofs.lemmas.Result.{err_from_is_err_and, IfErr-at_err, IfOk-weaker}
use Rattle.iso_formats.specs.MeshFile.{at_first}
use Rattle.off_read.specs.AnyOffs.{dimension_of, mesh_of, IsRefusal}
use Rattle.off_read.specs.Faults.{word_cause}
use Rattle.off_read.specs.Scans.{FailsAt}
use Rattle.off_read.proofs.OffLaws.{refusal, refusal_lost, refusal_drained, mesh_spelled}
use Rattle.off_read.proofs.meshes.read_off.Goals as goal

pub returns-in_err-drain-clause-refused : goal.returns-in_err-drain-clause-refused
returns-in_err-drain-clause-refused g c =
    let p = err_from_is_err_and c.from_residual.result c.from_residual.ensures.1 in
    let a = g.S.Shelf.rest c.args.shelf.now in
    let b = g.S.Shelf.rest c.read_mesh-answer.new.shelf in
    let s = c.new-reader.result in
    let t = c.read_mesh-answer.new.reader in
    let word : is_some (word_cause c.in-Err.fault) ≡ true = sym c.is_of_word.ensures ∙ c.if-is_of_word.true in
    let fails : FailsAt a b s t at_first c.in-Err.fault = IfErr-at_err (FailsAt a b s t at_first) c.in-Err.is c.read_mesh-answer.ensures.fails in
    rw (p.1, p.2) (refusal_lost a b _ s t c.drain.new.self c.in-Err.fault _ c.new-reader.ensures fails word c.in_err-drain.ensures.fails)

pub returns-in_ok-drain-clause-refused : goal.returns-in_ok-drain-clause-refused
returns-in_ok-drain-clause-refused g c =
    let a = g.S.Shelf.rest c.args.shelf.now in
    let b = g.S.Shelf.rest c.read_mesh-answer.new.shelf in
    let d = g.S.Shelf.rest c.drain.new.shelf in
    let s = c.new-reader.result in
    let t = c.read_mesh-answer.new.reader in
    let word : is_some (word_cause c.in-Err.fault) ≡ true = sym c.is_of_word.ensures ∙ c.if-is_of_word.true in
    let fails : FailsAt a b s t at_first c.in-Err.fault = IfErr-at_err (FailsAt a b s t at_first) c.in-Err.is c.read_mesh-answer.ensures.fails in
    subst (λ r. IfErr r (IsRefusal a d)) (sym c.in-Err.is)
    (refusal_drained a b d s t c.drain.new.self c.in-Err.fault c.new-reader.ensures fails word c.in_ok-drain.ensures.drains)

pub returns-else-is_of_word-clause-refused : goal.returns-else-is_of_word-clause-refused
returns-else-is_of_word-clause-refused g c =
    let a = g.S.Shelf.rest c.args.shelf.now in
    let b = g.S.Shelf.rest c.read_mesh-answer.new.shelf in
    let s = c.new-reader.result in
    let t = c.read_mesh-answer.new.reader in
    let word : is_some (word_cause c.in-Err.fault) ≡ false = sym c.is_of_word.ensures ∙ c.if-is_of_word.false in
    let fails : FailsAt a b s t at_first c.in-Err.fault = IfErr-at_err (FailsAt a b s t at_first) c.in-Err.is c.read_mesh-answer.ensures.fails in
    subst (λ r. IfErr r (IsRefusal a b)) (sym c.in-Err.is) (refusal a b s t c.in-Err.fault c.new-reader.ensures fails word)

pub returns-in_default-clause-spelled : goal.returns-in_default-clause-spelled
returns-in_default-clause-spelled g c =
    let a = g.S.Shelf.rest c.args.shelf.now in
    let b = g.S.Shelf.rest c.read_mesh-answer.new.shelf in
    let s = c.new-reader.result in
    let t = c.read_mesh-answer.new.reader in
    IfOk-weaker c.read_mesh-answer.result _ _ (λ off e. mesh_spelled a b s t (dimension_of off) (mesh_of off).vertices (mesh_of off).simplices
    c.new-reader.ensures e) c.read_mesh-answer.ensures.reads
