use Rattle.std.proofs.Common.{ap, ◌≡◌, arith}
use Rattle.std.proofs.lemmas.Result.{err_from_is_err_and}
use Rattle.iso_formats.specs.MeshFile.{at_first, at_vertices}
use Rattle.off_read.proofs.StageLaws.{goes_same, fails_at_then, ends_as_then}
use Rattle.off_read.proofs.meshes.read_mesh.Goals as goal

pub returns-in_err-read_body-in-2-clause-fails : goal.returns-in_err-read_body-in-2-clause-fails
returns-in_err-read_body-in-2-clause-fails g c =
    let p = err_from_is_err_and c.from_residual-in_err-read_body-in-2.result c.from_residual-in_err-read_body-in-2.ensures.1 in
    rw (p.1, p.2) (fails_at_then _ _ _ c.args.reader.now c.read_dimension.new.reader _ at_first (at_vertices 2) _
    (goes_same _ _ _ _ _ _ _ (ap at_vertices c.in-2.is) c.in_ok-read_dimension.ensures.gives) c.in_err-read_body-in-2.ensures.fails)

pub returns-in_ok-read_body-in-2-clause-reads : goal.returns-in_ok-read_body-in-2-clause-reads
returns-in_ok-read_body-in-2-clause-reads g c =
    ends_as_then _ _ _ c.args.reader.now c.read_dimension.new.reader _ at_first (at_vertices 2) _ _ _
    (goes_same _ _ _ _ _ _ _ (ap at_vertices c.in-2.is) c.in_ok-read_dimension.ensures.gives) c.in_ok-read_body-in-2.ensures.reads

pub returns-in_err-read_body-in-3-clause-fails : goal.returns-in_err-read_body-in-3-clause-fails
returns-in_err-read_body-in-3-clause-fails g c =
    let p = err_from_is_err_and c.from_residual-in_err-read_body-in-3.result c.from_residual-in_err-read_body-in-3.ensures.1 in
    rw (p.1, p.2) (fails_at_then _ _ _ c.args.reader.now c.read_dimension.new.reader _ at_first (at_vertices 3) _
    (goes_same _ _ _ _ _ _ _ (ap at_vertices c.in-3.is) c.in_ok-read_dimension.ensures.gives) c.in_err-read_body-in-3.ensures.fails)

pub returns-in_ok-read_body-in-3-clause-reads : goal.returns-in_ok-read_body-in-3-clause-reads
returns-in_ok-read_body-in-3-clause-reads g c =
    ends_as_then _ _ _ c.args.reader.now c.read_dimension.new.reader _ at_first (at_vertices 3) _ _ _
    (goes_same _ _ _ _ _ _ _ (ap at_vertices c.in-3.is) c.in_ok-read_dimension.ensures.gives) c.in_ok-read_body-in-3.ensures.reads

pub returns-in_err-read_body-in_default-clause-fails : goal.returns-in_err-read_body-in_default-clause-fails
returns-in_err-read_body-in_default-clause-fails g c =
    let p = err_from_is_err_and c.from_residual-in_err-read_body-in_default.result c.from_residual-in_err-read_body-in_default.ensures.1 in
    rw (p.1, p.2) (fails_at_then _ _ _ c.args.reader.now c.read_dimension.new.reader _ at_first (at_vertices 4) _
    (goes_same _ _ _ _ _ _ _
    (ap at_vertices
    (let e : c.in_ok-read_dimension.field-0 ≡ 4 = omega (arith, c.in_ok-read_dimension.ensures.known.0, c.in_ok-read_dimension.ensures.known.1) in e))
    c.in_ok-read_dimension.ensures.gives) c.in_err-read_body-in_default.ensures.fails)

pub returns-in_ok-read_body-in_default-clause-reads : goal.returns-in_ok-read_body-in_default-clause-reads
returns-in_ok-read_body-in_default-clause-reads g c =
    ends_as_then _ _ _ c.args.reader.now c.read_dimension.new.reader _ at_first (at_vertices 4) _ _ _
    (goes_same _ _ _ _ _ _ _
    (ap at_vertices
    (let e : c.in_ok-read_dimension.field-0 ≡ 4 = omega (arith, c.in_ok-read_dimension.ensures.known.0, c.in_ok-read_dimension.ensures.known.1) in e))
    c.in_ok-read_dimension.ensures.gives) c.in_ok-read_body-in_default.ensures.reads
