use Rattle.std.proofs.Common.{ap, sym, ◌≡◌, ◌*◌, arith, length, true, ℕ}
use Rattle.std.proofs.lemmas.Result.{err_from_is_err_and}
use Rattle.lists.proofs.Tests.{of_equal}
use Rattle.iso_formats.specs.MeshFile.{at_vertices, at_faces, at_edges, before_coordinates, empty_body, is_whole}
use Rattle.off_read.specs.Meshes.{body_with}
use Rattle.off_read.proofs.MeshLaws.{asks_vertices, asks_faces}
use Rattle.off_read.proofs.StageLaws.{goes_then, goes_same, fails_at_then, ends_as_then}
use Rattle.off_read.proofs.meshes.read_body.Goals as goal

pub returns-in_err-vertices-clause-fails : goal.returns-in_err-vertices-clause-fails
returns-in_err-vertices-clause-fails g c =
    let p = err_from_is_err_and c.from_residual.result c.from_residual.ensures.1 in
    rw (p.1, p.2) (c.in_err-vertices.ensures.fails (at_vertices g.row.D) (at_faces g.row.D) (asks_vertices g.row.D))

pub read_count-requires-2 : goal.read_count-requires-2
read_count-requires-2 g c =
    let a = c.in_ok-vertices.ensures.gives (at_vertices g.row.D) (at_faces g.row.D) (asks_vertices g.row.D) in
    a.takes.1

pub returns-in_err-faces-clause-fails : goal.returns-in_err-faces-clause-fails
returns-in_err-faces-clause-fails g c =
    let p = err_from_is_err_and c.from_residual-in_err-faces.result c.from_residual-in_err-faces.ensures.1 in
    let a = c.in_ok-vertices.ensures.gives (at_vertices g.row.D) (at_faces g.row.D) (asks_vertices g.row.D) in
    rw (p.1, p.2)
    (fails_at_then _ _ _ c.args.reader.now c.read_count.new.reader c.read_count-2.new.reader _ _ _ a
    (c.in_err-faces.ensures.fails (at_faces g.row.D c.in_ok-vertices.vertices) (at_edges g.row.D c.in_ok-vertices.vertices)
    (asks_faces g.row.D c.in_ok-vertices.vertices)))

pub read_edges-requires : goal.read_edges-requires
read_edges-requires g c =
    let a = c.in_ok-vertices.ensures.gives (at_vertices g.row.D) (at_faces g.row.D) (asks_vertices g.row.D) in
    let b = goes_then _ _ _ c.args.reader.now c.read_count.new.reader c.read_count-2.new.reader _ _ _ a
    (c.in_ok-faces.ensures.gives (at_faces g.row.D c.in_ok-vertices.vertices) (at_edges g.row.D c.in_ok-vertices.vertices)
    (asks_faces g.row.D c.in_ok-vertices.vertices)) in
    b.takes.1

pub returns-in_err-read_edges-clause-fails : goal.returns-in_err-read_edges-clause-fails
returns-in_err-read_edges-clause-fails g c =
    let p = err_from_is_err_and c.from_residual-in_err-read_edges.result c.from_residual-in_err-read_edges.ensures.1 in
    let a = c.in_ok-vertices.ensures.gives (at_vertices g.row.D) (at_faces g.row.D) (asks_vertices g.row.D) in
    let b = goes_then _ _ _ c.args.reader.now c.read_count.new.reader c.read_count-2.new.reader _ _ _ a
    (c.in_ok-faces.ensures.gives (at_faces g.row.D c.in_ok-vertices.vertices) (at_edges g.row.D c.in_ok-vertices.vertices)
    (asks_faces g.row.D c.in_ok-vertices.vertices)) in
    rw (p.1, p.2)
    (fails_at_then _ _ _ c.args.reader.now c.read_count-2.new.reader c.read_edges.new.reader _ _ _ b
    (c.in_err-read_edges.ensures.fails g.row.D c.in_ok-vertices.vertices c.in_ok-faces.faces))

pub read_coordinates-requires : goal.read_coordinates-requires
read_coordinates-requires g c =
    let a = c.in_ok-vertices.ensures.gives (at_vertices g.row.D) (at_faces g.row.D) (asks_vertices g.row.D) in
    let b = goes_then _ _ _ c.args.reader.now c.read_count.new.reader c.read_count-2.new.reader _ _ _ a
    (c.in_ok-faces.ensures.gives (at_faces g.row.D c.in_ok-vertices.vertices) (at_edges g.row.D c.in_ok-vertices.vertices)
    (asks_faces g.row.D c.in_ok-vertices.vertices)) in
    let d = goes_then _ _ _ c.args.reader.now c.read_count-2.new.reader c.read_edges.new.reader _ _ _ b
    (c.in_ok-read_edges.ensures.gives g.row.D c.in_ok-vertices.vertices c.in_ok-faces.faces) in
    d.takes.1

pub returns-in_err-read_coordinates-clause-fails : goal.returns-in_err-read_coordinates-clause-fails
returns-in_err-read_coordinates-clause-fails g c =
    let p = err_from_is_err_and c.from_residual-in_err-read_coordinates.result c.from_residual-in_err-read_coordinates.ensures.1 in
    let a = c.in_ok-vertices.ensures.gives (at_vertices g.row.D) (at_faces g.row.D) (asks_vertices g.row.D) in
    let b = goes_then _ _ _ c.args.reader.now c.read_count.new.reader c.read_count-2.new.reader _ _ _ a
    (c.in_ok-faces.ensures.gives (at_faces g.row.D c.in_ok-vertices.vertices) (at_edges g.row.D c.in_ok-vertices.vertices)
    (asks_faces g.row.D c.in_ok-vertices.vertices)) in
    let d = goes_then _ _ _ c.args.reader.now c.read_count-2.new.reader c.read_edges.new.reader _ _ _ b
    (c.in_ok-read_edges.ensures.gives g.row.D c.in_ok-vertices.vertices c.in_ok-faces.faces) in
    let many = ap (λ (n : ℕ). before_coordinates (empty_body g.row.D c.in_ok-vertices.vertices c.in_ok-faces.faces) (n * g.row.D)) (sym c.from.ensures) in
    let e = goes_same _ _ _ _ _ _ _ many d in
    rw (p.1, p.2)
    (fails_at_then _ _ _ c.args.reader.now c.read_edges.new.reader c.read_coordinates.new.reader _ _ _ e
    (c.in_err-read_coordinates.ensures.fails (empty_body g.row.D c.in_ok-vertices.vertices c.in_ok-faces.faces)))

pub read_faces-requires : goal.read_faces-requires
read_faces-requires g c =
    let a = c.in_ok-vertices.ensures.gives (at_vertices g.row.D) (at_faces g.row.D) (asks_vertices g.row.D) in
    let b = goes_then _ _ _ c.args.reader.now c.read_count.new.reader c.read_count-2.new.reader _ _ _ a
    (c.in_ok-faces.ensures.gives (at_faces g.row.D c.in_ok-vertices.vertices) (at_edges g.row.D c.in_ok-vertices.vertices)
    (asks_faces g.row.D c.in_ok-vertices.vertices)) in
    let d = goes_then _ _ _ c.args.reader.now c.read_count-2.new.reader c.read_edges.new.reader _ _ _ b
    (c.in_ok-read_edges.ensures.gives g.row.D c.in_ok-vertices.vertices c.in_ok-faces.faces) in
    let many = ap (λ (n : ℕ). before_coordinates (empty_body g.row.D c.in_ok-vertices.vertices c.in_ok-faces.faces) (n * g.row.D)) (sym c.from.ensures) in
    let e = goes_same _ _ _ _ _ _ _ many d in
    let f = goes_then _ _ _ c.args.reader.now c.read_edges.new.reader c.read_coordinates.new.reader _ _ _ e
    (c.in_ok-read_coordinates.ensures.gives (empty_body g.row.D c.in_ok-vertices.vertices c.in_ok-faces.faces)) in
    let digit = c.requires.digit in
    (omega (arith, digit), (f.takes.1, (c.requires.some, digit)))

pub returns-in_err-simplices-clause-fails : goal.returns-in_err-simplices-clause-fails
returns-in_err-simplices-clause-fails g c =
    let p = err_from_is_err_and c.from_residual-in_err-simplices.result c.from_residual-in_err-simplices.ensures.1 in
    let a = c.in_ok-vertices.ensures.gives (at_vertices g.row.D) (at_faces g.row.D) (asks_vertices g.row.D) in
    let b = goes_then _ _ _ c.args.reader.now c.read_count.new.reader c.read_count-2.new.reader _ _ _ a
    (c.in_ok-faces.ensures.gives (at_faces g.row.D c.in_ok-vertices.vertices) (at_edges g.row.D c.in_ok-vertices.vertices)
    (asks_faces g.row.D c.in_ok-vertices.vertices)) in
    let d = goes_then _ _ _ c.args.reader.now c.read_count-2.new.reader c.read_edges.new.reader _ _ _ b
    (c.in_ok-read_edges.ensures.gives g.row.D c.in_ok-vertices.vertices c.in_ok-faces.faces) in
    let many = ap (λ (n : ℕ). before_coordinates (empty_body g.row.D c.in_ok-vertices.vertices c.in_ok-faces.faces) (n * g.row.D)) (sym c.from.ensures) in
    let e = goes_same _ _ _ _ _ _ _ many d in
    let f = goes_then _ _ _ c.args.reader.now c.read_edges.new.reader c.read_coordinates.new.reader _ _ _ e
    (c.in_ok-read_coordinates.ensures.gives (empty_body g.row.D c.in_ok-vertices.vertices c.in_ok-faces.faces)) in
    rw (p.1, p.2)
    (fails_at_then _ _ _ c.args.reader.now c.read_coordinates.new.reader c.read_faces.new.reader _ _ _ f c.in_err-simplices.ensures.fails)

pub returns-in_err-see_end-clause-fails : goal.returns-in_err-see_end-clause-fails
returns-in_err-see_end-clause-fails g c =
    let p = err_from_is_err_and c.from_residual-in_err-see_end.result c.from_residual-in_err-see_end.ensures.1 in
    let a = c.in_ok-vertices.ensures.gives (at_vertices g.row.D) (at_faces g.row.D) (asks_vertices g.row.D) in
    let b = goes_then _ _ _ c.args.reader.now c.read_count.new.reader c.read_count-2.new.reader _ _ _ a
    (c.in_ok-faces.ensures.gives (at_faces g.row.D c.in_ok-vertices.vertices) (at_edges g.row.D c.in_ok-vertices.vertices)
    (asks_faces g.row.D c.in_ok-vertices.vertices)) in
    let d = goes_then _ _ _ c.args.reader.now c.read_count-2.new.reader c.read_edges.new.reader _ _ _ b
    (c.in_ok-read_edges.ensures.gives g.row.D c.in_ok-vertices.vertices c.in_ok-faces.faces) in
    let many = ap (λ (n : ℕ). before_coordinates (empty_body g.row.D c.in_ok-vertices.vertices c.in_ok-faces.faces) (n * g.row.D)) (sym c.from.ensures) in
    let e = goes_same _ _ _ _ _ _ _ many d in
    let f = goes_then _ _ _ c.args.reader.now c.read_edges.new.reader c.read_coordinates.new.reader _ _ _ e
    (c.in_ok-read_coordinates.ensures.gives (empty_body g.row.D c.in_ok-vertices.vertices c.in_ok-faces.faces)) in
    let h = goes_then _ _ _ c.args.reader.now c.read_coordinates.new.reader c.read_faces.new.reader _ _ _ f c.in_ok-simplices.ensures.gives in
    let whole : is_whole (body_with g.row.D c.in_ok-vertices.vertices c.in_ok-faces.faces c.in_ok-simplices.simplices.items) ≡ true =
    of_equal (length c.in_ok-simplices.simplices.items) c.in_ok-faces.faces c.in_ok-simplices.ensures.counted in
    rw (p.1, p.2)
    (fails_at_then _ _ _ c.args.reader.now c.read_faces.new.reader c.see_end.new.reader _ _ _ h
    (c.in_err-see_end.ensures.fails (body_with g.row.D c.in_ok-vertices.vertices c.in_ok-faces.faces c.in_ok-simplices.simplices.items) whole))

pub returns-clause-reads : goal.returns-clause-reads
returns-clause-reads g c =
    let a = c.in_ok-vertices.ensures.gives (at_vertices g.row.D) (at_faces g.row.D) (asks_vertices g.row.D) in
    let b = goes_then _ _ _ c.args.reader.now c.read_count.new.reader c.read_count-2.new.reader _ _ _ a
    (c.in_ok-faces.ensures.gives (at_faces g.row.D c.in_ok-vertices.vertices) (at_edges g.row.D c.in_ok-vertices.vertices)
    (asks_faces g.row.D c.in_ok-vertices.vertices)) in
    let d = goes_then _ _ _ c.args.reader.now c.read_count-2.new.reader c.read_edges.new.reader _ _ _ b
    (c.in_ok-read_edges.ensures.gives g.row.D c.in_ok-vertices.vertices c.in_ok-faces.faces) in
    let many = ap (λ (n : ℕ). before_coordinates (empty_body g.row.D c.in_ok-vertices.vertices c.in_ok-faces.faces) (n * g.row.D)) (sym c.from.ensures) in
    let e = goes_same _ _ _ _ _ _ _ many d in
    let f = goes_then _ _ _ c.args.reader.now c.read_edges.new.reader c.read_coordinates.new.reader _ _ _ e
    (c.in_ok-read_coordinates.ensures.gives (empty_body g.row.D c.in_ok-vertices.vertices c.in_ok-faces.faces)) in
    let h = goes_then _ _ _ c.args.reader.now c.read_coordinates.new.reader c.read_faces.new.reader _ _ _ f c.in_ok-simplices.ensures.gives in
    let whole : is_whole (body_with g.row.D c.in_ok-vertices.vertices c.in_ok-faces.faces c.in_ok-simplices.simplices.items) ≡ true =
    of_equal (length c.in_ok-simplices.simplices.items) c.in_ok-faces.faces c.in_ok-simplices.ensures.counted in
    ends_as_then _ _ _ c.args.reader.now c.read_faces.new.reader c.see_end.new.reader _ _ _ _ _ h
    (c.in_ok-see_end.ensures.gives (body_with g.row.D c.in_ok-vertices.vertices c.in_ok-faces.faces c.in_ok-simplices.simplices.items) whole)

pub returns-clause-few : goal.returns-clause-few
returns-clause-few g c =
    let a = c.in_ok-vertices.ensures.gives (at_vertices g.row.D) (at_faces g.row.D) (asks_vertices g.row.D) in
    let b = goes_then _ _ _ c.args.reader.now c.read_count.new.reader c.read_count-2.new.reader _ _ _ a
    (c.in_ok-faces.ensures.gives (at_faces g.row.D c.in_ok-vertices.vertices) (at_edges g.row.D c.in_ok-vertices.vertices)
    (asks_faces g.row.D c.in_ok-vertices.vertices)) in
    let d = goes_then _ _ _ c.args.reader.now c.read_count-2.new.reader c.read_edges.new.reader _ _ _ b
    (c.in_ok-read_edges.ensures.gives g.row.D c.in_ok-vertices.vertices c.in_ok-faces.faces) in
    let many = ap (λ (n : ℕ). before_coordinates (empty_body g.row.D c.in_ok-vertices.vertices c.in_ok-faces.faces) (n * g.row.D)) (sym c.from.ensures) in
    let e = goes_same _ _ _ _ _ _ _ many d in
    let f = goes_then _ _ _ c.args.reader.now c.read_edges.new.reader c.read_coordinates.new.reader _ _ _ e
    (c.in_ok-read_coordinates.ensures.gives (empty_body g.row.D c.in_ok-vertices.vertices c.in_ok-faces.faces)) in
    let x = f.spends in
    let y = c.in_ok-simplices.ensures.spends in
    let z = c.requires.spent in
    omega (arith, x, y, z)
