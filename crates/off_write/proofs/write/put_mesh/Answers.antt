use Rattle.std.proofs.Common.{◌≡◌, length, refl, ap, ◌∙◌}
use Rattle.std.proofs.lemmas.Result.{on_ok_weaker, on_err_weaker}
use Rattle.iso_model.specs.Faces.{Mesh}
use Rattle.off_write.specs.Pages.{head}
use Rattle.off_write.proofs.Waiting.{waits_put, waits_front, on_err}
use Rattle.off_write.proofs.Parts.{front_in_vertices, front_in_simplices, last_waits}
use Rattle.off_write.proofs.write.put_mesh.Goals as goal

pub returns-in_err-put_vertices-clause-front : goal.returns-in_err-put_vertices-clause-front
returns-in_err-put_vertices-clause-front g c =
    let vertices : c.as_slice-vertices.result.now ≡ c.args.mesh.now.vertices =
    c.as_slice-vertices.ensures.value ∙ ap (λ (m : Mesh). m.vertices) c.mesh.view_is in
    let simplices : c.as_slice-simplices.result.now ≡ c.args.mesh.now.simplices =
    c.as_slice-simplices.ensures.value ∙ ap (λ (m : Mesh). m.simplices) c.mesh.view_is in
    let first : c.push_head.new.page ≡ head g.row.D (length c.args.mesh.now.vertices) (length c.args.mesh.now.simplices) =
    rw (c.push_head.ensures.text, c.new-page.ensures, vertices, simplices) refl in
    on_err c.from_residual.result (front_in_vertices _ _ g.row.D c.args.mesh.now _ first (rw vertices at c.in_err-put_vertices.ensures.front))

pub returns-in_err-put_simplices-clause-front : goal.returns-in_err-put_simplices-clause-front
returns-in_err-put_simplices-clause-front g c =
    let vertices : c.as_slice-vertices.result.now ≡ c.args.mesh.now.vertices =
    c.as_slice-vertices.ensures.value ∙ ap (λ (m : Mesh). m.vertices) c.mesh.view_is in
    let simplices : c.as_slice-simplices.result.now ≡ c.args.mesh.now.simplices =
    c.as_slice-simplices.ensures.value ∙ ap (λ (m : Mesh). m.simplices) c.mesh.view_is in
    let first : c.push_head.new.page ≡ head g.row.D (length c.args.mesh.now.vertices) (length c.args.mesh.now.simplices) =
    rw (c.push_head.ensures.text, c.new-page.ensures, vertices, simplices) refl in
    on_err c.from_residual-in_err-put_simplices.result
    (front_in_simplices _ _ _ g.row.D c.args.mesh.now _ _ first (rw vertices at c.in_ok-put_vertices.ensures.waits)
    (rw simplices at c.in_err-put_simplices.ensures.front))

pub returns-clause-all : goal.returns-clause-all
returns-clause-all g c =
    let vertices : c.as_slice-vertices.result.now ≡ c.args.mesh.now.vertices =
    c.as_slice-vertices.ensures.value ∙ ap (λ (m : Mesh). m.vertices) c.mesh.view_is in
    let simplices : c.as_slice-simplices.result.now ≡ c.args.mesh.now.simplices =
    c.as_slice-simplices.ensures.value ∙ ap (λ (m : Mesh). m.simplices) c.mesh.view_is in
    let first : c.push_head.new.page ≡ head g.row.D (length c.args.mesh.now.vertices) (length c.args.mesh.now.simplices) =
    rw (c.push_head.ensures.text, c.new-page.ensures, vertices, simplices) refl in
    let last =
    last_waits _ _ _ g.row.D c.args.mesh.now _ _ _ first (rw vertices at c.in_ok-put_vertices.ensures.waits)
    (rw simplices at c.in_ok-put_simplices.ensures.waits) in
    on_ok_weaker c.put_page.result (λ p. waits_put _ _ _ _ _ last p) c.put_page.ensures.all

pub returns-clause-front : goal.returns-clause-front
returns-clause-front g c =
    let vertices : c.as_slice-vertices.result.now ≡ c.args.mesh.now.vertices =
    c.as_slice-vertices.ensures.value ∙ ap (λ (m : Mesh). m.vertices) c.mesh.view_is in
    let simplices : c.as_slice-simplices.result.now ≡ c.args.mesh.now.simplices =
    c.as_slice-simplices.ensures.value ∙ ap (λ (m : Mesh). m.simplices) c.mesh.view_is in
    let first : c.push_head.new.page ≡ head g.row.D (length c.args.mesh.now.vertices) (length c.args.mesh.now.simplices) =
    rw (c.push_head.ensures.text, c.new-page.ensures, vertices, simplices) refl in
    let last =
    last_waits _ _ _ g.row.D c.args.mesh.now _ _ _ first (rw vertices at c.in_ok-put_vertices.ensures.waits)
    (rw simplices at c.in_ok-put_simplices.ensures.waits) in
    on_err_weaker c.put_page.result (λ p. waits_front _ _ _ _ _ last p) c.put_page.ensures.front
