use Rattle.std.proofs.Common.{◌≡◌, ℕ, Bool, ℤ, List, length, w64, to_z, of_z, ap, sym, ◌∙◌, subst}
use Rattle.std.specs.Prelude.{map, flat_map, All}
use Rattle.std.proofs.lemmas.Int.{to_z-of_z}
use Rattle.lists.specs.Members.{In}
use Rattle.lists.proofs.Contained.{each-from_All}
use Rattle.lists.proofs.MemberLaws.{Contains_from}
use Rattle.iso_model.specs.Faces.{Mesh, IsMesh}
use Rattle.iso_model.specs.Tables.{Table}
use Rattle.iso_model.specs.OrderedAcceptance.{IsOfTetrahedron}
use Rattle.cut_laws.specs.declared.Link.{Link}
use Rattle.cut_laws.specs.Cuts.{IsCutGlued, is_late_position, position_on, cut_of}
use Rattle.cut_laws.specs.CutSteps.{IsSimplex, AreLinks}
use Rattle.cut_laws.proofs.FoundLinks.{links_are}
use Rattle.cut_laws.proofs.LateLabels.{empty_ends}
use Rattle.cut_laws.proofs.CutShape.{cut_shape, cut_vertices}
use Rattle.cut_faces.proofs.CutEntries.{ServesInOrder}
use Rattle.cut_faces.proofs.LawfulCut.{IsGluedMesh}
use Rattle.cut_faces.proofs.GluedCut.{cut_is_glued}
use Rattle.mesh_slice.specs.Slices.{late_by, Name, AreSimplices, IsCrossed, links_by, triangles_by}
use Rattle.mesh_slice.proofs.WholeCuts.{flags_length, cut_is, links_crossed}
use Rattle.mesh_slice.proofs.cuts.cut_mesh.Goals as goal

-- ---- what the steps found, read from what they were handed

flags_found : (time z : ℤ) (vertices vs : List (List ℤ)) (flags : List Bool) → flags ≡ map (is_late_position z) vs → z ≡ time → vs ≡ vertices
    → flags ≡ map (is_late_position time) vertices
flags_found time z vertices vs flags found e f =
    found ∙ ap (λ (y : ℤ). map (is_late_position y) vs) e ∙ ap (map (is_late_position time)) f

simplices_found : (n k : ℕ) (simplices ws : List (List ℕ)) → AreSimplices n simplices → k ≡ n → ws ≡ simplices → AreSimplices k ws
simplices_found n k simplices ws are e f =
    subst (λ (vs : List (List ℕ)). AreSimplices k vs) (sym f) (subst (λ (j : ℕ). AreSimplices j simplices) (sym e) are)

links_found : (flags bs : List Bool) (simplices ws : List (List ℕ)) (ls : List Link) → ls ≡ links_by bs ws → bs ≡ flags → ws ≡ simplices
    → ls ≡ links_by flags simplices
links_found flags bs simplices ws ls found e f =
    found ∙ ap (λ (cs : List Bool). links_by cs ws) e ∙ ap (links_by flags) f

crossed_found : (vertices vs : List (List ℤ)) (time z : ℤ) (ls ks : List Link) → All (IsCrossed vertices time) ls → vs ≡ vertices → z ≡ time → ks ≡ ls
    → All (IsCrossed vs z) ks
crossed_found vertices vs time z ls ks all e f g =
    subst (λ (js : List Link). All (IsCrossed vs z) js) (sym g)
    (subst (λ (y : ℤ). All (IsCrossed vs y) ls) (sym f) (subst (λ (us : List (List ℤ)). All (IsCrossed us time) ls) (sym e) all))

ordered_found : (flags bs : List Bool) (simplices : List (List ℕ)) (ls ks : List Link) → ls ≡ links_by flags simplices → bs ≡ flags → ks ≡ ls
    → AreLinks (late_by bs) ks
ordered_found flags bs simplices ls ks listed e f =
    subst (λ (js : List Link). AreLinks (late_by bs) js) (sym (f ∙ listed))
    (subst (λ (cs : List Bool). AreLinks (late_by cs) (links_by flags simplices)) (sym e) (links_are (length flags) (late_by flags) simplices))

positions_found : (vertices vs : List (List ℤ)) (time z : ℤ) (ls ks : List Link) (ps : List (List ℤ)) → ps ≡ map (position_on vs z) ks → vs ≡ vertices
    → z ≡ time → ks ≡ ls → ps ≡ map (position_on vertices time) ls
positions_found vertices vs time z ls ks ps found e f g =
    found ∙ ap (λ (us : List (List ℤ)). map (position_on us z) ks) e ∙ ap (λ (y : ℤ). map (position_on vertices y) ks) f ∙ ap (map (position_on vertices time)) g

triangles_found : (flags bs : List Bool) (ls ks : List Link) (t : Table) (simplices ws ts : List (List ℕ)) → ts ≡ flat_map (triangles_by bs ks t) ws → bs ≡ flags
    → ks ≡ ls → ws ≡ simplices → ts ≡ flat_map (triangles_by flags ls t) simplices
triangles_found flags bs ls ks t simplices ws ts found e f g =
    found ∙ ap (λ (cs : List Bool). flat_map (triangles_by cs ks t) ws) e ∙ ap (λ (js : List Link). flat_map (triangles_by flags js t) ws) f
    ∙ ap (flat_map (triangles_by flags ls t)) g

-- ---- the goals

pub all_links-requires-clause-simplices : goal.all_links-requires-clause-simplices
all_links-requires-clause-simplices c =
    let m = c.args.mesh.now in
    let vertices : c.deref.result.now ≡ m.vertices = c.deref.ensures.value ∙ ap (λ (x : Mesh). x.vertices) c.mesh.view_is in
    let simplices : c.deref-2.result.now ≡ m.simplices = c.deref-2.ensures.value ∙ ap (λ (x : Mesh). x.simplices) c.mesh.view_is in
    let found =
    flags_found c.args.time (to_z w64 (of_z w64 c.args.time)) m.vertices c.deref.result.now c.in_ok-late.late.items c.in_ok-late.ensures
    (to_z-of_z w64 c.args.time c.ranges.time) vertices in
    simplices_found (length m.vertices) (length c.deref-3.result.now) m.simplices c.deref-2.result.now c.requires.simplices
    (ap (λ (bs : List Bool). length bs) c.deref-3.ensures.value ∙ flags_length m c.args.time c.in_ok-late.late.items found) simplices

pub all_positions-requires-clause-crossed : goal.all_positions-requires-clause-crossed
all_positions-requires-clause-crossed c =
    let m = c.args.mesh.now in
    let vertices : c.deref.result.now ≡ m.vertices = c.deref.ensures.value ∙ ap (λ (x : Mesh). x.vertices) c.mesh.view_is in
    let again : c.deref-4.result.now ≡ m.vertices = c.deref-4.ensures.value ∙ ap (λ (x : Mesh). x.vertices) c.mesh.view_is in
    let simplices : c.deref-2.result.now ≡ m.simplices = c.deref-2.ensures.value ∙ ap (λ (x : Mesh). x.simplices) c.mesh.view_is in
    let read = to_z-of_z w64 c.args.time c.ranges.time in
    let found =
    flags_found c.args.time (to_z w64 (of_z w64 c.args.time)) m.vertices c.deref.result.now c.in_ok-late.late.items c.in_ok-late.ensures read vertices in
    let listed =
    links_found c.in_ok-late.late.items c.deref-3.result.now m.simplices c.deref-2.result.now c.in_ok-links.links.items c.in_ok-links.ensures.links
    c.deref-3.ensures.value simplices in
    crossed_found m.vertices c.deref-4.result.now c.args.time (to_z w64 (of_z w64 c.args.time)) c.in_ok-links.links.items c.deref-5.result.now
    (links_crossed m c.args.time c.in_ok-late.late.items found c.in_ok-links.links.items listed) again read c.deref-5.ensures.value

pub all_triangles-requires-clause-simplices : goal.all_triangles-requires-clause-simplices
all_triangles-requires-clause-simplices c =
    let m = c.args.mesh.now in
    let vertices : c.deref.result.now ≡ m.vertices = c.deref.ensures.value ∙ ap (λ (x : Mesh). x.vertices) c.mesh.view_is in
    let simplices : c.deref-6.result.now ≡ m.simplices = c.deref-6.ensures.value ∙ ap (λ (x : Mesh). x.simplices) c.mesh.view_is in
    let found =
    flags_found c.args.time (to_z w64 (of_z w64 c.args.time)) m.vertices c.deref.result.now c.in_ok-late.late.items c.in_ok-late.ensures
    (to_z-of_z w64 c.args.time c.ranges.time) vertices in
    simplices_found (length m.vertices) (length c.deref-7.result.now) m.simplices c.deref-6.result.now c.requires.simplices
    (ap (λ (bs : List Bool). length bs) c.deref-7.ensures.value ∙ flags_length m c.args.time c.in_ok-late.late.items found) simplices

pub all_triangles-requires-clause-links : goal.all_triangles-requires-clause-links
all_triangles-requires-clause-links c =
    let m = c.args.mesh.now in
    let simplices : c.deref-2.result.now ≡ m.simplices = c.deref-2.ensures.value ∙ ap (λ (x : Mesh). x.simplices) c.mesh.view_is in
    let listed =
    links_found c.in_ok-late.late.items c.deref-3.result.now m.simplices c.deref-2.result.now c.in_ok-links.links.items c.in_ok-links.ensures.links
    c.deref-3.ensures.value simplices in
    ordered_found c.in_ok-late.late.items c.deref-7.result.now m.simplices c.in_ok-links.links.items c.deref-8.result.now listed c.deref-7.ensures.value
    c.deref-8.ensures.value

pub all_triangles-requires-clause-cells : goal.all_triangles-requires-clause-cells
all_triangles-requires-clause-cells c = record { kind = c.table.ensures.kind; dimension = c.table.ensures.dimension }

pub all_triangles-requires-clause-ends : goal.all_triangles-requires-clause-ends
all_triangles-requires-clause-ends c =
    empty_ends c.table.result.now c.table.ensures.whole (record { kind = c.table.ensures.kind; dimension = c.table.ensures.dimension }) c.table.ensures.accepted

pub returns-clause-cut : goal.returns-clause-cut
returns-clause-cut c =
    let m = c.args.mesh.now in
    let flags : List Bool = c.in_ok-late.late.items in
    let ls : List Link = c.in_ok-links.links.items in
    let vertices : c.deref.result.now ≡ m.vertices = c.deref.ensures.value ∙ ap (λ (x : Mesh). x.vertices) c.mesh.view_is in
    let again : c.deref-4.result.now ≡ m.vertices = c.deref-4.ensures.value ∙ ap (λ (x : Mesh). x.vertices) c.mesh.view_is in
    let simplices : c.deref-2.result.now ≡ m.simplices = c.deref-2.ensures.value ∙ ap (λ (x : Mesh). x.simplices) c.mesh.view_is in
    let others : c.deref-6.result.now ≡ m.simplices = c.deref-6.ensures.value ∙ ap (λ (x : Mesh). x.simplices) c.mesh.view_is in
    let read = to_z-of_z w64 c.args.time c.ranges.time in
    let found = flags_found c.args.time (to_z w64 (of_z w64 c.args.time)) m.vertices c.deref.result.now flags c.in_ok-late.ensures read vertices in
    let listed = links_found flags c.deref-3.result.now m.simplices c.deref-2.result.now ls c.in_ok-links.ensures.links c.deref-3.ensures.value simplices in
    let positions =
    positions_found m.vertices c.deref-4.result.now c.args.time (to_z w64 (of_z w64 c.args.time)) ls c.deref-5.result.now c.in_ok-vertices.vertices.items
    c.in_ok-vertices.ensures again read c.deref-5.ensures.value in
    let triangles =
    triangles_found flags c.deref-7.result.now ls c.deref-8.result.now c.table.result.now m.simplices c.deref-6.result.now c.in_ok-simplices.simplices.items
    c.in_ok-simplices.ensures c.deref-7.ensures.value c.deref-8.ensures.value others in
    let are : AreSimplices (length flags) m.simplices =
    simplices_found (length m.vertices) (length flags) m.simplices m.simplices c.requires.simplices (flags_length m c.args.time flags found) (λ i. m.simplices) in
    let moment : Mesh = record { vertices = c.in_ok-vertices.vertices.items; simplices = c.in_ok-simplices.simplices.items } in
    cut_is m c.args.time flags found c.table.result.now ls moment are listed positions triangles
    ∙ ap (λ (t : Table). cut_of m t c.args.time) c.table.ensures.same

pub returns-clause-shape : goal.returns-clause-shape
returns-clause-shape c =
    let m = c.args.mesh.now in
    let of : IsOfTetrahedron c.table.result.now = record { kind = c.table.ensures.kind; dimension = c.table.ensures.dimension } in
    let are = λ (w : List ℕ) (i : In w m.simplices). each-from_All (IsSimplex (length m.vertices)) m.simplices c.requires.simplices w (Contains_from m.simplices w i) in
    let same = returns-clause-cut c ∙ sym (ap (λ (t : Table). cut_of m t c.args.time) c.table.ensures.same) in
    subst (IsMesh 3) (sym same) (cut_shape c.table.result.now c.table.ensures.whole of c.table.ensures.accepted m c.args.time are)

pub returns-clause-vertices : goal.returns-clause-vertices
returns-clause-vertices c =
    let m = c.args.mesh.now in
    let of : IsOfTetrahedron c.table.result.now = record { kind = c.table.ensures.kind; dimension = c.table.ensures.dimension } in
    let are = λ (w : List ℕ) (i : In w m.simplices). each-from_All (IsSimplex (length m.vertices)) m.simplices c.requires.simplices w (Contains_from m.simplices w i) in
    let same = returns-clause-cut c ∙ sym (ap (λ (t : Table). cut_of m t c.args.time) c.table.ensures.same) in
    subst (λ (moment : Mesh). All (Name (length moment.vertices)) moment.simplices) (sym same)
    (cut_vertices c.table.result.now c.table.ensures.whole of c.table.ensures.accepted m c.args.time are)

pub returns-clause-glued : goal.returns-clause-glued
returns-clause-glued c =
    let m = c.args.mesh.now in
    let of : IsOfTetrahedron c.table.result.now = record { kind = c.table.ensures.kind; dimension = c.table.ensures.dimension } in
    let are = λ (w : List ℕ) (i : In w m.simplices). each-from_All (IsSimplex (length m.vertices)) m.simplices c.requires.simplices w (Contains_from m.simplices w i) in
    let same = returns-clause-cut c ∙ sym (ap (λ (t : Table). cut_of m t c.args.time) c.table.ensures.same) in
    let mesh : IsGluedMesh (length m.vertices) m.simplices =
    record { simplices = are; different = c.requires.different; glued = c.requires.glued } in
    let serves : ServesInOrder c.table.result.now =
    record { is_table = c.table.ensures.whole; of = of; accepted = c.table.ensures.accepted } in
    subst (λ (moment : Mesh). IsCutGlued m c.args.time moment.simplices) (sym same)
    (cut_is_glued m c.table.result.now c.args.time mesh serves)
