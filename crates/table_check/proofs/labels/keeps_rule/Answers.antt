use Rattle.std.proofs.Common.{◌∙◌, ℕ, sym, ap, subst, arith, List, All}
use Rattle.iso_model.specs.declared.Kind.{Kind}
use Rattle.iso_model.specs.Cells.{HasDimension}
use Rattle.iso_model.specs.Tables.{IsTuple}
use Rattle.iso_model.specs.Acceptance.{rule_over}
use Rattle.face_tallies.specs.Tallies.{AreTallies}
use Rattle.label_rules.proofs.FigureLaws.{edges_few}
use Rattle.seam_traces.specs.SeamLists.{seams_of}
use Rattle.table_check.proofs.RuleOrder.{label_is, told_faces, told_side, told_path, kept_edges, kept_faces}
use Rattle.table_check.proofs.labels.keeps_rule.Goals as goal

pub returns-in-3 : goal.returns-in-3
returns-in-3 g c =
    let ss = seams_of c.args.seams.now in
    let t = c.args.table.now in
    let label = c.args.label in
    let kind = c.args.figures.now in
    let d = g.row.D in
    let ws = c.tuples-tuples.result.now in
    let is = label_is t label kind g.C.Cell.KIND d ws c.requires.kind c.requires.cell c.labels-labels.ensures.dimension c.tuples-tuples.ensures.tuples in
    let tuples : All (IsTuple kind d) ws = subst (λ (k : Kind). All (IsTuple k d) ws) is.kind_is c.tuples-tuples.ensures.sound.1 in
    let has : HasDimension kind d =
    subst (λ (k : Kind). HasDimension k d) is.kind_is
    (subst (λ (n : ℕ). HasDimension t.kind n) is.dimension_is c.labels-labels.ensures.table.fits) in
    let tallies : AreTallies d ws c.args.tallies.now =
    subst (λ (v : List (List ℕ)). AreTallies d v c.args.tallies.now) (sym is.tuples_are) c.requires.tallies in
    let e = c.keeps_faces.ensures kind d ws (edges_few kind d ws has tuples) (c.facets.ensures ws tuples) tallies in
    sym (told_faces ss t label kind d ws c.keeps_faces.result is e) ∙ ap (rule_over ss t label) (sym c.in-3.is)

pub returns-in-4 : goal.returns-in-4
returns-in-4 g c =
    let ss = seams_of c.args.seams.now in
    let t = c.args.table.now in
    let label = c.args.label in
    let kind = c.args.figures.now in
    let d = g.row.D in
    let ws = c.tuples-tuples.result.now in
    let is = label_is t label kind g.C.Cell.KIND d ws c.requires.kind c.requires.cell c.labels-labels.ensures.dimension c.tuples-tuples.ensures.tuples in
    let edges = kept_edges ss t label c.args.number kind d ws is c.requires.before (omega (arith, c.in-4.is)) in
    sym (told_side ss t label kind d ws c.keeps_side.result is (c.keeps_side.ensures edges)) ∙ ap (rule_over ss t label) (sym c.in-4.is)

pub returns-in-5 : goal.returns-in-5
returns-in-5 g c =
    let ss = seams_of c.args.seams.now in
    let t = c.args.table.now in
    let label = c.args.label in
    let kind = c.args.figures.now in
    let d = g.row.D in
    let ws = c.tuples-tuples.result.now in
    let is = label_is t label kind g.C.Cell.KIND d ws c.requires.kind c.requires.cell c.labels-labels.ensures.dimension c.tuples-tuples.ensures.tuples in
    let tuples : All (IsTuple kind d) ws = subst (λ (k : Kind). All (IsTuple k d) ws) is.kind_is c.tuples-tuples.ensures.sound.1 in
    let edges = kept_edges ss t label c.args.number kind d ws is c.requires.before (omega (arith, c.in-5.is)) in
    let faces = kept_faces ss t label c.args.number kind d ws is c.requires.before (omega (arith, c.in-5.is)) in
    let e = c.keeps_path.ensures kind label (c.facets-in-5.ensures ws tuples) (c.bipolar.ensures ws tuples) edges faces in
    sym (told_path ss t label kind d ws c.keeps_path.result is e) ∙ ap (rule_over ss t label) (sym c.in-5.is)
