use Rattle.std.proofs.Common.{ap, sym, refl, ◌≡◌, ◌∙◌, false}
use Rattle.iso_formats.specs.HeaderLines.{is_numeral}
use Rattle.iso_formats.specs.MeshFile.{at_edges, wrong_count}
use Rattle.off_read.specs.WordForms.{Known}
use Rattle.off_read.proofs.StageLaws.{refuses_at}
use Rattle.off_read.proofs.meshes.read_edges.Goals as goal

pub returns-then-not-is_numeral-clause-fails : goal.returns-then-not-is_numeral-clause-fails
returns-then-not-is_numeral-clause-fails g c = λ d v f.
    let word = c.in_ok-word.ensures.gives in
    let no : is_numeral word.text ≡ false = sym (c.is_numeral.ensures word.text word.known) ∙ c.if-not-is_numeral.true in
    refuses_at _ _ c.args.reader.now c.expect_word.new.reader c.in_ok-word.word word (at_edges d v f) wrong_count c.word.inside.line
    (ap (λ (k : Known). k.line) c.word.view_is) (rw no refl)
