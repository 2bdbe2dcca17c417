use Rattle.std.proofs.Common.{ap, refl, subst, None}
use Rattle.std.specs.Prelude.{Option}
use Rattle.iso_formats.specs.MeshFile.{at_face, extra_word}
use Rattle.off_read.specs.Scans.{Gives, GivesWord}
use Rattle.off_read.specs.WordForms.{Known}
use Rattle.off_read.proofs.StageLaws.{refuses_at}
use Rattle.off_read.proofs.meshes.see_end.Goals as goal

pub returns-in-Some-clause-fails : goal.returns-in-Some-clause-fails
returns-in-Some-clause-fails g c = λ b whole.
    let old = g.S.Shelf.rest c.args.shelf.now in
    let new = g.S.Shelf.rest c.next_word.new.shelf in
    let word : GivesWord old new c.args.reader.now c.next_word.new.self c.in-Some.word =
    subst (λ (o : Option Known). Gives old new c.args.reader.now c.next_word.new.self o) c.in-Some.is c.in_ok-word.ensures.gives in
    refuses_at old new c.args.reader.now c.next_word.new.self c.in-Some.word word (at_face b None) extra_word c.word.inside.line
    (ap (λ (k : Known). k.line) c.word.view_is) (rw whole refl)
