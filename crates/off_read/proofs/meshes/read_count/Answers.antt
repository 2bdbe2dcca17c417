use Rattle.std.proofs.Common.{ap}
use Rattle.off_read.specs.WordForms.{Known}
use Rattle.off_read.proofs.MeshLaws.{count_goes, count_fails}
use Rattle.off_read.proofs.meshes.read_count.Goals as goal

pub returns-in-Some-clause-gives : goal.returns-in-Some-clause-gives
returns-in-Some-clause-gives g c = λ before after asks.
    let word = c.in_ok-word.ensures.gives in
    count_goes _ _ c.args.reader.now c.expect_word.new.reader c.in_ok-word.word word c.count.result c.in-Some.count before after asks
    (c.count.ensures word.text word.known) c.in-Some.is

pub returns-in-None-clause-fails : goal.returns-in-None-clause-fails
returns-in-None-clause-fails g c = λ before after asks.
    let word = c.in_ok-word.ensures.gives in
    count_fails _ _ c.args.reader.now c.expect_word.new.reader c.in_ok-word.word word c.count.result c.word.inside.line before after asks
    (c.count.ensures word.text word.known) c.in-None.is (ap (λ (k : Known). k.line) c.word.view_is)
