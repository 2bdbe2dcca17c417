use Rattle.std.proofs.Common.{ap}
use Rattle.off_read.specs.WordForms.{Known}
use Rattle.off_read.proofs.MeshLaws.{index_goes, index_fails, index_below}
use Rattle.off_read.proofs.meshes.read_index.Goals as goal

pub returns-in-Some-clause-gives : goal.returns-in-Some-clause-gives
returns-in-Some-clause-gives g c = λ b ks same.
    let word = c.in_ok-word.ensures.gives in
    index_goes _ _ c.args.reader.now c.expect_word.new.reader c.in_ok-word.word word c.args.vertices c.index.result c.in-Some.index b ks same
    (c.index.ensures word.text word.known) c.in-Some.is

pub returns-in-Some-clause-below : goal.returns-in-Some-clause-below
returns-in-Some-clause-below g c =
    let word = c.in_ok-word.ensures.gives in
    index_below c.args.vertices word.text c.index.result c.in-Some.index (c.index.ensures word.text word.known) c.in-Some.is

pub returns-in-None-clause-fails : goal.returns-in-None-clause-fails
returns-in-None-clause-fails g c = λ b ks same.
    let word = c.in_ok-word.ensures.gives in
    index_fails _ _ c.args.reader.now c.expect_word.new.reader c.in_ok-word.word word c.args.vertices c.index.result c.word.inside.line b ks same
    (c.index.ensures word.text word.known) c.in-None.is (ap (λ (k : Known). k.line) c.word.view_is)
