use Rattle.std.proofs.Common.{◌≡◌, ◌∙◌, true, false}
use Rattle.std.specs.Str.{bytes_eq}
use Rattle.iso_base.proofs.FilesByName.{file_bytes-here, file_bytes-next}
use Rattle.iso_base.proofs.mem_shelf.place_of.Goals as goal

pub returns-then-eq : goal.returns-then-eq
returns-then-eq c =
    let named : bytes_eq c.index-files-place.result.0 c.args.name.now ≡ true = cc in
    (c.loop-place-test.true, c.loop-place.invariant ∙ file_bytes-here _ _ _ _ c.index-files-place.is c.loop-place-test.true named)

pub loop-place-preserved : goal.loop-place-preserved
loop-place-preserved c =
    let other : bytes_eq c.index-files-place.result.0 c.args.name.now ≡ false = cc in
    c.loop-place.invariant ∙ file_bytes-next _ _ _ _ c.index-files-place.is c.loop-place-test.true other
