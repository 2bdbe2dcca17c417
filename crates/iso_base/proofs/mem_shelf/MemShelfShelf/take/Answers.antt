use Rattle.std.proofs.Common.{◌≡◌, ◌∙◌, ap, length, min, take, drop}
use Rattle.iso_base.specs.Places.{rest_from}
use Rattle.iso_base.proofs.Taking.{consumed}
use Rattle.iso_base.proofs.FilesByName.{rest_from_more}
use Rattle.iso_base.proofs.mem_shelf.MemShelfShelf.take.Goals as goal

pub returns-clause-taken : goal.returns-clause-taken
returns-clause-taken c =
    let n = c.min-count.result in
    let left : rest_from c.self.inside.files.items c.self.inside.begun c.self.inside.start ≡ c.args.self.now.rest = ap (λ shelf. shelf.rest) c.self.view_is in
    let same : c.rest-rest.result.now ≡ c.args.self.now.rest =
    c.rest-rest.ensures.rest ∙ ap (λ files. rest_from files c.self.inside.begun c.self.inside.start) c.as_slice.ensures.value ∙ left in
    let front : c.copy_from_slice.new.self ≡ take n c.args.self.now.rest = c.copy_from_slice.ensures.after ∙ ap (take n) same in
    let count : n ≡ min (min (length c.args.self.now.rest) c.self.inside.step) (length c.args.buf.now) =
    c.min-count.ensures ∙ ap (λ room. min room (length c.args.buf.now)) (c.min.ensures ∙ ap (λ xs. min (length xs) c.self.inside.step) same) in
    let more = rest_from_more c.self.inside.files.items c.self.inside.begun c.self.inside.start n in
    consumed c.args.self.now.rest _ _ c.args.buf.now _ _ front (more ∙ ap (drop n) left) count c.self.invariant.0
