use Rattle.std.proofs.Common.{arith, inl, ◌<◌, length}
use Rattle.table_file.proofs.reading.head_fault.Goals as goal

pub returns-then-place-bytes : goal.returns-then-place-bytes
returns-then-place-bytes c = inl (c.if-place-bytes.true, c.requires.head, c.requires.begun)

pub returns-then-place-lt8 : goal.returns-then-place-lt8
returns-then-place-lt8 c =
    let inside : c.args.place < length c.args.bytes.now = omega (arith, c.requires.inside, c.if-place-bytes.false) in
    inl (c.requires.stopped inside, c.if-place-lt8.true)

pub returns-else-place-lt8 : goal.returns-else-place-lt8
returns-else-place-lt8 c =
    let inside : c.args.place < length c.args.bytes.now = omega (arith, c.requires.inside, c.if-place-bytes.false) in
    inl (c.requires.stopped inside, c.if-place-lt8.false)
