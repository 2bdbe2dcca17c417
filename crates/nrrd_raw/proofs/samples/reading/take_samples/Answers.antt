use Rattle.std.proofs.Common.{◌≡◌, ℕ, List, take, sym, ◌+◌, ◌*◌, ◌<◌, ◌≤◌, ◌∷◌, [], length, arith, ap, ◌∙◌, vec_len, length-append}
use Rattle.std.proofs.Math.Nat.{mul-le-mul_right}
use Rattle.std.proofs.lemmas.List.{length-take}
use Rattle.std.proofs.lemmas.Result.{err_from_is_err_and}
use Rattle.std.specs.Io.KnownBytes.{Consumes}
use Rattle.iso_formats.specs.GridFile.{Header}
use Rattle.iso_base.proofs.SameShelf.{IsSameShelf-then}
use Rattle.nrrd_raw.proofs.TakenLaws.{TakesAtMost-then, TakesAtMost-consumed}
use Rattle.nrrd_raw.proofs.ReadLaws.{ReadsSamples-more, IsCutOff-then}
use Rattle.nrrd_raw.proofs.OpenLaws.{blame-then}
use Rattle.nrrd_raw.proofs.samples.reading.take_samples.Goals as goal

pub pieces-preserved : goal.pieces-preserved
pieces-preserved g c =
    let e = c.in_ok-take_piece.ensures in
    let len = e.len in
    let room : c.min-more.result + vec_len c.pieces.samples ≤ c.args.count =
    omega (arith, c.min-more.ensures, c.len-in-pieces.ensures, c.pieces.invariant.few) in
    let piece : length c.take_piece.new.piece ≤ c.min-more.result * c.from-width.result =
    omega (arith, c.take_piece.auto.piece, length-take (c.min-more.result * c.from-width.result) c.pieces.piece) in
    record {
      same = IsSameShelf-then _ _ _ _ _ _ c.pieces.invariant.same e.shelf;
      few = omega (arith, len, room);
      range = e.range c.pieces.invariant.range;
      taken =
          TakesAtMost-then (vec_len c.pieces.samples * c.from-width.result) (length c.take_piece.new.piece)
          (vec_len c.take_piece.new.into * c.from-width.result) _ _ _
          c.pieces.invariant.taken e.taken (rw len (omega (arith, piece)));
      read =
          ReadsSamples-more g.S.Shelf.rest c.args.header.now _ _ _ (vec_len c.pieces.samples) c.min-more.result (vec_len c.take_piece.new.into) _ _ len
          c.pieces.invariant.read e.read;
    }

pub returns-in_err-take_piece-clause-taken : goal.returns-in_err-take_piece-clause-taken
returns-in_err-take_piece-clause-taken g c =
    let w : c.from-width.result ≡ c.args.header.now.width = c.from-width.ensures ∙ ap (λ (h : Header). h.width) c.header.view_is in
    let room : c.min-more.result + vec_len c.pieces.samples ≤ c.args.count =
    omega (arith, c.min-more.ensures, c.len-in-pieces.ensures, c.pieces.invariant.few) in
    let most : (c.min-more.result + vec_len c.pieces.samples) * c.from-width.result ≤ c.args.count * c.from-width.result =
    mul-le-mul_right c.from-width.result room in
    let piece : length c.take_piece.new.piece ≤ c.min-more.result * c.from-width.result =
    omega (arith, c.take_piece.auto.piece, length-take (c.min-more.result * c.from-width.result) c.pieces.piece) in
    TakesAtMost-then (vec_len c.pieces.samples * c.from-width.result) (length c.take_piece.new.piece) (c.args.count * c.args.header.now.width) _ _ _
    c.pieces.invariant.taken c.take_piece.ensures.taken (rw (← w) (omega (arith, piece, most)))

pub returns-in_err-take_piece-clause-cut : goal.returns-in_err-take_piece-clause-cut
returns-in_err-take_piece-clause-cut g c =
    let room : vec_len c.pieces.samples + c.min-more.result ≤ c.args.count =
    omega (arith, c.min-more.ensures, c.len-in-pieces.ensures, c.pieces.invariant.few) in
    let e = c.in_err-take_piece.ensures in
    let p = err_from_is_err_and c.from_residual.result c.from_residual.ensures.1 in
    rw (p.1, p.2)
    (IsCutOff-then c.args.header.now _ _ _ (vec_len c.pieces.samples) c.min-more.result c.args.count _ c.in_err-take_piece.field-0.0
    c.pieces.invariant.read room e.causes e.cut)

pub returns-in_err-take_piece-clause-undecided : goal.returns-in_err-take_piece-clause-undecided
returns-in_err-take_piece-clause-undecided g c =
    let w : c.from-width.result ≡ c.args.header.now.width = c.from-width.ensures ∙ ap (λ (h : Header). h.width) c.header.view_is in
    let room : c.min-more.result + vec_len c.pieces.samples ≤ c.args.count =
    omega (arith, c.min-more.ensures, c.len-in-pieces.ensures, c.pieces.invariant.few) in
    let most : (c.min-more.result + vec_len c.pieces.samples) * c.from-width.result ≤ c.args.count * c.from-width.result =
    mul-le-mul_right c.from-width.result room in
    let piece : length (take (c.min-more.result * c.from-width.result) c.pieces.piece) ≤ c.min-more.result * c.from-width.result =
    omega (arith, length-take (c.min-more.result * c.from-width.result) c.pieces.piece) in
    let read = c.pieces.invariant.read in
    let whole : length read.came ≡ vec_len c.pieces.samples * c.from-width.result = read.whole ∙ ap (λ k. vec_len c.pieces.samples * k) (sym w) in
    let p = err_from_is_err_and c.from_residual.result c.from_residual.ensures.1 in
    rw (p.1, p.2)
    (blame-then c.in_err-take_piece.field-0.0 _ (λ (bs : List ℕ). length bs < c.args.count * c.args.header.now.width) _ _ _ read.came read.taken
    (λ bs l. rw (← w) (omega (arith, length-append read.came bs, whole, most, l, piece)))
    c.in_err-take_piece.ensures.undecided)
