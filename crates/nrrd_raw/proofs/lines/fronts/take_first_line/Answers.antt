use Rattle.std.proofs.Common.{◌≡◌, ◌≤◌, inr, ℕ, ◌∷◌, [], ◌++◌, List, Option, Some, length, refl, sym, ap, ◌∙◌, subst, arith}
use Rattle.std.proofs.lemmas.Result.{err_from_is_err_and}
use Rattle.std.specs.Io.KnownBytes.{Consumes}
use Rattle.std.proofs.KnownBytes.{Consumes-trans}
use Rattle.iso_base.proofs.SameShelf.{IsSameShelf-then}
use Rattle.nrrd_raw.specs.HeaderFronts.{HasFront}
use Rattle.nrrd_raw.proofs.TakenLaws.{TakesAtMost-then, TakesAtMost-consumed, TakesAtMost-none}
use Rattle.nrrd_raw.proofs.MagicLaws.{FitsFirst-more, front-feed, wrong-end}
use Rattle.nrrd_raw.proofs.FirstLaws.{least_some, no_beginning-place, no_beginning-return, first-return, taken-byte, other-byte}
use Rattle.nrrd_raw.specs.Undecided.{IsOpenHeader}
use Rattle.nrrd_raw.proofs.OpenLaws.{ends-open, open-fits, open-return, blame-kept, blames-kept, some-all}
use Rattle.nrrd_raw.proofs.lines.fronts.take_first_line.Goals as goal

pub take_fitting-requires-clause-some : goal.take_fitting-requires-clause-some
take_fitting-requires-clause-some g c = least_some c.places.place c.places-test.true

pub returns-in_err-take_fitting-clause-taken : goal.returns-in_err-take_fitting-clause-taken
returns-in_err-take_fitting-clause-taken g c =
    TakesAtMost-then c.places.place 1 10 _ _ _
    (TakesAtMost-consumed c.places.place _ _ c.places.front.items c.places.invariant.came (omega (arith, c.places.invariant.fits.len)))
    c.take_fitting.ensures.taken (omega (arith, c.places-test.true))

pub returns-in_err-take_fitting-clause-cause : goal.returns-in_err-take_fitting-clause-cause
returns-in_err-take_fitting-clause-cause g c =
    let p = err_from_is_err_and c.from_residual.result c.from_residual.ensures.1 in
    rw (p.1, p.2)
    (no_beginning-place _ _ c.places.front.items c.places.place c.in_err-take_fitting.field-0.0 c.places.invariant.fits c.places-test.true
    c.places.invariant.came c.in_err-take_fitting.ensures.unfit)

pub places-preserved : goal.places-preserved
places-preserved g c =
    let e = c.in_ok-take_fitting.ensures in
    record {
      same = IsSameShelf-then _ _ _ _ _ _ c.places.invariant.same e.shelf;
      fits = FitsFirst-more g.S.Shelf.rest c.places.front.items c.take_fitting.new.front.items c.places.place _ _ c.places.invariant.fits e.fitting;
      came = subst (λ (bs : List ℕ). Consumes (g.S.Shelf.rest c.args.shelf.now) (g.S.Shelf.rest c.take_fitting.new.shelf) bs) (sym e.fitting.pushed)
          (Consumes-trans _ _ _ _ _ c.places.invariant.came e.fitting.taken);
    }

pub returns-then-byte-eq10-clause-taken : goal.returns-then-byte-eq10-clause-taken
returns-then-byte-eq10-clause-taken g c =
    TakesAtMost-then 8 1 10 _ _ _
    (TakesAtMost-consumed 8 _ _ c.places.front.items c.places.invariant.came (omega (arith, c.places.invariant.fits.len)))
    (taken-byte _ _ _ c.in_ok-byte.ensures.byte) (omega arith)

pub returns-then-byte-eq10-clause-first : goal.returns-then-byte-eq10-clause-first
returns-then-byte-eq10-clause-first g c =
    let eight : c.places.place ≡ 8 = omega arith in
    let ten : c.in-Some.byte ≡ 10 = c.if-byte-eq10.true in
    subst (λ (xs : List ℕ). HasFront xs (length xs)) (sym (c.push.ensures.items ∙ ap (λ (b : ℕ). c.places.front.items ++ b ∷ []) ten))
    (front-feed c.places.front.items (rw eight at c.places.invariant.fits))

pub returns-then-byte-ne13-clause-taken : goal.returns-then-byte-ne13-clause-taken
returns-then-byte-ne13-clause-taken g c =
    TakesAtMost-then 8 1 10 _ _ _
    (TakesAtMost-consumed 8 _ _ c.places.front.items c.places.invariant.came (omega (arith, c.places.invariant.fits.len)))
    (taken-byte _ _ _ c.in_ok-byte.ensures.byte) (omega arith)

some_byte : (o : Option ℕ) (b n : ℕ) → o ≡ Some b → (b ≡ n → ⊥) → o ≡ Some n → ⊥
some_byte o b n e h f = h (cc)

pub returns-then-byte-ne13-clause-cause : goal.returns-then-byte-ne13-clause-cause
returns-then-byte-ne13-clause-cause g c =
    let a = some_byte c.in_ok-byte.field-0 c.in-Some.byte 10 c.in-Some.is c.if-byte-eq10.false in
    let b = some_byte c.in_ok-byte.field-0 c.in-Some.byte 13 c.in-Some.is c.if-byte-ne13.true in
    inr (
      refl,
      wrong-end _ _ c.places.front.items (omega (arith, c.places.invariant.fits.len)) c.places.invariant.came
          (other-byte _ _ _ c.in_ok-byte.ensures.byte a b),
    )

pub returns-clause-taken : goal.returns-clause-taken
returns-clause-taken g c =
    TakesAtMost-then 9 1 10 _ _ _
    (TakesAtMost-then 8 1 9 _ _ _
    (TakesAtMost-consumed 8 _ _ c.places.front.items c.places.invariant.came (omega (arith, c.places.invariant.fits.len)))
    (taken-byte _ _ _ c.in_ok-byte.ensures.byte) (omega arith))
    c.take_fitting-2.ensures.taken (omega arith)

pub returns-clause-first : goal.returns-clause-first
returns-clause-first g c =
    let eight : c.places.place ≡ 8 = omega arith in
    let cr : c.in-Some.byte ≡ 13 = c.if-byte-ne13.false in
    first-return c.take_fitting-2.result g.S.Shelf.rest _ _ c.places.front.items c.push-2.new.self.items c.take_fitting-2.new.front.items
    (rw eight at c.places.invariant.fits) (c.push-2.ensures.items ∙ ap (λ (b : ℕ). c.places.front.items ++ b ∷ []) cr) c.take_fitting-2.ensures.fitting

pub returns-clause-cause : goal.returns-clause-cause
returns-clause-cause g c =
    let cr : c.in-Some.byte ≡ 13 = c.if-byte-ne13.false in
    let byte : Consumes (g.S.Shelf.rest c.places.shelf) (g.S.Shelf.rest c.take_byte.new.shelf) (c.in-Some.byte ∷ []) =
    rw c.in-Some.is at c.in_ok-byte.ensures.byte in
    let came = Consumes-trans _ _ _ _ _ c.places.invariant.came byte in
    no_beginning-return c.take_fitting-2.result _ _ c.places.front.items c.push-2.new.self.items (omega (arith, c.places.invariant.fits.len))
    (c.push-2.ensures.items ∙ ap (λ (b : ℕ). c.places.front.items ++ b ∷ []) cr)
    (subst (λ (bs : List ℕ). Consumes (g.S.Shelf.rest c.args.shelf.now) (g.S.Shelf.rest c.take_byte.new.shelf) bs) (sym c.push-2.ensures.items) came)
    c.take_fitting-2.ensures.unfit

pub returns-in_err-take_fitting-clause-no_further : goal.returns-in_err-take_fitting-clause-no_further
returns-in_err-take_fitting-clause-no_further g c =
    let few : c.places.place ≤ 8 = omega (arith, c.places-test.true) in
    ends-open _ _ _ c.places.front.items c.places.invariant.came (open-fits c.places.front.items c.places.place c.places.invariant.fits few)
    c.take_fitting.ensures.taken

pub returns-in_err-take_fitting-clause-undecided : goal.returns-in_err-take_fitting-clause-undecided
returns-in_err-take_fitting-clause-undecided g c =
    let few : c.places.place ≤ 8 = omega (arith, c.places-test.true) in
    let p = err_from_is_err_and c.from_residual.result c.from_residual.ensures.1 in
    rw (p.1, p.2)
    (blame-kept c.in_err-take_fitting.field-0.0 IsOpenHeader _ _ _ c.places.front.items c.places.invariant.came
    (open-fits c.places.front.items c.places.place c.places.invariant.fits few) c.in_err-take_fitting.ensures.undecided)

pub returns-in_err-byte-clause-no_further : goal.returns-in_err-byte-clause-no_further
returns-in_err-byte-clause-no_further g c =
    let eight : c.places.place ≡ 8 = omega arith in
    ends-open _ _ _ c.places.front.items c.places.invariant.came
    (open-fits c.places.front.items 8 (rw eight at c.places.invariant.fits) (omega arith))
    (TakesAtMost-none 1 _ _ c.in_err-byte.ensures.kept)

pub returns-in_err-byte-clause-undecided : goal.returns-in_err-byte-clause-undecided
returns-in_err-byte-clause-undecided g c =
    let eight : c.places.place ≡ 8 = omega arith in
    let p = err_from_is_err_and c.from_residual-in_err-byte.result c.from_residual-in_err-byte.ensures.1 in
    rw (p.1, p.2)
    (blame-kept c.in_err-byte.field-0.0 IsOpenHeader _ _ _ c.places.front.items c.places.invariant.came
    (open-fits c.places.front.items 8 (rw eight at c.places.invariant.fits) (omega arith)) (some-all _ c.in_err-byte.ensures.kept))

pub returns-in_default-clause-no_further : goal.returns-in_default-clause-no_further
returns-in_default-clause-no_further g c =
    let eight : c.places.place ≡ 8 = omega arith in
    ends-open _ _ _ c.places.front.items c.places.invariant.came
    (open-fits c.places.front.items 8 (rw eight at c.places.invariant.fits) (omega arith)) (taken-byte _ _ _ c.in_ok-byte.ensures.byte)

pub returns-then-byte-eq10-clause-no_further : goal.returns-then-byte-eq10-clause-no_further
returns-then-byte-eq10-clause-no_further g c =
    let eight : c.places.place ≡ 8 = omega arith in
    ends-open _ _ _ c.places.front.items c.places.invariant.came
    (open-fits c.places.front.items 8 (rw eight at c.places.invariant.fits) (omega arith)) (taken-byte _ _ _ c.in_ok-byte.ensures.byte)

pub returns-then-byte-ne13-clause-no_further : goal.returns-then-byte-ne13-clause-no_further
returns-then-byte-ne13-clause-no_further g c =
    let eight : c.places.place ≡ 8 = omega arith in
    ends-open _ _ _ c.places.front.items c.places.invariant.came
    (open-fits c.places.front.items 8 (rw eight at c.places.invariant.fits) (omega arith)) (taken-byte _ _ _ c.in_ok-byte.ensures.byte)

pub returns-clause-no_further : goal.returns-clause-no_further
returns-clause-no_further g c =
    let eight : c.places.place ≡ 8 = omega arith in
    let cr : c.in-Some.byte ≡ 13 = c.if-byte-ne13.false in
    let byte : Consumes (g.S.Shelf.rest c.places.shelf) (g.S.Shelf.rest c.take_byte.new.shelf) (13 ∷ []) =
    rw (c.in-Some.is, cr) at c.in_ok-byte.ensures.byte in
    ends-open _ _ _ (c.places.front.items ++ 13 ∷ []) (Consumes-trans _ _ _ _ _ c.places.invariant.came byte)
    (open-return c.places.front.items (rw eight at c.places.invariant.fits)) c.take_fitting-2.ensures.taken

pub returns-clause-undecided : goal.returns-clause-undecided
returns-clause-undecided g c =
    let eight : c.places.place ≡ 8 = omega arith in
    let cr : c.in-Some.byte ≡ 13 = c.if-byte-ne13.false in
    let byte : Consumes (g.S.Shelf.rest c.places.shelf) (g.S.Shelf.rest c.take_byte.new.shelf) (13 ∷ []) =
    rw (c.in-Some.is, cr) at c.in_ok-byte.ensures.byte in
    blames-kept c.take_fitting-2.result IsOpenHeader _ _ _ (c.places.front.items ++ 13 ∷ []) (Consumes-trans _ _ _ _ _ c.places.invariant.came byte)
    (open-return c.places.front.items (rw eight at c.places.invariant.fits)) c.take_fitting-2.ensures.undecided
