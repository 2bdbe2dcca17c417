use Rattle.std.proofs.Common.{◌≡◌, ◌∙◌, ℕ, true, false, nat_eq, ◌<◌, ◌≤◌, ◌∷◌, [], ◌++◌, List, length, drop, sym, ap, subst, rules, arith}
use Rattle.std.specs.Prelude.{◌==◌}
use Rattle.std.proofs.lemmas.Bool.Decides.{nat_tests}
use Rattle.std.proofs.lemmas.List.{take_rest}
use Rattle.std.proofs.lemmas.Result.{err_from_is_err_and}
use Rattle.std.specs.Io.KnownBytes.{Consumes, Keeps, IsAtEnd}
use Rattle.std.proofs.KnownBytes.{Consumes-trans, Consumes-kept}
use Rattle.iso_base.proofs.SameShelf.{IsSameShelf-then}
use Rattle.nrrd_raw.specs.LineEnds.{without_return}
use Rattle.nrrd_raw.specs.HeaderFronts.{HasFront, IsFront}
use Rattle.nrrd_raw.proofs.TakenLaws.{TakesAtMost-consumed, TakesAtMost-none}
use Rattle.nrrd_raw.proofs.FrontLaws.{front-byte, front-line, front-long, front-unended}
use Rattle.nrrd_raw.proofs.FirstLaws.{no_beginning-fault, is_front, taken-byte}
use Rattle.nrrd_raw.specs.Undecided.{IsOpenHeader}
use Rattle.nrrd_raw.proofs.OpenLaws.{ends-open, open-lines, blame-kept, some-all}
use Rattle.nrrd_raw.proofs.lines.fronts.take_front.Goals as goal

pub returns-in_err-take_first_line-clause-cause : goal.returns-in_err-take_first_line-clause-cause
returns-in_err-take_first_line-clause-cause g c =
    let p = err_from_is_err_and c.from_residual.result c.from_residual.ensures.1 in
    rw (p.1, p.2) (no_beginning-fault _ c.in_err-take_first_line.field-0.0 c.in_err-take_first_line.ensures.cause)

pub returns-in_err-byte-clause-taken : goal.returns-in_err-byte-clause-taken
returns-in_err-byte-clause-taken g c =
    TakesAtMost-consumed 65536 _ _ c.bytes.front.items (Consumes-kept _ _ _ _ c.bytes.invariant.came c.in_err-byte.ensures.kept) c.bytes.invariant.short

pub returns-in_default-clause-taken : goal.returns-in_default-clause-taken
returns-in_default-clause-taken g c =
    let t : Keeps (g.S.Shelf.rest c.bytes.shelf) (g.S.Shelf.rest c.take_byte.new.shelf) × IsAtEnd (g.S.Shelf.rest c.take_byte.new.shelf) =
    rw c.in_default.is at c.in_ok-byte.ensures.byte in
    TakesAtMost-consumed 65536 _ _ c.bytes.front.items (Consumes-kept _ _ _ _ c.bytes.invariant.came t.0) c.bytes.invariant.short

pub returns-in_default-clause-cause : goal.returns-in_default-clause-cause
returns-in_default-clause-cause g c =
    let t : Keeps (g.S.Shelf.rest c.bytes.shelf) (g.S.Shelf.rest c.take_byte.new.shelf) × IsAtEnd (g.S.Shelf.rest c.take_byte.new.shelf) =
    rw c.in_default.is at c.in_ok-byte.ensures.byte in
    let few : length c.bytes.front.items < 65536 = search rules in
    front-unended (g.S.Shelf.rest c.args.shelf.now) (g.S.Shelf.rest c.take_byte.new.shelf) c.bytes.front.items c.bytes.start c.bytes.invariant.begun
    (Consumes-kept _ _ _ _ c.bytes.invariant.came t.0) t.1 few

pub returns-then-ends-clause-taken : goal.returns-then-ends-clause-taken
returns-then-ends-clause-taken g c =
    let byte : Consumes (g.S.Shelf.rest c.bytes.shelf) (g.S.Shelf.rest c.take_byte.new.shelf) (c.in-Some.byte ∷ []) =
    rw c.in-Some.is at c.in_ok-byte.ensures.byte in
    let len : length (c.bytes.front.items ++ c.in-Some.byte ∷ []) ≤ 65536 = search rules in
    TakesAtMost-consumed 65536 _ _ (c.bytes.front.items ++ c.in-Some.byte ∷ []) (Consumes-trans _ _ _ _ _ c.bytes.invariant.came byte) len

pub returns-then-ends-clause-came : goal.returns-then-ends-clause-came
returns-then-ends-clause-came g c =
    let byte : Consumes (g.S.Shelf.rest c.bytes.shelf) (g.S.Shelf.rest c.take_byte.new.shelf) (c.in-Some.byte ∷ []) =
    rw c.in-Some.is at c.in_ok-byte.ensures.byte in
    subst (λ (bs : List ℕ). Consumes (g.S.Shelf.rest c.args.shelf.now) (g.S.Shelf.rest c.take_byte.new.shelf) bs) (sym c.push.ensures.items)
    (Consumes-trans _ _ _ _ _ c.bytes.invariant.came byte)

pub returns-then-ends-clause-whole : goal.returns-then-ends-clause-whole
returns-then-ends-clause-whole g c =
    let few : length c.bytes.front.items < 65536 = search rules in
    let ten : c.in-Some.byte ≡ 10 = c.if-byte-eq10.true in
    let test : (length (without_return (drop c.bytes.start c.bytes.front.items)) == 0) ≡ true =
    sym
    (c.is_empty_line-ends.ensures
    ∙ ap (λ t. length (without_return t) == 0) (take_rest c.deref.result.now c.bytes.start ∙ ap (drop c.bytes.start) c.deref.ensures.0))
    ∙ c.if-ends.true in
    subst IsFront (sym (c.push.ensures.items ∙ ap (λ (b : ℕ). c.bytes.front.items ++ b ∷ []) ten))
    (is_front c.bytes.front.items c.bytes.start c.bytes.invariant.begun test few)

pub bytes-preserved-then-byte-eq10 : goal.bytes-preserved-then-byte-eq10
bytes-preserved-then-byte-eq10 g c =
    let few : length c.bytes.front.items < 65536 = search rules in
    let byte : Consumes (g.S.Shelf.rest c.bytes.shelf) (g.S.Shelf.rest c.take_byte.new.shelf) (c.in-Some.byte ∷ []) =
    rw c.in-Some.is at c.in_ok-byte.ensures.byte in
    let ten : c.in-Some.byte ≡ 10 = c.if-byte-eq10.true in
    let test : (length (without_return (drop c.bytes.start c.bytes.front.items)) == 0) ≡ false =
    sym
    (c.is_empty_line-ends.ensures
    ∙ ap (λ t. length (without_return t) == 0) (take_rest c.deref.result.now c.bytes.start ∙ ap (drop c.bytes.start) c.deref.ensures.0))
    ∙ c.if-ends.false in
    let whole = c.push.ensures.items ∙ ap (λ (b : ℕ). c.bytes.front.items ++ b ∷ []) ten in
    let len : length c.push.new.self.items ≡ c.len-start-then-byte-eq10.result = search rules in
    record {
      same = IsSameShelf-then _ _ _ _ _ _ c.bytes.invariant.same c.in_ok-byte.ensures.shelf;
      short = search rules;
      came =
          subst (λ (bs : List ℕ). Consumes (g.S.Shelf.rest c.args.shelf.now) (g.S.Shelf.rest c.take_byte.new.shelf) bs) (sym c.push.ensures.items)
          (Consumes-trans _ _ _ _ _ c.bytes.invariant.came byte);
      begun = subst (λ (i : ℕ). HasFront c.push.new.self.items i) len
          (subst (λ (xs : List ℕ). HasFront xs (length xs)) (sym whole) (front-line c.bytes.front.items c.bytes.start c.bytes.invariant.begun test));
      no_further =
          ends-open _ _ _ c.bytes.front.items c.bytes.invariant.came
          (open-lines c.bytes.front.items c.bytes.start c.bytes.invariant.begun few) (taken-byte _ _ _ c.in_ok-byte.ensures.byte);
    }

pub bytes-preserved : goal.bytes-preserved
bytes-preserved g c =
    let few : length c.bytes.front.items < 65536 = search rules in
    let byte : Consumes (g.S.Shelf.rest c.bytes.shelf) (g.S.Shelf.rest c.take_byte.new.shelf) (c.in-Some.byte ∷ []) =
    rw c.in-Some.is at c.in_ok-byte.ensures.byte in
    let other : nat_eq 10 c.in-Some.byte ≡ false = grind (arith, nat_tests, c.if-byte-eq10.false) in
    record {
      same = IsSameShelf-then _ _ _ _ _ _ c.bytes.invariant.same c.in_ok-byte.ensures.shelf;
      short = search rules;
      came =
          subst (λ (bs : List ℕ). Consumes (g.S.Shelf.rest c.args.shelf.now) (g.S.Shelf.rest c.take_byte.new.shelf) bs)
          (sym c.push-else-byte-eq10.ensures.items) (Consumes-trans _ _ _ _ _ c.bytes.invariant.came byte);
      begun =
          subst (λ (xs : List ℕ). HasFront xs c.bytes.start) (sym c.push-else-byte-eq10.ensures.items)
          (front-byte c.bytes.front.items c.bytes.start c.in-Some.byte c.bytes.invariant.begun other);
      no_further =
          ends-open _ _ _ c.bytes.front.items c.bytes.invariant.came
          (open-lines c.bytes.front.items c.bytes.start c.bytes.invariant.begun few) (taken-byte _ _ _ c.in_ok-byte.ensures.byte);
    }

pub returns-clause-taken : goal.returns-clause-taken
returns-clause-taken g c = TakesAtMost-consumed 65536 _ _ c.bytes.front.items c.bytes.invariant.came c.bytes.invariant.short

pub returns-clause-cause : goal.returns-clause-cause
returns-clause-cause g c =
    let all : 65536 ≤ length c.bytes.front.items = search rules in
    front-long (g.S.Shelf.rest c.args.shelf.now) (g.S.Shelf.rest c.bytes.shelf) c.bytes.front.items c.bytes.start c.bytes.invariant.begun
    c.bytes.invariant.came all

pub returns-in_err-byte-clause-no_further : goal.returns-in_err-byte-clause-no_further
returns-in_err-byte-clause-no_further g c =
    let few : length c.bytes.front.items < 65536 = search rules in
    ends-open _ _ _ c.bytes.front.items c.bytes.invariant.came
    (open-lines c.bytes.front.items c.bytes.start c.bytes.invariant.begun few) (TakesAtMost-none 1 _ _ c.in_err-byte.ensures.kept)

pub returns-in_err-byte-clause-undecided : goal.returns-in_err-byte-clause-undecided
returns-in_err-byte-clause-undecided g c =
    let few : length c.bytes.front.items < 65536 = search rules in
    let p = err_from_is_err_and c.from_residual-in_err-byte.result c.from_residual-in_err-byte.ensures.1 in
    rw (p.1, p.2)
    (blame-kept c.in_err-byte.field-0.0 IsOpenHeader _ _ _ c.bytes.front.items c.bytes.invariant.came
    (open-lines c.bytes.front.items c.bytes.start c.bytes.invariant.begun few) (some-all _ c.in_err-byte.ensures.kept))

pub returns-in_default-clause-no_further : goal.returns-in_default-clause-no_further
returns-in_default-clause-no_further g c =
    let few : length c.bytes.front.items < 65536 = search rules in
    ends-open _ _ _ c.bytes.front.items c.bytes.invariant.came
    (open-lines c.bytes.front.items c.bytes.start c.bytes.invariant.begun few) (taken-byte _ _ _ c.in_ok-byte.ensures.byte)

pub returns-then-ends-clause-no_further : goal.returns-then-ends-clause-no_further
returns-then-ends-clause-no_further g c =
    let few : length c.bytes.front.items < 65536 = search rules in
    ends-open _ _ _ c.bytes.front.items c.bytes.invariant.came
    (open-lines c.bytes.front.items c.bytes.start c.bytes.invariant.begun few) (taken-byte _ _ _ c.in_ok-byte.ensures.byte)
