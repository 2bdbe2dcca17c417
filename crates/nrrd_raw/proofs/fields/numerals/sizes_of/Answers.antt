use Rattle.std.proofs.Common.{ℕ, ◌+◌, ◌<◌, ◌≤◌, List, [], ◌∷◌, set, refl, arith, ap, subst}
use Rattle.std.proofs.lemmas.List.{drop_all}
use Rattle.std.proofs.lemmas.List.Elements.{All-set, All-replicate}
use Rattle.iso_formats.specs.HeaderLines.{words_of}
use Rattle.nrrd_raw.proofs.SizeLaws.{ReadsWords, ReadsWords-none, ReadsWords-more, words_of-skip, words_of-word, sizes_from-wrong, sizes_from-many}
use Rattle.nrrd_raw.proofs.SizeLaws.{sizes_from-all, HasShape-set}
use Rattle.nrrd_raw.proofs.fields.numerals.sizes_of.Goals as goal

pub loop-at-init : goal.loop-at-init
loop-at-init c =
    let value = c.args.value.now in
    let at = c.word_from-at.result in
    record {
      shape = record { few = omega arith; four = refl; beyond = refl };
      sized = All-replicate (λ n. (1 ≤ n) × (n ≤ 4294967295)) 4 1 (omega arith, omega arith);
      within = c.word_from-at.ensures.within;
      word = c.word_from-at.ensures.word;
      read = subst (λ (rest : List (List ℕ)). ReadsWords (words_of value) rest 0 (1 ∷ 1 ∷ 1 ∷ 1 ∷ []))
          (words_of-skip value 0 at (omega arith) c.word_from-at.ensures.within c.word_from-at.ensures.blank)
          (ReadsWords-none (words_of value) (1 ∷ 1 ∷ 1 ∷ 1 ∷ []));
    }

pub returns-in_err-size : goal.returns-in_err-size
returns-in_err-size c =
    let value = c.args.value.now in
    let at = c.loop-at.at in
    let e = c.word_end-end.ensures in
    let word = words_of-word value at c.word_end-end.result e.later e.within (c.loop-at.invariant.word c.loop-at-test.true) e.word e.blank in
    rw c.from_residual.ensures
    (sizes_from-wrong (words_of value) _ _ _ c.loop-at.count c.loop-at.places c.loop-at.invariant.read word c.in_err-size.ensures.value)

pub returns-then-count-eq4 : goal.returns-then-count-eq4
returns-then-count-eq4 c =
    let value = c.args.value.now in
    let at = c.loop-at.at in
    let e = c.word_end-end.ensures in
    let word = words_of-word value at c.word_end-end.result e.later e.within (c.loop-at.invariant.word c.loop-at-test.true) e.word e.blank in
    sizes_from-many (words_of value) _ _ _ c.loop-at.count c.loop-at.places c.loop-at.invariant.read word (omega arith)

pub loop-at-preserved : goal.loop-at-preserved
loop-at-preserved c =
    let value = c.args.value.now in
    let at = c.loop-at.at in
    let e = c.word_end-end.ensures in
    let n = c.word_from-at-in-loop-at.ensures in
    let count = c.loop-at.count in
    let size = c.in_ok-size.size in
    let more : count < 4 = omega (arith, c.loop-at.invariant.shape.few) in
    let word = words_of-word value at c.word_end-end.result e.later e.within (c.loop-at.invariant.word c.loop-at-test.true) e.word e.blank in
    let read =
    ReadsWords-more (words_of value) _ _ _ count size c.loop-at.places c.loop-at.invariant.read word
    (omega (arith, c.loop-at.invariant.shape.four, more)) c.in_ok-size.ensures.value in
    let skip = words_of-skip value c.word_end-end.result c.word_from-at-in-loop-at.result n.later n.within n.blank in
    record {
      shape = rw c.from.ensures (HasShape-set count size c.loop-at.places c.loop-at.invariant.shape more);
      sized = All-set (λ n. (1 ≤ n) × (n ≤ 4294967295)) c.loop-at.places c.from.result size c.in_ok-size.ensures.within c.loop-at.invariant.sized;
      within = n.within;
      word = n.word;
      read = rw c.from.ensures (subst (λ (rest : List (List ℕ)). ReadsWords (words_of value) rest (count + 1) (set c.loop-at.places count size)) skip read);
    }

pub returns-else-count-eq0 : goal.returns-else-count-eq0
returns-else-count-eq0 c =
    let value = c.args.value.now in
    let end = ap words_of (drop_all c.loop-at.at value (omega arith)) in
    sizes_from-all (words_of value) c.loop-at.count c.loop-at.places
    (subst (λ (rest : List (List ℕ)). ReadsWords (words_of value) rest c.loop-at.count c.loop-at.places) end c.loop-at.invariant.read)
    (omega arith) c.loop-at.invariant.shape.few
