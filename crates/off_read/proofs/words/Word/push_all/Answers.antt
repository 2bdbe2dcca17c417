use Rattle.std.proofs.Common.{ap, append-nil, rules, subst, sym, take_all, ◌∙◌, ◌≤◌, length}
use Rattle.std.specs.Prelude.{◌≡◌, ◌+◌, slice_index, take, List, ℕ, [], ◌++◌, ◌∷◌}
use Rattle.std.proofs.lemmas.List.{append_assoc, take_more}
use Rattle.off_read.specs.WordForms.{IsSoFar}
use Rattle.off_read.proofs.words.Word.push_all.Goals as goal

pub loop-byte-init : goal.loop-byte-init
loop-byte-init c = λ text so. subst (IsSoFar c.args.self.now) (sym (append-nil text)) so

pub loop-byte-preserved : goal.loop-byte-preserved
loop-byte-preserved c = λ text so.
    let bs = c.args.bytes.now in
    let i = c.loop-byte.byte-index in
    let more : take i bs ++ slice_index bs i ∷ [] ≡ take (i + 1) bs = sym (take_more bs i 0 c.loop-byte-test.true) in
    subst (IsSoFar c.push.new.self) (append_assoc text (take i bs) (slice_index bs i ∷ []) ∙ ap (λ (l : List ℕ). text ++ l) more)
    (c.push.ensures (text ++ take i bs) (c.loop-byte.invariant text so))

pub returns : goal.returns
returns c = λ text so.
    let bs = c.args.bytes.now in
    let past : length bs ≤ c.loop-byte.byte-index = search rules in
    subst (λ (l : List ℕ). IsSoFar c.loop-byte.self (text ++ l)) (take_all c.loop-byte.byte-index bs past) (c.loop-byte.invariant text so)
