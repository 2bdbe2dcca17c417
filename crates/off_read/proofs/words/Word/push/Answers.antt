use Rattle.std.proofs.Common.{ap, ◌≡◌}
use Rattle.off_read.specs.WordForms.{Known}
use Rattle.off_read.proofs.KnownWords.{pushed}
use Rattle.off_read.proofs.words.Word.push.Goals as goal

pub returns : goal.returns
returns c = λ text so.
    let w = c.args.self.now in
    let all : c.self.inside.all_digits ≡ w.all_digits = ap (λ (k : Known). k.all_digits) c.self.view_is in
    let some : c.self.inside.some_digit ≡ w.some_digit = ap (λ (k : Known). k.some_digit) c.self.view_is in
    let standing : c.self.inside.coordinate ≡ w.coordinate = ap (λ (k : Known). k.coordinate) c.self.view_is in
    let front : c.self.inside.front.items ≡ w.front = ap (λ (k : Known). k.front) c.self.view_is in
    let value : c.self.inside.value ≡ w.value = ap (λ (k : Known). k.value) c.self.view_is in
    let digit = c.is_ascii_digit-digit.ensures.value in
    let stands = c.may_stand.ensures in
    let pushed_front = c.push_front.ensures in
    let next = c.next_value-self-inside.ensures in
    pushed _ _ text c.args.byte (cc) (cc) (cc) (cc) (cc) so
