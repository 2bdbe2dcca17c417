use Rattle.std.proofs.Common.{ap, sym, refl, ◌≡◌, ◌∙◌}
use Rattle.std.specs.Prelude.{◌+◌, ◌-◌, not, take, drop}
use Rattle.off_read.specs.declared.reader.Place.TheVariants.{LineStart, OnLine, Passing}
use Rattle.off_read.specs.ScanForms.{Scan}
use Rattle.off_read.proofs.SeeLaws.{sees_feed, sees_hash, sees_gap, sees_passing, sees_byte, sees_at}
use Rattle.off_read.proofs.SeeLaws.{is_passing_place, no_passing_place, unequal, unequal_turned, word_byte}
use Rattle.off_read.proofs.reader.Reader.see.Goals as goal

pub returns-then-byte-eq10-clause-seen : goal.returns-then-byte-eq10-clause-seen
returns-then-byte-eq10-clause-seen c = λ text so i.
    let s = c.args.self.now in
    let r = c.self.inside in
    let new : Scan = record { left = take (r.end - r.start) (drop r.start r.piece); taken = r.taken; ended = c.self.inside.ended + 1; place = LineStart } in
    let ended : c.self.inside.ended + 1 ≡ s.ended + 1 = ap (λ (s : Scan). s.ended + 1) c.self.view_is in
    sees_at s new c.args.word.now text _ _ _ _ c.if-byte-eq10.true (ap not (c.is_empty.ensures text so)) (sees_feed s new c.args.word.now text so i ended refl)

pub returns-then-is_passing-clause-seen : goal.returns-then-is_passing-clause-seen
returns-then-is_passing-clause-seen c = λ text so i.
    let s = c.args.self.now in
    let p = is_passing_place s.place (sym c.is_passing.ensures ∙ c.if-is_passing.true) in
    sees_passing s s c.args.word.now text c.args.byte so i refl p p (unequal c.args.byte 10 c.if-byte-eq10.false)

pub returns-then-byte-eq35-clause-seen : goal.returns-then-byte-eq35-clause-seen
returns-then-byte-eq35-clause-seen c = λ text so i.
    let s = c.args.self.now in
    let r = c.self.inside in
    let new : Scan = record { left = take (r.end - r.start) (drop r.start r.piece); taken = r.taken; ended = c.self.inside.ended; place = Passing } in
    let ended : c.self.inside.ended ≡ s.ended = ap (λ (s : Scan). s.ended) c.self.view_is in
    let p = no_passing_place s.place (sym c.is_passing.ensures ∙ c.if-is_passing.false) in
    sees_at s new c.args.word.now text _ _ _ _ c.if-byte-eq35.true (ap not (c.is_empty-then-byte-eq35.ensures text so))
    (sees_hash s new c.args.word.now text so i ended p refl)

pub returns-then-is_gap-clause-seen : goal.returns-then-is_gap-clause-seen
returns-then-is_gap-clause-seen c = λ text so i.
    let s = c.args.self.now in
    let r = c.self.inside in
    let new : Scan = record { left = take (r.end - r.start) (drop r.start r.piece); taken = r.taken; ended = c.self.inside.ended; place = OnLine } in
    let ended : c.self.inside.ended ≡ s.ended = ap (λ (s : Scan). s.ended) c.self.view_is in
    let p = no_passing_place s.place (sym c.is_passing.ensures ∙ c.if-is_passing.false) in
    sees_at s new c.args.word.now text _ _ _ _ refl (ap not (c.is_empty-then-is_gap.ensures text so))
    (sees_gap s new c.args.word.now text c.args.byte so i ended p refl (sym c.is_gap.ensures ∙ c.if-is_gap.true)
    (unequal_turned c.args.byte 35 c.if-byte-eq35.false) (unequal c.args.byte 10 c.if-byte-eq10.false))

pub returns-clause-seen : goal.returns-clause-seen
returns-clause-seen c = λ text so i.
    let s = c.args.self.now in
    let r = c.self.inside in
    let new : Scan = record { left = take (r.end - r.start) (drop r.start r.piece); taken = r.taken; ended = c.self.inside.ended; place = OnLine } in
    let ended : c.self.inside.ended ≡ s.ended = ap (λ (s : Scan). s.ended) c.self.view_is in
    let p = no_passing_place s.place (sym c.is_passing.ensures ∙ c.if-is_passing.false) in
    sees_byte s new c.args.word.now c.push.new.self text c.args.byte (c.push.ensures text so) i ended p refl
    (word_byte c.args.byte (sym c.is_gap.ensures ∙ c.if-is_gap.false) c.if-byte-eq10.false c.if-byte-eq35.false)
