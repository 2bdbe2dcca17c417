use Rattle.std.proofs.Common.{◌≡◌, arith, sym, ap, ◌∙◌, rules, true, false}
use Rattle.iso_formats.specs.GridFile.{Header}
use Rattle.nrrd_raw.proofs.SampleLaws.{samples_spelled, left_four, spells-signed_8, spells-unsigned_8, spells-signed_16_big, spells-signed_16_little}
use Rattle.nrrd_raw.proofs.SampleLaws.{spells-unsigned_16_big, spells-unsigned_16_little, spells-signed_32_big, spells-signed_32_little}
use Rattle.nrrd_raw.proofs.SampleLaws.{spells-unsigned_32_big, spells-unsigned_32_little}
use Rattle.nrrd_raw.proofs.samples.decode.write_samples.Goals as goal

pub returns-in-1-true-clause-values : goal.returns-in-1-true-clause-values
returns-in-1-true-clause-values c =
    let h = c.args.header.now in
    let w : h.width ≡ 1 = sym (ap (λ (k : Header). k.width) c.header.view_is) ∙ c.in-1-true.is-0 in
    let s : h.signed ≡ true = sym (ap (λ (k : Header). k.signed) c.header.view_is) ∙ c.in-1-true.is-1 in
    samples_spelled h _ 1 _ _ _ w (search rules) (rw w at c.requires.whole) (λ k. let f = c.type_inv.piece k in omega arith) (spells-signed_8 h w s)
    c.write_as.ensures.values

pub returns-in-1-false-clause-values : goal.returns-in-1-false-clause-values
returns-in-1-false-clause-values c =
    let h = c.args.header.now in
    let w : h.width ≡ 1 = sym (ap (λ (k : Header). k.width) c.header.view_is) ∙ c.in-1-false.is-0 in
    let s : h.signed ≡ false = sym (ap (λ (k : Header). k.signed) c.header.view_is) ∙ c.in-1-false.is-1 in
    samples_spelled h _ 1 _ _ _ w (search rules) (rw w at c.requires.whole) (λ k. let f = c.type_inv.piece k in omega arith) (spells-unsigned_8 h s)
    c.write_as-in-1-false.ensures.values

pub returns-in-2-true-clause-values : goal.returns-in-2-true-clause-values
returns-in-2-true-clause-values c =
    let h = c.args.header.now in
    let w : h.width ≡ 2 = sym (ap (λ (k : Header). k.width) c.header.view_is) ∙ c.in-2-true.is-0 in
    let s : h.signed ≡ true = sym (ap (λ (k : Header). k.signed) c.header.view_is) ∙ c.in-2-true.is-1 in
    let o : h.big ≡ true = sym (ap (λ (k : Header). k.big) c.header.view_is) ∙ c.if-header-2.true in
    samples_spelled h _ 2 _ _ _ w (search rules) (rw w at c.requires.whole) (λ k. let f = c.type_inv.piece k in omega arith)
    (spells-signed_16_big h w s o) c.write_as-in-2-true.ensures.values

pub returns-in-2-true-2-clause-values : goal.returns-in-2-true-2-clause-values
returns-in-2-true-2-clause-values c =
    let h = c.args.header.now in
    let w : h.width ≡ 2 = sym (ap (λ (k : Header). k.width) c.header.view_is) ∙ c.in-2-true.is-0 in
    let s : h.signed ≡ true = sym (ap (λ (k : Header). k.signed) c.header.view_is) ∙ c.in-2-true.is-1 in
    let o : h.big ≡ false = sym (ap (λ (k : Header). k.big) c.header.view_is) ∙ c.if-header-2.false in
    samples_spelled h _ 2 _ _ _ w (search rules) (rw w at c.requires.whole) (λ k. let f = c.type_inv.piece k in omega arith)
    (spells-signed_16_little h w s o) c.write_as-in-2-true-2.ensures.values

pub returns-in-2-false-clause-values : goal.returns-in-2-false-clause-values
returns-in-2-false-clause-values c =
    let h = c.args.header.now in
    let w : h.width ≡ 2 = sym (ap (λ (k : Header). k.width) c.header.view_is) ∙ c.in-2-false.is-0 in
    let s : h.signed ≡ false = sym (ap (λ (k : Header). k.signed) c.header.view_is) ∙ c.in-2-false.is-1 in
    let o : h.big ≡ true = sym (ap (λ (k : Header). k.big) c.header.view_is) ∙ c.if-header-3.true in
    samples_spelled h _ 2 _ _ _ w (search rules) (rw w at c.requires.whole) (λ k. let f = c.type_inv.piece k in omega arith)
    (spells-unsigned_16_big h s o) c.write_as-in-2-false.ensures.values

pub returns-in-2-false-2-clause-values : goal.returns-in-2-false-2-clause-values
returns-in-2-false-2-clause-values c =
    let h = c.args.header.now in
    let w : h.width ≡ 2 = sym (ap (λ (k : Header). k.width) c.header.view_is) ∙ c.in-2-false.is-0 in
    let s : h.signed ≡ false = sym (ap (λ (k : Header). k.signed) c.header.view_is) ∙ c.in-2-false.is-1 in
    let o : h.big ≡ false = sym (ap (λ (k : Header). k.big) c.header.view_is) ∙ c.if-header-3.false in
    samples_spelled h _ 2 _ _ _ w (search rules) (rw w at c.requires.whole) (λ k. let f = c.type_inv.piece k in omega arith)
    (spells-unsigned_16_little h s o) c.write_as-in-2-false-2.ensures.values

pub returns-in_default-true-clause-values : goal.returns-in_default-true-clause-values
returns-in_default-true-clause-values c =
    let h = c.args.header.now in
    let e : c.header.inside.width ≡ h.width = ap (λ (k : Header). k.width) c.header.view_is in
    let w : h.width ≡ 4 = left_four h.width c.requires.regular.wide (λ q. c.in_default-true.is-0.0.1 (e ∙ q)) (λ q. c.in_default-true.is-0.1 (e ∙ q)) in
    let s : h.signed ≡ true = sym (ap (λ (k : Header). k.signed) c.header.view_is) ∙ c.in_default-true.is-1 in
    let o : h.big ≡ true = sym (ap (λ (k : Header). k.big) c.header.view_is) ∙ c.if-header-4.true in
    samples_spelled h _ 4 _ _ _ w (search rules) (rw w at c.requires.whole) (λ k. let f = c.type_inv.piece k in omega arith)
    (spells-signed_32_big h w s o) c.write_as-in_default-true.ensures.values

pub returns-in_default-true-2-clause-values : goal.returns-in_default-true-2-clause-values
returns-in_default-true-2-clause-values c =
    let h = c.args.header.now in
    let e : c.header.inside.width ≡ h.width = ap (λ (k : Header). k.width) c.header.view_is in
    let w : h.width ≡ 4 = left_four h.width c.requires.regular.wide (λ q. c.in_default-true.is-0.0.1 (e ∙ q)) (λ q. c.in_default-true.is-0.1 (e ∙ q)) in
    let s : h.signed ≡ true = sym (ap (λ (k : Header). k.signed) c.header.view_is) ∙ c.in_default-true.is-1 in
    let o : h.big ≡ false = sym (ap (λ (k : Header). k.big) c.header.view_is) ∙ c.if-header-4.false in
    samples_spelled h _ 4 _ _ _ w (search rules) (rw w at c.requires.whole) (λ k. let f = c.type_inv.piece k in omega arith)
    (spells-signed_32_little h w s o) c.write_as-in_default-true-2.ensures.values

pub returns-in_default-false-clause-values : goal.returns-in_default-false-clause-values
returns-in_default-false-clause-values c =
    let h = c.args.header.now in
    let e : c.header.inside.width ≡ h.width = ap (λ (k : Header). k.width) c.header.view_is in
    let w : h.width ≡ 4 = left_four h.width c.requires.regular.wide (λ q. c.in_default-false.is-0.0.1 (e ∙ q)) (λ q. c.in_default-false.is-0.1 (e ∙ q)) in
    let s : h.signed ≡ false = sym (ap (λ (k : Header). k.signed) c.header.view_is) ∙ c.in_default-false.is-1 in
    let o : h.big ≡ true = sym (ap (λ (k : Header). k.big) c.header.view_is) ∙ c.if-header-5.true in
    samples_spelled h _ 4 _ _ _ w (search rules) (rw w at c.requires.whole) (λ k. let f = c.type_inv.piece k in omega arith)
    (spells-unsigned_32_big h s o) c.write_as-in_default-false.ensures.values

pub returns-in_default-false-2-clause-values : goal.returns-in_default-false-2-clause-values
returns-in_default-false-2-clause-values c =
    let h = c.args.header.now in
    let e : c.header.inside.width ≡ h.width = ap (λ (k : Header). k.width) c.header.view_is in
    let w : h.width ≡ 4 = left_four h.width c.requires.regular.wide (λ q. c.in_default-false.is-0.0.1 (e ∙ q)) (λ q. c.in_default-false.is-0.1 (e ∙ q)) in
    let s : h.signed ≡ false = sym (ap (λ (k : Header). k.signed) c.header.view_is) ∙ c.in_default-false.is-1 in
    let o : h.big ≡ false = sym (ap (λ (k : Header). k.big) c.header.view_is) ∙ c.if-header-5.false in
    samples_spelled h _ 4 _ _ _ w (search rules) (rw w at c.requires.whole) (λ k. let f = c.type_inv.piece k in omega arith)
    (spells-unsigned_32_little h s o) c.write_as-in_default-false-2.ensures.values
