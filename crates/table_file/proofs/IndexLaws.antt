-- What the tests of labels and offsets decide.
use Rattle.std.specs.Prelude.{◌≡◌, ◌≢◌, ℕ, zero, suc, ◌+◌, ◌-◌, ◌*◌, true, ◌==◌, nat_lt, List}
use Rattle.std.specs.Int.{w32, w64}
use Rattle.std.proofs.Common.{refl, sym, ap, ◌∙◌, arith}
use Rattle.iso_formats.specs.TableFile2.{number_at, stated, label_at, offset_at, index_end, ascends_at, is_offset_right, has_room_for_body}

pub ascends_first : (bytes : List ℕ) (n : ℕ) → n ≡ 0 → ascends_at bytes n ≡ true
ascends_first bytes zero e = refl
ascends_first bytes (suc n) e = absurd (omega (arith, e))

pub ascends_later : (bytes : List ℕ) (n before label : ℕ) → n ≢ 0 → before ≡ number_at w32 bytes (20 + 12 * n - 12) → label ≡ label_at bytes n
    → ascends_at bytes n ≡ nat_lt before label
ascends_later bytes zero before label some b l = absurd (some refl)
ascends_later bytes (suc n) before label some b l =
    let place : 20 + 12 * suc n - 12 ≡ 20 + 12 * n = omega arith in
    let b_is : before ≡ label_at bytes n = b ∙ ap (λ p. number_at w32 bytes p) place in
    ap (λ x. nat_lt x (label_at bytes (suc n))) (sym b_is) ∙ ap (λ x. nat_lt before x) (sym l)

pub first_offset_test : (bytes : List ℕ) (d n offset end : ℕ) → n ≡ 0 → offset ≡ offset_at bytes n → end ≡ index_end (stated bytes)
    → is_offset_right bytes d n ≡ (offset == end)
first_offset_test bytes d zero offset end z o e =
    ap (λ x. x == index_end (stated bytes)) (sym o) ∙ ap (λ x. offset == x) (sym e)
first_offset_test bytes d (suc n) offset end z o e = absurd (omega (arith, z))

pub later_offset_test : (bytes : List ℕ) (d n before offset : ℕ) → n ≢ 0 → before ≡ number_at w64 bytes (24 + 12 * n - 12) → offset ≡ offset_at bytes n
    → is_offset_right bytes d n ≡ has_room_for_body d before offset
later_offset_test bytes d zero before offset some b o = absurd (some refl)
later_offset_test bytes d (suc n) before offset some b o =
    let place : 24 + 12 * suc n - 12 ≡ 24 + 12 * n = omega arith in
    let b_is : before ≡ offset_at bytes n = b ∙ ap (λ p. number_at w64 bytes p) place in
    ap (λ x. has_room_for_body d x (offset_at bytes (suc n))) (sym b_is) ∙ ap (λ x. has_room_for_body d before x) (sym o)
