-- The bits of a label whose corners are exchanged in pairs.
use Rattle.std.specs.Prelude.{◌≡◌, ℕ, ◌+◌, ◌-◌, ◌*◌, ◌/◌, ◌%◌, ◌^◌, ◌<◌, ◌≤◌, min, max, Bool, true, false, not, ◌&&◌, ◌||◌, nat_lt, nat_le, cond}
use Rattle.std.specs.Prelude.{bit_and, bit_or}
use Rattle.std.specs.Int.{bit_at}
use Rattle.std.proofs.Common.{refl, sym, ap, ◌∙◌, subst, arith}
use Rattle.std.proofs.lemmas.Bool.{and_parts}
use Rattle.std.proofs.lemmas.Bool.Decides.{nat_tests}
use Rattle.std.proofs.lemmas.Nat.{shr-shr, shr_split, pow_pos, and_le_l}
use Rattle.std.proofs.lemmas.Nat.Bits.{bit_at_cat_low, bit_at_cat_high, bit_at-lt, bit_at-zero, bit_at_above, bit_at_and, bit_at_or, same_from_bits}
use Rattle.std.proofs.Math.Nat.{mod-eq_of_lt, mod-lt, mul-le-mul, pow-le-pow_right}
use Rattle.cube_moves.specs.declared.words.Exchange.{Exchange}
use Rattle.cube_moves.specs.Exchanges.{IsExchange, partner, is_free}
use Rattle.lists.specs.Bits.{is_set}
use Rattle.lists.proofs.Bits.{bit-set, bit-unset}

-- ---- bits of shifted numbers

pub shr-bit : (n s c : ℕ) → bit_at (n / 2 ^ s) c ≡ bit_at n (c + s)
shr-bit n s c =
    let e : s + c ≡ c + s = omega arith in
    ap (λ (q : ℕ). q % 2) (shr-shr n s c) ∙ ap (λ (k : ℕ). n / 2 ^ k % 2) e

shl-bit_low : (n s c : ℕ) → c < s → bit_at (n * 2 ^ s) c ≡ 0
shl-bit_low n s c h =
    let z : n * 2 ^ s ≡ n * 2 ^ s + 0 = omega arith in
    ap (λ (m : ℕ). bit_at m c) z ∙ bit_at_cat_low n s 0 c h ∙ bit_at-zero c

shl-bit_high : (n s c : ℕ) → s ≤ c → bit_at (n * 2 ^ s) c ≡ bit_at n (c - s)
shl-bit_high n s c h =
    let z : n * 2 ^ s ≡ n * 2 ^ s + 0 = omega arith in
    ap (λ (m : ℕ). bit_at m c) z ∙ bit_at_cat_high n s 0 c (pow_pos s) h

-- a number without bits from n on is below 2^n
pub small_from_bits : (n r : ℕ) → ((c : ℕ) → n ≤ c → bit_at r c ≡ 0) → r < 2 ^ n
small_from_bits n r none =
    let q : r / 2 ^ n ≡ 0 = same_from_bits (r / 2 ^ n) 0 (λ i. shr-bit r n i ∙ none (i + n) (omega arith) ∙ sym (bit_at-zero i)) in
    let e : r ≡ r % 2 ^ n = sym (shr_split r n) ∙ ap (λ (k : ℕ). k * 2 ^ n + r % 2 ^ n) q ∙ omega arith in
    subst (λ (k : ℕ). k < 2 ^ n) (sym e) (mod-lt r (pow_pos n))

-- ---- the word

abbrev pub exchanged_word : ℕ → Exchange → ℕ
exchanged_word w x = bit_or (bit_or (bit_and w x.kept) (bit_and w x.lower * 2 ^ x.shift % 4294967296)) (bit_and (w / 2 ^ x.shift) x.lower)

-- bit c of the part that is shifted up
abbrev raised : ℕ → Exchange → ℕ → ℕ
raised w x c = cond (nat_lt c x.shift) 0 (min (bit_at w (c - x.shift)) (bit_at x.lower (c - x.shift)))

whole : (w : ℕ) (x : Exchange) → w < 65536 → x.shift ≤ 16 → bit_and w x.lower * 2 ^ x.shift % 4294967296 ≡ bit_and w x.lower * 2 ^ x.shift
whole w x small near =
    let a : bit_and w x.lower ≤ 65535 = omega (arith, and_le_l w x.lower) in
    let p : 2 ^ x.shift ≤ 2 ^ 16 = pow-le-pow_right (omega arith) near in
    let m : bit_and w x.lower * 2 ^ x.shift ≤ 65535 * 2 ^ 16 = mul-le-mul a p in
    mod-eq_of_lt (omega arith)

raised-bit : (w : ℕ) (x : Exchange) (c : ℕ) → bit_at (bit_and w x.lower * 2 ^ x.shift) c ≡ raised w x c
raised-bit w x c = by_place (nat_lt c x.shift) refl
  where
    by_place : (t : Bool) → nat_lt c x.shift ≡ t → bit_at (bit_and w x.lower * 2 ^ x.shift) c
        ≡ cond t 0 (min (bit_at w (c - x.shift)) (bit_at x.lower (c - x.shift)))
    by_place true e = let h : c < x.shift = grind (arith, nat_tests) in shl-bit_low (bit_and w x.lower) x.shift c h
    by_place false e = let h : x.shift ≤ c = grind (arith, nat_tests) in shl-bit_high (bit_and w x.lower) x.shift c h ∙ bit_at_and w x.lower (c - x.shift)

pub word-bit : (w : ℕ) (x : Exchange) (c : ℕ) → w < 65536 → x.shift ≤ 16 →
    bit_at (exchanged_word w x) c ≡ max (max (min (bit_at w c) (bit_at x.kept c)) (raised w x c)) (min (bit_at w (c + x.shift)) (bit_at x.lower c))
word-bit w x c small near =
    let kept : ℕ = bit_and w x.kept in
    let up : ℕ = bit_and w x.lower * 2 ^ x.shift % 4294967296 in
    let down : ℕ = bit_and (w / 2 ^ x.shift) x.lower in
    bit_at_or (bit_or kept up) down c
    ∙ ap (λ (b : ℕ). max b (bit_at down c)) (bit_at_or kept up c)
    ∙ ap (λ (b : ℕ). max (max b (bit_at up c)) (bit_at down c)) (bit_at_and w x.kept c)
    ∙ ap (λ (b : ℕ). max (max (min (bit_at w c) (bit_at x.kept c)) b) (bit_at down c)) (ap (λ (n : ℕ). bit_at n c) (whole w x small near) ∙ raised-bit w x c)
    ∙ ap (λ (b : ℕ). max (max (min (bit_at w c) (bit_at x.kept c)) (raised w x c)) b)
    (bit_at_and (w / 2 ^ x.shift) x.lower c ∙ ap (λ (b : ℕ). min b (bit_at x.lower c)) (shr-bit w x.shift c))

-- ---- sets and their bits

free-raised : (w : ℕ) (x : Exchange) (c : ℕ) → is_free x c ≡ true → raised w x c ≡ 0
free-raised w x c free = by_place (nat_lt c x.shift) (is_set x.lower (c - x.shift)) refl free
  where
    by_place : (t u : Bool) → is_set x.lower (c - x.shift) ≡ u → (t || not u) ≡ true
        → cond t 0 (min (bit_at w (c - x.shift)) (bit_at x.lower (c - x.shift))) ≡ 0
    by_place true u e f = refl
    by_place false true e f = absurd (cc)
    by_place false false e f = let z = bit-unset x.lower (c - x.shift) e in omega arith

taken-raised : (w : ℕ) (x : Exchange) (c : ℕ) → x.shift ≤ c → is_set x.lower (c - x.shift) ≡ true → raised w x c ≡ bit_at w (c - x.shift)
taken-raised w x c up set =
    let o = bit-set x.lower (c - x.shift) set in
    let l = bit_at-lt w (c - x.shift) in
    let p : nat_lt c x.shift ≡ false = grind (arith, nat_tests) in
    ap (λ (t : Bool). cond t 0 (min (bit_at w (c - x.shift)) (bit_at x.lower (c - x.shift)))) p ∙ omega arith

-- ---- each corner has the sign of its partner

pub exchanged_signs : (d w : ℕ) (x : Exchange) → w < 65536 → IsExchange d x → (c : ℕ) → c < 2 ^ d → bit_at (exchanged_word w x) c ≡ bit_at w (partner x c)
exchanged_signs d w x small is c below =
    word-bit w x c small is.near ∙ by_set (is_set x.kept c) (is_set x.lower c) refl refl (is.each c below)
  where
    by_set : (k l : Bool) → is_set x.kept c ≡ k → is_set x.lower c ≡ l
        → cond k (not l && is_free x c) (cond l (nat_lt (c + x.shift) (2 ^ d) && is_free x c) (nat_le x.shift c && is_set x.lower (c - x.shift))) ≡ true
        → max (max (min (bit_at w c) (bit_at x.kept c)) (raised w x c)) (min (bit_at w (c + x.shift)) (bit_at x.lower c))
        ≡ bit_at w (cond k c (cond l (c + x.shift) (c - x.shift)))
    by_set true true e f g = absurd (cc)
    by_set true false e f g =
        let y = free-raised w x c g in
        let k = bit-set x.kept c e in
        let l = bit-unset x.lower c f in
        let s = bit_at-lt w c in
        omega arith
    by_set false true e f g =
        let y = free-raised w x c (and_parts (nat_lt (c + x.shift) (2 ^ d)) (is_free x c) g).1 in
        let k = bit-unset x.kept c e in
        let l = bit-set x.lower c f in
        let s = bit_at-lt w (c + x.shift) in
        omega arith
    by_set false false e f g =
        let p = and_parts (nat_le x.shift c) (is_set x.lower (c - x.shift)) g in
        let up : x.shift ≤ c = let t = p.0 in grind (arith, nat_tests) in
        let y = taken-raised w x c up p.1 in
        let k = bit-unset x.kept c e in
        let l = bit-unset x.lower c f in
        omega arith

-- and no bits stand above the corners
pub exchanged_below : (d w : ℕ) (x : Exchange) → w < 65536 → w < 2 ^ (2 ^ d) → IsExchange d x → exchanged_word w x < 2 ^ (2 ^ d)
exchanged_below d w x small in_label is =
    small_from_bits (2 ^ d) (exchanged_word w x)
    (λ c above.
    let a = bit_at_above w (2 ^ d) c in_label above in
    let b = bit_at_above w (2 ^ d) (c + x.shift) in_label (omega arith) in
    let y = raised_none c above in
    let e = word-bit w x c small is.near in
    omega arith)
  where
    no_lower : (c e : ℕ) → e + x.shift ≡ c → e < 2 ^ d → 2 ^ d ≤ c → bit_at x.lower e ≡ 0
    no_lower c e at below above = by_set (is_set x.kept e) (is_set x.lower e) refl (is.each e below)
      where
        by_set : (k l : Bool) → is_set x.lower e ≡ l
            → cond k (not l && is_free x e) (cond l (nat_lt (e + x.shift) (2 ^ d) && is_free x e) (nat_le x.shift e && is_set x.lower (e - x.shift))) ≡ true
            → bit_at x.lower e ≡ 0
        by_set true true f g = absurd (cc)
        by_set false true f g =
            let p = (and_parts (nat_lt (e + x.shift) (2 ^ d)) (is_free x e) g).0 in
            let q : e + x.shift < 2 ^ d = grind (arith, nat_tests) in
            absurd (omega arith)
        by_set k false f g = bit-unset x.lower e f

    raised_none : (c : ℕ) → 2 ^ d ≤ c → raised w x c ≡ 0
    raised_none c above = by_place (nat_lt c x.shift) (nat_lt (c - x.shift) (2 ^ d)) refl refl
      where
        by_place : (t u : Bool) → nat_lt c x.shift ≡ t → nat_lt (c - x.shift) (2 ^ d) ≡ u
            → cond t 0 (min (bit_at w (c - x.shift)) (bit_at x.lower (c - x.shift))) ≡ 0
        by_place true u e f = refl
        by_place false true e f =
            let up : x.shift ≤ c = grind (arith, nat_tests) in
            let k : c - x.shift < 2 ^ d = grind (arith, nat_tests) in
            let z = no_lower c (c - x.shift) (omega arith) k above in
            omega arith
        by_place false false e f =
            let k : 2 ^ d ≤ c - x.shift = grind (arith, nat_tests) in
            let z = bit_at_above w (2 ^ d) (c - x.shift) in_label k in
            omega arith
