-- The set of a number, without looking into it.
use Rattle.std.specs.Prelude.{◌≡◌, ◌<◌, ◌*◌, ◌%◌, ◌^◌, ◌==◌, ℕ, [], length, bit_and}
use Rattle.std.specs.Int.{bit_at, trailing_zeros, w64}
use Rattle.std.proofs.Common.{refl, sym, ◌∙◌}
use Rattle.std.proofs.lemmas.Nat.Bits.{bit_at-trailing_zeros}
use Rattle.std.proofs.Math.Pow.{pow-lt}
use Rattle.lists.specs.Orders.{has}
use Rattle.iso_model.specs.Hulls.{meet, first_vertex, LiesWithin}
use Rattle.pulling_tri.specs.PointSets.{point_set}
use Rattle.pulling_tri.proofs.ChainLaws.{Ascends}
use Rattle.pulling_tri.proofs.SetBits.{has_is, set_of_meet, same_number, within_number, number_within, set_ascends, first_is_lowest, power_is_point}
use Rattle.pulling_tri.proofs.SetBits.{point_is_power}
use Rattle.lists.proofs.Bits.{shifted_one}

pub points-has : (n i : ℕ) → i < 64 → has (point_set n) i ≡ (bit_at n i == 1)
unfolding point_set
points-has n i h = has_is n i h

pub points-meet : (a b : ℕ) → point_set (bit_and a b) ≡ meet (point_set a) (point_set b)
unfolding point_set
points-meet a b = set_of_meet a b

pub points-same : (a b : ℕ) → a < 2 ^ 64 → b < 2 ^ 64 → point_set a ≡ point_set b → a ≡ b
unfolding point_set
points-same a b h k e = same_number a b h k e

pub points-within : (a b : ℕ) → bit_and a b ≡ a → LiesWithin (point_set a) (point_set b)
unfolding point_set
points-within a b e = within_number a b e

pub within-points : (a b : ℕ) → a < 2 ^ 64 → LiesWithin (point_set a) (point_set b) → bit_and a b ≡ a
unfolding point_set
within-points a b h e = number_within a b h e

pub points-ascend : (n : ℕ) → Ascends (point_set n)
unfolding point_set
points-ascend n = set_ascends n

pub points-none : point_set 0 ≡ []
unfolding point_set
points-none = refl

pub points-first : (n : ℕ) → 0 < n → n < 2 ^ 64 → trailing_zeros w64 n ≡ first_vertex (point_set n)
unfolding point_set
points-first n h k = first_is_lowest n h k

pub shift-point : (n : ℕ) → 0 < n → n < 2 ^ 64 → n ≡ 1 * 2 ^ trailing_zeros w64 n % 2 ^ 64 → length (point_set n) ≡ 1
unfolding point_set
shift-point n h k e = power_is_point n h k (e ∙ shifted_one (trailing_zeros w64 n) (bit_at-trailing_zeros w64 n h k).0)

pub point-shift : (n : ℕ) → 0 < n → n < 2 ^ 64 → length (point_set n) ≡ 1 → n ≡ 1 * 2 ^ trailing_zeros w64 n % 2 ^ 64
unfolding point_set
point-shift n h k l =
    let t = (bit_at-trailing_zeros w64 n h k).0 in
    point_is_power n h k (pow-lt t) l ∙ sym (shifted_one (trailing_zeros w64 n) t)
