-- The label of a cell, corner by corner.
use Rattle.std.proofs.Common.{◌≡◌, ℕ, ◌+◌, ◌^◌, ◌<◌, Bool, length, ap, sym, ◌∙◌}
use Rattle.std.specs.Prelude.{if◌then◌else◌}
use Rattle.iso_model.specs.Cells.{corner_count}
use Rattle.iso_model.specs.Splits.{corner}
use Rattle.iso_model.specs.Values.{Volume, positive_at, label_of}
use Rattle.lists.proofs.Powers.{powers_below, powers_more, powers_few}

pub label_few : (v : Volume) (cell : ℕ) → label_of v cell < 2 ^ corner_count v.kind (length v.sizes)
unfolding label_of
label_few v cell = powers_few (λ k. positive_at v (corner v.kind v.sizes cell k)) (corner_count v.kind (length v.sizes))

-- one corner more
pub next_label : (F : ℕ → Bool) (n label next : ℕ) (b : Bool) → label ≡ powers_below F n → b ≡ F n → next ≡ label + (if b then 2 ^ n else 0)
    → next ≡ powers_below F (n + 1)
next_label F n label next b label_is bit_is next_is =
    next_is ∙ ap (λ (s : ℕ). s + (if b then 2 ^ n else 0)) label_is ∙ ap (λ (c : Bool). powers_below F n + (if c then 2 ^ n else 0)) bit_is
    ∙ sym (powers_more F n)

pub whole_label : (v : Volume) (cell n label : ℕ) → n ≡ corner_count v.kind (length v.sizes)
    → label ≡ powers_below (λ k. positive_at v (corner v.kind v.sizes cell k)) n → label ≡ label_of v cell
unfolding label_of
whole_label v cell n label all is = is ∙ ap (powers_below (λ k. positive_at v (corner v.kind v.sizes cell k))) all
