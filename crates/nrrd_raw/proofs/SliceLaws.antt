-- Slices of the last axis.
use Rattle.std.proofs.Common.{◌≡◌, ℕ, zero, suc, ◌+◌, ◌-◌, ◌*◌, ◌/◌, ◌<◌, ◌≤◌, List, [], ◌∷◌, ◌++◌, length, take, drop, get_or, true, refl, sym, ap, ◌∙◌, arith}
use Rattle.std.proofs.Math.Nat.{mul-le-mul_right, mul-div_cancel}
use Rattle.std.proofs.lemmas.List.{take-append-drop, drop_more, drop_all}
use Rattle.std.proofs.lemmas.List.Sums.{fold-append}
use Rattle.std.specs.Prelude.{◌==◌, if◌then◌else◌}
use Rattle.std.proofs.lemmas.Bool.Decides.{nat_tests}
use Rattle.iso_model.specs.Values.{product}
use Rattle.nrrd_raw.specs.Slices.{SliceReader, slice_count, slice_length, step_length}

-- the product of the sizes is that of all but the last one, times the last one
pub product-last : (sizes : List ℕ) → 1 ≤ length sizes → product sizes ≡ product (take (length sizes - 1) sizes) * get_or sizes (length sizes - 1) 0
product-last sizes some =
    let n = length sizes - 1 in
    let next : n + 1 ≡ length sizes = omega (arith, some) in
    let last : drop n sizes ≡ get_or sizes n 0 ∷ [] =
    drop_more sizes n 0 (omega (arith, next)) ∙ ap (λ xs. get_or sizes n 0 ∷ xs) (drop_all (n + 1) sizes (omega (arith, next))) in
    ap product (sym (take-append-drop n sizes)) ∙ ap (λ xs. product (take n sizes ++ xs)) last
    ∙ fold-append ◌*◌ 1 (take n sizes) (get_or sizes n 0 ∷ [])

pub slice-size : (sizes : List ℕ) → 1 ≤ length sizes → 1 ≤ get_or sizes (length sizes - 1) 0
    → product sizes / get_or sizes (length sizes - 1) 0 ≡ product (take (length sizes - 1) sizes)
slice-size sizes some last =
    ap (λ n. n / get_or sizes (length sizes - 1) 0) (product-last sizes some)
    ∙ mul-div_cancel (product (take (length sizes - 1) sizes)) (omega (arith, last))

-- ---- a step

same_test : (m n : ℕ) → m ≡ n → (m == n) ≡ true
same_test m n e = grind (arith, nat_tests)

-- behind the last slice a step takes one byte at most
pub step-end : (r : SliceReader) → r.given ≡ slice_count r.header → step_length r ≡ 1
step-end r e = ap (λ b. if b then 1 else slice_length r.header) (same_test r.given (slice_count r.header) e)
