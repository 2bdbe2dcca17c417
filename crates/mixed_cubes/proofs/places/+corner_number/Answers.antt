use Rattle.std.proofs.Common.{rules, ◌+◌, ◌*◌, ◌%◌, ◌≤◌, ◌≡◌, ℕ, length, ap, sym, ◌∙◌, arith}
use Rattle.std.specs.Prelude.{slice_index, List}
use Rattle.iso_model.specs.Values.{product}
use Rattle.mixed_cubes.proofs.AxisSteps.{rest, rest_is, Parts, parts_of, product_is, some_samples, corner_few, corner_number_of}
use Rattle.mixed_cubes.proofs.places.+corner_number.Goals as goal

pub corner_number-requires : goal.corner_number-requires
corner_number-requires t c =
    let p : Parts (slice_index c.args.sizes.now 0) (rest c.args.sizes.now) = parts_of c.args.sizes.now c.in-len1-up.len_at_least c.requires.sized in
    let long : length c.args.sizes.now ≡ length (rest c.args.sizes.now) + 1 =
    ap (λ (xs : List ℕ). length xs) (rest_is c.args.sizes.now c.in-len1-up.len_at_least) ∙ omega arith in (
      search rules,
      (
        p.sized,
        (omega (arith, p.below, p.whole, product_is c.args.sizes.now c.in-len1-up.len_at_least, c.requires.few), omega (arith, long, c.requires.axes)),
      ),
    )

-- the number of a corner is at most as many times all samples as there are axes
few : (sizes : List ℕ) (k m : ℕ) → (h : 1 ≤ length sizes) → Parts (slice_index sizes 0) (rest sizes) → m ≤ length (rest sizes) * product (rest sizes)
    → k % 2 + slice_index sizes 0 * m ≤ length sizes * product sizes
few sizes k m h p below =
    let long : length sizes ≡ length (rest sizes) + 1 = ap (λ (xs : List ℕ). length xs) (rest_is sizes h) ∙ omega arith in
    let most : k % 2 + slice_index sizes 0 * m ≤ (length (rest sizes) + 1) * (slice_index sizes 0 * product (rest sizes)) =
    corner_few (k % 2) (slice_index sizes 0) m (length (rest sizes)) (product (rest sizes)) (omega arith) p.some (some_samples (rest sizes) p.sized) below in
    rw (long, product_is sizes h) most

four : (k n m l p : ℕ) → k % 2 + n * m ≤ l * p → l ≤ 4 → p ≤ 134217728 → k % 2 + n * m ≤ 536870912
four k n m l p h a b = grind arith

pub overflow_mul-result : goal.overflow_mul-result
overflow_mul-result t c =
    let p : Parts (slice_index c.args.sizes.now 0) (rest c.args.sizes.now) = parts_of c.args.sizes.now c.in-len1-up.len_at_least c.requires.sized in
    omega (
      arith,
      four c.args.corner (slice_index c.args.sizes.now 0) c.corner_number.result (length c.args.sizes.now) (product c.args.sizes.now)
          (few c.args.sizes.now c.args.corner c.corner_number.result c.in-len1-up.len_at_least p c.corner_number.ensures.below) c.requires.axes
          c.requires.few,
    )

pub overflow_add-result : goal.overflow_add-result
overflow_add-result t c =
    let p : Parts (slice_index c.args.sizes.now 0) (rest c.args.sizes.now) = parts_of c.args.sizes.now c.in-len1-up.len_at_least c.requires.sized in
    omega (
      arith,
      four c.args.corner (slice_index c.args.sizes.now 0) c.corner_number.result (length c.args.sizes.now) (product c.args.sizes.now)
          (few c.args.sizes.now c.args.corner c.corner_number.result c.in-len1-up.len_at_least p c.corner_number.ensures.below) c.requires.axes
          c.requires.few,
    )

pub returns-in-len1-up-clause-number : goal.returns-in-len1-up-clause-number
returns-in-len1-up-clause-number t c =
    ap (λ (m : ℕ). c.args.corner % 2 + slice_index c.args.sizes.now 0 * m) c.corner_number.ensures.number
    ∙ sym (corner_number_of c.args.sizes.now c.args.corner c.in-len1-up.len_at_least)

pub returns-in-len1-up-clause-below : goal.returns-in-len1-up-clause-below
returns-in-len1-up-clause-below t c =
    let p : Parts (slice_index c.args.sizes.now 0) (rest c.args.sizes.now) = parts_of c.args.sizes.now c.in-len1-up.len_at_least c.requires.sized in
    few c.args.sizes.now c.args.corner c.corner_number.result c.in-len1-up.len_at_least p c.corner_number.ensures.below
