-- Where the rows of edges of a plane stand in a grid, and which row comes after which.
use Rattle.std.proofs.Common.{ap, arith, inl, inr, refl, sym, ◌∙◌}
use Rattle.std.proofs.Math.Nat.{div-add-mod, mod-eq_of_lt, zero-mod, zero-div}
use Rattle.std.proofs.lemmas.Bool.{cases_lt}
use Rattle.std.proofs.lemmas.Nat.{div-mul-add, mod-mul-add, same_from_place}
use Rattle.std.specs.Prelude.{All, List, [], ◌∷◌, drop, length, suc, zero, ℕ, if◌then◌else◌, nat_lt, true, false}
use Rattle.std.specs.Prelude.{◌%◌, ◌*◌, ◌+◌, ◌-◌, ◌/◌, ◌<◌, ◌≤◌, ◌≡◌, ◌⊎◌}
use Rattle.lists.proofs.Tests.{of_lt, not_below}
use Rattle.grid_rows.specs.declared.grids.GridRows.{GridRows}
use Rattle.grid_rows.specs.declared.grids.MiddleAxis.{MiddleAxis}
use Rattle.grid_rows.specs.MiddleAxes.{edge_span}
use Rattle.grid_rows.specs.RowNumbers.{edge_rows}
use Rattle.edge_middles.specs.RowCounts.{next_row}
use Rattle.edge_middles.specs.RowLists.{row_at, rows_at}
use Rattle.edge_middles.proofs.PointsThere.{along_axis}
use Rattle.layer_scan.specs.GridPlanes.{AreRowsOf, after_first}

-- row n of a plane at a height, by where it stands along the middle axes
pub row_stands : (rows : GridRows) (sizes : List ℕ) (height n : ℕ) → 2 ≤ length sizes → length sizes ≤ 4 → AreRowsOf sizes rows → n < edge_rows rows
    → row_at (drop 1 sizes) height n ≡ after_first (length sizes) (2 * (n % edge_span rows.second)) (2 * (n / edge_span rows.second)) height
row_stands rows [] height n few most is h = absurd (omega (arith, few))
row_stands rows (a ∷ []) height n few most is h = absurd (omega (arith, few))
row_stands rows (a ∷ b ∷ []) height n few most is h = refl
row_stands rows (a ∷ b ∷ c ∷ []) height n few most is h =
    let second : rows.second.samples ≡ b = ap (λ (m : MiddleAxis). m.samples) is.second in
    ap (λ m. 2 * (n % (2 * m - 1)) ∷ height ∷ []) (sym second)
row_stands rows (a ∷ b ∷ c ∷ d ∷ []) height n few most is h =
    let second : rows.second.samples ≡ b = ap (λ (m : MiddleAxis). m.samples) is.second in
    let third : rows.third.samples ≡ c = ap (λ (m : MiddleAxis). m.samples) is.third in
    let along = along_axis (edge_span rows.second) (edge_span rows.third) n h in
    ap (λ m. 2 * (n % (2 * m - 1)) ∷ 2 * (n / (2 * m - 1) % (2 * c - 1)) ∷ height ∷ []) (sym second)
    ∙ ap (λ m. 2 * (n % edge_span rows.second) ∷ 2 * (n / edge_span rows.second % (2 * m - 1)) ∷ height ∷ []) (sym third)
    ∙ ap (λ k. 2 * (n % edge_span rows.second) ∷ 2 * k ∷ height ∷ []) (mod-eq_of_lt along.1)
row_stands rows (a ∷ b ∷ c ∷ d ∷ e ∷ more) height n few most is h = absurd (omega (arith, most))

-- a plane has as many rows as there are at a height
pub rows_there : (rows : GridRows) (sizes : List ℕ) → 2 ≤ length sizes → length sizes ≤ 4 → AreRowsOf sizes rows → rows_at (drop 1 sizes) ≡ edge_rows rows
rows_there rows [] few most is = absurd (omega (arith, few))
rows_there rows (a ∷ []) few most is = absurd (omega (arith, few))
rows_there rows (a ∷ b ∷ []) few most is =
    sym (ap (λ (m : MiddleAxis). edge_span m * edge_span rows.third) is.second ∙ ap (λ (m : MiddleAxis). 1 * edge_span m) is.third)
rows_there rows (a ∷ b ∷ c ∷ []) few most is =
    sym (ap (λ (m : MiddleAxis). edge_span m * edge_span rows.third) is.second ∙ ap (λ (m : MiddleAxis). (2 * b - 1) * edge_span m) is.third)
rows_there rows (a ∷ b ∷ c ∷ d ∷ []) few most is =
    let one : (2 * c - 1) * 1 ≡ 2 * c - 1 = omega arith in
    ap (λ k. (2 * b - 1) * k) one
    ∙ sym (ap (λ (m : MiddleAxis). edge_span m * edge_span rows.third) is.second ∙ ap (λ (m : MiddleAxis). (2 * b - 1) * edge_span m) is.third)
rows_there rows (a ∷ b ∷ c ∷ d ∷ e ∷ more) few most is = absurd (omega (arith, most))

-- ---- the row after a row

-- a place and the next one, in rows of so many
pub next_in_row : (n w : ℕ) → n % w + 1 < w → ((n + 1) / w ≡ n / w) × ((n + 1) % w ≡ n % w + 1)
next_in_row n w h =
    let apart : n + 1 ≡ n / w * w + (n % w + 1) = omega (arith, div-add-mod n w) in
    (ap (λ k. k / w) apart ∙ div-mul-add (n / w) w (n % w + 1) h, ap (λ k. k % w) apart ∙ mod-mul-add (n / w) w (n % w + 1) h)

pub next_after_row : (n w : ℕ) → n % w + 1 ≡ w → ((n + 1) / w ≡ n / w + 1) × ((n + 1) % w ≡ 0)
next_after_row n w h =
    let some : 0 < w = omega (arith, h) in
    let apart : n + 1 ≡ (n / w + 1) * w + 0 = omega (arith, div-add-mod n w, h) in
    (ap (λ k. k / w) apart ∙ div-mul-add (n / w + 1) w 0 some, ap (λ k. k % w) apart ∙ mod-mul-add (n / w + 1) w 0 some)

-- a coordinate of a row has room for the next one, two further, where the place is not the last
room_after : (n r : ℕ) → r + 1 < 2 * n - 1 → nat_lt (2 * r + 2) (4 * n - 3) ≡ true
room_after n r h = of_lt (2 * r + 2) (4 * n - 3) (omega (arith, h))

no_room : (n r : ℕ) → r + 1 ≡ 2 * n - 1 → nat_lt (2 * r + 2) (4 * n - 3) ≡ false
no_room n r h = not_below (2 * r + 2) (4 * n - 3) (omega (arith, h))

pub row_next : (sizes : List ℕ) (height n : ℕ) → 1 ≤ length sizes → All (λ m. 1 ≤ m) sizes → n + 1 < rows_at sizes
    → next_row sizes (row_at sizes height n) ≡ row_at sizes height (n + 1)
row_next [] height n some sized h = absurd (omega (arith, some))
row_next (a ∷ []) height n some sized h = absurd (omega (arith, h))
row_next (a ∷ b ∷ sizes) height n some sized h =
    by_place (row_next (b ∷ sizes) height (n / w) (omega arith) (λ k d lt. sized (suc k) d (omega (arith, lt)))) (cases_lt (n % w + 1) w)
  where
    w : ℕ
    w = 2 * a - 1

    positive : 1 ≤ w
    positive = let first : 1 ≤ a = sized 0 0 (omega arith) in omega (arith, first)

    by_place : (n / w + 1 < rows_at (b ∷ sizes) → next_row (b ∷ sizes) (row_at (b ∷ sizes) height (n / w)) ≡ row_at (b ∷ sizes) height (n / w + 1))
        → (n % w + 1 < w) ⊎ (w ≤ n % w + 1) → next_row (a ∷ b ∷ sizes) (row_at (a ∷ b ∷ sizes) height n) ≡ row_at (a ∷ b ∷ sizes) height (n + 1)
    by_place rest (inl within) =
        let next = next_in_row n w within in
        let twice : 2 * (n % w) + 2 ≡ 2 * (n % w + 1) = omega arith in
        ap (λ t. if t then (2 * (n % w) + 2) ∷ row_at (b ∷ sizes) height (n / w) else 0 ∷ next_row (b ∷ sizes) (row_at (b ∷ sizes) height (n / w)))
        (room_after a (n % w) within)
        ∙ ap (λ c. c ∷ row_at (b ∷ sizes) height (n / w)) twice
        ∙ ap (λ r. 2 * r ∷ row_at (b ∷ sizes) height (n / w)) (sym next.1)
        ∙ ap (λ q. 2 * ((n + 1) % w) ∷ row_at (b ∷ sizes) height q) (sym next.0)
    by_place rest (inr past) =
        let along = along_axis w (rows_at (b ∷ sizes)) n (omega (arith, h)) in
        let full : n % w + 1 ≡ w = omega (arith, along.0, past) in
        let next = next_after_row n w full in
        let further : n / w + 1 < rows_at (b ∷ sizes) = within_rows full in
        ap (λ t. if t then (2 * (n % w) + 2) ∷ row_at (b ∷ sizes) height (n / w) else 0 ∷ next_row (b ∷ sizes) (row_at (b ∷ sizes) height (n / w)))
        (no_room a (n % w) full)
        ∙ ap (λ r. 0 ∷ r) (rest further)
        ∙ ap (λ r. 2 * r ∷ row_at (b ∷ sizes) height (n / w + 1)) (sym next.1)
        ∙ ap (λ q. 2 * ((n + 1) % w) ∷ row_at (b ∷ sizes) height q) (sym next.0)
      where
        within_rows : n % w + 1 ≡ w → n / w + 1 < rows_at (b ∷ sizes)
        within_rows full =
            let next = next_after_row n w full in
            let along = along_axis w (rows_at (b ∷ sizes)) (n + 1) h in
            omega (arith, next.0, along.1)

pub row_end : (sizes : List ℕ) (height n : ℕ) → 1 ≤ length sizes → All (λ m. 1 ≤ m) sizes → n + 1 ≡ rows_at sizes
    → next_row sizes (row_at sizes height n) ≡ row_at sizes (height + 1) 0
row_end [] height n some sized h = absurd (omega (arith, some))
row_end (a ∷ []) height n some sized h = refl
row_end (a ∷ b ∷ sizes) height n some sized h =
    let w : ℕ = 2 * a - 1 in
    let first : 1 ≤ a = sized 0 0 (omega arith) in
    let along = along_axis w (rows_at (b ∷ sizes)) n (omega (arith, h)) in
    let turned : n / w * w + (n % w + 1) ≡ rows_at (b ∷ sizes) * w = omega (arith, h, div-add-mod n w) in
    let full : n % w + 1 ≡ w = last_place (n / w) (n % w + 1) (rows_at (b ∷ sizes)) w (omega arith) (omega (arith, along.0)) turned in
    let lines : (n / w + 1) * w ≡ rows_at (b ∷ sizes) * w = omega (arith, turned, full) in
    let last : n / w + 1 ≡ rows_at (b ∷ sizes) = same_count (n / w + 1) (rows_at (b ∷ sizes)) w (omega (arith, first)) lines in
    ap (λ t. if t then (2 * (n % w) + 2) ∷ row_at (b ∷ sizes) height (n / w) else 0 ∷ next_row (b ∷ sizes) (row_at (b ∷ sizes) height (n / w)))
    (no_room a (n % w) full)
    ∙ ap (λ r. 0 ∷ r) (row_end (b ∷ sizes) height (n / w) (omega arith) (λ k d lt. sized (suc k) d (omega (arith, lt))) last)
    ∙ ap (λ r. 2 * r ∷ row_at (b ∷ sizes) (height + 1) 0) (sym (zero-mod w))
    ∙ ap (λ q. 2 * (0 % w) ∷ row_at (b ∷ sizes) (height + 1) q) (sym (zero-div w))
  where
    same_count : (p q w : ℕ) → 0 < w → p * w ≡ q * w → p ≡ q
    same_count p q w some e = (same_from_place p 0 q 0 w some some (omega (arith, e))).0

    last_place : (p r q w : ℕ) → 1 ≤ r → r ≤ w → p * w + r ≡ q * w → r ≡ w
    last_place p r q w some most e = elim (cases_lt r w) [
      | inl less ↦ absurd (omega (arith, some, (same_from_place p r q 0 w less (omega (arith, some, most)) (omega (arith, e))).1))
      | inr more ↦ omega (arith, most, more)
    ]
