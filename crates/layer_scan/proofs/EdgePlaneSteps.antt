-- Planes of edges that are written and numbered row by row.
use Rattle.std.proofs.Common.{ap, arith, inl, inr, refl, subst, sym, ◌∙◌}
use Rattle.std.proofs.lemmas.Bool.{cases_lt}
use Rattle.std.proofs.lemmas.Nat.{row_fits}
use Rattle.std.specs.Prelude.{Bool, List, count_by, length, map, suc, sum_by, ℕ, ◌*◌, ◌+◌, ◌-◌, ◌<◌, ◌≤◌, ◌≡◌, ◌≢◌, ◌⊎◌}
use Rattle.lists.specs.Orders.{numbers}
use Rattle.lists.proofs.Powers.{sum_suc}
use Rattle.grid_rows.specs.declared.grids.EdgeRow.{EdgeRow}
use Rattle.grid_rows.specs.declared.grids.GridRows.{GridRows}
use Rattle.grid_rows.specs.declared.planes.EdgePlane.{EdgePlane}
use Rattle.grid_rows.specs.declared.planes.EdgeWord.{EdgeWord}
use Rattle.grid_rows.specs.Planes.{HasRowOfEdges, bit_row, edge_row, with_edges}
use Rattle.grid_rows.specs.RowNumbers.{IsEdgeRow}
use Rattle.grid_rows.proofs.PlaneRows.{kept_rows}
use Rattle.layer_scan.specs.declared.numbers.EdgeSigns.{EdgeSigns}
use Rattle.layer_scan.specs.Directions.{axes_of, goes_along}
use Rattle.layer_scan.specs.PlanesOfEdges.{edge_row_of, first_in, firsts, second_in, seconds}
use Rattle.layer_scan.specs.RowsOfEdges.{AreNumbered, HasEdgeRows, first_edge, number_at, row_number, second_edge}
use Rattle.layer_scan.proofs.EdgeWordSteps.{below_most, sum_grows}

pub edges_there : (rows words : ℕ) (plane : EdgePlane) (n : ℕ) → HasEdgeRows rows words plane → n < rows → HasRowOfEdges plane n
edges_there rows words plane n has h =
    let fits : n * words + words ≤ rows * words = row_fits n words rows words h (omega arith) in
    let within : n * words + words ≤ length plane.edges.items = omega (arith, fits, has.1) in
    subst (λ (w : ℕ). n * w + w ≤ length plane.edges.items) (sym has.0) within

-- ---- what a row has is told by its number

stands_there : (rows : GridRows) (n : ℕ) (row : EdgeRow) → IsEdgeRow rows n row → row ≡ edge_row_of rows n
stands_there rows n row is = λ i. record { near = is.near i; far = is.far i; along = is.along i; cubes = is.cubes i }

pub same_edges : (rows : GridRows) (signs : EdgeSigns) (n : ℕ) (row : EdgeRow) (d e : Bool) (near far : List ℕ) (cubes : List (List ℕ))
    → IsEdgeRow rows n row → d ≡ goes_along signs.kind (axes_of row.along signs.upright)
    → e ≡ goes_along signs.kind (axes_of row.along signs.upright + 1)
    → near ≡ bit_row signs.near.now row.near → far ≡ bit_row signs.far.now row.far → cubes ≡ map (bit_row signs.kept.now) row.cubes
    → (first_edge d near far cubes ≡ firsts rows signs n) × (second_edge e near far cubes ≡ seconds rows signs n)
same_edges rows signs n row d e near far cubes is one two low high around =
    let at : row ≡ edge_row_of rows n = stands_there rows n row is in
    let first : Bool = goes_along signs.kind (axes_of row.along signs.upright) in
    let second : Bool = goes_along signs.kind (axes_of row.along signs.upright + 1) in
    let low_row : List ℕ = bit_row signs.near.now row.near in
    let high_row : List ℕ = bit_row signs.far.now row.far in (
      ap (λ t. first_edge t near far cubes) one ∙ ap (λ r. first_edge first r far cubes) low ∙ ap (λ r. first_edge first low_row r cubes) high
          ∙ ap (λ rs. first_edge first low_row high_row rs) around ∙ ap (first_in signs) at,
      ap (λ t. second_edge t near far cubes) two ∙ ap (λ r. second_edge second r far cubes) low ∙ ap (λ r. second_edge second low_row r cubes) high
          ∙ ap (λ rs. second_edge second low_row high_row rs) around ∙ ap (second_in signs) at,
    )

-- ---- the numbers of rows

pub next_row : (f g : ℕ → ℕ → Bool) (words count n : ℕ)
    → row_number f g words count (n + 1) ≡ number_at (f n) (g n) (row_number f g words count n) (64 * words)
next_row f g words count n =
    let after : n + 1 ≡ suc n = omega arith in
    let place : 0 + n ≡ n = omega arith in
    let edges = λ (m : ℕ). count_by (f m) (numbers (64 * words)) + count_by (g m) (numbers (64 * words)) in
    let before : ℕ = sum_by edges (numbers n) in
    let here : ℕ = edges n in
    let turned : count + (before + here) ≡ count + before + here = omega arith in
    ap (row_number f g words count) after ∙ ap (λ m. count + m) (sum_suc edges 0 n) ∙ ap (λ m. count + (before + edges m)) place ∙ turned

row_number_grows : (f g : ℕ → ℕ → Bool) (words count a b : ℕ) → a ≤ b → row_number f g words count a ≤ row_number f g words count b
row_number_grows f g words count a b h =
    let whole : a + (b - a) ≡ b = omega arith in
    let edges = λ (m : ℕ). count_by (f m) (numbers (64 * words)) + count_by (g m) (numbers (64 * words)) in
    more_of count (sum_by edges (numbers a)) (sum_by edges (numbers b))
    (subst (λ (m : ℕ). sum_by edges (numbers a) ≤ sum_by edges (numbers m)) whole (sum_grows edges a (b - a)))
  where
    more_of : (c m n : ℕ) → m ≤ n → c + m ≤ c + n
    more_of c m n k = omega (arith, k)

-- the number after a row, whose edges are those that its number tells
pub after_row : (f g : ℕ → ℕ → Bool) (words start number count n : ℕ) (first second : ℕ → Bool) → first ≡ f number → second ≡ g number
    → count ≡ row_number f g words start number → n ≡ words
    → number_at first second count (64 * n) ≡ row_number f g words start (number + 1)
after_row f g words start number count n first second one two counted long =
    ap (λ t. number_at t second count (64 * n)) one ∙ ap (λ t. number_at (f number) t count (64 * n)) two
    ∙ ap (λ m. number_at (f number) (g number) m (64 * n)) counted
    ∙ ap (λ m. number_at (f number) (g number) (row_number f g words start number) (64 * m)) long ∙ sym (next_row f g words start number)

pub few_after : (f g : ℕ → ℕ → Bool) (words start number count n rows limit : ℕ) (first second : ℕ → Bool) → first ≡ f number
    → second ≡ g number → count ≡ row_number f g words start number → n ≡ words → number < rows → row_number f g words start rows < limit
    → number_at first second count (64 * n) < limit
few_after f g words start number count n rows limit first second one two counted long h few =
    let most = row_number_grows f g words start (number + 1) rows (omega (arith, h)) in
    subst (λ (m : ℕ). m < limit) (sym (after_row f g words start number count n first second one two counted long))
    (below_most (row_number f g words start (number + 1)) (row_number f g words start rows) limit most few)

-- ---- planes as far as they are written

pub record AreRowsBefore (f g : ℕ → ℕ → Bool) (rows words start number : ℕ) (plane : EdgePlane) (count : ℕ) : Type 0 where
  pub shape : HasEdgeRows rows words plane
  pub done : (n : ℕ) → n < number → AreNumbered (f n) (g n) (row_number f g words start n) (edge_row plane n)
  pub counted : count ≡ row_number f g words start number

pub one_more_numbered : (f g : ℕ → ℕ → Bool) (rows words start number count next : ℕ) (plane : EdgePlane) (row : List EdgeWord)
    (first second : ℕ → Bool) → AreRowsBefore f g rows words start number plane count → number < rows → length row ≡ plane.words
    → first ≡ f number → second ≡ g number → AreNumbered first second count row → next ≡ number_at first second count (64 * words)
    → AreRowsBefore f g rows words start (number + 1) (with_edges plane number row) next
one_more_numbered f g rows words start number count next plane row first second before h long one two is at =
    let kept = kept_rows plane.edges plane.words number row (edges_there rows words plane number before.shape h) long in
    record {
      shape = (before.shape.0, kept.1 ∙ before.shape.1);
      done = λ n lt. by_order n (cases_lt n number) lt kept.0 kept.2;
      counted = at ∙ after_row f g words start number count words first second one two before.counted refl;
    }
  where
    own : AreNumbered (f number) (g number) (row_number f g words start number) row
    own =
        subst (λ (k : ℕ). AreNumbered (f number) (g number) k row) before.counted
        (subst (λ (t : ℕ → Bool). AreNumbered (f number) t count row) two (subst (λ (t : ℕ → Bool). AreNumbered t second count row) one is))

    by_order : (n : ℕ) → (n < number) ⊎ (number ≤ n) → n < number + 1 → edge_row (with_edges plane number row) number ≡ row
        → ((m : ℕ) → HasRowOfEdges plane m → m ≢ number → edge_row (with_edges plane number row) m ≡ edge_row plane m)
        → AreNumbered (f n) (g n) (row_number f g words start n) (edge_row (with_edges plane number row) n)
    by_order n (inl less) lt there same =
        let has : HasRowOfEdges plane n = edges_there rows words plane n before.shape (omega (arith, less, h)) in
        let other : n ≢ number = λ e. omega (arith, e, less) in
        subst (λ (r : List EdgeWord). AreNumbered (f n) (g n) (row_number f g words start n) r) (sym (same n has other)) (before.done n less)
    by_order n (inr more) lt there same =
        let here : number ≡ n = omega (arith, more, lt) in
        subst (λ (k : ℕ). AreNumbered (f k) (g k) (row_number f g words start k) (edge_row (with_edges plane number row) k)) here
        (subst (λ (r : List EdgeWord). AreNumbered (f number) (g number) (row_number f g words start number) r) (sym there) own)
