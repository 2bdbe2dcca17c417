use Rattle.std.proofs.Common.{arith, subst, sym, ◌≡◌, ◌-◌, ◌<◌, ℕ}
use Rattle.bit_rows.specs.Rows.{IsWordOf}
use Rattle.layer_scan.specs.RowsOfEdges.{around, rows_of}
use Rattle.layer_scan.proofs.EdgeWordSteps.{up_words}
use Rattle.layer_scan.proofs.rows.CubesAround.word_before.Goals as goal
use Rattle.layer_scan.proofs.rows.CubesAround.word_before.Goals.{then-w-gt0, else-w-gt0}

pub returns : goal.returns
returns c =
    let w : ℕ = c.args.w in
    let none : w ≡ 0 → c.if-w-gt0.previous ≡ 0 =
    λ e. elim c.if-w-gt0.branch [ then-w-gt0 b ↦ grind arith | else-w-gt0 b ↦ grind arith ] in
    let some : 0 < w → IsWordOf (around (rows_of c.args.self.now)) (w - 1) c.if-w-gt0.previous =
    λ e. elim c.if-w-gt0.branch [
      | then-w-gt0 b ↦ subst (λ (p : ℕ). IsWordOf (around (rows_of c.args.self.now)) (w - 1) p) (sym b.previous-is) b.word-previous.ensures
      | else-w-gt0 b ↦ absurd (omega arith)
    ] in
    up_words (around (rows_of c.args.self.now)) w c.if-w-gt0.previous c.word.result c.up_word.result none some c.word.ensures c.up_word.ensures.bits
    c.up_word.ensures.first
