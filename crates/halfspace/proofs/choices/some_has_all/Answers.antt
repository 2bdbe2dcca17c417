-- A set that has them all is there, or none so far.
use Rattle.std.proofs.Common.{◌∙◌, ◌≡◌, ℕ, All, arith, slice_index_or, subst, sym, below_more, refl}
use Rattle.std.proofs.lemmas.Bool.{false≢true}
use Rattle.std.specs.Int.{bit_at}
use Rattle.lists.proofs.Contained.{any_default}
use Rattle.halfspace.proofs.choices.some_has_all.Goals as goal

pub returns-then-has_all : goal.returns-then-has_all
returns-then-has_all g c = (
  λ _. (
    c.loop-set.set-index,
    slice_index_or c.args.sets.now c.loop-set.set-index 0,
    c.loop-set-test.true,
    any_default c.args.sets.now c.loop-set.set-index (slice_index_or c.args.sets.now c.loop-set.set-index 0) 0 c.loop-set-test.true,
    c.has_all.ensures.0 c.if-has_all.true,
  ),
  λ _. refl,
)

pub loop-set-preserved : goal.loop-set-preserved
loop-set-preserved g c = below_more _ _ c.loop-set.invariant (λ a. false≢true (c.if-has_all.ensures.1 a))

pub returns : goal.returns
returns g c = (
  λ e. absurd (false≢true e),
  λ a. absurd (c.loop-set.invariant a.0 (omega arith)
      (subst (λ (m : ℕ). All (λ i. bit_at m i ≡ 1) c.args.choice.now) (sym a.3 ∙ any_default c.args.sets.now a.0 a.1 0 a.2) a.4)),
)
