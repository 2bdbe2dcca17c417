use Rattle.std.proofs.Common.{◌*ℤ◌, ◌-ℤ◌, w64, FitsSigned, lit<}
use Rattle.std.proofs.lemmas.Int.{to_z-of_z}
use Rattle.polynomials.specs.Small.{IsSmall}
use Rattle.polynomials.proofs.SmallLaws.{small-mul, small-sub, small-fits}
use Rattle.small_turn.proofs.turn_two.Goals as goal

pub overflow_sub-result : goal.overflow_sub-result
overflow_sub-result c =
    let fa : FitsSigned w64 c.args.a = c.ranges.a in let fb : FitsSigned w64 c.args.b = c.ranges.b in
    let fc : FitsSigned w64 c.args.c = c.ranges.c in let fd : FitsSigned w64 c.args.d = c.ranges.d in
    let ad : IsSmall 4096 (c.args.a *ℤ c.args.d) = small-mul 64 64 c.args.a c.args.d c.requires.a_small c.requires.d_small in
    let bc : IsSmall 4096 (c.args.b *ℤ c.args.c) = small-mul 64 64 c.args.b c.args.c c.requires.b_small c.requires.c_small in
    let fad : FitsSigned w64 (c.args.a *ℤ c.args.d) = small-fits 4096 (c.args.a *ℤ c.args.d) ad (lit< tt) in
    let fbc : FitsSigned w64 (c.args.b *ℤ c.args.c) = small-fits 4096 (c.args.b *ℤ c.args.c) bc (lit< tt) in
    simp to_z-of_z
    (small-fits 8192 (c.args.a *ℤ c.args.d -ℤ c.args.b *ℤ c.args.c) (small-sub 4096 4096 (c.args.a *ℤ c.args.d) (c.args.b *ℤ c.args.c) ad bc)
    (lit< tt))

pub returns-clause-value : goal.returns-clause-value
returns-clause-value c =
    let fa : FitsSigned w64 c.args.a = c.ranges.a in let fb : FitsSigned w64 c.args.b = c.ranges.b in
    let fc : FitsSigned w64 c.args.c = c.ranges.c in let fd : FitsSigned w64 c.args.d = c.ranges.d in
    let ad : IsSmall 4096 (c.args.a *ℤ c.args.d) = small-mul 64 64 c.args.a c.args.d c.requires.a_small c.requires.d_small in
    let bc : IsSmall 4096 (c.args.b *ℤ c.args.c) = small-mul 64 64 c.args.b c.args.c c.requires.b_small c.requires.c_small in
    let fad : FitsSigned w64 (c.args.a *ℤ c.args.d) = small-fits 4096 (c.args.a *ℤ c.args.d) ad (lit< tt) in
    let fbc : FitsSigned w64 (c.args.b *ℤ c.args.c) = small-fits 4096 (c.args.b *ℤ c.args.c) bc (lit< tt) in
    let fs : FitsSigned w64 (c.args.a *ℤ c.args.d -ℤ c.args.b *ℤ c.args.c) =
    small-fits 8192 (c.args.a *ℤ c.args.d -ℤ c.args.b *ℤ c.args.c) (small-sub 4096 4096 (c.args.a *ℤ c.args.d) (c.args.b *ℤ c.args.c) ad bc)
    (lit< tt) in
    simp to_z-of_z

pub returns-clause-small : goal.returns-clause-small
returns-clause-small c =
    let fa : FitsSigned w64 c.args.a = c.ranges.a in let fb : FitsSigned w64 c.args.b = c.ranges.b in
    let fc : FitsSigned w64 c.args.c = c.ranges.c in let fd : FitsSigned w64 c.args.d = c.ranges.d in
    let ad : IsSmall 4096 (c.args.a *ℤ c.args.d) = small-mul 64 64 c.args.a c.args.d c.requires.a_small c.requires.d_small in
    let bc : IsSmall 4096 (c.args.b *ℤ c.args.c) = small-mul 64 64 c.args.b c.args.c c.requires.b_small c.requires.c_small in
    let fad : FitsSigned w64 (c.args.a *ℤ c.args.d) = small-fits 4096 (c.args.a *ℤ c.args.d) ad (lit< tt) in
    let fbc : FitsSigned w64 (c.args.b *ℤ c.args.c) = small-fits 4096 (c.args.b *ℤ c.args.c) bc (lit< tt) in
    let fs : FitsSigned w64 (c.args.a *ℤ c.args.d -ℤ c.args.b *ℤ c.args.c) =
    small-fits 8192 (c.args.a *ℤ c.args.d -ℤ c.args.b *ℤ c.args.c) (small-sub 4096 4096 (c.args.a *ℤ c.args.d) (c.args.b *ℤ c.args.c) ad bc)
    (lit< tt) in
    simp to_z-of_z (small-sub 4096 4096 (c.args.a *ℤ c.args.d) (c.args.b *ℤ c.args.c) ad bc)
