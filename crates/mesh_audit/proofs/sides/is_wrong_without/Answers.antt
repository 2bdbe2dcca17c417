use Rattle.std.proofs.Common.{arith, ap, sym, subst, ◌∙◌, ◌<◌, length, ℕ, List}
use Rattle.std.specs.Prelude.{count_by, nat_lt}
use Rattle.lists.specs.Orders.{same_list}
use Rattle.iso_model.specs.Faces.{face_without}
use Rattle.mesh_audit.specs.Findings.{simplex_at}
use Rattle.mesh_audit.specs.SignedKeys.{signed_key}
use Rattle.mesh_audit.proofs.SignedKeyLists.{wrong_at_first, wrong_at_second}
use Rattle.mesh_audit.proofs.sides.is_wrong_without.Goals as goal

pub returns-then-stands_twice : goal.returns-then-stands_twice
returns-then-stands_twice g c = λ ws i a.
    let keys = c.args.keys.now in
    let w = c.args.simplex.now in
    let p = c.args.place in
    let long : p < length w = omega (arith, c.told-simplex, c.requires.place) in
    let inside : p < length (simplex_at ws i) = subst (λ (v : List ℕ). p < length v) a.is long in
    let key = c.signed_key.ensures ∙ ap (λ (v : List ℕ). signed_key 0 (face_without v p)) a.is in
    let test = sym c.stands_twice.ensures ∙ c.if-stands_twice.true in
    sym (wrong_at_first ws keys i p a.distinct a.keyed a.below inside (ap (λ (k : List ℕ). nat_lt 1 (count_by (same_list k) keys)) (sym key) ∙ test))

pub returns : goal.returns
returns g c = λ ws i a.
    let keys = c.args.keys.now in
    let w = c.args.simplex.now in
    let p = c.args.place in
    let long : p < length w = omega (arith, c.told-simplex, c.requires.place) in
    let inside : p < length (simplex_at ws i) = subst (λ (v : List ℕ). p < length v) a.is long in
    let key = c.signed_key.ensures ∙ ap (λ (v : List ℕ). signed_key 0 (face_without v p)) a.is in
    let other = c.signed_key-2.ensures ∙ ap (λ (v : List ℕ). signed_key 1 (face_without v p)) a.is in
    let test = sym c.stands_twice.ensures ∙ c.if-stands_twice.false in
    c.stands_twice-2.ensures ∙ ap (λ (k : List ℕ). nat_lt 1 (count_by (same_list k) keys)) other
    ∙ wrong_at_second ws keys i p a.distinct a.keyed a.below inside (ap (λ (k : List ℕ). nat_lt 1 (count_by (same_list k) keys)) (sym key) ∙ test)
