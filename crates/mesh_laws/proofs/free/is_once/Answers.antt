use Rattle.std.proofs.Common.{arith, rules, sym, ◌∙◌, ◌≡◌, ◌-◌, ◌+◌, ◌<◌, [], length, false, ℕ, List}
use Rattle.std.specs.Prelude.{slice_index_or}
use Rattle.std.proofs.lemmas.List.{get_or_read}
use Rattle.std.proofs.lemmas.Slice.Eq.{bytes_eq-Decides}
use Rattle.std.proofs.lemmas.Bool.{false≢true}
use Rattle.lists.specs.Orders.{same_list}
use Rattle.mesh_laws.proofs.OnceInLists.{once_at, twice_at}
use Rattle.mesh_laws.proofs.free.is_once.Goals as goal
use Rattle.mesh_laws.proofs.free.is_once.Goals.{else-place-gt0-via-then-place-gt0+else-eq, else-place-gt0-via-else-place-gt0}
use Rattle.mesh_laws.proofs.free.is_once.Goals.{else-place-keys-via-then-place-keys+else-eq-2, else-place-keys-via-else-place-keys}

pub returns-then-eq : goal.returns-then-eq
returns-then-eq g c =
    let keys = c.args.keys.now in
    let below : c.args.place - 1 < length keys = omega (arith, c.requires.place) in
    let same = (bytes_eq-Decides c.index-keys-place.result c.index-keys-place-then-place-gt0.result).0 (sym c.eq.ensures ∙ c.if-eq.true) in
    let at : slice_index_or keys (c.args.place - 1) [] ≡ slice_index_or keys c.args.place [] =
    sym (get_or_read keys (c.args.place - 1) c.index-keys-place.result below c.index-keys-place.is []) ∙ same
    ∙ get_or_read keys c.args.place c.index-keys-place-then-place-gt0.result c.requires.place c.index-keys-place-then-place-gt0.is [] in
    sym (twice_at keys (c.args.place - 1) c.args.place (omega (arith, c.if-place-gt0.true)) c.requires.place at).1

pub returns-then-eq-2 : goal.returns-then-eq-2
returns-then-eq-2 g c =
    let keys = c.args.keys.now in
    let above : c.args.place + 1 < length keys = search rules in
    let one = c.index-keys-place-then-place-keys in
    let two = c.index-keys-place-then-place-keys-2 in
    let same = (bytes_eq-Decides one.result two.result).0 (sym c.eq-then-place-keys.ensures ∙ c.if-eq-2.true) in
    let at : slice_index_or keys (c.args.place + 1) [] ≡ slice_index_or keys c.args.place [] =
    sym (get_or_read keys (c.args.place + 1) one.result above one.is []) ∙ same
    ∙ get_or_read keys c.args.place two.result c.requires.place two.is [] in
    sym (twice_at keys c.args.place (c.args.place + 1) (omega arith) above (sym at)).0

differ : (x y : List ℕ) → same_list x y ≡ false → x ≡ y → ⊥
differ x y n e = false≢true (sym n ∙ (bytes_eq-Decides x y).1 e)

pub returns : goal.returns
returns g c =
    let keys = c.args.keys.now in
    sym (once_at keys c.requires.ascending c.args.place c.requires.place
    (λ h e. elim c.else-place-gt0.branch as (λ _. ⊥) [
      | else-place-gt0-via-then-place-gt0+else-eq w ↦
          (let below : c.args.place - 1 < length keys = omega (arith, c.requires.place) in
          let left = get_or_read keys (c.args.place - 1) w.index-keys-place.result below w.index-keys-place.is [] in
          let right = get_or_read keys c.args.place w.index-keys-place-then-place-gt0.result c.requires.place w.index-keys-place-then-place-gt0.is [] in
          differ w.index-keys-place.result w.index-keys-place-then-place-gt0.result (sym w.eq.ensures ∙ w.if-eq.false) (left ∙ e ∙ sym right))
      | else-place-gt0-via-else-place-gt0 w ↦ search (rules, h)
    ])
    (λ h e. elim c.else-place-keys.branch as (λ _. ⊥) [
      | else-place-keys-via-then-place-keys+else-eq-2 w ↦
          (let one = w.index-keys-place-then-place-keys in
          let two = w.index-keys-place-then-place-keys-2 in
          let left = get_or_read keys (c.args.place + 1) one.result h one.is [] in
          let right = get_or_read keys c.args.place two.result c.requires.place two.is [] in
          differ one.result two.result (sym w.eq-then-place-keys.ensures ∙ w.if-eq-2.false) (left ∙ e ∙ sym right))
      | else-place-keys-via-else-place-keys w ↦ search (rules, h)
    ]))
