use Rattle.std.proofs.Common.{arith, ap, drop, length, take, ◌≡◌, ◌++◌, ◌∙◌}
use Rattle.std.specs.Prelude.{map}
use Rattle.std.proofs.lemmas.List.{length-map, take_at}
use Rattle.mesh_laws.specs.FaceGroups.{once_count}
use Rattle.mesh_laws.proofs.FaceGroupLaws.{once_moved}
use Rattle.mesh_audit.specs.SignedKeys.{unsigned}
use Rattle.mesh_audit.proofs.sides.count_unsigned.Goals as goal

pub returns : goal.returns
returns g c =
    let old = c.args.keys.items in
    let cleared = c.clear_signs.new.keys in
    let same : cleared ≡ map unsigned old = rw c.deref_mut.ensures.value at c.clear_signs.ensures in
    let held : length old ≡ c.args.keys.len = omega (arith, c.deref_mut.ensures.len, ap length c.deref_mut.ensures.value) in
    let count : length cleared ≡ c.args.keys.len = omega (arith, ap length same, length-map old unsigned, held) in
    let all : take c.args.keys.len (cleared ++ drop (length cleared) old) ≡ cleared = take_at cleared (drop (length cleared) old) c.args.keys.len count in
    c.count_once.ensures ∙ ap once_count c.deref.ensures.value ∙ once_moved _ c.sort_unstable.new.self.items c.sort_unstable.ensures.permutation
    ∙ ap once_count (all ∙ same)
