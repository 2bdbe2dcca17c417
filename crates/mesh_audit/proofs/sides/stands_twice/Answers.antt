use Rattle.std.proofs.Common.{ap, sym, ◌∙◌, [], not}
use Rattle.std.specs.Prelude.{slice_index_or}
use Rattle.mesh_audit.proofs.SignedKeyLists.{found_twice, never_at, not_found, same_of_equal}
use Rattle.mesh_audit.proofs.sides.stands_twice.Goals as goal

pub returns-in-Ok : goal.returns-in-Ok
returns-in-Ok g c =
    let keys = c.args.keys.now in
    let same = same_of_equal (slice_index_or keys c.in-Ok.place []) c.args.key.now (c.in-Ok.ensures.ok []) in
    ap not c.is_once.ensures ∙ found_twice keys c.args.key.now c.in-Ok.place c.in-Ok.ensures.bound same

pub returns-in-Err : goal.returns-in-Err
returns-in-Err g c =
    sym (not_found c.args.keys.now c.args.key.now (never_at c.args.keys.now c.args.key.now c.in-Err.field-0 c.requires c.in-Err.ensures.position))
