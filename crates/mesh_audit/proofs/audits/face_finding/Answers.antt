use Rattle.std.proofs.Common.{ap, arith, drop, length, rules, subst, sym, take, ◌-◌, ◌+◌, ◌≡◌, ◌∙◌, [], ◌∷◌, List, ℕ}
use Rattle.std.specs.List.Sorted.{IsStrictlyIncreasing}
use Rattle.std.proofs.lemmas.List.{get_or_read}
use Rattle.iso_model.specs.Faces.{face_without}
use Rattle.mesh_audit.specs.Findings.{face_at, simplex_at}
use Rattle.mesh_audit.proofs.SignedKeyLists.{face_of_key, face_up}
use Rattle.mesh_audit.proofs.audits.face_finding.Goals as goal

pub face_count-requires : goal.face_count-requires
face_count-requires g c =
    let ws = c.args.simplices.now in
    let w = c.index-simplices-number.result in
    let key = c.face_key-key.result in
    let inside = c.requires.side.0.below in
    let same : w ≡ simplex_at ws c.args.number = get_or_read ws c.args.number w inside c.index-simplices-number.is [] in
    let keyed : key ≡ 0 ∷ face_at ws c.args.number c.args.place = c.face_key-key.ensures ∙ ap (λ (v : List ℕ). 0 ∷ face_without v c.args.place) same in
    let face : take (length key - 1) (drop 1 key) ≡ face_at ws c.args.number c.args.place = face_of_key key (face_at ws c.args.number c.args.place) keyed in
    let up : IsStrictlyIncreasing (take (length key - 1) (drop 1 key)) =
    subst IsStrictlyIncreasing (sym face) (face_up ws c.args.number c.args.place c.requires.distinct inside c.requires.side.1.below) in
    let long : length key ≡ g.row.D = search rules in
    let count : length (take (length key - 1) (drop 1 key)) + 1 ≡ g.row.D = omega (arith, long, ap length keyed, ap length face) in
    (search rules, (count, (up, omega (arith, c.requires.few))))

pub face_sum-requires : goal.face_sum-requires
face_sum-requires g c =
    let ws = c.args.simplices.now in
    let w = c.index-simplices-number.result in
    let key = c.face_key-key.result in
    let inside = c.requires.side.0.below in
    let same : w ≡ simplex_at ws c.args.number = get_or_read ws c.args.number w inside c.index-simplices-number.is [] in
    let keyed : key ≡ 0 ∷ face_at ws c.args.number c.args.place = c.face_key-key.ensures ∙ ap (λ (v : List ℕ). 0 ∷ face_without v c.args.place) same in
    let face : take (length key - 1) (drop 1 key) ≡ face_at ws c.args.number c.args.place = face_of_key key (face_at ws c.args.number c.args.place) keyed in
    let up : IsStrictlyIncreasing (take (length key - 1) (drop 1 key)) =
    subst IsStrictlyIncreasing (sym face) (face_up ws c.args.number c.args.place c.requires.distinct inside c.requires.side.1.below) in
    let long : length key ≡ g.row.D = search rules in
    let count : length (take (length key - 1) (drop 1 key)) + 1 ≡ g.row.D = omega (arith, long, ap length keyed, ap length face) in
    (search rules, (count, (up, omega (arith, c.requires.few))))
