use Rattle.std.proofs.Common.{arith, sym, subst, ◌≡◌, ℕ, true, false, inl, inr}
use Rattle.std.proofs.lemmas.Bool.{cases_eq, false≢true}
use Rattle.iso_model.specs.Acceptance.{rule_edges, rule_faces, rule_path, is_path}
use Rattle.edge_sets.specs.Sets.{Suits, SuitsFacets}
use Rattle.path_rule.proofs.SharedFaces.{edge_suits}
use Rattle.path_rule.proofs.EachEdge.{path_passes, path_fails}
use Rattle.path_rule.proofs.rule.keeps_path.Goals as goal
use Rattle.path_rule.proofs.rule.keeps_path.Goals.{else-has_member-via-then-has_member+else-not-has_path, else-has_member-via-else-has_member}

pub returns-then-not-has_path : goal.returns-then-not-has_path
returns-then-not-has_path g c = λ kind label.
    let facets = c.args.facets.now in
    let bipolar = c.args.bipolar in
    let ws = c.args.tuples.now in
    let e = c.loop-edge.edge in
    let three : 3 ≡ g.row.D = omega arith in
    subst
    (λ (d : ℕ).
    SuitsFacets kind d facets ws → Suits kind d label bipolar ws → rule_edges kind d label ws ≡ true → rule_faces kind d ws ≡ true
    → false ≡ rule_path kind d label ws)
    three
    (λ s suits edges faces.
    path_fails kind label bipolar e ws suits (sym c.if-has_member.ensures)
    (c.if-not-has_path.ensures kind s (edge_suits kind label bipolar e ws suits edges faces (sym c.if-has_member.ensures))))

pub loop-edge-preserved : goal.loop-edge-preserved
loop-edge-preserved g c = λ kind label s suits edges faces e below member.
    let bipolar = c.args.bipolar in
    let ws = c.args.tuples.now in
    let edge = c.loop-edge.edge in
    elim (cases_eq e edge) as (λ _. is_path kind 3 e ws ≡ true) [
      | inl same ↦ elim c.else-has_member.branch as (λ _. is_path kind 3 e ws ≡ true) [
        | else-has_member-via-then-has_member+else-not-has_path w ↦ subst (λ (k : ℕ). is_path kind 3 k ws ≡ true) (sym same)
            (sym (w.if-not-has_path.ensures kind s (edge_suits kind label bipolar edge ws suits edges faces (sym w.if-has_member.ensures))))
        | else-has_member-via-else-has_member w ↦ absurd (false≢true (let f = w.if-has_member.ensures in let t = same in let m = member in cc))
      ]
      | inr other ↦ c.loop-edge.invariant kind label s suits edges faces e (omega arith) member
    ]

pub returns : goal.returns
returns g c = λ kind label.
    let facets = c.args.facets.now in
    let bipolar = c.args.bipolar in
    let ws = c.args.tuples.now in
    let three : 3 ≡ g.row.D = omega arith in
    subst
    (λ (d : ℕ).
    SuitsFacets kind d facets ws → Suits kind d label bipolar ws → rule_edges kind d label ws ≡ true → rule_faces kind d ws ≡ true
    → true ≡ rule_path kind d label ws)
    three
    (λ s suits edges faces.
    path_passes kind label bipolar ws suits (λ e below member. c.loop-edge.invariant kind label s suits edges faces e (omega arith) member))
