use Rattle.std.proofs.Common.{arith, ap, sym, ℕ, length, ◌<◌, ◌≡◌}
use Rattle.std.specs.Prelude.{slice_index, slice_index_or}
use Rattle.std.proofs.lemmas.List.Elements.{All-push}
use Rattle.mesh_laws.specs.declared.rounds.Begin.{Begin}
use Rattle.mesh_laws.specs.declared.rounds.Corner.{Corner}
use Rattle.mesh_laws.specs.Rounds.{ps_of}
use Rattle.mesh_laws.proofs.RoundPlaces.{listed_more}
use Rattle.mesh_laws.proofs.RoundWalks.{length_ps, p_at}
use Rattle.mesh_laws.proofs.rounds.list_begins.Goals as goal

pub loop-place-preserved : goal.loop-place-preserved
loop-place-preserved c =
    let corners = c.args.corners.now in
    let n = c.loop-place.place in
    let d : Corner = record { triangle = 0; p = 0; q = 0 } in
    let its_p : slice_index (ps_of corners) n ≡ (slice_index_or corners n d).p = p_at corners n d c.loop-place-test.true in
    let b : Begin = record { p = (slice_index_or corners n d).p; place = n } in
    let placed : (b.place < length (ps_of corners)) × (slice_index (ps_of corners) b.place ≡ b.p) =
    (omega (arith, c.loop-place-test.true, length_ps corners), its_p) in
    rw c.in_ok-push.ensures (
      All-push (λ (x : Begin). (x.place < length (ps_of corners)) × (slice_index (ps_of corners) x.place ≡ x.p)) c.loop-place.begins.items b
          c.loop-place.invariant.0 placed,
      listed_more (ps_of corners) c.loop-place.begins.items n b c.loop-place.invariant.1
          (ap (λ (x : ℕ). let y : Begin = record { p = x; place = n } in y) (sym its_p)),
    )
