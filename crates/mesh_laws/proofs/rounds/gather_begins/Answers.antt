use Rattle.std.proofs.Common.{arith, ◌<◌, ◌≡◌, length}
use Rattle.std.specs.Prelude.{slice_index}
use Rattle.std.proofs.lemmas.List.Sorted.{All-permutation, Contains-permutation}
use Rattle.mesh_laws.specs.declared.rounds.Begin.{Begin}
use Rattle.mesh_laws.specs.Rounds.{ps_of}
use Rattle.mesh_laws.proofs.RoundWalks.{length_ps}
use Rattle.mesh_laws.proofs.rounds.gather_begins.Goals as goal

pub returns : goal.returns
returns c =
    let ps = ps_of c.args.corners.now in
    let listed = c.list_begins.new.begins.items in
    let ordered = c.sort_begins.new.begins.items in
    let n = length_ps c.args.corners.now in
    record {
      few = omega (arith, n, c.requires);
      sorted = c.sort_begins.ensures.sorted;
      placed = All-permutation (λ (b : Begin). (b.place < length ps) × (slice_index ps b.place ≡ b.p)) listed ordered c.sort_begins.ensures.reordered
          c.in_ok-list_begins.ensures.placed;
      listed = λ i h. Contains-permutation listed ordered (record { p = slice_index ps i; place = i }) c.sort_begins.ensures.reordered
          (c.in_ok-list_begins.ensures.listed i (omega (arith, h, n)));
    }
