use Rattle.std.proofs.Common.{◌≡◌, ◌<◌, ◌-◌, ◌∷◌, length, arith, take, [], pos, slice_index_or}
use Rattle.std.proofs.lemmas.List.Elements.{All-nil}
use Rattle.face_tallies.specs.declared.faces.FaceTally.{FaceTally}
use Rattle.face_tallies.specs.Parts.{IsWeighed, put_at}
use Rattle.face_tallies.proofs.AddedParts.{put_adds, adds_none, adds_more, taken_more, below_none, below_more, ascends_more}
use Rattle.lists.proofs.Contained.{any_default}
use Rattle.face_tallies.proofs.parts.merge.Goals as goal

pub loop-part-init : goal.loop-part-init
loop-part-init c =
    rw c.clear.ensures.items
    (record { adds = adds_none [] (All-nil IsWeighed); ascends = λ k d h. absurd (omega arith); below = below_none c.args.parts.now })

pub loop-part-preserved : goal.loop-part-preserved
loop-part-preserved c =
    let parts = c.args.parts.now in
    let tallies = c.loop-part.tallies.items in
    let i = c.loop-part.part-index in
    let inside : i < length parts = c.loop-part-test.true in
    let none : FaceTally = record { edges = 0; count = 0; sum = pos 0 } in
    let part = slice_index_or parts i none in
    let read : part ≡ slice_index_or parts i part = any_default parts i none part inside in
    let last : c.saturating_sub-last.result ≡ length tallies - 1 = omega arith in
    rw (c.in_ok-put.ensures, last) (record {
      adds = rw (taken_more parts i part inside read)
          (adds_more (take i parts) (part ∷ []) [] tallies (put_at (length tallies - 1) part tallies) c.loop-part.invariant.adds
          (put_adds (length tallies - 1) part tallies c.loop-part.invariant.adds.weighed (c.requires.weighed i none inside)));
      ascends = ascends_more parts i part tallies inside read c.loop-part.invariant.below c.loop-part.invariant.ascends;
      below = below_more parts i (length tallies - 1) part tallies c.requires.sorted inside read c.loop-part.invariant.below;
    })
