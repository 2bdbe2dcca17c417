-- What is asked of the words of a file, one after another.
use Rattle.std.specs.Prelude.{◌≡◌, ℕ, ◌+◌, List, [], ◌∷◌, length, Option}
use Rattle.std.proofs.Common.{refl, ap, sym, ◌∙◌, arith, subst}
use Rattle.iso_formats.specs.MeshFile.{Word, Stage, MeshFault, lines_of, words_from, stopped, next_stage, stage_behind, ends_at, mesh_refused}
use Rattle.off_read.specs.declared.faults.OffFault.{OffFault}
use Rattle.off_read.specs.declared.faults.OffFault.TheVariants.{Long, Header, Count, Coordinate, FaceSize, Index, Extra, Short, Shelf, Memory}
use Rattle.off_read.specs.ScanForms.{Scan}
use Rattle.off_read.specs.Scans.{GivesWord, Goes, Refuses, FailsAt, EndsEarly, reading, reading_from}
use Rattle.off_read.specs.Meshes.{IsUnended, EndsAs}
use Rattle.off_read.specs.WordForms.{Known}
use Rattle.off_read.proofs.TakingLaws.{told_map, told_then, takes_then, takes_few}

stopped_ends : (n : ℕ) (cause : MeshFault) (ws : List Word) → ends_at n (stage_behind (stopped cause) ws) ≡ mesh_refused cause
stopped_ends n cause [] = refl
stopped_ends n cause (w ∷ ws) = stopped_ends n cause ws

stopped_from : (ended : ℕ) (cause : MeshFault) (bytes : List ℕ) → reading_from ended (stopped cause) bytes ≡ mesh_refused cause
unfolding reading_from
stopped_from ended cause bytes = stopped_ends (ended + length (lines_of bytes)) cause (words_from (ended + 1) (lines_of bytes))

pub goes_word : (a b : Option (List ℕ)) (old new : Scan) (word : Known) (g : GivesWord a b old new word) (before after : Stage)
    → next_stage before (record { text = g.text; line = word.line }) ≡ after → Goes a b old new before after
goes_word a b old new word g before after e = record {
  takes = g.takes;
  spends = let s = g.spends in omega (arith, s);
  reads = told_map a b _ _ (λ x y p. p before ∙ ap (λ (s : Stage). reading new s y) e) g.next;
}

pub refuses_at : (a b : Option (List ℕ)) (old new : Scan) (word : Known) (g : GivesWord a b old new word) (before : Stage) (cause : ℕ → MeshFault)
    (line : ℕ) → line ≡ word.line → next_stage before (record { text = g.text; line = word.line }) ≡ stopped (cause word.line)
    → Refuses a b old new before (cause line)
refuses_at a b old new word g before cause line same e = (
  g.takes,
  told_map a b _ _ (λ x y p.
      p before ∙ ap (λ (s : Stage). reading new s y) e ∙ stopped_from _ (cause word.line) _ ∙ ap (λ (n : ℕ). mesh_refused (cause n)) (sym same)) g.next,
)

pub early : (a b : Option (List ℕ)) (old new : Scan) (stage : Stage) (fault : OffFault) → IsUnended stage → EndsEarly a b old new fault
    → FailsAt a b old new stage fault
early a b old new stage Long u h = h
early a b old new stage (Shelf n) u h = h
early a b old new stage (Short n) u h = ((h.0, told_map a b _ _ (λ x y p. p stage ∙ u n) h.2), h.1)
early a b old new stage (Header n) u h = absurd h
early a b old new stage (Count n) u h = absurd h
early a b old new stage (Coordinate n) u h = absurd h
early a b old new stage (FaceSize n) u h = absurd h
early a b old new stage (Index n) u h = absurd h
early a b old new stage (Extra n) u h = absurd h
early a b old new stage Memory u h = absurd h

pub goes_then : (a b c : Option (List ℕ)) (r s t : Scan) (before mid after : Stage) → Goes a b r s before mid → Goes b c s t mid after
    → Goes a c r t before after
goes_then a b c r s t before mid after h k = record {
  takes = takes_few a b c r s t h.takes.0 k.takes;
  spends = let x = h.spends in let y = k.spends in omega (arith, x, y);
  reads = told_then a b c _ _ _ (λ x y z p q. p ∙ q) h.reads k.reads;
}

pub refuses_then : (a b c : Option (List ℕ)) (r s t : Scan) (before mid : Stage) (cause : MeshFault) → Goes a b r s before mid → Refuses b c s t mid cause
    → Refuses a c r t before cause
refuses_then a b c r s t before mid cause h k = (takes_few a b c r s t h.takes.0 k.0, told_then a b c _ _ _ (λ x y z p q. p ∙ q) h.reads k.1)

pub fails_at_then : (a b c : Option (List ℕ)) (r s t : Scan) (before mid : Stage) (fault : OffFault) → Goes a b r s before mid
    → FailsAt b c s t mid fault → FailsAt a c r t before fault
fails_at_then a b c r s t before mid Long h k = (takes_then a b c r s t h.takes.0 k.0, k.1)
fails_at_then a b c r s t before mid (Shelf n) h k = takes_few a b c r s t h.takes.0 k
fails_at_then a b c r s t before mid Memory h k = takes_few a b c r s t h.takes.0 k
fails_at_then a b c r s t before mid (Short n) h k = (refuses_then a b c r s t before mid _ h k.0, k.1)
fails_at_then a b c r s t before mid (Header n) h k = refuses_then a b c r s t before mid _ h k
fails_at_then a b c r s t before mid (Count n) h k = refuses_then a b c r s t before mid _ h k
fails_at_then a b c r s t before mid (Coordinate n) h k = refuses_then a b c r s t before mid _ h k
fails_at_then a b c r s t before mid (FaceSize n) h k = refuses_then a b c r s t before mid _ h k
fails_at_then a b c r s t before mid (Index n) h k = refuses_then a b c r s t before mid _ h k
fails_at_then a b c r s t before mid (Extra n) h k = refuses_then a b c r s t before mid _ h k

pub ends_as_then : (a b c : Option (List ℕ)) (r s t : Scan) (before mid : Stage) (d v : ℕ) (ss : List (List ℕ)) → Goes a b r s before mid
    → EndsAs b c s t mid d v ss → EndsAs a c r t before d v ss
ends_as_then a b c r s t before mid d v ss h k = record {
  takes = takes_few a b c r s t h.takes.0 k.takes;
  end = k.end;
  reads = told_then a b c _ _ _ (λ x y z p q. p ∙ q) h.reads k.reads;
}

pub goes_same : (a b : Option (List ℕ)) (old new : Scan) (before mid after : Stage) → mid ≡ after → Goes a b old new before mid → Goes a b old new before after
goes_same a b old new before mid after e g = subst (λ (s : Stage). Goes a b old new before s) e g
