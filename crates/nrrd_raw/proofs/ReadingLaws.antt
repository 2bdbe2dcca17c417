-- A header at the front of a file.
use Rattle.std.proofs.Common.{◌≡◌, ℕ, List, [], ◌++◌, Option, Some, None, refl, sym, ap, ◌∙◌, subst, append-nil}
use Rattle.std.specs.Prelude.{Result, Ok, Err, IfOk, IfErr, IfSome, IsTrue, IsNone, flat_map, slice_index_or}
use Rattle.std.specs.Io.KnownBytes.{Consumes}
use Rattle.iso_formats.specs.HeaderLines.{HasLines, is_first_line, line_bytes, begins_right}
use Rattle.iso_formats.specs.GridFaults as cause
use Rattle.iso_formats.specs.GridFile.{Header, HasHeader, SpellHeader, SpellsSamples, SpellsGrid}
use Rattle.iso_model.specs.Values.{Grid}
use Rattle.iso_formats.specs.GridFaults.{HasHeaderFault, HasSampleFault, HasGridFault, of_header, of_samples, of_lines, lines_fault}
use Rattle.nrrd_raw.specs.declared.faults.GridFault.{GridFault}
use Rattle.nrrd_raw.specs.FaultCauses.{cause_of}
use Rattle.nrrd_raw.specs.GridFaultWords.{is_header_fault, blame_of}
use Rattle.nrrd_raw.specs.HeaderFronts.{IsFront}
use Rattle.nrrd_raw.specs.Headers.{HeaderIsRead}
use Rattle.nrrd_raw.proofs.JudgeLaws.{form_cause}

with_rest : (bytes front ys : List ℕ) (texts : List (List ℕ)) → bytes ≡ front ++ ys → HasLines front texts [] → HasLines bytes texts ys
with_rest bytes front ys texts c p = record {
  lines = p.lines;
  are_lines = p.are_lines;
  spelled = c ∙ ap (λ xs. xs ++ ys) (p.spelled ∙ append-nil (flat_map line_bytes p.lines));
  read = p.read;
  filled = p.filled;
  short = p.short;
}

pub header-read : (r : Result Header GridFault) (old new : Option (List ℕ)) (front : List ℕ) → IsFront front → Consumes old new front
    → IfOk r (λ header. (texts : List (List ℕ)) → HasLines front texts [] → IsTrue (is_first_line (slice_index_or texts 0 [])) → SpellHeader texts header)
    → IfOk r (HeaderIsRead old new)
header-read (Err e) old new front f c s = tt
header-read (Ok h) None new front f c s = tt
header-read (Ok h) (Some bytes) None front f c s = absurd c
header-read (Ok h) (Some bytes) (Some ys) front f c s = (ys, (f.texts, with_rest bytes front ys f.texts c f.lines, s f.texts f.lines f.first), refl)

pub header-cause : (r : Result Header GridFault) (old new : Option (List ℕ)) (front : List ℕ) → IsFront front → Consumes old new front
    → IfErr r (λ fault. IsTrue (is_header_fault fault)) → IfErr r (λ fault. IsNone (blame_of fault))
    → IfErr r
    (λ fault.
    (texts : List (List ℕ)) → HasLines front texts [] → IsTrue (is_first_line (slice_index_or texts 0 []))
    → lines_fault texts ≡ cause_of fault)
    → IfSome old (λ bytes. IfErr r (λ fault. IfSome (cause_of fault) (HasHeaderFault bytes)))
header-cause r None new front f c h s w = tt
header-cause r (Some bytes) None front f c h s w = absurd c
header-cause (Ok k) (Some bytes) (Some ys) front f c h s w = tt
header-cause (Err e) (Some bytes) (Some ys) front f c h s w =
    let x = form_cause e h s in
    let fault =
    of_lines f.texts ys x.0 (ap (λ (bs : List ℕ). begins_right bs) c ∙ f.begins ys) (with_rest bytes front ys f.texts c f.lines)
    (w f.texts f.lines f.first ∙ x.1) in
    subst (λ (o : Option cause.GridFault). IfSome o (HasHeaderFault bytes)) (sym x.1) fault

-- ---- a whole grid

grid_fault : (bytes : List ℕ) (o : Option cause.GridFault) (P : cause.GridFault → Type 0) → ((x : cause.GridFault) → P x → HasGridFault bytes x)
    → IfSome o P → IfSome o (HasGridFault bytes)
grid_fault bytes None P f h = tt
grid_fault bytes (Some x) P f h = f x h

pub grid-header_fault : (old : Option (List ℕ)) (fault : GridFault) → IfSome old (λ bytes. IfSome (cause_of fault) (HasHeaderFault bytes))
    → IfSome old (λ bytes. IfSome (cause_of fault) (HasGridFault bytes))
grid-header_fault None fault h = tt
grid-header_fault (Some bytes) fault h = grid_fault bytes (cause_of fault) (HasHeaderFault bytes) (λ x p. of_header x p) h

samples_fault : (r : Result Grid GridFault) (bytes data_bytes : List ℕ) (h : Header) → HasHeader bytes h data_bytes
    → IfErr r (λ fault. IfSome (cause_of fault) (HasSampleFault h data_bytes))
    → IfErr r (λ fault. IfSome (cause_of fault) (HasGridFault bytes))
samples_fault (Ok g) bytes data_bytes h p s = tt
samples_fault (Err e) bytes data_bytes h p s = grid_fault bytes (cause_of e) (HasSampleFault h data_bytes) (λ x q. of_samples h data_bytes x p q) s

pub grid-samples_fault : (r : Result Grid GridFault) (old mid : Option (List ℕ)) (h : Header) → HeaderIsRead old mid h
    → IfSome mid (λ bytes. IfErr r (λ fault. IfSome (cause_of fault) (HasSampleFault h bytes)))
    → IfSome old (λ bytes. IfErr r (λ fault. IfSome (cause_of fault) (HasGridFault bytes)))
grid-samples_fault r None mid h p s = tt
grid-samples_fault r (Some bytes) mid h p s =
    samples_fault r bytes p.0 h p.1 (subst (λ (o : Option (List ℕ)). IfSome o (λ bs. IfErr r (λ fault. IfSome (cause_of fault) (HasSampleFault h bs)))) p.2 s)

samples_read : (r : Result Grid GridFault) (bytes data_bytes : List ℕ) (h : Header) → HasHeader bytes h data_bytes
    → IfOk r (SpellsSamples h data_bytes) → IfOk r (SpellsGrid bytes)
samples_read (Ok g) bytes data_bytes h p s = (h, data_bytes, p, s)
samples_read (Err e) bytes data_bytes h p s = tt

pub grid-read : (r : Result Grid GridFault) (old mid : Option (List ℕ)) (h : Header) → HeaderIsRead old mid h
    → IfSome mid (λ bytes. IfOk r (SpellsSamples h bytes)) → IfSome old (λ bytes. IfOk r (SpellsGrid bytes))
grid-read r None mid h p s = tt
grid-read r (Some bytes) mid h p s = samples_read r bytes p.0 h p.1 (subst (λ (o : Option (List ℕ)). IfSome o (λ bs. IfOk r (SpellsSamples h bs))) p.2 s)
