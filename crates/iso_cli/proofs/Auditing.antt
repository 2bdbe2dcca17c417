-- What the bytes of a mesh file decide for an audit, and what is left of it.
use Rattle.std.proofs.Common.{◌≡◌, ℕ, ◌+◌, ◌<◌, ◌≤◌, length, List, drop, Option, Some, None, refl, sym, ap, subst, ◌∙◌, arith}
use Rattle.std.specs.Prelude.{Ok, Err}
use Rattle.std.proofs.lemmas.List.{length-append}
use Rattle.iso_base.specs.declared.outside.Failed.{Failed}
use Rattle.iso_base.specs.Files.{Files, BeginsFile}
use Rattle.iso_formats.specs.MeshFile.{MeshFault, read_mesh, mesh_read, mesh_refused}
use Rattle.iso_formats.specs.MeshFile.{wrong_header, wrong_count, wrong_coordinate, wrong_size, wrong_index, extra_word, short_of_words}
use Rattle.iso_formats.proofs.MeshFileLaws.{one_mesh, spelled_is_read}
use Rattle.mesh_audit.specs.Findings.{HasFinding}
use Rattle.mesh_audit.specs.declared.findings.Finding.{Finding}
use Rattle.mesh_audit.specs.declared.findings.Finding.TheVariants as Findings
use Rattle.mesh_audit.proofs.FindingLaws.{one_finding}
use Rattle.off_read.specs.AnyOffs.{HasCause, IsMeshOf, IsRefusal, Takes, dimension_of, mesh_of}
use Rattle.off_read.specs.ScanForms.{limit}
use Rattle.off_read.specs.declared.faults.OffFault.{OffFault}
use Rattle.off_read.specs.declared.faults.OffFault.TheVariants as Faults
use Rattle.off_read.specs.declared.meshes.AnyOff.{AnyOff}
use Rattle.iso_cli.specs.declared.status.Status.{Status}
use Rattle.iso_cli.specs.declared.status.Status.TheVariants as Statuses
use Rattle.iso_cli.specs.StatusCauses.{off_status}
use Rattle.iso_cli.specs.Audits.{HoldsGlued, HoldsOff, IsFoundIn, IsRefusedAudit, IsRefusedByFinding, IsRefusedOff, IsShortFront, LeavesOff, SaysGlued}
use Rattle.iso_cli.specs.Audits.{by_finding, by_off, mesh_refusal, not_glued, too_many_bytes, wrong_word}
use Rattle.iso_cli.specs.Refusals.{FileHas, IsRefusedFile}
use Rattle.iso_cli.specs.Rests.{IsTakenFrom}
use Rattle.iso_cli.specs.Statuses.{IsDecided}
use Rattle.iso_cli.proofs.Excluding.{both_have}
use Rattle.iso_cli.proofs.Interrupting.{left_behind, taken_of}
use Rattle.iso_cli.proofs.Refusing.{file_has, file_map}

-- ---- one refusal

-- the bytes of a mesh have no cause
mesh_or_cause : (bytes : List ℕ) (mesh : AnyOff) (cause : MeshFault) → IsMeshOf bytes mesh → HasCause bytes cause → ⊥
mesh_or_cause bytes mesh cause is has =
    let read : mesh_read (dimension_of mesh) (mesh_of mesh).vertices (mesh_of mesh).simplices ≡ mesh_refused cause =
    sym (spelled_is_read bytes (dimension_of mesh) (mesh_of mesh).vertices (mesh_of mesh).simplices is.1) ∙ has.1 in
    cc

same_cause : (bytes : List ℕ) (a b : MeshFault) → HasCause bytes a → HasCause bytes b → a ≡ b
same_cause bytes a b has has' = let read : mesh_refused a ≡ mesh_refused b = sym has.1 ∙ has'.1 in cc

-- in the mesh that the bytes spell one thing is found
same_finding : (bytes : List ℕ) (x y : AnyOff) (f g : Finding) → IsMeshOf bytes x → IsMeshOf bytes y → IsFoundIn x f → IsFoundIn y g → f ≡ g
same_finding bytes x y f g is is' found found' =
    let same = one_mesh bytes (dimension_of x) (dimension_of y) (mesh_of x).vertices (mesh_of y).vertices (mesh_of x).simplices (mesh_of y).simplices
    is.1 is'.1 in
    let d : dimension_of x ≡ dimension_of y = same.0 in
    let v : (mesh_of x).vertices ≡ (mesh_of y).vertices = same.1 in
    let s : (mesh_of x).simplices ≡ (mesh_of y).simplices = same.2 in
    let p = one_finding (dimension_of x) (mesh_of x).vertices (mesh_of x).simplices f found in
    let q = one_finding (dimension_of y) (mesh_of y).vertices (mesh_of y).simplices g found' in
    cc

one_off : (bytes : List ℕ) (a b : Status) → IsRefusedOff bytes a → IsRefusedOff bytes b → a ≡ b
one_off bytes _ _ (too_many_bytes long) (too_many_bytes other) = refl
one_off bytes _ _ (too_many_bytes long) (wrong_word cause has) = absurd (omega (arith, long, has.0))
one_off bytes _ _ (wrong_word cause has) (too_many_bytes long) = absurd (omega (arith, long, has.0))
one_off bytes _ _ (wrong_word c has) (wrong_word e has') = ap mesh_refusal (same_cause bytes c e has has')

-- the file of a mesh is not refused by its form
not_refused_off : (bytes : List ℕ) (mesh : AnyOff) (status : Status) → IsMeshOf bytes mesh → IsRefusedOff bytes status → ⊥
not_refused_off bytes mesh _ is (too_many_bytes long) = omega (arith, long, is.0)
not_refused_off bytes mesh _ is (wrong_word cause has) = mesh_or_cause bytes mesh cause is has

off_or_finding : (bytes : List ℕ) (a b : Status) → IsRefusedOff bytes a → IsRefusedByFinding bytes b → ⊥
off_or_finding bytes a _ off (not_glued mesh f is found fault) = not_refused_off bytes mesh a is off

one_by_finding : (bytes : List ℕ) (a b : Status) → IsRefusedByFinding bytes a → IsRefusedByFinding bytes b → a ≡ b
one_by_finding bytes _ _ (not_glued x f is found fault) (not_glued y g is' found' fault') =
    ap Statuses.AuditFault (same_finding bytes x y f g is is' found found')

-- the bytes of a file to be audited are refused with one status
pub one_audit_refusal : (bytes : List ℕ) (a b : Status) → IsRefusedAudit bytes a → IsRefusedAudit bytes b → a ≡ b
one_audit_refusal bytes a b (by_off p) (by_off q) = one_off bytes a b p q
one_audit_refusal bytes a b (by_off p) (by_finding q) = absurd (off_or_finding bytes a b p q)
one_audit_refusal bytes a b (by_finding p) (by_off q) = absurd (off_or_finding bytes b a q p)
one_audit_refusal bytes a b (by_finding p) (by_finding q) = one_by_finding bytes a b p q

-- ---- glued meshes

-- the file of a mesh whose simplices are glued is not refused
not_refused_glued : (bytes : List ℕ) (mesh : AnyOff) (n : ℕ) (status : Status) → IsMeshOf bytes mesh → IsFoundIn mesh (Findings.Clean n)
    → IsRefusedAudit bytes status → ⊥
not_refused_glued bytes mesh n status is clean (by_off refused) = not_refused_off bytes mesh status is refused
not_refused_glued bytes mesh n _ is clean (by_finding (not_glued other f is' found fault)) =
    fault (subst SaysGlued (same_finding bytes mesh other (Findings.Clean n) f is is' clean found) tt)

pub not_refused_audit : (files : Files) (name : List ℕ) (n : ℕ) (status : Status) → HoldsGlued (Some files) name n
    → FileHas (Some files) name (λ bytes. IsRefusedAudit bytes status) → ⊥
not_refused_audit files name n status holds refused =
    let both = both_have files name (λ bytes. IsMeshOf bytes holds.mesh) (λ bytes. IsRefusedAudit bytes status) holds.held refused in
    not_refused_glued both.0 holds.mesh n status both.1 holds.clean both.2

-- a finding that is not clean says that the simplices are not glued
pub not_clean : (finding : Finding) → ((n : ℕ) → finding ≡ Findings.Clean n → ⊥) → SaysGlued finding → ⊥
not_clean (Findings.Clean n) never glued = never n refl
not_clean (Findings.Repeat i) never glued = glued
not_clean (Findings.Face i place count sum) never glued = glued
not_clean (Findings.Link k) never glued = glued

-- the file of a mesh whose simplices are not glued is refused
pub found_refused : (files : Option Files) (name : List ℕ) (mesh : AnyOff) (finding : Finding) → HoldsOff files name mesh → IsFoundIn mesh finding
    → (SaysGlued finding → ⊥) → IsRefusedFile files name IsRefusedAudit (Statuses.AuditFault finding)
found_refused files name mesh finding held found fault =
    file_map files name (λ bytes. IsMeshOf bytes mesh) (λ bytes. IsRefusedAudit bytes (Statuses.AuditFault finding))
    (λ bytes is. by_finding (not_glued mesh finding is found fault)) held

-- ---- what was read

-- bytes that are no mesh are refused with the status of their fault
pub off_refused : (fault : OffFault) (bytes : List ℕ) (new : Option (List ℕ)) → IsRefusal (Some bytes) new fault → IsDecided (off_status fault)
    → IsRefusedOff bytes (off_status fault)
off_refused Faults.Long bytes None refusal decided = absurd refusal.1
off_refused Faults.Long bytes (Some left) refusal decided =
    too_many_bytes (omega (arith, refusal.2, ap (λ (bs : List ℕ). length bs) refusal.1, length-append refusal.0 left))
off_refused (Faults.Header n) bytes new refusal decided = wrong_word (wrong_header n) refusal.1
off_refused (Faults.Count n) bytes new refusal decided = wrong_word (wrong_count n) refusal.1
off_refused (Faults.Coordinate n) bytes new refusal decided = wrong_word (wrong_coordinate n) refusal.1
off_refused (Faults.FaceSize n) bytes new refusal decided = wrong_word (wrong_size n) refusal.1
off_refused (Faults.Index n) bytes new refusal decided = wrong_word (wrong_index n) refusal.1
off_refused (Faults.Extra n) bytes new refusal decided = wrong_word (extra_word n) refusal.1
off_refused (Faults.Short n) bytes new refusal decided = wrong_word (short_of_words n) refusal.1
off_refused (Faults.Shelf count) bytes new refusal decided = absurd decided
off_refused Faults.Memory bytes new refusal decided = absurd decided

-- no more bytes came than a mesh file has
pub off_open : (files : Option Files) (name : List ℕ) (old new : Option (List ℕ)) → BeginsFile {E = Failed} files old name (Ok tt)
    → Takes (λ n. n ≤ limit) old new → IsTakenFrom files name new IsShortFront
off_open files name old new begun takes = taken_of files name old new IsShortFront begun (takes.0, takes.2, takes.1)

-- what is left where no mesh was read
pub off_leaves : (files : Option Files) (name : List ℕ) (old new : Option (List ℕ)) (fault : OffFault)
    → BeginsFile {E = Failed} files old name (Ok tt) → IsRefusal old new fault → LeavesOff files name new (off_status fault)
off_leaves files name old new Faults.Long begun refusal =
    file_has files name old (λ bytes. new ≡ Some (drop (limit + 1) bytes)) begun
    (λ bytes there rest. left_behind bytes refusal.0 old new (limit + 1) rest refusal.1 refusal.2)
off_leaves files name old new (Faults.Shelf count) begun refusal = off_open files name old new begun refusal
off_leaves files name old new Faults.Memory begun refusal = off_open files name old new begun refusal
off_leaves files name old new (Faults.Header n) begun refusal = refusal.0.1
off_leaves files name old new (Faults.Count n) begun refusal = refusal.0.1
off_leaves files name old new (Faults.Coordinate n) begun refusal = refusal.0.1
off_leaves files name old new (Faults.FaceSize n) begun refusal = refusal.0.1
off_leaves files name old new (Faults.Index n) begun refusal = refusal.0.1
off_leaves files name old new (Faults.Extra n) begun refusal = refusal.0.1
off_leaves files name old new (Faults.Short n) begun refusal = refusal.0.1
