-- Words and files decide at most one refusal.
use Rattle.std.proofs.Common.{◌≡◌, ℕ, ◌<◌, List, length, Option, Some, refl, sym, ap, subst, ◌∙◌, inl, inr, arith}
use Rattle.std.proofs.lemmas.Bool.{cases_lt, false≢true}
use Rattle.iso_base.specs.Files.{Files}
use Rattle.iso_model.specs.declared.Kind.{Kind}
use Rattle.iso_model.specs.Acceptance.{IsRefusedAt}
use Rattle.iso_model.specs.Tables.{Table}
use Rattle.iso_commands.specs.Commands.{Command, IsWrongWord}
use Rattle.iso_commands.specs.Commands.{generate_command, check_command, extract_command, demo_command}
use Rattle.iso_commands.specs.Commands.{convert_command, audit_command, spectrum_command}
use Rattle.iso_formats.specs.GridFaults.{GridFault, HasHeaderFault, HasSampleFault, lines_fault}
use Rattle.iso_formats.specs.GridFaults.{cut_off, no_magic, of_lines, overlong, too_many, unended}
use Rattle.iso_formats.specs.GridFaults as fault
use Rattle.iso_formats.specs.GridFile.{Header}
use Rattle.iso_formats.proofs.HeaderFaultLaws.{header_or_fault}
use Rattle.iso_formats.proofs.LineLaws.{one_header}
use Rattle.std.proofs.lemmas.Option.{same_Some}
use Rattle.table_file.proofs.FileFaultLaws.{same_file_fault}
use Rattle.table_file.proofs.FileLaws.{one_file_table}
use Rattle.iso_words.specs.Built.{is_built}
use Rattle.iso_words.proofs.WrongLemmas.{IsWrongWord-one, Say-one, never_said}
use Rattle.iso_cli.specs.declared.status.Status.{Status}
use Rattle.iso_cli.specs.declared.status.Status.TheVariants as Statuses
use Rattle.iso_cli.specs.Audits.{IsRefusedAudit}
use Rattle.iso_cli.specs.Axes.{axes_needed}
use Rattle.iso_cli.specs.Demonstrations.{IsRefusedMade, made_refused}
use Rattle.iso_cli.specs.OneAnswer.{HaveOneAnswer, LackWhereRefused}
use Rattle.iso_cli.specs.Refusals.{IsFileOf, IsRefusedByRule, IsRefusedForm, IsRefusedGrid, IsRefusedMesh, IsRefusedTable}
use Rattle.iso_cli.specs.Refusals.{by_form, by_grid, by_rule, by_table, grid_refusal, no_header, no_samples, no_table, not_accepted, table_refusal, too_long, unfit}
use Rattle.iso_cli.specs.Runs.{AreRefused, IsTrueAnswer}
use Rattle.iso_cli.specs.Statuses.{IsUsage}
use Rattle.iso_cli.proofs.Answering.{answerable, decided_answer}
use Rattle.iso_cli.proofs.Auditing.{one_audit_refusal}
use Rattle.iso_cli.proofs.Demonstrating.{same_made}
use Rattle.iso_cli.proofs.Excluding.{both_have, not_refused_check, not_refused_form, one_head}

-- ---- tables

one_form : (bytes : List ℕ) (a b : Status) → IsRefusedForm bytes a → IsRefusedForm bytes b → a ≡ b
one_form bytes _ _ (too_long long) (too_long other) = refl
one_form bytes _ _ (too_long long) (no_table g few has) = absurd (few long)
one_form bytes _ _ (no_table f few has) (too_long long) = absurd (few long)
one_form bytes _ _ (no_table f few has) (no_table g few' has') = ap table_refusal (same_file_fault bytes f g has has')

-- a table is refused at one label, by one rule
not_before : (t : Table) (label r m q : ℕ) → IsRefusedAt t label r → IsRefusedAt t m q → label < m → ⊥
not_before t label r m q a b less = a.fails (b.labels_below label r less a.is_rule)

same_label : (t : Table) (label r m q : ℕ) → IsRefusedAt t label r → IsRefusedAt t m q → label ≡ m
same_label t label r m q a b = elim (cases_lt label m) [
  | inl less ↦ absurd (not_before t label r m q a b less)
  | inr most ↦ elim (cases_lt m label) [
    | inl less ↦ absurd (not_before t m q label r b a less)
    | inr least ↦ omega (arith, most, least)
  ]
]

same_rule : (t : Table) (label r q : ℕ) → IsRefusedAt t label r → IsRefusedAt t label q → r ≡ q
same_rule t label r q a b = elim (cases_lt r q) [
  | inl less ↦ absurd (a.fails (b.rules_below r less))
  | inr most ↦ elim (cases_lt q r) [
    | inl less ↦ absurd (b.fails (a.rules_below q less))
    | inr least ↦ omega (arith, most, least)
  ]
]

one_verdict : (t : Table) (label r m q : ℕ) → IsRefusedAt t label r → IsRefusedAt t m q → Statuses.TableRefused label r ≡ Statuses.TableRefused m q
one_verdict t label r m q a b =
    let labels : label ≡ m = same_label t label r m q a b in
    let rules : r ≡ q = same_rule t label r q a (subst (λ (n : ℕ). IsRefusedAt t n q) (sym labels) b) in
    cc

one_rule : (bytes : List ℕ) (a b : Status) → IsRefusedByRule bytes a → IsRefusedByRule bytes b → a ≡ b
one_rule bytes _ _ (not_accepted t label r held refused) (not_accepted u m q held' refused') =
    let same : t ≡ u = one_file_table bytes u t held'.spelled held.spelled in
    one_verdict t label r m q refused (subst (λ (x : Table). IsRefusedAt x m q) (sym same) refused')

form_or_rule : (bytes : List ℕ) (a b : Status) → IsRefusedForm bytes a → IsRefusedByRule bytes b → ⊥
form_or_rule bytes a _ form (not_accepted t label r held refused) = not_refused_form bytes t a held form

one_table_refusal : (bytes : List ℕ) (a b : Status) → IsRefusedTable bytes a → IsRefusedTable bytes b → a ≡ b
one_table_refusal bytes a b (by_form p) (by_form q) = one_form bytes a b p q
one_table_refusal bytes a b (by_form p) (by_rule q) = absurd (form_or_rule bytes a b p q)
one_table_refusal bytes a b (by_rule p) (by_form q) = absurd (form_or_rule bytes b a q p)
one_table_refusal bytes a b (by_rule p) (by_rule q) = one_rule bytes a b p q

one_made_refusal : (kind : Kind) (d : ℕ) (a b : Status) → IsRefusedMade kind d a → IsRefusedMade kind d b → a ≡ b
one_made_refusal kind d _ _ (made_refused t label r made at) (made_refused u m q made' at') =
    one_verdict t label r m q at (subst (λ (x : Table). IsRefusedAt x m q) (same_made kind d u t made' made) at')

-- ---- grids

-- bytes have one fault of the header
same_header_fault : (bytes : List ℕ) (f g : GridFault) → HasHeaderFault bytes f → HasHeaderFault bytes g → f ≡ g
same_header_fault bytes _ _ (no_magic e) (no_magic e') = refl
same_header_fault bytes _ _ (no_magic e) (fault.too_long b l n) = absurd (false≢true (sym e ∙ b))
same_header_fault bytes _ _ (no_magic e) (unended b l n) = absurd (false≢true (sym e ∙ b))
same_header_fault bytes _ _ (no_magic e) (of_lines ts x g b lines found) = absurd (false≢true (sym e ∙ b))
same_header_fault bytes _ _ (fault.too_long b l n) (no_magic e) = absurd (false≢true (sym e ∙ b))
same_header_fault bytes _ _ (fault.too_long b l n) (fault.too_long b' l' n') = refl
same_header_fault bytes _ _ (fault.too_long b l n) (unended b' l' n') = absurd (omega (arith, l, l'))
same_header_fault bytes _ _ (fault.too_long b l n) (of_lines ts x g b' lines found) = absurd (n ts x lines)
same_header_fault bytes _ _ (unended b l n) (no_magic e) = absurd (false≢true (sym e ∙ b))
same_header_fault bytes _ _ (unended b l n) (fault.too_long b' l' n') = absurd (omega (arith, l, l'))
same_header_fault bytes _ _ (unended b l n) (unended b' l' n') = refl
same_header_fault bytes _ _ (unended b l n) (of_lines ts x g b' lines found) = absurd (n ts x lines)
same_header_fault bytes _ _ (of_lines ts x f b lines found) (no_magic e) = absurd (false≢true (sym e ∙ b))
same_header_fault bytes _ _ (of_lines ts x f b lines found) (fault.too_long b' l' n') = absurd (n' ts x lines)
same_header_fault bytes _ _ (of_lines ts x f b lines found) (unended b' l' n') = absurd (n' ts x lines)
same_header_fault bytes _ _ (of_lines ts x f b lines found) (of_lines us y g b' lines' found') =
    let same : ts ≡ us = (one_header bytes ts us x y lines lines').0 in
    same_Some f g (sym found ∙ ap lines_fault same ∙ found')

-- data bytes have one fault of the samples
same_sample_fault : (h : Header) (data_bytes : List ℕ) (f g : GridFault) → HasSampleFault h data_bytes f → HasSampleFault h data_bytes g → f ≡ g
same_sample_fault h data_bytes _ _ (too_many more) (too_many more') = refl
same_sample_fault h data_bytes _ _ (too_many more) (cut_off few short) = absurd (omega (arith, more, few))
same_sample_fault h data_bytes _ _ (too_many more) (overlong few long) = absurd (omega (arith, more, few))
same_sample_fault h data_bytes _ _ (cut_off few short) (too_many more) = absurd (omega (arith, more, few))
same_sample_fault h data_bytes _ _ (cut_off few short) (cut_off few' short') = refl
same_sample_fault h data_bytes _ _ (cut_off few short) (overlong few' long) = absurd (omega (arith, short, long))
same_sample_fault h data_bytes _ _ (overlong few long) (too_many more) = absurd (omega (arith, more, few))
same_sample_fault h data_bytes _ _ (overlong few long) (cut_off few' short) = absurd (omega (arith, short, long))
same_sample_fault h data_bytes _ _ (overlong few long) (overlong few' long') = refl

one_grid_refusal : (needed : ℕ → ℕ) (bytes : List ℕ) (a b : Status) → IsRefusedGrid needed bytes a → IsRefusedGrid needed bytes b → a ≡ b
one_grid_refusal needed bytes _ _ (no_header f has) (no_header g has') = ap grid_refusal (same_header_fault bytes f g has has')
one_grid_refusal needed bytes _ _ (no_header f has) (unfit h x p differ) = absurd (header_or_fault bytes h x f p has)
one_grid_refusal needed bytes _ _ (no_header f has) (no_samples h x g p fits has') = absurd (header_or_fault bytes h x f p has)
one_grid_refusal needed bytes _ _ (unfit h x p differ) (no_header g has) = absurd (header_or_fault bytes h x g p has)
one_grid_refusal needed bytes _ _ (unfit h x p differ) (unfit k y q differ') =
    ap (λ (j : Header). Statuses.Unfit (needed (length j.sizes)) (length j.sizes)) (one_head bytes h k x y p q).0
one_grid_refusal needed bytes _ _ (unfit h x p differ) (no_samples k y g q fits has) =
    absurd (differ (subst (λ (j : Header). needed (length j.sizes) ≡ length j.sizes) (sym (one_head bytes h k x y p q).0) fits))
one_grid_refusal needed bytes _ _ (no_samples h x f p fits has) (no_header g has') = absurd (header_or_fault bytes h x g p has')
one_grid_refusal needed bytes _ _ (no_samples h x f p fits has) (unfit k y q differ) =
    absurd (differ (subst (λ (j : Header). needed (length j.sizes) ≡ length j.sizes) (one_head bytes h k x y p q).0 fits))
one_grid_refusal needed bytes _ _ (no_samples h x f p fits has) (no_samples k y g q fits' has') =
    let same = one_head bytes h k x y p q in
    let moved : HasSampleFault h x g =
    subst (λ (j : Header). HasSampleFault j x g) (sym same.0) (subst (λ (z : List ℕ). HasSampleFault k z g) (sym same.1) has') in
    ap grid_refusal (same_sample_fault h x f g has moved)

-- ---- the files

one_mesh_refusal : (files : Files) (table grid : List ℕ) (a b : Status) → IsRefusedMesh (Some files) table grid a
    → IsRefusedMesh (Some files) table grid b → a ≡ b
one_mesh_refusal files table grid a b (by_table p) (by_table q) =
    let both = both_have files table (λ bytes. IsRefusedTable bytes a) (λ bytes. IsRefusedTable bytes b) p q in
    one_table_refusal both.0 a b both.1 both.2
one_mesh_refusal files table grid a b (by_table p) (by_grid t held q) = absurd (not_refused_check files table t a held p)
one_mesh_refusal files table grid a b (by_grid t held p) (by_table q) = absurd (not_refused_check files table t b held q)
one_mesh_refusal files table grid a b (by_grid t held p) (by_grid u held' q) =
    let tables = both_have files table (λ bytes. IsFileOf bytes t) (λ bytes. IsFileOf bytes u) held.table.held held'.table.held in
    let same : t ≡ u = one_file_table tables.0 u t tables.2.spelled tables.1.spelled in
    let both = both_have files grid (λ bytes. IsRefusedGrid (λ n. t.dimension) bytes a) (λ bytes. IsRefusedGrid (λ n. u.dimension) bytes b) p q in
    let moved : IsRefusedGrid (λ n. t.dimension) both.0 b = subst (λ (x : Table). IsRefusedGrid (λ n. x.dimension) both.0 b) (sym same) both.2 in
    one_grid_refusal (λ n. t.dimension) both.0 a b both.1 moved

one_refusal : (files : Files) (command : Command) (a b : Status) → AreRefused (Some files) a command → AreRefused (Some files) b command
    → a ≡ b
one_refusal files (generate_command kind d) a b p q = absurd p
one_refusal files (check_command table) a b p q =
    let both = both_have files table (λ bytes. IsRefusedTable bytes a) (λ bytes. IsRefusedTable bytes b) p q in
    one_table_refusal both.0 a b both.1 both.2
one_refusal files (extract_command table grid iso) a b p q = one_mesh_refusal files table grid a b p q
one_refusal files (demo_command kind d size seed) a b p q = one_made_refusal kind d a b p q
one_refusal files (convert_command table) a b p q =
    let both = both_have files table (λ bytes. IsRefusedForm bytes a) (λ bytes. IsRefusedForm bytes b) p q in
    one_form both.0 a b both.1 both.2
one_refusal files (audit_command mesh) a b p q =
    let both = both_have files mesh (λ bytes. IsRefusedAudit bytes a) (λ bytes. IsRefusedAudit bytes b) p q in
    one_audit_refusal both.0 a b both.1 both.2
one_refusal files (spectrum_command kind grid from to) a b p q =
    let both = both_have files grid (λ bytes. IsRefusedGrid (axes_needed kind) bytes a) (λ bytes. IsRefusedGrid (axes_needed kind) bytes b) p q in
    one_grid_refusal (axes_needed kind) both.0 a b both.1 both.2

-- ---- the words

-- an answer to wrong words names a wrong word
wrong_answer : (files : Option Files) (words : List (List ℕ)) (status : Status) → IsUsage status → IsTrueAnswer files words status
    → (place : ℕ) × (status ≡ Statuses.Usage place) × IsWrongWord is_built words place
wrong_answer files words (Statuses.Usage place) usage true_of = (place, refl, true_of)
wrong_answer files words _ usage true_of = absurd usage

-- words and files that are refused twice are refused with the same status
pub one_answer : (files : Files) (words : List (List ℕ)) → HaveOneAnswer files words
one_answer files words a b (inl p) (inl q) true_a true_b =
    let one = wrong_answer (Some files) words a p true_a in
    let other = wrong_answer (Some files) words b q true_b in
    one.1 ∙ ap Statuses.Usage (IsWrongWord-one words one.0 other.0 one.2 other.2) ∙ sym other.1
one_answer files words a b (inl p) (inr q) true_a true_b =
    let wrong = wrong_answer (Some files) words a p true_a in
    let said = decided_answer (Some files) words b q true_b in
    absurd (never_said words wrong.0 wrong.2 said.0 said.1 said.2)
one_answer files words a b (inr p) (inl q) true_a true_b =
    let wrong = wrong_answer (Some files) words b q true_b in
    let said = decided_answer (Some files) words a p true_a in
    absurd (never_said words wrong.0 wrong.2 said.0 said.1 said.2)
one_answer files words a b (inr p) (inr q) true_a true_b =
    let one = decided_answer (Some files) words a p true_a in
    let other = decided_answer (Some files) words b q true_b in
    let same : other.0 ≡ one.0 = Say-one words other.0 one.0 other.1 one.1 other.2 one.2 in
    one_refusal files one.0 a b (one.3 p) (subst (λ (c : Command). AreRefused (Some files) b c) same (other.3 q))

-- refused words or files do not hold what the words need
pub lack_where_refused : (files : Files) (words : List (List ℕ)) → LackWhereRefused files words
lack_where_refused files words a (inl p) true_of holds =
    let wrong = wrong_answer (Some files) words a p true_of in
    never_said words wrong.0 wrong.2 holds.0 holds.1 holds.2
lack_where_refused files words a (inr p) true_of holds = (answerable (Some files) words refl holds).1 a p true_of
