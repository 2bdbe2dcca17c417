use Rattle.std.proofs.Common.{◌≡◌, ◌≢◌, ℕ, List, length, subst, sym, ap, ◌∙◌}
use Rattle.iso_formats.specs.GridFile.{SpellsGrid, SpellsSamples, Header}
use Rattle.iso_formats.specs.GridFaults.{HasHeaderFault, HasSampleFault}
use Rattle.std.specs.Prelude.{Err, IfSome}
use Rattle.nrrd_raw.specs.FaultCauses.{cause_of}
use Rattle.nrrd_raw.specs.Shapes.{axes-stated}
use Rattle.iso_cli.specs.declared.status.Status.{Status}
use Rattle.iso_cli.specs.declared.status.Status.TheVariants.{Unfit}
use Rattle.iso_cli.specs.StatusCauses.{grid_status}
use Rattle.iso_cli.specs.Axes.{needed_by}
use Rattle.iso_cli.specs.Refusals.{FileHas, IsRefusedGrid}
use Rattle.iso_cli.specs.Rests.{LeavesGridFile}
use Rattle.iso_cli.specs.Statuses.{IsDecided}
use Rattle.iso_cli.proofs.Interrupting.{behind_read, header_leaves, samples_leave}
use Rattle.iso_cli.proofs.Refusing.{IfErr-more, behind_header, file_has, header_refused, known, samples_refused, unfit_refused}
use Rattle.iso_cli.proofs.files.read_grid.Goals as goal

pub returns-in_err-header-clause-refused : goal.returns-in_err-header-clause-refused
returns-in_err-header-clause-refused g c =
    let refused : IsDecided (grid_status c.in_err-header.field-0.0)
    → FileHas (g.S.Shelf.files c.args.shelf.now) c.args.name.now
    (λ bytes. IsRefusedGrid (needed_by c.args.axes) bytes (grid_status c.in_err-header.field-0.0)) =
    λ decided.
    file_has (g.S.Shelf.files c.args.shelf.now) c.args.name.now (g.S.Shelf.rest c.begin.new.self)
    (λ bytes. IsRefusedGrid (needed_by c.args.axes) bytes (grid_status c.in_err-header.field-0.0)) c.in_ok-begin.ensures.begun
    (λ bytes there rest. header_refused (needed_by c.args.axes) bytes c.in_err-header.field-0.0
    (known (g.S.Shelf.rest c.begin.new.self) bytes (λ bs. IfSome (cause_of c.in_err-header.field-0.0) (HasHeaderFault bs)) rest
    c.in_err-header.ensures.cause) decided) in
    IfErr-more c.from_residual-in_err-header.result (λ status. status ≡ grid_status c.in_err-header.field-0.0) _ c.from_residual-in_err-header.ensures.1
    (λ status is.
    subst
    (λ (s : Status).
    IsDecided s → FileHas (g.S.Shelf.files c.args.shelf.now) c.args.name.now (λ bytes. IsRefusedGrid (needed_by c.args.axes) bytes s))
    (sym is) refused)

pub returns-then-header-needed-clause-refused : goal.returns-then-header-needed-clause-refused
returns-then-header-needed-clause-refused g c = λ decided.
    let same : length c.in_ok-header.header.sizes ≡ c.header.inside.dims =
    ap (λ (h : Header). length h.sizes) (sym c.header.view_is) ∙ axes-stated c.header.inside.dims c.header.inside.sizes c.header.invariant in
    let is : c.needed-needed.result ≡ needed_by c.args.axes c.header.inside.dims = c.needed-needed.ensures in
    let differ : c.header.inside.dims ≢ needed_by c.args.axes c.header.inside.dims = λ e. c.if-header-needed.true (e ∙ sym is) in
    file_has (g.S.Shelf.files c.args.shelf.now) c.args.name.now (g.S.Shelf.rest c.begin.new.self)
    (λ bytes. IsRefusedGrid (needed_by c.args.axes) bytes (Unfit c.needed-needed.result c.header.inside.dims)) c.in_ok-begin.ensures.begun
    (λ bytes there rest.
    let behind =
    behind_header bytes (g.S.Shelf.rest c.begin.new.self) (g.S.Shelf.rest c.read_header.new.shelf) c.in_ok-header.header rest
    c.in_ok-header.ensures.read in
    subst (λ (n : ℕ). IsRefusedGrid (needed_by c.args.axes) bytes (Unfit n c.header.inside.dims)) (sym is)
    (unfit_refused (needed_by c.args.axes) c.header.inside.dims bytes behind.0 c.in_ok-header.header behind.1 same differ))

pub returns-in_err-read_samples-clause-refused : goal.returns-in_err-read_samples-clause-refused
returns-in_err-read_samples-clause-refused g c =
    let same : length c.in_ok-header.header.sizes ≡ c.header.inside.dims =
    ap (λ (h : Header). length h.sizes) (sym c.header.view_is) ∙ axes-stated c.header.inside.dims c.header.inside.sizes c.header.invariant in
    let fits : needed_by c.args.axes (length c.in_ok-header.header.sizes) ≡ length c.in_ok-header.header.sizes =
    subst (λ (n : ℕ). needed_by c.args.axes n ≡ n) (sym same) (sym c.needed-needed.ensures ∙ sym c.if-header-needed.false) in
    let refused : IsDecided (grid_status c.in_err-read_samples.field-0.0)
    → FileHas (g.S.Shelf.files c.args.shelf.now) c.args.name.now
    (λ bytes. IsRefusedGrid (needed_by c.args.axes) bytes (grid_status c.in_err-read_samples.field-0.0)) =
    λ decided.
    file_has (g.S.Shelf.files c.args.shelf.now) c.args.name.now (g.S.Shelf.rest c.begin.new.self)
    (λ bytes. IsRefusedGrid (needed_by c.args.axes) bytes (grid_status c.in_err-read_samples.field-0.0)) c.in_ok-begin.ensures.begun
    (λ bytes there rest.
    let behind =
    behind_header bytes (g.S.Shelf.rest c.begin.new.self) (g.S.Shelf.rest c.read_header.new.shelf) c.in_ok-header.header rest
    c.in_ok-header.ensures.read in
    samples_refused (needed_by c.args.axes) bytes behind.0 c.in_ok-header.header c.in_err-read_samples.field-0.0 behind.1 fits
    (known (g.S.Shelf.rest c.read_header.new.shelf) behind.0
    (λ bs. IfSome (cause_of c.in_err-read_samples.field-0.0) (HasSampleFault c.in_ok-header.header bs)) behind.2
    c.in_err-read_samples.ensures.cause) decided) in
    IfErr-more c.from_residual-in_err-read_samples.result (λ status. status ≡ grid_status c.in_err-read_samples.field-0.0) _
    c.from_residual-in_err-read_samples.ensures.1
    (λ status is.
    subst
    (λ (s : Status).
    IsDecided s → FileHas (g.S.Shelf.files c.args.shelf.now) c.args.name.now (λ bytes. IsRefusedGrid (needed_by c.args.axes) bytes s))
    (sym is) refused)

pub returns-clause-held : goal.returns-clause-held
returns-clause-held g c =
    file_has (g.S.Shelf.files c.args.shelf.now) c.args.name.now (g.S.Shelf.rest c.begin.new.self)
    (λ bytes. SpellsGrid bytes c.in_ok-read_samples.field-0) c.in_ok-begin.ensures.begun
    (λ bytes there rest.
    let behind = behind_header bytes (g.S.Shelf.rest c.begin.new.self) (g.S.Shelf.rest c.read_header.new.shelf) c.in_ok-header.header rest
    c.in_ok-header.ensures.read in (
      c.in_ok-header.header,
      behind.0,
      behind.1,
      known (g.S.Shelf.rest c.read_header.new.shelf) behind.0 (λ bs. SpellsSamples c.in_ok-header.header bs c.in_ok-read_samples.field-0) behind.2
          c.in_ok-read_samples.ensures.spelled,
    ))

pub returns-in_err-header-clause-left : goal.returns-in_err-header-clause-left
returns-in_err-header-clause-left g c =
    let leaves : LeavesGridFile (g.S.Shelf.files c.args.shelf.now) c.args.name.now (needed_by c.args.axes) (g.S.Shelf.rest c.read_header.new.shelf)
    (grid_status c.in_err-header.field-0.0) =
    header_leaves (g.S.Shelf.files c.args.shelf.now) c.args.name.now (needed_by c.args.axes) (g.S.Shelf.rest c.begin.new.self)
    (g.S.Shelf.rest c.read_header.new.shelf) c.in_err-header.field-0.0 c.in_ok-begin.ensures.begun c.in_err-header.ensures.causes
    c.in_err-header.ensures.undecided in
    IfErr-more c.from_residual-in_err-header.result (λ status. status ≡ grid_status c.in_err-header.field-0.0) _ c.from_residual-in_err-header.ensures.1
    (λ status is.
    subst
    (λ (s : Status).
    LeavesGridFile (g.S.Shelf.files c.args.shelf.now) c.args.name.now (needed_by c.args.axes) (g.S.Shelf.rest c.read_header.new.shelf) s)
    (sym is) leaves)

pub returns-then-header-needed-clause-left : goal.returns-then-header-needed-clause-left
returns-then-header-needed-clause-left g c = record {
  samples =
      behind_read (g.S.Shelf.files c.args.shelf.now) c.args.name.now (g.S.Shelf.rest c.begin.new.self) (g.S.Shelf.rest c.read_header.new.shelf)
      c.in_ok-header.header c.in_ok-begin.ensures.begun c.in_ok-header.ensures.read;
  undecided = λ fault. absurd fault;
}

pub returns-in_err-read_samples-clause-left : goal.returns-in_err-read_samples-clause-left
returns-in_err-read_samples-clause-left g c =
    let same : length c.in_ok-header.header.sizes ≡ c.header.inside.dims =
    ap (λ (h : Header). length h.sizes) (sym c.header.view_is) ∙ axes-stated c.header.inside.dims c.header.inside.sizes c.header.invariant in
    let fits : needed_by c.args.axes (length c.in_ok-header.header.sizes) ≡ length c.in_ok-header.header.sizes =
    subst (λ (n : ℕ). needed_by c.args.axes n ≡ n) (sym same) (sym c.needed-needed.ensures ∙ sym c.if-header-needed.false) in
    let leaves : LeavesGridFile (g.S.Shelf.files c.args.shelf.now) c.args.name.now (needed_by c.args.axes) (g.S.Shelf.rest c.read_samples.new.shelf)
    (grid_status c.in_err-read_samples.field-0.0) =
    samples_leave (g.S.Shelf.files c.args.shelf.now) c.args.name.now (needed_by c.args.axes) (g.S.Shelf.rest c.begin.new.self)
    (g.S.Shelf.rest c.read_header.new.shelf) (g.S.Shelf.rest c.read_samples.new.shelf) c.in_ok-header.header c.in_err-read_samples.field-0.0
    c.in_ok-begin.ensures.begun c.in_ok-header.ensures.read fits
    (λ count is. ap g.S.Shelf.rest (c.in_err-read_samples.ensures.untouched (c.in_err-read_samples.ensures.large_only count (ap Err is)).0))
    c.in_err-read_samples.ensures.undecided in
    IfErr-more c.from_residual-in_err-read_samples.result (λ status. status ≡ grid_status c.in_err-read_samples.field-0.0) _
    c.from_residual-in_err-read_samples.ensures.1
    (λ status is.
    subst
    (λ (s : Status).
    LeavesGridFile (g.S.Shelf.files c.args.shelf.now) c.args.name.now (needed_by c.args.axes) (g.S.Shelf.rest c.read_samples.new.shelf) s)
    (sym is) leaves)

pub returns-clause-fits : goal.returns-clause-fits
returns-clause-fits g c =
    let same : length c.in_ok-header.header.sizes ≡ c.header.inside.dims =
    ap (λ (h : Header). length h.sizes) (sym c.header.view_is) ∙ axes-stated c.header.inside.dims c.header.inside.sizes c.header.invariant in
    let fits : needed_by c.args.axes (length c.in_ok-header.header.sizes) ≡ length c.in_ok-header.header.sizes =
    subst (λ (n : ℕ). needed_by c.args.axes n ≡ n) (sym same) (sym c.needed-needed.ensures ∙ sym c.if-header-needed.false) in
    subst (λ (sizes : List ℕ). needed_by c.args.axes (length sizes) ≡ length sizes) (sym c.in_ok-read_samples.ensures.sizes) fits
