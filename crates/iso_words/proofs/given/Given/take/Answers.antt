use Rattle.std.proofs.Common.{◌≡◌, true, refl, sym, ◌∙◌, subst}
use Rattle.std.specs.Prelude.{codes}
use Rattle.std.proofs.lemmas.Bool.{OnTrue_at, OnTrue_from, OnFalse_from}
use Rattle.iso_words.specs.declared.keys.Key.{Key}
use Rattle.iso_words.specs.declared.keys.Key.TheVariants.{Kind, Dim, Size, Seed, Table, Grid, Iso, Mesh, From, To}
use Rattle.iso_words.specs.Keys.{has_key, HasValue}
use Rattle.iso_words.specs.Given.{IsKind, IsDimension, IsSize, IsSeed, IsIsovalue, Fit, InOrder}
use Rattle.iso_words.proofs.KeyLemmas.{has_key_of-key, has_key_of-no_key}
use Rattle.iso_words.proofs.StoodLemmas.{first_beside, first_stands}
use Rattle.iso_words.proofs.TakenLemmas.{Gave-taken}
use Rattle.iso_words.proofs.RightLemmas.{not_begin-unkeyed}
use Rattle.iso_words.proofs.TakeLemmas.{never_kind, never_dimension, never_size, never_seed, first_file, never_file, never_isovalue, never_first, never_last}
use Rattle.iso_words.proofs.given.Given.take.Goals as goal

pub returns-in_default-clause-refused : goal.returns-in_default-clause-refused
returns-in_default-clause-refused c =
    λ further g. not_begin-unkeyed c.args.name further c.args.word.now (has_key_of-no_key c.args.name c.args.word.now c.in_default.ensures)

pub returns-then-not-has-clause-refused : goal.returns-then-not-has-clause-refused
returns-then-not-has-clause-refused c = λ further g.
    not_begin-unkeyed c.args.name further c.args.word.now
    (has_key_of-key c.args.name c.in-Some.key c.args.word.now c.in-Some.value.now c.in-Some.ensures ∙ sym c.if-not-has.ensures)

pub returns-in-Kind-clause-taken : goal.returns-in-Kind-clause-taken
returns-in-Kind-clause-taken c = λ further g. OnTrue_from c.put.result _ (λ t.
    let e = subst (λ (k : Key). HasValue c.args.word.now k c.in-Some.value.now) c.in-Kind.is c.in-Some.ensures in
    let has = subst (λ (k : Key). true ≡ has_key c.args.name k) c.in-Kind.is c.if-not-has.ensures in
    let first =
    first_beside IsKind (λ o. Fit o c.args.self.now.dim c.args.self.now.size) c.args.self.now.kind c.kind_beside.result (codes "kind") further c.args.word.now
    c.in-Some.value.now e (g.stood Kind) (sym c.put.ensures.first ∙ t) c.kind_beside.ensures in
    Gave-taken c.args.name Kind c.args.self.now _ further c.args.word.now c.in-Some.value.now (sym has) e refl
    (rw (OnTrue_at t c.put.ensures.value) first.0) (rw (OnTrue_at t c.put.ensures.value) first.1) g.ordered g)

pub returns-in-Kind-clause-refused : goal.returns-in-Kind-clause-refused
returns-in-Kind-clause-refused c = λ further g. OnFalse_from c.put.result _ (λ t.
    let e = subst (λ (k : Key). HasValue c.args.word.now k c.in-Some.value.now) c.in-Kind.is c.in-Some.ensures in
    let has = subst (λ (k : Key). true ≡ has_key c.args.name k) c.in-Kind.is c.if-not-has.ensures in
    never_kind c.args.name further c.args.word.now c.in-Some.value.now c.args.self.now.kind c.kind_beside.result c.args.self.now.dim
    c.args.self.now.size (sym has) e (g.stood Kind) (g.stood Dim) (g.stood Size) g.fits c.kind_beside.ensures (sym c.put.ensures.first ∙ t))

pub returns-in-Dim-clause-taken : goal.returns-in-Dim-clause-taken
returns-in-Dim-clause-taken c = λ further g. OnTrue_from c.put-in-Dim.result _ (λ t.
    let e = subst (λ (k : Key). HasValue c.args.word.now k c.in-Some.value.now) c.in-Dim.is c.in-Some.ensures in
    let has = subst (λ (k : Key). true ≡ has_key c.args.name k) c.in-Dim.is c.if-not-has.ensures in
    let first =
    first_beside IsDimension (λ o. Fit c.args.self.now.kind o c.args.self.now.size) c.args.self.now.dim c.dimension_beside.result (codes "dim") further
    c.args.word.now c.in-Some.value.now e (g.stood Dim) (sym c.put-in-Dim.ensures.first ∙ t) c.dimension_beside.ensures in
    Gave-taken c.args.name Dim c.args.self.now _ further c.args.word.now c.in-Some.value.now (sym has) e refl
    (rw (OnTrue_at t c.put-in-Dim.ensures.value) first.0) (rw (OnTrue_at t c.put-in-Dim.ensures.value) first.1) g.ordered g)

pub returns-in-Dim-clause-refused : goal.returns-in-Dim-clause-refused
returns-in-Dim-clause-refused c = λ further g. OnFalse_from c.put-in-Dim.result _ (λ t.
    let e = subst (λ (k : Key). HasValue c.args.word.now k c.in-Some.value.now) c.in-Dim.is c.in-Some.ensures in
    let has = subst (λ (k : Key). true ≡ has_key c.args.name k) c.in-Dim.is c.if-not-has.ensures in
    never_dimension c.args.name further c.args.word.now c.in-Some.value.now c.args.self.now.dim c.dimension_beside.result c.args.self.now.kind
    c.args.self.now.size (sym has) e (g.stood Dim) (g.stood Kind) (g.stood Size) g.fits c.dimension_beside.ensures (sym c.put-in-Dim.ensures.first ∙ t))

pub returns-in-Size-clause-taken : goal.returns-in-Size-clause-taken
returns-in-Size-clause-taken c = λ further g. OnTrue_from c.put-in-Size.result _ (λ t.
    let e = subst (λ (k : Key). HasValue c.args.word.now k c.in-Some.value.now) c.in-Size.is c.in-Some.ensures in
    let has = subst (λ (k : Key). true ≡ has_key c.args.name k) c.in-Size.is c.if-not-has.ensures in
    let first =
    first_beside IsSize (λ o. Fit c.args.self.now.kind c.args.self.now.dim o) c.args.self.now.size c.size_beside.result (codes "size") further
    c.args.word.now c.in-Some.value.now e (g.stood Size) (sym c.put-in-Size.ensures.first ∙ t) c.size_beside.ensures in
    Gave-taken c.args.name Size c.args.self.now _ further c.args.word.now c.in-Some.value.now (sym has) e refl
    (rw (OnTrue_at t c.put-in-Size.ensures.value) first.0) (rw (OnTrue_at t c.put-in-Size.ensures.value) first.1) g.ordered g)

pub returns-in-Size-clause-refused : goal.returns-in-Size-clause-refused
returns-in-Size-clause-refused c = λ further g. OnFalse_from c.put-in-Size.result _ (λ t.
    let e = subst (λ (k : Key). HasValue c.args.word.now k c.in-Some.value.now) c.in-Size.is c.in-Some.ensures in
    let has = subst (λ (k : Key). true ≡ has_key c.args.name k) c.in-Size.is c.if-not-has.ensures in
    never_size c.args.name further c.args.word.now c.in-Some.value.now c.args.self.now.size c.size_beside.result c.args.self.now.kind
    c.args.self.now.dim (sym has) e (g.stood Size) (g.stood Kind) (g.stood Dim) g.fits c.size_beside.ensures (sym c.put-in-Size.ensures.first ∙ t))

pub returns-in-Seed-clause-taken : goal.returns-in-Seed-clause-taken
returns-in-Seed-clause-taken c = λ further g. OnTrue_from c.put-in-Seed.result _ (λ t.
    let e = subst (λ (k : Key). HasValue c.args.word.now k c.in-Some.value.now) c.in-Seed.is c.in-Some.ensures in
    let has = subst (λ (k : Key). true ≡ has_key c.args.name k) c.in-Seed.is c.if-not-has.ensures in
    let first =
    first_stands IsSeed c.args.self.now.seed c.seed.result (codes "seed") further c.args.word.now c.in-Some.value.now e (g.stood Seed)
    (sym c.put-in-Seed.ensures.first ∙ t) c.seed.ensures in
    Gave-taken c.args.name Seed c.args.self.now _ further c.args.word.now c.in-Some.value.now (sym has) e refl
    (rw (OnTrue_at t c.put-in-Seed.ensures.value) first) g.fits g.ordered g)

pub returns-in-Seed-clause-refused : goal.returns-in-Seed-clause-refused
returns-in-Seed-clause-refused c = λ further g. OnFalse_from c.put-in-Seed.result _ (λ t.
    let e = subst (λ (k : Key). HasValue c.args.word.now k c.in-Some.value.now) c.in-Seed.is c.in-Some.ensures in
    let has = subst (λ (k : Key). true ≡ has_key c.args.name k) c.in-Seed.is c.if-not-has.ensures in
    never_seed c.args.name further c.args.word.now c.in-Some.value.now c.args.self.now.seed c.seed.result (sym has) e (g.stood Seed) c.seed.ensures
    (sym c.put-in-Seed.ensures.first ∙ t))

pub returns-in-Table-clause-taken : goal.returns-in-Table-clause-taken
returns-in-Table-clause-taken c = λ further g. OnTrue_from c.put-in-Table.result _ (λ t.
    let e = subst (λ (k : Key). HasValue c.args.word.now k c.in-Some.value.now) c.in-Table.is c.in-Some.ensures in
    let has = subst (λ (k : Key). true ≡ has_key c.args.name k) c.in-Table.is c.if-not-has.ensures in
    let first =
    first_file (codes "table") further c.args.word.now c.in-Some.value.now c.args.self.now.table c.file_name.result e (g.stood Table)
    c.file_name.ensures (sym c.put-in-Table.ensures.first ∙ t) in
    Gave-taken c.args.name Table c.args.self.now _ further c.args.word.now c.in-Some.value.now (sym has) e refl
    (rw (OnTrue_at t c.put-in-Table.ensures.value) first) g.fits g.ordered g)

pub returns-in-Table-clause-refused : goal.returns-in-Table-clause-refused
returns-in-Table-clause-refused c = λ further g. OnFalse_from c.put-in-Table.result _ (λ t.
    let e = subst (λ (k : Key). HasValue c.args.word.now k c.in-Some.value.now) c.in-Table.is c.in-Some.ensures in
    let has = subst (λ (k : Key). true ≡ has_key c.args.name k) c.in-Table.is c.if-not-has.ensures in
    never_file c.args.name Table (λ xs s. s) further c.args.word.now c.in-Some.value.now c.args.self.now.table c.file_name.result (sym has) e (g.stood Table)
    c.file_name.ensures (sym c.put-in-Table.ensures.first ∙ t))

pub returns-in-Grid-clause-taken : goal.returns-in-Grid-clause-taken
returns-in-Grid-clause-taken c = λ further g. OnTrue_from c.put-in-Grid.result _ (λ t.
    let e = subst (λ (k : Key). HasValue c.args.word.now k c.in-Some.value.now) c.in-Grid.is c.in-Some.ensures in
    let has = subst (λ (k : Key). true ≡ has_key c.args.name k) c.in-Grid.is c.if-not-has.ensures in
    let first =
    first_file (codes "grid") further c.args.word.now c.in-Some.value.now c.args.self.now.grid c.file_name-in-Grid.result e (g.stood Grid)
    c.file_name-in-Grid.ensures (sym c.put-in-Grid.ensures.first ∙ t) in
    Gave-taken c.args.name Grid c.args.self.now _ further c.args.word.now c.in-Some.value.now (sym has) e refl
    (rw (OnTrue_at t c.put-in-Grid.ensures.value) first) g.fits g.ordered g)

pub returns-in-Grid-clause-refused : goal.returns-in-Grid-clause-refused
returns-in-Grid-clause-refused c = λ further g. OnFalse_from c.put-in-Grid.result _ (λ t.
    let e = subst (λ (k : Key). HasValue c.args.word.now k c.in-Some.value.now) c.in-Grid.is c.in-Some.ensures in
    let has = subst (λ (k : Key). true ≡ has_key c.args.name k) c.in-Grid.is c.if-not-has.ensures in
    never_file c.args.name Grid (λ xs s. s) further c.args.word.now c.in-Some.value.now c.args.self.now.grid c.file_name-in-Grid.result (sym has) e
    (g.stood Grid) c.file_name-in-Grid.ensures (sym c.put-in-Grid.ensures.first ∙ t))

pub returns-in-Iso-clause-taken : goal.returns-in-Iso-clause-taken
returns-in-Iso-clause-taken c = λ further g. OnTrue_from c.put-in-Iso.result _ (λ t.
    let e = subst (λ (k : Key). HasValue c.args.word.now k c.in-Some.value.now) c.in-Iso.is c.in-Some.ensures in
    let has = subst (λ (k : Key). true ≡ has_key c.args.name k) c.in-Iso.is c.if-not-has.ensures in
    let first =
    first_stands IsIsovalue c.args.self.now.iso c.isovalue.result (codes "iso") further c.args.word.now c.in-Some.value.now e (g.stood Iso)
    (sym c.put-in-Iso.ensures.first ∙ t) c.isovalue.ensures in
    Gave-taken c.args.name Iso c.args.self.now _ further c.args.word.now c.in-Some.value.now (sym has) e refl
    (rw (OnTrue_at t c.put-in-Iso.ensures.value) first) g.fits g.ordered g)

pub returns-in-Iso-clause-refused : goal.returns-in-Iso-clause-refused
returns-in-Iso-clause-refused c = λ further g. OnFalse_from c.put-in-Iso.result _ (λ t.
    let e = subst (λ (k : Key). HasValue c.args.word.now k c.in-Some.value.now) c.in-Iso.is c.in-Some.ensures in
    let has = subst (λ (k : Key). true ≡ has_key c.args.name k) c.in-Iso.is c.if-not-has.ensures in
    never_isovalue c.args.name further c.args.word.now c.in-Some.value.now c.args.self.now.iso c.isovalue.result (sym has) e (g.stood Iso) c.isovalue.ensures
    (sym c.put-in-Iso.ensures.first ∙ t))

pub returns-in-Mesh-clause-taken : goal.returns-in-Mesh-clause-taken
returns-in-Mesh-clause-taken c = λ further g. OnTrue_from c.put-in-Mesh.result _ (λ t.
    let e = subst (λ (k : Key). HasValue c.args.word.now k c.in-Some.value.now) c.in-Mesh.is c.in-Some.ensures in
    let has = subst (λ (k : Key). true ≡ has_key c.args.name k) c.in-Mesh.is c.if-not-has.ensures in
    let first =
    first_file (codes "mesh") further c.args.word.now c.in-Some.value.now c.args.self.now.mesh c.file_name-in-Mesh.result e (g.stood Mesh)
    c.file_name-in-Mesh.ensures (sym c.put-in-Mesh.ensures.first ∙ t) in
    Gave-taken c.args.name Mesh c.args.self.now _ further c.args.word.now c.in-Some.value.now (sym has) e refl
    (rw (OnTrue_at t c.put-in-Mesh.ensures.value) first) g.fits g.ordered g)

pub returns-in-Mesh-clause-refused : goal.returns-in-Mesh-clause-refused
returns-in-Mesh-clause-refused c = λ further g. OnFalse_from c.put-in-Mesh.result _ (λ t.
    let e = subst (λ (k : Key). HasValue c.args.word.now k c.in-Some.value.now) c.in-Mesh.is c.in-Some.ensures in
    let has = subst (λ (k : Key). true ≡ has_key c.args.name k) c.in-Mesh.is c.if-not-has.ensures in
    never_file c.args.name Mesh (λ xs s. s) further c.args.word.now c.in-Some.value.now c.args.self.now.mesh c.file_name-in-Mesh.result (sym has) e
    (g.stood Mesh) c.file_name-in-Mesh.ensures (sym c.put-in-Mesh.ensures.first ∙ t))

pub returns-in-From-clause-taken : goal.returns-in-From-clause-taken
returns-in-From-clause-taken c = λ further g. OnTrue_from c.put-in-From.result _ (λ t.
    let e = subst (λ (k : Key). HasValue c.args.word.now k c.in-Some.value.now) c.in-From.is c.in-Some.ensures in
    let has = subst (λ (k : Key). true ≡ has_key c.args.name k) c.in-From.is c.if-not-has.ensures in
    let first =
    first_beside IsIsovalue (λ o. InOrder o c.args.self.now.to) c.args.self.now.from c.first_isovalue.result (codes "from") further c.args.word.now
    c.in-Some.value.now e (g.stood From) (sym c.put-in-From.ensures.first ∙ t) c.first_isovalue.ensures in
    Gave-taken c.args.name From c.args.self.now _ further c.args.word.now c.in-Some.value.now (sym has) e refl
    (rw (OnTrue_at t c.put-in-From.ensures.value) first.0) g.fits (rw (OnTrue_at t c.put-in-From.ensures.value) first.1) g)

pub returns-in-From-clause-refused : goal.returns-in-From-clause-refused
returns-in-From-clause-refused c = λ further g. OnFalse_from c.put-in-From.result _ (λ t.
    let e = subst (λ (k : Key). HasValue c.args.word.now k c.in-Some.value.now) c.in-From.is c.in-Some.ensures in
    let has = subst (λ (k : Key). true ≡ has_key c.args.name k) c.in-From.is c.if-not-has.ensures in
    never_first c.args.name further c.args.word.now c.in-Some.value.now c.args.self.now.from c.first_isovalue.result c.args.self.now.to (sym has) e
    (g.stood From) (g.stood To) g.ordered c.first_isovalue.ensures (sym c.put-in-From.ensures.first ∙ t))

pub returns-in-To-clause-taken : goal.returns-in-To-clause-taken
returns-in-To-clause-taken c = λ further g. OnTrue_from c.put-in-To.result _ (λ t.
    let e = subst (λ (k : Key). HasValue c.args.word.now k c.in-Some.value.now) c.in-To.is c.in-Some.ensures in
    let has = subst (λ (k : Key). true ≡ has_key c.args.name k) c.in-To.is c.if-not-has.ensures in
    let first =
    first_beside IsIsovalue (λ o. InOrder c.args.self.now.from o) c.args.self.now.to c.last_isovalue.result (codes "to") further c.args.word.now
    c.in-Some.value.now e (g.stood To) (sym c.put-in-To.ensures.first ∙ t) c.last_isovalue.ensures in
    Gave-taken c.args.name To c.args.self.now _ further c.args.word.now c.in-Some.value.now (sym has) e refl
    (rw (OnTrue_at t c.put-in-To.ensures.value) first.0) g.fits (rw (OnTrue_at t c.put-in-To.ensures.value) first.1) g)

pub returns-in-To-clause-refused : goal.returns-in-To-clause-refused
returns-in-To-clause-refused c = λ further g. OnFalse_from c.put-in-To.result _ (λ t.
    let e = subst (λ (k : Key). HasValue c.args.word.now k c.in-Some.value.now) c.in-To.is c.in-Some.ensures in
    let has = subst (λ (k : Key). true ≡ has_key c.args.name k) c.in-To.is c.if-not-has.ensures in
    never_last c.args.name further c.args.word.now c.in-Some.value.now c.args.self.now.to c.last_isovalue.result c.args.self.now.from (sym has) e
    (g.stood To) (g.stood From) g.ordered c.last_isovalue.ensures (sym c.put-in-To.ensures.first ∙ t))
