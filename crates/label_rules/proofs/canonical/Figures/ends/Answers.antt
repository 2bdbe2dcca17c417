use Rattle.std.proofs.Common.{ℕ, ◌<◌, slice_index_or, sym, subst}
use Rattle.iso_model.specs.declared.Kind.{Kind}
use Rattle.iso_model.specs.Cells.{corner_count, edge_count}
use Rattle.label_rules.proofs.FigureLaws.{ends_inside}
use Rattle.label_rules.proofs.canonical.Figures.ends.Goals as goal

pub returns-clause-first : goal.returns-clause-first
returns-clause-first g c =
    let f = c.self.inside in
    let below : c.args.edge < edge_count f.kind g.row.D = subst (λ (kind : Kind). c.args.edge < edge_count kind g.row.D) (sym c.self.view_is) c.requires in
    subst (λ (kind : Kind). (slice_index_or f.edge_ends c.args.edge (0, 0)).0 < corner_count kind g.row.D) c.self.view_is
    (subst (λ (p : ℕ × ℕ). p.0 < corner_count f.kind g.row.D) (sym (c.self.invariant.ends_are c.args.edge below))
    (ends_inside f.kind g.row.D c.self.invariant.fits c.args.edge below).0)

pub returns-clause-second : goal.returns-clause-second
returns-clause-second g c =
    let f = c.self.inside in
    let below : c.args.edge < edge_count f.kind g.row.D = subst (λ (kind : Kind). c.args.edge < edge_count kind g.row.D) (sym c.self.view_is) c.requires in
    subst (λ (kind : Kind). (slice_index_or f.edge_ends c.args.edge (0, 0)).1 < corner_count kind g.row.D) c.self.view_is
    (subst (λ (p : ℕ × ℕ). p.1 < corner_count f.kind g.row.D) (sym (c.self.invariant.ends_are c.args.edge below))
    (ends_inside f.kind g.row.D c.self.invariant.fits c.args.edge below).1)
