use Rattle.std.proofs.Common.{sym, subst}
use Rattle.std.specs.Prelude.{IfOk}
use Rattle.off_read.specs.declared.meshes.AnyOff.{AnyOff}
use Rattle.iso_cli.specs.Audits.{IsFoundIn}
use Rattle.iso_cli.proofs.audits.audit_any.Goals as goal

pub returns-in-O2 : goal.returns-in-O2
returns-in-O2 c = subst (λ (mesh : AnyOff). IfOk c.audit.result (IsFoundIn mesh)) (sym c.in-O2.is) c.audit.ensures

pub returns-in-O3 : goal.returns-in-O3
returns-in-O3 c = subst (λ (mesh : AnyOff). IfOk c.audit-in-O3.result (IsFoundIn mesh)) (sym c.in-O3.is) c.audit-in-O3.ensures

pub returns-in-O4 : goal.returns-in-O4
returns-in-O4 c = subst (λ (mesh : AnyOff). IfOk c.audit-in-O4.result (IsFoundIn mesh)) (sym c.in-O4.is) c.audit-in-O4.ensures
