use Rattle.std.proofs.Common.{◌≡◌, ◌≢◌, rules, refl}
use Rattle.std.specs.Prelude.{Err}
use Rattle.audit.specs.Texts.{IsFirstFault}
use Rattle.audit.specs.declared.fault.AuditFault.TheVariants.{Memory}
use Rattle.kernel.specs.declared.texts.RunError.TheVariants as error
use Rattle.commands.specs.declared.running.Failure.TheVariants as failure
use Rattle.commands.proofs.RunningLemmas.{ends_cut}
use Rattle.commands.proofs.running.audit_trace.Goals as goal

pub returns-in_err-put_fault-in-Err-2 : goal.returns-in_err-put_fault-in-Err-2
returns-in_err-put_fault-in-Err-2 g c =
    let why = c.in-Err.why in
    let other : why.fault ≢ Memory = search rules in
    let is : c.from_residual.result ≡ Err (failure.Run error.Write) = search rules in
    ends_cut c.args.tells_law c.args.trace.now _ _ _ _ why c.from_residual.result is (c.in-Err.ensures.first why refl other) c.in_err-put_fault-in-Err-2.ensures.cut

pub returns-in_ok-put_fault-in-Err-2 : goal.returns-in_ok-put_fault-in-Err-2
returns-in_ok-put_fault-in-Err-2 g c =
    let why = c.in-Err.why in
    let other : why.fault ≢ Memory = search rules in
    (c.args.trace.now, refl, (c.in-Err.ensures.refused why refl other, (why, c.in-Err.ensures.first why refl other, c.in_ok-put_fault-in-Err-2.ensures.ok)))
