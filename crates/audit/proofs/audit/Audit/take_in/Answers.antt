use Rattle.std.proofs.Common.{◌≢◌, Err, rules, sym, ◌∙◌, ap}
use Rattle.posix.specs.Common.{line}
use Rattle.laws.specs.Keeping.{fault_of}
use Rattle.audit.specs.Records.{kept_by}
use Rattle.audit.specs.Phases.{phase_said}
use Rattle.audit.specs.Faults.{fault_number}
use Rattle.audit.specs.declared.fault.AuditFault.TheVariants.{Memory}
use Rattle.audit.proofs.PassLemmas.{passes_living, passes_unborn, tested}
use Rattle.audit.proofs.ViewLemmas.{fault_seen, birth_seen, stays_seen, heard_seen}
use Rattle.audit.proofs.audit.Audit.take_in.Goals as goal

pub take_in-requires-clause-process : goal.take_in-requires-clause-process
take_in-requires-clause-process c =
    passes_living (kept_by c.self.inside.known) c.self.inside.last (phase_said c.self.inside.phase) (line c.args.event c.args.entry.now) (sym c.test.ensures.fault ∙ ap fault_number c.in_ok-test.was)

pub take_in-requires-clause-birth : goal.take_in-requires-clause-birth
take_in-requires-clause-birth c =
    passes_unborn (kept_by c.self.inside.known) c.self.inside.last (phase_said c.self.inside.phase) (line c.args.event c.args.entry.now) (sym c.test.ensures.fault ∙ ap fault_number c.in_ok-test.was)

pub returns-in_err-test-clause-tested : goal.returns-in_err-test-clause-tested
returns-in_err-test-clause-tested c =
    let other : c.from_residual.result ≢ Err Memory = search (rules, c.test.ensures.tested) in
    tested c.from_residual.result (fault_of (kept_by c.self.inside.known) c.self.inside.last (phase_said c.self.inside.phase) (line c.args.event c.args.entry.now)) other (search (rules, c.test.ensures.fault))
    ∙ fault_seen c.self.inside.known c.self.inside.last c.self.inside.phase c.self.inside.fault c.args.self.now (line c.args.event c.args.entry.now) c.self.view_is

pub returns-in_err-test-clause-new_number : goal.returns-in_err-test-clause-new_number
returns-in_err-test-clause-new_number c =
    let other : c.from_residual.result ≢ Err Memory = search (rules, c.test.ensures.tested) in
    λ same. absurd (other same)

pub returns-in_default-clause-tested : goal.returns-in_default-clause-tested
returns-in_default-clause-tested c =
    sym (ap fault_number c.in_ok-test.was) ∙ c.test.ensures.fault
    ∙ fault_seen c.self.inside.known c.self.inside.last c.self.inside.phase c.self.inside.fault c.args.self.now (line c.args.event c.args.entry.now) c.self.view_is

pub returns-in_default-clause-err : goal.returns-in_default-clause-err
returns-in_default-clause-err c =
    stays_seen c.self.inside.known c.take_in.new.self c.self.inside.last c.self.inside.phase c.self.inside.fault c.args.self.now c.self.view_is c.in_default.ensures.err

pub returns-in_default-clause-new_number : goal.returns-in_default-clause-new_number
returns-in_default-clause-new_number c = λ same.
    birth_seen c.self.inside.known c.self.inside.last c.self.inside.phase c.self.inside.fault c.args.self.now (line c.args.event c.args.entry.now) c.self.view_is c.in_default.ensures.new_number

pub returns-clause-tested : goal.returns-clause-tested
returns-clause-tested c =
    sym (ap fault_number c.in_ok-test.was) ∙ c.test.ensures.fault
    ∙ fault_seen c.self.inside.known c.self.inside.last c.self.inside.phase c.self.inside.fault c.args.self.now (line c.args.event c.args.entry.now) c.self.view_is

pub returns-clause-ok : goal.returns-clause-ok
returns-clause-ok c =
    heard_seen c.self.inside.known c.take_in.new.self c.self.inside.last c.self.inside.phase c.after-self-inside.result c.self.inside.fault c.args.self.now (line c.args.event c.args.entry.now) c.self.view_is
    c.in-Ok.ensures.ok c.after-self-inside.ensures
