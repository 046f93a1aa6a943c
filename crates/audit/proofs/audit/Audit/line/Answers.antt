use Rattle.std.proofs.Common.{◌≡◌, refl, sym, ◌∙◌, subst, Some, Err}
use Rattle.audit.specs.Knowing.{AuditView, IsRead, StaysWith}
use Rattle.audit.proofs.KnowLemmas.{ok_read, memory_read, new_read, refused_read, first_read}
use Rattle.audit.proofs.ViewLemmas.{view_of}
use Rattle.audit.proofs.audit.Audit.line.Goals as goal

pub returns-in_default-answer-clause-ok : goal.returns-in_default-answer-clause-ok
returns-in_default-answer-clause-ok c = ok_read c.args.line.now c.read-answer.result c.args.self.now c.read-answer.new.self c.read-answer.ensures

pub returns-in_default-answer-clause-first : goal.returns-in_default-answer-clause-first
returns-in_default-answer-clause-first c = first_read c.args.line.now c.read-answer.result c.args.self.now c.read-answer.new.self c.read-answer.ensures

pub returns-then-ne-clause-refused : goal.returns-then-ne-clause-refused
returns-then-ne-clause-refused c = λ f same other.
    let fault : c.in-Err.fault ≡ f = cc in
    let new : AuditView = c.read-answer.new.self in
    let read : IsRead c.args.line.now (Err c.in-Err.fault) c.args.self.now new = subst (λ r. IsRead c.args.line.now r c.args.self.now new) c.in-Err.is c.read-answer.ensures in
    let stays : StaysWith (Some c.in-Err.fault) c.args.self.now (view_of c.self-2.inside.known c.self-2.inside.last c.self-2.inside.phase (Some c.in-Err.fault)) =
    subst (λ (v : AuditView). StaysWith (Some c.in-Err.fault) c.args.self.now (record v { fault = Some c.in-Err.fault })) (sym c.self-2.view_is) (record { kept = read.stays.kept; last = read.stays.last; phase = read.stays.phase; fault = refl }) in (
      subst (λ g. StaysWith (Some g) c.args.self.now (view_of c.self-2.inside.known c.self-2.inside.last c.self-2.inside.phase (Some c.in-Err.fault))) fault stays,
      refused_read c.args.line.now c.in-Err.fault c.args.self.now new (λ e. other (sym fault ∙ e)) read,
    )

pub returns-then-ne-clause-first : goal.returns-then-ne-clause-first
returns-then-ne-clause-first c =
    first_read c.args.line.now (Err c.in-Err.fault) c.args.self.now c.read-answer.new.self
    (subst (λ r. IsRead c.args.line.now r c.args.self.now c.read-answer.new.self) c.in-Err.is c.read-answer.ensures)

pub returns-else-ne-clause-first : goal.returns-else-ne-clause-first
returns-else-ne-clause-first c =
    first_read c.args.line.now (Err c.in-Err.fault) c.args.self.now c.read-answer.new.self
    (subst (λ r. IsRead c.args.line.now r c.args.self.now c.read-answer.new.self) c.in-Err.is c.read-answer.ensures)

pub returns-else-ne-clause-memory : goal.returns-else-ne-clause-memory
returns-else-ne-clause-memory c = λ same.
    let new : AuditView = c.read-answer.new.self in
    let read = subst (λ r. IsRead c.args.line.now r c.args.self.now new) (c.in-Err.is ∙ same) c.read-answer.ensures in
    (read.stays, memory_read c.args.line.now c.args.self.now new read)

pub returns-else-ne-clause-new_number : goal.returns-else-ne-clause-new_number
returns-else-ne-clause-new_number c = λ same.
    let new : AuditView = c.read-answer.new.self in
    new_read c.args.line.now c.args.self.now new (subst (λ r. IsRead c.args.line.now r c.args.self.now new) (c.in-Err.is ∙ same) c.read-answer.ensures)
