use Rattle.std.proofs.Common.{ap, sym, ◌∙◌, subst, true, ◌≡◌, if◌then◌else◌, ◌==◌}
use Rattle.laws.specs.Keeping.{lives_now, newborn}
use Rattle.audit.specs.Records.{kept_by}
use Rattle.audit.proofs.KeptLemmas.{begun_apart, begun_there, begun_others, there_by_life, born_kept, sound_birth, unborn_there}
use Rattle.posix.proofs.ResultLemmas.{on_err}
use Rattle.audit.proofs.known.Known.bear.Goals as goal

pub returns-in_err-begin-clause-new_number : goal.returns-in_err-begin-clause-new_number
returns-in_err-begin-clause-new_number c = on_err c.from_residual.result (unborn_there c.args.pid c.args.self.now c.self.inside.records.entries c.self.view_is c.in_err-begin.ensures.new_number)

pub begin-requires-clause-linked : goal.begin-requires-clause-linked
begin-requires-clause-linked c = c.self.invariant.0

pub put_in-requires-clause-linked : goal.put_in-requires-clause-linked
put_in-requires-clause-linked c = c.in_ok-begin.ensures.ok.linked

pub put_in-requires-clause-apart : goal.put_in-requires-clause-apart
put_in-requires-clause-apart c = begun_apart c.args.pid c.self.inside.records.entries c.begin.new.records.entries c.in_ok-begin.ensures.ok

pub put_in-requires-clause-there : goal.put_in-requires-clause-there
put_in-requires-clause-there c = begun_there c.args.pid c.self.inside.records.entries c.begin.new.records.entries c.in_ok-begin.ensures.ok

pub put_in-requires-clause-parent : goal.put_in-requires-clause-parent
put_in-requires-clause-parent c = λ two.
    begun_others c.args.pid c.args.parent c.self.inside.records.entries c.begin.new.records.entries c.in_ok-begin.ensures.ok
    (there_by_life c.self.inside.records.entries c.args.parent (subst (λ es. lives_now (kept_by es c.args.parent) ≡ true) (sym c.self.view_is) c.requires.parent))

pub invariant_of-self-2 : goal.invariant_of-self-2
invariant_of-self-2 c =
    sound_birth c.args.pid c.args.parent c.self.inside.may_be_marked c.self.inside.records.entries c.begin.new.records.entries c.put_in.new.records.entries c.in_ok-begin.ensures.ok c.put_in.ensures c.self.invariant

pub returns-clause-ok : goal.returns-clause-ok
returns-clause-ok c = λ n.
    born_kept c.args.pid c.args.parent c.self.inside.records.entries c.begin.new.records.entries c.put_in.new.records.entries c.in_ok-begin.ensures.ok c.put_in.ensures n
    ∙ ap (λ es. if c.args.pid == n then newborn c.args.parent else kept_by es n) c.self.view_is
