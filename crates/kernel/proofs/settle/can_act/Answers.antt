use Rattle.std.proofs.Common.{◌∙◌, ap, sym, is_some}
use Rattle.posix.proofs.ResultLemmas.{mapped_is}
use Rattle.proctable.specs.declared.snapshot.Snapshot.{Snapshot}
use Rattle.proctable.specs.Records.{snapshot_of}
use Rattle.calls.proofs.ChosenLemmas.{running_acts, stopped_acts}
use Rattle.kernel.proofs.settle.can_act.Goals as goal

pub returns-in-Running-clause-value : goal.returns-in-Running-clause-value
returns-in-Running-clause-value g c = λ me e.
    let is = mapped_is _ snapshot_of me c.args.snapshot c.requires.snapshot e in
    c.is_awake.ensures.value me e ∙ sym (running_acts c.args.machine.now.state me (ap (λ (f : Snapshot). f.life) (sym is) ∙ c.in-Running.is))

pub returns-in-Stopped-clause-value : goal.returns-in-Stopped-clause-value
returns-in-Stopped-clause-value g c = λ me e.
    let is = mapped_is _ snapshot_of me c.args.snapshot c.requires.snapshot e in
    c.is_some.ensures ∙ ap (λ (f : Snapshot). is_some f.chosen) is ∙ sym (stopped_acts c.args.machine.now.state me (ap (λ (f : Snapshot). f.life) (sym is) ∙ c.in-Stopped.is))
