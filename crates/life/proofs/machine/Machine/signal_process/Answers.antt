use Rattle.std.proofs.Common.{◌∙◌, ap, sym, rules, true, false, is_some}
use Rattle.posix.specs.Common.{process}
use Rattle.posix.proofs.ResultLemmas.{none_from, none_mapped, some_mapped}
use Rattle.proctable.specs.Records.{snapshot_of}
use Rattle.life.proofs.SoundLemmas.{here_in}
use Rattle.life.proofs.ViewLemmas.{costs_then, looks_cost}
use Rattle.life.proofs.machine.Machine.signal_process.Goals as goal

pub signal-requires-clause-there : goal.signal-requires-clause-there
signal-requires-clause-there g c =
    here_in c.args.pid c.snapshot.ensures.looks.same.state (sym (ap is_some c.snapshot.ensures.value ∙ some_mapped _ _) ∙ sym c.is_some.ensures ∙ c.if-is_some.true)

pub returns-then-is_some : goal.returns-then-is_some
returns-then-is_some g c =
    let looks = c.snapshot.ensures.looks in
    let did = c.signal.ensures in
    record {
      state = rw looks.same.state at did.state;
      to_recheck = rw (looks.same.state, looks.same.to_recheck) at did.to_recheck;
      foregrounds_unchecked = did.foregrounds_unchecked ∙ looks.same.foregrounds_unchecked;
      costs = costs_then (looks_cost looks) did.costs;
    }

pub returns-else-is_some : goal.returns-else-is_some
returns-else-is_some g c =
    let looks = c.snapshot.ensures.looks in
    let none = none_mapped (process c.args.self.now.state c.args.pid) snapshot_of (sym (none_from _ (sym c.is_some.ensures ∙ c.if-is_some.false)) ∙ c.snapshot.ensures.value) in
    rw none (record { state = looks.same.state; to_recheck = looks.same.to_recheck; foregrounds_unchecked = looks.same.foregrounds_unchecked; costs = search rules })
