use Rattle.std.proofs.Common.{◌≡◌, ◌∙◌, sym, subst, Some}
use Rattle.posix.specs.Common.{State, lookup, parent_of}
use Rattle.proctable.specs.Records.{process_of}
use Rattle.jobs.proofs.SnapshotLemmas.{equals}
use Rattle.life.proofs.ViewLemmas.{state_is}
use Rattle.life.proofs.SamenessLemmas.{same_process}
use Rattle.life.proofs.machine.Machine.has_same_process.Goals as goal

pub returns-clause-same : goal.returns-clause-same
returns-clause-same g c = λ e.
    let p = c.args.pid in
    let found = subst (λ (s : State). lookup p s.processes ≡ Some (process_of p (parent_of p s.processes) c.look.result.now)) (state_is c.self.view_is) c.look.ensures.value in
    let others_found = subst (λ (s : State). lookup p s.processes ≡ Some (process_of p (parent_of p s.processes) c.look-2.result.now)) (state_is c.other.view_is) c.look-2.ensures.value in
    let parents = equals c.parent.result c.parent-2.result (sym c.ne.ensures ∙ c.if-ne.false) in
    same_process c.args.delay p c.parent.result c.parent-2.result c.args.self.now.state.processes c.args.other.now.state.processes c.look.result.now c.look-2.result.now found others_found c.parent.ensures.value c.parent-2.ensures.value parents (c.is_same_later.ensures e)
