use Rattle.std.proofs.Common.{◌≡◌, ◌∙◌, sym, ap, subst, List, Some, get_or}
use Rattle.std.specs.List.{remove}
use Rattle.posix.specs.declared.process.PendingSignal.{PendingSignal}
use Rattle.signal.proofs.QueueLemmas.{taken_at, taken_nowhere}
use Rattle.signal.proofs.realtime_pool.RealtimePool.take.Goals as goal

pub returns-in-None-clause-value : goal.returns-in-None-clause-value
returns-in-None-clause-value c = sym (taken_nowhere c.args.sig c.args.self.now (sym c.place.ensures ∙ c.in-None.is)).0

pub returns-in-None-clause-rest : goal.returns-in-None-clause-rest
returns-in-None-clause-rest c = sym (taken_nowhere c.args.sig c.args.self.now (sym c.place.ensures ∙ c.in-None.is)).1

pub returns-in-Some-clause-value : goal.returns-in-Some-clause-value
returns-in-Some-clause-value c =
    let taken = taken_at c.args.sig c.in-Some.place c.args.self.now c.remove.result (sym c.place.ensures ∙ c.in-Some.is) in
    let value = subst (λ (q : List PendingSignal). c.remove.result ≡ get_or q c.in-Some.place c.remove.result) c.self.view_is c.remove.ensures.value in
    ap (λ (m : PendingSignal). Some m.carried) value ∙ sym taken.0

pub returns-in-Some-clause-rest : goal.returns-in-Some-clause-rest
returns-in-Some-clause-rest c =
    let taken = taken_at c.args.sig c.in-Some.place c.args.self.now c.remove.result (sym c.place.ensures ∙ c.in-Some.is) in
    c.remove.ensures.items ∙ ap (λ (q : List PendingSignal). remove q c.in-Some.place) c.self.view_is ∙ sym taken.1
