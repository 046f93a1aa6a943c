use Rattle.std.proofs.Common.{◌≡◌, ◌∙◌, ap, rules, to_z, of_z, w64, option_map}
use Rattle.posix.specs.Common.{argument, State, process, register, named}
use Rattle.proctable.specs.Records.{snapshot_of}
use Rattle.life.proofs.LoanLemmas.{own_is}
use Rattle.life.proofs.ViewLemmas.{state_is}
use Rattle.calls.proofs.groups.named.Goals as goal

pub returns-clause-value : goal.returns-clause-value
returns-clause-value g c = λ me e.
    let s = c.args.machine.now.state in
    let same = state_is c.look.follows.holds-at-none in
    let is = own_is s c.args.pid c.look.result.now me c.look.ensures.value e in
    let kept : to_z w64 (of_z w64 c.register-word.result) ≡ c.register-word.result = search rules in
    let word : to_z w64 (of_z w64 c.register-word.result) ≡ argument me 1 = kept ∙ c.register-word.ensures ∙ ap (λ o. register o.cpu 1) is in
    c.named.ensures.value me (ap (λ (t : State). process t c.args.pid) same ∙ e)
    ∙ ap (λ (t : State). option_map snapshot_of (named me (to_z w64 (of_z w64 c.register-word.result)) t.processes)) same ∙ ap (λ z. option_map snapshot_of (named me z s.processes)) word
