use Rattle.std.proofs.Common.{◌∙◌, ap, sym, true, ◌++◌, ◌∷◌, []}
use Rattle.posix.specs.declared.entry.Entry.TheVariants.{Marked}
use Rattle.posix.specs.Common.{argument, State, change, attempt, subreaper, marked_as, is_nonzero}
use Rattle.posix.proofs.TableLemmas.{pid_looked}
use Rattle.proctable.specs.Records.{give_own}
use Rattle.life.proofs.LoanLemmas.{own_is}
use Rattle.life.proofs.ViewLemmas.{state_is}
use Rattle.calls.proofs.attempts.subreaper.Goals as goal

pub returns-clause-attempts : goal.returns-clause-attempts
unfolding attempt subreaper
returns-clause-attempts g c = λ me e.
    let s = c.args.machine.now.state in
    let p = c.args.pid in
    let same = state_is c.look.follows.holds-at-none in
    let named = pid_looked p s.processes me e in
    let is = own_is s p c.look.result.now me c.look.ensures.value e in
    let mark = c.asks_for_mark-mark.ensures me ∙ ap (λ o. is_nonzero (argument (give_own o me) 1)) is in (
      true,
      (
        c.push.ensures.items ∙ ap (λ n. c.args.entries.now.items ++ Marked n c.asks_for_mark-mark.result ∷ []) (sym named) ∙ ap (λ m. c.args.entries.now.items ++ Marked me.pid m ∷ []) mark,
        c.mark.ensures.state ∙ ap (λ (t : State). change t p (marked_as c.asks_for_mark-mark.result)) same ∙ ap (λ n. change s n (marked_as c.asks_for_mark-mark.result)) (sym named) ∙ ap (λ m. change s me.pid (marked_as m)) mark,
      ),
    )
