use Rattle.std.proofs.Common.{◌≡◌, ◌∙◌, ap, sym, true}
use Rattle.posix.proofs.TableLemmas.{pid_looked}
use Rattle.life.specs.declared.consoles.Terminal.{Terminal}
use Rattle.calls.proofs.transfers.read_span.Goals as goal

pub returns-then-terminal-clause-comes : goal.returns-then-terminal-clause-comes
returns-then-terminal-clause-comes g c = λ r its found at is.
    let hung : its.hung_up ≡ true = ap (λ (t : Terminal). t.hung_up) (sym is) ∙ c.if-terminal.true in
    rw (hung, c.finish_with.ensures.done, pid_looked c.args.me.now.pid _ r found) (c.finish_with.ensures.shown, c.finish_with.ensures.state)
