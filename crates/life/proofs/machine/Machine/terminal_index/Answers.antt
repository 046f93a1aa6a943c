use Rattle.std.proofs.Common.{subst}
use Rattle.posix.specs.Common.{State}
use Rattle.life.specs.Consoles.{IsTerminalIndex}
use Rattle.life.proofs.ViewLemmas.{state_is}
use Rattle.life.proofs.machine.Machine.terminal_index.Goals as goal

pub returns : goal.returns
returns g c = subst (λ (s : State). IsTerminalIndex c.args.session s.consoles c.index_in.result) (state_is c.self.view_is) (c.index_in.ensures _ c.self.invariant.indexed)
