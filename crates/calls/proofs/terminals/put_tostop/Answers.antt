use Rattle.calls.proofs.TerminalCallLemmas.{in_session}
use Rattle.calls.proofs.terminals.put_tostop.Goals as goal

pub set_tostop-requires : goal.set_tostop-requires
set_tostop-requires g c = in_session c.args.machine.now.state c.args.me.now.pid c.args.me.now c.requires.regular c.requires.there c.requires.caller
