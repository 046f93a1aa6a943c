use Rattle.std.proofs.Common.{◌∙◌, [], ap}
use Rattle.posix.specs.Common.{Signals, nothing_pending}
use Rattle.signal.specs.SignalTables.{nothing_carried, signals_of}
use Rattle.signal.proofs.SetLemmas.{without_pending}
use Rattle.signal.proofs.signals.Signals.fork.Goals as goal

pub returns : goal.returns
returns c =
    let tables = record c.self.inside.tables { carried = nothing_carried; queue = [] } in
    ap (signals_of c.self.inside.mask 0) c.in_ok-fork.ensures ∙ without_pending c.self.inside.mask tables
    ∙ ap (λ (g : Signals). record g { standard = nothing_pending; queue = [] }) c.self.view_is
