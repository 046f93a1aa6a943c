use Rattle.std.proofs.Common.{◌∙◌, [], ap}
use Rattle.posix.specs.Common.{forgotten}
use Rattle.signal.specs.SignalTables.{signals_of}
use Rattle.signal.proofs.SetLemmas.{without_pending}
use Rattle.signal.proofs.signals.Signals.forget.Goals as goal

pub returns : goal.returns
returns c =
    let t = c.self.inside.tables in
    ap (signals_of c.self.inside.mask 0) c.forget.ensures ∙ without_pending c.self.inside.mask (record t { queue = []; frames = [] }) ∙ ap forgotten c.self.view_is
