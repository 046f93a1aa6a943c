use Rattle.std.proofs.Common.{◌∙◌, ap, sym}
use Rattle.posix.specs.Common.{is_pending, Signals, pending_set}
use Rattle.signal.specs.SignalTables.{signals_of}
use Rattle.signal.proofs.SetLemmas.{is_pending_by, set_is}
use Rattle.signal.proofs.signals.Signals.pending.Goals as goal

pub returns : goal.returns
unfolding pending_set
returns c =
    let s = c.self.inside in
    sym (set_is (is_pending (signals_of s.mask s.pending s.tables)) s.pending c.self.invariant.0 (is_pending_by s.mask s.pending s.tables c.self.invariant.2))
    ∙ ap (λ (g : Signals). pending_set g) c.self.view_is
