use Rattle.std.proofs.Common.{◌∙◌, ap, sym}
use Rattle.posix.specs.Common.{Signals, is_pending as is_pending_of}
use Rattle.signal.proofs.SetLemmas.{is_pending_by}
use Rattle.signal.proofs.signals.Signals.is_pending.Goals as goal

pub returns : goal.returns
returns c =
    let s = c.self.inside in
    c.contains.ensures ∙ sym (is_pending_by s.mask s.pending s.tables c.self.invariant.2 c.args.sig) ∙ ap (λ (g : Signals). is_pending_of g c.args.sig) c.self.view_is
