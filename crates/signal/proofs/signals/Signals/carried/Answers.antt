use Rattle.std.proofs.Common.{◌∙◌, ap, sym}
use Rattle.posix.specs.Common.{Signals, carried_by, is_pending}
use Rattle.signal.proofs.SetLemmas.{carried_standard}
use Rattle.signal.proofs.signals.Signals.carried.Goals as goal

pub returns-then-is_pending : goal.returns-then-is_pending
returns-then-is_pending c =
    let s = c.self.inside in
    c.carried.ensures
    ∙ carried_standard s.mask s.pending s.tables c.args.sig c.requires (ap (λ (g : Signals). is_pending g c.args.sig) c.self.view_is ∙ sym c.is_pending.ensures ∙ c.if-is_pending.true)
    ∙ ap (λ (g : Signals). carried_by c.args.sig g) c.self.view_is
