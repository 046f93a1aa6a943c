use Rattle.std.proofs.Common.{◌∙◌, ap, slice_get}
use Rattle.life.specs.Machines.{MachineView}
use Rattle.life.proofs.RecheckLemmas.{second_is}
use Rattle.life.proofs.machine.Machine.second_to_recheck.Goals as goal

pub returns : goal.returns
returns g c =
    let list = ap (λ (m : MachineView). m.to_recheck) c.self.view_is in
    c.next_above.ensures.is ∙ second_is _ c.args.first c.next_above.ensures.rising (ap (λ ns. slice_get ns 0) list ∙ c.requires) ∙ ap (λ ns. slice_get ns 1) list
