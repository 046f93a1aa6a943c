use Rattle.std.proofs.Common.{◌∙◌, ap, arith, length}
use Rattle.posix.specs.Common.{HUP, State, members_in, from_kernel}
use Rattle.posix.proofs.HupAndContLemmas.{lasts_members}
use Rattle.life.proofs.AtRiskLemmas.{members_last}
use Rattle.life.proofs.machine.Machine.hup_and_cont.Goals as goal

pub returns-clause-visits : goal.returns-clause-visits
returns-clause-visits g c =
    let hung = c.signal_members.ensures in
    let many = ap (λ (s : State). length (members_in c.args.group s.processes)) hung.state ∙ members_last c.args.group c.args.self.now.state.processes _ (lasts_members (record { sig = HUP; carried = from_kernel }) c.args.group c.args.self.now.state.processes hung.costs.regular.rising).same in
    omega (arith, hung.costs.visits, c.signal_members-2.ensures.costs.visits, many)
