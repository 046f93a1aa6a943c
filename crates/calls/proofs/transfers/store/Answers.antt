use Rattle.std.proofs.Common.{ap}
use Rattle.posix.specs.Common.{Cpu, with_bytes}
use Rattle.proctable.specs.Records.{give_own}
use Rattle.life.proofs.LoanLemmas.{was_written}
use Rattle.calls.proofs.transfers.store.Goals as goal

pub returns-clause-state : goal.returns-clause-state
unfolding with_bytes
returns-clause-state g c =
    let o = c.own.result.now in
    was_written c.args.machine.now.state c.args.pid o (record o { cpu = c.store.new.self }) (with_bytes c.args.address c.args.bytes.now) c.own.ensures.regular c.own.ensures.value
    (λ r. ap (λ (x : Cpu). give_own (record o { cpu = x }) r) c.store.ensures)
