use Rattle.std.proofs.Common.{◌≡◌, ◌+◌, ◌*◌, ◌≤◌, filter, length}
use Rattle.std.specs.Option.{IfSome, IsSome}
use Rattle.posix.specs.declared.process.Sending.TheVariants.{NobodyFound}
use Rattle.posix.specs.Common.{IsRising, first_pid, left_of, lookup, targets, number_of, queuers_among}
use Rattle.posix.proofs.WalkLemmas.{numbers_left}
use Rattle.life.specs.Machines.{with_processes}
use Rattle.life.specs.Queues.{HaveRoom}
use Rattle.life.specs.Rechecks.{slots_of_send, is_candidate}
use Rattle.life.specs.Callers.{process_like}
use Rattle.life.proofs.SendLemmas.{sent_to}
use Rattle.life.proofs.machine.Machine.send_to_matching.Given as goal

-- what is left to do, after what was done so far, is all that there is to do
abbrev pub invariant-loop-next : goal.invariant-loop-next
invariant-loop-next g l =
    let r = process_like l.me in let now = l.self.state in let first = l.fn.self.state in
    record {
      groups_at_risk : l.self.groups_at_risk ≡ l.fn.self.groups_at_risk;
      foregrounds_unchecked : l.self.foregrounds_unchecked ≡ l.fn.self.foregrounds_unchecked;
      there : IfSome l.next (λ p. IsSome (lookup p now.processes));
      begins : first_pid (left_of l.next (filter (is_candidate r l.target) now.processes)) ≡ l.next;
      read : l.self.visits + (2 + slots_of_send (number_of l.signal)) * length (left_of l.next (filter (is_candidate r l.target) now.processes)) ≤ l.fn.self.visits + 1 + (2 + slots_of_send (number_of l.signal)) * length (filter (is_candidate r l.fn.target) first.processes);
      no_fewer : l.fn.self.visits ≤ l.self.visits;
      rising : IsRising now.processes;
      room : HaveRoom (g.S.Pools.pools l.pools) (queuers_among r l.target (number_of l.signal) (left_of l.next now.processes));
      rest : with_processes now first.processes ≡ first;
      todo : sent_to r l.signal first.order (targets r l.target (left_of l.next now.processes)) (record { sending = l.sending; processes = now.processes; to_recheck = l.self.to_recheck }) ≡ sent_to r l.signal first.order (targets r l.fn.target first.processes) (record { sending = NobodyFound; processes = first.processes; to_recheck = l.fn.self.to_recheck });
    }

abbrev pub decreases-loop-next : goal.decreases-loop-next
decreases-loop-next g l = numbers_left 2147483648 l.next
