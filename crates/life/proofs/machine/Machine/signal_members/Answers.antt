use Rattle.std.proofs.Common.{arith, subst}
use Rattle.std.specs.Option.{IfSome, IsSome}
use Rattle.posix.specs.Common.{from_kernel, process, is_member, members_in}
use Rattle.posix.proofs.WalkLemmas.{passing_is_next}
use Rattle.jobs.proofs.ReadLemmas.{fewer_after}
use Rattle.life.proofs.GroupSignalLemmas.{reaching_begins, reaching_goes_on, reaching_ends}
use Rattle.life.proofs.machine.Machine.signal_members.Goals as goal

pub loop-next-init : goal.loop-next-init
loop-next-init g c = reaching_begins (record { sig = c.args.sig; carried = from_kernel }) c.args.group c.args.self.now _ c.next_member-next.ensures.regular c.next_member-next.ensures.value

pub signal-requires-clause-there : goal.signal-requires-clause-there
signal-requires-clause-there g c = subst (λ o. IfSome o (λ p. IsSome (process c.loop-next.self.state p))) c.in-Some.is c.loop-next.invariant.there

pub loop-next-smaller : goal.loop-next-smaller
unfolding members_in
loop-next-smaller g c =
    let next = c.next_member-next-in-Some.ensures in
    fewer_after c.in-Some.pid (omega arith) _ _ c.in-Some.is (rw next.value (passing_is_next (is_member c.args.group) c.in-Some.pid _ next.regular.rising).above)

pub loop-next-preserved : goal.loop-next-preserved
loop-next-preserved g c = reaching_goes_on c.loop-next.invariant c.next_member-next.ensures.regular c.in-Some.is c.signal.ensures c.next_member-next-in-Some.ensures.value

pub returns : goal.returns
returns g c = reaching_ends c.loop-next.invariant c.next_member-next.ensures.regular c.in_default.is
