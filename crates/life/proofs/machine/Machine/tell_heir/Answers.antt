use Rattle.std.proofs.Common.{rules, ◌∙◌, ap, sym, arith, ℕ, Option}
use Rattle.posix.specs.Common.{left_of, tell_of_all, zombies_of}
use Rattle.life.proofs.NoticeWalkLemmas.{begins, is_dead, not_first, tells}
use Rattle.life.proofs.machine.Machine.tell_heir.Goals as goal

pub loop-next-init : goal.loop-next-init
loop-next-init g c =
    let next = c.next_wanted-next.ensures in
    let begun = begins c.args.self.now.state c.args.pid c.args.heir _ next.regular c.requires.there c.requires.heir next.value in
    search (rules, arith)

pub status-status-requires : goal.status-status-requires
status-status-requires g c = let dead = is_dead c.loop-next.invariant.telling c.next_wanted-next-in-Some.ensures.regular c.in-Some.is in (dead.what, dead.found, dead.dead)

pub notice_of_end-requires-clause-other : goal.notice_of_end-requires-clause-other
notice_of_end-requires-clause-other g c = not_first c.loop-next.invariant.telling c.next_wanted-next-in-Some.ensures.regular c.in-Some.is

pub notice_of_end-requires-clause-zombie : goal.notice_of_end-requires-clause-zombie
notice_of_end-requires-clause-zombie g c =
    let dead = is_dead c.loop-next.invariant.telling c.next_wanted-next-in-Some.ensures.regular c.in-Some.is in
    rw c.status-status.ensures.looks.same.state (dead.what, dead.found, dead.dead)

pub loop-next-smaller : goal.loop-next-smaller
loop-next-smaller g c =
    let next = c.next_wanted-next-in-Some.ensures in
    let told = tells c.loop-next.invariant.telling next.regular c.in-Some.is c.requires.other c.status-status.result c.status-status.ensures.value _ next.value in
    rw (c.notice_of_end.ensures.state, c.status-status.ensures.looks.same.state) (omega (arith, told.1))

pub loop-next-preserved : goal.loop-next-preserved
loop-next-preserved g c =
    let next = c.next_wanted-next-in-Some.ensures in
    let told = tells c.loop-next.invariant.telling next.regular c.in-Some.is c.requires.other c.status-status.result c.status-status.ensures.value _ next.value in
    rw (c.notice_of_end.ensures.state, c.status-status.ensures.looks.same.state) (search (rules, arith))

pub returns-clause-state : goal.returns-clause-state
unfolding tell_of_all
returns-clause-state g c =
    ap (λ (o : Option ℕ). tell_of_all c.loop-next.self.state c.args.heir (left_of o (zombies_of c.args.pid c.loop-next.self.state.processes))) (sym c.in_default.is) ∙ c.loop-next.invariant.telling.todo
