use Rattle.std.proofs.Common.{◌+◌, arith, ◌≡◌, ◌∙◌, ap, sym, subst, [], Bool, Some}
use Rattle.posix.specs.Common.{Block, wait_in, Process, wait_by, State, change, lose_place, process, attempt, begin_call, enter}
use Rattle.posix.specs.declared.call.Call.{Call}
use Rattle.posix.specs.declared.call.Call.TheVariants.{Waitpid, Waitid}
use Rattle.posix.specs.declared.waits.WaitCall.{WaitCall}
use Rattle.std.proofs.lemmas.Option.{same_Some, IfSome_then}
use Rattle.posix.proofs.TableLemmas.{pid_looked}
use Rattle.calls.proofs.CallLemmas.{block_is, same_outcome}
use Rattle.std.specs.Option.{IfSome}
use Rattle.calls.specs.Outcomes.{CostsWithRechecks, slots_of_brief}
use Rattle.calls.proofs.BriefLemmas.{brief_more, brief_on, brief_visits, quiet_on}
use Rattle.kernel.specs.Counts.{slots_of_blocking}
use Rattle.kernel.proofs.CountLemmas.{brief_call, wait_reads}
use Rattle.kernel.proofs.step.begin_call.Goals as goal

-- a call that is a wait is attempted as one
attempt_wait : (granted : Bool) (s : State) (me : Process) (call : Call) (how : WaitCall) → wait_in call ≡ Some how → attempt granted s me call ≡ wait_by how s me
unfolding attempt
attempt_wait granted s me Waitpid how is = ap (λ h. wait_by h s me) (same_Some _ _ is)
attempt_wait granted s me Waitid how is = ap (λ h. wait_by h s me) (same_Some _ _ is)
attempt_wait granted s me call how is = absurd (cc)

pub block-requires-clause-waits : goal.block-requires-clause-waits
block-requires-clause-waits g c = λ me e how is.
    let s = c.args.machine.now.state in
    let it = c.requires.acting.placed in
    let blocked = c.in-Block.blocked in
    let first = c.in-Block.ensures.attempts it.what it.found in
    let same = (block_is s (attempt first.0 s it.what c.args.call) blocked c.args.entries.now.items c.attempt.new.entries.items c.attempt.new.machine.state first.1).2 in
    let came = c.in-Block.ensures.attempts me (ap (λ (t : State). process t c.args.pid) (sym same) ∙ e) in
    let b = block_is s (attempt came.0 s me c.args.call) blocked c.args.entries.now.items c.attempt.new.entries.items c.attempt.new.machine.state came.1 in
    subst (λ (t : State). wait_by how t me ≡ Block blocked) (sym b.2) (sym (attempt_wait came.0 s me c.args.call how is) ∙ b.0)

pub returns-in-Block-clause-begins : goal.returns-in-Block-clause-begins
returns-in-Block-clause-begins g c = λ me e.
    let s = c.args.machine.now.state in
    let named = pid_looked c.args.pid s.processes me e in
    let came = c.in-Block.ensures.attempts me e in
    let blocked = c.in-Block.blocked in
    let b = block_is s (attempt came.0 s me c.args.call) blocked c.args.entries.now.items c.attempt.new.entries.items c.attempt.new.machine.state came.1 in (
      came.0,
      ap (begin_call s me) b.0
          ∙ same_outcome (lose_place (change s me.pid (enter blocked)) me.pid) c.block.new.machine.state [] c.attempt.new.entries.items
          (ap (λ n. lose_place (change s n (enter blocked)) n) named
          ∙ ap (λ (t : State). lose_place (change t c.args.pid (enter blocked)) c.args.pid) (sym b.2)
          ∙ sym c.block.ensures.state) (sym c.requires.none ∙ sym b.1),
    )

pub returns-in-Done-clause-brief : goal.returns-in-Done-clause-brief
returns-in-Done-clause-brief g c = λ me e quiet. IfSome_then (slots_of_brief c.args.call me) (c.attempt.ensures.brief me e quiet) (λ n h. brief_more n (n + slots_of_blocking c.args.call) c.args.machine.now c.attempt.new.machine (omega arith) h)

pub returns-in-Block-clause-brief : goal.returns-in-Block-clause-brief
returns-in-Block-clause-brief g c = λ me e quiet.
    let old = c.args.machine.now in
    brief_call c.args.call me (λ n. CostsWithRechecks (n + slots_of_blocking c.args.call) old c.block.new.machine)
    (λ is.
    let reads = wait_reads c.args.call me is in
    let same = c.attempt.ensures.waits c.in-Block.blocked is c.in-Block.is in
    let h : CostsWithRechecks 6 old c.attempt.new.machine = subst (λ o. IfSome o (λ n. CostsWithRechecks n old c.attempt.new.machine)) reads.0 (c.attempt.ensures.brief me e quiet) in
    rw reads.1 (brief_on 1 6 _ old c.attempt.new.machine c.block.new.machine same (brief_visits _ old _ h) (omega arith) (c.block.ensures.brief is (quiet_on c.args.pid old c.attempt.new.machine same quiet))))
    (λ is. let no = sym c.in-Block.is ∙ c.attempt.ensures.done is in absurd (cc))
