use Rattle.std.proofs.Common.{◌≡◌, Some, true, false, not, arith, ◌∙◌, ap, sym, subst, is_some, [], ℕ, inl, inr}
use Rattle.posix.specs.Common.{Process, State, process, change, lose_place, is_in, Attempted, silent, Again, wait_by, is_block, can_go_on, IsPlaced, IsRegular, attempt_again, go_on, deliver_or, out_of_call, TTIN, TTOU}
use Rattle.posix.specs.declared.process.Blocked.{Blocked}
use Rattle.life.specs.Rechecks.{is_in_wait}
use Rattle.calls.specs.Outcomes.{IsActing}
use Rattle.calls.proofs.BriefLemmas.{brief_on, brief_visits, quiet_on}
use Rattle.kernel.proofs.CountLemmas.{nothing_delivered}
use Rattle.posix.proofs.TableLemmas.{pid_looked}
use Rattle.life.proofs.LoanLemmas.{was_written}
use Rattle.calls.proofs.CallLemmas.{block_is, again_is, same_outcome}
use Rattle.posix.proofs.ConsoleLemmas.{regular_signalled_group}
use Rattle.laws.proofs.AgainLemmas.{again_begins_again}
use Rattle.kernel.proofs.step.go_on.Goals as goal

-- a call that is attempted again and restarts signals a process group, and changes nothing else: a process in the run
-- queue then exists
placed_again : (s t : State) (p : ℕ) (me : Process) (b : Blocked) → IsRegular s → is_in p s.order ≡ true → attempt_again s me b ≡ Again t → IsPlaced t.processes p
placed_again s t p me b i place e = elim (again_begins_again s me b t e).1 [
  | inl reads ↦ subst (λ (x : State). IsPlaced x.processes p) (sym reads) ((regular_signalled_group TTIN me.group s i).placed p place)
  | inr writes ↦ subst (λ (x : State). IsPlaced x.processes p) (sym writes) ((regular_signalled_group TTOU me.group s i).placed p place)
]

pub own-requires : goal.own-requires
own-requires g c =
    let s = c.args.machine.now.state in
    let me = c.requires.acting.placed in
    let a = again_is s (attempt_again s me.what c.args.blocked) c.args.entries.now.items c.attempt_again.new.entries.items c.attempt_again.new.machine.state (c.in-Again.ensures.comes me.what me.found) in
    ap is_some (placed_again s c.attempt_again.new.machine.state c.args.pid me.what c.args.blocked c.requires.regular c.requires.acting.place a.0).found

pub returns-in-Again-clause-goes_on : goal.returns-in-Again-clause-goes_on
returns-in-Again-clause-goes_on g c = λ me e.
    let s = c.args.machine.now.state in
    let t = c.attempt_again.new.machine.state in
    let named = pid_looked c.args.pid s.processes me e in
    let a = again_is s (attempt_again s me c.args.blocked) c.args.entries.now.items c.attempt_again.new.entries.items t (c.in-Again.ensures.comes me e) in
    ap (go_on s me) a.0
    ∙ same_outcome (change t me.pid out_of_call) _ [] c.attempt_again.new.entries.items
    (ap (λ n. change t n out_of_call) named
    ∙ sym (was_written t c.args.pid c.own.result.now c.leave.new.self out_of_call c.own.ensures.regular c.own.ensures.value c.leave.ensures)) (sym c.requires.none ∙ sym a.1)

pub deliver-requires : goal.deliver-requires
deliver-requires g c =
    let s = c.args.machine.now.state in
    let me = c.requires.acting.placed in
    let b = block_is s (attempt_again s me.what c.args.blocked) c.in-Block.field-0 c.args.entries.now.items c.attempt_again.new.entries.items c.attempt_again.new.machine.state (c.in-Block.ensures.comes me.what me.found) in
    record { placed = subst (λ (t : State). IsPlaced t.processes c.args.pid) (sym b.2) me; none = b.1 ∙ c.requires.none }

pub returns-in-None-clause-goes_on : goal.returns-in-None-clause-goes_on
returns-in-None-clause-goes_on g c = λ me e.
    let s = c.args.machine.now.state in
    let named = pid_looked c.args.pid s.processes me e in
    let b = block_is s (attempt_again s me c.args.blocked) c.in-Block.field-0 c.args.entries.now.items c.attempt_again.new.entries.items c.attempt_again.new.machine.state (c.in-Block.ensures.comes me e) in
    ap (go_on s me) b.0
    ∙ ap (λ o. deliver_or s me o (silent (lose_place s me.pid))) (sym (c.requires.signal me e) ∙ c.in-None.is)
    ∙ same_outcome (lose_place s me.pid) c.wait_on.new.machine.state [] c.attempt_again.new.entries.items
    (ap (lose_place s) named ∙ ap (λ (t : State). lose_place t c.args.pid) (sym b.2) ∙ sym c.wait_on.ensures.state) (sym (b.1 ∙ c.requires.none))

pub wait_on-requires : goal.wait_on-requires
wait_on-requires g c =
    let s = c.args.machine.now.state in
    let it = c.requires.acting.placed in
    let came = λ (me : Process) (e : process s c.args.pid ≡ Some me). block_is s (attempt_again s me c.args.blocked) c.in-Block.field-0 c.args.entries.now.items c.attempt_again.new.entries.items c.attempt_again.new.machine.state (c.in-Block.ensures.comes me e) in
    let same = (came it.what it.found).2 in
    let here = λ (me : Process) (e : process c.attempt_again.new.machine.state c.args.pid ≡ Some me). ap (λ (t : State). process t c.args.pid) (sym same) ∙ e in
    record {
      acting = subst (λ (t : State). IsActing t c.args.pid) (sym same) c.requires.acting;
      none_chosen = λ me e. sym (c.requires.signal me (here me e)) ∙ c.in-None.is;
      blocked = λ me e waits. ap is_in_wait (c.requires.blocked me (here me e)) ∙ sym c.is_wait-waits.ensures ∙ waits;
      waits = λ me e waits. subst (λ (t : State). can_go_on t me me.blocked ≡ false) (sym same) (ap (can_go_on s me) (c.requires.blocked me (here me e)) ∙ ap (λ (a : Attempted). not (is_block a)) (came me (here me e)).0);
    }

pub returns-in-Done-clause-brief : goal.returns-in-Done-clause-brief
returns-in-Done-clause-brief g c = λ me e quiet call is nothing. c.attempt_again.ensures.brief (ap (λ (b : Blocked). is_in_wait (Some b)) is) quiet

pub returns-in-Again-clause-brief : goal.returns-in-Again-clause-brief
returns-in-Again-clause-brief g c = λ me e quiet call is nothing. absurd (c.attempt_again.ensures.once (ap (λ (b : Blocked). is_in_wait (Some b)) is) c.in-Again.is)

pub returns-in-Some-clause-brief : goal.returns-in-Some-clause-brief
unfolding attempt_again
returns-in-Some-clause-brief g c = λ me e quiet call is nothing.
    let s = c.args.machine.now.state in
    let b = block_is s (attempt_again s me c.args.blocked) c.in-Block.field-0 c.args.entries.now.items c.attempt_again.new.entries.items c.attempt_again.new.machine.state (c.in-Block.ensures.comes me e) in
    let waits : is_block (wait_by call s me) ≡ true = ap is_block (ap (attempt_again s me) (sym is) ∙ b.0) in
    absurd (nothing_delivered s me call c.in-Some.sig (sym (c.requires.signal me e) ∙ c.in-Some.is) waits nothing)

pub returns-in-None-clause-brief : goal.returns-in-None-clause-brief
returns-in-None-clause-brief g c = λ me e quiet call is nothing.
    let in_wait = ap (λ (b : Blocked). is_in_wait (Some b)) is in
    let old = c.args.machine.now in
    let same = c.attempt_again.ensures.waits c.in-Block.field-0 in_wait c.in-Block.is in
    let read = brief_visits _ old _ (c.attempt_again.ensures.brief in_wait quiet) in
    brief_on 0 _ _ old c.attempt_again.new.machine c.wait_on.new.machine same read (omega arith) (c.wait_on.ensures.brief (c.is_wait-waits.ensures ∙ in_wait) (quiet_on c.args.pid old c.attempt_again.new.machine same quiet))
