-- Shows that events don't depend on the time.
use Rattle.std.proofs.Common.{◌≡◌, ℕ, Bool, true, false, cond, [], ◌∷◌, Option, Some, None, option_map, refl, ap, ◌∙◌}
use Rattle.std.specs.Prelude.{option_and_then}
use Rattle.posix.specs.declared.entry.Entry.TheVariants.{Noted}
use Rattle.posix.specs.declared.event.Event.{Event}
use Rattle.posix.specs.declared.event.Event.TheVariants.{Step, Tick, Key, Hangup}
use Rattle.posix.specs.declared.instr.Trap.{Trap}
use Rattle.posix.specs.declared.instr.Trap.TheVariants as trap
use Rattle.posix.specs.declared.process.Blocked.{Blocked}
use Rattle.posix.specs.SignalNumbers.{KILL}
use Rattle.posix.specs.Statuses.{killed}
use Rattle.posix.specs.Processes.{Process, Cpu}
use Rattle.posix.specs.States.{State, lose_place, current, current_process, process}
use Rattle.posix.specs.Execute.{exec_one}
use Rattle.posix.specs.Outcomes.{Outcome, Attempted, Done, Block, Again, silent}
use Rattle.posix.specs.Generation.{is_pending}
use Rattle.posix.specs.Choice.{chosen}
use Rattle.posix.specs.Ends.{end_process}
use Rattle.posix.specs.Attempts.{attempt, attempt_again}
use Rattle.posix.specs.Step.{set_cpu, enter, begin_call, after_trap, deliver_or, out_of_call, go_on, code_of, act_in, act, step, happens, settled, next}
use Rattle.times.specs.Times.{later, state_later, outcome_later}
use Rattle.times.proofs.TableLemmas.{lookup_later}
use Rattle.times.proofs.CallLemmas.{attempted_later, tick_later}
use Rattle.times.proofs.OutcomeLemmas.{change_later}
use Rattle.times.proofs.EndLemmas.{end_process_later}
use Rattle.times.proofs.DeliveryLemmas.{deliver_later, fault_later}
use Rattle.times.proofs.TerminalLemmas.{key_later, hangup_later}
use Rattle.times.proofs.AttemptLemmas.{attempt_later, attempt_again_later}
use Rattle.times.proofs.SettleLemmas.{settle_later}

-- ---- a step

set_cpu_later : (d : ℕ) (c : Cpu) (r : Process) → set_cpu c (later d r) ≡ later d (set_cpu c r)
unfolding set_cpu
set_cpu_later d c r = refl

enter_later : (d : ℕ) (b : Blocked) (r : Process) → enter b (later d r) ≡ later d (enter b r)
unfolding enter
enter_later d b r = refl

out_of_call_later : (d : ℕ) (r : Process) → out_of_call (later d r) ≡ later d (out_of_call r)
unfolding out_of_call
out_of_call_later d r = refl

pub begin_call_later : (d : ℕ) (s : State) (r : Process) (a : Attempted) → begin_call (state_later d s) (later d r) (attempted_later d a) ≡ outcome_later d (begin_call s r a)
begin_call_later d s r (Done o) = refl
begin_call_later d s r (Block b) = ap (λ (t : State). silent (lose_place t r.pid)) (change_later d s r.pid (enter b) (enter b) (enter_later d b))
begin_call_later d s r (Again t) = refl

pub after_trap_later : (d : ℕ) (granted : Bool) (s : State) (r : Process) (c : Cpu) (t : Trap) → after_trap granted (state_later d s) (later d r) c t ≡ outcome_later d (after_trap granted s r c t)
unfolding after_trap
after_trap_later d granted s r c trap.Next = ap silent (change_later d s r.pid (set_cpu c) (set_cpu c) (set_cpu_later d c))
after_trap_later d granted s r c (trap.Note z) = ap (λ (t : State). record { state = t; entries = Noted r.pid z ∷ [] }) (change_later d s r.pid (set_cpu c) (set_cpu c) (set_cpu_later d c))
after_trap_later d granted s r c (trap.Call call) = ap (begin_call (state_later d s) (later d r)) (attempt_later d granted s r call) ∙ begin_call_later d s r (attempt granted s r call)
after_trap_later d granted s r c (trap.Fault sig) = fault_later d s r sig

pub deliver_or_later : (d : ℕ) (s : State) (r : Process) (n : Option ℕ) (now then : Outcome) → now ≡ outcome_later d then → deliver_or (state_later d s) (later d r) n now ≡ outcome_later d (deliver_or s r n then)
deliver_or_later d s r (Some n) now then same = deliver_later d s r n
deliver_or_later d s r None now then same = same

pub go_on_later : (d : ℕ) (s : State) (r : Process) (a : Attempted) → go_on (state_later d s) (later d r) (attempted_later d a) ≡ outcome_later d (go_on s r a)
go_on_later d s r (Done o) = refl
go_on_later d s r (Again t) = ap silent (change_later d t r.pid out_of_call out_of_call (out_of_call_later d))
go_on_later d s r (Block b) = deliver_or_later d s r (chosen r.life r.signals) (silent (lose_place (state_later d s) r.pid)) (silent (lose_place s r.pid)) refl

pub act_in_later : (d : ℕ) (granted : Bool) (s : State) (r : Process) (b : Option Blocked) → act_in granted (state_later d s) (later d r) b ≡ outcome_later d (act_in granted s r b)
unfolding act_in
act_in_later d granted s r (Some b) = ap (go_on (state_later d s) (later d r)) (attempt_again_later d s r b) ∙ go_on_later d s r (attempt_again s r b)
act_in_later d granted s r None =
    let done = exec_one (code_of s r) r.cpu in
    deliver_or_later d s r (chosen r.life r.signals) (after_trap granted (state_later d s) (later d r) done.cpu done.trap) (after_trap granted s r done.cpu done.trap) (after_trap_later d granted s r done.cpu done.trap)

pub act_later : (d : ℕ) (granted : Bool) (s : State) (r : Process) → act granted (state_later d s) (later d r) ≡ outcome_later d (act granted s r)
unfolding act
act_later d granted s r = go (is_pending r.signals KILL) where
  go : (b : Bool) → cond b (end_process (state_later d s) (later d r) (killed KILL)) (act_in granted (state_later d s) (later d r) r.blocked) ≡ outcome_later d (cond b (end_process s r (killed KILL)) (act_in granted s r r.blocked))
  go true = end_process_later d s r (killed KILL)
  go false = act_in_later d granted s r r.blocked

pub step_later : (d : ℕ) (granted : Bool) (s : State) (r : Option Process) → step granted (state_later d s) (option_map (later d) r) ≡ outcome_later d (step granted s r)
unfolding step
step_later d granted s None = refl
step_later d granted s (Some r) = act_later d granted s r

-- ---- an event

pub current_process_later : (d : ℕ) (s : State) → current_process (state_later d s) ≡ option_map (later d) (current_process s)
current_process_later d s = go (current s) where
  go : (p : Option ℕ) → option_and_then (process (state_later d s)) p ≡ option_map (later d) (option_and_then (process s) p)
  go None = refl
  go (Some p) = lookup_later d p s.processes

pub happens_later : (d : ℕ) (granted : Bool) (s : State) (event : Event) → happens granted (state_later d s) event ≡ outcome_later d (happens granted s event)
unfolding happens
happens_later d granted s Step = ap (step granted (state_later d s)) (current_process_later d s) ∙ step_later d granted s (current_process s)
happens_later d granted s Tick = ap silent (tick_later d s)
happens_later d granted s (Key console byte) = ap silent (key_later d s console byte)
happens_later d granted s (Hangup console) = ap silent (hangup_later d s console)

pub settled_later : (d : ℕ) (o : Outcome) → settled (outcome_later d o) ≡ outcome_later d (settled o)
settled_later d o = ap (λ (t : State). record { state = t; entries = o.entries }) (settle_later d o.state)

pub next_later : (d : ℕ) (granted : Bool) (s : State) (event : Event) → next granted (state_later d s) event ≡ outcome_later d (next granted s event)
unfolding next
next_later d granted s event = go s.halted where
  go : (b : Bool) → cond b (silent (state_later d s)) (settled (happens granted (state_later d s) event)) ≡ outcome_later d (cond b (silent s) (settled (happens granted s event)))
  go true = refl
  go false = ap settled (happens_later d granted s event) ∙ settled_later d (happens granted s event)
