-- What is fixed where the host grants all the memory that is asked for.
use Rattle.std.proofs.Common.{◌≡◌, ℕ, zero, suc, ◌+◌, Bool, true, false, cond, ℤ, pos, Result, Ok, Err, refl, ap, sym, ◌∙◌, arith, subst, List, [], ◌∷◌, ◌++◌, Option, Some, None, Contains, inl, inr, ◌⊎◌}
use Rattle.std.specs.List.{list_any}
use Rattle.std.proofs.lemmas.List.Elements.{Contains-append_left, Contains-append_right, Contains-append_cases}
use Rattle.posix.specs.declared.call.Call.{Call}
use Rattle.posix.specs.declared.call.Call.TheVariants.{Fork, Kill, Sigqueue}
use Rattle.posix.specs.declared.instr.Trap.{Trap}
use Rattle.posix.specs.declared.instr.Trap.TheVariants as trap
use Rattle.posix.specs.declared.event.Event.{Event}
use Rattle.posix.specs.declared.event.Event.TheVariants.{Step}
use Rattle.posix.specs.declared.entry.Entry.{Entry}
use Rattle.posix.specs.declared.entry.Entry.TheVariants.{NoMemory}
use Rattle.posix.specs.declared.process.Blocked.{Blocked}
use Rattle.posix.specs.declared.errno.Errno.{Errno}
use Rattle.posix.specs.declared.process.Sending.{Sending}
use Rattle.posix.specs.declared.process.Sending.TheVariants as sends
use Rattle.posix.specs.declared.target.Target.{Target}
use Rattle.posix.specs.Common.{KILL, killed, Process, Cpu, argument, State, current_process, next_pid, exec_one, Outcome, silent, no_memory, is_pending, chosen, fork_as, target_in, process_in, sending, has_full_queue, queued_for, queuers_among, sending_granted, message, send_with, signal_or_none, send, kill, sigqueue, end_process, attempt, Line, line, numbered, RunsFrom, IsStep, next, settled, happens, step, act, act_in, after_trap, begin_call, deliver_or, code_of}
use Rattle.laws.proofs.RefusalLemmas.{memory_refused}
use Rattle.laws.specs.Memory.{EntriesGrantAll, LinesGrantAll}

-- ---- an event

-- it is what comes where all is granted, or an entry says that there was no memory
abbrev AsGranted : Outcome → Outcome → Type 0
AsGranted o all = (o ≡ all) ⊎ ((p : ℕ) × (call : Call) × Contains o.entries (NoMemory p call))

-- of both outcomes of a test
granted_either : (b : Bool) (x y u v : Outcome) → AsGranted x u → AsGranted y v → AsGranted (cond b x y) (cond b u v)
granted_either true x y u v h k = h
granted_either false x y u v h k = k

-- a fork
granted_fork : (granted : Bool) (s : State) (me : Process) (n : Option ℕ) → (fork_as granted s me n ≡ fork_as true s me n) ⊎ (fork_as granted s me n ≡ no_memory s me.pid Fork)
unfolding fork_as
granted_fork true s me n = inl refl
granted_fork false s me None = inl refl
granted_fork false s me (Some n) = inr refl

-- what a send comes to
granted_queued : (granted : Bool) (qs : List Process) (other : Sending) → (queued_for granted qs other ≡ queued_for true qs other) ⊎ (queued_for granted qs other ≡ sends.NoMemory)
granted_queued true qs other = inl refl
granted_queued false [] other = inl refl
granted_queued false (q ∷ qs) other = elim (list_any has_full_queue (q ∷ qs)) as (λ b. (cond b sends.QueueFull sends.NoMemory ≡ cond b sends.QueueFull other) ⊎ (cond b sends.QueueFull sends.NoMemory ≡ sends.NoMemory)) [ true ↦ inl refl | false ↦ inr refl ]

-- a signal that is sent
granted_send : (granted : Bool) (s : State) (me : Process) (call : Call) (target : Target) (value : ℤ) (sig : Result (Option ℕ) Errno)
    → (send granted s me call target value sig ≡ send true s me call target value sig) ⊎ (send granted s me call target value sig ≡ no_memory s me.pid call)
unfolding sending_granted
granted_send granted s me call target value (Err why) = inl refl
granted_send granted s me call target value (Ok n) = elim (granted_queued granted (queuers_among me target n s.processes) (sending me target n s.processes)) [
  | inl same ↦ inl (ap (send_with s me call target (message me.pid value n)) same)
  | inr none ↦ inr (ap (send_with s me call target (message me.pid value n)) none)
]

-- each call
granted_attempt : (granted : Bool) (s : State) (me : Process) (call : Call) → (attempt granted s me call ≡ attempt true s me call) ⊎ (attempt granted s me call ≡ no_memory s me.pid call)
unfolding attempt kill sigqueue
granted_attempt granted s me Fork = granted_fork granted s me (next_pid s)
granted_attempt granted s me Kill = granted_send granted s me Kill (target_in (argument me 1)) (pos 0) (signal_or_none (argument me 2))
granted_attempt granted s me Sigqueue = granted_send granted s me Sigqueue (process_in (argument me 1)) (argument me 3) (signal_or_none (argument me 2))
granted_attempt granted s me call = inl refl

-- what follows an instruction
granted_trap : (granted : Bool) (s : State) (r : Process) (c : Cpu) (t : Trap) → AsGranted (after_trap granted s r c t) (after_trap true s r c t)
unfolding after_trap
granted_trap granted s r c (trap.Call call) = elim (granted_attempt granted s r call) [
  | inl same ↦ inl (ap (begin_call s r) same)
  | inr none ↦ inr (r.pid, call, subst (λ a. Contains (begin_call s r a).entries (NoMemory r.pid call)) (sym none) (0, omega arith, refl))
]
granted_trap granted s r c t = inl refl

-- a turn in a call, or in none
granted_in : (granted : Bool) (s : State) (r : Process) (b : Option Blocked) → AsGranted (act_in granted s r b) (act_in true s r b)
unfolding act_in
granted_in granted s r (Some b) = inl refl
granted_in granted s r None =
    let done = exec_one (code_of s r) r.cpu in
    elim (chosen r.life r.signals) as (λ n. AsGranted (deliver_or s r n (after_trap granted s r done.cpu done.trap)) (deliver_or s r n (after_trap true s r done.cpu done.trap))) [
      | None ↦ granted_trap granted s r done.cpu done.trap
      | Some n ↦ inl refl
    ]

-- a step
granted_step : (granted : Bool) (s : State) (o : Option Process) → AsGranted (step granted s o) (step true s o)
unfolding step act
granted_step granted s None = inl refl
granted_step granted s (Some r) =
    let ended = end_process s r (killed KILL) in
    granted_either (is_pending r.signals KILL) ended _ ended _ (inl refl) (granted_in granted s r r.blocked)

-- what happens at any event
granted_happens : (granted : Bool) (s : State) (event : Event) → AsGranted (happens granted s event) (happens true s event)
unfolding happens
granted_happens granted s Step = granted_step granted s (current_process s)
granted_happens granted s event = inl refl

-- any event, after a halt too
granted_next : (granted : Bool) (s : State) (event : Event) → AsGranted (next granted s event) (next true s event)
unfolding next
granted_next granted s event =
    granted_either s.halted (silent s) _ (silent s) _ (inl refl) (elim (granted_happens granted s event) [ inl same ↦ inl (ap settled same) | inr none ↦ inr none ])

-- an event for which all is granted is fixed
step_granted : (old new : State) (event : Event) (entries : List Entry) → IsStep old event entries new → EntriesGrantAll entries
    → next true old event ≡ record { state = new; entries = entries }
step_granted old new event entries h all = elim (granted_next h.granted old event) [
  | inl same ↦ sym same ∙ h.comes
  | inr none ↦ absurd (all none.0 none.1 (subst (λ (o : Outcome). Contains o.entries (NoMemory none.0 none.1)) h.comes none.2))
]

-- so two such events are one
pub step_determined : (old new other : State) (event : Event) (shown others : List Entry) → IsStep old event shown new → IsStep old event others other
    → EntriesGrantAll shown → EntriesGrantAll others → (shown ≡ others) × (new ≡ other)
step_determined old new other event shown others h k all both =
    let same = sym (step_granted old new event shown h all) ∙ step_granted old other event others k both in
    (ap (λ (o : Outcome). o.entries) same, ap (λ (o : Outcome). o.state) same)

-- ---- a run

-- an entry of an event is in its line
in_line : (k : ℕ) (entries : List Entry) (e : Entry) → Contains entries e → Contains (numbered k entries) (line k e)
in_line k [] e c = let l = c.1 in absurd (omega arith)
in_line k (x ∷ xs) e (zero, l, is) = (0, omega arith, ap (line k) is)
in_line k (x ∷ xs) e (suc i, l, is) = let c = in_line k xs e (i, omega arith, is) in (suc c.0, omega (arith, c.1), c.2)

-- the first event grants all where the run does
first_grants : (k : ℕ) (entries : List Entry) (rest lines : List Line) → lines ≡ numbered k entries ++ rest → LinesGrantAll lines → EntriesGrantAll entries
first_grants k entries rest lines is all p call c =
    all k p call (subst (λ ls. Contains ls (line k (NoMemory p call))) (sym is) (Contains-append_left (numbered k entries) rest (line k (NoMemory p call)) (in_line k entries (NoMemory p call) c)))

-- and so do the others
rest_grants : (k : ℕ) (entries : List Entry) (rest lines : List Line) → lines ≡ numbered k entries ++ rest → LinesGrantAll lines → LinesGrantAll rest
rest_grants k entries rest lines is all j p call c =
    all j p call (subst (λ ls. Contains ls (line j (NoMemory p call))) (sym is) (Contains-append_right (numbered k entries) rest (line j (NoMemory p call)) c))

-- two runs for which all is granted are one
pub run_determined : (k : ℕ) (old last end : State) (events : List Event) (lines others : List Line) → RunsFrom k old events lines last → RunsFrom k old events others end
    → LinesGrantAll lines → LinesGrantAll others → (lines ≡ others) × (last ≡ end)
run_determined k old last end [] lines others run also all both = (run.0 ∙ sym also.0, run.1 ∙ sym also.1)
run_determined k old last end (event ∷ events) lines others run also all both =
    let one = step_determined old run.0 also.0 event run.1 also.1 run.3 also.3 (first_grants k run.1 run.2 lines run.4 all) (first_grants k also.1 also.2 others also.4 both) in
    let here = subst (λ s. RunsFrom (k + 1) s events also.2 end) (sym one.1) also.5 in
    let rest = run_determined (k + 1) run.0 last end events run.2 also.2 run.5 here (rest_grants k run.1 run.2 lines run.4 all) (rest_grants k also.1 also.2 others also.4 both) in
    (run.4 ∙ ap (λ es. numbered k es ++ run.2) one.0 ∙ ap (λ ls. numbered k also.1 ++ ls) rest.0 ∙ sym also.4, rest.1)

-- ---- a run for which all is granted

-- where all is granted no entry says otherwise
pub true_grants : (s : State) (event : Event) → EntriesGrantAll (next true s event).entries
true_grants s event p call c = let no = memory_refused true s event p call c in absurd (cc)

-- an entry in a line of an event is one of the event
from_line : (k j : ℕ) (entries : List Entry) (e : Entry) → Contains (numbered k entries) (line j e) → Contains entries e
from_line k j [] e c = let l = c.1 in absurd (omega arith)
from_line k j (x ∷ xs) e (zero, l, is) = (0, omega arith, ap (λ (l : Line). l.entry) is)
from_line k j (x ∷ xs) e (suc i, l, is) = let c = from_line k j xs e (i, omega arith, is) in (suc c.0, omega (arith, c.1), c.2)

-- an event and a run that grant all
both_grant : (k : ℕ) (entries : List Entry) (rest : List Line) → EntriesGrantAll entries → LinesGrantAll rest → LinesGrantAll (numbered k entries ++ rest)
both_grant k entries rest one others j p call c = elim (Contains-append_cases (numbered k entries) rest (line j (NoMemory p call)) c) [
  | inl first ↦ one p call (from_line k j entries (NoMemory p call) first)
  | inr later ↦ others j p call later
]

-- there is one
pub run_exists : (k : ℕ) (old : State) (events : List Event) → (last : State) × (lines : List Line) × RunsFrom k old events lines last × LinesGrantAll lines
run_exists k old [] = (old, [], (refl, refl), λ j p call c. let l = c.1 in absurd (omega arith))
run_exists k old (event ∷ events) =
    let o = next true old event in
    let rest = run_exists (k + 1) o.state events in (
      rest.0,
      numbered k o.entries ++ rest.1,
      (o.state, o.entries, rest.1, record { granted = true; comes = refl }, refl, rest.2),
      both_grant k o.entries rest.1 (true_grants old event) rest.3,
    )
