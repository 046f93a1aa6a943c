-- Outcomes of the functions of one event.
use Rattle.std.specs.Prelude.{◌≡◌, ℕ, ◌+◌, ◌-◌, ◌==◌, ◌||◌, if◌then◌else◌, Bool, true, false, List, [], map, option_map, Option, Some, None, is_some, replicate}
use Rattle.posix.specs.declared.call.Call.{Call}
use Rattle.posix.specs.declared.event.Event.{Event}
use Rattle.posix.specs.declared.event.Event.TheVariants.{Step}
use Rattle.posix.specs.declared.entry.Entry.{Entry}
use Rattle.posix.specs.declared.entry.Entry.TheVariants.{Noted}
use Rattle.posix.specs.declared.instr.Trap.{Trap}
use Rattle.posix.specs.declared.instr.Trap.TheVariants as trap
use Rattle.posix.specs.Common.{Process, Line, line, State, process, current, current_process, attempt, chosen, exec_one, RunsFrom, IsSettled, code_of, begin_call, after_trap, act, step, happens}
use Rattle.proctable.specs.declared.snapshot.Snapshot.{Snapshot}
use Rattle.proctable.specs.Records.{snapshot_of}
use Rattle.life.specs.declared.noted_bursts.Note.{Note}
use Rattle.life.specs.NotedBursts.{StepsTaken, most_notes, exec_with_notes}
use Rattle.calls.specs.Outcomes.{IsActing, changes_caller_alone, enters_handler}

-- No signal is chosen for p.
abbrev pub NoneChosen : State → ℕ → Type 0
NoneChosen s p = (me : Process) → process s p ≡ Some me → chosen me.life me.signals ≡ None

-- p may begin the call with this outcome.
abbrev pub Begins : State → ℕ → Call → List Entry → State → Type 0
Begins old p call entries new = (me : Process) → process old p ≡ Some me
    → (granted : Bool) × (begin_call old me (attempt granted old me call) ≡ record { state = new; entries = entries })

-- p may run the instruction at its pc with this outcome.
abbrev pub RunsInstruction : State → ℕ → List Entry → State → Type 0
RunsInstruction old p entries new = (me : Process) → process old p ≡ Some me
    → (granted : Bool) × (after_trap granted old me (exec_one (code_of old me) me.cpu).cpu (exec_one (code_of old me) me.cpu).trap ≡ record { state = new; entries = entries })

-- p may take a step with this outcome.
abbrev pub ActsAs : State → ℕ → List Entry → State → Type 0
ActsAs old p entries new = (me : Process) → process old p ≡ Some me
    → (granted : Bool) × (act granted old me ≡ record { state = new; entries = entries })

-- The current process may take a step with this outcome.
abbrev pub Steps : State → List Entry → State → Type 0
Steps old entries new = (granted : Bool) × (step granted old (current_process old) ≡ record { state = new; entries = entries })

-- An event may have this outcome, before settling.
abbrev pub Happens : State → Event → List Entry → State → Type 0
Happens old event entries new = (granted : Bool) × (happens granted old event ≡ record { state = new; entries = entries })

-- an instruction that changes only the process that runs it: no machine fault, and no call but one that changes only
-- its caller
abbrev pub changes_one : Trap → Bool
changes_one (trap.Call call) = changes_caller_alone call
changes_one (trap.Fault sig) = false
changes_one t = true

-- a signal is chosen for the process, or it is in a call: it runs no instruction next
abbrev pub is_held : Process → Bool
is_held me = is_some (chosen me.life me.signals) || is_some me.blocked

-- the process runs such an instruction next
abbrev pub next_changes_one : State → Option Process → Bool
next_changes_one s None = true
next_changes_one s (Some me) = if is_held me then false else changes_one (exec_one (code_of s me) me.cpu).trap

-- an instruction whose machine fault enters a handler: it, too, changes only its process
abbrev pub enters : Process → Trap → Bool
enters me (trap.Fault sig) = enters_handler me sig
enters me t = false

-- the process runs such an instruction next
abbrev pub next_enters : State → Option Process → Bool
next_enters s None = false
next_enters s (Some me) = if is_held me then false else enters me (exec_one (code_of s me) me.cpu).trap

-- the process that runs instructions next, or 0 if none does
abbrev pub runner : Option Process → ℕ
runner None = 0
runner (Some me) = if is_held me then 0 else me.pid

abbrev pub none_taken : ℕ → StepsTaken
none_taken before = record { last = before; notes = []; trap = trap.Next }

-- the steps after number before, up to number last, that the process takes at once: each runs a plain instruction or
-- one that gives a note
abbrev pub taken_at_once : State → ℕ → ℕ → Option Process → StepsTaken
taken_at_once s before last None = none_taken before
taken_at_once s before last (Some me) = if is_held me then none_taken before else (exec_with_notes (code_of s me) most_notes before last me.cpu).taken

-- one more step follows if none was taken, or if a call or a machine fault is next
abbrev pub is_followed_by_step : ℕ → ℕ → Trap → Bool
is_followed_by_step before last trap.Next = last == before
is_followed_by_step before last t = true

abbrev pub with_step_behind : ℕ → StepsTaken → ℕ
with_step_behind before taken = if is_followed_by_step before taken.last taken.trap then taken.last + 1 else taken.last

-- the number of the last step that is taken at once, from the one after number before up to number last
abbrev pub last_given : ℕ → ℕ → State → ℕ
last_given before last s = if s.halted then before + 1 else with_step_behind before (taken_at_once s before last (current_process s))

-- the notes of p, as lines
abbrev pub note_line : ℕ → Note → Line
note_line p note = line note.step (Noted p note.value)

abbrev pub noted_lines : ℕ → List Note → List Line
noted_lines p notes = map (note_line p) notes

-- The next step begins this call of p, which is in the run queue.
pub record ComesTo (s : State) (p : ℕ) (call : Call) : Type 0 where
  pub going : s.halted ≡ false
  pub acting : IsActing s p
  pub none_chosen : NoneChosen s p
  pub now : current_process s ≡ Some acting.placed.what
  pub free : acting.placed.what.blocked ≡ None
  pub next : (exec_one (code_of s acting.placed.what) acting.placed.what.cpu).trap ≡ trap.Call call
  pub begins : (granted : Bool) (me : Process) → process s p ≡ Some me → step granted s (current_process s) ≡ begin_call s me (attempt granted s me call)

-- This was read of the current process, which is live.
pub record IsReadOfCurrent (s : State) (it : Snapshot) : Type 0 where
  pub acting : IsActing s it.pid
  pub now : current s ≡ Some it.pid
  pub read : Some it ≡ option_map snapshot_of (process s it.pid)

-- The steps after number before, up to number last, lead from old to new, and show these notes of p. No process is
-- created, no time passes, and nothing is left to settle.
pub record Bursts (old : State) (before last p : ℕ) (notes : List Note) (new : State) : Type 0 where
  pub runs : RunsFrom (before + 1) old (replicate (last - before) Step) (noted_lines p notes) new
  pub births : new.births ≡ old.births
  pub ticks : new.ticks ≡ old.ticks
  pub settled : IsSettled new
