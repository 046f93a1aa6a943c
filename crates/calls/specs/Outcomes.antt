-- Outcomes of the functions of calls.
use Rattle.std.specs.Prelude.{◌≡◌, ◌≢◌, ◌==◌, ◌&&◌, not, ⊤, ℕ, ◌+◌, ◌≤◌, if◌then◌else◌, Option, None, Bool, true, false, List, [], ◌∷◌, ◌++◌, Some, ℤ, pos, Result, Ok, Err}
use Rattle.posix.specs.declared.call.Call.{Call}
use Rattle.posix.specs.declared.call.Call.TheVariants.{Getpid, Getuid, Geteuid, Getgid, Getegid, Setuid, Seteuid, Setgid, Setegid, Sigaction, Sigprocmask, Sigpending, Waitpid, Waitid, Kill, Sigqueue, Getsid}
use Rattle.posix.specs.declared.entry.Entry.{Entry}
use Rattle.posix.specs.declared.entry.Entry.TheVariants.{Called, NoMemory}
use Rattle.posix.specs.declared.errno.Errno.{Errno}
use Rattle.posix.specs.declared.errno.Errno.TheVariants.{EPERM, ESRCH, EAGAIN}
use Rattle.posix.specs.declared.process.Sending.{Sending}
use Rattle.posix.specs.declared.process.Sending.TheVariants as found
use Rattle.posix.specs.declared.target.Target.{Target}
use Rattle.posix.specs.Common.{CONT, process_in, target_in, signal_or_none, has, action, is_full, Process, argument, State, process, has_place, IsPlaced, attempt}
use Rattle.life.specs.declared.consoles.Unchecked.{Unchecked}
use Rattle.life.specs.declared.consoles.Unchecked.TheVariants.{Nothing, In, All}
use Rattle.life.specs.Rechecks.{is_one, slots_of_survey_of_one}
use Rattle.calls.specs.Counts.{slots_of_rechecks, slots_of_checking}
use Rattle.posix.specs.declared.process.Handler.{Handler}
use Rattle.posix.specs.declared.process.Handler.TheVariants as handler
use Rattle.posix.specs.Outcomes as outcome
use Rattle.proctable.specs.declared.own_part.OwnPart.{OwnPart}
use Rattle.proctable.specs.declared.snapshot.Snapshot.{Snapshot}
use Rattle.proctable.specs.Records.{give_own}
use Rattle.life.specs.Machines.{MachineView}
use Rattle.calls.specs.declared.outcome.Attempt.{Attempt}
use Rattle.calls.specs.declared.outcome.Attempt.TheVariants as came

-- At most so many slots were read, no process was put on the recheck list, and the same foreground process groups are
-- unchecked.
pub record CostsAtMost (most : ℕ) (old new : MachineView) : Type 0 where
  pub visits : new.visits ≤ old.visits + most
  pub to_recheck : new.to_recheck ≡ old.to_recheck
  pub foregrounds_unchecked : new.foregrounds_unchecked ≡ old.foregrounds_unchecked

-- Nothing is left to settle, and p is in the run queue.
pub record IsQuiet (p : ℕ) (m : MachineView) : Type 0 where
  pub none : m.to_recheck ≡ []
  pub checked : m.foregrounds_unchecked ≡ Nothing
  pub place : has_place m.state p ≡ true

-- no foreground process group is unchecked, or only that of one session's terminal
abbrev pub AreFew : Unchecked → Type 0
AreFew Nothing = ⊤
AreFew (In session) = session ≢ 0
AreFew All = ⊥

-- At most so many slots were read, with those for rechecking and for the unchecked foreground process groups, which are
-- at most one session's.
pub record CostsWithRechecks (most : ℕ) (old new : MachineView) : Type 0 where
  pub reads : new.visits + slots_of_rechecks new.state.processes None new.to_recheck + slots_of_checking new.foregrounds_unchecked ≤ old.visits + most
  pub unchecked : AreFew new.foregrounds_unchecked
  pub consoles : new.state.consoles ≡ old.state.consoles

-- the signal is SIGCONT
abbrev pub is_cont : Result (Option ℕ) Errno → Bool
is_cont (Ok (Some n)) = n == CONT
is_cont sig = false

-- two slots are read before a real-time signal is queued for one process
abbrev pub slots_before : Result (Option ℕ) Errno → ℕ
slots_before (Ok sig) = slots_of_survey_of_one sig
slots_before (Err why) = 0

-- a signal sent to one process by its ID, or to no process, without the look at its caller
abbrev pub slots_of_kill : Result (Option ℕ) Errno → ℕ
slots_of_kill sig = if is_cont sig then 12 else 4 + slots_before sig

-- the same with its caller, if at most one process is selected
abbrev pub slots_of_sending : Process → Target → Option ℕ
slots_of_sending me target = if is_one target then Some (slots_of_kill (signal_or_none (argument me 2)) + 1) else None

-- At most how many slots a wait reads, or a signal sent to one process by its ID or to no process, with the look at the
-- caller and settling. No bound is given for other calls that change more than their caller.
abbrev pub slots_of_brief : Call → Process → Option ℕ
slots_of_brief Waitpid me = Some 6
slots_of_brief Waitid me = Some 6
slots_of_brief Kill me = slots_of_sending me (target_in (argument me 1))
slots_of_brief Sigqueue me = slots_of_sending me (process_in (argument me 1))
slots_of_brief call me = None

abbrev pub is_address : Handler → Bool
is_address (handler.At address) = true
is_address other = false

-- a machine fault enters a handler: there is one, its signal isn't blocked, and there is room for its frame
abbrev pub enters_handler : Process → ℕ → Bool
enters_handler me n = is_address (action me.signals n).handler && (not (has me.signals.mask n) && not (is_full me.signals))

-- ---- attempts

-- The code's attempt has the outcome that the definition says. It has completed, and its entries come after those
-- before; or it restarts, and shows nothing; or the process has to wait, and nothing has changed.
abbrev pub Comes : State → outcome.Attempted → Attempt → List Entry → List Entry → State → Type 0
Comes old (outcome.Done o) came.Done before after new = (after ≡ before ++ o.entries) × (new ≡ o.state)
Comes old (outcome.Block b) (came.Block c) before after new = (c ≡ b) × (after ≡ before) × (new ≡ old)
Comes old (outcome.Again t) came.Again before after new = (after ≡ before) × (new ≡ t)
Comes old attempted result before after new = ⊥

-- The call of p may have this outcome.
abbrev pub Attempts : State → ℕ → Call → Attempt → List Entry → List Entry → State → Type 0
Attempts old p call result before after new = (me : Process) → process old p ≡ Some me → (granted : Bool) × Comes old (attempt granted old me call) result before after new

-- the result of a call, by the outcome of its send
abbrev pub value_of_sending : Sending → ℤ
value_of_sending found.NobodyFound = outcome.refusal ESRCH
value_of_sending found.NobodyPermitted = outcome.refusal EPERM
value_of_sending found.QueueFull = outcome.refusal EAGAIN
value_of_sending found.NoMemory = outcome.refusal EAGAIN
value_of_sending found.Permitted = pos 0

-- its entry
abbrev pub entry_of_sending : ℕ → Call → Sending → Entry
entry_of_sending p call found.NoMemory = NoMemory p call
entry_of_sending p call answer = Called p call (value_of_sending answer)

-- what getpgid or getsid reports of a process
abbrev pub id_told : Call → Snapshot → ℕ
id_told Getsid it = it.session
id_told call it = it.group

-- p is in the run queue, and live.
pub record IsActing (s : State) (p : ℕ) : Type 0 where
  pub placed : IsPlaced s.processes p
  pub place : has_place s p ≡ true

-- the process p with this own part
abbrev pub with_own : ℕ → OwnPart → Process → Process
with_own p o r = record (give_own o r) { pid = p }

-- ---- calls that change only their caller

abbrev pub changes_caller_alone : Call → Bool
changes_caller_alone Getpid = true
changes_caller_alone Getuid = true
changes_caller_alone Geteuid = true
changes_caller_alone Getgid = true
changes_caller_alone Getegid = true
changes_caller_alone Setuid = true
changes_caller_alone Seteuid = true
changes_caller_alone Setgid = true
changes_caller_alone Setegid = true
changes_caller_alone Sigaction = true
changes_caller_alone Sigprocmask = true
changes_caller_alone Sigpending = true
changes_caller_alone call = false

-- the result of a call that succeeds or fails
abbrev pub value_of : Result (Unit {0}) Errno → ℤ
value_of (Ok done) = pos 0
value_of (Err why) = outcome.refusal why

-- The reply was returned, and its changes were made.
pub record Replies (reply : outcome.Reply) (value : ℤ) (old new : OwnPart) : Type 0 where
  pub given : value ≡ reply.value
  pub changed : (r : Process) → give_own new r ≡ reply.changes (give_own old r)

-- The call of the process me has this reply, and was carried out so.
pub record RepliesTo (me : Process) (call : Call) (value : ℤ) (old new : OwnPart) : Type 0 where
  pub reply : outcome.Reply
  pub attempts : (granted : Bool) (s : State) → attempt granted s me call ≡ outcome.finish_call s me.pid call reply
  pub replies : Replies reply value old new

-- It was completed, and is shown.
pub record Answers (me : Process) (call : Call) (old new : OwnPart) (before after : List Entry) : Type 0 where
  pub reply : outcome.Reply
  pub attempts : (granted : Bool) (s : State) → attempt granted s me call ≡ outcome.finish_call s me.pid call reply
  pub left : (r : Process) → give_own new r ≡ outcome.finished ((0, reply.value) ∷ []) (reply.changes (give_own old r))
  pub shown : after ≡ before ++ Called me.pid call reply.value ∷ []
