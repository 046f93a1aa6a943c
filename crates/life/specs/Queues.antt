-- Sends of real-time signals: what is looked at before them, and their outcome.
use Rattle.std.specs.Prelude.{◌≡◌, ℕ, ◌+◌, ◌≤◌, ◌||◌, Bool, true, false, if◌then◌else◌, List, Option, Some, length}
use Rattle.std.specs.List.{list_any}
use Rattle.posix.specs.declared.process.PendingSignal.{PendingSignal}
use Rattle.posix.specs.declared.process.Sending.{Sending}
use Rattle.posix.specs.declared.process.Sending.TheVariants as found
use Rattle.posix.specs.declared.target.Target.{Target}
use Rattle.posix.specs.Common.{Process, has_full_queue, permitted, queuers, sending_found, sent, targets}
use Rattle.life.specs.declared.surveys.Survey.{Survey}
use Rattle.life.specs.Machines.{Changes, MachineView, with_processes}
use Rattle.life.specs.Rechecks.{rechecking_signalled}

-- none of these processes has a full queue, and there are pools for all of them
pub record HaveRoom (pools : ℕ) (qs : List Process) : Type 0 where
  pub free : list_any has_full_queue qs ≡ false
  pub enough : length qs ≤ pools

-- those of these processes that would queue a signal of this sender
abbrev pub queuing : Process → ℕ → List Process → List Process
queuing me n qs = queuers (Some n) (permitted me (Some n) qs)

-- the survey of these processes, which the target selects
unfoldable pub survey_of : Process → ℕ → List Process → Survey
survey_of me n qs = record { found = sending_found me (Some n) qs; is_full = list_any has_full_queue (queuing me n qs); queuers = length (queuing me n qs) }

-- the later of two results of a send, in the order of Sending
abbrev pub joined : Sending → Sending → Sending
joined found.NobodyFound b = b
joined found.NobodyPermitted found.NobodyFound = found.NobodyPermitted
joined found.NobodyPermitted b = b
joined found.Permitted found.NobodyFound = found.Permitted
joined found.Permitted found.NobodyPermitted = found.Permitted
joined found.Permitted b = b
joined found.QueueFull found.NoMemory = found.NoMemory
joined found.QueueFull b = found.QueueFull
joined found.NoMemory b = found.NoMemory

abbrev pub joined_surveys : Survey → Survey → Survey
joined_surveys a b = record { found = joined a.found b.found; is_full = a.is_full || b.is_full; queuers = a.queuers + b.queuers }

-- the signal was sent
abbrev pub is_sent : Sending → Bool
is_sent found.Permitted = true
is_sent found.NobodyFound = false
is_sent found.NobodyPermitted = false
is_sent found.QueueFull = false
is_sent found.NoMemory = false

-- the processes after a send with this result
abbrev pub sent_as : Sending → Process → Target → Option PendingSignal → List Process → List Process
sent_as answer me target signal rs = if is_sent answer then sent me target signal rs else rs

-- and the recheck list
abbrev pub rechecking_as : Sending → Process → Option PendingSignal → Target → List Process → List ℕ → List ℕ → List ℕ
rechecking_as answer me signal target rs order ns = if is_sent answer then rechecking_signalled me signal (targets me target rs) rs order ns else ns

-- a send with this result, which reads at most n slots
abbrev pub Sends : Sending → Process → Target → Option PendingSignal → ℕ → MachineView → MachineView → Type 0
Sends answer me target signal n old new = Changes n old new (with_processes old.state (sent_as answer me target signal old.state.processes)) (rechecking_as answer me signal target old.state.processes old.state.order old.to_recheck)
