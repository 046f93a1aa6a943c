-- The signal tables of a process.
use Rattle.std.specs.Prelude.{◌≡◌, ℕ, ◌<◌, ◌==◌, ◌&&◌, if◌then◌else◌, List, [], Option, Some, None, map, replicate, slice_index_or}
use Rattle.std.specs.Int.{bit_at}
use Rattle.std.specs.List.{list_any, range_with_len}
use Rattle.posix.specs.declared.process.Action.{Action}
use Rattle.posix.specs.declared.process.Carried.{Carried}
use Rattle.posix.specs.declared.process.Frame.{Frame}
use Rattle.posix.specs.declared.process.PendingSignal.{PendingSignal}
use Rattle.posix.specs.Common.{is_realtime, has, Signals, default_actions, has_sig, from_kernel}
use Rattle.signal.specs.declared.action_fields.Actions.{Actions}
use Rattle.signal.specs.ActionFields.{actions_of, actions_or_blank}

pub record TablesView : Type 0 where
  pub actions : List Action
  pub carried : List Carried  -- of the standard signals
  pub queue : List PendingSignal  -- of real-time signals
  pub frames : List Frame

-- no signal carries anything
unfoldable pub nothing_carried : List Carried
nothing_carried = replicate 31 from_kernel

-- the tables of process 1 at boot
abbrev pub initial_tables : TablesView
initial_tables = record { actions = default_actions; carried = nothing_carried; queue = []; frames = [] }

-- what signal i + 1 carries, if it is in the set of pending signals
abbrev pub pending_at : ℕ → List Carried → ℕ → Option Carried
pending_at pending carried i = if bit_at pending i == 1 then Some (slice_index_or carried i from_kernel) else None

unfoldable pub standard_of : ℕ → List Carried → List (Option Carried)
standard_of pending carried = map (pending_at pending carried) (range_with_len 0 31)

-- the signals of a process with this mask, this set of pending signals and these tables
abbrev pub signals_of : ℕ → ℕ → TablesView → Signals
signals_of mask pending t = record { mask = mask; standard = standard_of pending t.carried; queue = t.queue; actions = t.actions; frames = t.frames }

-- Of the signals above 31, a set of pending signals contains those that are queued, which are real-time signals.
abbrev pub MarksQueued : ℕ → List PendingSignal → Type 0
MarksQueued pending queue = (s : ℕ) → 31 < s → has pending s ≡ (is_realtime s && list_any (has_sig s) queue)

-- ---- in memory

-- what signals carry, if it is kept; otherwise nothing
abbrev pub carried_or_blank : List (List Carried) → List Carried
carried_or_blank kept = slice_index_or kept 0 nothing_carried

-- nothing is queued without a pool
abbrev pub queue_in : Option (List PendingSignal) → List PendingSignal
queue_in None = []
queue_in (Some queue) = queue

-- the model of the tables
abbrev pub view_of : List Actions → List (List Carried) → Option (List PendingSignal) → List Frame → TablesView
view_of actions carried queue frames = record { actions = actions_of (actions_or_blank actions); carried = carried_or_blank carried; queue = queue_in queue; frames = frames }
