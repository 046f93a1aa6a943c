-- Which pending signal is delivered next, XSH 2.4.1.
use Rattle.std.specs.Prelude.{ℕ, ◌-◌, Bool, ◌&&◌, not, if◌then◌else◌, find, filter, List, [], ◌∷◌, ◌++◌, Option, Some, None, pos, slice_index_or, unwrap_or}
use Rattle.std.specs.List.{range_with_len}
use Rattle.posix.specs.declared.process.Carried.{Carried}
use Rattle.posix.specs.declared.process.Life.{Life}
use Rattle.posix.specs.declared.process.PendingSignal.{PendingSignal}
use Rattle.posix.specs.SignalNumbers.{KILL, is_realtime}
use Rattle.posix.specs.SignalSets.{has}
use Rattle.posix.specs.Processes.{Signals, is_running}
use Rattle.posix.specs.Generation.{has_sig, is_pending, with_pending, with_queue}

-- Returns true if signal s is pending and not blocked.
abbrev pub is_ready : Signals → ℕ → Bool
is_ready g s = is_pending g s && not (has g.mask s)

-- All signals: the standard signals, then the real-time signals, each in ascending order.
abbrev pub all_signals : List ℕ
all_signals = range_with_len 1 31 ++ range_with_len 34 31

-- Returns the lowest-numbered signal that is pending and not blocked. Standard signals go before
-- real-time signals (own).
unfoldable pub least_ready : Signals → Option ℕ
least_ready g = find (is_ready g) all_signals

-- Returns the signal to deliver next: SIGKILL first, then the lowest number (own). Linux delivers SIGSEGV, SIGBUS,
-- SIGILL, SIGTRAP, SIGFPE and SIGSYS before others. A stopped process gets only SIGKILL delivered.
unfoldable pub chosen : Life → Signals → Option ℕ
chosen life g =
    if is_pending g KILL then Some KILL
    else if is_running life then least_ready g
    else None

-- The value and sender of a signal that the kernel generates.
abbrev pub from_kernel : Carried
from_kernel = record { value = pos 0; sender = 0 }

-- Returns the value and sender of the first queued signal with number s, XSH 2.4.2.
unfoldable pub first_carried : ℕ → List PendingSignal → Option Carried
first_carried s [] = None
first_carried s (m ∷ ms) = if has_sig s m then Some m.carried else first_carried s ms

unfoldable pub without_first : ℕ → List PendingSignal → List PendingSignal
without_first s [] = []
without_first s (m ∷ ms) = if has_sig s m then ms else m ∷ without_first s ms

-- Returns the value and sender of the pending signal s.
abbrev pub carried_by : ℕ → Signals → Carried
carried_by s g = unwrap_or (if is_realtime s then first_carried s g.queue else slice_index_or g.standard (s - 1) None) from_kernel

-- Removes the pending signal s. Of several queued real-time signals with this number, only the first is removed.
unfoldable pub taken : ℕ → Signals → Signals
taken s g = if is_realtime s then with_queue (without_first s g.queue) g else with_pending s None g

-- Discards all pending signals with number s.
unfoldable pub discarded : ℕ → Signals → Signals
discarded s g = if is_realtime s then with_queue (filter (λ m. not (has_sig s m)) g.queue) g else with_pending s None g
