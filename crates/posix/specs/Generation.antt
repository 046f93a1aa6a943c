-- Generation of signals: how a signal that is generated for a process changes its pending signals, XSH 2.4.1 and 2.4.3.
use Rattle.std.specs.Prelude.{ℕ, ◌-◌, Bool, true, false, ◌&&◌, ◌||◌, not, if◌then◌else◌, ◌==◌, List, [], ◌∷◌, ◌++◌, Option, Some, None, is_some, slice_index_or, slice_set, bit_and}
use Rattle.std.specs.List.{list_any}
use Rattle.posix.specs.declared.sig.DefaultAction.{DefaultAction}
use Rattle.posix.specs.declared.sig.DefaultAction.TheVariants as default
use Rattle.posix.specs.declared.process.Action.{Action}
use Rattle.posix.specs.declared.process.Carried.{Carried}
use Rattle.posix.specs.declared.process.Effect.{Effect}
use Rattle.posix.specs.declared.process.Effect.TheVariants as effect
use Rattle.posix.specs.declared.process.PendingSignal.{PendingSignal}
use Rattle.posix.specs.declared.process.Handler.{Handler}
use Rattle.posix.specs.declared.process.Handler.TheVariants as handler
use Rattle.posix.specs.declared.process.Life.{Life}
use Rattle.posix.specs.SignalNumbers.{CONT, STOP, TSTP, TTIN, TTOU, is_realtime, is_stop_signal, default_action}
use Rattle.posix.specs.SignalSets.{has}
use Rattle.posix.specs.Processes.{Process, Signals, initial_action, is_zombie, is_stopped}

-- ---- actions

abbrev pub action : Signals → ℕ → Action
action g s = slice_index_or g.actions (s - 1) initial_action

abbrev pub is_caught : Handler → Bool
is_caught (handler.At address) = true
is_caught _ = false

abbrev pub is_ignored : Handler → Bool
is_ignored handler.Ignore = true
is_ignored _ = false

-- Returns true if the default action is to ignore the signal or to continue.
abbrev pub is_harmless : DefaultAction → Bool
is_harmless default.Ignore = true
is_harmless default.Continue = true
is_harmless _ = false

-- Returns true if delivering signal s to this handler has no effect.
abbrev pub does_nothing : Handler → ℕ → Bool
does_nothing handler.Default s = is_harmless (default_action s)
does_nothing handler.Ignore s = true
does_nothing (handler.At address) s = false

-- The flags of sigaction(2).
abbrev pub SA_NOCLDSTOP : ℕ
SA_NOCLDSTOP = 1

abbrev pub SA_NOCLDWAIT : ℕ
SA_NOCLDWAIT = 2

abbrev pub SA_SIGINFO : ℕ
SA_SIGINFO = 4

abbrev pub SA_RESTART : ℕ
SA_RESTART = 268435456

abbrev pub SA_NODEFER : ℕ
SA_NODEFER = 1073741824

abbrev pub SA_RESETHAND : ℕ
SA_RESETHAND = 2147483648

abbrev pub has_flag : Action → ℕ → Bool
has_flag a flag = bit_and a.flags.0 flag == flag

-- ---- pending signals

abbrev pub has_sig : ℕ → PendingSignal → Bool
has_sig s m = m.sig == s

-- Returns true if signal s is pending; a real-time signal is pending if at least one with its number is queued.
abbrev pub is_pending : Signals → ℕ → Bool
is_pending g s = if is_realtime s then list_any (has_sig s) g.queue else is_some (slice_index_or g.standard (s - 1) None)

-- Sets the pending standard signal s to c, or clears it.
abbrev pub with_pending : ℕ → Option Carried → Signals → Signals
with_pending s c g = record g { standard = slice_set g.standard (s - 1) c }

-- Replaces the queue of real-time signals.
abbrev pub with_queue : List PendingSignal → Signals → Signals
with_queue q g = record g { queue = q }

-- Makes a signal pending. A real-time signal is queued each time, after earlier ones, XSH 2.4.2. A standard signal
-- that is already pending keeps its first value and sender (own).
abbrev pub make_pending : PendingSignal → Signals → Signals
make_pending signal g =
    if is_realtime signal.sig then with_queue (g.queue ++ signal ∷ []) g
    else if is_pending g signal.sig then g
    else with_pending signal.sig (Some signal.carried) g

-- Returns true if no signal s is generated for process p: it is a zombie, or it is process 1 without a handler for s,
-- kill(2), even if s is blocked (own). In Linux, a blocked signal becomes pending for process 1.
abbrev pub gets_no_signals : ℕ → Life → Signals → ℕ → Bool
gets_no_signals p life g s = is_zombie life || (p == 1 && not (is_caught (action g s).handler))

-- Returns true if a generated signal s becomes pending: it is blocked, even if it is ignored, or
-- its action has an effect.
abbrev pub keeps : Signals → ℕ → Bool
keeps g s = has g.mask s || not (does_nothing (action g s).handler s)

-- Discards all pending stop signals.
unfoldable pub without_stops : Signals → Signals
without_stops g = with_pending STOP None (with_pending TSTP None (with_pending TTIN None (with_pending TTOU None g)))

-- SIGCONT discards pending stop signals, and a stop signal discards a pending SIGCONT, whether or not they are
-- blocked or ignored, XSH 2.4.1.
abbrev pub after_discards : ℕ → Signals → Signals
after_discards s g =
    if s == CONT then without_stops g
    else if is_stop_signal s then with_pending CONT None g
    else g

-- Returns the signals of process p after a signal is generated for it. Discards come first, even if the signal itself
-- does not become pending. If no signal is generated, nothing is discarded (own); in Linux, process 1 still discards.
unfoldable pub generated : ℕ → Life → PendingSignal → Signals → Signals
generated p life signal g =
    if gets_no_signals p life g signal.sig then g
    else (let h = after_discards signal.sig g in if keeps g signal.sig then make_pending signal h else h)

-- Returns the immediate effect of a generated signal: SIGCONT continues a stopped process, even if it is blocked or
-- ignored, XSH 2.4.1 and 2.4.3.
unfoldable pub effect_of : ℕ → Life → PendingSignal → Signals → Effect
effect_of p life signal g =
    if signal.sig == CONT && (is_stopped life && not (gets_no_signals p life g signal.sig)) then effect.Continued else effect.Nothing

-- Returns the process after a signal is generated for it, without the signal's immediate effect.
unfoldable pub signalled : PendingSignal → Process → Process
signalled signal r = record r { signals = generated r.pid r.life signal r.signals }
