-- SIGCHLD for a parent whose child terminates, stops or continues, XSH sigaction, SA_NOCLDSTOP; and signals generated
-- for processes, with SIGCHLD for the parent of each process that SIGCONT continues.
use Rattle.std.specs.Prelude.{ℕ, Bool, ◌||◌, if◌then◌else◌, List, [], ◌∷◌, Option, Some, None, pos}
use Rattle.posix.specs.declared.process.Effect.{Effect}
use Rattle.posix.specs.declared.process.Effect.TheVariants as effect
use Rattle.posix.specs.declared.process.Life.TheVariants.{Running, Stopped}
use Rattle.posix.specs.declared.process.News.TheVariants as news
use Rattle.posix.specs.declared.process.PendingSignal.{PendingSignal}
use Rattle.posix.specs.SignalNumbers.{CHLD}
use Rattle.posix.specs.Statuses.{continued}
use Rattle.posix.specs.Processes.{Process, Signals}
use Rattle.posix.specs.Tables.{lookup, changed}
use Rattle.posix.specs.Generation.{action, has_flag, is_ignored, signalled, effect_of, SA_NOCLDSTOP}

-- SIGCHLD with the wait status as its value and the child as its sender.
abbrev pub child_signal : ℕ → ℕ → PendingSignal
child_signal child status = record { sig = CHLD; carried = record { value = pos status; sender = child } }

abbrev pub ignores_children : Signals → Bool
ignores_children g = is_ignored (action g CHLD).handler

-- Generates SIGCHLD for a child's termination, unless the parent ignores SIGCHLD.
unfoldable pub noticed : PendingSignal → Process → Process
noticed signal r = if ignores_children r.signals then r else signalled signal r

-- Returns true if the parent gets no SIGCHLD for a stop or a continue. SA_NOCLDSTOP counts whatever the handler is,
-- even the default.
abbrev pub ignores_stops : Signals → Bool
ignores_stops g = ignores_children g || has_flag (action g CHLD) SA_NOCLDSTOP

-- Generates SIGCHLD for a child's stop or continue, unless the parent ignores SIGCHLD or has SA_NOCLDSTOP.
unfoldable pub noticed_of_change : PendingSignal → Process → Process
noticed_of_change signal r = if ignores_stops r.signals then r else signalled signal r

-- Notifies the parent of r that r stopped or continued, with this wait status.
unfoldable pub told_of_change : ℕ → Process → List Process → List Process
told_of_change status r rs = changed r.parent (noticed_of_change (child_signal r.pid status)) rs

-- Signal s stops the process, XSH 2.4.3.
unfoldable pub stopped_by : ℕ → Process → Process
stopped_by s r = record r { life = Stopped; news = news.StoppedBy s }

-- Continues the process. A stop that no wait has consumed is lost, and never reported (own).
unfoldable pub resumed : Process → Process
resumed r = record r { life = Running; news = news.Continued }

-- Applies the immediate effect of a signal that was generated for r.
abbrev pub acted_upon : Effect → Process → List Process → List Process
acted_upon effect.Nothing r rs = rs
acted_upon effect.Continued r rs = told_of_change continued r (changed r.pid resumed rs)

-- Generates a signal for one process. If the signal continues it, its parent is notified at once (own); in Linux, the
-- continued process notifies its parent when it next runs. The notification can come last, because
-- no process is its own parent.
abbrev pub generated_for : PendingSignal → Option Process → List Process → List Process
generated_for signal None rs = rs
generated_for signal (Some r) rs = acted_upon (effect_of r.pid r.life signal r.signals) r (changed r.pid (signalled signal) rs)

-- Generates a signal for each of several processes, one after another.
unfoldable pub signalled_all : PendingSignal → List ℕ → List Process → List Process
signalled_all signal [] rs = rs
signalled_all signal (p ∷ ps) rs = signalled_all signal ps (generated_for signal (lookup p rs) rs)
