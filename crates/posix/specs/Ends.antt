-- Process termination, XSH _exit, Consequences of Process Termination.
use Rattle.std.specs.Prelude.{ℕ, ◌+◌, ◌==◌, Bool, true, false, not, ◌&&◌, ◌||◌, if◌then◌else◌, List, [], ◌∷◌, filter, Option, Some, None}
use Rattle.std.specs.Option.{option_map_or}
use Rattle.posix.specs.declared.entry.Entry.TheVariants.{Ended, Halted}
use Rattle.posix.specs.declared.process.Life.{Life}
use Rattle.posix.specs.declared.process.Life.TheVariants.{Zombie}
use Rattle.posix.specs.declared.process.News.TheVariants as news
use Rattle.posix.specs.declared.process.PendingSignal.{PendingSignal}
use Rattle.posix.specs.SignalNumbers.{HUP, CHLD, CONT}
use Rattle.posix.specs.Processes.{Process, Signals, nothing_pending, is_zombie}
use Rattle.posix.specs.Tables.{lookup, pids, changed, removed, adopted, children_in, members_in}
use Rattle.posix.specs.States.{State, change, without, lose_place}
use Rattle.posix.specs.Heirs.{heir_in}
use Rattle.posix.specs.Consoles.{Console, console_of, changed_console, released}
use Rattle.posix.specs.Outcomes.{Outcome}
use Rattle.posix.specs.Generation.{action, has_flag, SA_NOCLDWAIT}
use Rattle.posix.specs.Choice.{from_kernel}
use Rattle.posix.specs.Notices.{child_signal, ignores_children, noticed, signalled_all}
use Rattle.posix.specs.Groups.{newly_orphaned}

-- Makes the process a zombie, and keeps everything else.
unfoldable pub ended : ℕ → Process → Process
ended status r = record r { life = Zombie status }

abbrev pub forgotten : Signals → Signals
forgotten g = record g { standard = nothing_pending; queue = []; frames = [] }

-- Makes the process a zombie: it has no pending signals, no frames, no stop or continue to report and no alarm, and
-- is in no call. The rest of the record stays.
unfoldable pub made_zombie : ℕ → Process → Process
made_zombie status r = record r {
  life = Zombie status;
  signals = forgotten r.signals;
  news = news.Nothing;
  alarm = None;
  blocked = None;
}

-- Terminates process 1: it becomes a zombie with its wait status and leaves the run queue, and the machine halts.
-- Nothing else changes (own).
abbrev pub halt : State → ℕ → State
halt s status = record (lose_place (change s 1 (ended status)) 1) { halted = true }

-- The process becomes a zombie with its wait status and leaves the run queue, and its children, zombies included, are
-- reparented. XSH _exit leaves the choice of the new parent to the system.
abbrev pub leave_children_and_die : State → ℕ → ℕ → ℕ → State
leave_children_and_die s p heir status = record s { processes = adopted p heir (changed p (made_zombie status) s.processes); order = without p s.order }

-- ---- SIGCHLD for a termination

-- Returns true if the parent ignores SIGCHLD or has SA_NOCLDWAIT, so that its children leave no
-- zombies, XSH _exit and sigaction.
abbrev pub drops_children : Signals → Bool
drops_children g = ignores_children g || has_flag (action g CHLD) SA_NOCLDWAIT

abbrev pub is_dropping : ℕ → List Process → Bool
is_dropping parent rs = option_map_or (λ r. drops_children r.signals) (lookup parent rs) false

-- Removes the record of a zombie without a report.
abbrev pub drop_child : State → ℕ → State
drop_child s child = record s { processes = removed child s.processes; dropped = s.dropped + 1 }

-- Notifies the parent that a child terminated, and removes the child if the parent's children leave no zombies.
unfoldable pub notice_of_end : State → ℕ → ℕ → ℕ → State
notice_of_end s parent child status =
    let told = change s parent (noticed (child_signal child status)) in
    if is_dropping parent s.processes then drop_child told child else told

abbrev pub status_of : Life → ℕ
status_of (Zombie status) = status
status_of _ = 0

-- Returns the zombies among the children of p, in ascending order.
unfoldable pub zombies_of : ℕ → List Process → List Process
zombies_of p rs = filter (λ r. is_zombie r.life) (children_in p rs)

-- Notifies the new parent of each zombie, one after another.
unfoldable pub tell_of_all : State → ℕ → List Process → State
tell_of_all s heir [] = s
tell_of_all s heir (r ∷ rs) = tell_of_all (notice_of_end s heir r.pid (status_of r.life)) heir rs

-- ---- process groups that a termination orphans

-- Generates a signal for each member of a process group, zombies included, in ascending order.
unfoldable pub signalled_members : PendingSignal → ℕ → List Process → List Process
signalled_members signal group rs = signalled_all signal (pids (members_in group rs)) rs

-- Generates a signal from the kernel for each member of a process group; there is no process group 0.
abbrev pub signalled_group : ℕ → ℕ → List Process → List Process
signalled_group n group rs = if group == 0 then rs else signalled_members (record { sig = n; carried = from_kernel }) group rs

-- Generates SIGHUP for each member of a process group, then SIGCONT for each, XSH _exit.
abbrev pub hup_and_cont : ℕ → List Process → List Process
hup_and_cont group rs = signalled_members (record { sig = CONT; carried = from_kernel }) group (signalled_members (record { sig = HUP; carried = from_kernel }) group rs)

-- Generates SIGHUP and SIGCONT for the members of several process groups, one group after another.
unfoldable pub hup_and_cont_all : List ℕ → List Process → List Process
hup_and_cont_all [] rs = rs
hup_and_cont_all (g ∷ gs) rs = hup_and_cont_all gs (hup_and_cont g rs)

-- Generates SIGHUP and SIGCONT for the newly orphaned process groups that have a stopped member.
abbrev pub hup_and_cont_orphans : List Process → State → State
hup_and_cont_orphans before s = record s { processes = hup_and_cont_all (newly_orphaned before s.processes) s.processes }

-- ---- the terminal of a session

abbrev pub hung_up : State → ℕ → Option Console → State
hung_up s session None = s
hung_up s session (Some c) = record s {
  processes = signalled_group HUP c.foreground s.processes;
  consoles = changed_console session released s.consoles;
}

-- If a session leader other than process 1 terminates, each member of the foreground process group of its terminal
-- gets SIGHUP, and the session loses the terminal, XSH _exit.
unfoldable pub hang_up : State → Process → State
hang_up s r = if not (r.pid == 1) && r.session == r.pid then hung_up s r.session (console_of r.session s.consoles) else s

-- ---- the termination of a process

-- Terminates a process; if it is process 1, the machine halts. Otherwise, in this order: the process becomes a zombie
-- and its children are reparented; the new parent is notified of each zombie among them; the process groups that this
-- orphans, and that have a stopped member, get SIGHUP and SIGCONT; and the parent is notified of the termination.
abbrev pub end_with_heir : State → Process → ℕ → ℕ → Outcome
end_with_heir s r heir status =
    if r.pid == 1 then record { state = halt s status; entries = Ended r.pid status ∷ Halted ∷ [] }
    else record {
      state = notice_of_end (hup_and_cont_orphans s.processes (tell_of_all (leave_children_and_die s r.pid heir status) heir (zombies_of r.pid s.processes))) r.parent r.pid status;
      entries = Ended r.pid status ∷ [];
    }

-- Terminates a process. A session leader loses the session's terminal first.
unfoldable pub end_process : State → Process → ℕ → Outcome
end_process s r status = let hung = hang_up s r in end_with_heir hung r (heir_in hung.processes r.pid) status
