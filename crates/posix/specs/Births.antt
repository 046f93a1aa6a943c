-- Creation of processes, XSH fork.
use Rattle.std.specs.Prelude.{ℕ, ◌+◌, Bool, false, if◌then◌else◌, [], ◌∷◌, Option, Some, None, pos}
use Rattle.posix.specs.declared.call.Call.TheVariants.{Fork}
use Rattle.posix.specs.declared.errno.Errno.TheVariants.{EAGAIN}
use Rattle.posix.specs.declared.process.News.TheVariants as news
use Rattle.posix.specs.Processes.{Process, nothing_pending}
use Rattle.posix.specs.Tables.{inserted}
use Rattle.posix.specs.States.{State}
use Rattle.posix.specs.Outcomes.{Attempted, finish_with, refused, no_memory, finished}

-- Returns the child with process ID n: a copy of its parent, with its own process ID, birth number and parent. It has
-- no pending signals, no alarm and no status change, has not run exec, and is not a child
-- subreaper. Its fork returns 0.
unfoldable pub child_of : ℕ → Process → ℕ → Process
child_of birth me n = finished ((0, pos 0) ∷ []) (record me {
  pid = n;
  birth = birth;
  parent = me.pid;
  signals = record (me.signals) { standard = nothing_pending; queue = [] };
  news = news.Nothing;
  ran_exec = false;
  is_subreaper = false;
  alarm = None;
})

abbrev pub born : State → Process → ℕ → State
born s me n = record s {
  processes = inserted (child_of (s.births + 1) me n) s.processes;
  last_pid = n;
  births = s.births + 1;
}

-- Attempts fork. Fails with EAGAIN if no process ID is free, or if the host does not grant the memory.
unfoldable pub fork_as : Bool → State → Process → Option ℕ → Attempted
fork_as granted s me None = refused s me.pid Fork EAGAIN
fork_as granted s me (Some n) = if granted then finish_with (born s me n) me.pid Fork (pos n) else no_memory s me.pid Fork
