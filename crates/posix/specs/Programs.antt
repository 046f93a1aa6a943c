-- Replacing the program of a process, XSH exec.
use Rattle.std.specs.Prelude.{ℕ, true, [], ◌∷◌, map, Option, Some, None, ℤ, pos, negsuc, slice_get}
use Rattle.posix.specs.declared.call.Call.TheVariants.{Exec}
use Rattle.posix.specs.declared.errno.Errno.TheVariants.{ENOENT}
use Rattle.posix.specs.declared.entry.Entry.TheVariants.{Called}
use Rattle.posix.specs.declared.process.Action.{Action}
use Rattle.posix.specs.declared.process.Handler.{Handler}
use Rattle.posix.specs.declared.process.Handler.TheVariants as handler
use Rattle.posix.specs.Processes.{Process, Cpu, Signals, argument, initial_action, fresh_cpu}
use Rattle.posix.specs.States.{State, Program, change}
use Rattle.posix.specs.Execute.{set_register}
use Rattle.posix.specs.Outcomes.{Attempted, Done, refused}
use Rattle.posix.specs.Credentials.{on_exec}

-- Caught signals get the default action; ignored signals stay ignored.
abbrev pub handler_on_exec : Handler → Handler
handler_on_exec handler.Ignore = handler.Ignore
handler_on_exec _ = handler.Default

-- The masks and flags of actions are cleared, too (own).
abbrev pub action_on_exec : Action → Action
action_on_exec a = record initial_action { handler = handler_on_exec a.handler }

-- No handler is left to return from. The signal mask and the pending signals stay.
abbrev pub signals_on_exec : Signals → Signals
signals_on_exec g = record g { actions = map action_on_exec g.actions; frames = [] }

-- The old r2 and r3 become the new r1 and r2; all other registers and the memory become 0 (own).
abbrev pub cpu_on_exec : Process → Cpu
cpu_on_exec r = set_register (set_register fresh_cpu 1 (argument r 2)) 2 (argument r 3)

-- Returns the process after exec. Its process ID, parent, process group, session, status change,
-- alarm and subreaper mark stay.
unfoldable pub executed : ℕ → Program → Process → Process
executed number program r = record r {
  credentials = on_exec program.setuid program.setgid r.credentials;
  signals = signals_on_exec r.signals;
  ran_exec = true;
  program = number;
  cpu = cpu_on_exec r;
}

-- A successful exec doesn't advance the pc, which is already at the start of the new program.
abbrev pub exec_as : State → Process → ℕ → Option Program → Attempted
exec_as s me number None = refused s me.pid Exec ENOENT
exec_as s me number (Some program) = Done (record {
  state = change s me.pid (executed number program);
  entries = Called me.pid Exec (pos 0) ∷ [];
})

abbrev pub exec_of : State → Process → ℤ → Attempted
exec_of s me (pos n) = exec_as s me n (slice_get s.world.programs n)
exec_of s me (negsuc n) = refused s me.pid Exec ENOENT

-- Attempts exec; r1 is the index of the program.
unfoldable pub exec : State → Process → Attempted
exec s me = exec_of s me (argument me 1)
