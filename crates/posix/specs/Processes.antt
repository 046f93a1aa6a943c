-- The record of one process.
use Rattle.std.specs.Prelude.{ℕ, Bool, true, false, not, ℤ, pos, List, [], Option, None, slice_index_or, replicate}
use Rattle.posix.specs.declared.ids.Ids.{Ids}
use Rattle.posix.specs.declared.process.Carried.{Carried}
use Rattle.posix.specs.declared.process.PendingSignal.{PendingSignal}
use Rattle.posix.specs.declared.process.Handler.TheVariants as handler
use Rattle.posix.specs.declared.process.Action.{Action}
use Rattle.posix.specs.declared.sa_flags.SaFlags.{SaFlags}
use Rattle.posix.specs.declared.process.Frame.{Frame}
use Rattle.posix.specs.declared.process.Life.{Life}
use Rattle.posix.specs.declared.process.Life.TheVariants.{Running, Stopped, Zombie}
use Rattle.posix.specs.declared.process.News.{News}
use Rattle.posix.specs.declared.process.News.TheVariants as news
use Rattle.posix.specs.declared.process.Blocked.{Blocked}

-- The user machine of a process (own).
pub record Cpu : Type 0 where
  pub pc : ℤ  -- a code address
  pub registers : List ℤ  -- r0 to r7
  pub memory : List ℤ  -- the words at addresses 0 to 255

-- The user and group IDs of a process, credentials(7).
pub record Credentials : Type 0 where
  pub user : Ids ℕ
  pub group : Ids ℕ

-- The signal state of a process, XSH 2.4.
pub record Signals : Type 0 where
  pub mask : ℕ  -- the signal mask: the blocked signals, XSH sigprocmask
  pub standard : List (Option Carried)  -- the pending standard signals: signal s at index s - 1, XSH 2.4.1
  pub queue : List PendingSignal  -- the pending real-time signals, in order of generation, XSH 2.4.2
  pub actions : List Action  -- the action for signal s at index s - 1, XSH 2.4.3
  pub frames : List Frame  -- one per handler that hasn't returned, newest last (own)

-- A process, in the terms of XBD 3 and XSH 2.4; what Linux adds is in credentials(7), signal(7) and waitpid(2).
pub record Process : Type 0 where
  pub pid : ℕ  -- XBD 3 Process ID
  pub birth : ℕ  -- 1 for process 1, 2 for the next process created, .. (own)
  pub parent : ℕ  -- XSH getppid; 0 for process 1
  pub group : ℕ  -- XBD 3 Process Group ID
  pub session : ℕ  -- XBD 3 Session, by its leader's process ID
  pub credentials : Credentials
  pub signals : Signals
  pub life : Life
  pub news : News  -- the stop or continue that no wait has consumed, XSH waitpid
  pub ran_exec : Bool  -- whether it has run exec since its creation, XSH setpgid EACCES
  pub is_subreaper : Bool  -- prctl(2), PR_SET_CHILD_SUBREAPER
  pub alarm : Option ℕ  -- the tick at which SIGALRM is due, XSH alarm
  pub blocked : Option Blocked  -- the call that it is blocked in
  pub program : ℕ  -- the index of its program in the world (own)
  pub cpu : Cpu

abbrev pub is_zombie : Life → Bool
is_zombie (Zombie status) = true
is_zombie _ = false

abbrev pub is_running : Life → Bool
is_running Running = true
is_running _ = false

abbrev pub is_stopped : Life → Bool
is_stopped Stopped = true
is_stopped _ = false

abbrev pub is_living : Process → Bool
is_living r = not (is_zombie r.life)

-- Returns register i, as an argument of a call.
abbrev pub argument : Process → ℕ → ℤ
argument r i = slice_index_or r.cpu.registers i (pos 0)

-- ---- process 1 at boot

abbrev pub root_ids : Ids ℕ
root_ids = record { real = 0; effective = 0; saved = 0 }

abbrev pub root : Credentials
root = record { user = root_ids; group = root_ids }

unfoldable pub nothing_pending : List (Option Carried)
nothing_pending = replicate 31 None

abbrev pub no_flags : SaFlags
no_flags = record { 0 = 0 }

abbrev pub initial_action : Action
initial_action = record { handler = handler.Default; mask = 0; flags = no_flags }

unfoldable pub default_actions : List Action
default_actions = replicate 64 initial_action

abbrev pub initial_signals : Signals
initial_signals = record { mask = 0; standard = nothing_pending; queue = []; actions = default_actions; frames = [] }

unfoldable pub zero_registers : List ℤ
zero_registers = replicate 8 (pos 0)

unfoldable pub zero_memory : List ℤ
zero_memory = replicate 256 (pos 0)

-- Execution begins at code address 16.
abbrev pub fresh_cpu : Cpu
fresh_cpu = record { pc = pos 16; registers = zero_registers; memory = zero_memory }

abbrev pub first_process : Process
first_process = record {
  pid = 1;
  birth = 1;
  parent = 0;
  group = 1;
  session = 1;
  credentials = root;
  signals = initial_signals;
  life = Running;
  news = news.Nothing;
  ran_exec = false;
  is_subreaper = false;
  alarm = None;
  blocked = None;
  program = 0;
  cpu = fresh_cpu;
}
