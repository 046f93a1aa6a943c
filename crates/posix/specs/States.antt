-- The state of the machine: the records of the processes, and the rest of the system's state.
use Rattle.std.specs.Prelude.{ℕ, ◌==◌, Bool, false, not, List, [], ◌∷◌, ◌++◌, filter, slice_get, Option, option_and_then, replicate}
use Rattle.std.specs.List.{list_any}
use Rattle.posix.specs.declared.instr.Instr.{Instr}
use Rattle.posix.specs.Processes.{Process, first_process}
use Rattle.posix.specs.Tables.{lookup, changed}
use Rattle.posix.specs.NextPid.{is_free, next_free}
use Rattle.posix.specs.Consoles.{Console, unused_console}

-- A program, and the user and group IDs that exec sets for it, if any, XSH exec.
pub record Program : Type 0 where
  pub setuid : Option ℕ
  pub setgid : Option ℕ
  pub instructions : List Instr

-- The contents of a world file.
pub record World : Type 0 where
  pub pidmax : ℕ
  pub consoles : ℕ
  pub programs : List Program

-- The whole state of the machine (own).
pub record State : Type 0 where
  pub world : World  -- never changes
  pub processes : List Process  -- in ascending order of process ID
  pub consoles : List Console
  pub last_pid : ℕ  -- the process ID allocated last
  pub births : ℕ
  pub ticks : ℕ
  pub order : List ℕ  -- the run queue; its head is the current process
  pub dropped : ℕ
  pub halted : Bool

-- ---- records

abbrev pub process : State → ℕ → Option Process
process s p = lookup p s.processes

-- Returns the state with the record of p changed by f.
abbrev pub change : State → ℕ → (Process → Process) → State
change s p f = record s { processes = changed p f s.processes }

-- Returns the process ID that the next fork gets, or None if no ID is free.
abbrev pub next_pid : State → Option ℕ
next_pid s = next_free (is_free s.processes) s.last_pid s.world.pidmax

-- ---- the run queue (own)

unfoldable pub is_in : ℕ → List ℕ → Bool
is_in p order = list_any (λ q. q == p) order

unfoldable pub without : ℕ → List ℕ → List ℕ
without p order = filter (λ q. not (q == p)) order

abbrev pub has_place : State → ℕ → Bool
has_place s p = is_in p s.order

abbrev pub lose_place : State → ℕ → State
lose_place s p = record s { order = without p s.order }

-- Puts p at the end of the run queue.
abbrev pub go_last : State → ℕ → State
go_last s p = record s { order = without p s.order ++ p ∷ [] }

abbrev pub current : State → Option ℕ
current s = slice_get s.order 0

abbrev pub current_process : State → Option Process
current_process s = option_and_then (process s) (current s)

-- ---- boot

-- Returns the state at boot: process 1 runs the first program, and is the only process in the run queue (own).
abbrev pub boot : World → State
boot w = record {
  world = w;
  processes = first_process ∷ [];
  consoles = replicate w.consoles unused_console;
  last_pid = 1;
  births = 1;
  ticks = 0;
  order = 1 ∷ [];
  dropped = 0;
  halted = false;
}
