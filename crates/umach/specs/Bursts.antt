-- Bursts: instructions in sequence, up to one that isn't plain.
use Rattle.std.specs.Prelude.{◌≡◌, ℕ, zero, suc, ◌+◌, ◌<◌, List}
use Rattle.posix.specs.declared.instr.Instr.{Instr}
use Rattle.posix.specs.declared.instr.Trap.{Trap}
use Rattle.posix.specs.declared.instr.Trap.TheVariants as trap
use Rattle.posix.specs.Common.{Cpu, exec_one}

-- The number of plain instructions, the trap of the one after them, and the processor after that.
pub record Burst : Type 0 where
  pub count : ℕ
  pub trap : Trap  -- Next if all were plain
  pub cpu : Cpu

-- After a plain instruction, the rest follows. A system call and a fault leave the processor unchanged.
abbrev pub then_rest : Trap → Cpu → Cpu → Burst → Burst
then_rest trap.Next old new rest = record { count = rest.count + 1; trap = rest.trap; cpu = rest.cpu }
then_rest (trap.Note value) old new rest = record { count = 0; trap = trap.Note value; cpu = new }
then_rest (trap.Call call) old new rest = record { count = 0; trap = trap.Call call; cpu = old }
then_rest (trap.Fault sig) old new rest = record { count = 0; trap = trap.Fault sig; cpu = old }

-- Runs at most this many instructions, up to the first one that isn't plain.
unfoldable pub exec_until : List Instr → ℕ → Cpu → Burst
exec_until program zero c = record { count = 0; trap = trap.Next; cpu = c }
exec_until program (suc most) c = then_rest (exec_one program c).trap c (exec_one program c).cpu (exec_until program most (exec_one program c).cpu)

-- All instructions were plain, or there was one that wasn't after the plain ones.
abbrev pub IsWithin : ℕ → ℕ → Trap → Type 0
IsWithin most count trap.Next = count ≡ most
IsWithin most count (trap.Note value) = count < most
IsWithin most count (trap.Call call) = count < most
IsWithin most count (trap.Fault sig) = count < most
