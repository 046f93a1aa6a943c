-- Execution of one instruction on a processor with its memory (own).
use Rattle.std.specs.Prelude.{◌≡◌, ℕ, ◌-◌, Bool, true, false, not, if◌then◌else◌, ◌==◌, nat_le, nat_lt, List, Option, Some, None, ℤ, pos, negsuc, int_rem, slice_get, slice_set, slice_index_or}
use Rattle.std.specs.Int.{w64, int_wrapping_add, int_wrapping_sub, int_wrapping_mul, int_wrapping_div, int_bit_and, int_bit_or, int_bit_xor}
use Rattle.posix.specs.declared.instr.Instr.{Instr}
use Rattle.posix.specs.declared.instr.Instr.TheVariants.{Set, Move, Compute, Load, Store, Jump, JumpIf, Note, Sys}
use Rattle.posix.specs.declared.instr.Operator.{Operator}
use Rattle.posix.specs.declared.instr.Operator.TheVariants.{Add, Sub, Mul, Div, Rem, And, Or, Xor}
use Rattle.posix.specs.declared.instr.Condition.{Condition}
use Rattle.posix.specs.declared.instr.Condition.TheVariants.{Zero, NotZero, Negative}
use Rattle.posix.specs.declared.instr.Trap.{Trap}
use Rattle.posix.specs.declared.instr.Trap.TheVariants as trap
use Rattle.posix.specs.SignalNumbers.{FPE, SEGV}
use Rattle.posix.specs.Processes.{Cpu}

-- The result of an instruction: its trap, and the processor after it.
pub record Executed : Type 0 where
  pub trap : Trap
  pub cpu : Cpu

abbrev pub register : Cpu → ℕ → ℤ
register c r = slice_index_or c.registers r (pos 0)

abbrev pub set_register : Cpu → ℕ → ℤ → Cpu
set_register c r z = record c { registers = slice_set c.registers r z }

-- Advances the pc by one, as an i64 that wraps.
abbrev pub move_on : Cpu → Cpu
move_on c = record c { pc = int_wrapping_add w64 c.pc (pos 1) }

-- The instruction was executed.
abbrev pub done : Cpu → Executed
done c = record { trap = trap.Next; cpu = c }

-- A machine fault leaves the processor unchanged.
abbrev pub faulted : Cpu → ℕ → Executed
faulted c signal = record { trap = trap.Fault signal; cpu = c }

-- ---- operators and conditions

abbrev pub is_zero : ℤ → Bool
is_zero (pos n) = n == 0
is_zero (negsuc n) = false

abbrev pub is_negative : ℤ → Bool
is_negative (pos n) = false
is_negative (negsuc n) = true

-- Results wrap, even the quotient of the lowest number by -1. Div and Rem by 0 have no result.
abbrev pub computed : Operator → ℤ → ℤ → Option ℤ
computed Add x y = Some (int_wrapping_add w64 x y)
computed Sub x y = Some (int_wrapping_sub w64 x y)
computed Mul x y = Some (int_wrapping_mul w64 x y)
computed Div x y = if is_zero y then None else Some (int_wrapping_div w64 x y)
computed Rem x y = if is_zero y then None else Some (int_rem x y)
computed And x y = Some (int_bit_and w64 x y)
computed Or x y = Some (int_bit_or w64 x y)
computed Xor x y = Some (int_bit_xor w64 x y)

abbrev pub passes : Condition → ℤ → Bool
passes Zero z = is_zero z
passes NotZero z = not (is_zero z)
passes Negative z = is_negative z

-- Writes a result to a register; without a result, it is a SIGFPE fault.
abbrev pub put_result : Cpu → ℕ → Option ℤ → Executed
put_result c r None = faulted c FPE
put_result c r (Some z) = done (move_on (set_register c r z))

-- ---- memory

-- Returns the address that a value names: 0 to 255.
abbrev pub address_of : ℤ → Option ℕ
address_of (pos n) = if nat_lt n 256 then Some n else None
address_of (negsuc n) = None

abbrev pub load_from : Cpu → ℕ → Option ℕ → Executed
load_from c r None = faulted c SEGV
load_from c r (Some address) = done (move_on (set_register c r (slice_index_or c.memory address (pos 0))))

abbrev pub store_at : Cpu → ℤ → Option ℕ → Executed
store_at c z None = faulted c SEGV
store_at c z (Some address) = done (move_on (record c { memory = slice_set c.memory address z }))

-- ---- instructions

abbrev pub jump : Cpu → ℕ → Cpu
jump c address = record c { pc = pos address }

-- Executes an instruction. A system call leaves the pc at the call.
abbrev pub execute : Cpu → Instr → Executed
execute c (Set a z) = done (move_on (set_register c a z))
execute c (Move a b) = done (move_on (set_register c a (register c b)))
execute c (Compute operator a b) = put_result c a (computed operator (register c a) (register c b))
execute c (Load a b) = load_from c a (address_of (register c b))
execute c (Store a b) = store_at c (register c a) (address_of (register c b))
execute c (Jump address) = done (jump c address)
execute c (JumpIf condition a address) = done (if passes condition (register c a) then jump c address else move_on c)
execute c (Note a) = record { trap = trap.Note (register c a); cpu = move_on c }
execute c (Sys call) = record { trap = trap.Call call; cpu = c }

-- Returns the instruction at a code address, if any; the one at index i of a program has code address 16 + i.
abbrev pub fetched : List Instr → ℤ → Option Instr
fetched program (pos n) = if nat_le 16 n then slice_get program (n - 16) else None
fetched program (negsuc n) = None

-- A pc outside the program is a SIGSEGV fault, which leaves the pc unchanged.
abbrev pub execute_fetched : Cpu → Option Instr → Executed
execute_fetched c None = faulted c SEGV
execute_fetched c (Some instr) = execute c instr

-- Executes the instruction at the pc.
unfoldable pub exec_one : List Instr → Cpu → Executed
exec_one program c = execute_fetched c (fetched program c.pc)

-- A system call and a fault leave the value unchanged.
abbrev pub StaysUnlessRun : {A : Type 0} → Trap → A → A → Type 0
StaysUnlessRun (trap.Call call) old new = new ≡ old
StaysUnlessRun (trap.Fault sig) old new = new ≡ old
StaysUnlessRun _ old new = Unit {0}
