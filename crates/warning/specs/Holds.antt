-- What is known of registers, and what they hold.
use Rattle.std.specs.Prelude.{◌≡◌, ◌≢◌, ℕ, ℤ, pos, List, slice_index_or}
use Rattle.posix.specs.Common.{Cpu, execute}
use Rattle.posix.specs.declared.call.Call.{Call}
use Rattle.posix.specs.declared.call.Call.TheVariants.{Waitpid, Waitid, Sigaction, Sigprocmask, Sigpending}
use Rattle.posix.specs.declared.instr.Instr.{Instr}
use Rattle.posix.specs.declared.instr.Instr.TheVariants.{Sys}
use Rattle.warning.specs.declared.held.Held.{Held}
use Rattle.warning.specs.declared.held.Held.TheVariants.{Unknown, Constant}

abbrev pub held : List Held → ℕ → Held
held known r = slice_index_or known r Unknown

-- A register holds the constant that is known of it, if one is known.
abbrev pub Holds : List Held → List ℤ → Type 0
Holds known registers = (r : ℕ) (z : ℤ) → held known r ≡ Constant z → slice_index_or registers r (pos 0) ≡ z

-- the registers that a call does not change (docs/FORMATS.md, "Calls")
abbrev pub Keeps : Call → ℕ → Type 0
Keeps Waitpid r = (r ≢ 0) × (r ≢ 1)
Keeps Waitid r = (r ≢ 0) × ((r ≢ 1) × (r ≢ 2))
Keeps Sigaction r = (r ≢ 0) × ((r ≢ 2) × ((r ≢ 3) × (r ≢ 4)))
Keeps Sigprocmask r = (r ≢ 0) × (r ≢ 2)
Keeps Sigpending r = (r ≢ 0) × (r ≢ 1)
Keeps call r = r ≢ 0

-- After a call, the registers that it keeps have their old values.
abbrev pub IsBehindCall : Call → List ℤ → List ℤ → Type 0
IsBehindCall call old new = (r : ℕ) → Keeps call r → slice_index_or new r (pos 0) ≡ slice_index_or old r (pos 0)

-- the registers after an instruction
abbrev pub IsBehind : Instr → Cpu → List ℤ → Type 0
IsBehind (Sys call) c new = IsBehindCall call c.registers new
IsBehind instr c new = new ≡ (execute c instr).cpu.registers
