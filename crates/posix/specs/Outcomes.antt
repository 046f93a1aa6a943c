-- Outcomes of events and of attempts at calls.
use Rattle.std.specs.Prelude.{ℕ, zero, suc, List, [], ◌∷◌, None, ℤ, pos, negsuc}
use Rattle.posix.specs.declared.call.Call.{Call}
use Rattle.posix.specs.declared.errno.Errno.{Errno}
use Rattle.posix.specs.declared.errno.Errno.TheVariants.{EAGAIN}
use Rattle.posix.specs.declared.entry.Entry.{Entry}
use Rattle.posix.specs.declared.entry.Entry.TheVariants.{Called, NoMemory}
use Rattle.posix.specs.declared.process.Blocked.{Blocked}
use Rattle.posix.specs.Errnos.{errno_number}
use Rattle.posix.specs.Processes.{Process, Cpu}
use Rattle.posix.specs.States.{State, change}
use Rattle.posix.specs.Execute.{set_register, move_on}

-- The state after an event, and the trace entries that the event prints.
pub record Outcome : Type 0 where
  pub state : State
  pub entries : List Entry

-- An outcome without trace entries.
abbrev pub silent : State → Outcome
silent s = record { state = s; entries = [] }

-- The result of an attempt at a call: Done, with the results written and the call left; Block, if the process blocks
-- in the call; or Again, if the call is restarted in this state, without trace entries.
pub data Attempted : Type 0 where
  Done : Outcome → Attempted
  Block : Blocked → Attempted
  Again : State → Attempted

-- ---- results

abbrev pub write_registers : List (ℕ × ℤ) → Cpu → Cpu
write_registers [] c = c
write_registers (w ∷ ws) c = write_registers ws (set_register c w.0 w.1)

-- Writes the result registers, advances the pc, and leaves the call.
unfoldable pub finished : List (ℕ × ℤ) → Process → Process
finished results r = record r { cpu = move_on (write_registers results r.cpu); blocked = None }

abbrev pub finish : State → ℕ → List (ℕ × ℤ) → State
finish s p results = change s p (finished results)

-- Writes a register as another result of a call.
unfoldable pub written : ℕ → ℤ → Process → Process
written i z r = record r { cpu = set_register r.cpu i z }

-- The reply of a call that changes only its own process: the value in r0, and the changes before that.
pub record Reply : Type 0 where
  pub value : ℤ
  pub changes : Process → Process

-- Returns a value, and changes nothing else.
abbrev pub plain : ℤ → Reply
plain z = record { value = z; changes = λ r. r }

-- Completes the call of p with this reply.
abbrev pub finish_call : State → ℕ → Call → Reply → Attempted
finish_call s p call reply = Done (record {
  state = change s p (λ r. finished ((0, reply.value) ∷ []) (reply.changes r));
  entries = Called p call reply.value ∷ [];
})

-- Completes the call of p with z in r0.
abbrev pub finish_with : State → ℕ → Call → ℤ → Attempted
finish_with s p call z = finish_call s p call (plain z)

abbrev pub minus : ℕ → ℤ
minus zero = pos 0
minus (suc n) = negsuc n

abbrev pub refusal : Errno → ℤ
refusal errno = minus (errno_number errno)

-- Fails with this error, and changes nothing else.
abbrev pub refusing : Errno → Reply
refusing errno = plain (refusal errno)

abbrev pub refused : State → ℕ → Call → Errno → Attempted
refused s p call errno = finish_with s p call (refusal errno)

-- The call of p fails with EAGAIN, because the host has no memory for it.
abbrev pub no_memory : State → ℕ → Call → Attempted
no_memory s p call = Done (record { state = finish s p ((0, refusal EAGAIN) ∷ []); entries = NoMemory p call ∷ [] })
