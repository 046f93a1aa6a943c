-- What a process can reach from a place of its program, whatever its registers hold.
use Rattle.std.specs.Prelude.{◌≡◌, ℕ, zero, suc, ◌+◌, ◌⊎◌, Bool, true, false, List, Some, slice_get, slice_index_or}
use Rattle.posix.specs.declared.call.Call.{Call}
use Rattle.posix.specs.declared.call.Call.TheVariants.{Sigreturn, Exit, Exec, Kill, Sigqueue, Pause, Sigsuspend}
use Rattle.posix.specs.declared.instr.Instr.{Instr}
use Rattle.posix.specs.declared.instr.Instr.TheVariants.{Set, Move, Compute, Load, Store, Jump, JumpIf, Note, Sys}
use Rattle.warning.specs.declared.way.Way.{Way}
use Rattle.warning.specs.declared.way.Way.TheVariants.{OffTheEnd, Out}

-- the calls that leave a handler, may terminate their caller, or wait for signals
abbrev pub leaves : Call → Bool
leaves Sigreturn = true
leaves Exit = true
leaves Exec = true
leaves Kill = true
leaves Sigqueue = true
leaves Pause = true
leaves Sigsuspend = true
leaves call = false

abbrev pub leaves_by : Instr → Bool
leaves_by (Set a z) = false
leaves_by (Move a b) = false
leaves_by (Compute operator a b) = false
leaves_by (Load a b) = false
leaves_by (Store a b) = false
leaves_by (Jump address) = false
leaves_by (JumpIf condition a address) = false
leaves_by (Note a) = false
leaves_by (Sys call) = leaves call

-- the places at which a process may continue after an instruction at a place
abbrev pub Follows : Instr → ℕ → ℕ → Type 0
Follows (Set a z) place next = next ≡ place + 1
Follows (Move a b) place next = next ≡ place + 1
Follows (Compute operator a b) place next = next ≡ place + 1
Follows (Load a b) place next = next ≡ place + 1
Follows (Store a b) place next = next ≡ place + 1
Follows (Jump address) place next = address ≡ next + 16
Follows (JumpIf condition a address) place next = (address ≡ next + 16) ⊎ (next ≡ place + 1)
Follows (Note a) place next = next ≡ place + 1
Follows (Sys call) place next = next ≡ place + 1

pub record GoesOn (program : List Instr) (place next : ℕ) : Type 0 where
  pub instr : Instr
  pub is : slice_get program place ≡ Some instr
  pub follows : Follows instr place next

-- a place that a process can reach from another place in this many steps
abbrev pub Reached : ℕ → List Instr → ℕ → ℕ → Type 0
Reached zero program from to = from ≡ to
Reached (suc steps) program from to = (next : ℕ) × (GoesOn program from next × Reached steps program next to)

-- From a place, a process reaches no call that leaves a handler.
abbrev pub NeverLeaves : List Instr → ℕ → Type 0
NeverLeaves program from = (steps to : ℕ) (instr : Instr) → Reached steps program from to → slice_get program to ≡ Some instr → leaves_by instr ≡ false

-- ---- ways

abbrev pub way_at : List Way → ℕ → Way
way_at ways place = slice_index_or ways place OffTheEnd

-- The way from a place is `Out` if its instruction leaves, or if the way from a place that may follow is `Out`.
pub record IsKnownAt (program : List Instr) (ways : List Way) (place : ℕ) : Type 0 where
  pub leaves : (instr : Instr) → slice_get program place ≡ Some instr → leaves_by instr ≡ true → way_at ways place ≡ Out
  pub follows : (instr : Instr) (next : ℕ) → slice_get program place ≡ Some instr → Follows instr place next → way_at ways next ≡ Out → way_at ways place ≡ Out

abbrev pub AreKnown : List Instr → List Way → Type 0
AreKnown program ways = (place : ℕ) → IsKnownAt program ways place
