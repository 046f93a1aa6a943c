-- The ranges of the numbers in programs, worlds and events, as the types of the code fix them.
use Rattle.std.specs.Prelude.{◌≡◌, ℕ, ◌≤◌, ◌<◌, ◌&&◌, Bool, true, Option, Some, None, nat_le, nat_lt, ℤ, pos, negsuc}
use Rattle.std.specs.List.{list_all}
use Rattle.posix.specs.declared.event.Event.{Event}
use Rattle.posix.specs.declared.event.Event.TheVariants.{Key}
use Rattle.posix.specs.declared.instr.Instr.{Instr}
use Rattle.posix.specs.declared.instr.Instr.TheVariants.{Set}
use Rattle.posix.specs.States.{World, Program}

abbrev pub is_i64 : ℤ → Bool
is_i64 (pos n) = nat_lt n 9223372036854775808
is_i64 (negsuc n) = nat_lt n 9223372036854775808

-- Returns true if n is within the range of process, user and group IDs (pid_t; here also uid_t and gid_t).
abbrev pub is_id : ℕ → Bool
is_id n = nat_le n 2147483647

abbrev pub is_own_id : Option ℕ → Bool
is_own_id None = true
is_own_id (Some n) = is_id n

abbrev pub is_instruction : Instr → Bool
is_instruction (Set a z) = is_i64 z
is_instruction _ = true

abbrev pub is_program : Program → Bool
is_program p = is_own_id p.setuid && (is_own_id p.setgid && list_all is_instruction p.instructions)

pub record IsWorld (w : World) : Type 0 where
  pub pidmax : w.pidmax ≤ 2147483647
  pub programs : list_all is_program w.programs ≡ true

-- A key event carries a byte.
abbrev pub IsEvent : Event → Type 0
IsEvent (Key console byte) = byte < 256
IsEvent _ = Unit {0}
