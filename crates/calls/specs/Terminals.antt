-- Parts of the calls on the controlling terminal.
use Rattle.std.specs.Prelude.{ℕ, List, [], ◌∷◌, take, Option, Some, None, ℤ, pos, negsuc}
use Rattle.posix.specs.declared.call.Call.TheVariants.{Settostop}
use Rattle.posix.specs.Common.{Process, argument, State, with_tostop, Attempted, finish_with, change_console, is_nonzero}

-- the number in a register, unless it is negative
abbrev pub natural_in : ℤ → Option ℕ
natural_in (pos n) = Some n
natural_in (negsuc n) = None

-- TOSTOP of its terminal is set if r1 isn't 0, otherwise cleared
abbrev pub putting_tostop : State → Process → Attempted
putting_tostop s me = finish_with (change_console s me.session (with_tostop (is_nonzero (argument me 1)))) me.pid Settostop (pos 0)

-- at most n bytes of the first line, if there is one
abbrev pub first_bytes : ℕ → List (List ℕ) → Option (List ℕ)
first_bytes n [] = None
first_bytes n (line ∷ rest) = Some (take n line)
