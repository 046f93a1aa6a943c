-- Allocation of process IDs (own).
use Rattle.std.specs.Prelude.{ℕ, ◌+◌, ◌-◌, Bool, not, List, Option, find}
use Rattle.std.specs.Option.{option_or}
use Rattle.std.specs.List.{list_any, range_with_len}
use Rattle.posix.specs.Processes.{Process}
use Rattle.posix.specs.Tables.{bears}

-- Returns true if no process, process group or session has the ID n.
unfoldable pub is_free : List Process → ℕ → Bool
is_free rs n = not (list_any (bears n) rs)

-- Returns the lowest free ID of the count IDs from n on, if any.
abbrev pub first_free : (ℕ → Bool) → ℕ → ℕ → Option ℕ
first_free free n count = find free (range_with_len n count)

-- Returns the lowest free ID above the last one allocated, up to pidmax; if there is none, the lowest free ID from 2
-- to pidmax (own). Linux starts again at 300.
unfoldable pub next_free : (ℕ → Bool) → ℕ → ℕ → Option ℕ
next_free free last pidmax = option_or (first_free free (last + 1) (pidmax - last)) (first_free free 2 (pidmax - 1))
