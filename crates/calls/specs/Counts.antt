-- How many slots of the table are read to recheck the processes that may have become runnable.
use Rattle.std.specs.Prelude.{ℕ, ◌+◌, if◌then◌else◌, Bool, false, List, [], ◌∷◌, slice_get, Option, Some, None, is_some}
use Rattle.posix.specs.declared.process.Blocked.{Blocked}
use Rattle.posix.specs.declared.process.Blocked.TheVariants as blocked
use Rattle.posix.specs.declared.waits.WaitCall.{WaitCall}
use Rattle.posix.specs.declared.waits.Asked.{Asked}
use Rattle.posix.specs.Common.{Process, lookup, chosen, asked_by}
use Rattle.life.specs.declared.consoles.Unchecked.{Unchecked}
use Rattle.life.specs.declared.consoles.Unchecked.TheVariants.{Nothing, In, All}
use Rattle.life.specs.Waits.{is_reported}

-- a wait of p, in this process group, that asks this reports this other process, if it gets to it
abbrev pub reports_first : List Process → Option ℕ → ℕ → ℕ → Asked → Bool
reports_first rs None p group asks = false
reports_first rs (Some q) p group asks = is_reported p group asks.target asks.options.0 (lookup q rs)

abbrev pub slots_of_first : Option ℕ → ℕ
slots_of_first None = 0
slots_of_first (Some q) = 1

-- To find whether a wait can complete, another process, if there is one, is looked at first. If the wait doesn't report
-- it, the wait is attempted. A wait that fails with EINVAL looks at no process.
abbrev pub slots_of_asking : List Process → Option ℕ → ℕ → ℕ → Option Asked → ℕ
slots_of_asking rs first p group None = 1
slots_of_asking rs first p group (Some asks) = if reports_first rs first p group asks then 2 else 2 + slots_of_first first

abbrev pub slots_of_waiting : List Process → Option ℕ → WaitCall → Process → ℕ
slots_of_waiting rs first call me = slots_of_asking rs first me.pid me.group (asked_by call me)

-- to find whether the call that a process is in can complete
abbrev pub slots_of_call : List Process → Option ℕ → Process → Option Blocked → ℕ
slots_of_call rs first me (Some (blocked.Wait call)) = slots_of_waiting rs first call me
slots_of_call rs first me (Some blocked.Read) = 1
slots_of_call rs first me b = 0

-- to find whether a process is runnable, besides its own slot: its call doesn't matter if a signal is chosen for it
abbrev pub slots_of_judging : List Process → Option ℕ → Process → ℕ
slots_of_judging rs first me = if is_some (chosen me.life me.signals) then 0 else slots_of_call rs first me me.blocked

abbrev pub slots_of_rechecking : List Process → Option ℕ → Option Process → ℕ
slots_of_rechecking rs first None = 0
slots_of_rechecking rs first (Some me) = 1 + slots_of_judging rs first me

-- A parent and the child that makes it runnable are usually neighbours on the list. So a wait is judged first by the
-- process that was rechecked before, otherwise by the one that is rechecked next.
abbrev pub neighbour : Option ℕ → List ℕ → Option ℕ
neighbour (Some q) ns = Some q
neighbour None ns = slice_get ns 1

-- to recheck these, after this one was rechecked
unfoldable pub slots_of_rechecks : List Process → Option ℕ → List ℕ → ℕ
slots_of_rechecks rs last [] = 0
slots_of_rechecks rs last (p ∷ ps) = slots_of_rechecking rs (neighbour last (p ∷ ps)) (lookup p rs) + slots_of_rechecks rs (Some p) ps

-- to check the unchecked foreground process groups, of sessions with at most one terminal
abbrev pub slots_of_checking : Unchecked → ℕ
slots_of_checking Nothing = 0
slots_of_checking (In session) = 1
slots_of_checking All = 64
