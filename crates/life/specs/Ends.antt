-- How many slots a termination reads.
use Rattle.std.specs.Prelude.{ℕ, zero, suc, ◌+◌, ◌*◌, ◌==◌, ◌&&◌, not, if◌then◌else◌, List, [], ◌∷◌, length, Option}
use Rattle.std.specs.List.{list_any}
use Rattle.std.specs.Option.{option_map_or}
use Rattle.posix.specs.Common.{Process, State, members_in, children_in, newly_orphaned, hang_up, leave_children_and_die, tell_of_all, zombies_of, Forebear, forebears, heir_in, most_processes}
use Rattle.jobs.specs.Indexes.{is_living_subreaper}
use Rattle.life.specs.Consoles.{slots_of_hangup}
use Rattle.life.specs.Machines.{MachineView}

-- if each member of a group gets SIGHUP, and then SIGCONT, which may continue it
abbrev pub slots_of_hup_and_cont : ℕ → List Process → ℕ
slots_of_hup_and_cont group rs = 4 * length (members_in group rs)

-- the same for several groups
unfoldable pub slots_of_hups : List ℕ → List Process → ℕ
slots_of_hups [] rs = 0
slots_of_hups (g ∷ gs) rs = slots_of_hup_and_cont g rs + slots_of_hups gs rs

-- for the groups that became orphaned from one state to another, and have a stopped member
abbrev pub slots_of_orphans : State → State → ℕ
slots_of_orphans before now = slots_of_hups (newly_orphaned before.processes now.processes) now.processes

-- ---- the new parent

-- for the walk from q up to the new parent of p: one for each process that is looked at, but none for process 1
unfoldable pub slots_of_walk : (ℕ → Option Forebear) → ℕ → ℕ → ℕ → ℕ
slots_of_walk living p zero q = 0
slots_of_walk living p (suc n) q = if q == 1 then 0 else 1 + option_map_or (λ f. if f.is_marked && not (q == p) then 0 else slots_of_walk living p n f.parent) (living q) 0

-- If no live process is a child subreaper, the new parent is process 1 at once.
abbrev pub slots_of_heir : List Process → ℕ → ℕ
slots_of_heir rs p = if list_any is_living_subreaper rs then slots_of_walk (forebears rs) p most_processes p else 0

-- ---- a termination

-- After its terminal is hung up: 6, 5 for each child, and those for the groups that become orphaned.
abbrev pub slots_of_ending : State → ℕ → ℕ → ℕ → ℕ
slots_of_ending s p heir status =
    6 + 5 * length (children_in p s.processes) + slots_of_orphans s (tell_of_all (leave_children_and_die s p heir status) heir (zombies_of p s.processes))

-- all: with one for the process, those for its terminal, and those for the walk to the new parent
abbrev pub slots_of_end : MachineView → Process → ℕ → ℕ
slots_of_end m me status = let hung = hang_up m.state me in 1 + slots_of_hangup me m + slots_of_heir hung.processes me.pid + slots_of_ending hung me.pid (heir_in hung.processes me.pid) status
