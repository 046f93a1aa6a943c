-- The rows of a table as a bag of IDs, each in a role.
use Rattle.std.specs.Prelude.{ℕ, ◌≤◌, ◌==◌, ◌&&◌, Bool, true, false, List, [], ◌∷◌, length, filter, filter_map, Option, Some, None, unwrap_or}
use Rattle.std.specs.List.{last_or}
use Rattle.pidalloc.specs.Rows.{Role, Process, Group, Session, Pids, row, count_of, borne, given_up}

pub data Change : Type 0 where
  Bear : ℕ → Role → Change
  GiveUp : ℕ → Role → Change

abbrev pub after_one : Pids → Change → Pids
after_one p (Bear n role) = borne p n role
after_one p (GiveUp n role) = given_up p n role

unfoldable pub after : Pids → List Change → Pids
after p [] = p
after p (c ∷ cs) = after (after_one p c) cs

-- the ID is in the table, and in use if the change removes a use
abbrev pub IsAllowed : Pids → Change → Type 0
IsAllowed p (Bear n role) = n ≤ p.pidmax
IsAllowed p (GiveUp n role) = (n ≤ p.pidmax) × (1 ≤ count_of role (row p.rows n))

unfoldable pub AreAllowed : Pids → List Change → Type 0
AreAllowed p [] = Unit {0}
AreAllowed p (c ∷ cs) = IsAllowed p c × AreAllowed (after_one p c) cs

abbrev pub same_role : Role → Role → Bool
same_role Process Process = true
same_role Group Group = true
same_role Session Session = true
same_role a b = false

abbrev pub bears_it : Role → ℕ → Change → Bool
bears_it role n (Bear m other) = m == n && same_role role other
bears_it role n (GiveUp m other) = false

abbrev pub gives_it_up : Role → ℕ → Change → Bool
gives_it_up role n (Bear m other) = false
gives_it_up role n (GiveUp m other) = m == n && same_role role other

-- how often a use of n in this role was added
unfoldable pub times_borne : Role → ℕ → List Change → ℕ
times_borne role n cs = length (filter (bears_it role n) cs)

-- how often a use of n in this role was removed
unfoldable pub times_given_up : Role → ℕ → List Change → ℕ
times_given_up role n cs = length (filter (gives_it_up role n) cs)

abbrev pub is_even : Role → ℕ → List Change → Bool
is_even role n cs = times_borne role n cs == times_given_up role n cs

-- n is free: in each role, uses were removed as often as added
unfoldable pub is_free_after : List Change → ℕ → Bool
is_free_after cs n = is_even Process n cs && is_even Group n cs && is_even Session n cs

-- the process ID that a change adds a use of, if any
abbrev pub number_of_process : Change → Option ℕ
number_of_process (Bear n Process) = Some n
number_of_process (Bear n Group) = None
number_of_process (Bear n Session) = None
number_of_process (GiveUp n role) = None

-- the process ID that was used last, or 1 if there was none
unfoldable pub last_borne : List Change → ℕ
last_borne cs = unwrap_or (last_or None (filter_map number_of_process cs)) 1
