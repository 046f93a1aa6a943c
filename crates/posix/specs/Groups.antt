-- Process groups, XBD 3 Process Group and Orphaned Process Group.
use Rattle.std.specs.Prelude.{ℕ, Bool, false, ◌==◌, ◌&&◌, ◌||◌, not, List, [], ◌∷◌, filter}
use Rattle.std.specs.List.{list_any}
use Rattle.std.specs.Option.{option_map_or}
use Rattle.posix.specs.Processes.{Process, is_living, is_stopped}
use Rattle.posix.specs.Numbers.{with_number}
use Rattle.posix.specs.Tables.{lookup, members_in}

-- Returns true if the parent is in another process group of r's session.
abbrev pub is_outside : Process → Process → Bool
is_outside r parent = parent.session == r.session && not (parent.group == r.group)

-- Returns true if r keeps its process group from being orphaned: r lives, and its parent is in another group of the
-- session. In Linux, the system's own process 1 is no such parent.
unfoldable pub is_anchor : List Process → Process → Bool
is_anchor rs r = is_living r && option_map_or (is_outside r) (lookup r.parent rs) false

-- Returns true if no member keeps the group from being orphaned, XBD 3 Orphaned Process Group. A group without
-- members is orphaned, too.
unfoldable pub is_orphaned : ℕ → List Process → Bool
is_orphaned group rs = not (list_any (is_anchor rs) (members_in group rs))

-- Returns true if p or a child of p keeps the group from being orphaned.
unfoldable pub loses_anchor : ℕ → List Process → ℕ → Bool
loses_anchor p rs group = list_any (λ r. (r.pid == p || r.parent == p) && (is_anchor rs r && r.group == group)) rs

-- ---- process groups that a termination orphans

-- Returns the IDs of all process groups in ascending order. Zombies are members.
unfoldable pub group_numbers : List Process → List ℕ
group_numbers [] = []
group_numbers (r ∷ rs) = with_number r.group (group_numbers rs)

-- Returns true if a process of the list is stopped.
abbrev pub some_stopped : List Process → Bool
some_stopped rs = list_any (λ r. is_stopped r.life) rs

-- Returns true if a member of the group is stopped.
unfoldable pub has_stopped : ℕ → List Process → Bool
has_stopped group rs = some_stopped (members_in group rs)

-- Returns true if the group was not orphaned before, is orphaned now, and has a stopped member now, XSH _exit. In
-- Linux, a child's group counts even if it was orphaned before.
unfoldable pub is_newly_orphaned : List Process → List Process → ℕ → Bool
is_newly_orphaned before now group = not (is_orphaned group before) && (is_orphaned group now && has_stopped group now)

-- Returns the IDs of the newly orphaned groups that have a stopped member, in ascending order.
unfoldable pub newly_orphaned : List Process → List Process → List ℕ
newly_orphaned before now = filter (is_newly_orphaned before now) (group_numbers now)
