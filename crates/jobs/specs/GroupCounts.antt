-- How many members of a process group are anchors, and how many are stopped.
use Rattle.std.specs.Prelude.{ℕ, List, length, filter}
use Rattle.posix.specs.Common.{Process, is_stopped, members_in, is_anchor}

-- how many members keep the group from being orphaned, XBD 3 Orphaned Process Group: each is alive, and its parent is
-- in another group of the same session
abbrev pub anchors_in : ℕ → List Process → ℕ
anchors_in group rs = length (filter (is_anchor rs) (members_in group rs))

-- how many members are stopped, XSH 2.4.3 Signal Actions
abbrev pub stopped_in : ℕ → List Process → ℕ
stopped_in group rs = length (filter (λ r. is_stopped r.life) (members_in group rs))
