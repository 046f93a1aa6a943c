-- What a wait reports.
use Rattle.std.specs.Prelude.{ℕ, ◌&&◌, ◌==◌, Bool, true, false, Option, Some, None}
use Rattle.posix.specs.declared.target.Target.{Target}
use Rattle.posix.specs.Processes as processes
use Rattle.posix.specs.Common.{is_member, is_named, reports}

-- a wait for any child, or for those in a process group, selects this one
abbrev pub is_meant : Option ℕ → processes.Process → Bool
is_meant None r = true
is_meant (Some group) r = is_member group r

-- A wait for the target, by p in this process group, would report this process: a selected child with a status change.
abbrev pub is_reported : ℕ → ℕ → Target → ℕ → Option processes.Process → Bool
is_reported p group target options None = false
is_reported p group target options (Some r) = r.parent == p && (is_named group target r && reports options r)
