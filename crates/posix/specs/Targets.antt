-- The processes that kill and waits select by a number, XSH kill, XSH waitpid and XSH waitid.
use Rattle.std.specs.Prelude.{ℕ, zero, suc, ◌+◌, nat_le, if◌then◌else◌, Option, Some, None, ℤ, pos, negsuc}
use Rattle.posix.specs.declared.target.Target.{Target}
use Rattle.posix.specs.declared.target.Target.TheVariants as whom

-- The largest process or process group ID (pid_t).
abbrev pub greatest_pid : ℕ
greatest_pid = 2147483647

-- Returns the target that a number selects: above 0 that process, 0 the caller's process group, -1 all, and below -1
-- the process group with its absolute value as ID. No process has an ID above the largest one.
abbrev pub target_in : ℤ → Target
target_in (pos zero) = whom.OwnGroup
target_in (pos (suc n)) = if nat_le (suc n) greatest_pid then whom.Process (suc n) else whom.Nobody
target_in (negsuc zero) = whom.All
target_in (negsuc (suc n)) = if nat_le (n + 2) greatest_pid then whom.Group (n + 2) else whom.Nobody

-- Returns the one process that a number selects; a number that is no process ID selects no process.
abbrev pub process_in : ℤ → Target
process_in (pos (suc n)) = if nat_le (suc n) greatest_pid then whom.Process (suc n) else whom.Nobody
process_in _ = whom.Nobody

-- ---- the children that waitid selects by a kind and an ID, which are (own); None if the call fails with EINVAL

-- Returns the process group with this ID; 0 is the caller's.
abbrev pub numbered_group : ℤ → Option Target
numbered_group (pos zero) = Some whom.OwnGroup
numbered_group (pos (suc n)) = Some (if nat_le (suc n) greatest_pid then whom.Group (suc n) else whom.Nobody)
numbered_group (negsuc n) = None

-- Kind 0 selects any child, 1 a process, 2 a process group.
abbrev pub target_of_kind : ℤ → ℤ → Option Target
target_of_kind (pos zero) z = Some whom.All
target_of_kind (pos (suc zero)) (pos (suc n)) = Some (target_in (pos (suc n)))
target_of_kind (pos (suc (suc zero))) z = numbered_group z
target_of_kind _ _ = None
