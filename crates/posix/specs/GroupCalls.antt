-- Calls on process groups and sessions: XSH getpgid, getsid, setpgid and setsid.
use Rattle.std.specs.Prelude.{ℕ, zero, suc, Bool, ◌==◌, ◌&&◌, ◌||◌, not, if◌then◌else◌, List, Option, Some, None, ℤ, pos, negsuc, Result, Ok, Err}
use Rattle.std.specs.List.{list_any}
use Rattle.posix.specs.declared.call.Call.{Call}
use Rattle.posix.specs.declared.call.Call.TheVariants.{Getpgid, Getsid, Setpgid, Setsid}
use Rattle.posix.specs.declared.errno.Errno.{Errno}
use Rattle.posix.specs.declared.errno.Errno.TheVariants.{EPERM, ESRCH, EACCES, EINVAL}
use Rattle.posix.specs.Processes.{Process, argument}
use Rattle.posix.specs.Tables.{lookup}
use Rattle.posix.specs.States.{State, change}
use Rattle.posix.specs.Outcomes.{Attempted, finish_with, refused}

-- Returns the process that a register names; 0 is the caller.
abbrev pub named : Process → ℤ → List Process → Option Process
named me (pos zero) rs = Some me
named me (pos (suc n)) rs = lookup (suc n) rs
named me (negsuc n) rs = None

-- ---- getpgid and getsid

abbrev pub tells : State → Process → Call → (Process → ℕ) → Option Process → Attempted
tells s me call field None = refused s me.pid call ESRCH
tells s me call field (Some r) = finish_with s me.pid call (pos (field r))

unfoldable pub getpgid : State → Process → Attempted
getpgid s me = tells s me Getpgid (λ r. r.group) (named me (argument me 1) s.processes)

unfoldable pub getsid : State → Process → Attempted
getsid s me = tells s me Getsid (λ r. r.session) (named me (argument me 1) s.processes)

-- ---- setpgid

-- Returns true if the process group has a member in the session; zombies are members.
unfoldable pub is_group_of : ℕ → ℕ → List Process → Bool
is_group_of session group rs = list_any (λ r. r.session == session && r.group == group) rs

-- Returns the process group that setpgid names; 0 is the ID of the process itself.
abbrev pub group_meant : Process → ℕ → ℕ
group_meant r group = if group == 0 then r.pid else group

-- A process in the caller's session that doesn't lead it may create a process group with its own ID, or join a
-- process group of that session.
abbrev pub can_join : Process → Process → ℕ → List Process → Result ℕ Errno
can_join me r group rs =
    if not (r.session == me.session) || r.session == r.pid then Err EPERM
    else if group == r.pid || is_group_of me.session group rs then Ok group
    else Err EPERM

-- The caller may move itself, and a child in its session that hasn't run exec since its creation.
abbrev pub can_move : Process → Process → ℕ → List Process → Result ℕ Errno
can_move me r group rs =
    if r.pid == me.pid then can_join me r group rs
    else if not (r.parent == me.pid) then Err ESRCH
    else if not (r.session == me.session) then Err EPERM
    else if r.ran_exec then Err EACCES
    else can_join me r group rs

-- Returns the process group that a process would move to, or the error.
abbrev pub move_of : Process → Option Process → ℕ → List Process → Result ℕ Errno
move_of me None group rs = Err ESRCH
move_of me (Some r) group rs = can_move me r (group_meant r group) rs

-- A negative group is checked first (own); Linux substitutes the process ID for 0 before that.
abbrev pub move_to : Process → Option Process → ℤ → List Process → Result ℕ Errno
move_to me target (pos group) rs = move_of me target group rs
move_to me target (negsuc n) rs = Err EINVAL

unfoldable pub in_group : ℕ → Process → Process
in_group group r = record r { group = group }

abbrev pub setpgid_with : State → Process → Option Process → Result ℕ Errno → Attempted
setpgid_with s me target (Err why) = refused s me.pid Setpgid why
setpgid_with s me None (Ok group) = refused s me.pid Setpgid ESRCH
setpgid_with s me (Some r) (Ok group) = finish_with (change s r.pid (in_group group)) me.pid Setpgid (pos 0)

-- Attempts setpgid; the process is in r1, the group in r2.
unfoldable pub setpgid : State → Process → Attempted
setpgid s me = let target = named me (argument me 1) s.processes in setpgid_with s me target (move_to me target (argument me 2) s.processes)

-- ---- setsid

-- Returns true if another process, zombies included, is in the process group with the caller's ID.
abbrev pub is_group_of_others : Process → List Process → Bool
is_group_of_others me rs = list_any (λ r. r.group == me.pid && not (r.pid == me.pid)) rs

-- Makes the process the leader of a new session and a new process group.
unfoldable pub in_session : Process → Process
in_session r = record r { session = r.pid; group = r.pid }

unfoldable pub setsid : State → Process → Attempted
setsid s me =
    if me.group == me.pid || is_group_of_others me s.processes then refused s me.pid Setsid EPERM
    else finish_with (change s me.pid in_session) me.pid Setsid (pos me.pid)
