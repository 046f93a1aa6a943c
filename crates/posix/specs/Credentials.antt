-- User and group IDs, and the permission to send signals: credentials(7), XSH setuid, seteuid,
-- setgid, setegid, exec and kill.
use Rattle.std.specs.Prelude.{ℕ, Bool, false, ◌&&◌, ◌||◌, if◌then◌else◌, ◌==◌, nat_le, Option, Some, None, ℤ, pos, negsuc, unwrap_or, Result, Ok, Err}
use Rattle.posix.specs.declared.ids.Ids.{Ids}
use Rattle.posix.specs.declared.errno.Errno.{Errno}
use Rattle.posix.specs.declared.errno.Errno.TheVariants.{EPERM, EINVAL}
use Rattle.posix.specs.SignalNumbers.{CONT}
use Rattle.posix.specs.Processes.{Credentials, Process}

-- Returns true if the effective user ID is 0.
abbrev pub is_privileged : Credentials → Bool
is_privileged c = c.user.effective == 0

-- ---- the permission to send signals

abbrev pub is_continue : Option ℕ → Bool
is_continue None = false
is_continue (Some s) = s == CONT

-- Returns true if the sender's real or effective user ID equals the target's real or saved one, or the sender is
-- privileged, or the signal is SIGCONT and both are in one session, XSH kill. None is signal 0.
abbrev pub may_signal : Credentials → Credentials → Option ℕ → Bool → Bool
may_signal c target s same_session =
    c.user.real == target.user.real || c.user.real == target.user.saved
    || c.user.effective == target.user.real || c.user.effective == target.user.saved
    || is_privileged c
    || (is_continue s && same_session)

abbrev pub may : Process → Option ℕ → Process → Bool
may r s q = may_signal r.credentials q.credentials s (r.session == q.session)

-- ---- changes of the IDs

-- Returns the ID that a register names: 0 to 2,147,483,647.
abbrev pub id_in : ℤ → Option ℕ
id_in (pos n) = if nat_le n 2147483647 then Some n else None
id_in (negsuc n) = None

abbrev pub is_own : Ids ℕ → ℕ → Bool
is_own ids n = ids.real == n || ids.saved == n

-- Sets all three IDs if privileged, and otherwise only the effective ID, to the real or the saved ID. Fails with
-- EINVAL if the ID is out of range, with EPERM if it is not permitted.
abbrev pub all_ids_set : Bool → Ids ℕ → Option ℕ → Result (Ids ℕ) Errno
all_ids_set privileged ids None = Err EINVAL
all_ids_set privileged ids (Some n) =
    if privileged then Ok (record { real = n; effective = n; saved = n })
    else if is_own ids n then Ok (record ids { effective = n })
    else Err EPERM

-- Sets only the effective ID: to any ID if privileged, otherwise to the real or the saved ID. Linux also accepts the
-- current effective ID.
abbrev pub effective_id_set : Bool → Ids ℕ → Option ℕ → Result (Ids ℕ) Errno
effective_id_set privileged ids None = Err EINVAL
effective_id_set privileged ids (Some n) = if privileged || is_own ids n then Ok (record ids { effective = n }) else Err EPERM

abbrev pub with_user : Credentials → Result (Ids ℕ) Errno → Result Credentials Errno
with_user c (Ok ids) = Ok (record c { user = ids })
with_user c (Err why) = Err why

abbrev pub with_group : Credentials → Result (Ids ℕ) Errno → Result Credentials Errno
with_group c (Ok ids) = Ok (record c { group = ids })
with_group c (Err why) = Err why

-- Sets the user IDs. Group IDs need the same privilege: effective user ID 0.
unfoldable pub setuid : Credentials → ℤ → Result Credentials Errno
setuid c z = with_user c (all_ids_set (is_privileged c) c.user (id_in z))

unfoldable pub seteuid : Credentials → ℤ → Result Credentials Errno
seteuid c z = with_user c (effective_id_set (is_privileged c) c.user (id_in z))

unfoldable pub setgid : Credentials → ℤ → Result Credentials Errno
setgid c z = with_group c (all_ids_set (is_privileged c) c.group (id_in z))

unfoldable pub setegid : Credentials → ℤ → Result Credentials Errno
setegid c z = with_group c (effective_id_set (is_privileged c) c.group (id_in z))

-- A program's own ID, if any, becomes the effective ID, and the effective ID becomes the saved ID, XSH exec.
abbrev pub ids_on_exec : Option ℕ → Ids ℕ → Ids ℕ
ids_on_exec own ids = let e = unwrap_or own ids.effective in record ids { effective = e; saved = e }

abbrev pub on_exec : Option ℕ → Option ℕ → Credentials → Credentials
on_exec user group c = record { user = ids_on_exec user c.user; group = ids_on_exec group c.group }
