-- A call is read back from its name.
use Rattle.std.proofs.Common.{◌≡◌, true, length, Some, refl}
use Rattle.std.specs.Prelude.{nat_le}
use Rattle.posix.specs.Common.{call_text, call_named}
use Rattle.posix.specs.declared.call.Call.{Call}
use Rattle.posix.specs.declared.call.Call.TheVariants.{Exit, Fork, Waitpid, Waitid, Pause, SchedYield, Getpid, Getppid, Getuid, Geteuid, Getgid, Getegid, Setuid, Seteuid, Setgid, Setegid, Kill, Sigqueue, Sigaction, Sigprocmask, Sigpending, Sigsuspend, Sigreturn, Alarm, Exec, Getpgid, Getsid, Setpgid, Setsid, Setctty, Tcgetpgrp, Tcsetpgrp, Settostop, Read, Write, Subreaper}
use Rattle.trace.proofs.WordLemmas.{is_clean}

-- what is known of the name of each call: it names the call, has no space, and is at most 16 bytes
abbrev IsName : Call → Type 0
IsName c = (call_named (call_text c) ≡ Some c) × (is_clean (call_text c) ≡ true) × (nat_le (length (call_text c)) 16 ≡ true)

pub name_back : (c : Call) → IsName c
name_back Exit = (refl, refl, refl)
name_back Fork = (refl, refl, refl)
name_back Waitpid = (refl, refl, refl)
name_back Waitid = (refl, refl, refl)
name_back Pause = (refl, refl, refl)
name_back SchedYield = (refl, refl, refl)
name_back Getpid = (refl, refl, refl)
name_back Getppid = (refl, refl, refl)
name_back Getuid = (refl, refl, refl)
name_back Geteuid = (refl, refl, refl)
name_back Getgid = (refl, refl, refl)
name_back Getegid = (refl, refl, refl)
name_back Setuid = (refl, refl, refl)
name_back Seteuid = (refl, refl, refl)
name_back Setgid = (refl, refl, refl)
name_back Setegid = (refl, refl, refl)
name_back Kill = (refl, refl, refl)
name_back Sigqueue = (refl, refl, refl)
name_back Sigaction = (refl, refl, refl)
name_back Sigprocmask = (refl, refl, refl)
name_back Sigpending = (refl, refl, refl)
name_back Sigsuspend = (refl, refl, refl)
name_back Sigreturn = (refl, refl, refl)
name_back Alarm = (refl, refl, refl)
name_back Exec = (refl, refl, refl)
name_back Getpgid = (refl, refl, refl)
name_back Getsid = (refl, refl, refl)
name_back Setpgid = (refl, refl, refl)
name_back Setsid = (refl, refl, refl)
name_back Setctty = (refl, refl, refl)
name_back Tcgetpgrp = (refl, refl, refl)
name_back Tcsetpgrp = (refl, refl, refl)
name_back Settostop = (refl, refl, refl)
name_back Read = (refl, refl, refl)
name_back Write = (refl, refl, refl)
name_back Subreaper = (refl, refl, refl)
