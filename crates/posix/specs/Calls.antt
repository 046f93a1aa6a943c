-- System calls and their names.
use Rattle.std.specs.Prelude.{ℕ, Bool, true, false, List, [], ◌∷◌, codes, Option, Some, None, find, bytes_eq}
use Rattle.posix.specs.declared.call.Call.{Call}
use Rattle.posix.specs.declared.waits.WaitCall.{WaitCall}
use Rattle.posix.specs.declared.waits.WaitCall.TheVariants as wait
use Rattle.posix.specs.declared.call.Call.TheVariants.{Exit, Fork, Waitpid, Waitid, Pause, SchedYield, Getpid, Getppid, Getuid, Geteuid, Getgid, Getegid, Setuid, Seteuid, Setgid, Setegid, Kill, Sigqueue, Sigaction, Sigprocmask, Sigpending, Sigsuspend, Sigreturn, Alarm, Exec, Getpgid, Getsid, Setpgid, Setsid, Setctty, Tcgetpgrp, Tcsetpgrp, Settostop, Read, Write, Subreaper}

-- Returns the name of a call, in world files and in traces.
abbrev pub call_text : Call → List ℕ
call_text Exit = codes "exit"
call_text Fork = codes "fork"
call_text Waitpid = codes "waitpid"
call_text Waitid = codes "waitid"
call_text Pause = codes "pause"
call_text SchedYield = codes "sched_yield"
call_text Getpid = codes "getpid"
call_text Getppid = codes "getppid"
call_text Getuid = codes "getuid"
call_text Geteuid = codes "geteuid"
call_text Getgid = codes "getgid"
call_text Getegid = codes "getegid"
call_text Setuid = codes "setuid"
call_text Seteuid = codes "seteuid"
call_text Setgid = codes "setgid"
call_text Setegid = codes "setegid"
call_text Kill = codes "kill"
call_text Sigqueue = codes "sigqueue"
call_text Sigaction = codes "sigaction"
call_text Sigprocmask = codes "sigprocmask"
call_text Sigpending = codes "sigpending"
call_text Sigsuspend = codes "sigsuspend"
call_text Sigreturn = codes "sigreturn"
call_text Alarm = codes "alarm"
call_text Exec = codes "exec"
call_text Getpgid = codes "getpgid"
call_text Getsid = codes "getsid"
call_text Setpgid = codes "setpgid"
call_text Setsid = codes "setsid"
call_text Setctty = codes "setctty"
call_text Tcgetpgrp = codes "tcgetpgrp"
call_text Tcsetpgrp = codes "tcsetpgrp"
call_text Settostop = codes "settostop"
call_text Read = codes "read"
call_text Write = codes "write"
call_text Subreaper = codes "subreaper"

-- Returns a wait as a call.
abbrev pub call_of_wait : WaitCall → Call
call_of_wait wait.Waitpid = Waitpid
call_of_wait wait.Waitid = Waitid

-- Returns the wait that a call is, if any.
abbrev pub wait_in : Call → Option WaitCall
wait_in Waitpid = Some wait.Waitpid
wait_in Waitid = Some wait.Waitid
wait_in call = None

-- All calls, for lookup by name.
abbrev pub all_calls : List Call
all_calls = Exit ∷ Fork ∷ Waitpid ∷ Waitid ∷ Pause ∷ SchedYield ∷ Getpid ∷ Getppid
    ∷ Getuid ∷ Geteuid ∷ Getgid ∷ Getegid ∷ Setuid ∷ Seteuid ∷ Setgid ∷ Setegid
    ∷ Kill ∷ Sigqueue ∷ Sigaction ∷ Sigprocmask ∷ Sigpending ∷ Sigsuspend ∷ Sigreturn ∷ Alarm
    ∷ Exec ∷ Getpgid ∷ Getsid ∷ Setpgid ∷ Setsid ∷ Setctty ∷ Tcgetpgrp
    ∷ Tcsetpgrp ∷ Settostop ∷ Read ∷ Write ∷ Subreaper ∷ []

-- Returns the call with this name, if any.
abbrev pub call_named : List ℕ → Option Call
call_named w = find (λ c. bytes_eq w (call_text c)) all_calls

-- Returns true if the call may need memory from the host.
abbrev pub asks_memory : Call → Bool
asks_memory Fork = true
asks_memory Kill = true
asks_memory Sigqueue = true
asks_memory _ = false
