-- Attempts at system calls.
use Rattle.std.specs.Prelude.{Bool, pos}
use Rattle.posix.specs.declared.call.Call.{Call}
use Rattle.posix.specs.declared.call.Call.TheVariants.{Exit, Fork, Waitpid, Waitid, Pause, SchedYield, Getpid, Getppid, Getuid, Geteuid, Getgid, Getegid, Setuid, Seteuid, Setgid, Setegid, Kill, Sigqueue, Sigaction, Sigprocmask, Sigpending, Sigsuspend, Sigreturn, Alarm, Exec, Getpgid, Getsid, Setpgid, Setsid, Setctty, Tcgetpgrp, Tcsetpgrp, Settostop, Read, Write, Subreaper}
use Rattle.posix.specs.declared.waits.WaitCall.TheVariants as wait
use Rattle.posix.specs.declared.process.Blocked.{Blocked}
use Rattle.posix.specs.declared.process.Blocked.TheVariants as blocked
use Rattle.posix.specs.Statuses.{exited}
use Rattle.posix.specs.Processes.{Process, argument}
use Rattle.posix.specs.States.{State, go_last, next_pid}
use Rattle.posix.specs.Outcomes.{Attempted, Done, Block, finish_call, finish_with}
use Rattle.posix.specs.Births.{fork_as}
use Rattle.posix.specs.Ends.{end_process}
use Rattle.posix.specs.Waits.{wait_by}
use Rattle.posix.specs.Credentials.{setuid, seteuid, setgid, setegid}
use Rattle.posix.specs.Delivery.{return_from_handler}
use Rattle.posix.specs.Sends.{kill, sigqueue}
use Rattle.posix.specs.Alarms.{alarm}
use Rattle.posix.specs.Programs.{exec}
use Rattle.posix.specs.GroupCalls.{getpgid, getsid, setpgid, setsid}
use Rattle.posix.specs.Terminals.{setctty, tcgetpgrp, tcsetpgrp, settostop, read, write}
use Rattle.posix.specs.Subreapers.{subreaper}
use Rattle.posix.specs.SignalCalls.{set_credentials, sigaction, sigprocmask, sigpending}

-- Attempts a call, as XSH defines it under its name. Whether the host grants memory matters only if the call needs
-- some: a fork with a free process ID, and a kill or sigqueue of a real-time signal that would be queued for a
-- process, if no such process has a full queue.
unfoldable pub attempt : Bool → State → Process → Call → Attempted
attempt granted s me Exit = Done (end_process s me (exited (argument me 1)))
attempt granted s me Fork = fork_as granted s me (next_pid s)
attempt granted s me Waitpid = wait_by wait.Waitpid s me
attempt granted s me Waitid = wait_by wait.Waitid s me
attempt granted s me Pause = Block blocked.Pause
attempt granted s me SchedYield = finish_with (go_last s me.pid) me.pid SchedYield (pos 0)
attempt granted s me Getpid = finish_with s me.pid Getpid (pos me.pid)
attempt granted s me Getppid = finish_with s me.pid Getppid (pos me.parent)
attempt granted s me Getuid = finish_with s me.pid Getuid (pos me.credentials.user.real)
attempt granted s me Geteuid = finish_with s me.pid Geteuid (pos me.credentials.user.effective)
attempt granted s me Getgid = finish_with s me.pid Getgid (pos me.credentials.group.real)
attempt granted s me Getegid = finish_with s me.pid Getegid (pos me.credentials.group.effective)
attempt granted s me Setuid = finish_call s me.pid Setuid (set_credentials (setuid me.credentials (argument me 1)))
attempt granted s me Seteuid = finish_call s me.pid Seteuid (set_credentials (seteuid me.credentials (argument me 1)))
attempt granted s me Setgid = finish_call s me.pid Setgid (set_credentials (setgid me.credentials (argument me 1)))
attempt granted s me Setegid = finish_call s me.pid Setegid (set_credentials (setegid me.credentials (argument me 1)))
attempt granted s me Kill = kill granted s me
attempt granted s me Sigqueue = sigqueue granted s me
attempt granted s me Sigaction = finish_call s me.pid Sigaction (sigaction me)
attempt granted s me Sigprocmask = finish_call s me.pid Sigprocmask (sigprocmask me)
attempt granted s me Sigpending = finish_call s me.pid Sigpending (sigpending me)
attempt granted s me Sigsuspend = Block (blocked.Sigsuspend me.signals.mask)
attempt granted s me Sigreturn = Done (return_from_handler s me)
attempt granted s me Alarm = finish_call s me.pid Alarm (alarm s me)
attempt granted s me Exec = exec s me
attempt granted s me Getpgid = getpgid s me
attempt granted s me Getsid = getsid s me
attempt granted s me Setpgid = setpgid s me
attempt granted s me Setsid = setsid s me
attempt granted s me Setctty = setctty s me
attempt granted s me Tcgetpgrp = tcgetpgrp s me
attempt granted s me Tcsetpgrp = tcsetpgrp s me
attempt granted s me Settostop = settostop s me
attempt granted s me Read = read s me
attempt granted s me Write = write s me
attempt granted s me Subreaper = subreaper s me

-- Attempts the call that a process is blocked in again (own). In Linux, a child that changes its process group wakes
-- no waiting parent, and a read is checked only when it begins.
unfoldable pub attempt_again : State → Process → Blocked → Attempted
attempt_again s me (blocked.Wait call) = wait_by call s me
attempt_again s me blocked.Read = read s me
attempt_again s me blocked.Pause = Block blocked.Pause
attempt_again s me (blocked.Sigsuspend mask) = Block (blocked.Sigsuspend mask)
