-- Shows that attempts at calls don't depend on the time.
use Rattle.std.proofs.Common.{◌≡◌, ℕ, Bool, refl, ap, ◌∙◌}
use Rattle.std.specs.Prelude.{pos}
use Rattle.posix.specs.declared.call.Call.{Call}
use Rattle.posix.specs.declared.call.Call.TheVariants.{Exit, Fork, Waitpid, Waitid, Pause, SchedYield, Getpid, Getppid, Getuid, Geteuid, Getgid, Getegid, Setuid, Seteuid, Setgid, Setegid, Kill, Sigqueue, Sigaction, Sigprocmask, Sigpending, Sigsuspend, Sigreturn, Alarm, Exec, Getpgid, Getsid, Setpgid, Setsid, Setctty, Tcgetpgrp, Tcsetpgrp, Settostop, Read, Write, Subreaper}
use Rattle.posix.specs.declared.process.Blocked.{Blocked}
use Rattle.posix.specs.declared.process.Blocked.TheVariants as blocked
use Rattle.posix.specs.declared.waits.WaitCall.TheVariants as wait
use Rattle.posix.specs.Statuses.{exited}
use Rattle.posix.specs.Processes.{Process, argument}
use Rattle.posix.specs.States.{State, go_last, next_pid}
use Rattle.posix.specs.Outcomes.{Done}
use Rattle.posix.specs.Births.{fork_as}
use Rattle.posix.specs.Credentials.{setuid, seteuid, setgid, setegid}
use Rattle.posix.specs.Alarms.{alarm}
use Rattle.posix.specs.SignalCalls.{set_credentials, sigaction, sigprocmask, sigpending}
use Rattle.posix.specs.Attempts.{attempt, attempt_again}
use Rattle.times.specs.Times.{later, state_later}
use Rattle.times.proofs.CallLemmas.{attempted_later, alarm_later}
use Rattle.times.proofs.OutcomeLemmas.{finish_call_later, finish_with_later}
use Rattle.times.proofs.GroupLemmas.{subreaper_later}
use Rattle.times.proofs.EndLemmas.{end_process_later}
use Rattle.times.proofs.DeliveryLemmas.{return_from_handler_later}
use Rattle.times.proofs.WaitLemmas.{wait_by_later}
use Rattle.times.proofs.OwnCallLemmas.{next_pid_later, fork_as_later, exec_later, set_credentials_later, sigaction_later, sigprocmask_later, sigpending_later}
use Rattle.times.proofs.SendLemmas.{kill_later, sigqueue_later}
use Rattle.times.proofs.GroupCallLemmas.{getpgid_later, getsid_later, setpgid_later, setsid_later}
use Rattle.times.proofs.TerminalLemmas.{setctty_later, tcgetpgrp_later, tcsetpgrp_later, settostop_later, read_later, write_later}

pub attempt_later : (d : ℕ) (granted : Bool) (s : State) (me : Process) (call : Call) → attempt granted (state_later d s) (later d me) call ≡ attempted_later d (attempt granted s me call)
unfolding attempt
attempt_later d granted s me Exit = ap Done (end_process_later d s me (exited (argument me 1)))
attempt_later d granted s me Fork = ap (fork_as granted (state_later d s) (later d me)) (next_pid_later d s) ∙ fork_as_later d granted s me (next_pid s)
attempt_later d granted s me Waitpid = wait_by_later d wait.Waitpid s me
attempt_later d granted s me Waitid = wait_by_later d wait.Waitid s me
attempt_later d granted s me Pause = refl
attempt_later d granted s me SchedYield = finish_with_later d (go_last s me.pid) me.pid SchedYield (pos 0)
attempt_later d granted s me Getpid = finish_with_later d s me.pid Getpid (pos me.pid)
attempt_later d granted s me Getppid = finish_with_later d s me.pid Getppid (pos me.parent)
attempt_later d granted s me Getuid = finish_with_later d s me.pid Getuid (pos me.credentials.user.real)
attempt_later d granted s me Geteuid = finish_with_later d s me.pid Geteuid (pos me.credentials.user.effective)
attempt_later d granted s me Getgid = finish_with_later d s me.pid Getgid (pos me.credentials.group.real)
attempt_later d granted s me Getegid = finish_with_later d s me.pid Getegid (pos me.credentials.group.effective)
attempt_later d granted s me Setuid = let c = setuid me.credentials (argument me 1) in finish_call_later d s me.pid Setuid (set_credentials c) (set_credentials c) (set_credentials_later d c)
attempt_later d granted s me Seteuid = let c = seteuid me.credentials (argument me 1) in finish_call_later d s me.pid Seteuid (set_credentials c) (set_credentials c) (set_credentials_later d c)
attempt_later d granted s me Setgid = let c = setgid me.credentials (argument me 1) in finish_call_later d s me.pid Setgid (set_credentials c) (set_credentials c) (set_credentials_later d c)
attempt_later d granted s me Setegid = let c = setegid me.credentials (argument me 1) in finish_call_later d s me.pid Setegid (set_credentials c) (set_credentials c) (set_credentials_later d c)
attempt_later d granted s me Kill = kill_later d granted s me
attempt_later d granted s me Sigqueue = sigqueue_later d granted s me
attempt_later d granted s me Sigaction = finish_call_later d s me.pid Sigaction (sigaction (later d me)) (sigaction me) (sigaction_later d me)
attempt_later d granted s me Sigprocmask = finish_call_later d s me.pid Sigprocmask (sigprocmask (later d me)) (sigprocmask me) (sigprocmask_later d me)
attempt_later d granted s me Sigpending = finish_call_later d s me.pid Sigpending (sigpending (later d me)) (sigpending me) (sigpending_later d me)
attempt_later d granted s me Sigsuspend = refl
attempt_later d granted s me Sigreturn = ap Done (return_from_handler_later d s me)
attempt_later d granted s me Alarm = finish_call_later d s me.pid Alarm (alarm (state_later d s) (later d me)) (alarm s me) (alarm_later d s me)
attempt_later d granted s me Exec = exec_later d s me
attempt_later d granted s me Getpgid = getpgid_later d s me
attempt_later d granted s me Getsid = getsid_later d s me
attempt_later d granted s me Setpgid = setpgid_later d s me
attempt_later d granted s me Setsid = setsid_later d s me
attempt_later d granted s me Setctty = setctty_later d s me
attempt_later d granted s me Tcgetpgrp = tcgetpgrp_later d s me
attempt_later d granted s me Tcsetpgrp = tcsetpgrp_later d s me
attempt_later d granted s me Settostop = settostop_later d s me
attempt_later d granted s me Read = read_later d s me
attempt_later d granted s me Write = write_later d s me
attempt_later d granted s me Subreaper = subreaper_later d s me

pub attempt_again_later : (d : ℕ) (s : State) (me : Process) (b : Blocked) → attempt_again (state_later d s) (later d me) b ≡ attempted_later d (attempt_again s me b)
unfolding attempt_again
attempt_again_later d s me (blocked.Wait call) = wait_by_later d call s me
attempt_again_later d s me blocked.Read = read_later d s me
attempt_again_later d s me blocked.Pause = refl
attempt_again_later d s me (blocked.Sigsuspend mask) = refl
