-- The ways in which attempts of calls end: what holds of each of them holds of each attempt.
use Rattle.std.proofs.Common.{◌≡◌, ℕ, zero, suc, ◌<◌, Bool, true, false, not, refl, arith, ◌∙◌, List, [], ◌∷◌, take, Option, Some, None, ◌==◌, ◌||◌, ℤ, pos, negsuc, Result, Ok, Err, slice_get, inl, inr, ◌⊎◌}
use Rattle.std.specs.Prelude.{slice_set}
use Rattle.std.specs.Int.{cast_unsigned, w64}
use Rattle.std.proofs.lemmas.Bool.{cond_both, or_parts}
use Rattle.posix.specs.declared.call.Call.{Call}
use Rattle.posix.specs.declared.call.Call.TheVariants.{Exit, Fork, Waitpid, Waitid, SchedYield, Getpid, Getppid, Getuid, Geteuid, Getgid, Getegid, Setuid, Seteuid, Setgid, Setegid, Kill, Sigqueue, Sigaction, Sigprocmask, Sigpending, Sigreturn, Alarm, Exec, Getpgid, Getsid, Setpgid, Setsid, Setctty, Tcgetpgrp, Tcsetpgrp, Settostop, Read, Write, Subreaper}
use Rattle.posix.specs.declared.errno.Errno.{Errno}
use Rattle.posix.specs.declared.errno.Errno.TheVariants.{EPERM, ENOENT, ESRCH, EINTR, EIO, ECHILD, EAGAIN, EACCES, EFAULT, EINVAL, ENOTTY}
use Rattle.posix.specs.declared.how.How.{How}
use Rattle.posix.specs.declared.process.Blocked.{Blocked}
use Rattle.posix.specs.declared.process.Blocked.TheVariants as blocked
use Rattle.posix.specs.declared.process.Report.TheVariants as found
use Rattle.posix.specs.declared.process.Sending.{Sending}
use Rattle.posix.specs.declared.process.Sending.TheVariants as sends
use Rattle.posix.specs.declared.span.Span.{Span}
use Rattle.posix.specs.declared.target.Target.{Target}
use Rattle.posix.specs.declared.waits.WaitCall.{WaitCall}
use Rattle.posix.specs.declared.waits.WaitCall.TheVariants as wait
use Rattle.posix.specs.Common.{TTIN, TTOU, word_of, exited, asks_memory, call_of_wait, Process, Signals, Credentials, argument, lookup, removed, Program, State, change, go_last, next_pid, Console, acquired, with_foreground, with_tostop, line_taken, span_in, bytes_in, Outcome, Attempted, Done, Block, Again, finish_call, finish_with, refused, no_memory, written, setuid, seteuid, setgid, setegid, action, is_orphaned, set_action, born, fork_as, subreaper, finish_marked, end_process, signalled_group, target_in, process_in, report, news_told, gives_nothing, wait_by, return_from_handler, permitted, targets, sent, sending_permitted, sending_found, sending, queued_for, queuers_among, sending_granted, message, send_with, signal_in, signal_or_none, send, kill, sigqueue, give_credentials, set_credentials, is_question, are_flags, action_in, gives_action, sigaction_with, sigaction_of, sigaction, how_in, sigprocmask_with, sigprocmask, pending_set, sigpending, exec_as, exec_of, exec, named, tells, getpgid, getsid, move_of, move_to, setpgid_with, setpgid, is_group_of, is_group_of_others, in_session, setsid, ticks_in, alarm_in, alarm, terminal, change_console, is_in_background, blocks_or_ignores, if_allowed, console_named, may_acquire, setctty_of, setctty_at, setctty, foreground_told, tcgetpgrp_on, tcgetpgrp, put_foreground, tcsetpgrp_on, tcsetpgrp, is_nonzero, settostop_on, settostop, finish_moved, with_bytes, read_from, read_in, read_on, read, write_in, write_on, write, attempt, attempt_again}
use Rattle.posix.proofs.WaitLemmas.{by_wait, IfTold}

-- An attempt that is done has an outcome of which M holds, and one that begins again leads to a state of which A does.
abbrev pub Meets : (Outcome → Type 0) → (State → Type 0) → Attempted → Type 0
Meets M A (Done o) = M o
Meets M A (Block b) = Unit {0}
Meets M A (Again t) = A t

-- calls that may be refused
abbrev pub may_fail : Call → Bool
may_fail Exit = false
may_fail Sigreturn = false
may_fail Subreaper = false
may_fail _ = true

-- calls that send a signal with this value
abbrev pub Sends : Process → Call → ℤ → Type 0
Sends me Kill value = value ≡ pos 0
Sends me Sigqueue value = value ≡ argument me 3
Sends me _ value = ⊥

-- calls that set these ids
abbrev pub SetsIds : Process → Call → Credentials → Type 0
SetsIds me Setuid c = setuid me.credentials (argument me 1) ≡ Ok c
SetsIds me Seteuid c = seteuid me.credentials (argument me 1) ≡ Ok c
SetsIds me Setgid c = setgid me.credentials (argument me 1) ≡ Ok c
SetsIds me Setegid c = setegid me.credentials (argument me 1) ≡ Ok c
SetsIds me _ c = ⊥

-- a process that a register names is there, where the caller is
pub named_there : (me : Process) (z : ℤ) (rs : List Process) (r : Process) → lookup me.pid rs ≡ Some me → named me z rs ≡ Some r → (p : ℕ) × (lookup p rs ≡ Some r)
named_there me (pos zero) rs r found e = (me.pid, found ∙ e)
named_there me (pos (suc n)) rs r found e = (suc n, e)
named_there me (negsuc n) rs r found e = absurd (cc)

-- calls that give this number and change nothing else
abbrev pub Gives : State → Process → Call → ℕ → Type 0
Gives s me Getpid n = n ≡ me.pid
Gives s me Getppid n = n ≡ me.parent
Gives s me Getuid n = n ≡ me.credentials.user.real
Gives s me Geteuid n = n ≡ me.credentials.user.effective
Gives s me Getgid n = n ≡ me.credentials.group.real
Gives s me Getegid n = n ≡ me.credentials.group.effective
Gives s me Getpgid n = (r : Process) × (named me (argument me 1) s.processes ≡ Some r) × (n ≡ r.group)
Gives s me Getsid n = (r : Process) × (named me (argument me 1) s.processes ≡ Some r) × (n ≡ r.session)
Gives s me Tcgetpgrp n = (c : Console) × (terminal s me ≡ Some c) × (n ≡ foreground_told s.world.pidmax c.foreground)
Gives s me Read n = n ≡ 0
Gives s me _ n = ⊥

-- what holds of the ways in which a call ends that its process may be blocked in
pub record Retries (M : Outcome → Type 0) (A : State → Type 0) (s : State) (me : Process) : Type 0 where
  pub refuses : (call : Call) (n : ℕ) → may_fail call ≡ true → n < 64 → Meets M A (finish_with s me.pid call (negsuc n))
  pub gives : (call : Call) (n : ℕ) → Gives s me call n → Meets M A (finish_with s me.pid call (pos n))
  pub finds_nothing : (call : WaitCall) → Meets M A (gives_nothing s me.pid call)
  pub tells_end : (call : WaitCall) (target : Target) (options child status : ℕ) → report s.processes me.pid me.group target options ≡ found.End child status → IfTold (Meets M A) s (record s { processes = removed child s.processes }) me.pid call child status
  pub tells_change : (call : WaitCall) (target : Target) (options child status : ℕ) → report s.processes me.pid me.group target options ≡ found.Change child status → IfTold (Meets M A) s (change s child news_told) me.pid call child status
  pub reads : (c : Console) (span : Span) (line : List ℕ) (rest : List (List ℕ)) → terminal s me ≡ Some c → span_in (argument me 1) (argument me 2) ≡ Ok span → c.lines ≡ line ∷ rest
      → Meets M A (finish_moved (change (change_console s me.session (line_taken span.count)) me.pid (with_bytes span.address (take span.count line))) me.pid Read (take span.count line))
  pub begins_again : (n : ℕ) → (n ≡ TTIN) ⊎ (n ≡ TTOU) → A (record s { processes = signalled_group n me.group s.processes })

-- what holds of the ways in which a call ends
pub record Ways (M : Outcome → Type 0) (A : State → Type 0) (granted : Bool) (s : State) (me : Process) : Type 0 where
  pub retries : Retries M A s me
  pub wants_memory : (call : Call) → asks_memory call ≡ true → granted ≡ false → Meets M A (no_memory s me.pid call)
  pub exits : M (end_process s me (exited (argument me 1)))
  pub bears : (n : ℕ) → next_pid s ≡ Some n → Meets M A (finish_with (born s me n) me.pid Fork (pos n))
  pub yields : Meets M A (finish_with (go_last s me.pid) me.pid SchedYield (pos 0))
  pub sets_ids : (call : Call) (c : Credentials) → SetsIds me call c → Meets M A (finish_call s me.pid call (record { value = pos 0; changes = give_credentials c }))
  pub sends : (call : Call) (target : Target) (value : ℤ) (n : Option ℕ) → Sends me call value → sending_granted granted me target n s.processes ≡ sends.Permitted
      → Meets M A (finish_with (record s { processes = sent me target (message me.pid value n) s.processes }) me.pid call (pos 0))
  pub sets_action : (n : ℕ) (g : Signals) → (g ≡ me.signals) ⊎ (set_action n (action_in me) me.signals ≡ Ok g) → Meets M A (finish_call s me.pid Sigaction (gives_action (action me.signals n) g))
  pub sets_mask : (what : How) → Meets M A (finish_call s me.pid Sigprocmask (sigprocmask_with me (Some what)))
  pub tells_pending : Meets M A (finish_call s me.pid Sigpending (record { value = pos 0; changes = written 1 (word_of (pending_set me.signals)) }))
  pub returns : M (return_from_handler s me)
  pub sets_alarm : (n : ℕ) → ticks_in (argument me 1) ≡ Some n → Meets M A (finish_call s me.pid Alarm (alarm_in s.ticks me (Some n)))
  pub executes : (n : ℕ) (program : Program) → slice_get s.world.programs n ≡ Some program → Meets M A (exec_as s me n (Some program))
  pub moves : (r : Process) (group h : ℕ) → named me (argument me 1) s.processes ≡ Some r → move_of me (Some r) group s.processes ≡ Ok h → Meets M A (setpgid_with s me (Some r) (Ok h))
  pub leads : is_group_of_others me s.processes ≡ false → Meets M A (finish_with (change s me.pid in_session) me.pid Setsid (pos me.pid))
  pub acquires : (k : ℕ) (c : Console) → slice_get s.consoles k ≡ Some c → may_acquire s me c ≡ true → Meets M A (finish_with (record s { consoles = slice_set s.consoles k (acquired me.session me.group c) }) me.pid Setctty (pos 0))
  pub sets_foreground : (g : ℕ) → is_group_of me.session g s.processes ≡ true → Meets M A (finish_with (change_console s me.session (with_foreground g)) me.pid Tcsetpgrp (pos 0))
  pub sets_tostop : (b : Bool) → Meets M A (finish_with (change_console s me.session (with_tostop b)) me.pid Settostop (pos 0))
  pub writes : (span : Span) → span_in (argument me 1) (argument me 2) ≡ Ok span → Meets M A (finish_moved s me.pid Write (bytes_in span me.cpu.memory))
  pub marks : (mark : Bool) → Meets M A (finish_marked s me mark)

-- ---- calls that a process may be blocked in, and others that change nothing else

module _ (M : Outcome → Type 0) (A : State → Type 0) (s : State) (me : Process) (w : Retries M A s me) where
  -- what is refused gives a negative number that isn't large
  by_refusal : (call : Call) → may_fail call ≡ true → (why : Errno) → Meets M A (refused s me.pid call why)
  by_refusal call fails EPERM = w.refuses call 0 fails (omega arith)
  by_refusal call fails ENOENT = w.refuses call 1 fails (omega arith)
  by_refusal call fails ESRCH = w.refuses call 2 fails (omega arith)
  by_refusal call fails EINTR = w.refuses call 3 fails (omega arith)
  by_refusal call fails EIO = w.refuses call 4 fails (omega arith)
  by_refusal call fails ECHILD = w.refuses call 9 fails (omega arith)
  by_refusal call fails EAGAIN = w.refuses call 10 fails (omega arith)
  by_refusal call fails EACCES = w.refuses call 12 fails (omega arith)
  by_refusal call fails EFAULT = w.refuses call 13 fails (omega arith)
  by_refusal call fails EINVAL = w.refuses call 21 fails (omega arith)
  by_refusal call fails ENOTTY = w.refuses call 24 fails (omega arith)

  by_waits : (call : WaitCall) → Meets M A (wait_by call s me)
  by_waits call = by_wait (Meets M A) call s me (λ why. by_refusal (call_of_wait call) fails why) (w.finds_nothing call) tt (w.tells_end call) (w.tells_change call)
    where
      fails : may_fail (call_of_wait call) ≡ true
      fails = elim call as (λ k. may_fail (call_of_wait k) ≡ true) [ wait.Waitpid ↦ refl | wait.Waitid ↦ refl ]

  -- a call that is judged by the rule for the background
  by_allowed : (call : Call) (c : Console) (allowed : Attempted) → may_fail call ≡ true → Meets M A allowed → Meets M A (if_allowed s me call c allowed)
  by_allowed call c allowed fails h =
      cond_both (not (is_in_background me c) || blocks_or_ignores me TTOU) _ _ (Meets M A) (λ t. h)
      (λ t. cond_both (is_orphaned me.group s.processes) _ _ (Meets M A) (λ u. by_refusal call fails EIO) (λ u. w.begins_again TTOU (inr refl)))

  by_read : Meets M A (read s me)
  unfolding read
  by_read = on (terminal s me) refl
    where
      from : (c : Console) (span : Span) (lines : List (List ℕ)) → terminal s me ≡ Some c → span_in (argument me 1) (argument me 2) ≡ Ok span → c.lines ≡ lines → Meets M A (read_from s me span lines)
      from c span [] has fits is = tt
      from c span (line ∷ rest) has fits is = w.reads c span line rest has fits is

      within : (c : Console) (span : Result Span Errno) → terminal s me ≡ Some c → span_in (argument me 1) (argument me 2) ≡ span → Meets M A (read_in s me c span)
      within c (Err why) has fits = by_refusal Read refl why
      within c (Ok span) has fits =
          cond_both c.hung_up _ _ (Meets M A) (λ t. w.gives Read 0 refl) (λ t. cond_both (is_in_background me c) _ _ (Meets M A)
          (λ u. cond_both (blocks_or_ignores me TTIN || is_orphaned me.group s.processes) _ _ (Meets M A) (λ v. by_refusal Read refl EIO) (λ v. w.begins_again TTIN (inl refl)))
          (λ u. cond_both (span.count == 0) _ _ (Meets M A) (λ v. w.gives Read 0 refl) (λ v. from c span c.lines has fits refl)))

      on : (c : Option Console) → terminal s me ≡ c → Meets M A (read_on s me c)
      on None has = by_refusal Read refl ENOTTY
      on (Some c) has = within c (span_in (argument me 1) (argument me 2)) has refl

  -- What holds of each call that a process may be blocked in holds when it is attempted again.
  pub by_again : (b : Blocked) → Meets M A (attempt_again s me b)
  unfolding attempt_again
  by_again (blocked.Wait call) = by_waits call
  by_again blocked.Read = by_read
  by_again _ = tt

  by_tcgetpgrp : Meets M A (tcgetpgrp s me)
  unfolding tcgetpgrp
  by_tcgetpgrp = on (terminal s me) refl
    where
      on : (c : Option Console) → terminal s me ≡ c → Meets M A (tcgetpgrp_on s me c)
      on None has = by_refusal Tcgetpgrp refl ENOTTY
      on (Some c) has = w.gives Tcgetpgrp (foreground_told s.world.pidmax c.foreground) (c, has, refl)

  by_tells : (call : Call) (field : Process → ℕ) (o : Option Process) → may_fail call ≡ true → ((r : Process) → o ≡ Some r → Gives s me call (field r))
      → Meets M A (tells s me call field o)
  by_tells call field None fails gives = by_refusal call fails ESRCH
  by_tells call field (Some r) fails gives = w.gives call (field r) (gives r refl)

-- ---- sends

-- memory is wanting for the queues alone, and where it isn't granted
wanting_memory : (granted : Bool) (me : Process) (target : Target) (n : Option ℕ) (rs : List Process) → sending_granted granted me target n rs ≡ sends.NoMemory → granted ≡ false
unfolding sending_granted sending
wanting_memory granted me target n rs e = by granted (queuers_among me target n rs) e
  where
    none : (meant : List Process) → sending_found me n meant ≡ sends.NoMemory → ⊥
    none [] e = absurd (cc)
    none (r ∷ meant) e = elim (permitted me n (r ∷ meant)) as (λ qs. sending_permitted qs ≡ sends.NoMemory → ⊥) [ [] ↦ λ k. absurd (cc) | q ∷ qs ↦ λ k. absurd (cc) ] e

    by : (granted : Bool) (qs : List Process) → queued_for granted qs (sending_found me n (targets me target rs)) ≡ sends.NoMemory → granted ≡ false
    by granted [] e = absurd (none (targets me target rs) e)
    by granted (q ∷ qs) e = grind (arith, e, none (targets me target rs))

-- a call that sends a signal
record IsSend (me : Process) (call : Call) (value : ℤ) : Type 0 where
  sends : Sends me call value
  fails : may_fail call ≡ true
  wants : asks_memory call ≡ true

-- ---- all calls

module _ (M : Outcome → Type 0) (A : State → Type 0) (granted : Bool) (s : State) (me : Process) (w : Ways M A granted s me) where
  refusal : (call : Call) → may_fail call ≡ true → (why : Errno) → Meets M A (refused s me.pid call why)
  refusal call fails why = by_refusal M A s me w.retries call fails why

  by_setctty : Meets M A (setctty s me)
  unfolding setctty
  by_setctty = at (console_named (argument me 1))
    where
      of : (k : ℕ) (c : Option Console) → slice_get s.consoles k ≡ c → Meets M A (setctty_of s me k c)
      of k None is = refusal Setctty refl ENOENT
      of k (Some c) is = cond_both (may_acquire s me c) _ _ (Meets M A) (λ t. w.acquires k c is t) (λ t. refusal Setctty refl EPERM)

      at : (k : Option ℕ) → Meets M A (setctty_at s me k)
      at None = refusal Setctty refl ENOENT
      at (Some k) = of k (slice_get s.consoles k) refl

  by_tcsetpgrp : Meets M A (tcsetpgrp s me)
  unfolding tcsetpgrp
  by_tcsetpgrp = on (terminal s me)
    where
      put : (z : ℤ) → Meets M A (put_foreground s me z)
      put (negsuc n) = refusal Tcsetpgrp refl EINVAL
      put (pos g) = cond_both (is_group_of me.session g s.processes) _ _ (Meets M A) (λ t. w.sets_foreground g t) (λ t. refusal Tcsetpgrp refl EPERM)

      on : (c : Option Console) → Meets M A (tcsetpgrp_on s me c)
      on None = refusal Tcsetpgrp refl ENOTTY
      on (Some c) = by_allowed M A s me w.retries Tcsetpgrp c _ refl (put (argument me 1))

  by_settostop : Meets M A (settostop s me)
  unfolding settostop
  by_settostop = on (terminal s me)
    where
      on : (c : Option Console) → Meets M A (settostop_on s me c)
      on None = refusal Settostop refl ENOTTY
      on (Some c) = by_allowed M A s me w.retries Settostop c _ refl (w.sets_tostop (is_nonzero (argument me 1)))

  by_write : Meets M A (write s me)
  unfolding write
  by_write = on (terminal s me)
    where
      within : (c : Console) (span : Result Span Errno) → span_in (argument me 1) (argument me 2) ≡ span → Meets M A (write_in s me c span)
      within c (Err why) fits = refusal Write refl why
      within c (Ok span) fits =
          let written = w.writes span fits in
          cond_both c.hung_up _ _ (Meets M A) (λ t. refusal Write refl EIO) (λ t. cond_both c.tostop _ _ (Meets M A) (λ u. by_allowed M A s me w.retries Write c _ refl written) (λ u. written))

      on : (c : Option Console) → Meets M A (write_on s me c)
      on None = refusal Write refl ENOTTY
      on (Some c) = within c (span_in (argument me 1) (argument me 2)) refl

  by_fork : (n : Option ℕ) → next_pid s ≡ n → Meets M A (fork_as granted s me n)
  unfolding fork_as
  by_fork None is = refusal Fork refl EAGAIN
  by_fork (Some n) is = cond_both granted _ _ (Meets M A) (λ t. w.bears n is) (λ t. w.wants_memory Fork refl t)

  by_send : (call : Call) (target : Target) (value : ℤ) → IsSend me call value → (sig : Result (Option ℕ) Errno)
      → Meets M A (send granted s me call target value sig)
  by_send call target value k (Err why) = refusal call k.fails why
  by_send call target value k (Ok n) = with (sending_granted granted me target n s.processes) refl
    where
      with : (what : Sending) → sending_granted granted me target n s.processes ≡ what → Meets M A (send_with s me call target (message me.pid value n) what)
      with sends.NobodyFound is = refusal call k.fails ESRCH
      with sends.NobodyPermitted is = refusal call k.fails EPERM
      with sends.QueueFull is = refusal call k.fails EAGAIN
      with sends.NoMemory is = w.wants_memory call k.wants (wanting_memory granted me target n s.processes is)
      with sends.Permitted is = w.sends call target value n k.sends is

  by_action : Meets M A (finish_call s me.pid Sigaction (sigaction me))
  unfolding sigaction
  by_action = of (signal_in (argument me 1))
    where
      with : (n : ℕ) (g : Result Signals Errno) → set_action n (action_in me) me.signals ≡ g → Meets M A (finish_call s me.pid Sigaction (sigaction_with (action me.signals n) g))
      with n (Ok g) is = w.sets_action n g (inr is)
      with n (Err why) is = refusal Sigaction refl why

      of : (n : Option ℕ) → Meets M A (finish_call s me.pid Sigaction (sigaction_of me n))
      of None = refusal Sigaction refl EINVAL
      of (Some n) =
          cond_both (is_question (argument me 2)) _ _ (λ reply. Meets M A (finish_call s me.pid Sigaction reply)) (λ t. w.sets_action n me.signals (inl refl))
          (λ t. cond_both (are_flags (cast_unsigned w64 (argument me 4))) _ _ (λ reply. Meets M A (finish_call s me.pid Sigaction reply)) (λ u. with n (set_action n (action_in me) me.signals) refl) (λ u. refusal Sigaction refl EINVAL))

  by_mask : Meets M A (finish_call s me.pid Sigprocmask (sigprocmask me))
  unfolding sigprocmask
  by_mask = with (how_in (argument me 1))
    where
      with : (what : Option How) → Meets M A (finish_call s me.pid Sigprocmask (sigprocmask_with me what))
      with None = refusal Sigprocmask refl EINVAL
      with (Some what) = w.sets_mask what

  by_alarm : Meets M A (finish_call s me.pid Alarm (alarm s me))
  unfolding alarm
  by_alarm = within (ticks_in (argument me 1)) refl
    where
      within : (n : Option ℕ) → ticks_in (argument me 1) ≡ n → Meets M A (finish_call s me.pid Alarm (alarm_in s.ticks me n))
      within None is = refusal Alarm refl EINVAL
      within (Some n) is = w.sets_alarm n is

  by_ids : (call : Call) (c : Result Credentials Errno) → may_fail call ≡ true → ((new : Credentials) → c ≡ Ok new → SetsIds me call new)
      → Meets M A (finish_call s me.pid call (set_credentials c))
  by_ids call (Ok c) fails sets = w.sets_ids call c (sets c refl)
  by_ids call (Err why) fails sets = refusal call fails why

  by_exec : Meets M A (exec s me)
  unfolding exec
  by_exec = of (argument me 1)
    where
      as_number : (n : ℕ) (program : Option Program) → slice_get s.world.programs n ≡ program → Meets M A (exec_as s me n program)
      as_number n None is = refusal Exec refl ENOENT
      as_number n (Some program) is = w.executes n program is

      of : (z : ℤ) → Meets M A (exec_of s me z)
      of (pos n) = as_number n (slice_get s.world.programs n) refl
      of (negsuc n) = refusal Exec refl ENOENT

  by_setpgid : Meets M A (setpgid s me)
  unfolding setpgid
  by_setpgid = to (named me (argument me 1) s.processes) (argument me 2) refl
    where
      with : (target : Option Process) (group : ℕ) (what : Result ℕ Errno) → named me (argument me 1) s.processes ≡ target → move_of me target group s.processes ≡ what → Meets M A (setpgid_with s me target what)
      with target group (Err why) is goes = refusal Setpgid refl why
      with None group (Ok h) is goes = refusal Setpgid refl ESRCH
      with (Some r) group (Ok h) is goes = w.moves r group h is goes

      to : (target : Option Process) (z : ℤ) → named me (argument me 1) s.processes ≡ target → Meets M A (setpgid_with s me target (move_to me target z s.processes))
      to target (pos group) is = with target group (move_of me target group s.processes) is refl
      to target (negsuc n) is = refusal Setpgid refl EINVAL

  -- What holds of the ways of calls holds of each attempt.
  pub by_attempt : (call : Call) → Meets M A (attempt granted s me call)
  unfolding attempt kill sigqueue sigpending getpgid getsid setsid subreaper
  by_attempt Exit = w.exits
  by_attempt Fork = by_fork (next_pid s) refl
  by_attempt Waitpid = by_waits M A s me w.retries wait.Waitpid
  by_attempt Waitid = by_waits M A s me w.retries wait.Waitid
  by_attempt SchedYield = w.yields
  by_attempt Getpid = w.retries.gives Getpid me.pid refl
  by_attempt Getppid = w.retries.gives Getppid me.parent refl
  by_attempt Getuid = w.retries.gives Getuid me.credentials.user.real refl
  by_attempt Geteuid = w.retries.gives Geteuid me.credentials.user.effective refl
  by_attempt Getgid = w.retries.gives Getgid me.credentials.group.real refl
  by_attempt Getegid = w.retries.gives Getegid me.credentials.group.effective refl
  by_attempt Setuid = by_ids Setuid _ refl (λ c is. is)
  by_attempt Seteuid = by_ids Seteuid _ refl (λ c is. is)
  by_attempt Setgid = by_ids Setgid _ refl (λ c is. is)
  by_attempt Setegid = by_ids Setegid _ refl (λ c is. is)
  by_attempt Kill = by_send Kill (target_in (argument me 1)) (pos 0) (record { sends = refl; fails = refl; wants = refl }) (signal_or_none (argument me 2))
  by_attempt Sigqueue = by_send Sigqueue (process_in (argument me 1)) (argument me 3) (record { sends = refl; fails = refl; wants = refl }) (signal_or_none (argument me 2))
  by_attempt Sigaction = by_action
  by_attempt Sigprocmask = by_mask
  by_attempt Sigpending = w.tells_pending
  by_attempt Sigreturn = w.returns
  by_attempt Alarm = by_alarm
  by_attempt Exec = by_exec
  by_attempt Getpgid = by_tells M A s me w.retries Getpgid (λ r. r.group) (named me (argument me 1) s.processes) refl (λ r is. (r, is, refl))
  by_attempt Getsid = by_tells M A s me w.retries Getsid (λ r. r.session) (named me (argument me 1) s.processes) refl (λ r is. (r, is, refl))
  by_attempt Setpgid = by_setpgid
  by_attempt Setsid =
      cond_both (me.group == me.pid || is_group_of_others me s.processes) _ _ (Meets M A) (λ t. refusal Setsid refl EPERM) (λ t. w.leads (or_parts _ _ t).1)
  by_attempt Setctty = by_setctty
  by_attempt Tcgetpgrp = by_tcgetpgrp M A s me w.retries
  by_attempt Tcsetpgrp = by_tcsetpgrp
  by_attempt Settostop = by_settostop
  by_attempt Read = by_read M A s me w.retries
  by_attempt Write = by_write
  by_attempt Subreaper = w.marks (is_nonzero (argument me 1))
  by_attempt _ = tt
