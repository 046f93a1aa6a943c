-- Shows that fork, exec and calls that change only their caller don't depend on the time.
use Rattle.std.proofs.Common.{◌≡◌, ℕ, ◌+◌, Bool, true, false, cond, List, [], ◌∷◌, Option, Some, None, refl, ap, ◌∙◌, not}
use native.Mathlib.Omega.{arith}
use Rattle.std.specs.Prelude.{ℤ, pos, negsuc, slice_get, Result, Ok, Err}
use Rattle.std.specs.Int.{cast_unsigned, w64}
use Rattle.std.specs.List.{list_any}
use Rattle.posix.specs.declared.call.Call.TheVariants.{Fork, Exec}
use Rattle.posix.specs.declared.entry.Entry.TheVariants.{Called}
use Rattle.posix.specs.declared.errno.Errno.{Errno}
use Rattle.posix.specs.declared.errno.Errno.TheVariants.{EAGAIN, ENOENT, EINVAL}
use Rattle.posix.specs.declared.how.How.{How}
use Rattle.posix.specs.declared.process.Action.{Action}
use Rattle.posix.specs.Processes.{Process, Credentials, Signals, argument}
use Rattle.posix.specs.States.{State, Program, next_pid}
use Rattle.posix.specs.Tables.{inserted, bears}
use Rattle.posix.specs.NextPid.{is_free, next_free}
use Rattle.posix.specs.Outcomes.{Done, Reply, finished, finish_with, refusing, written}
use Rattle.posix.specs.Births.{child_of, born, fork_as}
use Rattle.posix.specs.Programs.{executed, exec_as, exec_of, exec}
use Rattle.posix.specs.Generation.{action}
use Rattle.posix.specs.SignalCalls.{give_credentials, give_signals, set_credentials, action_in, holding, gives_action, sigaction_with, sigaction_of, sigaction, sigprocmask_with, how_in, sigprocmask, sigpending, is_question, are_flags}
use Rattle.posix.specs.Handlers.{set_action}
use Rattle.posix.specs.Sends.{signal_in}
use Rattle.times.specs.Times.{later, all_later, state_later}
use Rattle.times.proofs.CallLemmas.{attempted_later, AreLater}
use Rattle.times.proofs.OutcomeLemmas.{change_later, finish_with_later, refused_later, refusing_later, no_memory_later}

-- ---- process IDs

borne_later : (d n : ℕ) (rs : List Process) → list_any (bears n) (all_later d rs) ≡ list_any (bears n) rs
borne_later d n [] = refl
borne_later d n (r ∷ rs) = grind (arith, borne_later d n rs)

pub is_free_later : (d n : ℕ) (rs : List Process) → is_free (all_later d rs) n ≡ is_free rs n
unfolding is_free
is_free_later d n rs = ap not (borne_later d n rs)

pub next_pid_later : (d : ℕ) (s : State) → next_pid (state_later d s) ≡ next_pid s
next_pid_later d s = ap (λ (free : ℕ → Bool). next_free free s.last_pid s.world.pidmax) same where
  same : is_free (all_later d s.processes) ≡ is_free s.processes
  same = λ i n. is_free_later d n s.processes i

-- ---- fork

pub inserted_later : (d : ℕ) (new : Process) (rs : List Process) → inserted (later d new) (all_later d rs) ≡ all_later d (inserted new rs)
unfolding inserted
inserted_later d new [] = refl
inserted_later d new (r ∷ rs) = grind (arith, inserted_later d new rs)

pub child_of_later : (d birth : ℕ) (me : Process) (n : ℕ) → child_of birth (later d me) n ≡ later d (child_of birth me n)
unfolding child_of finished
child_of_later d birth me n = refl

pub born_later : (d : ℕ) (s : State) (me : Process) (n : ℕ) → born (state_later d s) (later d me) n ≡ state_later d (born s me n)
born_later d s me n =
    ap (λ (rs : List Process). record (state_later d s) { processes = rs; last_pid = n; births = s.births + 1 })
    (ap (λ (child : Process). inserted child (all_later d s.processes)) (child_of_later d (s.births + 1) me n) ∙ inserted_later d (child_of (s.births + 1) me n) s.processes)

pub fork_as_later : (d : ℕ) (granted : Bool) (s : State) (me : Process) (n : Option ℕ) → fork_as granted (state_later d s) (later d me) n ≡ attempted_later d (fork_as granted s me n)
unfolding fork_as
fork_as_later d granted s me None = refused_later d s me.pid Fork EAGAIN
fork_as_later d true s me (Some n) = ap (λ (t : State). finish_with t me.pid Fork (pos n)) (born_later d s me n) ∙ finish_with_later d (born s me n) me.pid Fork (pos n)
fork_as_later d false s me (Some n) = no_memory_later d s me.pid Fork

-- ---- exec

pub executed_later : (d number : ℕ) (program : Program) (r : Process) → executed number program (later d r) ≡ later d (executed number program r)
unfolding executed
executed_later d number program r = refl

pub exec_as_later : (d : ℕ) (s : State) (me : Process) (number : ℕ) (program : Option Program) → exec_as (state_later d s) (later d me) number program ≡ attempted_later d (exec_as s me number program)
exec_as_later d s me number None = refused_later d s me.pid Exec ENOENT
exec_as_later d s me number (Some program) =
    ap (λ (t : State). Done (record { state = t; entries = Called me.pid Exec (pos 0) ∷ [] })) (change_later d s me.pid (executed number program) (executed number program) (executed_later d number program))

pub exec_of_later : (d : ℕ) (s : State) (me : Process) (z : ℤ) → exec_of (state_later d s) (later d me) z ≡ attempted_later d (exec_of s me z)
exec_of_later d s me (pos n) = exec_as_later d s me n (slice_get s.world.programs n)
exec_of_later d s me (negsuc n) = refused_later d s me.pid Exec ENOENT

pub exec_later : (d : ℕ) (s : State) (me : Process) → exec (state_later d s) (later d me) ≡ attempted_later d (exec s me)
unfolding exec
exec_later d s me = exec_of_later d s me (argument me 1)

-- ---- user and group IDs

pub give_credentials_later : (d : ℕ) (c : Credentials) (r : Process) → give_credentials c (later d r) ≡ later d (give_credentials c r)
unfolding give_credentials
give_credentials_later d c r = refl

pub set_credentials_later : (d : ℕ) (c : Result Credentials Errno) → AreLater d (set_credentials c) (set_credentials c)
set_credentials_later d (Ok c) = (refl, give_credentials_later d c)
set_credentials_later d (Err why) = refusing_later d why

-- ---- actions

pub give_signals_later : (d : ℕ) (g : Signals) (r : Process) → give_signals g (later d r) ≡ later d (give_signals g r)
unfolding give_signals
give_signals_later d g r = refl

pub holding_later : (d : ℕ) (a : Action) (r : Process) → holding a (later d r) ≡ later d (holding a r)
unfolding written
holding_later d a r = refl

pub gives_action_later : (d : ℕ) (a : Action) (g : Signals) → AreLater d (gives_action a g) (gives_action a g)
gives_action_later d a g = (refl, λ r. ap (holding a) (give_signals_later d g r) ∙ holding_later d a (give_signals g r))

pub sigaction_with_later : (d : ℕ) (old : Action) (g : Result Signals Errno) → AreLater d (sigaction_with old g) (sigaction_with old g)
sigaction_with_later d old (Ok g) = gives_action_later d old g
sigaction_with_later d old (Err why) = refusing_later d why

pub sigaction_of_later : (d : ℕ) (me : Process) (n : Option ℕ) → AreLater d (sigaction_of (later d me) n) (sigaction_of me n)
sigaction_of_later d me None = refusing_later d EINVAL
sigaction_of_later d me (Some n) = go (is_question (argument me 2)) (are_flags (cast_unsigned w64 (argument me 4))) where
  chosen : Bool → Bool → Reply
  chosen question flags =
      cond question (gives_action (action me.signals n) me.signals) (cond flags (sigaction_with (action me.signals n) (set_action n (action_in me) me.signals)) (refusing EINVAL))

  go : (question flags : Bool) → AreLater d (chosen question flags) (chosen question flags)
  go true flags = gives_action_later d (action me.signals n) me.signals
  go false true = sigaction_with_later d (action me.signals n) (set_action n (action_in me) me.signals)
  go false false = refusing_later d EINVAL

pub sigaction_later : (d : ℕ) (me : Process) → AreLater d (sigaction (later d me)) (sigaction me)
unfolding sigaction
sigaction_later d me = sigaction_of_later d me (signal_in (argument me 1))

-- ---- the signal mask and pending signals

pub sigprocmask_with_later : (d : ℕ) (me : Process) (how : Option How) → AreLater d (sigprocmask_with (later d me) how) (sigprocmask_with me how)
unfolding give_signals written
sigprocmask_with_later d me None = refusing_later d EINVAL
sigprocmask_with_later d me (Some what) = (refl, λ r. refl)

pub sigprocmask_later : (d : ℕ) (me : Process) → AreLater d (sigprocmask (later d me)) (sigprocmask me)
unfolding sigprocmask
sigprocmask_later d me = sigprocmask_with_later d me (how_in (argument me 1))

pub sigpending_later : (d : ℕ) (me : Process) → AreLater d (sigpending (later d me)) (sigpending me)
unfolding sigpending written
sigpending_later d me = (refl, λ r. refl)
