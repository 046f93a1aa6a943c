-- Calls on process groups, sessions and programs.
use Rattle.std.proofs.Common.{◌≡◌, ℕ, Bool, true, false, refl, ap, sym, ◌∙◌, subst, List, Option, Some, None, Result, Ok, Err, ℤ, pos, negsuc, ◌==◌, ◌||◌, slice_get}
use Rattle.std.specs.Option.{IsSome}
use Rattle.posix.specs.declared.call.Call.TheVariants.{Exec, Setpgid, Setsid}
use Rattle.posix.specs.declared.errno.Errno.{Errno}
use Rattle.posix.specs.declared.errno.Errno.TheVariants.{EPERM, ENOENT}
use Rattle.posix.specs.Common.{Process, argument, State, Program, process, change, named, move_to, in_group, in_session, is_group_of_others, setpgid, setpgid_with, setsid, executed, exec_as, exec_of, exec}
use Rattle.posix.specs.Outcomes as outcome
use Rattle.posix.proofs.ReportLemmas.{some_changed}
use Rattle.posix.proofs.ResultLemmas.{There}
use Rattle.life.specs.Machines.{MachineView, AreSame}

-- ---- setpgid

-- a process that moves exists
pub who_moves : (me : Process) (target : Option Process) (z : ℤ) (rs : List Process) (g : ℕ) → move_to me target z rs ≡ Ok g → There target
who_moves me None (pos n) rs g e = absurd (cc)
who_moves me None (negsuc n) rs g e = absurd (cc)
who_moves me (Some r) z rs g e = record { what = r; found = refl }

-- an existing process exists after a move
pub there_moved : (s : State) (p q g : ℕ) → IsSome (process s p) → IsSome (process (change s q (in_group g)) p)
unfolding in_group
there_moved s p q g h = some_changed q p (in_group g) (λ r. refl) s.processes h

-- the outcome of setpgid if it moves a process
pub setpgid_moves : (s : State) (me r : Process) (group : ℕ) → named me (argument me 1) s.processes ≡ Some r → move_to me (named me (argument me 1) s.processes) (argument me 2) s.processes ≡ Ok group
    → setpgid s me ≡ outcome.finish_with (change s r.pid (in_group group)) me.pid Setpgid (pos 0)
unfolding setpgid
setpgid_moves s me r group who moves = ap (setpgid_with s me (named me (argument me 1) s.processes)) moves ∙ ap (λ o. setpgid_with s me o (Ok group)) who

-- ---- setsid

abbrev pub is_session_refused : State → Process → Bool
is_session_refused s me = me.group == me.pid || is_group_of_others me s.processes

pub session_refused : (s : State) (me : Process) → is_session_refused s me ≡ true → setsid s me ≡ outcome.refused s me.pid Setsid EPERM
unfolding setsid
session_refused s me e = rw e refl

pub session_led : (s : State) (me : Process) → is_session_refused s me ≡ false → setsid s me ≡ outcome.finish_with (change s me.pid in_session) me.pid Setsid (pos me.pid)
unfolding setsid
session_led s me e = rw e refl

-- a process that leads a session exists
pub there_led : (s : State) (p : ℕ) → IsSome (process s p) → IsSome (process (change s p in_session) p)
unfolding in_session
there_led s p h = some_changed p p in_session (λ r. refl) s.processes h

-- it leads one if the call didn't fail
pub record HasLed (s now : State) (p : ℕ) (me : Process) : Type 0 where
  pub may : is_session_refused s me ≡ false
  pub state : now ≡ change s p in_session

pub has_led : {X : Type 0} (s now : State) (p : ℕ) (me : Process) (result : Result (Unit {0}) Errno) (done : Unit {0}) → result ≡ Ok done → (is_session_refused s me ≡ true → (result ≡ Err EPERM) × X)
    → (is_session_refused s me ≡ false → (result ≡ Ok tt) × (now ≡ change s p in_session)) → HasLed s now p me
has_led s now p me result done ok refuses leads = elim (is_session_refused s me) as (λ b. is_session_refused s me ≡ b → HasLed s now p me) [
  | true ↦ λ t. let no = sym ok ∙ (refuses t).0 in absurd (cc)
  | false ↦ λ t. record { may = t; state = (leads t).1 }
] refl

-- if it did, nothing has changed
pub record HasNot (s now : State) (me : Process) (why : Errno) : Type 0 where
  pub refused : is_session_refused s me ≡ true
  pub errno : why ≡ EPERM
  pub state : now ≡ s

pub has_not_led : (old new : MachineView) (p : ℕ) (me : Process) (result : Result (Unit {0}) Errno) (why : Errno) → result ≡ Err why → (is_session_refused old.state me ≡ true → (result ≡ Err EPERM) × AreSame old new)
    → (is_session_refused old.state me ≡ false → (result ≡ Ok tt) × (new.state ≡ change old.state p in_session)) → HasNot old.state new.state me why
has_not_led old new p me result why err refuses leads = elim (is_session_refused old.state me) as (λ b. is_session_refused old.state me ≡ b → HasNot old.state new.state me why) [
  | true ↦ λ t. record { refused = t; errno = let both = sym err ∙ (refuses t).0 in cc; state = (refuses t).1.state }
  | false ↦ λ t. let no = sym err ∙ (leads t).0 in absurd (cc)
] refl

-- ---- exec

abbrev Runs : State → State → ℕ → ℤ → Bool → Type 0
Runs s now p z result = (n : ℕ) (program : Program) → z ≡ pos n → slice_get s.world.programs n ≡ Some program → (result ≡ true) × (now ≡ change s p (executed n program))

abbrev RunsNone : State → State → ℤ → Bool → Type 0
RunsNone s now z result = ((n : ℕ) → z ≡ pos n → slice_get s.world.programs n ≡ None) → (result ≡ false) × (now ≡ s)

-- an existing program is run
pub record HasRun (s now : State) (p : ℕ) (z : ℤ) : Type 0 where
  pub number : ℕ
  pub program : Program
  pub word : z ≡ pos number
  pub found : slice_get s.world.programs number ≡ Some program
  pub state : now ≡ change s p (executed number program)

ran_in : (s now : State) (p : ℕ) (z : ℤ) (result : Bool) → result ≡ true → Runs s now p z result → RunsNone s now z result → HasRun s now p z
ran_in s now p (pos n) result ran runs none = elim (slice_get s.world.programs n) as (λ o. slice_get s.world.programs n ≡ o → HasRun s now p (pos n)) [
  | None ↦ λ e. let no = sym ran ∙ (none (λ m is. let same : n ≡ m = cc in ap (slice_get s.world.programs) (sym same) ∙ e)).0 in absurd (cc)
  | Some program ↦ λ e. record { number = n; program = program; word = refl; found = e; state = (runs n program refl e).1 }
] refl
ran_in s now p (negsuc n) result ran runs none = let no = sym ran ∙ (none (λ m is. absurd (cc))).0 in absurd (cc)

-- the code did so in t, which is the same
pub has_run : (s t now : State) (p : ℕ) (z : ℤ) (result : Bool) → t ≡ s → result ≡ true → Runs t now p z result → RunsNone t now z result → HasRun s now p z
has_run s t now p z result same ran runs none = subst (λ x. HasRun x now p z) same (ran_in t now p z result ran runs none)

pub exec_made : (s : State) (me : Process) (n : ℕ) (program : Program) → argument me 1 ≡ pos n → slice_get s.world.programs n ≡ Some program → exec s me ≡ exec_as s me n (Some program)
unfolding exec
exec_made s me n program word found = ap (exec_of s me) word ∙ ap (exec_as s me n) found

-- and otherwise nothing changes
pub record HasNotRun (s now : State) (z : ℤ) : Type 0 where
  pub state : now ≡ s
  pub refused : (me : Process) → argument me 1 ≡ z → exec s me ≡ outcome.refused s me.pid Exec ENOENT

idle_in : (s now : State) (p : ℕ) (z : ℤ) (result : Bool) → result ≡ false → Runs s now p z result → RunsNone s now z result → HasNotRun s now z
unfolding exec
idle_in s now p (pos n) result idle runs none = elim (slice_get s.world.programs n) as (λ o. slice_get s.world.programs n ≡ o → HasNotRun s now (pos n)) [
  | None ↦ λ e. record { state = (none (λ m is. let same : n ≡ m = cc in ap (slice_get s.world.programs) (sym same) ∙ e)).1; refused = λ me word. ap (exec_of s me) word ∙ ap (exec_as s me n) e }
  | Some program ↦ λ e. let no = sym idle ∙ (runs n program refl e).0 in absurd (cc)
] refl
idle_in s now p (negsuc n) result idle runs none = record { state = (none (λ m is. absurd (cc))).1; refused = λ me word. ap (exec_of s me) word }

pub has_not_run : (s t now : State) (p : ℕ) (z : ℤ) (result : Bool) → t ≡ s → result ≡ false → Runs t now p z result → RunsNone t now z result → HasNotRun s now z
has_not_run s t now p z result same idle runs none = subst (λ x. HasNotRun x now z) same (idle_in t now p z result idle runs none)
