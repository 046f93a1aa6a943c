-- Shows that calls on process groups and sessions don't depend on the time.
use Rattle.std.proofs.Common.{◌≡◌, ℕ, zero, suc, Bool, true, false, cond, ◌&&◌, ◌||◌, ◌==◌, not, List, Option, Some, None, refl, ap, ◌∙◌}
use Rattle.std.specs.Prelude.{ℤ, pos, negsuc, option_map, Result, Ok, Err}
use Rattle.posix.specs.Processes.{Process, argument}
use Rattle.posix.specs.States.{State, change}
use Rattle.posix.specs.Outcomes.{Attempted, finish_with, refused}
use Rattle.posix.specs.GroupCalls.{named, tells, getpgid, getsid, is_group_of, group_meant, can_join, can_move, move_of, move_to, in_group, setpgid_with, setpgid, is_group_of_others, in_session, setsid}
use Rattle.posix.specs.declared.call.Call.{Call}
use Rattle.posix.specs.declared.call.Call.TheVariants.{Getpgid, Getsid, Setpgid, Setsid}
use Rattle.posix.specs.declared.errno.Errno.{Errno}
use Rattle.posix.specs.declared.errno.Errno.TheVariants.{EPERM, ESRCH, EACCES}
use Rattle.times.specs.Times.{later, all_later, state_later}
use Rattle.times.proofs.TableLemmas.{lookup_later}
use Rattle.times.proofs.CallLemmas.{attempted_later}
use Rattle.times.proofs.GroupLemmas.{list_any_later}
use Rattle.times.proofs.OutcomeLemmas.{change_later, finish_with_later, refused_later}

-- The same branch is taken at both times.
pub either_later : (d : ℕ) (now then : Bool) (x y v w : Attempted) → now ≡ then → x ≡ attempted_later d v → y ≡ attempted_later d w → cond now x y ≡ attempted_later d (cond then v w)
either_later d now then x y v w b h k = ap (λ (c : Bool). cond c x y) b ∙ go then where
  go : (c : Bool) → cond c x y ≡ attempted_later d (cond c v w)
  go true = h
  go false = k

pub named_later : (d : ℕ) (me : Process) (z : ℤ) (rs : List Process) → named (later d me) z (all_later d rs) ≡ option_map (later d) (named me z rs)
named_later d me (pos zero) rs = refl
named_later d me (pos (suc n)) rs = lookup_later d (suc n) rs
named_later d me (negsuc n) rs = refl

-- ---- getpgid and getsid

pub tells_later : (d : ℕ) (s : State) (me : Process) (call : Call) (field : Process → ℕ) → ((r : Process) → field (later d r) ≡ field r) → (r : Option Process) → tells (state_later d s) (later d me) call field (option_map (later d) r) ≡ attempted_later d (tells s me call field r)
tells_later d s me call field h None = refused_later d s me.pid call ESRCH
tells_later d s me call field h (Some r) =
    ap (λ (n : ℕ). finish_with (state_later d s) me.pid call (pos n)) (h r)
    ∙ finish_with_later d s me.pid call (pos (field r))

pub getpgid_later : (d : ℕ) (s : State) (me : Process) → getpgid (state_later d s) (later d me) ≡ attempted_later d (getpgid s me)
unfolding getpgid
getpgid_later d s me =
    ap (tells (state_later d s) (later d me) Getpgid (λ r. r.group)) (named_later d me (argument me 1) s.processes)
    ∙ tells_later d s me Getpgid (λ r. r.group) (λ r. refl) (named me (argument me 1) s.processes)

pub getsid_later : (d : ℕ) (s : State) (me : Process) → getsid (state_later d s) (later d me) ≡ attempted_later d (getsid s me)
unfolding getsid
getsid_later d s me =
    ap (tells (state_later d s) (later d me) Getsid (λ r. r.session)) (named_later d me (argument me 1) s.processes)
    ∙ tells_later d s me Getsid (λ r. r.session) (λ r. refl) (named me (argument me 1) s.processes)

-- ---- setpgid

pub is_group_of_later : (d session group : ℕ) (rs : List Process) → is_group_of session group (all_later d rs) ≡ is_group_of session group rs
unfolding is_group_of
is_group_of_later d session group rs = list_any_later d (λ r. r.session == session && r.group == group) (λ r. r.session == session && r.group == group) rs (λ r. refl)

pub can_join_later : (d : ℕ) (me r : Process) (group : ℕ) (rs : List Process) → can_join (later d me) (later d r) group (all_later d rs) ≡ can_join me r group rs
can_join_later d me r group rs =
    ap (λ (b : Bool). cond (not (r.session == me.session) || r.session == r.pid) (Err EPERM) (cond (group == r.pid || b) (Ok group) (Err EPERM))) (is_group_of_later d me.session group rs)

pub can_move_later : (d : ℕ) (me r : Process) (group : ℕ) (rs : List Process) → can_move (later d me) (later d r) group (all_later d rs) ≡ can_move me r group rs
can_move_later d me r group rs =
    ap (λ (j : Result ℕ Errno). cond (r.pid == me.pid) j (cond (not (r.parent == me.pid)) (Err ESRCH) (cond (not (r.session == me.session)) (Err EPERM) (cond r.ran_exec (Err EACCES) j)))) (can_join_later d me r group rs)

pub move_of_later : (d : ℕ) (me : Process) (r : Option Process) (group : ℕ) (rs : List Process) → move_of (later d me) (option_map (later d) r) group (all_later d rs) ≡ move_of me r group rs
move_of_later d me None group rs = refl
move_of_later d me (Some r) group rs = can_move_later d me r (group_meant r group) rs

pub move_to_later : (d : ℕ) (me : Process) (r : Option Process) (z : ℤ) (rs : List Process) → move_to (later d me) (option_map (later d) r) z (all_later d rs) ≡ move_to me r z rs
move_to_later d me r (pos group) rs = move_of_later d me r group rs
move_to_later d me r (negsuc n) rs = refl

pub setpgid_with_later : (d : ℕ) (s : State) (me : Process) (r : Option Process) (to : Result ℕ Errno) → setpgid_with (state_later d s) (later d me) (option_map (later d) r) to ≡ attempted_later d (setpgid_with s me r to)
unfolding in_group
setpgid_with_later d s me r (Err why) = refused_later d s me.pid Setpgid why
setpgid_with_later d s me None (Ok group) = refused_later d s me.pid Setpgid ESRCH
setpgid_with_later d s me (Some r) (Ok group) =
    ap (λ (t : State). finish_with t me.pid Setpgid (pos 0)) (change_later d s r.pid (in_group group) (in_group group) (λ q. refl))
    ∙ finish_with_later d (change s r.pid (in_group group)) me.pid Setpgid (pos 0)

pub setpgid_later : (d : ℕ) (s : State) (me : Process) → setpgid (state_later d s) (later d me) ≡ attempted_later d (setpgid s me)
unfolding setpgid
setpgid_later d s me =
    ap (λ (r : Option Process). setpgid_with (state_later d s) (later d me) r (move_to (later d me) r (argument me 2) (all_later d s.processes))) (named_later d me (argument me 1) s.processes)
    ∙ ap (setpgid_with (state_later d s) (later d me) (option_map (later d) (named me (argument me 1) s.processes))) (move_to_later d me (named me (argument me 1) s.processes) (argument me 2) s.processes)
    ∙ setpgid_with_later d s me (named me (argument me 1) s.processes) (move_to me (named me (argument me 1) s.processes) (argument me 2) s.processes)

-- ---- setsid

pub is_group_of_others_later : (d : ℕ) (me : Process) (rs : List Process) → is_group_of_others (later d me) (all_later d rs) ≡ is_group_of_others me rs
is_group_of_others_later d me rs = list_any_later d (λ r. r.group == me.pid && not (r.pid == me.pid)) (λ r. r.group == me.pid && not (r.pid == me.pid)) rs (λ r. refl)

pub setsid_later : (d : ℕ) (s : State) (me : Process) → setsid (state_later d s) (later d me) ≡ attempted_later d (setsid s me)
unfolding setsid in_session
setsid_later d s me =
    either_later d (me.group == me.pid || is_group_of_others (later d me) (all_later d s.processes)) (me.group == me.pid || is_group_of_others me s.processes)
    (refused (state_later d s) me.pid Setsid EPERM) (finish_with (change (state_later d s) me.pid in_session) me.pid Setsid (pos me.pid))
    (refused s me.pid Setsid EPERM) (finish_with (change s me.pid in_session) me.pid Setsid (pos me.pid))
    (ap (λ (b : Bool). me.group == me.pid || b) (is_group_of_others_later d me s.processes))
    (refused_later d s me.pid Setsid EPERM)
    (ap (λ (t : State). finish_with t me.pid Setsid (pos me.pid)) (change_later d s me.pid in_session in_session (λ r. refl))
    ∙ finish_with_later d (change s me.pid in_session) me.pid Setsid (pos me.pid))
