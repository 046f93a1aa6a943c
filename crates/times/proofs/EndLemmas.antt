-- Shows that the termination of a process doesn't depend on the time.
use Rattle.std.proofs.Common.{◌≡◌, ℕ, Bool, true, false, cond, filter, List, [], ◌∷◌, Option, Some, None, refl, ap, ◌∙◌, not, ◌&&◌, ◌==◌}
use Rattle.posix.specs.declared.entry.Entry.TheVariants.{Ended, Halted}
use Rattle.posix.specs.declared.process.PendingSignal.{PendingSignal}
use Rattle.posix.specs.SignalNumbers.{HUP, CONT}
use Rattle.posix.specs.Processes.{Process, is_zombie}
use Rattle.posix.specs.Tables.{pids, changed, adopted, children_in, members_in}
use Rattle.posix.specs.States.{State, without}
use Rattle.posix.specs.Heirs.{heir_in}
use Rattle.posix.specs.Consoles.{Console, console_of, changed_console, released}
use Rattle.posix.specs.Choice.{from_kernel}
use Rattle.posix.specs.Notices.{signalled_all}
use Rattle.posix.specs.Groups.{newly_orphaned}
use Rattle.posix.specs.Ends.{ended, made_zombie, halt, leave_children_and_die, notice_of_end, status_of, zombies_of, tell_of_all, signalled_members, signalled_group, hup_and_cont, hup_and_cont_all, hup_and_cont_orphans, hung_up, hang_up, end_with_heir, end_process}
use Rattle.times.specs.Times.{later, all_later, state_later, outcome_later}
use Rattle.times.proofs.TableLemmas.{changed_later, members_later}
use Rattle.times.proofs.SignalLemmas.{pids_later, children_later, adopted_later, made_zombie_later, signalled_all_later, notice_of_end_later}
use Rattle.times.proofs.GroupLemmas.{filter_later, heir_in_later, newly_orphaned_later}

-- ---- what a termination changes

pub ended_later : (d status : ℕ) (r : Process) → ended status (later d r) ≡ later d (ended status r)
unfolding ended
ended_later d status r = refl

pub halt_later : (d : ℕ) (s : State) (status : ℕ) → halt (state_later d s) status ≡ state_later d (halt s status)
halt_later d s status = ap (λ (rs : List Process). record (halt (state_later d s) status) { processes = rs }) (changed_later d 1 (ended status) (ended status) s.processes (ended_later d status))

pub leave_children_and_die_later : (d : ℕ) (s : State) (p heir status : ℕ) → leave_children_and_die (state_later d s) p heir status ≡ state_later d (leave_children_and_die s p heir status)
leave_children_and_die_later d s p heir status =
    ap (λ (rs : List Process). record (state_later d s) { processes = rs; order = without p s.order })
    (ap (adopted p heir) (changed_later d p (made_zombie status) (made_zombie status) s.processes (made_zombie_later d status))
    ∙ adopted_later d p heir (changed p (made_zombie status) s.processes))

-- ---- zombies that get a new parent

pub zombies_of_later : (d p : ℕ) (rs : List Process) → zombies_of p (all_later d rs) ≡ all_later d (zombies_of p rs)
unfolding zombies_of
zombies_of_later d p rs = ap (λ (cs : List Process). filter (λ r. is_zombie r.life) cs) (children_later d p rs) ∙ filter_later d (λ r. is_zombie r.life) (λ r. is_zombie r.life) (children_in p rs) (λ r. refl)

pub tell_of_all_later : (d : ℕ) (s : State) (heir : ℕ) (rs : List Process) → tell_of_all (state_later d s) heir (all_later d rs) ≡ state_later d (tell_of_all s heir rs)
unfolding tell_of_all
tell_of_all_later d s heir [] = refl
tell_of_all_later d s heir (r ∷ rs) =
    ap (λ (t : State). tell_of_all t heir (all_later d rs)) (notice_of_end_later d s heir r.pid (status_of r.life))
    ∙ tell_of_all_later d (notice_of_end s heir r.pid (status_of r.life)) heir rs

-- ---- signals for process groups

pub signalled_members_later : (d : ℕ) (signal : PendingSignal) (group : ℕ) (rs : List Process) → signalled_members signal group (all_later d rs) ≡ all_later d (signalled_members signal group rs)
unfolding signalled_members
signalled_members_later d signal group rs =
    ap (λ (ps : List ℕ). signalled_all signal ps (all_later d rs)) (ap pids (members_later d group rs) ∙ pids_later d (members_in group rs))
    ∙ signalled_all_later d signal (pids (members_in group rs)) rs

pub signalled_group_later : (d n group : ℕ) (rs : List Process) → signalled_group n group (all_later d rs) ≡ all_later d (signalled_group n group rs)
signalled_group_later d n group rs = go (group == 0) where
  go : (b : Bool) → cond b (all_later d rs) (signalled_members (record { sig = n; carried = from_kernel }) group (all_later d rs)) ≡ all_later d (cond b rs (signalled_members (record { sig = n; carried = from_kernel }) group rs))
  go true = refl
  go false = signalled_members_later d (record { sig = n; carried = from_kernel }) group rs

pub hup_and_cont_later : (d group : ℕ) (rs : List Process) → hup_and_cont group (all_later d rs) ≡ all_later d (hup_and_cont group rs)
hup_and_cont_later d group rs =
    ap (signalled_members (record { sig = CONT; carried = from_kernel }) group) (signalled_members_later d (record { sig = HUP; carried = from_kernel }) group rs)
    ∙ signalled_members_later d (record { sig = CONT; carried = from_kernel }) group (signalled_members (record { sig = HUP; carried = from_kernel }) group rs)

pub hup_and_cont_all_later : (d : ℕ) (groups : List ℕ) (rs : List Process) → hup_and_cont_all groups (all_later d rs) ≡ all_later d (hup_and_cont_all groups rs)
unfolding hup_and_cont_all
hup_and_cont_all_later d [] rs = refl
hup_and_cont_all_later d (g ∷ gs) rs = ap (hup_and_cont_all gs) (hup_and_cont_later d g rs) ∙ hup_and_cont_all_later d gs (hup_and_cont g rs)

pub hup_and_cont_orphans_later : (d : ℕ) (before : List Process) (s : State) → hup_and_cont_orphans (all_later d before) (state_later d s) ≡ state_later d (hup_and_cont_orphans before s)
hup_and_cont_orphans_later d before s =
    ap (λ (rs : List Process). record (state_later d s) { processes = rs })
    (ap (λ (gs : List ℕ). hup_and_cont_all gs (all_later d s.processes)) (newly_orphaned_later d before s.processes)
    ∙ hup_and_cont_all_later d (newly_orphaned before s.processes) s.processes)

-- ---- the terminal of a session

pub hung_up_later : (d : ℕ) (s : State) (session : ℕ) (c : Option Console) → hung_up (state_later d s) session c ≡ state_later d (hung_up s session c)
hung_up_later d s session None = refl
hung_up_later d s session (Some c) =
    ap (λ (rs : List Process). record (state_later d s) { processes = rs; consoles = changed_console session released s.consoles }) (signalled_group_later d HUP c.foreground s.processes)

pub hang_up_later : (d : ℕ) (s : State) (r : Process) → hang_up (state_later d s) (later d r) ≡ state_later d (hang_up s r)
unfolding hang_up
hang_up_later d s r = go (not (r.pid == 1) && r.session == r.pid) where
  go : (b : Bool) → cond b (hung_up (state_later d s) r.session (console_of r.session s.consoles)) (state_later d s) ≡ state_later d (cond b (hung_up s r.session (console_of r.session s.consoles)) s)
  go true = hung_up_later d s r.session (console_of r.session s.consoles)
  go false = refl

-- ---- the termination of a process

died_later : (d : ℕ) (s : State) (r : Process) (heir status : ℕ)
    → notice_of_end (hup_and_cont_orphans (all_later d s.processes) (tell_of_all (leave_children_and_die (state_later d s) r.pid heir status) heir (zombies_of r.pid (all_later d s.processes)))) r.parent r.pid status
    ≡ state_later d (notice_of_end (hup_and_cont_orphans s.processes (tell_of_all (leave_children_and_die s r.pid heir status) heir (zombies_of r.pid s.processes))) r.parent r.pid status)
died_later d s r heir status =
    let left = leave_children_and_die s r.pid heir status in
    let told = tell_of_all left heir (zombies_of r.pid s.processes) in
    ap (λ (t : State). notice_of_end (hup_and_cont_orphans (all_later d s.processes) (tell_of_all t heir (zombies_of r.pid (all_later d s.processes)))) r.parent r.pid status) (leave_children_and_die_later d s r.pid heir status)
    ∙ ap (λ (rs : List Process). notice_of_end (hup_and_cont_orphans (all_later d s.processes) (tell_of_all (state_later d left) heir rs)) r.parent r.pid status) (zombies_of_later d r.pid s.processes)
    ∙ ap (λ (t : State). notice_of_end (hup_and_cont_orphans (all_later d s.processes) t) r.parent r.pid status) (tell_of_all_later d left heir (zombies_of r.pid s.processes))
    ∙ ap (λ (t : State). notice_of_end t r.parent r.pid status) (hup_and_cont_orphans_later d s.processes told)
    ∙ notice_of_end_later d (hup_and_cont_orphans s.processes told) r.parent r.pid status

pub end_with_heir_later : (d : ℕ) (s : State) (r : Process) (heir status : ℕ) → end_with_heir (state_later d s) (later d r) heir status ≡ outcome_later d (end_with_heir s r heir status)
end_with_heir_later d s r heir status = go (r.pid == 1) where
  go : (b : Bool)
      → cond b (record { state = halt (state_later d s) status; entries = Ended r.pid status ∷ Halted ∷ [] }) (record { state = notice_of_end (hup_and_cont_orphans (all_later d s.processes) (tell_of_all (leave_children_and_die (state_later d s) r.pid heir status) heir (zombies_of r.pid (all_later d s.processes)))) r.parent r.pid status; entries = Ended r.pid status ∷ [] })
      ≡ outcome_later d (cond b (record { state = halt s status; entries = Ended r.pid status ∷ Halted ∷ [] }) (record { state = notice_of_end (hup_and_cont_orphans s.processes (tell_of_all (leave_children_and_die s r.pid heir status) heir (zombies_of r.pid s.processes))) r.parent r.pid status; entries = Ended r.pid status ∷ [] }))
  go true = ap (λ (t : State). record { state = t; entries = Ended r.pid status ∷ Halted ∷ [] }) (halt_later d s status)
  go false = ap (λ (t : State). record { state = t; entries = Ended r.pid status ∷ [] }) (died_later d s r heir status)

pub end_process_later : (d : ℕ) (s : State) (r : Process) (status : ℕ) → end_process (state_later d s) (later d r) status ≡ outcome_later d (end_process s r status)
unfolding end_process
end_process_later d s r status =
    let hung = hang_up s r in
    ap (λ (t : State). end_with_heir t (later d r) (heir_in t.processes r.pid) status) (hang_up_later d s r)
    ∙ ap (λ (heir : ℕ). end_with_heir (state_later d hung) (later d r) heir status) (heir_in_later d hung.processes r.pid)
    ∙ end_with_heir_later d hung r (heir_in hung.processes r.pid) status
