-- The termination of a process: the notices for its children's new parent and its departure may come in either order.
use Rattle.std.proofs.Common.{◌≡◌, ◌≢◌, ℕ, true, false, cond, arith, refl, ap, ◌∙◌, List, [], ◌∷◌, map, Some, ◌==◌}
use Rattle.std.specs.Option.{IsSome}
use Rattle.std.proofs.lemmas.Bool.{eq-eqb, ne_eqb, eqb-true, eqb-false, cond_both}
use Rattle.posix.specs.declared.process.PendingSignal.{PendingSignal}
use Rattle.posix.specs.Common.{Process, is_zombie, lookup, at, changed, removed, reparented, adopted, State, process, change, lose_place, IsRegular, signalled, made_zombie, ended, leave_children_and_die, is_dropping, drop_child, notice_of_end, status_of, zombies_of, tell_of_all, hup_and_cont_orphans, end_with_heir, child_signal, noticed}
use Rattle.posix.proofs.TableLemmas.{pid_looked, pid_reparented, lookup_changed}
use Rattle.posix.proofs.MapLemmas.{at_pid, lookup_on, some_map, removed_map, changed_changed, adopted_changed}
use Rattle.posix.proofs.RegularLemmas.{keeps_noticed, regular_leave}
use Rattle.life.proofs.NewsLemmas.{KeepsNumbers}

-- a zombie has the numbers that it had
pub keeps_made_zombie : (w : ℕ) → KeepsNumbers (made_zombie w)
unfolding made_zombie
keeps_made_zombie w = record { pid = λ r. refl; parent = λ r. refl; group = λ r. refl; session = λ r. refl }

-- a notice and an adoption of one record may come in either order
noticed_reparented : (signal : PendingSignal) (p q : ℕ) (r : Process) → noticed signal (reparented p q r) ≡ reparented p q (noticed signal r)
unfolding noticed signalled
noticed_reparented signal p q r = grind arith

-- ---- a departure

-- the new parent drops its children as before if another process departs
dropping_departed : (p heir w : ℕ) → heir ≢ p → (rs : List Process) → is_dropping heir (adopted p heir (changed p (made_zombie w) rs)) ≡ is_dropping heir rs
unfolding lookup adopted changed made_zombie
dropping_departed p heir w ne [] = refl
dropping_departed p heir w ne (r ∷ rs) = grind (arith, ne, dropping_departed p heir w ne rs, eqb-true, eqb-false)

-- a removal and a departure may come in either order
removed_departed : (c p heir w : ℕ) (rs : List Process) → removed c (adopted p heir (changed p (made_zombie w) rs)) ≡ adopted p heir (changed p (made_zombie w) (removed c rs))
unfolding adopted changed
removed_departed c p heir w rs =
    removed_map c (reparented p heir) (pid_reparented p heir) _ ∙ ap (map (reparented p heir)) (removed_map c (at p (made_zombie w)) (at_pid p (made_zombie w) (keeps_made_zombie w).pid) rs)

-- a notice of a termination to the new parent, and the departure of another process, may come in either order
notice_after : (s : State) (p heir w c v : ℕ) → heir ≢ p → notice_of_end (leave_children_and_die s p heir w) heir c v ≡ leave_children_and_die (notice_of_end s heir c v) p heir w
unfolding notice_of_end
notice_after s p heir w c v ne =
    let signal = child_signal c v in
    let told = adopted_changed p heir heir (noticed signal) (noticed_reparented signal p heir) (changed p (made_zombie w) s.processes)
    ∙ ap (adopted p heir) (changed_changed heir p (noticed signal) (made_zombie w) (keeps_noticed {now = 0} signal).pid (keeps_made_zombie w).pid ne s.processes) in
    rw (dropping_departed p heir w ne s.processes, told)
    (elim (is_dropping heir s.processes) as (λ b. cond {A = State} b (drop_child (leave_children_and_die (change s heir (noticed signal)) p heir w) c) (leave_children_and_die (change s heir (noticed signal)) p heir w)
    ≡ leave_children_and_die (cond {A = State} b (drop_child (change s heir (noticed signal)) c) (change s heir (noticed signal))) p heir w) [
      | true ↦ rw (removed_departed c p heir w (changed heir (noticed signal) s.processes)) refl
      | false ↦ refl
    ])

-- so may several
pub tell_after : (s : State) (p heir w : ℕ) → heir ≢ p → (zs : List Process) → tell_of_all (leave_children_and_die s p heir w) heir zs ≡ leave_children_and_die (tell_of_all s heir zs) p heir w
unfolding tell_of_all
tell_after s p heir w ne [] = refl
tell_after s p heir w ne (z ∷ zs) =
    ap (λ (t : State). tell_of_all t heir zs) (notice_after s p heir w z.pid (status_of z.life) ne) ∙ tell_after (notice_of_end s heir z.pid (status_of z.life)) p heir w ne zs

-- the termination of a process other than process 1
pub end_is : (s : State) (me : Process) (p heir w : ℕ) → process s p ≡ Some me → p ≢ 1
    → (end_with_heir s me heir w).state ≡ notice_of_end (hup_and_cont_orphans s.processes (tell_of_all (leave_children_and_die s p heir w) heir (zombies_of p s.processes))) me.parent p w
end_is s me p heir w e other = grind (arith, e, other, ne_eqb, pid_looked)

-- a process that existed exists after a departure
pub there_after : (s : State) (p heir w q : ℕ) → IsSome (process s q) → IsSome (process (leave_children_and_die s p heir w) q)
unfolding adopted changed made_zombie
there_after s p heir w q h = some_map (reparented p heir) (pid_reparented p heir) q (map (at p (made_zombie w)) s.processes) (some_map (at p (made_zombie w)) (at_pid p (made_zombie w) (λ r. refl)) q s.processes h)

-- a process that departs is a zombie
pub zombie_after : (s : State) (p heir w : ℕ) (me : Process) → process s p ≡ Some me → (x : Process) × (process (leave_children_and_die s p heir w) p ≡ Some x) × (is_zombie x.life ≡ true)
unfolding adopted made_zombie
zombie_after s p heir w me e =
    let here : lookup p (changed p (made_zombie w) s.processes) ≡ Some (made_zombie w me) = lookup_changed p p (made_zombie w) (keeps_made_zombie w).pid s.processes ∙ rw (eq-eqb p p refl, e) refl in
    (reparented p heir (made_zombie w me), lookup_on (reparented p heir) (pid_reparented p heir) p _ (made_zombie w me) here, cond_both (me.parent == p) (record (made_zombie w me) { parent = heir }) (made_zombie w me) (λ q. is_zombie q.life ≡ true) (λ e. refl) (λ e. refl))

-- process 1 may terminate once it has left the run queue
pub regular_ended : (w : ℕ) (s : State) → IsRegular s → IsRegular (change (lose_place s 1) 1 (ended w))
unfolding ended
regular_ended w s i = regular_leave 1 (ended w) (λ r. refl) (λ r. refl) (λ r. refl) (λ r. refl) s (λ r h. h) i (λ ne. absurd (ne refl))
