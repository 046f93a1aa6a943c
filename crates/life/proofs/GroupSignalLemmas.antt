-- Each member of a process group gets a signal, one after another.
use Rattle.std.proofs.Common.{◌≡◌, ℕ, ◌+◌, ◌*◌, ◌≤◌, refl, ap, sym, ◌∙◌, arith, subst, List, [], ◌∷◌, map, filter, length, nat_lt, Option, Some, None}
use Rattle.std.proofs.Math.Nat.{le_refl, le_trans}
use Rattle.std.specs.Option.{IfSome, IsSome}
use Rattle.posix.specs.declared.process.PendingSignal.{PendingSignal}
use Rattle.posix.specs.Common.{Process, pids, is_member, members_in, first_pid, above, left_of, State, process, IsRegular, generated_for, signalled_all, signalled_members}
use Rattle.posix.proofs.HupAndContLemmas.{Lasts, lasting, lasts_generated, lasts_then}
use Rattle.posix.proofs.MapLemmas.{filter_map}
use Rattle.posix.proofs.TableLemmas.{pid_looked, rising_filter}
use Rattle.posix.proofs.WalkLemmas.{all_left, next_begins, one_here, passing_above, passing_is_next}
use Rattle.life.specs.Machines.{Changes, MachineView, with_processes}
use Rattle.life.specs.Rechecks.{rechecking_all, rechecking_generated, slots_of_signal}

-- the first of them has the same number
first_lasting : (rs : List Process) → first_pid (map lasting rs) ≡ first_pid rs
first_lasting [] = refl
first_lasting (r ∷ rs) = refl

-- and so has the member that comes next, after what leaves all that lasts
next_lasting : (group n : ℕ) (rs : List Process) → first_pid (above n (members_in group (map lasting rs))) ≡ first_pid (above n (members_in group rs))
unfolding members_in
next_lasting group n rs =
    ap (λ ms. first_pid (above n ms)) (filter_map (is_member group) lasting (λ r. refl) rs)
    ∙ ap first_pid (filter_map (λ r. nat_lt n r.pid) lasting (λ r. refl) (filter (is_member group) rs))
    ∙ first_lasting (above n (filter (is_member group) rs))

-- Of the first members, those from the next one on are yet to get the signal. What then becomes of the machine is what
-- becomes of it if all get the signal.
pub record IsReaching (m : PendingSignal) (group : ℕ) (first now : MachineView) (next : Option ℕ) : Type 0 where
  pub lasts : Lasts first.state.processes now.state.processes
  pub there : IfSome next (λ p. IsSome (process now.state p))
  pub begins : first_pid (left_of next (members_in group first.state.processes)) ≡ next
  pub state : with_processes now.state (signalled_all m (pids (left_of next (members_in group first.state.processes))) now.state.processes) ≡ with_processes first.state (signalled_members m group first.state.processes)
  pub to_recheck : rechecking_all m (pids (left_of next (members_in group first.state.processes))) now.state.processes now.state.order now.to_recheck ≡ rechecking_all m (pids (members_in group first.state.processes)) first.state.processes first.state.order first.to_recheck
  pub foregrounds_unchecked : now.foregrounds_unchecked ≡ first.foregrounds_unchecked
  pub groups_at_risk : now.groups_at_risk ≡ first.groups_at_risk
  pub visits : now.visits + slots_of_signal m.sig * length (left_of next (members_in group first.state.processes)) ≤ first.visits + slots_of_signal m.sig * length (members_in group first.state.processes)
  pub no_fewer : first.visits ≤ now.visits

-- it begins with all of them
pub reaching_begins : (m : PendingSignal) (group : ℕ) (first : MachineView) (next : Option ℕ) → IsRegular first.state → next ≡ first_pid (above 0 (members_in group first.state.processes)) → IsReaching m group first first next
unfolding members_in signalled_members
reaching_begins m group first next regular e =
    let rs = first.state.processes in
    let t = is_member group in
    let all = all_left (filter t rs) next (rising_filter t rs regular.rising) (passing_above t rs regular.rising (λ p r is. (regular.bounded p r is).least)) e in
    record {
      lasts = record { rising = regular.rising; same = refl };
      there = rw e (passing_is_next t 0 rs regular.rising).there;
      begins = next_begins 0 (filter t rs) next e;
      state = ap (λ ms. with_processes first.state (signalled_all m (pids ms) rs)) all;
      to_recheck = ap (λ ms. rechecking_all m (pids ms) rs first.state.order first.to_recheck) all;
      foregrounds_unchecked = refl;
      groups_at_risk = refl;
      visits = rw all (omega arith);
      no_fewer = le_refl _;
    }

-- it goes on after the one that came next
pub reaching_goes_on : {m : PendingSignal} {group p : ℕ} {first now new : MachineView} {next after : Option ℕ} → IsReaching m group first now next → IsRegular first.state → next ≡ Some p
    → Changes (slots_of_signal m.sig) now new (with_processes now.state (generated_for m (process now.state p) now.state.processes)) (rechecking_generated m (process now.state p) now.state.processes now.state.order now.to_recheck)
    → after ≡ first_pid (above p (members_in group new.state.processes)) → IsReaching m group first new after
unfolding members_in signalled_all rechecking_all
reaching_goes_on {m = m} {group = group} {p = p} {first = first} {now = now} {new = new} {next = next} {after = after} k regular comes did e =
    let rs = first.state.processes in
    let t = is_member group in
    let processes = ap (λ (s : State). s.processes) did.state in
    let lasts = lasts_then rs now.state.processes new.state.processes k.lasts (subst (Lasts now.state.processes) (sym processes) (lasts_generated m p now.state.processes k.lasts.rising)) in
    let behind : after ≡ first_pid (above p (filter t rs)) = e ∙ sym (next_lasting group p new.state.processes) ∙ ap (λ ls. first_pid (above p (members_in group ls))) lasts.same ∙ next_lasting group p rs in
    let at = one_here t p rs next regular.rising comes k.begins in
    let left : left_of next (filter t rs) ≡ at.what ∷ left_of after (filter t rs) = ap (λ o. left_of o (filter t rs)) comes ∙ at.left ∙ ap (λ o. at.what ∷ left_of o (filter t rs)) (sym behind) in
    let rest = pids (left_of after (filter t rs)) in
    let numbers : pids (left_of next (filter t rs)) ≡ p ∷ rest = ap pids left ∙ ap (λ q. q ∷ rest) (pid_looked p rs at.what at.found) in
    record {
      lasts = lasts;
      there = rw e (passing_is_next t p new.state.processes lasts.rising).there;
      begins = next_begins p (filter t rs) after behind;
      state = ap (λ (s : State). with_processes s (signalled_all m rest s.processes)) did.state ∙ ap (λ ps. with_processes now.state (signalled_all m ps now.state.processes)) (sym numbers) ∙ k.state;
      to_recheck =
          ap (λ (s : State). rechecking_all m rest s.processes s.order new.to_recheck) did.state
          ∙ ap (rechecking_all m rest (generated_for m (process now.state p) now.state.processes) now.state.order) did.to_recheck
          ∙ ap (λ ps. rechecking_all m ps now.state.processes now.state.order now.to_recheck) (sym numbers)
          ∙ k.to_recheck;
      foregrounds_unchecked = did.foregrounds_unchecked ∙ k.foregrounds_unchecked;
      groups_at_risk = did.costs.groups_at_risk ∙ k.groups_at_risk;
      visits = omega (arith, ap (λ ms. slots_of_signal m.sig * length ms) left, did.costs.visits, k.visits);
      no_fewer = le_trans k.no_fewer did.costs.no_fewer;
    }

-- at the end all got it
pub reaching_ends : {m : PendingSignal} {group : ℕ} {first now : MachineView} {next : Option ℕ} → IsReaching m group first now next → IsRegular first.state → next ≡ None
    → Changes (slots_of_signal m.sig * length (members_in group first.state.processes)) first now (with_processes first.state (signalled_members m group first.state.processes)) (rechecking_all m (pids (members_in group first.state.processes)) first.state.processes first.state.order first.to_recheck)
unfolding signalled_all rechecking_all
reaching_ends {m = m} {group = group} {first = first} {now = now} {next = next} k regular comes =
    let ms = members_in group first.state.processes in
    record {
      state = ap (λ o. with_processes now.state (signalled_all m (pids (left_of o ms)) now.state.processes)) (sym comes) ∙ k.state;
      to_recheck = ap (λ o. rechecking_all m (pids (left_of o ms)) now.state.processes now.state.order now.to_recheck) (sym comes) ∙ k.to_recheck;
      foregrounds_unchecked = k.foregrounds_unchecked;
      costs = record { visits = omega (arith, k.visits); no_fewer = k.no_fewer; groups_at_risk = k.groups_at_risk; regular = regular };
    }
