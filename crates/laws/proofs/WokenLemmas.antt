-- Who is given a place as an event is settled.
use Rattle.std.proofs.Common.{◌≡◌, ℕ, true, false, not, refl, ap, sym, ◌∙◌, subst, List, ◌++◌, filter, Some}
use Rattle.std.proofs.lemmas.Bool.{and_parts, not-true}
use Rattle.posix.specs.declared.event.Event.{Event}
use Rattle.posix.specs.declared.entry.Entry.{Entry}
use Rattle.posix.specs.Common.{Outcome, silent, IsStep, settled, happens, Process, IsRising, lookup, pids, State, is_in, IsDistinct, wakes, can_act, clear_foregrounds, give_places, settle}
use Rattle.posix.proofs.CountLemmas.{by_next}
use Rattle.posix.proofs.TableLemmas.{pid_looked, rising_filter}
use Rattle.posix.proofs.OrderLemmas.{distinct_pids}
use Rattle.posix.proofs.WalkLemmas.{in_filter, pid_found}

-- After a halt, an event leaves the state; otherwise it leads to the settled state.
pub by_event : (M : Outcome → Type 0) (old new : State) (event : Event) (entries : List Entry) (h : IsStep old event entries new)
    → (old.halted ≡ true → M (silent old)) → (old.halted ≡ false → M (settled (happens h.granted old event))) → M (record { state = new; entries = entries })
by_event M old new event entries h halted awake = subst M h.comes (by_next M h.granted old event halted awake)

-- the numbers of those who are given a place
abbrev pub given_places : State → List ℕ
given_places s = pids (filter (wakes (clear_foregrounds s)) s.processes)

-- the processes that enter the run queue come after the others
pub order_settled : (s : State) → (settle s).order ≡ s.order ++ given_places s
unfolding settle give_places clear_foregrounds
order_settled s = refl

-- they are distinct
pub distinct_given : (s : State) → IsRising s.processes → IsDistinct (given_places s)
distinct_given s up = distinct_pids (filter (wakes (clear_foregrounds s)) s.processes) (rising_filter (wakes (clear_foregrounds s)) s.processes up)

-- who wakes: a process that can act once foregrounds are cleared, and has no place
pub record Wakes (s : State) (q : ℕ) : Type 0 where
  pub what : Process
  pub found : lookup q s.processes ≡ Some what
  pub acts : can_act (clear_foregrounds s) what ≡ true
  pub out : is_in q s.order ≡ false

-- who is given a place wakes
pub all_wake : (s : State) → IsRising s.processes → (q : ℕ) → is_in q (given_places s) ≡ true → Wakes s q
unfolding clear_foregrounds
all_wake s up q e =
    let t = clear_foregrounds s in
    let r = pid_found q (filter (wakes t) s.processes) e in
    let f = in_filter (wakes t) s.processes up q r.0 r.1 in
    let awake = and_parts (not (is_in r.0.pid s.order)) _ f.passes in
    record {
      what = r.0;
      found = f.found;
      acts = awake.1;
      out = ap (λ n. is_in n s.order) (sym (pid_looked q s.processes r.0 f.found)) ∙ not-true _ awake.0;
    }
