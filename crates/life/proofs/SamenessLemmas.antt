-- When the processes of a machine are those of another, some ticks later.
use Rattle.std.proofs.Common.{◌≡◌, ◌+◌, ◌<◌, ℕ, arith, ap, sym, ◌∙◌, List, ◌∷◌, length, Option, Some, option_map}
use Rattle.posix.specs.Common.{Process, IsRising, first_pid, left_of, lookup, next_above, parent_of, State, IsRegular}
use Rattle.posix.proofs.WalkLemmas.{Here, here, above_all, all_left, all_looked, next_begins}
use Rattle.posix.specs.Alarms.{with_alarm}
use Rattle.times.specs.Times.{later, all_later}
use Rattle.proctable.specs.declared.records.Record.{Record}
use Rattle.proctable.specs.Records.{process_of}

-- a process is moved in time if its parent is the same and its record is moved
pub same_process : (delay p q r : ℕ) (rs qs : List Process) (b d : Record) → lookup p rs ≡ Some (process_of p (parent_of p rs) b) → lookup p qs ≡ Some (process_of p (parent_of p qs) d)
    → ((it : Process) → lookup p rs ≡ Some it → q ≡ it.parent) → ((it : Process) → lookup p qs ≡ Some it → r ≡ it.parent) → q ≡ r
    → ((p q : ℕ) → process_of p q d ≡ with_alarm (option_map (λ due. due + delay) b.alarm) (process_of p q b)) → lookup p qs ≡ option_map (later delay) (lookup p rs)
unfolding with_alarm
same_process delay p q r rs qs b d found others_found parent others_parent equal same =
    let parents : parent_of p rs ≡ parent_of p qs = sym (parent _ found) ∙ equal ∙ others_parent _ others_found in
    others_found ∙ ap Some (same p (parent_of p qs)) ∙ ap (λ n. Some (later delay (process_of p n b))) (sym parents) ∙ ap (option_map (later delay)) (sym found)

-- a walk begins with all processes
pub all_are_left : (s : State) (next : Option ℕ) → IsRegular s → next ≡ next_above 0 s.processes → left_of next s.processes ≡ s.processes
unfolding next_above
all_are_left s next regular e =
    let rs = s.processes in
    all_left rs next regular.rising (above_all 0 rs (all_looked (λ r. 0 < r.pid) rs regular.rising (λ p r found. (regular.bounded p r found).least))) e

-- what is left begins with the one that comes next
pub left_begins : (n : ℕ) (rs : List Process) (next : Option ℕ) → next ≡ next_above n rs → first_pid (left_of next rs) ≡ next
unfolding next_above
left_begins n rs next e = next_begins n rs next e

-- so what is left after that one is known
pub at_next : (p : ℕ) (rs : List Process) (next : Option ℕ) → IsRising rs → next ≡ Some p → first_pid (left_of next rs) ≡ next → Here rs p
at_next p rs next up is begins = here rs up p (rw is at begins)

-- one less
pub less_behind : (p : ℕ) (rs : List Process) (next after : Option ℕ) → Here rs p → next ≡ Some p → after ≡ next_above p rs → length (left_of next rs) ≡ 1 + length (left_of after rs)
unfolding next_above
less_behind p rs next after h is e = let long = ap length h.left in rw (is, e) (omega (arith, long))

-- a list is moved in time from p on if p, and all after it, is moved
pub same_behind : (delay p : ℕ) (rs qs : List Process) (next after others others_after : Option ℕ) → Here rs p → Here qs p → next ≡ Some p → others ≡ Some p
    → after ≡ next_above p rs → others_after ≡ next_above p qs → lookup p qs ≡ option_map (later delay) (lookup p rs) → left_of others_after qs ≡ all_later delay (left_of after rs)
    → left_of others qs ≡ all_later delay (left_of next rs)
unfolding next_above
same_behind delay p rs qs next after others others_after h k is is_others e f same rest =
    let first : Some k.what ≡ Some (later delay h.what) = sym k.found ∙ same ∙ ap (option_map (later delay)) h.found in
    let equal : k.what ≡ later delay h.what = cc in
    let behind = ap (λ o. left_of o qs) (sym f) ∙ rest ∙ ap (λ o. all_later delay (left_of o rs)) e in
    ap (λ o. left_of o qs) is_others ∙ k.left ∙ (λ i. equal i ∷ behind i) ∙ ap (all_later delay) (sym h.left) ∙ ap (λ o. all_later delay (left_of o rs)) (sym is)
