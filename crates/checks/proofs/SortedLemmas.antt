-- Processes in a vector, in rising order of their numbers.
use Rattle.std.proofs.Common.{◌≡◌, ℕ, zero, suc, ◌<◌, true, false, cond, not, refl, ap, sym, ◌∙◌, arith, subst, List, [], ◌∷◌, length, filter, insert, remove, slice_get, slice_index_or, slice_set, Some, None, option_map, ◌==◌, nat_lt}
use Rattle.std.proofs.lemmas.Bool.{eqb-true, eq-eqb}
use Rattle.std.proofs.lemmas.Option.{slice_get-map}
use Rattle.posix.specs.Common.{Process, IsRising, lookup, changed, inserted, removed, next_above, above, pids, first_pid}
use Rattle.posix.proofs.TableLemmas.{Above, changed_above, pid_looked, remove_none}
use Rattle.pidset.specs.Numbers.{Rises, IsNumberAt, IsInsertionPoint, inserted_in_order}
use Rattle.pidset.proofs.NumberLemmas.{AllAbove, above_get}
use Rattle.pidset.proofs.ItemLemmas.{find_at, find_none, find_point, insert_point, others_all, others_at, read_at, rises_inserted, rises_passing, numbers_set}

-- ---- what is read

above_pids : (n : ℕ) (rs : List Process) → AllAbove n (pids rs) → Above n rs
above_pids n [] h = tt
above_pids n (r ∷ rs) h = (h.0, above_pids n rs h.1)

pub rising_in : (rs : List Process) → Rises (pids rs) → IsRising rs
unfolding IsRising Rises
rising_in [] up = tt
rising_in (r ∷ rs) up = (above_pids r.pid rs up.0, rising_in rs up.1)

-- the process that is read at the place of its number
pub read_in : (p i : ℕ) (r : Process) (rs : List Process) → Rises (pids rs) → IsNumberAt (pids rs) p i → r ≡ slice_index_or rs i r → lookup p rs ≡ Some r
unfolding lookup
read_in p i r rs up at e = find_at (λ (r : Process). r.pid) rs up p i at ∙ read_at (λ (r : Process). r.pid) rs p i r at e

-- a number that is at some place is the number of a process
pub present_in : (p i : ℕ) (rs : List Process) → Rises (pids rs) → IsNumberAt (pids rs) p i → lookup p rs ≡ None → ⊥
unfolding lookup
present_in p i rs up at none =
    let nobody = sym (find_at (λ (r : Process). r.pid) rs up p i at) ∙ none in
    let no : None ≡ Some p = sym (slice_get-map (λ (r : Process). r.pid) rs i ∙ ap (option_map (λ (r : Process). r.pid)) nobody) ∙ at in
    cc

-- no process has a number that has a place to be inserted at
pub absent_in : (p i : ℕ) (rs : List Process) → Rises (pids rs) → IsInsertionPoint (pids rs) p i → lookup p rs ≡ None
unfolding lookup
absent_in p i rs up point = find_point (λ (r : Process). r.pid) rs up p i point

first_read : (rs : List Process) → first_pid rs ≡ option_map (λ (r : Process). r.pid) (slice_get rs 0)
first_read [] = refl
first_read (r ∷ rs) = refl

pub next_in : (p : ℕ) (rs : List Process) → next_above p rs ≡ option_map (λ (r : Process). r.pid) (slice_get (filter (λ (r : Process). nat_lt p r.pid) rs) 0)
unfolding next_above
next_in p rs = first_read (above p rs)

-- ---- what is changed

pub inserted_in : (new : Process) (i : ℕ) (rs : List Process) → IsInsertionPoint (pids rs) new.pid i → inserted new rs ≡ insert rs i new
unfolding inserted inserted_in_order
inserted_in new i rs point = same rs ∙ insert_point (λ (r : Process). r.pid) rs i new point
  where
    same : (rs : List Process) → inserted new rs ≡ inserted_in_order (λ (r : Process). r.pid) new rs
    same [] = refl
    same (r ∷ rs) = ap (λ l. cond (nat_lt new.pid r.pid) (new ∷ r ∷ rs) (r ∷ l)) (same rs)

pub rises_put : (new : Process) (i : ℕ) (rs : List Process) → Rises (pids rs) → IsInsertionPoint (pids rs) new.pid i → Rises (pids (insert rs i new))
rises_put new i rs up point =
    let absent = find_point (λ (r : Process). r.pid) rs up new.pid i point in
    subst (λ l. Rises (pids l)) (insert_point (λ (r : Process). r.pid) rs i new point) (rises_inserted (λ (r : Process). r.pid) rs new up absent)

pub removed_in : (p i : ℕ) (rs : List Process) → Rises (pids rs) → IsNumberAt (pids rs) p i → removed p rs ≡ remove rs i
unfolding removed
removed_in p i rs up at = others_at (λ (r : Process). r.pid) rs up p i at

pub rises_taken : (p i : ℕ) (rs : List Process) → Rises (pids rs) → IsNumberAt (pids rs) p i → Rises (pids (remove rs i))
rises_taken p i rs up at = subst (λ l. Rises (pids l)) (others_at (λ (r : Process). r.pid) rs up p i at) (rises_passing (λ (r : Process). r.pid) (λ n. not (n == p)) rs up)

-- changing a process changes the list at the place of its number
pub changed_in : (p i : ℕ) (f : Process → Process) (r : Process) (rs : List Process) → Rises (pids rs) → IsNumberAt (pids rs) p i → r ≡ slice_index_or rs i r → changed p f rs ≡ slice_set rs i (f r)
unfolding changed Rises
changed_in p i f r [] up at e = absurd (cc)
changed_in p zero f r (x ∷ xs) up at e =
    let here : x.pid ≡ p = cc in
    grind (arith, e, here, eq-eqb x.pid p here, changed_above p f xs (subst (λ n. Above n xs) here (above_pids x.pid xs up.0)))
changed_in p (suc i) f r (x ∷ xs) up at e = grind (arith, above_get x.pid (pids xs) up.0 i p at, changed_in p i f r xs up.1 at e, eqb-true x.pid p)

-- the numbers keep rising if a changed process keeps its number
pub rises_set : (p i : ℕ) (f : Process → Process) (r : Process) (rs : List Process) → ((r : Process) → (f r).pid ≡ r.pid) → Rises (pids rs) → IsNumberAt (pids rs) p i → r ≡ slice_index_or rs i r → Rises (pids (slice_set rs i (f r)))
rises_set p i f r rs keeps up at e =
    let here : p ≡ (f r).pid = sym (keeps r ∙ pid_looked p rs r (read_in p i r rs up at e)) in
    subst Rises (sym (numbers_set (λ (r : Process). r.pid) rs i (f r) (at ∙ ap Some here))) up

-- ---- the rules that the methods of the table use

pub ruleset get_rules = (rising_in, absent_in, read_in)

pub ruleset next_rules = (rising_in, next_in)

pub ruleset insert_rules = (rising_in, inserted_in, rises_put)

pub ruleset remove_rules = (rising_in, absent_in, remove_none, removed_in, rises_taken)

pub ruleset slot_rules = (rising_in, absent_in)
