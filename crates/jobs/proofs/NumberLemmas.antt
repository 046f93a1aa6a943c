-- No process has ID 0.
use Rattle.std.proofs.Common.{◌≡◌, ℕ, ◌≤◌, refl, ap, ◌∙◌, arith, List, [], Some, None, option_map}
use Rattle.posix.specs.Common.{Process, lookup, at, changed}
use Rattle.posix.proofs.TableLemmas.{pid_looked}
use Rattle.posix.proofs.MapLemmas.{at_pid, lookup_map}

-- no process exists at the start
pub nobody_there : (p : ℕ) → lookup p [] ≡ None
unfolding lookup
nobody_there p = refl

-- an absent process is still absent after a change that keeps the IDs
pub absent_changed : (p : ℕ) (f : Process → Process) → ((r : Process) → (f r).pid ≡ r.pid) → (q : ℕ) (rs : List Process) → lookup q rs ≡ None → lookup q (changed p f rs) ≡ None
unfolding changed
absent_changed p f k q rs e = lookup_map (at p f) (at_pid p f k) q rs ∙ ap (option_map (at p f)) e

-- each ID is at least 1
pub least_number : (rs : List Process) → lookup 0 rs ≡ None → (p : ℕ) (r : Process) → lookup p rs ≡ Some r → 1 ≤ r.pid
least_number rs none p r found = grind (arith, pid_looked p rs r found)
