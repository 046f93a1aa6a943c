-- The process that setpgid moves.
use Rattle.std.proofs.Common.{◌≡◌, ℕ, ap, ◌∙◌, List, Some, None, Ok, ℤ, pos, negsuc}
use Rattle.posix.specs.Common.{Process, lookup, State, change, IsRegular, named, move_to, in_group}
use Rattle.posix.proofs.TableLemmas.{pid_looked}
use Rattle.posix.proofs.AttemptLemmas.{named_there}
use Rattle.posix.proofs.GroupLemmas.{regular_move}

-- who is named is found by its number
pub named_found : (p : ℕ) (rs : List Process) (me : Process) (z : ℤ) (r : Process) → lookup p rs ≡ Some me → named me z rs ≡ Some r → lookup r.pid rs ≡ Some r
named_found p rs me z r found e =
    let t = named_there me z rs r (ap (λ n. lookup n rs) (pid_looked p rs me found) ∙ found) e in
    ap (λ n. lookup n rs) (pid_looked t.0 rs r t.1) ∙ t.1

-- no process moves if none is named
pub moves_nobody : (me : Process) (z : ℤ) (rs : List Process) (g : ℕ) → move_to me None z rs ≡ Ok g → ⊥
moves_nobody me (pos n) rs g e = absurd (cc)
moves_nobody me (negsuc n) rs g e = absurd (cc)

-- a state stays regular where the one that is named moves
pub regular_move_to : (s : State) → IsRegular s → (me r : Process) (z : ℤ) (g : ℕ) → lookup r.pid s.processes ≡ Some r → move_to me (Some r) z s.processes ≡ Ok g → IsRegular (change s r.pid (in_group g))
regular_move_to s i me r (pos n) g found e = regular_move s i me r r.pid n g found e
regular_move_to s i me r (negsuc n) g found e = absurd (cc)
