-- The number of the next process.
use Rattle.std.proofs.Common.{◌≡◌, ◌≢◌, ℕ, ◌+◌, ◌-◌, ◌≤◌, Bool, true, false, refl, ap, ◌∙◌, sym, arith, List, [], ◌∷◌, Some, None}
use Rattle.std.specs.Option.{option_or}
use Rattle.std.proofs.lemmas.Bool.{eq-eqb}
use Rattle.posix.specs.Common.{Process, lookup, bears, State, next_pid, is_free, first_free, next_free}
use Rattle.posix.proofs.TableLemmas.{none_found}
use Rattle.posix.proofs.RangeLemmas.{find_range}

-- the next number is free, and 1 to pidmax
next_found : (f : ℕ → Bool) (last pidmax k : ℕ) → next_free f last pidmax ≡ Some k → (f k ≡ true) × (1 ≤ k) × (k ≤ pidmax)
unfolding next_free
next_found f last pidmax k e =
    elim (first_free f (last + 1) (pidmax - last)) as (λ o. first_free f (last + 1) (pidmax - last) ≡ o → option_or o (first_free f 2 (pidmax - 1)) ≡ Some k → (f k ≡ true) × (1 ≤ k) × (k ≤ pidmax)) [
      | Some q ↦ λ u h. let same : q ≡ k = cc in let i = find_range f (last + 1) (pidmax - last) q u in (ap f (sym same) ∙ i.0, omega (arith, i.1, same), omega (arith, i.1, i.2, same))
      | None ↦ λ u h. let i = find_range f 2 (pidmax - 1) k h in (i.0, omega (arith, i.1), omega (arith, i.1, i.2))
    ] refl e

-- no process has a free ID
free_none : (n : ℕ) (rs : List Process) → is_free rs n ≡ true → lookup n rs ≡ None
unfolding is_free lookup
free_none n [] e = refl
free_none n (r ∷ rs) e = grind (arith, free_none n rs)

-- nor is anybody in a group with it
free_group : (n : ℕ) (rs : List Process) → is_free rs n ≡ true → (p : ℕ) (r : Process) → lookup p rs ≡ Some r → r.group ≢ n
unfolding is_free
free_group n rs e p r found same =
    let no : bears n r ≡ false = none_found (bears n) rs (grind (arith, e)) p r found in
    absurd (grind (arith, no, eq-eqb r.group n same))

-- a free ID from 1 to pidmax: no process has it, as its own or as its group's
pub record IsNew (rs : List Process) (pidmax n : ℕ) : Type 0 where
  pub least : 1 ≤ n
  pub greatest : n ≤ pidmax
  pub free : is_free rs n ≡ true
  pub fresh : lookup n rs ≡ None
  pub groupless : (p : ℕ) (r : Process) → lookup p rs ≡ Some r → r.group ≢ n

-- the number of the next process is one
pub new_number : (s : State) (n : ℕ) → next_pid s ≡ Some n → IsNew s.processes s.world.pidmax n
new_number s n e =
    let f = next_found (is_free s.processes) s.last_pid s.world.pidmax n e in
    record { least = f.1; greatest = f.2; free = f.0; fresh = free_none n s.processes f.0; groupless = free_group n s.processes f.0 }
