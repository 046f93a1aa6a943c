-- Lookups by ID, and IDs that were compared.
use Rattle.std.proofs.Common.{◌≡◌, ◌≢◌, ◌==◌, ℕ, true, false, not, ap, sym, ◌∙◌, List, Some}
use Rattle.std.specs.Option.{IsSome}
use Rattle.std.proofs.lemmas.Bool.{eqb-true, eq-eqb, not-false}
use Rattle.posix.specs.Common.{Process, lookup}
use Rattle.posix.proofs.ResultLemmas.{there}
use Rattle.posix.proofs.TableLemmas.{pid_looked}

-- a process that was found, with its ID
pub record Named (p : ℕ) (rs : List Process) : Type 0 where
  pub what : Process
  pub found : lookup p rs ≡ Some (record what { pid = p })

pub named_there : (p : ℕ) (rs : List Process) → IsSome (lookup p rs) → Named p rs
named_there p rs h = let r = there (lookup p rs) h in record { what = r.what; found = r.found ∙ ap (λ n. Some (record (r.what) { pid = n })) (pid_looked p rs r.what r.found) }

-- ---- IDs that were compared

pub differs : (a b : ℕ) → not (a == b) ≡ true → a ≢ b
differs a b e = λ x. let t : (a == b) ≡ true = eq-eqb a b x in let no : false ≡ true = ap not (sym t) ∙ e in absurd (cc)

pub equals : (a b : ℕ) → not (a == b) ≡ false → a ≡ b
equals a b e = eqb-true a b (not-false _ e)
