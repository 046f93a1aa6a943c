-- What a line that passes all tests says.
use Rattle.std.proofs.Common.{◌≡◌, ◌≢◌, ℕ, Result, Ok, Err, Bool, true, false, if◌then◌else◌, Option, Some, None, IfSome, refl, ap, ◌∙◌}
use Rattle.posix.specs.Common.{Line, process_of}
use Rattle.posix.specs.declared.entry.Entry.{Entry}
use Rattle.posix.specs.declared.entry.Entry.TheVariants.{Halted}
use Rattle.laws.specs.Lives.{born_by}
use Rattle.audit.specs.declared.fault.AuditFault.{AuditFault}
use Rattle.audit.specs.declared.fault.AuditFault.TheVariants.{Memory}
use Rattle.audit.specs.Faults.{number_of, fault_number, fault_tested}
use Rattle.laws.specs.Keeping.{Kept, Phase, Going, FirstEnded, Over, lives_now, fault_of, unless_fault, number_fault, place_fault, process_fault, birth_fault}

first_none : (a b : Option ℕ) → unless_fault a b ≡ None → a ≡ None
first_none None b h = refl
first_none (Some k) b h = cc

later_none : (a b : Option ℕ) → unless_fault a b ≡ None → b ≡ None
later_none None b h = h
later_none (Some k) b h = cc

if_living : (b : Bool) (k : ℕ) → (if b then None else Some k) ≡ None → b ≡ true
if_living true k h = refl
if_living false k h = cc

if_dead : (b : Bool) (k : ℕ) → (if b then Some k else None) ≡ None → b ≡ false
if_dead true k h = cc
if_dead false k h = refl

process_lives : (kept : ℕ → Kept) (o : Option ℕ) → process_fault kept o ≡ None → IfSome o (λ p. lives_now (kept p) ≡ true)
process_lives kept None h = tt
process_lives kept (Some p) h = if_living (lives_now (kept p)) 7 h

in_place : (kept : ℕ → Kept) (phase : Phase) (entry : Entry) → place_fault kept phase entry ≡ None → IfSome (process_of entry) (λ p. lives_now (kept p) ≡ true)
in_place kept Going entry h = process_lives kept (process_of entry) h
in_place kept FirstEnded Halted h = tt
in_place kept FirstEnded entry h = cc
in_place kept Over entry h = cc

-- its process lives
pub passes_living : (kept : ℕ → Kept) (last : ℕ) (phase : Phase) (l : Line) → fault_of kept last phase l ≡ None → IfSome (process_of l.entry) (λ p. lives_now (kept p) ≡ true)
unfolding fault_of
passes_living kept last phase l h = in_place kept phase l.entry (first_none _ _ (later_none (number_fault last l.event) _ h))

born_dead : (kept : ℕ → Kept) (o : Option ℕ) → birth_fault kept o ≡ None → IfSome o (λ n. lives_now (kept n) ≡ false)
born_dead kept None h = tt
born_dead kept (Some n) h = if_dead (lives_now (kept n)) 2 h

-- and who is born doesn't
pub passes_unborn : (kept : ℕ → Kept) (last : ℕ) (phase : Phase) (l : Line) → fault_of kept last phase l ≡ None → IfSome (born_by l.entry) (λ n. lives_now (kept n) ≡ false)
unfolding fault_of
passes_unborn kept last phase l h =
    born_dead kept (born_by l.entry) (first_none _ _ (later_none (place_fault kept phase l.entry) _ (later_none (number_fault last l.event) _ h)))

-- a fault that isn't want of memory is one that a test found
pub tested_other : (f : AuditFault) → f ≢ Memory → fault_tested {A = Unit {0}} (Err f) ≡ Some (number_of f)
tested_other Memory h = absurd (h refl)
tested_other f h = refl

pub tested : (r : Result (Unit {0}) AuditFault) (n : Option ℕ) → r ≢ Err Memory → fault_number r ≡ n → fault_tested r ≡ n
tested (Ok x) n other h = h
tested (Err fault) n other h = tested_other fault (λ same. other (ap Err same)) ∙ h
