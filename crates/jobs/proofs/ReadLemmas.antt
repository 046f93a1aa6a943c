-- Facts about consecutive looks, and about how many processes a walk still has to read.
use Rattle.std.proofs.Common.{subst, sym, ◌≡◌, ap, ℕ, ◌+◌, ◌*◌, ◌<◌, ◌≤◌, arith, List, [], ◌∷◌, length, Option, Some, None}
use Rattle.std.specs.Option.{IfSome}
use Rattle.std.proofs.lemmas.Bool.{eqb-true}
use Rattle.std.proofs.lemmas.Bool.Decides.{nat_tests}
use Rattle.posix.specs.Common.{Process, above, left_of, lookup}
use Rattle.posix.proofs.WalkLemmas.{numbers_left, fewer_left}
use Rattle.jobs.specs.IndexedTables.{JobsView}

-- equal tables have the same processes
pub processes_of : {a b : JobsView} → a ≡ b → a.processes ≡ b.processes
processes_of e = ap (λ (t : JobsView). t.processes) e

-- from a process above p on, no more are left than from p on, and fewer if p exists
left_least : (next : Option ℕ) (p : ℕ) (rs : List Process) → IfSome next (λ q. p < q) → length (left_of next rs) ≤ length (left_of (Some p) rs)
left_least None p rs h = omega arith
left_least (Some q) p [] h = omega arith
left_least (Some q) p (x ∷ xs) h = grind (arith, nat_tests, h, left_least (Some q) p xs h)

pub left_less : (p : ℕ) (rs : List Process) (r : Process) (next : Option ℕ) → lookup p rs ≡ Some r → IfSome next (λ q. p < q) → length (left_of next rs) < length (left_of (Some p) rs)
unfolding lookup
left_less p [] r next e h = absurd (cc)
left_less p (x ∷ xs) r None e h = grind (arith, nat_tests, left_less p xs r None, eqb-true x.pid p)
left_less p (x ∷ xs) r (Some q) e h = grind (arith, nat_tests, h, left_least (Some q) p xs h, left_less p xs r (Some q), eqb-true x.pid p)

-- fewer IDs are left after p, which comes next
pub fewer_after : (p : ℕ) → p < 2147483648 → (now next : Option ℕ) → now ≡ Some p → IfSome next (λ q. p < q) → numbers_left 2147483648 next < numbers_left 2147483648 now
fewer_after p low now next comes above = subst (λ o. numbers_left 2147483648 next < numbers_left 2147483648 o) (sym comes) (fewer_left 2147483648 p next low above)

-- a walk that reads 1 + k slots for each process: after one, one less is left
pub reads_on : (k were left before one most : ℕ) → were ≡ 1 + left → one ≤ before + 1 + k → before + (1 + k) * were ≤ most → one + (1 + k) * left ≤ most
reads_on k were left before one most e a h = let all : (1 + k) * were ≡ (1 + k) * (1 + left) = ap (λ n. (1 + k) * n) e in omega (arith, a, h, all)
