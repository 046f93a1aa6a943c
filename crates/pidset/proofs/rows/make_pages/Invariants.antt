use Rattle.std.proofs.Common.{◌≡◌, ℕ, ◌+◌, ◌-◌, length, map}
use Rattle.pidset.specs.Rows.{page_at}
use Rattle.pidset.proofs.rows.make_pages.Given as goal

abbrev pub invariant-loop-alloc : goal.invariant-loop-alloc
invariant-loop-alloc g l = (k : ℕ) → page_at (map (λ p. p.items) l.pages.items) k ≡ page_at (map (λ p. p.items) l.initial.pages.items) k

abbrev pub decreases-loop-alloc : goal.decreases-loop-alloc
decreases-loop-alloc g l = l.at + 1 - length l.pages.items
