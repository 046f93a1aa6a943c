-- The state that is the value of a machine, and what several looks at it read, one after another.
use Rattle.std.proofs.Common.{◌≡◌, ◌+◌, ◌≤◌, ℕ, ap, arith, refl, rules}
use Rattle.std.proofs.Math.Nat.{le_refl, le_trans}
use Rattle.posix.specs.Common.{IsRegular}
use Rattle.life.specs.Machines.{MachineView, AreSame, Looks, Costs}

-- equal views, equal states
pub state_is : {a b : MachineView} → a ≡ b → a.state ≡ b.state
state_is e = ap (λ (m : MachineView). m.state) e

-- what nothing was done to is as it was
pub same_refl : {m : MachineView} → AreSame m m
same_refl = record { state = refl; to_recheck = refl; groups_at_risk = refl; foregrounds_unchecked = refl; readers = refl }

-- and what stays twice stays
pub same_then : {a b c : MachineView} → AreSame a b → AreSame b c → AreSame a c
same_then h k = search (rules, arith)

-- a look that may read more
pub read_more : {m n : ℕ} {a b : MachineView} → Looks m a b → m ≤ n → Looks n a b
read_more h le = record { same = h.same; visits = let few = h.visits in omega (arith, few, le); no_fewer = h.no_fewer; regular = h.regular }

-- nothing was looked at
pub none_read : {n : ℕ} {a : MachineView} → IsRegular a.state → Looks n a a
none_read regular = record { same = same_refl; visits = omega arith; no_fewer = le_refl _; regular = regular }

-- a look costs what it reads
pub looks_cost : {n : ℕ} {a b : MachineView} → Looks n a b → Costs n a b
looks_cost h = record { visits = h.visits; no_fewer = h.no_fewer; groups_at_risk = h.same.groups_at_risk; regular = h.regular }

-- one change, and then another
pub costs_then : {m n : ℕ} {a b c : MachineView} → Costs m a b → Costs n b c → Costs (m + n) a c
costs_then h k = let first = h.visits in let then = k.visits in let fewer = le_trans h.no_fewer k.no_fewer in search (rules, arith)

-- a change that may cost more
pub cost_more : {m n : ℕ} {a b : MachineView} → Costs m a b → m ≤ n → Costs n a b
cost_more h le = record { visits = let few = h.visits in omega (arith, few, le); no_fewer = h.no_fewer; groups_at_risk = h.groups_at_risk; regular = h.regular }
