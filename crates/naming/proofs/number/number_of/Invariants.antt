use Rattle.std.proofs.Common.{◌≡◌, length}
use Rattle.naming.specs.Names.{add_names, names_in, nothing}
use Rattle.naming.proofs.number.number_of.Given as goal

-- The sum with the names that are left is the sum of all names.
abbrev pub invariant-loop-more : goal.invariant-loop-more
invariant-loop-more l = add_names l.form l.sum (names_in l.form l.rest) ≡ add_names l.form nothing (names_in l.form l.names)

abbrev pub decreases-loop-more : goal.decreases-loop-more
decreases-loop-more l = length l.rest
