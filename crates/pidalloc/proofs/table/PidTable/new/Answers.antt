use Rattle.std.proofs.Common.{arith}
use Rattle.pidalloc.proofs.TableLemmas.{new_pids, new_table, rows_size}
use Rattle.pidalloc.proofs.table.PidTable.new.Goals as goal

pub returns-clause-value : goal.returns-clause-value
returns-clause-value c = rw (c.new.ensures, c.new-2.ensures.items) (new_pids c.args.pidmax)

pub returns-clause-kept : goal.returns-clause-kept
returns-clause-kept c = record { size = rows_size c.args.pidmax c.new.result; given = omega (arith, c.requires.0); least = c.requires.0; limit = c.requires.1 }

pub invariant_of-result : goal.invariant_of-result
invariant_of-result c = rw (c.new.ensures, c.new-2.ensures.items) (new_table c.args.pidmax c.requires.0 c.requires.1)
