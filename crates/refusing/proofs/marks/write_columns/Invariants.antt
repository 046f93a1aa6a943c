use Rattle.std.proofs.Common.{◌≡◌, ◌++◌, take}
use Rattle.refusing.specs.Marks.{columns}
use Rattle.refusing.proofs.marks.write_columns.Given as goal

abbrev pub invariant-loop-byte : goal.invariant-loop-byte
invariant-loop-byte l = l.out.items ≡ l.fn.out.items ++ columns l.mark l.tab (take l.byte-index l.shown)
