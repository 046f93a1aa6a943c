use Rattle.std.proofs.Common.{◌≡◌, [], drop}
use Rattle.naming.specs.Lines.{IsOneLine}
use Rattle.naming.specs.Sets.{with_bytes}
use Rattle.naming.proofs.set_line.without_blanks.Given as goal

abbrev pub invariant-loop-byte : goal.invariant-loop-byte
invariant-loop-byte l = record {
  items : with_bytes l.all.items (drop l.byte-index l.text) ≡ with_bytes [] l.text;
  one_line : IsOneLine l.text → IsOneLine l.all.items;
}
