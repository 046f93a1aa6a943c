use Rattle.std.proofs.Common.{◌≡◌, length}
use Rattle.naming.specs.Letters.{letters_from}
use Rattle.naming.specs.Letters.Begun.{Nothing}
use Rattle.naming.specs.Lines.{IsOneLine}
use Rattle.naming.proofs.type_line.push_letters.Given as goal

abbrev pub invariant-loop-byte : goal.invariant-loop-byte
invariant-loop-byte l = record {
  letters : letters_from l.bytes.items Nothing l.rest ≡ letters_from l.fn.bytes.items Nothing l.fn.text;
  one_line : IsOneLine l.fn.text → IsOneLine l.fn.bytes.items → IsOneLine l.rest × IsOneLine l.bytes.items;
}

abbrev pub decreases-loop-byte : goal.decreases-loop-byte
decreases-loop-byte l = length l.rest
