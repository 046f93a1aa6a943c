use Rattle.std.proofs.Common.{◌≡◌, vec_len}
use Rattle.naming.specs.Lines.{IsOneLine}
use Rattle.naming.specs.Sets.{trimmed}
use Rattle.naming.proofs.set_line.trim_blanks.Given as goal

abbrev pub invariant-loop-text : goal.invariant-loop-text
invariant-loop-text l = record {
  items : trimmed l.text.items ≡ trimmed l.fn.text.items;
  one_line : IsOneLine l.fn.text.items → IsOneLine l.text.items;
}

abbrev pub decreases-loop-text : goal.decreases-loop-text
decreases-loop-text l = vec_len l.text
