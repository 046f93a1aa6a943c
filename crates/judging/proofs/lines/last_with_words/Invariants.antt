use Rattle.std.proofs.Common.{◌≡◌, ◌+◌, ◌-◌}
use Rattle.text.specs.Lines.{all_lines}
use Rattle.judging.specs.Lines.{last_with_words, last_worded}
use Rattle.judging.proofs.lines.last_with_words.Given as goal

abbrev pub invariant-loop-left : goal.invariant-loop-left
invariant-loop-left l = record {
  found : last_worded l.left (l.number + 1) l.found (all_lines l.rest) ≡ last_with_words l.before l.text;
  counted : l.number + l.left ≡ l.before - 1;
}

abbrev pub decreases-loop-left : goal.decreases-loop-left
decreases-loop-left l = l.left
