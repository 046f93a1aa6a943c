use Rattle.std.proofs.Common.{rules, ◌≡◌, ◌∙◌, ◌+◌, ◌<◌, Some, length, arith}
use Rattle.std.specs.Prelude.{nat_lt, if◌then◌else◌}
use Rattle.text.specs.Words.{line_words}
use Rattle.judging.proofs.LineLemmas.{one_more}
use Rattle.judging.proofs.lines.last_with_words.Goals as goal
use Rattle.judging.proofs.lines.last_with_words.Goals.{then-has_words, else-has_words}

pub loop-left-preserved : goal.loop-left-preserved
loop-left-preserved c =
    let some : 0 < c.loop-left.left = grind arith in
    let next : c.if-has_words.found ≡ (if nat_lt 0 (length (line_words c.in-Some.line.now)) then Some (c.loop-left.number + 1) else c.loop-left.found) =
    elim c.if-has_words.branch [ then-has_words w ↦ search rules | else-has_words w ↦ search rules ] in
    record {
      found = one_more c.loop-left.left (c.loop-left.number + 1) c.loop-left.found c.if-has_words.found c.in-Some.line.now _ _ some c.in-Some.ensures.lines next ∙ c.loop-left.invariant.found;
      counted = omega (arith, c.loop-left.invariant.counted, some);
    }
