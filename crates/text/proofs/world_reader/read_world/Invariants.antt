use Rattle.std.proofs.Common.{◌≡◌, ◌+◌, ◌≤◌, length}
use Rattle.text.specs.Lines.{all_lines}
use Rattle.text.specs.WorldTexts.{world_from, world_text}
use Rattle.text.proofs.world_reader.read_world.Given as goal

abbrev pub invariant-loop-line : goal.invariant-loop-line
invariant-loop-line l = record { same : world_text l.fn.text ≡ world_from l.lines l.draft (all_lines l.rest); within : l.lines + length l.rest ≤ length l.fn.text }

abbrev pub decreases-loop-line : goal.decreases-loop-line
decreases-loop-line l = length l.rest
