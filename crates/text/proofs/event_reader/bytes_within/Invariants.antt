use Rattle.std.proofs.Common.{◌≡◌, ◌+◌, ◌*◌, ◌-◌, ◌≤◌, ◌++◌, length}
use Rattle.std.specs.Prelude.{Ok}
use Rattle.text.specs.Words.{words}
use Rattle.text.specs.EventTexts.{bytes_within}
use Rattle.text.specs.Reading.{◌>>=◌}
use Rattle.text.proofs.event_reader.bytes_within.Given as goal

abbrev pub invariant-loop-word : goal.invariant-loop-word
invariant-loop-word l = record {
  same : bytes_within l.room (words l.line) ≡ (bytes_within (l.room - length l.bytes.items) (words l.rest) >>= λ more. Ok (l.bytes.items ++ more));
  room : length l.bytes.items ≤ l.room;
  short : 2 * length l.bytes.items + length l.rest ≤ 200;
}

abbrev pub decreases-loop-word : goal.decreases-loop-word
decreases-loop-word l = length (words l.rest)
