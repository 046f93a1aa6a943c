use Rattle.std.proofs.Common.{◌≡◌, ◌≤◌, ◌+◌, ◌++◌, length, drop, true, vec_len}
use Rattle.std.specs.Prelude.{Ok, vec_capacity}
use Rattle.std.specs.List.{list_all}
use Rattle.posix.specs.Ranges.{is_instruction}
use Rattle.text.specs.Outlines.{completed}
use Rattle.text.specs.Reading.{◌>>=◌, each}
use Rattle.text.proofs.outline.instructions.Given as goal

abbrev pub invariant-loop-written : goal.invariant-loop-written
invariant-loop-written l = record {
  rest : each (completed l.names.programs.now l.names.labels.now) l.code
      ≡ (each (completed l.names.programs.now l.names.labels.now) (drop l.written-index l.code) >>= λ rest. Ok (l.instructions.items ++ rest));
  len : length l.instructions.items ≡ l.written-index;
  range : list_all is_instruction l.instructions.items ≡ true;
  room : vec_len l.instructions + length l.code ≤ vec_capacity l.instructions + l.written-index;
}
