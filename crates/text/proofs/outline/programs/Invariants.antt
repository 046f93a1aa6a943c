use Rattle.std.proofs.Common.{◌≡◌, ◌≤◌, ◌+◌, ◌++◌, length, drop, true, vec_len}
use Rattle.std.specs.Prelude.{Ok, vec_capacity}
use Rattle.std.specs.List.{list_all}
use Rattle.posix.specs.Ranges.{is_program}
use Rattle.text.specs.Outlines.{program_of}
use Rattle.text.specs.Reading.{◌>>=◌, each}
use Rattle.text.proofs.outline.programs.Given as goal

abbrev pub invariant-loop-outline : goal.invariant-loop-outline
invariant-loop-outline l = record {
  rest : each (program_of l.names) l.outlines ≡ (each (program_of l.names) (drop l.outline-index l.outlines) >>= λ rest. Ok (l.programs.items ++ rest));
  len : length l.programs.items ≡ l.outline-index;
  range : list_all is_program l.programs.items ≡ true;
  room : vec_len l.programs + length l.outlines ≤ vec_capacity l.programs + l.outline-index;
}
