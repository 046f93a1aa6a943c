use Rattle.std.proofs.Common.{◌≡◌, ◌+◌, ◌≤◌, ◌++◌, length, map, take, vec_len}
use Rattle.std.specs.Prelude.{vec_capacity}
use Rattle.std.specs.List.{AllByRecursion}
use Rattle.posix.specs.declared.event.Event.TheVariants.{Key}
use Rattle.posix.specs.Common.{IsEvent}
use Rattle.text.specs.EventLists.{expanded}
use Rattle.text.proofs.event_list.push_key_runs.Given as goal

abbrev pub invariant-loop-byte : goal.invariant-loop-byte
invariant-loop-byte l = record {
  keys : expanded l.runs.items ≡ expanded l.fn.runs.items ++ map (Key l.console) (take l.byte-index l.bytes);
  range : AllByRecursion IsEvent (expanded l.fn.runs.items) → AllByRecursion IsEvent (expanded l.runs.items);
  room : vec_len l.runs + length l.bytes ≤ vec_capacity l.runs + l.byte-index;
}
