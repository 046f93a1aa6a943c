-- What holds of the lines of events, and of those of a whole run.
use Rattle.std.specs.Prelude.{◌≡◌, ℕ, ◌+◌, ◌++◌, List, true}
use Rattle.std.specs.List.{list_all}
use Rattle.posix.specs.Common.{Line, State}
use Rattle.kernel.specs.declared.summary.Summary.{Summary}
use Rattle.trace.specs.Sinks.{Seen}
use Rattle.kernel.specs.Headline.{Traces}
use Rattle.laws.specs.TraceLines.{is_line}
use Rattle.laws.specs.Lives.{Laws}
use Rattle.laws.specs.Agree.{Agree, IsOrderly}

-- The lines of the events after number before, up to number last, between these states. Each has a form. Lines that
-- agree with the state before agree, with these, with the state after, which is orderly.
pub record LinesTell (before last : ℕ) (old new : State) (lines : List Line) : Type 0 where
  pub orderly : IsOrderly new
  pub forms : list_all is_line lines ≡ true
  pub agrees : (earlier : List Line) → Agree earlier before old → Agree (earlier ++ lines) last new

-- A run whose printed trace was taken. Each of its lines has a form, with all numbers in range, and the lines keep the
-- laws of a trace. Its births are the sum of the living, the zombies, the reported and the dropped.
pub record Accounts (world_bytes event_bytes : List ℕ) (before after : Seen) (summary : Summary) : Type 0 where
  pub trace : Traces world_bytes event_bytes before after summary
  pub forms : list_all is_line trace.lines ≡ true
  pub laws : Laws trace.lines
  pub counts : summary.births ≡ summary.living + summary.zombies + summary.reported + summary.dropped
