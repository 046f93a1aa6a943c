-- The limits of a console.
use Rattle.std.specs.Prelude.{ℕ, ◌≤◌, List, length}
use Rattle.std.specs.List.{AllByRecursion}
use Rattle.posix.specs.Common.{Console, waiting, most_edited, most_lines, most_waiting}

-- the edited bytes, and one that ends them
abbrev pub most_in_line : ℕ
most_in_line = 256

abbrev pub IsShort : List ℕ → Type 0
IsShort line = length line ≤ most_in_line

pub record AreFew (lines : List (List ℕ)) : Type 0 where
  pub count : length lines ≤ most_lines
  pub bytes : waiting lines ≤ most_waiting
  pub each : AllByRecursion IsShort lines

pub record AreWithinLimits (finished : List (List ℕ)) (edited : List ℕ) : Type 0 where
  pub lines : AreFew finished
  pub bytes : length edited ≤ most_edited

abbrev pub IsWithinLimits : Console → Type 0
IsWithinLimits c = AreWithinLimits c.lines c.edited
