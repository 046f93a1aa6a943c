-- Counts of runs of schedules.
use Rattle.std.specs.Prelude.{ℕ, ◌+◌, Bool, false, List, map}
use Rattle.posix.specs.Common.{Line}
use Rattle.schedules.specs.Families.{Spots}
use Rattle.counting.specs.declared.ending.Ending.{Ending}
use Rattle.counting.specs.declared.ending.Endings.{Endings}
use Rattle.counting.specs.Tallies.{TallyView, no_schedules}
use Rattle.counting.specs.Texts.{FindView, saw, after_run, with_marked}
use Rattle.counting.specs.Endings.{no_endings, with_ending, with_many_endings}

pub record BookView : Type 0 where
  pub endings : Endings
  pub finds : List FindView
  pub total : ℕ

-- A text that no schedule has so far.
abbrev pub unseen : List ℕ → FindView
unseen text = record { text = text; is_there = false; tally = no_schedules }

abbrev pub empty_book : List (List ℕ) → BookView
empty_book texts = record { endings = no_endings; finds = map unseen texts; total = 0 }

-- With one more schedule, whose run shows these lines and ends in this way.
abbrev pub with_run : List Line → Ending → Spots → BookView → BookView
with_run lines ending ps b = record {
  endings = with_ending ending ps b.endings;
  finds = map (after_run ps) (map (saw lines) b.finds);
  total = b.total + 1;
}

-- With the schedules of t, which end in this way, and whose lines have the marked texts.
abbrev pub with_many_runs : Ending → List Bool → TallyView → BookView → BookView
with_many_runs ending marks t b = record {
  endings = with_many_endings ending t b.endings;
  finds = with_marked t marks b.finds;
  total = b.total + t.count;
}
