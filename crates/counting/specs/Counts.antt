-- What is counted over a list of schedules: how many have a property, and which is the first of these.
use Rattle.std.specs.Prelude.{ℕ, Bool, false, List, length, map, count_by, find}
use Rattle.posix.specs.declared.event.Event.{Event}
use Rattle.posix.specs.Common.{World}
use Rattle.schedules.specs.Families.{Spots}
use Rattle.counting.specs.declared.ending.Ending.{Ending}
use Rattle.counting.specs.declared.ending.Endings.{Endings}
use Rattle.counting.specs.Tallies.{TallyView}
use Rattle.counting.specs.Texts.{FindView, have_text}
use Rattle.counting.specs.Endings.{ending_of, is_halted, is_at_rest, is_alarmed, is_going}
use Rattle.counting.specs.Courses.{course_of}
use Rattle.counting.specs.Books.{BookView}

-- The tally of the schedules that have the property.
abbrev pub tally_over : (Spots → Bool) → List Spots → TallyView
tally_over has schedules = record { count = count_by has schedules; first = find has schedules }

-- The run of the schedule ends in this way.
abbrev pub ends_so : (Ending → Bool) → World → List Event → List Event → Spots → Bool
ends_so test world loose events ps = test (ending_of (course_of world loose events ps).last)

-- A line of the run has the text.
abbrev pub shows : List ℕ → World → List Event → List Event → Spots → Bool
shows text world loose events ps = have_text text (course_of world loose events ps).lines

abbrev pub endings_over : World → List Event → List Event → List Spots → Endings
endings_over world loose events schedules = record {
  halted = tally_over (ends_so is_halted world loose events) schedules;
  at_rest = tally_over (ends_so is_at_rest world loose events) schedules;
  alarmed = tally_over (ends_so is_alarmed world loose events) schedules;
  going = tally_over (ends_so is_going world loose events) schedules;
}

abbrev pub find_over : World → List Event → List Event → List Spots → List ℕ → FindView
find_over world loose events schedules text = record { text = text; is_there = false; tally = tally_over (shows text world loose events) schedules }

-- The book of these schedules of a world, a list of events, loose events, and texts to find.
abbrev pub book_over : World → List Event → List Event → List (List ℕ) → List Spots → BookView
book_over world loose events texts schedules = record {
  endings = endings_over world loose events schedules;
  finds = map (find_over world loose events schedules) texts;
  total = length schedules;
}
