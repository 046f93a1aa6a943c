-- The report on a family whose schedules were counted.
use Rattle.std.specs.Prelude.{◌≡◌, ◌⊎◌, ℕ, ◌-◌, ◌==◌, List, [], ◌∷◌, ◌++◌, length, replicate, decimal, codes, Option, Some, None, IfSome, if◌then◌else◌}
use Rattle.std.specs.List.{All, concat}
use Rattle.posix.specs.declared.event.Event.{Event}
use Rattle.schedules.specs.Families.{IsSchedule, Spots}
use Rattle.schedules.specs.Schedules.{scheduled}
use Rattle.schedules.specs.EventLines.{StandsFor}
use Rattle.counting.specs.declared.ending.Endings.{Endings}
use Rattle.counting.specs.Books.{BookView}
use Rattle.counting.specs.Numbers.{in_decimal}
use Rattle.counting.specs.Tallies.{TallyView}
use Rattle.counting.specs.Texts.{FindView}
use Rattle.wording.specs.Counted.{plural}
use Rattle.exploring.specs.declared.words.Written.{Written}
use Rattle.exploring.specs.declared.words.Written.TheVariants as written

-- ---- counts

-- A count in digits, right-aligned in eight columns.
abbrev pub to_the_right : ℕ → List ℕ
to_the_right count = replicate (8 - length (in_decimal count)) 32 ++ in_decimal count

-- The parts of a line, after the number of loose events if that is not 0.
abbrev pub with_loose : ℕ → List (List ℕ) → List (List ℕ)
with_loose loose parts = if loose == 0 then parts else codes " and " ∷ decimal loose ∷ codes " event" ∷ plural loose ∷ codes " anywhere" ∷ parts

-- The line that says how many schedules there are.
abbrev pub size_line : ℕ → ℕ → ℕ → ℕ → List ℕ
size_line size upto ticks loose = concat (in_decimal size ∷ codes " schedule" ∷ plural size ∷ codes ": at most " ∷ decimal ticks ∷ codes " tick" ∷ plural ticks
    ∷ with_loose loose (codes ", each before one of the first " ∷ decimal upto ∷ codes " event" ∷ plural upto ∷ codes "\n" ∷ []))

-- The line that says how many schedules end in one way.
abbrev pub ending_line : ℕ → List ℕ → List ℕ
ending_line count words = concat (to_the_right count ∷ codes " " ∷ words ∷ codes "\n" ∷ [])

-- The line that says how many schedules at rest wait for an alarm, if any do.
abbrev pub alarmed_line : ℕ → List ℕ
alarmed_line count = if count == 0 then [] else ending_line count (codes "of these wait for an alarm: try more ticks")

abbrev pub at_rest_lines : Endings → List ℕ
at_rest_lines e = ending_line e.at_rest.count (codes "come to rest: no process is runnable") ++ alarmed_line e.alarmed.count

-- The first lines, four or five.
abbrev pub first_lines : ℕ → ℕ → ℕ → ℕ → Endings → List ℕ
first_lines size upto ticks loose e = size_line size upto ticks loose
    ++ (ending_line e.halted.count (codes "halt")
    ++ (at_rest_lines e
    ++ ending_line e.going.count (codes "are still going")))

-- The line that says how many states the schedules were merged into, if they were merged.
abbrev pub states_line : ℕ → List ℕ
states_line states = if states == 0 then [] else concat (codes "merged into " ∷ decimal states ∷ codes " state" ∷ plural states ∷ codes " after the last possible insertion\n" ∷ [])

-- The line that says how many schedules have a text.
abbrev pub find_line : List ℕ → ℕ → List ℕ
find_line text count = concat (codes "\n`" ∷ text ∷ codes "` is in " ∷ in_decimal count ∷ codes " schedule" ∷ plural count ∷ codes "\n" ∷ [])

-- ---- the first schedule of a count

-- A text with this property was added.
abbrev pub Adds : List ℕ → (List ℕ → Type 0) → List ℕ → Type 0
Adds old Is new = (added : List ℕ) × (new ≡ old ++ added) × Is added

-- The text is a heading, and lines that are read as the events of the first schedule. It is empty if there is none.
abbrev pub ShowsFirst : List Event → List Event → List ℕ → Option Spots → List ℕ → Type 0
ShowsFirst loose events heading None text = text ≡ []
ShowsFirst loose events heading (Some ps) text = (lines : List ℕ) × (text ≡ heading ++ lines) × StandsFor lines (scheduled loose events ps)

abbrev pub first_that : List ℕ → List ℕ
first_that what = concat (codes "\nthe first that " ∷ what ∷ codes "\n" ∷ [])

abbrev pub first_that_has_it : List ℕ
first_that_has_it = codes "the first that has it\n"

-- The text reports which schedules have a text of `--find`.
pub record ShowsFind (loose events : List Event) (f : FindView) (text : List ℕ) : Type 0 where
  pub first : List ℕ
  pub whole : text ≡ find_line f.text f.tally.count ++ first
  pub shows : ShowsFirst loose events first_that_has_it f.tally.first first

abbrev pub ShowsFinds : List Event → List Event → List FindView → List ℕ → Type 0
ShowsFinds loose events [] text = text ≡ []
ShowsFinds loose events (f ∷ fs) text = (this : List ℕ) × (more : List ℕ) × (text ≡ this ++ more) × ShowsFind loose events f this × ShowsFinds loose events fs more

-- ---- all of it

-- The first schedule of a tally, if there is one, is a schedule of the family.
abbrev pub IsFirstOf : ℕ → ℕ → ℕ → TallyView → Type 0
IsFirstOf upto ticks loose t = IfSome t.first (IsSchedule upto ticks loose)

pub record AreOfFamily (upto ticks loose : ℕ) (b : BookView) : Type 0 where
  pub at_rest : IsFirstOf upto ticks loose b.endings.at_rest
  pub going : IsFirstOf upto ticks loose b.endings.going
  pub finds : All (λ f. IsFirstOf upto ticks loose f.tally) b.finds

-- The text reports on the schedules of a family what the book counts, and some number of states. The part on outcomes
-- can be any text.
pub record Reports (loose events : List Event) (upto ticks : ℕ) (b : BookView) (text : List ℕ) : Type 0 where
  pub states : ℕ
  pub at_rest : List ℕ
  pub going : List ℕ
  pub finds : List ℕ
  pub outcomes : List ℕ
  pub whole : text ≡ first_lines b.total upto ticks (length loose) b.endings ++ (states_line states ++ (at_rest ++ (going ++ (finds ++ outcomes))))
  pub shows_at_rest : ShowsFirst loose events (first_that (codes "comes to rest")) b.endings.at_rest.first at_rest
  pub shows_going : ShowsFirst loose events (first_that (codes "is still going")) b.endings.going.first going
  pub shows_finds : ShowsFinds loose events b.finds finds

-- ---- one schedule in place of the report

-- The text is read as the events of this schedule; it is empty if there is none.
abbrev pub StandsForFirst : List Event → List Event → Option Spots → List ℕ → Type 0
StandsForFirst loose events None text = text ≡ []
StandsForFirst loose events (Some ps) text = StandsFor text (scheduled loose events ps)

abbrev pub if_none : Option Spots → Option Spots → Option Spots
if_none (Some ps) other = Some ps
if_none None other = other

-- The first schedule with the first text that any schedule has.
abbrev pub first_found : List FindView → Option Spots
first_found [] = None
first_found (f ∷ fs) = if_none f.tally.first (first_found fs)

-- The text is read as the events of a schedule of the family, or it is empty.
abbrev pub StandsForSome : List Event → List Event → ℕ → ℕ → List ℕ → Type 0
StandsForSome loose events upto ticks text = (text ≡ []) ⊎ ((ps : Spots) × IsSchedule upto ticks (length loose) ps × StandsFor text (scheduled loose events ps))

-- The text is what is asked for.
abbrev pub IsAsFor : Written → List Event → List Event → ℕ → ℕ → BookView → List ℕ → Type 0
IsAsFor written.Report loose events upto ticks b text = Reports loose events upto ticks b text
IsAsFor written.Rest loose events upto ticks b text = StandsForFirst loose events b.endings.at_rest.first text
IsAsFor written.Going loose events upto ticks b text = StandsForFirst loose events b.endings.going.first text
IsAsFor written.Find loose events upto ticks b text = StandsForFirst loose events (first_found b.finds) text
IsAsFor (written.Outcome number) loose events upto ticks b text = StandsForSome loose events upto ticks text

-- The bytes of a text; none if there is no text.
abbrev pub bytes_put : Option (List ℕ) → List ℕ
bytes_put None = []
bytes_put (Some text) = text
