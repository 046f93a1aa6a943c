-- What the program does for its arguments, and what its exit status means.
use Rattle.std.specs.Prelude.{◌≡◌, ◌⊎◌, All, ℕ, ◌==◌, ◌||◌, ◌&&◌, not, Bool, true, false, List, length, Option, None, Some, Result, Ok, Err, IfSome, IsSomeAnd, slice_get}
use Rattle.std.specs.List.{list_any}
use Rattle.posix.specs.declared.event.Event.{Event}
use Rattle.posix.specs.Common.{World}
use Rattle.schedules.specs.Families.{Spots, family}
use Rattle.trace.specs.Sinks.{BreaksOff, Seen, TakesAll}
use Rattle.inputs.specs.Reads.{AreRead, AreRefused, Contents, Text}
use Rattle.inputs.specs.Statuses.{status_of as status_of_input}
use Rattle.inputs.specs.declared.words.NoRequest.{NoRequest}
use Rattle.inputs.specs.declared.words.NoRequest.TheVariants as no_request
use Rattle.merging.specs.declared.search.Stop.{Stop}
use Rattle.merging.specs.declared.search.Stop.TheVariants as stop
use Rattle.exploring.specs.declared.serving.Failure.{Failure}
use Rattle.exploring.specs.declared.serving.Failure.TheVariants.{Usage, Ticks, Upto, States, UptoAbove, NotOneEvent, TooManyAnywhere, NoEventBehind, AllAnywhere, OutcomesAnywhere, Which, Unmatchable, TooManyOutcomes, TooManyForAll, TooManyEvents, ManyStates, Input, Memory, Write}
use Rattle.counting.specs.Books.{BookView}
use Rattle.counting.specs.Counts.{book_over}
use Rattle.counting.specs.Samples.{CanBeShown, IsShownByNone}
use Rattle.exploring.specs.declared.words.Written.{Written}
use Rattle.exploring.specs.Reports.{IsAsFor}
use Rattle.exploring.specs.Words.{Asked, Put, family_asked, ticks_asked, written_asked}

-- ---- statuses

-- The status of a failure: 1 for a rejected input, 2 for a usage error, 3 for an I/O error, for too many states, or if
-- memory ran out.
abbrev pub status_of : Failure → ℕ
status_of (Input why) = status_of_input why
status_of Usage = 2
status_of (Ticks most) = 2
status_of Upto = 2
status_of (States most) = 2
status_of (UptoAbove upto events) = 2
status_of NotOneEvent = 2
status_of (TooManyAnywhere most) = 2
status_of NoEventBehind = 2
status_of AllAnywhere = 2
status_of OutcomesAnywhere = 2
status_of Which = 2
status_of (Unmatchable why) = 2
status_of (TooManyOutcomes schedules given) = 2
status_of (TooManyForAll most) = 2
status_of (TooManyEvents longest most) = 2
status_of (ManyStates most place) = 3
status_of Memory = 3
status_of Write = 3

-- The status of any result.
abbrev pub answer_of : Result Bool Failure → ℕ
answer_of (Ok false) = 0
answer_of (Ok true) = 4
answer_of (Err why) = status_of why

abbrev pub failure_of : NoRequest → Failure
failure_of no_request.Usage = Usage
failure_of no_request.Memory = Memory

abbrev pub failure_at : Stop → Failure
failure_at stop.Memory = Memory
failure_at (stop.States most place) = ManyStates most place

-- ---- what makes the status 4

-- A schedule has a text of `--find`.
abbrev pub is_found : BookView → Bool
is_found b = list_any (λ f. not (f.tally.count == 0)) b.finds

abbrev pub all_halt : BookView → Bool
all_halt b = b.endings.at_rest.count == 0 && b.endings.going.count == 0

-- A schedule has a text of `--find`, or one doesn't halt although all must.
abbrev pub is_told : Bool → BookView → Bool
is_told must_halt b = is_found b || must_halt && not (all_halt b)

-- All schedules that insert these events.
abbrev pub schedules_of : Put → List Spots
schedules_of p = family p.upto p.ticks (length p.loose)

abbrev pub book_asked : World → List Event → List Text → Put → BookView
book_asked world events texts p = book_over world p.loose events texts (schedules_of p)

-- For one of the texts, no sample line can be made to match it.
abbrev pub OneIsUnmatchable : List Text → Type 0
OneIsUnmatchable texts = (i : ℕ) × (t : Text) × (slice_get texts i ≡ Some t) × IsShownByNone t

-- The request was explored, with this answer. The files are a world and events for it, and all schedules of the family
-- were counted. The text for the output is the report, or the schedule that `--write` asks for. For each text of
-- `--find`, a line can match it.
pub record IsExplored (contents : Contents) (a : Asked) (told : Bool) (IsPut : List ℕ → Type 0) : Type 0 where
  pub world : World
  pub events : List Event
  pub put_in : Put
  pub written : Written
  pub read : AreRead contents (a.world, a.events) world events
  pub finds : All CanBeShown a.finds
  pub in_range : family_asked a world.consoles (length events) ≡ Some put_in
  pub answer : told ≡ is_told a.must_halt (book_asked world events a.finds put_in)
  pub asked : written_asked a.write ≡ Some written
  pub text : List ℕ
  pub is_as_asked : IsAsFor written put_in.loose events put_in.upto put_in.ticks (book_asked world events a.finds put_in) text
  pub put : IsPut text

-- A number is out of range, a word is not an event or names no schedule, no sample line can be made to match a text of
-- `--find`, or there are too many schedules.
abbrev pub IsOutOfRange : Contents → Asked → Type 0
IsOutOfRange contents a = (ticks_asked a.ticks ≡ None) ⊎ ((written_asked a.write ≡ None) ⊎ (OneIsUnmatchable a.finds
    ⊎ ((world : World) × (events : List Event) × AreRead contents (a.world, a.events) world events × (family_asked a world.consoles (length events) ≡ None))))

-- ---- what a status means

-- What a status means, by the files, what the arguments ask for if they are accepted, and the output before and after
-- the call.
pub record Means {S : Type 0} (contents : Contents) (asked : Option Asked) (old new : S) (before after : Seen) (status : ℕ) : Type 0 where
  pub done : status ≡ 0 → IsSomeAnd asked (λ a. IsExplored contents a false (TakesAll before after))
  pub told : status ≡ 4 → IsSomeAnd asked (λ a. IsExplored contents a true (TakesAll before after))
  -- An input is rejected.
  pub refused : status ≡ 1 → IsSomeAnd asked (λ a. AreRefused contents (a.world, a.events)) × (new ≡ old)
  -- The arguments are a usage error, or a number is out of range.
  pub other_words : status ≡ 2 → IfSome asked (IsOutOfRange contents) × (new ≡ old)
  -- Nothing was written, or only a beginning of the text, after all schedules were counted.
  pub cut_short : status ≡ 3 → (new ≡ old) ⊎ IsSomeAnd asked (λ a. (told : Bool) × IsExplored contents a told (BreaksOff before after))
