-- The arguments of the command line, and what they ask for.
use Rattle.std.specs.Prelude.{ℕ, ◌+◌, ◌*◌, ◌^◌, ◌-◌, ◌==◌, ◌&&◌, ◌||◌, not, Bool, true, false, List, [], ◌∷◌, ◌++◌, length, map, fold, nat_le, Option, None, Some, Result, Ok, Err, codes, option_and_then, option_map, if◌then◌else◌}
use Rattle.std.specs.Str.{bytes_eq}
use Rattle.clap.specs.Lexer.{name_and_value}
use Rattle.clap.specs.Words.{App, Row, Text, fault_of, first_of, matches_of}
use Rattle.clap.specs.declared.builder.action.ArgAction.TheVariants.{Set, SetTrue, Count}
use Rattle.posix.specs.declared.event.Event.{Event}
use Rattle.text.specs.declared.fault.TextFault.{TextFault}
use Rattle.text.specs.EventTexts.{event_text}
use Rattle.inputs.specs.Numbers.{number_asked, number_of}
use Rattle.inputs.specs.Words.{command_of, files_in, is_used, unless_refused}
use Rattle.schedules.specs.Families.{family}
use Rattle.exploring.specs.declared.words.Next.{Next}
use Rattle.exploring.specs.declared.words.Next.TheVariants.{Any, Behind, File}
use Rattle.exploring.specs.declared.words.Parts.{Parts}
use Rattle.exploring.specs.declared.words.Request.{Request}
use Rattle.exploring.specs.declared.words.Texted.{Texted}
use Rattle.exploring.specs.declared.words.Texted.TheVariants.{Find, Anywhere}
use Rattle.exploring.specs.declared.words.Written.{Written}
use Rattle.exploring.specs.declared.words.Written.TheVariants as written

-- What the arguments ask for.
pub record Asked : Type 0 where
  pub world : Text  -- the name of a file
  pub events : Text
  pub ticks : Option Text  -- the value of `--ticks`
  pub upto : Option Text
  pub states : Option Text
  pub finds : List Text
  pub anywhere : List Text  -- the text of each `--anywhere`
  pub must_halt : Bool
  pub all : Bool
  pub outcomes : Bool
  pub write : Option Text  -- the value of `--write`

-- ---- the texts of `--find` and `--anywhere`, which may begin with a hyphen, and all other arguments

-- The arguments so far: the texts of each option, and all others, with each use of these options as a flag. `next` is
-- what the next argument is: anything, the text of an option, or, after `--`, the name of a file.
pub record Parted : Type 0 where
  pub finds : List Text
  pub anywhere : List Text
  pub others : List Text
  pub next : Next

abbrev pub word_of : Texted → Text
word_of Find = codes "--find"
word_of Anywhere = codes "--anywhere"

abbrev pub option_named : Text → Option Texted
option_named name = if bytes_eq name (codes "--find") then Some Find else if bytes_eq name (codes "--anywhere") then Some Anywhere else None

abbrev pub with_other : Parted → Text → Parted
with_other p word = record p { others = p.others ++ word ∷ [] }

-- Adds the text of an option.
abbrev pub with_text : Texted → Parted → Text → Parted
with_text Find p text = record p { finds = p.finds ++ text ∷ [] }
with_text Anywhere p text = record p { anywhere = p.anywhere ++ text ∷ [] }

-- Adds a use of an option, with its text if that is in the same argument.
abbrev pub with_use : Parted → Texted → Option Text → Parted
with_use p option None = record (with_other p (word_of option)) { next = Behind option }
with_use p option (Some text) = with_text option (with_other p (word_of option)) text

-- Adds another option, its value, the name of a file, or `--`.
abbrev pub with_no_text : Parted → Text → Parted
with_no_text p word = record (with_other p word) { next = if bytes_eq word (codes "--") then File else p.next }

-- Adds an argument, by the option that it uses, and the text in it.
abbrev pub with_option : Parted → Text → Option Text → Option Texted → Parted
with_option p word text (Some option) = with_use p option text
with_option p word text None = with_no_text p word

-- Adds an argument that is cut at its first `=`.
abbrev pub with_cut : Parted → Text → Text × Option Text → Parted
with_cut p word (name, text) = with_option p word text (option_named name)

abbrev pub with_any : Parted → Text → Parted
with_any p word = with_cut p word (name_and_value word)

abbrev pub with_word_at : Next → Parted → Text → Parted
with_word_at Any p word = with_any p word
with_word_at (Behind option) p word = with_text option (record p { next = Any }) word
with_word_at File p word = with_other p word

abbrev pub with_word : Parted → Text → Parted
with_word p word = with_word_at p.next p word

abbrev pub nothing_parted : Parted
nothing_parted = record { finds = []; anywhere = []; others = []; next = Any }

abbrev pub parted : List Text → Parted
parted words = fold with_word nothing_parted words

-- ---- what the arguments ask for

-- `explore WORLD EVENTS [--ticks K] [--upto N] [--states N] [--anywhere].. [--find].. [--must-halt] [--all]
-- [--outcomes] [--write WHICH]`
abbrev pub command_line : App
command_line = command_of (codes "explore")
    ((codes "ticks", Set) ∷ (codes "upto", Set) ∷ (codes "states", Set) ∷ (codes "anywhere", Count) ∷ (codes "find", Count) ∷ (codes "must-halt", SetTrue)
    ∷ (codes "all", SetTrue) ∷ (codes "outcomes", SetTrue) ∷ (codes "write", Set) ∷ [])

-- What the files, the texts and the matches of the other arguments ask for.
abbrev pub asked_with : List Text → List Text → List Row → Text × Text → Asked
asked_with finds anywhere rows (world, events) = record {
  world = world;
  events = events;
  ticks = first_of (codes "ticks") rows;
  upto = first_of (codes "upto") rows;
  states = first_of (codes "states") rows;
  finds = finds;
  anywhere = anywhere;
  must_halt = is_used (codes "must-halt") rows;
  all = is_used (codes "all") rows;
  outcomes = is_used (codes "outcomes") rows;
  write = first_of (codes "write") rows;
}

abbrev pub asked_in : List Text → List Text → List Row → Option Asked
asked_in finds anywhere rows = option_map (asked_with finds anywhere rows) (files_in rows)

-- What the arguments ask for, unless clap rejects the others.
abbrev pub asked_of : List Text → List Text → List Text → Option Asked
asked_of finds anywhere others = unless_refused (fault_of command_line others) (asked_in finds anywhere (matches_of command_line others))

-- The next argument is the text of an option.
abbrev pub awaits_text : Next → Bool
awaits_text Any = false
awaits_text (Behind option) = true
awaits_text File = false

-- If the last argument is an option without its text, the arguments are a usage error.
abbrev pub asked_by_parts : Parted → Option Asked
asked_by_parts p = if awaits_text p.next then None else asked_of p.finds p.anywhere p.others

-- What the arguments ask for, unless they are a usage error.
abbrev pub request_of_words : List Text → Option Asked
request_of_words words = asked_by_parts (parted words)

-- What a request asks for.
abbrev pub said : Request → Asked
said r = record {
  world = r.world.now;
  events = r.events.now;
  ticks = option_map (λ t. t.now) r.ticks;
  upto = option_map (λ u. u.now) r.upto;
  states = option_map (λ n. n.now) r.states;
  finds = map (λ t. t.now) r.finds.now;
  anywhere = map (λ t. t.now) r.anywhere.now;
  must_halt = r.must_halt;
  all = r.all;
  outcomes = r.outcomes;
  write = option_map (λ w. w.now) r.write;
}

-- The separated arguments, as values.
abbrev pub parted_as : Parts → Parted
parted_as p = record { finds = map (λ t. t.now) p.finds.items; anywhere = map (λ t. t.now) p.anywhere.items; others = map (λ w. w.now) p.others.items; next = p.next }

-- ---- the numbers in the arguments

-- The most ticks that are inserted (default: 2).
abbrev pub ticks_asked : Option Text → Option ℕ
ticks_asked word = number_asked 2 1000000 word

-- Before how many events something can be inserted (default: all).
abbrev pub upto_asked : ℕ → Option Text → Option ℕ
upto_asked events word = number_asked events events word

-- The most states that are kept before one event (default: 50,000).
abbrev pub states_asked : Option Text → Option ℕ
states_asked word = number_asked 50000 10000000 word

-- Without loose events, this many schedules, the longest with this many events, are run separately: with `--all`, or if
-- that takes little time.
abbrev pub are_run_each : Bool → ℕ → ℕ → Bool
are_run_each all size longest = nat_le size (2 ^ 64 - 1) && (all || nat_le size 10000000 && nat_le (size * longest) 10000000000)

-- How many schedules are run separately, of `size` with this many loose events; `None` if they are merged.
abbrev pub run_each : Bool → ℕ → ℕ → ℕ → Option ℕ
run_each all loose size longest = if loose == 0 && are_run_each all size longest then Some size else None

-- This many schedules can be explored, the longest with this many events: it is not too long for a run, and with
-- `--outcomes` there are not too many to run separately.
abbrev pub are_run : Bool → Bool → ℕ → ℕ → Bool
are_run all outcomes size longest = nat_le longest 1000000000000 && (not outcomes || are_run_each all size longest)

-- What is inserted: before how many events, how many ticks at most, and which events once each.
pub record Put : Type 0 where
  pub upto : ℕ
  pub ticks : ℕ
  pub loose : List Event

-- The event of a text, if the text has one event.
abbrev pub only : Result (List Event) TextFault → Option Event
only (Ok []) = None
only (Ok (event ∷ [])) = Some event
only (Ok (event ∷ other ∷ more)) = None
only (Err fault) = None

-- The events of words, each of which is the text of one event, in a world with this many consoles.
abbrev pub loose_asked : ℕ → List Text → Option (List Event)
loose_asked consoles [] = Some []
loose_asked consoles (word ∷ words) = option_and_then (λ event. option_map (λ events. event ∷ events) (loose_asked consoles words)) (only (event_text consoles word))

-- This many loose events can be inserted: there is an event to insert before, and the schedules don't have to be run
-- separately.
abbrev pub can_be_put : Bool → ℕ → ℕ → Bool
can_be_put each upto loose = nat_le loose 32 && (loose == 0 || not (upto == 0) && not each)

-- These insertions into this many events are accepted: the loose events can be inserted, and the schedules can be
-- explored as `--all` and `--outcomes` ask.
abbrev pub fits : Bool → Bool → ℕ → Put → Bool
fits all outcomes events p = can_be_put (all || outcomes) p.upto (length p.loose)
    && are_run all outcomes (length (family p.upto p.ticks (length p.loose))) (events + (p.ticks + length p.loose))

abbrev pub if_fits : Bool → Bool → ℕ → Put → Option Put
if_fits all outcomes events p = if fits all outcomes events p then Some p else None

-- If the number of states is in range.
abbrev pub if_kept : Option Text → Option Put → Option Put
if_kept word put = option_and_then (λ states. put) (states_asked word)

-- What is inserted into this many events, in a world with this many consoles. `None` if a number is out of range, a
-- word is not an event, or there are too many schedules.
abbrev pub family_asked : Asked → ℕ → ℕ → Option Put
family_asked a consoles events = option_and_then (λ ticks. option_and_then (λ upto. if_kept a.states (option_and_then (λ loose.
    if_fits a.all a.outcomes events (record { upto = upto; ticks = ticks; loose = loose }))
    (loose_asked consoles a.anywhere))) (upto_asked events a.upto)) (ticks_asked a.ticks)

-- ---- what is written

abbrev pub outcome_numbered : Option ℕ → Option Written
outcome_numbered None = None
outcome_numbered (Some number) = if number == 0 then None else Some (written.Outcome number)

abbrev pub written_named : Text → Option Written
written_named word = if bytes_eq word (codes "rest") then Some written.Rest else if bytes_eq word (codes "going") then Some written.Going
    else if bytes_eq word (codes "find") then Some written.Find else outcome_numbered (number_of word)

-- What is written (default: the report).
abbrev pub written_asked : Option Text → Option Written
written_asked None = Some written.Report
written_asked (Some word) = written_named word
