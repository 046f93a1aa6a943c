-- Event texts: the events of a line, the events of a text, and what a reader stores of a text.
use Rattle.std.specs.Prelude.{◌≡◌, ◌⊎◌, ℕ, ◌+◌, ◌-◌, List, [], ◌∷◌, ◌++◌, length, map, replicate, fold, codes, nat_le, nat_lt, if◌then◌else◌, Option, Some, None, Result, Ok, Err, take, bytes_eq}
use Rattle.posix.specs.declared.event.Event.{Event}
use Rattle.posix.specs.declared.event.Event.TheVariants.{Step, Tick, Key, Hangup}
use Rattle.text.specs.declared.fault.Reason.{Reason}
use Rattle.text.specs.declared.fault.Reason.TheVariants.{UnknownWord, OutOfRange, Memory}
use Rattle.text.specs.declared.fault.TextFault.{TextFault}
use Rattle.text.specs.Lines.{lines_of, all_lines}
use Rattle.text.specs.Numbers.{number_in, byte_in}
use Rattle.text.specs.Reading.{◌>>=◌, first, no_more, words_within, unless, IsFaultOf}

-- ---- a line

-- the largest number of events of a text
abbrev pub most_events : ℕ
most_events = 1000000000000

-- n equal events, if there is room for them
abbrev pub run_within : ℕ → Event → ℕ → Result (List Event) Reason
run_within room event n = if nat_le n room then Ok (replicate n event) else Err OutOfRange

-- the events of `N` after `step` or `tick`
unfoldable pub counted : ℕ → Event → List (List ℕ) → Result (List Event) Reason
counted room event ws = do
  n ← first (number_in 1 1000000) ws
  events ← run_within room event n.value
  no_more n.rest events

-- the byte in a word, if there is room for one more event
abbrev pub byte_within : ℕ → List ℕ → Result ℕ Reason
byte_within room w = byte_in w >>= λ byte. if nat_lt 0 room then Ok byte else Err OutOfRange

-- the bytes in words, if there is room for an event for each
abbrev pub bytes_within : ℕ → List (List ℕ) → Result (List ℕ) Reason
bytes_within room [] = Ok []
bytes_within room (w ∷ ws) = do
  byte ← byte_within room w
  bytes ← bytes_within (room - 1) ws
  Ok (byte ∷ bytes)

-- a key for each of one or more bytes
abbrev pub some_keys : ℕ → List ℕ → Result (List Event) Reason
some_keys console [] = Err UnknownWord
some_keys console (byte ∷ bytes) = Ok (map (Key console) (byte ∷ bytes))

-- the events of `C B ..` after `key`, in a world with this number of consoles
unfoldable pub keys : ℕ → ℕ → List (List ℕ) → Result (List Event) Reason
keys consoles room ws = do
  console ← first (number_in 1 consoles) ws
  bytes ← bytes_within room console.rest
  some_keys console.value bytes

-- the event of `C` after `hangup`, in a world with this number of consoles
unfoldable pub hangup : ℕ → ℕ → List (List ℕ) → Result (List Event) Reason
hangup consoles room ws = do
  console ← first (number_in 1 consoles) ws
  events ← run_within room (Hangup console.value) 1
  no_more console.rest events

-- the events of the words of a line
abbrev pub event_words : ℕ → ℕ → List (List ℕ) → Result (List Event) Reason
event_words consoles room [] = Ok []
event_words consoles room (w ∷ ws) =
    if bytes_eq w (codes "step") then counted room Step ws
    else if bytes_eq w (codes "tick") then counted room Tick ws
    else if bytes_eq w (codes "key") then keys consoles room ws
    else if bytes_eq w (codes "hangup") then hangup consoles room ws
    else Err UnknownWord

-- the events of one line, if there is room for them
abbrev pub event_line : ℕ → ℕ → List ℕ → Result (List Event) Reason
event_line consoles room line = words_within line >>= event_words consoles room

-- What a function did that adds the events of a line. After an error, the events are unchanged.
abbrev pub Adds : {X : Type 0} → List Event → List Event → Result X Reason → Result (List Event) Reason → Type 0
Adds old new (Ok x) meaning = (more : List Event) × (meaning ≡ Ok more) × (new ≡ old ++ more)
Adds old new (Err reason) meaning = (new ≡ old) × ((reason ≡ Memory) ⊎ (meaning ≡ Err reason))

-- ---- a text

-- what was read of some lines: their number, their events, and the fault after which nothing is read
pub record Reading : Type 0 where
  pub lines : ℕ
  pub events : List Event
  pub fault : Option TextFault

-- before the first line
abbrev pub start : Reading
start = record { lines = 0; events = []; fault = None }

-- one more line, or its fault
abbrev pub judged : Reading → Result (List Event) Reason → Reading
judged r (Ok more) = record { lines = r.lines + 1; events = r.events ++ more; fault = None }
judged r (Err reason) = record r { fault = Some (record { line = r.lines + 1; reason = reason }) }

-- the line after those of r, checked
abbrev pub judged_line : ℕ → Reading → List ℕ → Reading
judged_line consoles r line = judged r (event_line consoles (most_events - length r.events) line)

-- after a fault nothing is read
abbrev pub next_line : Option TextFault → ℕ → Reading → List ℕ → Reading
next_line (Some fault) consoles r line = r
next_line None consoles r line = judged_line consoles r line

-- more lines
abbrev pub read_lines : ℕ → Reading → List (List ℕ) → Reading
read_lines consoles r lines = fold (λ a line. next_line a.fault consoles a line) r lines

-- the events, unless a line was faulty
abbrev pub answer : Reading → Result (List Event) TextFault
answer r = unless r.fault r.events

-- the events that a text describes in a world with this number of consoles, or its first faulty line and the reason
unfoldable pub event_text : ℕ → List ℕ → Result (List Event) TextFault
event_text consoles text = answer (read_lines consoles start (all_lines text))

-- ---- a reader

-- what a reader stores: what was read of the complete lines, and the last line so far, up to one byte above the limit
pub record Progress : Type 0 where
  pub consoles : ℕ
  pub reading : Reading
  pub partial : List ℕ

-- what is read of the complete lines of a text
abbrev pub read_whole : ℕ → List ℕ → Reading
read_whole consoles text = read_lines consoles start (lines_of text).whole

-- what a reader stores of a text, by its fault, if there is one
abbrev pub HasReadTo : Option TextFault → List ℕ → Progress → Type 0
HasReadTo None text p = (p.reading ≡ read_whole p.consoles text) × (p.partial ≡ take 201 (lines_of text).rest)
HasReadTo (Some fault) text p = (fault.reason ≡ Memory) ⊎ ((read_whole p.consoles text).fault ≡ Some fault)

-- This is what a reader stores of a text so far, no matter how the text was cut.
abbrev pub HasRead : List ℕ → Progress → Type 0
HasRead text p = HasReadTo p.reading.fault text p

-- what the end of a line does, by the fault afterwards
abbrev pub EndsLineTo : Option TextFault → Progress → Progress → Type 0
EndsLineTo None old new = (new.reading ≡ judged_line old.consoles old.reading old.partial) × (new.partial ≡ [])
EndsLineTo (Some fault) old new = (fault.reason ≡ Memory) ⊎ ((judged_line old.consoles old.reading old.partial).fault ≡ Some fault)

-- What the end of a line does: the line is checked, and the next one begins. The fault `Memory` may replace the result.
abbrev pub EndsLine : Progress → Progress → Type 0
EndsLine old new = EndsLineTo new.reading.fault old new

-- what was read is what a text means, by the fault, if there is one
abbrev pub MeetsTo : Option TextFault → List Event → Result (List Event) TextFault → Type 0
MeetsTo None events meaning = meaning ≡ Ok events
MeetsTo (Some fault) events meaning = IsFaultOf meaning fault

-- What was read is what a text means, or the fault `Memory` replaces it.
abbrev pub Meets : Reading → Result (List Event) TextFault → Type 0
Meets r meaning = MeetsTo r.fault r.events meaning
