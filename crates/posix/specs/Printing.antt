-- Traces as text: a line has the event number and the words of the entry, separated by one space, and a line feed.
use Rattle.std.specs.Prelude.{ℕ, Bool, true, false, ◌/◌, ◌%◌, List, [], ◌∷◌, ◌++◌, length, codes, decimal, flat_map, slice_index_or}
use Rattle.std.specs.List.{join_with_byte}
use Rattle.std.specs.Fmt.{signed_decimal}
use Rattle.posix.specs.declared.entry.Entry.{Entry}
use Rattle.posix.specs.declared.entry.Entry.TheVariants.{Noted, Called, Moved, Reported, Looked, NoMemory, Marked, Handled, Discarded, Stopped, Returned, Ended, Halted}
use Rattle.posix.specs.declared.call.Call.TheVariants.{Waitpid, Subreaper, Waitid}
use Rattle.posix.specs.declared.waits.WaitCall.TheVariants as wait
use Rattle.posix.specs.Calls.{call_text}
use Rattle.posix.specs.Entries.{Line}

-- Returns the hexadecimal digit of a number below 16.
abbrev pub digit : ℕ → ℕ
digit n = slice_index_or (codes "0123456789abcdef") n 0

abbrev pub two_digits : ℕ → List ℕ
two_digits byte = digit (byte / 16) ∷ digit (byte % 16) ∷ []

-- Returns bytes in hexadecimal, two digits each.
unfoldable pub hex : List ℕ → List ℕ
hex bytes = flat_map two_digits bytes

-- Returns the text of a mark: 1 if it is set, otherwise 0.
abbrev pub bit : Bool → List ℕ
bit false = codes "0"
bit true = codes "1"

abbrev pub words_of : Entry → List (List ℕ)
words_of (Noted pid value) = codes "note" ∷ decimal pid ∷ signed_decimal value ∷ []
words_of (Called pid call result) = codes "call" ∷ decimal pid ∷ call_text call ∷ codes "=" ∷ signed_decimal result ∷ []
words_of (Moved pid call bytes) = codes "call" ∷ decimal pid ∷ call_text call ∷ codes "=" ∷ decimal (length bytes) ∷ codes "bytes" ∷ hex bytes ∷ []
words_of (Reported pid wait.Waitpid child status) = codes "call" ∷ decimal pid ∷ call_text Waitpid ∷ codes "=" ∷ decimal child ∷ codes "status" ∷ decimal status ∷ []
words_of (Reported pid wait.Waitid child status) = codes "call" ∷ decimal pid ∷ call_text Waitid ∷ codes "=" ∷ codes "0" ∷ codes "take" ∷ decimal child ∷ codes "status" ∷ decimal status ∷ []
words_of (Looked pid child status) = codes "call" ∷ decimal pid ∷ call_text Waitid ∷ codes "=" ∷ codes "0" ∷ codes "look" ∷ decimal child ∷ codes "status" ∷ decimal status ∷ []
words_of (NoMemory pid call) = codes "call" ∷ decimal pid ∷ call_text call ∷ codes "=" ∷ codes "-11" ∷ codes "memory" ∷ []
words_of (Marked pid mark) = codes "call" ∷ decimal pid ∷ call_text Subreaper ∷ codes "=" ∷ codes "0" ∷ codes "mark" ∷ bit mark ∷ []
words_of (Handled pid sig value sender) = codes "handle" ∷ decimal pid ∷ decimal sig ∷ signed_decimal value ∷ decimal sender ∷ []
words_of (Discarded pid sig) = codes "discard" ∷ decimal pid ∷ decimal sig ∷ []
words_of (Stopped pid sig) = codes "stop" ∷ decimal pid ∷ decimal sig ∷ []
words_of (Returned pid) = codes "return" ∷ decimal pid ∷ []
words_of (Ended pid status) = codes "end" ∷ decimal pid ∷ decimal status ∷ []
words_of Halted = codes "halt" ∷ []

-- Returns one line of a trace.
abbrev pub printed : ℕ → Entry → List ℕ
printed event entry = join_with_byte 32 (decimal event ∷ words_of entry) ++ 10 ∷ []

abbrev pub print_line : Line → List ℕ
print_line l = printed l.event l.entry

abbrev pub print : List Line → List ℕ
print lines = flat_map print_line lines
