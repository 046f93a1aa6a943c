-- Which patterns a trace line can match: the words of the pattern replace words of sample lines.
use Rattle.std.specs.Prelude.{◌≡◌, ◌<◌, ◌==◌, ℕ, ◌*◌, zero, suc, true, false, List, [], ◌∷◌, ◌++◌, length, codes, replicate, ℤ, Option, Some, None, if◌then◌else◌}
use Rattle.std.specs.List.{All}
use Rattle.std.specs.Str.{bytes_eq}
use Rattle.std.specs.Fmt.{signed_decimal}
use Rattle.posix.specs.declared.entry.Entry.{Entry}
use Rattle.posix.specs.Common.{Line}
use Rattle.laws.specs.TraceLines.{Says, is_entry}
use Rattle.trace.specs.Words.{behind, word}
use Rattle.wording.specs.declared.table.Kind.{Kind}
use Rattle.wording.specs.declared.table.Kind.TheVariants.{Errno}
use Rattle.wording.specs.Names.{number_named}
use Rattle.counting.specs.Patterns.{has_pattern}

-- A line that a trace can have matches the pattern.
abbrev pub CanBeShown : List ℕ → Type 0
CanBeShown pattern = (entry : Entry) × (is_entry entry ≡ true) × (has_pattern pattern entry ≡ true)

-- If the text is a line of a trace, the line doesn't match the pattern.
abbrev pub IsWithout : List ℕ → List ℕ → Type 0
IsWithout pattern text = (l : Line) → Says text l → has_pattern pattern l.entry ≡ false

-- The number of a name, negative for an error; any other word itself.
abbrev pub as_number : List ℕ → Option (Kind × ℤ) → List ℕ
as_number sought (Some (Errno, z)) = 45 ∷ signed_decimal z
as_number sought (Some (kind, z)) = signed_decimal z
as_number sought None = sought

-- What replaces a word of a sample.
abbrev pub filled : List ℕ → List ℕ → List ℕ
filled sought own = if bytes_eq sought (codes "*") then own else as_number sought (number_named sought)

-- The words of a sample, each after a space. The words of the pattern, while any are left, replace those after the
-- first `skipped`.
unfoldable pub with_pattern : List ℕ → ℕ → List (List ℕ) → List ℕ
with_pattern pattern skipped [] = []
with_pattern pattern zero (own ∷ words) = if length pattern == 0 then 32 ∷ own ++ with_pattern pattern zero words else 32 ∷ filled (word pattern) own ++ with_pattern (behind pattern) zero words
with_pattern pattern (suc skipped) (own ∷ words) = 32 ∷ own ++ with_pattern pattern skipped words

-- Wherever in the sample the words of the pattern begin, the result isn't a line that matches the pattern.
abbrev pub IsWithoutIn : List ℕ → List (List ℕ) → Type 0
IsWithoutIn pattern words = (k : ℕ) → k < length words → IsWithout pattern (codes "1" ++ with_pattern pattern k words)

-- A `read` that returned n bytes; the digits are those of n.
abbrev pub read_of : List ℕ → ℕ → List (List ℕ)
read_of digits n = codes "call" ∷ codes "1" ∷ codes "read" ∷ codes "=" ∷ digits ∷ codes "bytes" ∷ replicate (n * 2) 48 ∷ []

-- Lines of each form, without the event number. If one word depends on another, there is a line for each case.
unfoldable pub samples : List (List (List ℕ))
samples =
    (codes "halt" ∷ []) ∷
    (codes "note" ∷ codes "1" ∷ codes "0" ∷ []) ∷
    (codes "call" ∷ codes "1" ∷ codes "kill" ∷ codes "=" ∷ codes "0" ∷ []) ∷
    (codes "call" ∷ codes "1" ∷ codes "waitpid" ∷ codes "=" ∷ codes "2" ∷ codes "status" ∷ codes "0" ∷ []) ∷
    (codes "call" ∷ codes "1" ∷ codes "waitid" ∷ codes "=" ∷ codes "0" ∷ codes "take" ∷ codes "2" ∷ codes "status" ∷ codes "0" ∷ []) ∷
    (codes "call" ∷ codes "1" ∷ codes "waitid" ∷ codes "=" ∷ codes "0" ∷ codes "look" ∷ codes "2" ∷ codes "status" ∷ codes "0" ∷ []) ∷
    (codes "call" ∷ codes "1" ∷ codes "subreaper" ∷ codes "=" ∷ codes "0" ∷ codes "mark" ∷ codes "1" ∷ []) ∷
    (codes "call" ∷ codes "1" ∷ codes "fork" ∷ codes "=" ∷ codes "-11" ∷ codes "memory" ∷ []) ∷
    (codes "handle" ∷ codes "1" ∷ codes "10" ∷ codes "0" ∷ codes "0" ∷ []) ∷
    (codes "discard" ∷ codes "1" ∷ codes "17" ∷ []) ∷
    (codes "stop" ∷ codes "1" ∷ codes "19" ∷ []) ∷
    (codes "return" ∷ codes "1" ∷ []) ∷
    (codes "end" ∷ codes "1" ∷ codes "0" ∷ []) ∷
    read_of (codes "1") 1 ∷ read_of (codes "2") 2 ∷ read_of (codes "3") 3 ∷ read_of (codes "4") 4 ∷ read_of (codes "5") 5 ∷ read_of (codes "6") 6 ∷ read_of (codes "7") 7 ∷ read_of (codes "8") 8 ∷
    read_of (codes "9") 9 ∷ read_of (codes "10") 10 ∷ read_of (codes "11") 11 ∷ read_of (codes "12") 12 ∷ read_of (codes "13") 13 ∷ read_of (codes "14") 14 ∷ read_of (codes "15") 15 ∷ read_of (codes "16") 16 ∷ []

-- No sample can be made to match the pattern.
abbrev pub IsShownByNone : List ℕ → Type 0
IsShownByNone pattern = All (IsWithoutIn pattern) samples
