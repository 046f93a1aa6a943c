-- Patterns of words, which `jobk explore --find` looks for in the lines of a trace.
use Rattle.std.specs.Prelude.{ℕ, ◌==◌, ◌||◌, ◌&&◌, Bool, false, List, [], ◌∷◌, length, codes, ℤ, unsigned_abs, Option, Some, None}
use Rattle.std.specs.List.{join_with_byte}
use Rattle.std.specs.Str.{bytes_eq}
use Rattle.posix.specs.declared.entry.Entry.{Entry}
use Rattle.posix.specs.declared.entry.Entry.TheVariants.{Noted, Called, Moved, Reported, Looked, NoMemory, Marked, Handled, Discarded, Stopped, Returned, Ended, Halted}
use Rattle.posix.specs.declared.waits.WaitCall.TheVariants.{Waitpid, Waitid}
use Rattle.posix.specs.Common.{decimal_value, words_of}
use Rattle.trace.specs.Words.{behind, word}
use Rattle.wording.specs.declared.table.Kind.{Kind}
use Rattle.wording.specs.declared.table.Kind.TheVariants.{Signal, Errno}
use Rattle.wording.specs.Names.{number_named}

-- A line without the event number and the space after it.
abbrev pub shown : Entry → List ℕ
shown entry = join_with_byte 32 (words_of entry)

-- For each word of the line, which names can match it: those of signals, those of errors, or none.
abbrev pub kinds_of : Entry → List (Option Kind)
kinds_of (Noted pid value) = None ∷ None ∷ None ∷ []
kinds_of (Called pid call result) = None ∷ None ∷ None ∷ None ∷ Some Errno ∷ []
kinds_of (Moved pid call bytes) = None ∷ None ∷ None ∷ None ∷ None ∷ None ∷ None ∷ []
kinds_of (Reported pid Waitpid child status) = None ∷ None ∷ None ∷ None ∷ None ∷ None ∷ None ∷ []
kinds_of (Reported pid Waitid child status) = None ∷ None ∷ None ∷ None ∷ None ∷ None ∷ None ∷ None ∷ None ∷ []
kinds_of (Looked pid child status) = None ∷ None ∷ None ∷ None ∷ None ∷ None ∷ None ∷ None ∷ None ∷ []
kinds_of (NoMemory pid call) = None ∷ None ∷ None ∷ None ∷ Some Errno ∷ None ∷ []
kinds_of (Marked pid mark) = None ∷ None ∷ None ∷ None ∷ None ∷ None ∷ None ∷ []
kinds_of (Handled pid sig value sender) = None ∷ None ∷ Some Signal ∷ None ∷ None ∷ []
kinds_of (Discarded pid sig) = None ∷ None ∷ Some Signal ∷ []
kinds_of (Stopped pid sig) = None ∷ None ∷ Some Signal ∷ []
kinds_of (Returned pid) = None ∷ None ∷ []
kinds_of (Ended pid status) = None ∷ None ∷ None ∷ []
kinds_of Halted = None ∷ []

-- ---- a word of a pattern

-- The decimal value of the word is the absolute value of this number.
abbrev pub is_number : List ℕ → ℤ → Bool
is_number w z = decimal_value w == unsigned_abs z

-- The name has a number of this kind, and the digits are those of its absolute value.
abbrev pub is_named : Kind → Option (Kind × ℤ) → List ℕ → Bool
is_named Signal (Some (Signal, z)) digits = is_number digits z
is_named Errno (Some (Errno, z)) digits = is_number digits z
is_named _ _ digits = false

-- If the word is a signal, the name of a signal matches its number. If the word is a result, the name of an error
-- matches the negative of its number.
abbrev pub is_number_of : List ℕ → Option Kind → List ℕ → Bool
is_number_of name (Some Signal) w = is_named Signal (number_named name) w
is_number_of name (Some Errno) (b ∷ digits) = b == 45 && is_named Errno (number_named name) digits
is_number_of name _ w = false

-- A word of a pattern matches itself, `*` matches any word, and a name matches its number.
abbrev pub matches_word : List ℕ → Option Kind → List ℕ → Bool
matches_word sought kind w = bytes_eq sought (codes "*") || bytes_eq sought w || is_number_of sought kind w

-- ---- all words of a pattern

-- The words of the pattern match the first words of the line.
unfoldable pub matches_front : List ℕ → List (Option Kind) → List ℕ → Bool
matches_front pattern [] line = length pattern == 0
matches_front pattern (kind ∷ kinds) line = length pattern == 0 || (matches_word (word pattern) kind (word line) && matches_front (behind pattern) kinds (behind line))

-- The words of the pattern match consecutive words of the line.
unfoldable pub matches_from : List ℕ → List (Option Kind) → List ℕ → Bool
matches_from pattern [] line = matches_front pattern [] line
matches_from pattern (kind ∷ kinds) line = matches_front pattern (kind ∷ kinds) line || matches_from pattern kinds (behind line)

-- The words of the pattern match consecutive words of the line, after its event number.
unfoldable pub has_pattern : List ℕ → Entry → Bool
has_pattern pattern entry = matches_from pattern (kinds_of entry) (shown entry)
