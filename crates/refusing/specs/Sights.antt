-- Words in a line, and what a report shows of it.
use Rattle.std.specs.Prelude.{zero, suc, ◌≡◌, ℕ, ◌+◌, ◌-◌, ◌^◌, ◌==◌, ◌&&◌, Bool, List, [], ◌∷◌, bytes_eq, codes, drop, length, min, nat_lt, take, unwrap_or, if◌then◌else◌}
use Rattle.std.specs.List.{slice_get}
use Rattle.text.specs.Words.{before_comment, behind_word, from_word, line_words}
use Rattle.text.specs.declared.fault.Reason.{Reason}
use Rattle.text.specs.declared.fault.Reason.TheVariants.{UnknownWord, BadNumber, OutOfRange, NameUnknown, NameTwice, LineTooLong, EndMissing, NoProgram, Memory}
use Rattle.refusing.specs.declared.sight.Sight.{Sight}
use Rattle.refusing.specs.declared.sight.Words.{Words}

-- a carriage return at the end of a line isn't shown
abbrev pub without_return : List ℕ → List ℕ
without_return line = if bytes_eq (drop (length line - 1) line) (13 ∷ []) then take (length line - 1) line else line

-- what follows the first `count` words
abbrev pub behind_words : ℕ → List ℕ → List ℕ
behind_words zero text = text
behind_words (suc count) text = behind_words count (behind_word text)

-- ---- words that are marked

-- a line without its comment, from the word at this place on, where places count from 0; nothing if there is no such
-- word
abbrev pub from_place : ℕ → List ℕ → List ℕ
from_place place line = from_word (behind_words place (before_comment line))

-- these words of a line, from the first byte to the last; and what is before them
abbrev pub marked_words : Words → List ℕ → List ℕ
marked_words w line = take (length (from_place w.first line) - length (behind_words (suc w.more) (from_place w.first line))) (from_place w.first line)

abbrev pub before_words : Words → List ℕ → List ℕ
before_words w line = take (length (before_comment line) - length (from_place w.first line)) (before_comment line)

-- how many bytes a line has up to the end of its last word
abbrev pub words_len : List ℕ → ℕ
words_len line = length (before_comment line) - length (behind_words (length (line_words line)) (before_comment line))

-- What is before a missing word: the line up to the end of its last word, and the byte after that, if there is one. It
-- is nothing if the line has no words.
abbrev pub before_missing : List ℕ → List ℕ
before_missing line = if words_len line == 0 then [] else take (words_len line + 1) line

-- ---- what is shown of a line

-- the line, what is in it before the marked words, and the marked words
pub record View : Type 0 where
  pub line : List ℕ
  pub before : List ℕ
  pub marked : List ℕ

abbrev pub view_of : Sight → View
view_of s = record { line = s.line.now; before = s.before.now; marked = s.marked.now }

-- A word is missing: the mark is after the last word, and marks no bytes.
abbrev pub missing_in : List ℕ → View
missing_in line = record { line = line; before = before_missing line; marked = [] }

-- These words are marked; or the first of them is missing, which the mark shows.
abbrev pub marked_in : List ℕ → Words → View
marked_in line w =
    if length (from_place w.first line) == 0 then missing_in line else record { line = line; before = before_words w line; marked = marked_words w line }

-- If a line has more than 60 bytes, only the first 60 are shown, all marked. Otherwise its first word is marked.
abbrev pub beginning_of : List ℕ → View
beginning_of line =
    if nat_lt 60 (length line) then record { line = take 60 line; before = []; marked = take 60 line } else marked_in line (record { first = 0; more = 0 })

-- ---- the words that a user wrote

-- true if this is the first word of the line
abbrev pub begins_with : List ℕ → List ℕ → Bool
begins_with line word = bytes_eq (unwrap_or (slice_get (line_words line) 0) []) word

-- how many more words a line has as the user wrote it than with numbers for names
abbrev pub others_of : List ℕ → List ℕ → ℕ
others_of line given = length (line_words given) - length (line_words line)

-- The words that a user wrote for the word at a place of a line. `line` has numbers for names, and `given` is as the
-- user wrote it. The value of a `set` may be several words, so what follows it is that much farther right. All keys of
-- a `type` line come from its text, which begins at place 2. Any other word is at its own place.
abbrev pub words_at : List ℕ → List ℕ → ℕ → Words
words_at line given place =
    if begins_with line (codes "set") && (place == 2) then record { first = 2; more = others_of line given }
    else if begins_with line (codes "set") && nat_lt 2 place then record { first = min (place + others_of line given) (2 ^ 64 - 1); more = 0 }
    else if begins_with given (codes "type") && nat_lt 2 place then record { first = 2; more = 0 }
    else record { first = place; more = 0 }

-- What is shown of a line that is rejected for this reason. `line` has numbers for names, and `given` is as the user
-- wrote it. If the line is too long, its beginning is marked. If the text ends too early, the mark shows that a word is
-- missing. Otherwise the words for the word at this place are marked.
abbrev pub view_at : Reason → List ℕ → List ℕ → ℕ → View
view_at LineTooLong line given place = beginning_of given
view_at EndMissing line given place = missing_in given
view_at NoProgram line given place = missing_in given
view_at UnknownWord line given place = marked_in given (words_at line given place)
view_at BadNumber line given place = marked_in given (words_at line given place)
view_at OutOfRange line given place = marked_in given (words_at line given place)
view_at NameUnknown line given place = marked_in given (words_at line given place)
view_at NameTwice line given place = marked_in given (words_at line given place)
view_at Memory line given place = marked_in given (words_at line given place)

-- The sight is this view of the line, for some place.
abbrev pub IsSight : Reason → List ℕ → List ℕ → Sight → Type 0
IsSight reason line given s = (place : ℕ) × (view_of s ≡ view_at reason line given place)
