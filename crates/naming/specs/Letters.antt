-- Lines `type C "TEXT"`, and the letters of a typed text.
use Rattle.std.specs.Prelude.{◌<◌, ℕ, ◌-◌, ◌==◌, ◌&&◌, ◌||◌, not, nat_le, Bool, List, [], ◌∷◌, ◌++◌, Option, None, Some, codes, drop, get_or, length, take, if◌then◌else◌}
use Rattle.std.specs.Char.{is_ascii_hexdigit}
use Rattle.std.specs.List.{list_any}
use Rattle.std.specs.Option.{option_and_then}
use Rattle.text.specs.Numbers.{two_digits}
use Rattle.text.specs.Words.{behind_word, first_word, from_word, is_separator}
use Rattle.naming.specs.Lines.{IsOneLine, Renamed, renamed_as}
use Rattle.naming.specs.declared.type_line.Letter.{Letter}
use Rattle.naming.specs.declared.type_line.Letter.TheVariants.{Byte, Digits, End}

-- ---- letters

-- the byte of an escape of one letter
abbrev pub unescaped : ℕ → Option ℕ
unescaped b = if b == 110 then Some 10 else if b == 116 then Some 9 else if b == 114 then Some 13
    else if (b == 92) || (b == 34) then Some b else None

-- what was read of a letter so far
pub data Begun : Type 0 where
  Nothing : Begun
  Backslash : Begun
  Hex : Begun  -- `\x`
  HexDigit : ℕ → Begun

-- bytes in hexadecimal and another byte, with a space between two bytes
abbrev pub with_digits : List ℕ → List ℕ → List ℕ
with_digits bytes digits = (if length bytes == 0 then bytes else bytes ++ 32 ∷ []) ++ digits

-- The bytes read so far and the bytes of all letters before the closing `"`; and what follows this `"`. `None` if an
-- escape is unknown or the `"` is missing.
abbrev pub letters_from : List ℕ → Begun → List ℕ → Option (List ℕ × List ℕ)
letters_from bytes begun [] = None
letters_from bytes Nothing (b ∷ bs) = if b == 34 then Some (bytes, bs)
    else if b == 92 then letters_from bytes Backslash bs
    else letters_from (with_digits bytes (two_digits b)) Nothing bs
letters_from bytes Backslash (b ∷ bs) = if b == 120 then letters_from bytes Hex bs
    else option_and_then (λ byte. letters_from (with_digits bytes (two_digits byte)) Nothing bs) (unescaped b)
letters_from bytes Hex (b ∷ bs) = if is_ascii_hexdigit b then letters_from bytes (HexDigit b) bs else None
letters_from bytes (HexDigit high) (b ∷ bs) = if is_ascii_hexdigit b then letters_from (with_digits bytes (high ∷ b ∷ [])) Nothing bs else None

-- the result of `letters_from` if this letter comes first
abbrev pub letters_behind : List ℕ → Letter → Option (List ℕ × List ℕ)
letters_behind bytes (Byte byte rest) = letters_from (with_digits bytes (two_digits byte)) Nothing rest.now
letters_behind bytes (Digits digits rest) = letters_from (with_digits bytes digits) Nothing rest.now
letters_behind bytes (End rest) = Some (bytes, rest.now)

-- What follows a letter is shorter than the text.
abbrev pub IsShorter : List ℕ → Letter → Type 0
IsShorter text (Byte byte rest) = length rest.now < length text
IsShorter text (Digits digits rest) = length rest.now < length text
IsShorter text (End rest) = length rest.now < length text

-- No line feed follows a letter, or is one of its two digits.
abbrev pub IsOneLineLetter : Letter → Type 0
IsOneLineLetter (Byte byte rest) = IsOneLine rest.now
IsOneLineLetter (Digits digits rest) = IsOneLine digits × IsOneLine rest.now
IsOneLineLetter (End rest) = IsOneLine rest.now

-- ---- the line

-- True if a text has at least one byte, and nothing, `#` or a separator follows its closing `"`.
abbrev pub is_whole : List ℕ → List ℕ → Bool
is_whole bytes [] = not (length bytes == 0)
is_whole bytes (b ∷ bs) = not (length bytes == 0) && ((b == 35) || is_separator b)

-- the line, if it has at most 200 bytes
abbrev pub if_short : List ℕ → Option (List ℕ)
if_short line = if nat_le (length line) 200 then Some line else None

-- the line `key`, made of the part before the word `type`, the part between that word and the opening `"` of the text,
-- and what follows this `"`
abbrev pub typed_from : List ℕ → List ℕ → List ℕ → Option (List ℕ)
typed_from indent console text = option_and_then (λ ended. if is_whole ended.0 ended.1 then if_short (indent ++ (codes "key" ++ (console ++ (ended.0 ++ ended.1)))) else None)
    (letters_from [] Nothing text)

-- the line `key` for a line `type` whose console has neither `"` nor `#`, and whose text begins with `"`
abbrev pub typed : List ℕ → Option (List ℕ)
typed line =
    let behind_type = behind_word line in
    let behind = from_word (behind_word behind_type) in
    if (get_or behind 0 0 == 34) && not (list_any (λ b. (b == 34) || (b == 35)) (first_word behind_type))
    then typed_from (take (length line - length (from_word line)) line) (take (length behind_type - length behind) behind_type) (drop 1 behind)
    else None

-- the line that replaces a line `type`
unfoldable pub type_named : List ℕ → Renamed
type_named line = renamed_as line (typed line)
