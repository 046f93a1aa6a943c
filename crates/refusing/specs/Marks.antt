-- Text in a form that is safe to show on a terminal, and the marks below it.
use Rattle.std.specs.Prelude.{ℕ, ◌-◌, ◌==◌, ◌&&◌, ◌||◌, ◌++◌, not, Bool, List, [], ◌∷◌, codes, length, take, nat_le, nat_lt, flat_map, if◌then◌else◌}
use Rattle.std.specs.List.{list_all, list_any}
use Rattle.text.specs.Numbers.{two_digits}

-- ---- a text

-- printable ASCII, a space or a tab
abbrev pub is_shown : ℕ → Bool
is_shown b = (b == 9) || (nat_le 32 b && nat_le b 126)

-- a continuation byte of UTF-8
abbrev pub continues : ℕ → Bool
continues b = nat_le 128 b && nat_le b 191

-- how many continuation bytes follow the first byte of a character; 0 if it begins no character of several bytes
abbrev pub bytes_behind : ℕ → ℕ
bytes_behind b = if nat_le 194 b && nat_le b 223 then 1
    else if nat_le 224 b && nat_le b 239 then 2
    else if nat_le 240 b && nat_le b 244 then 3
    else 0

-- the character of these bytes controls a terminal: one of U+0080 to U+009F
abbrev pub is_control : ℕ → List ℕ → Bool
is_control b behind = (b == 194) && list_any (λ a. nat_lt a 160) (take 1 behind)

-- at least `count` bytes follow, and the first `count` are continuation bytes
abbrev pub go_on : ℕ → List ℕ → Bool
go_on count behind = nat_le count (length behind) && list_all continues (take count behind)

-- How many of the following bytes belong to the character that this byte begins. It is 0 if the byte begins no
-- character of several bytes that is safe to show.
abbrev pub more_of : ℕ → List ℕ → ℕ
more_of b behind = if go_on (bytes_behind b) behind && not (is_control b behind) then bytes_behind b else 0

-- the number of a byte, as `\x1B`
abbrev pub by_number : ℕ → List ℕ
by_number b = codes "\\x" ++ two_digits b

-- a byte as it is, if it is safe to show or begins a character with so many other bytes; otherwise its number
abbrev pub piece : ℕ → ℕ → List ℕ
piece b more = if is_shown b || nat_lt 0 more then b ∷ [] else by_number b

-- a text that begins with so many bytes of a character that has begun
abbrev pub shown_from : ℕ → List ℕ → List ℕ
shown_from more [] = []
shown_from more (b ∷ bs) = if nat_lt 0 more then b ∷ shown_from (more - 1) bs else piece b (more_of b bs) ++ shown_from (more_of b bs) bs

-- A text in a form that is safe to show. A byte that is not part of a character, or that would control the terminal,
-- is shown by its number.
abbrev pub shown : List ℕ → List ℕ
shown text = shown_from 0 text

-- ---- marks below it

-- the mark below a byte of a shown text, or `tab` if the byte is a tab; nothing if it is a continuation byte
abbrev pub column : ℕ → ℕ → ℕ → List ℕ
column mark tab b = if b == 9 then tab ∷ [] else if continues b then [] else mark ∷ []

abbrev pub columns : ℕ → ℕ → List ℕ → List ℕ
columns mark tab text = flat_map (column mark tab) text

-- spaces and tabs, as wide as a shown text
abbrev pub blanks : List ℕ → List ℕ
blanks text = columns 32 9 text

-- a mark below each character of a shown text; one mark if the text is empty
abbrev pub marks : List ℕ → List ℕ
marks [] = 94 ∷ []
marks (b ∷ bs) = columns 94 94 (b ∷ bs)
