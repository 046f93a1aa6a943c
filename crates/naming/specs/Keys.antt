-- Lines `key C ^Z ..`: keys pressed with Ctrl, and bytes in hexadecimal.
use Rattle.std.specs.Prelude.{ℕ, ◌-◌, ◌==◌, ◌&&◌, nat_le, Bool, List, [], ◌∷◌, ◌++◌, Option, None, Some, drop, get_or, length, take, if◌then◌else◌}
use Rattle.std.specs.Char.{to_ascii_uppercase}
use Rattle.std.specs.List.{list_any}
use Rattle.std.specs.Option.{is_none, option_map_or}
use Rattle.text.specs.Numbers.{two_digits}
use Rattle.text.specs.Words.{before_comment, is_separator, words}
use Rattle.naming.specs.Lines.{Renamed}
use Rattle.naming.specs.Sets.{behind_second}

-- the byte of Ctrl and a character, whose letters are capitals: `^?`, and `^@` to `^_`
abbrev pub byte_with_control : ℕ → Option ℕ
byte_with_control b = if b == 63 then Some 127 else if nat_le 64 b && nat_le b 95 then Some (b - 64) else None

-- the byte of a key with `^` before it
abbrev pub control : List ℕ → Option ℕ
control (c ∷ b ∷ []) = if c == 94 then byte_with_control (to_ascii_uppercase b) else None
control _ = None

-- The byte of a key replaces it. Any other word stays.
unfoldable pub key_named : List ℕ → List ℕ
key_named word = option_map_or two_digits (control word) word

-- True if the word begins with `^`, but is not a key.
unfoldable pub is_no_key : List ℕ → Bool
is_no_key word = (get_or word 0 0 == 94) && is_none (control word)

-- a text in which bytes replace keys; `begun` is the part of its first word that was read
abbrev pub keys_from : List ℕ → List ℕ → List ℕ
keys_from begun [] = key_named begun
keys_from begun (b ∷ bs) = if is_separator b then key_named begun ++ b ∷ keys_from [] bs else keys_from (begun ++ b ∷ []) bs

-- the line that replaces a line `key`, whose keys follow its second word
unfoldable pub keys_named : List ℕ → Renamed
keys_named line =
    let code = before_comment line in
    let keys = behind_second code in
    record { text = take (length code - length keys) code ++ (keys_from [] keys ++ drop (length code) line); is_refused = list_any is_no_key (words keys) }
