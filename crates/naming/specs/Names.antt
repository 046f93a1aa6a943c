-- The numbers of names: of one name, or of several that are combined.
use Rattle.std.specs.Prelude.{ℕ, ℤ, pos, ◌==◌, ◌||◌, Bool, true, false, List, [], ◌∷◌, ◌++◌, Option, None, Some, bit_or, codes, drop, take, length, option_map, if◌then◌else◌}
use Rattle.std.specs.Int.{cast_signed, cast_unsigned, int_wrapping_sub, w64}
use Rattle.std.specs.Option.{option_and_then, option_map_or, option_or}
use Rattle.std.specs.Str.{bytes_eq}
use Rattle.posix.specs.Common.{signal_in}
use Rattle.posix.specs.SignalSets.{just}
use Rattle.text.specs.Words.{is_separator}
use Rattle.wording.specs.Names.{named_as}
use Rattle.wording.specs.Names as wording
use Rattle.wording.specs.declared.table.Kind.{Kind}
use Rattle.wording.specs.declared.table.Kind.TheVariants.{Signal, Errno, WaitOption, Children, Handler, Flag, How}
use Rattle.naming.specs.declared.number.Form.{Form}
use Rattle.naming.specs.declared.number.Form.TheVariants.{Joined, Set}
use Rattle.naming.specs.declared.number.Meaning.{Meaning}
use Rattle.naming.specs.declared.number.Sum.{Sum}

-- ---- one name

-- SIGRTMIN+0 to SIGRTMIN+30 are 34 to 64.
unfoldable pub realtime : List ℕ → Option ℤ
realtime name = if bytes_eq (take 3 name) (codes "SIG") then wording.realtime (drop 3 name) else None

-- The number of an error is negative, because it is the result of a call that fails.
abbrev pub signed : Kind → ℤ → ℤ
signed Errno number = int_wrapping_sub w64 (pos 0) number
signed Signal number = number
signed WaitOption number = number
signed Children number = number
signed Handler number = number
signed Flag number = number
signed How number = number

-- the kind and the number of a name in the table, or of a real-time signal
unfoldable pub meaning_of : List ℕ → Option Meaning
meaning_of name = option_or (option_map (λ m. record { kind = m.0; number = signed m.0 m.1 }) (named_as name)) (option_map (λ n. record { kind = Signal; number = n }) (realtime name))

-- ---- several names

-- Only signals, wait options and flags can be combined: signals as a set, options and flags by bitwise OR.
abbrev pub can_join : Kind → Bool
can_join Signal = true
can_join Errno = false
can_join WaitOption = true
can_join Children = false
can_join Handler = false
can_join Flag = true
can_join How = false

abbrev pub bits_of : Kind → ℤ → ℕ
bits_of Signal number = option_map_or just (signal_in number) 0
bits_of Errno number = cast_unsigned w64 number
bits_of WaitOption number = cast_unsigned w64 number
bits_of Children number = cast_unsigned w64 number
bits_of Handler number = cast_unsigned w64 number
bits_of Flag number = cast_unsigned w64 number
bits_of How number = cast_unsigned w64 number

abbrev pub place_of : Kind → ℕ
place_of Signal = 0
place_of Errno = 1
place_of WaitOption = 2
place_of Children = 3
place_of Handler = 4
place_of Flag = 5
place_of How = 6

abbrev pub is_same : Kind → Kind → Bool
is_same a b = place_of a == place_of b

-- All names have the kind of the first name.
abbrev pub add_by : Option Meaning → Sum → Meaning → Option Sum
add_by None sum known = Some (record { first = Some known; is_one = true; bits = bit_or sum.bits (bits_of known.kind known.number) })
add_by (Some first) sum known =
    if is_same first.kind known.kind then Some (record { first = Some first; is_one = false; bits = bit_or sum.bits (bits_of known.kind known.number) }) else None

abbrev pub add : Sum → Meaning → Option Sum
add sum known = add_by sum.first sum known

-- Only signals may be in braces.
abbrev pub fits : Form → Kind → Bool
fits Joined kind = true
fits Set kind = is_same kind Signal

-- Only in braces may a name be empty.
abbrev pub add_nothing : Form → Sum → Option Sum
add_nothing Joined sum = None
add_nothing Set sum = Some sum

abbrev pub add_name : Form → Sum → List ℕ → Option Sum
add_name form sum name = if length name == 0 then add_nothing form sum
    else option_and_then (λ known. if fits form known.kind then add sum known else None) (meaning_of name)

abbrev pub add_names : Form → Sum → List (List ℕ) → Option Sum
add_names form sum [] = Some sum
add_names form sum (name ∷ more) = option_and_then (λ s. add_names form s more) (add_name form sum name)

-- A `|` separates names. In braces, a separator of words does so, too.
abbrev pub divides : Form → ℕ → Bool
divides Joined b = b == 124
divides Set b = (b == 124) || is_separator b

-- the names of a text; `begun` is the part of its first name that was read
abbrev pub names_from : Form → List ℕ → List ℕ → List (List ℕ)
names_from form begun [] = begun ∷ []
names_from form begun (b ∷ bs) = if divides form b then begun ∷ names_from form [] bs else names_from form (begun ++ b ∷ []) bs

abbrev pub names_in : Form → List ℕ → List (List ℕ)
names_in form text = names_from form [] text

abbrev pub nothing : Sum
nothing = record { first = None; is_one = false; bits = 0 }

-- A single name outside braces has its own number. Otherwise, the number is the bits of all names.
abbrev pub number_by : Form → Option Meaning → Sum → Option ℤ
number_by form None sum = Some (cast_signed w64 sum.bits)
number_by Joined (Some first) sum = if sum.is_one then Some first.number else if can_join first.kind then Some (cast_signed w64 sum.bits) else None
number_by Set (Some first) sum = if can_join first.kind then Some (cast_signed w64 sum.bits) else None

abbrev pub sum_number : Form → Sum → Option ℤ
sum_number form sum = number_by form sum.first sum

-- the number of names; `None` if a name is rejected
unfoldable pub number_of : Form → List ℕ → Option ℤ
number_of form text = option_and_then (λ sum. sum_number form sum) (add_names form nothing (names_in form text))
