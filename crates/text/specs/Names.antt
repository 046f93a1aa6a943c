-- Names and their numbers.
use Rattle.std.specs.Prelude.{ℕ, ◌+◌, ◌*◌, List, [], ◌∷◌, if◌then◌else◌, Option, is_some, option_map, find, Result, Ok, Err, bytes_eq}
use Rattle.text.specs.declared.fault.Reason.{Reason}
use Rattle.text.specs.declared.fault.Reason.TheVariants.{UnknownWord, NameTwice}
use Rattle.text.specs.declared.names.Definition.{Definition}
use Rattle.text.specs.Words.{is_name}
use Rattle.text.specs.Reading.{◌>>=◌}

-- a word as a name
abbrev pub name : List ℕ → Result (List ℕ) Reason
name w = if is_name w then Ok w else Err UnknownWord

-- the number of a name, if it is defined: the code address of a label, or the number of a program
unfoldable pub defined : List ℕ → List Definition → Option ℕ
defined n ds = option_map (λ d. d.number) (find (λ d. bytes_eq d.name n) ds)

-- a name as one number: its first byte in the lowest eight bits
abbrev pub key_of : List ℕ → ℕ
key_of [] = 0
key_of (b ∷ bs) = b + 256 * key_of bs

-- a word as a name that is not defined yet
abbrev pub new_name : List Definition → List ℕ → Result (List ℕ) Reason
new_name ds w = name w >>= λ n. if is_some (defined n ds) then Err NameTwice else Ok n
