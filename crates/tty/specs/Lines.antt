-- Lines that wait to be read, as bytes and lengths, and what a read takes from them.
use Rattle.std.specs.Prelude.{◌≡◌, ℕ, ◌≤◌, min, List, [], ◌∷◌, length, sum, take, drop, Option, MatchOption}
use Rattle.std.specs.List.{AllByRecursion}
use Rattle.posix.specs.Common.{most_lines, most_waiting}
use Rattle.circular_buffer.specs.Buffer.{Buffer}
use Rattle.tty.specs.Limits.{most_in_line}

-- the bytes, cut into lines of these lengths
abbrev pub cut : List ℕ → List ℕ → List (List ℕ)
cut [] bytes = []
cut (n ∷ ns) bytes = take n bytes ∷ cut ns (drop n bytes)

-- the lengths are those of the lines in the bytes
pub record AreLines (lengths bytes : Buffer ℕ) : Type 0 where
  pub room : lengths.capacity ≡ most_lines
  pub room_for_bytes : bytes.capacity ≡ most_waiting
  pub few : length lengths.items ≤ most_lines
  pub few_bytes : length bytes.items ≤ most_waiting
  pub all : sum lengths.items ≡ length bytes.items
  pub each : AllByRecursion (λ n. n ≤ most_in_line) lengths.items

-- `count` bytes of the first line were moved to the front of a slice
pub record TakesLine (lines : List (List ℕ)) (before after : List ℕ) (count : ℕ) : Type 0 where
  pub line : List ℕ
  pub later : List (List ℕ)
  pub is : lines ≡ line ∷ later
  pub number : count ≡ min (length before) (length line)
  pub bytes : take count after ≡ take (length before) line
  pub rest : drop count after ≡ drop count before

-- what a read returns, and the slice after it
abbrev pub Takes : List (List ℕ) → List ℕ → List ℕ → Option ℕ → Type 0
Takes lines before after result = MatchOption result ((lines ≡ []) × (after ≡ before)) (λ count. TakesLine lines before after count)
