-- The comparison of a text with another one.
use Rattle.std.specs.Prelude.{◌≡◌, ◌≢◌, ℕ, ◌+◌, ◌==◌, List, ◌∷◌, ◌++◌, Option, None, Some, count_by, length, option_to_list, slice_get, take}
use Rattle.inputs.specs.Reads.{AreInFiles, Contents, Text}
use Rattle.kernel.specs.Headline.{RunsTexts}
use Rattle.posix.specs.declared.event.Event.{Event}
use Rattle.posix.specs.Common.{Line, print, State}

-- Two texts are the same before a position. At the position they differ, or one of them ends.
pub record DifferAt (text other : List ℕ) (place : ℕ) : Type 0 where
  pub front : take place text ≡ take place other
  pub there : slice_get text place ≢ slice_get other place

-- the number of the line that contains a position of a text
abbrev pub line_at : List ℕ → ℕ → ℕ
line_at text place = count_by (λ b. b == 10) (take place text) + 1

-- The texts are the same, or this is the first line in which they differ.
abbrev pub Compares : List ℕ → List ℕ → Option ℕ → Type 0
Compares text other None = text ≡ other
Compares text other (Some number) = (place : ℕ) × DifferAt text other place × (number ≡ line_at text place)

-- what was put while it was compared with a text: the first bytes of the text and, if there is one, another byte
abbrev pub taken_beside : List ℕ → ℕ → Option ℕ → List ℕ
taken_beside text same other = take same text ++ option_to_list other

-- the length of the text, the text, and what was put while it was compared with the text
abbrev pub held : List ℕ → ℕ → Option ℕ → List ℕ
held text same other = length text ∷ text ++ taken_beside text same other

-- P holds of the printed trace of a run of the machine on the world and events in these files.
pub record OfRun (contents : Contents) (names : Text × Text) (P : List ℕ → Type 0) : Type 0 where
  pub world_bytes : List ℕ
  pub event_bytes : List ℕ
  pub in_files : AreInFiles contents names world_bytes event_bytes
  pub events : List Event
  pub lines : List Line
  pub last : State
  pub run : RunsTexts world_bytes event_bytes events lines last
  pub of_trace : P (print lines)
