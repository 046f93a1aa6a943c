-- Texts to find in the lines of a trace.
use Rattle.std.specs.Prelude.{ℕ, ◌||◌, Bool, false, List, [], ◌∷◌, map, if◌then◌else◌}
use Rattle.std.specs.List.{list_any}
use Rattle.posix.specs.declared.entry.Entry.{Entry}
use Rattle.posix.specs.Common.{Line}
use Rattle.schedules.specs.Families.{Spots}
use Rattle.counting.specs.Patterns.{has_pattern}
use Rattle.counting.specs.Tallies.{TallyView, both, with_schedule_if}

-- One of the lines matches the text, which is a pattern.
abbrev pub have_text : List ℕ → List Line → Bool
have_text text lines = list_any (λ l. has_pattern text l.entry) lines

-- A text, whether a line so far of the current run has it, and the schedules that have it.
pub record FindView : Type 0 where
  pub text : List ℕ
  pub is_there : Bool
  pub tally : TallyView

-- After one more line of the current run.
abbrev pub looked_at : Entry → FindView → FindView
looked_at entry f = record f { is_there = f.is_there || has_pattern f.text entry }

-- After the last line of the run of a schedule.
abbrev pub after_run : Spots → FindView → FindView
after_run ps f = record f { is_there = false; tally = with_schedule_if f.is_there ps f.tally }

-- After more lines of the current run.
abbrev pub saw : List Line → FindView → FindView
saw lines f = record f { is_there = f.is_there || have_text f.text lines }

-- ---- texts that are marked

-- For each text, whether it was marked, or one of these lines has it.
abbrev pub marked : List (List ℕ) → List Line → List Bool → List Bool
marked [] lines marks = marks
marked (t ∷ ts) lines [] = []
marked (t ∷ ts) lines (m ∷ marks) = (m || have_text t lines) ∷ marked ts lines marks

abbrev pub unmarked : List (List ℕ) → List Bool
unmarked texts = map (λ t. false) texts

-- With the schedules of t.
abbrev pub with_many : TallyView → FindView → FindView
with_many t f = record f { tally = both f.tally t }

-- With the schedules of t, whose lines have the marked texts.
abbrev pub with_marked : TallyView → List Bool → List FindView → List FindView
with_marked t marks [] = []
with_marked t [] (f ∷ fs) = f ∷ fs
with_marked t (m ∷ marks) (f ∷ fs) = (if m then with_many t f else f) ∷ with_marked t marks fs
