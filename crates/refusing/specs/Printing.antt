-- The printed form of a report.
use Rattle.std.specs.Prelude.{ℕ, ◌++◌, List, [], ◌∷◌, codes, decimal}
use Rattle.refusing.specs.Sections.{section_line}
use Rattle.refusing.specs.Marks.{blanks, marks, shown}
use Rattle.refusing.specs.declared.telling.Section.{Section}
use Rattle.refusing.specs.declared.telling.Shown.{Shown}
use Rattle.refusing.specs.declared.telling.Shown.TheVariants.{File, FirstLine, Line}
use Rattle.refusing.specs.declared.telling.Told.{Told}

-- ---- lines

-- the name of a file
abbrev pub file_line : List ℕ → List ℕ
file_line name = codes " --> " ++ (name ++ 10 ∷ [])

-- the name of a file, and the number of a line in it
abbrev pub place_line : List ℕ → ℕ → List ℕ
place_line name number = codes " --> " ++ (name ++ (58 ∷ [] ++ (decimal number ++ 10 ∷ [])))

-- a sentence on a line of its own
abbrev pub sentence_line : List ℕ → List ℕ
sentence_line sentence = codes "  " ++ (shown sentence ++ 10 ∷ [])

-- a line with its number
abbrev pub text_line : ℕ → List ℕ → List ℕ
text_line number line = codes "  " ++ (decimal number ++ (codes " | " ++ (shown line ++ 10 ∷ [])))

-- the message after the marks, if it is not empty
abbrev pub behind_marks : List ℕ → List ℕ
behind_marks [] = []
behind_marks (b ∷ bs) = 32 ∷ [] ++ shown (b ∷ bs)

-- the marks below that line, each in the column of what it marks, and the message
abbrev pub mark_line : ℕ → List ℕ → List ℕ → List ℕ → List ℕ
mark_line number before marked why =
    codes "  " ++ (blanks (decimal number) ++ (codes " | " ++ (blanks (shown before) ++ (marks (shown marked) ++ (behind_marks why ++ 10 ∷ [])))))

abbrev pub note_line : List ℕ → List ℕ
note_line [] = []
note_line (b ∷ bs) = sentence_line (b ∷ bs)

-- ---- all of it

abbrev pub first_lines : List ℕ → List ℕ → Shown → List ℕ
first_lines name why File = file_line name ++ sentence_line why
first_lines name why FirstLine = place_line name 1 ++ sentence_line why
first_lines name why (Line number s) =
    place_line name number ++ (text_line number s.line.now ++ mark_line number s.before.now s.marked.now why)

-- what is printed of a text in a file with this name: message, shown line, note, and section of docs/ERRORS.md
abbrev pub told_lines : List ℕ → List ℕ → Shown → List ℕ → Section → List ℕ
told_lines name why shown note section = first_lines name why shown ++ (note_line note ++ section_line section)

-- what is printed of a rejected text in a file with this name
abbrev pub printed : List ℕ → Told → List ℕ
printed name told = told_lines name told.why.items told.shown told.note.items told.section
