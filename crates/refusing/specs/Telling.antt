-- Which line of a text is shown.
use Rattle.std.specs.Prelude.{◌≡◌, ◌⊎◌, ℕ, List, [], None, Some, unwrap_or}
use Rattle.text.specs.declared.fault.Reason.{Reason}
use Rattle.text.specs.declared.fault.Reason.TheVariants.{UnknownWord, BadNumber, OutOfRange, NameUnknown, NameTwice, LineTooLong, EndMissing, NoProgram, Memory}
use Rattle.text.specs.declared.fault.TextFault.{TextFault}
use Rattle.refusing.specs.Printing.{told_lines}
use Rattle.judging.specs.Lines.{last_with_words, line_of}
use Rattle.refusing.specs.Sights.{IsSight, without_return}
use Rattle.refusing.specs.declared.telling.Section.{Section}
use Rattle.refusing.specs.declared.telling.Shown.{Shown}
use Rattle.refusing.specs.declared.telling.Shown.TheVariants.{File, FirstLine, Line}

-- The text ends too early.
abbrev pub EndsEarly : Reason → Type 0
EndsEarly reason = (reason ≡ EndMissing) ⊎ (reason ≡ NoProgram)

-- The number of the line that is shown. It is the line of the fault, with two exceptions. A name may be unknown because
-- of a mistake in another line. If the text ends too early, it is the last line with words before the line of the
-- fault. `named` is the text with numbers for its names.
abbrev pub IsNumber : Reason → ℕ → List ℕ → ℕ → Type 0
IsNumber NameUnknown line named number = Unit {0}
IsNumber EndMissing line named number = last_with_words line named ≡ Some number
IsNumber NoProgram line named number = last_with_words line named ≡ Some number
IsNumber UnknownWord line named number = number ≡ line
IsNumber BadNumber line named number = number ≡ line
IsNumber OutOfRange line named number = number ≡ line
IsNumber NameTwice line named number = number ≡ line
IsNumber LineTooLong line named number = number ≡ line
IsNumber Memory line named number = number ≡ line

-- the line with a number; empty if there is none
abbrev pub line_or_empty : ℕ → List ℕ → List ℕ
line_or_empty number text = unwrap_or (line_of number text) []

-- The line with this number is shown, and is rejected for this reason; or the text has no such line. `line` is that
-- line with numbers for names.
abbrev pub IsLineShown : Reason → ℕ → List ℕ → List ℕ → Shown → Type 0
IsLineShown reason number text line File = line_of number text ≡ None
IsLineShown reason number text line FirstLine = ⊥
IsLineShown reason number text line (Line n s) =
    (n ≡ number) × ((given : List ℕ) × (line_of number text ≡ Some given) × IsSight reason line (without_return given) s)

-- What is shown of a text with this fault. `text` is as the user wrote it, and `named` has numbers for its names. Only
-- the number of the first line is shown, which must have the fault. Or no line is shown: the text ends too early and no
-- line before the fault has words, or the text has no line with the number. Otherwise a line is shown.
abbrev pub IsShownOf : TextFault → List ℕ → List ℕ → Shown → Type 0
IsShownOf why text named FirstLine = why.line ≡ 1
IsShownOf why text named File = (EndsEarly why.reason × (last_with_words why.line named ≡ None)) ⊎ ((number : ℕ) × IsNumber why.reason why.line named number × (line_of number text ≡ None))
IsShownOf why text named (Line number s) =
    IsNumber why.reason why.line named number × IsLineShown why.reason number text (line_or_empty number named) (Line number s)

-- This is printed of a text in a file with this name, which has this fault. `text` is as the user wrote it, and `named`
-- has numbers for its names.
abbrev pub IsToldOf : List ℕ → List ℕ → List ℕ → TextFault → Shown → List ℕ → Type 0
IsToldOf name text named why shown out =
    (sentence note : List ℕ) × (section : Section) × IsShownOf why text named shown × (out ≡ told_lines name sentence shown note section)

-- The line with this number is shown.
abbrev pub ShowsLine : Shown → ℕ → Type 0
ShowsLine File number = ⊥
ShowsLine FirstLine number = ⊥
ShowsLine (Line n s) number = n ≡ number
