-- How far a text is a trace, and what `lanes` draws.
use Rattle.std.specs.Prelude.{◌≡◌, ◌≢◌, ◌⊎◌, ◌+◌, ℕ, Bool, true, List, [], ◌++◌, Option, None, Some, Result, Ok, Err, IfSome, IsSomeAnd, codes, length, option_map}
use Rattle.std.specs.List.{list_all}
use Rattle.clap.specs.Words.{App, Row, fault_of, first_of, matches_of}
use Rattle.inputs.specs.Failures.{MeansOf, status_of}
use Rattle.inputs.specs.Reads.{Contents, Text}
use Rattle.inputs.specs.Words.{command_with_flag, is_used, unless_refused}
use Rattle.inputs.specs.declared.failure.FileFailure.{FileFailure}
use Rattle.inputs.specs.declared.failure.FileFailure.TheVariants.{Usage, Unread, Memory, Write}
use Rattle.laws.specs.TraceLines.{Says, is_line}
use Rattle.posix.specs.Common.{Line, print}
use Rattle.trace.specs.Lines.{IsCut, is_one_line}

-- The text is printed trace lines, each in a valid form.
pub record IsTrace (text : List ℕ) : Type 0 where
  pub lines : List Line
  pub is : text ≡ print lines
  pub forms : list_all is_line lines ≡ true

-- A text begins with a line that is not a trace line, or is a line without its line feed.
abbrev pub BeginsOther : List ℕ → Type 0
BeginsOther text = ((line : List ℕ) × (rest : List ℕ) × IsCut text line rest × ((l : Line) → Says line l → ⊥))
    ⊎ ((text ≢ []) × (is_one_line text ≡ true))

-- All lines before the line with this number are trace lines. That line is not, or has no line feed.
pub record IsFirstOther (text : List ℕ) (number : ℕ) : Type 0 where
  pub before : List ℕ
  pub rest : List ℕ
  pub is : text ≡ before ++ rest
  pub trace : IsTrace before
  pub counted : number ≡ length trace.lines + 1
  pub other : BeginsOther rest

-- The whole text is a trace, or the line with this number is the first that is not a trace line.
abbrev pub IsTraceUpTo : List ℕ → Option ℕ → Type 0
IsTraceUpTo text None = IsTrace text
IsTraceUpTo text (Some number) = IsFirstOther text number

-- ---- what is drawn

-- `lanes TRACE`, with the flag `--svg`
abbrev pub command_line : App
command_line = command_with_flag (codes "lanes") (codes "trace") (codes "svg")

-- the file that the arguments name, and whether the flag is used
abbrev pub asked_in : List Row → Option (Text × Bool)
asked_in rows = option_map (λ name. (name, is_used (codes "svg") rows)) (first_of (codes "trace") rows)

abbrev pub drawing_asked : List Text → Option (Text × Bool)
drawing_asked words = unless_refused (fault_of command_line words) (asked_in (matches_of command_line words))

-- ---- what a status means

-- The file's contents, as far as they are known, are a trace up to this line.
abbrev pub FileIsTraceUpTo : Contents → Option ℕ → Text × Bool → Type 0
FileIsTraceUpTo contents other asked = (trace : List ℕ) × IfSome (contents asked.0) (λ known. trace ≡ known) × IsTraceUpTo trace other

-- A drawing failed, but not for a usage error.
abbrev pub IsCutOff : FileFailure → Type 0
IsCutOff Usage = ⊥
IsCutOff (Unread why) = Unit {0}
IsCutOff Memory = Unit {0}
IsCutOff Write = Unit {0}

-- 1 if a line is not a trace line
abbrev pub status_of_drawing : Result (Option ℕ) FileFailure → ℕ
status_of_drawing (Ok None) = 0
status_of_drawing (Ok (Some number)) = 1
status_of_drawing (Err why) = status_of why

-- What a status means, with the request, if there is one. With 0 the file holds a trace, with 1 it has another line.
abbrev pub MeansOfDrawing : {S : Type 0} → Contents → Option (Text × Bool) → S → S → ℕ → Type 0
MeansOfDrawing contents asked old new status =
    MeansOf (IsSomeAnd asked (FileIsTraceUpTo contents None)) ((number : ℕ) × IsSomeAnd asked (FileIsTraceUpTo contents (Some number))) (Unit {0}) asked old new status

-- What the result of `lanes` with some arguments means.
abbrev pub Draws : {S : Type 0} → Contents → Option (Text × Bool) → S → S → Result (Option ℕ) FileFailure → Type 0
Draws contents asked old new (Ok other) = IsSomeAnd asked (FileIsTraceUpTo contents other)
Draws contents asked old new (Err Usage) = (asked ≡ None) × (new ≡ old)
Draws contents asked old new (Err (Unread why)) = Unit {0}
Draws contents asked old new (Err Memory) = Unit {0}
Draws contents asked old new (Err Write) = Unit {0}
