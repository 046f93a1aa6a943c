-- Whole traces as texts.
use Rattle.std.specs.Prelude.{ℕ, ◌≡◌, ◌≢◌, ◌+◌, ◌⊎◌, true, List, [], ◌∷◌, ◌++◌, length, Err}
use Rattle.std.specs.List.{list_all}
use Rattle.posix.specs.Common.{Line, print}
use Rattle.laws.specs.TraceLines.{Says, is_line}
use Rattle.laws.specs.Keeping.{kept_of}
use Rattle.laws.specs.Lives.{Laws}
use Rattle.audit.specs.declared.fault.AuditFault.{AuditFault}
use Rattle.audit.specs.declared.fault.AuditFault.TheVariants.{NoLine}
use Rattle.audit.specs.declared.texts.TraceFault.{TraceFault}
use Rattle.trace.specs.Lines.{IsCut, is_one_line}
use Rattle.audit.specs.Knowing.{IsAnswer, IsNewBirth}

-- The text is a print of lines, each of one of the forms, of which the laws of a trace hold.
pub record IsLawful (text : List ℕ) : Type 0 where
  pub lines : List Line
  pub is : text ≡ print lines
  pub forms : list_all is_line lines ≡ true
  pub laws : Laws lines

-- The text begins with a print of such lines, which are all the lines before the one with this number.
pub record IsLawfulBefore (text : List ℕ) (number : ℕ) : Type 0 where
  pub lines : List Line
  pub rest : List ℕ
  pub is : text ≡ print lines ++ rest
  pub forms : list_all is_line lines ≡ true
  pub laws : Laws lines
  pub counted : number ≡ length lines + 1

-- In the line with this number, a fork returns a process ID that no process had before.
pub record IsNewBirthAt (text : List ℕ) (number : ℕ) : Type 0 where
  pub before : IsLawfulBefore text number
  pub line : List ℕ
  pub rest : List ℕ
  pub cut : IsCut before.rest line rest
  pub said : Line
  pub says : Says line said
  pub born : IsNewBirth (kept_of before.lines) said

-- ---- the first fault

-- The text after lawful lines begins with a line that has a fault. No lawful text begins with those lines and this one.
pub record IsFaultyLine (lines : List Line) (text : List ℕ) (fault : AuditFault) : Type 0 where
  pub line : List ℕ
  pub rest : List ℕ
  pub cut : IsCut text line rest
  pub answer : IsAnswer lines line (Err fault)
  pub refused : (more : List ℕ) → IsLawful (print lines ++ (line ++ 10 ∷ more)) → ⊥

-- The text is a line without a line feed.
pub record IsUnfinished (text : List ℕ) (fault : AuditFault) : Type 0 where
  pub some : text ≢ []
  pub one : is_one_line text ≡ true
  pub is : fault ≡ NoLine

-- The first fault of a text: the lines before it are lawful, and the next line is rejected by the
-- first test that it fails.
pub record IsFirstFault (text : List ℕ) (fault : TraceFault) : Type 0 where
  pub before : IsLawfulBefore text fault.line
  pub faulty : IsFaultyLine before.lines before.rest fault.fault ⊎ IsUnfinished before.rest fault.fault
