-- Programs before their names are looked up, and afterwards.
use Rattle.std.specs.Prelude.{ℕ, List, Option, Some, None, Result, Ok, Err, pos}
use Rattle.posix.specs.declared.instr.Instr.{Instr}
use Rattle.posix.specs.declared.instr.Instr.TheVariants.{Set, Jump}
use Rattle.posix.specs.declared.instr.Instr.TheVariants as instr
use Rattle.posix.specs.Common.{Program}
use Rattle.text.specs.declared.fault.Reason.TheVariants.{NameUnknown}
use Rattle.text.specs.declared.fault.TextFault.{TextFault}
use Rattle.text.specs.declared.names.Definition.{Definition}
use Rattle.text.specs.declared.sketch.Use.{Use}
use Rattle.text.specs.declared.sketch.Use.TheVariants.{SetLabel, SetProgram, JumpTo, JumpIf}
use Rattle.text.specs.declared.sketch.Sketch.{Sketch}
use Rattle.text.specs.declared.sketch.Sketch.TheVariants.{Ready, Lacks}
use Rattle.text.specs.declared.sketch.Written.{Written}
use Rattle.text.specs.Names.{defined}
use Rattle.text.specs.Reading.{◌>>=◌, each}

-- a program before its names are looked up
pub record Outline : Type 0 where
  pub setuid : Option ℕ
  pub setgid : Option ℕ
  pub labels : List Definition
  pub code : List Written

-- the names among which a use is looked up: for a label, the labels of its own program
abbrev pub names_for : List Definition → List Definition → Use → List Definition
names_for programs labels (SetProgram r) = programs
names_for programs labels (SetLabel r) = labels
names_for programs labels JumpTo = labels
names_for programs labels (JumpIf condition r) = labels

-- the instruction whose name has the number n
abbrev pub with_number : Use → ℕ → Instr
with_number (SetLabel r) n = Set r (pos n)
with_number (SetProgram r) n = Set r (pos n)
with_number JumpTo n = Jump n
with_number (JumpIf condition r) n = instr.JumpIf condition r n

-- the instruction on line k, by the number of its name, if the name is defined
abbrev pub named : ℕ → Use → Option ℕ → Result Instr TextFault
named k need None = Err (record { line = k; reason = NameUnknown })
named k need (Some n) = Ok (with_number need n)

abbrev pub completed_at : List Definition → List Definition → ℕ → Sketch → Result Instr TextFault
completed_at programs labels k (Ready i) = Ok i
completed_at programs labels k (Lacks need n) = named k need (defined n (names_for programs labels need))

-- an instruction with its name looked up
unfoldable pub completed : List Definition → List Definition → Written → Result Instr TextFault
completed programs labels w = completed_at programs labels w.line w.sketch

-- a program with its names looked up, or the first line whose name is unknown
unfoldable pub program_of : List Definition → Outline → Result Program TextFault
program_of programs p =
    each (completed programs p.labels) p.code >>= λ code. Ok (record { setuid = p.setuid; setgid = p.setgid; instructions = code })
