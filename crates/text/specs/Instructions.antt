-- Instructions in a world text, before their names are looked up.
use Rattle.std.specs.Prelude.{ℕ, ◌-◌, ◌==◌, ◌&&◌, List, [], ◌∷◌, codes, nat_le, if◌then◌else◌, Option, find, Result, Ok, Err, bytes_eq}
use Rattle.posix.specs.Common.{call_named}
use Rattle.posix.specs.declared.instr.Instr.TheVariants as instr
use Rattle.posix.specs.declared.instr.Operator.{Operator}
use Rattle.posix.specs.declared.instr.Operator.TheVariants.{Add, Sub, Mul, Div, Rem, And, Or, Xor}
use Rattle.posix.specs.declared.instr.Condition.{Condition}
use Rattle.posix.specs.declared.instr.Condition.TheVariants.{Zero, NotZero, Negative}
use Rattle.text.specs.declared.fault.Reason.{Reason}
use Rattle.text.specs.declared.fault.Reason.TheVariants.{UnknownWord}
use Rattle.text.specs.declared.instructions.Operation.{Operation}
use Rattle.text.specs.declared.instructions.Operation.TheVariants.{Set, Move, Compute, Load, Store, Jump, JumpIf, Note, Sys}
use Rattle.text.specs.declared.sketch.Use.{Use}
use Rattle.text.specs.declared.sketch.Use.TheVariants as named_by
use Rattle.text.specs.declared.sketch.Sketch.{Sketch}
use Rattle.text.specs.declared.sketch.Sketch.TheVariants.{Ready, Lacks}
use Rattle.text.specs.Numbers.{integer}
use Rattle.text.specs.Names.{name}
use Rattle.text.specs.Reading.{◌>>=◌, first, no_more, known}

-- ---- words

abbrev pub operator_text : Operator → List ℕ
operator_text Add = codes "add"
operator_text Sub = codes "sub"
operator_text Mul = codes "mul"
operator_text Div = codes "div"
operator_text Rem = codes "rem"
operator_text And = codes "and"
operator_text Or = codes "or"
operator_text Xor = codes "xor"

-- the jump on a condition
abbrev pub condition_text : Condition → List ℕ
condition_text Zero = codes "jz"
condition_text NotZero = codes "jnz"
condition_text Negative = codes "jlt"

-- the word of an operation
abbrev pub operation_text : Operation → List ℕ
operation_text Set = codes "set"
operation_text Move = codes "mov"
operation_text (Compute operator) = operator_text operator
operation_text Load = codes "ld"
operation_text Store = codes "st"
operation_text Jump = codes "jmp"
operation_text (JumpIf condition) = condition_text condition
operation_text Note = codes "note"
operation_text Sys = codes "sys"

-- all operations, in which a word is looked up
abbrev pub all_operations : List Operation
all_operations =
    Set ∷ Move ∷ Compute Add ∷ Compute Sub ∷ Compute Mul ∷ Compute Div ∷ Compute Rem ∷ Compute And ∷ Compute Or ∷ Compute Xor
    ∷ Load ∷ Store ∷ Jump ∷ JumpIf Zero ∷ JumpIf NotZero ∷ JumpIf Negative ∷ Note ∷ Sys ∷ []

-- the operation that a word names
unfoldable pub operation_named : List ℕ → Option Operation
operation_named w = find (λ o. bytes_eq w (operation_text o)) all_operations

-- ---- operands

-- `r0` to `r7`
abbrev pub register : List ℕ → Result ℕ Reason
register (r ∷ d ∷ []) = if r == 114 && nat_le 48 d && nat_le d 55 then Ok (d - 48) else Err UnknownWord
register _ = Err UnknownWord

-- an instruction with a name to look up
abbrev pub lacking : Use → List ℕ → Result Sketch Reason
lacking need w = name w >>= λ n. Ok (Lacks need n)

-- the value after `set rA`: a number, `@` and a label, or `$` and a program
abbrev pub set_value : ℕ → List ℕ → Result Sketch Reason
set_value r [] = Err UnknownWord
set_value r (b ∷ bs) =
    if b == 64 then lacking (named_by.SetLabel r) bs
    else if b == 36 then lacking (named_by.SetProgram r) bs
    else (integer (b ∷ bs) >>= λ v. Ok (Ready (instr.Set r v)))

-- two registers and no other word
unfoldable pub two_registers : List (List ℕ) → Result (ℕ × ℕ) Reason
two_registers ws = do
  a ← first register ws
  b ← first register a.rest
  no_more b.rest (a.value, b.value)

-- the label of a jump
unfoldable pub target : Use → List (List ℕ) → Result Sketch Reason
target need ws = first (lacking need) ws >>= λ s. no_more s.rest s.value

-- an instruction, by the words after its first word
unfoldable pub operands : Operation → List (List ℕ) → Result Sketch Reason
operands Set ws = do
  a ← first register ws
  v ← first (set_value a.value) a.rest
  no_more v.rest v.value
operands Move ws = two_registers ws >>= λ p. Ok (Ready (instr.Move p.0 p.1))
operands (Compute operator) ws = two_registers ws >>= λ p. Ok (Ready (instr.Compute operator p.0 p.1))
operands Load ws = two_registers ws >>= λ p. Ok (Ready (instr.Load p.0 p.1))
operands Store ws = two_registers ws >>= λ p. Ok (Ready (instr.Store p.0 p.1))
operands Jump ws = target named_by.JumpTo ws
operands (JumpIf condition) ws = first register ws >>= λ a. target (named_by.JumpIf condition a.value) a.rest
operands Note ws = first register ws >>= λ a. no_more a.rest (Ready (instr.Note a.value))
operands Sys ws = first (λ w. known (call_named w)) ws >>= λ c. no_more c.rest (Ready (instr.Sys c.value))
