-- World texts: the meaning of a line, and the meaning of a text.
use Rattle.std.specs.Prelude.{◌≡◌, ◌⊎◌, ℕ, ◌+◌, ◌-◌, List, [], ◌∷◌, ◌++◌, length, drop, take, codes, nat_le, if◌then◌else◌, Option, Some, None, Result, Ok, Err, bytes_eq}
use Rattle.posix.specs.Common.{Program, World}
use Rattle.text.specs.declared.fault.Reason.{Reason}
use Rattle.text.specs.declared.fault.Reason.TheVariants.{UnknownWord, OutOfRange, EndMissing, NoProgram, Memory}
use Rattle.text.specs.declared.fault.TextFault.{TextFault}
use Rattle.text.specs.declared.names.Definition.{Definition}
use Rattle.text.specs.declared.sketch.Sketch.{Sketch}
use Rattle.text.specs.declared.instructions.Operation.{Operation}
use Rattle.text.specs.declared.draft.Section.{Section}
use Rattle.text.specs.declared.draft.Section.TheVariants.{BeforePidmax, BeforeConsoles, BetweenPrograms, InProgram}
use Rattle.text.specs.Lines.{all_lines}
use Rattle.text.specs.Numbers.{number_in}
use Rattle.text.specs.Names.{new_name}
use Rattle.text.specs.Instructions.{operation_named, operands}
use Rattle.text.specs.Outlines.{Outline, program_of}
use Rattle.text.specs.Reading.{◌>>=◌, Read, first, no_more, known, words_within, unless, each}

-- the contents of the lines that were read so far
pub record Draft : Type 0 where
  pub section : Section
  pub pidmax : ℕ
  pub consoles : ℕ
  pub names : List Definition  -- of the programs that were begun
  pub programs : List Outline  -- the complete programs
  pub opened : Outline  -- the open program

-- a program before its first line
abbrev pub empty_outline : Option ℕ → Option ℕ → Outline
empty_outline setuid setgid = record { setuid = setuid; setgid = setgid; labels = []; code = [] }

-- before the first line, with the smallest values until the header is read
abbrev pub empty_draft : Draft
empty_draft = record { section = BeforePidmax; pidmax = 2; consoles = 0; names = []; programs = []; opened = empty_outline None None }

-- ---- the header

-- the only number after the first word of a header line
unfoldable pub header : ℕ → ℕ → List (List ℕ) → Result ℕ Reason
header low high ws = first (number_in low high) ws >>= λ n. no_more n.rest n.value

-- the draft after the first line of the header
abbrev pub with_pidmax : Draft → ℕ → Draft
with_pidmax d n = record d { section = BeforeConsoles; pidmax = n }

-- the draft after the second line of the header
abbrev pub with_consoles : Draft → ℕ → Draft
with_consoles d n = record d { section = BetweenPrograms; consoles = n }

-- ---- programs

-- `setuid U` or `setgid G`, which may be absent
unfoldable pub setting : List ℕ → List (List ℕ) → Result (Read (Option ℕ)) Reason
setting word [] = Ok (record { value = None; rest = [] })
setting word (w ∷ ws) =
    if bytes_eq w word then (first (number_in 0 2147483647) ws >>= λ n. Ok (record { value = Some n.value; rest = n.rest }))
    else Ok (record { value = None; rest = w ∷ ws })

-- a program begins
abbrev pub open_program : Draft → List ℕ → Option ℕ → Option ℕ → Draft
open_program d name setuid setgid = record d {
  section = InProgram;
  names = d.names ++ record { name = name; number = length d.programs } ∷ [];
  opened = empty_outline setuid setgid;
}

-- the words after `program`; a world has at most 32 programs
unfoldable pub program_line : Draft → List (List ℕ) → Result Draft Reason
program_line d ws = if nat_le 32 (length d.programs) then Err OutOfRange else (do
  name ← first (new_name d.names) ws
  user ← setting (codes "setuid") name.rest
  group ← setting (codes "setgid") user.rest
  no_more group.rest (open_program d name.value user.value group.value))

-- the program ends
abbrev pub close_program : Draft → Draft
close_program d = record d { section = BetweenPrograms; programs = d.programs ++ d.opened ∷ []; opened = empty_outline None None }

-- ---- lines of a program

-- a name for the code address of the next instruction
abbrev pub add_label : Draft → List ℕ → Draft
add_label d name =
    let p = d.opened in record d { opened = record p { labels = p.labels ++ record { name = name; number = 16 + length p.code } ∷ [] } }

-- a label, and no other word
unfoldable pub label_line : Draft → List ℕ → List (List ℕ) → Result Draft Reason
label_line d w ws = new_name d.opened.labels w >>= λ name. no_more ws (add_label d name)

-- adds an instruction on line k
abbrev pub add_instruction : ℕ → Draft → Sketch → Draft
add_instruction k d s = let p = d.opened in record d { opened = record p { code = p.code ++ record { line = k; sketch = s } ∷ [] } }

-- an instruction on line k, of which a program has at most 1,000
unfoldable pub instruction_line : ℕ → Draft → Operation → List (List ℕ) → Result Draft Reason
instruction_line k d o ws = if nat_le 1000 (length d.opened.code) then Err OutOfRange else (operands o ws >>= λ s. Ok (add_instruction k d s))

-- a word without the `:` at its end, if it has one
abbrev pub before_colon : List ℕ → Option (List ℕ)
before_colon w = if bytes_eq (drop (length w - 1) w) (codes ":") then Some (take (length w - 1) w) else None

-- a label, or an instruction on line k
abbrev pub label_or_instruction : ℕ → Draft → Option (List ℕ) → List ℕ → List (List ℕ) → Result Draft Reason
label_or_instruction k d (Some name) w ws = label_line d name ws
label_or_instruction k d None w ws = known (operation_named w) >>= λ o. instruction_line k d o ws

-- line k, within a program
unfoldable pub inner_line : ℕ → Draft → List ℕ → List (List ℕ) → Result Draft Reason
inner_line k d w ws =
    if bytes_eq w (codes "end") then no_more ws (close_program d)
    else label_or_instruction k d (before_colon w) w ws

-- ---- lines

-- the first line with words
unfoldable pub pidmax_line : Draft → List ℕ → List (List ℕ) → Result Draft Reason
pidmax_line d w ws = if bytes_eq w (codes "pidmax") then (header 2 4194304 ws >>= λ n. Ok (with_pidmax d n)) else Err UnknownWord

-- the second line with words
unfoldable pub consoles_line : Draft → List ℕ → List (List ℕ) → Result Draft Reason
consoles_line d w ws = if bytes_eq w (codes "consoles") then (header 0 64 ws >>= λ n. Ok (with_consoles d n)) else Err UnknownWord

-- a line between programs
unfoldable pub outer_line : Draft → List ℕ → List (List ℕ) → Result Draft Reason
outer_line d w ws = if bytes_eq w (codes "program") then program_line d ws else Err UnknownWord

-- line k, whose first word is w, in a section
unfoldable pub line_at : Section → ℕ → Draft → List ℕ → List (List ℕ) → Result Draft Reason
line_at BeforePidmax k d w ws = pidmax_line d w ws
line_at BeforeConsoles k d w ws = consoles_line d w ws
line_at BetweenPrograms k d w ws = outer_line d w ws
line_at InProgram k d w ws = inner_line k d w ws

-- a line without words changes nothing
abbrev pub world_words : ℕ → Draft → List (List ℕ) → Result Draft Reason
world_words k d [] = Ok d
world_words k d (w ∷ ws) = line_at d.section k d w ws

-- line k
abbrev pub world_line : ℕ → Draft → List ℕ → Result Draft Reason
world_line k d line = words_within line >>= world_words k d

-- What a function did that changes a draft. After an error, the draft is unchanged.
abbrev pub Becomes : {X : Type 0} → Draft → Draft → Result X Reason → Result Draft Reason → Type 0
Becomes old new (Ok x) meaning = meaning ≡ Ok new
Becomes old new (Err reason) meaning = (new ≡ old) × ((reason ≡ Memory) ⊎ (meaning ≡ Err reason))

-- how many programs are open
abbrev pub opened_at : Section → ℕ
opened_at BeforePidmax = 0
opened_at BeforeConsoles = 0
opened_at BetweenPrograms = 0
opened_at InProgram = 1

-- ---- texts

-- the programs that were begun
abbrev pub outlines_at : Section → List Outline → Outline → List Outline
outlines_at BeforePidmax programs opened = programs
outlines_at BeforeConsoles programs opened = programs
outlines_at BetweenPrograms programs opened = programs
outlines_at InProgram programs opened = programs ++ opened ∷ []

-- the programs that were begun, with their names looked up
abbrev pub programs_of : Draft → Result (List Program) TextFault
programs_of d = each (program_of d.names) (outlines_at d.section d.programs d.opened)

-- The lines before a fault make d, and may only use names that they define. The first of them that uses another name is
-- the first faulty line.
unfoldable pub world_of : Draft → Option TextFault → Result World TextFault
world_of d fault =
    programs_of d >>= λ programs. unless fault (record { pidmax = d.pidmax; consoles = d.consoles; programs = programs })

-- a text needs a program
abbrev pub no_programs : List Outline → ℕ → Option TextFault
no_programs [] k = Some (record { line = k; reason = NoProgram })
no_programs (p ∷ ps) k = None

-- the fault of a text that ends in a section; k is the number of its lines and one more
abbrev pub fault_at_end : Section → List Outline → ℕ → Option TextFault
fault_at_end BeforePidmax ps k = Some (record { line = k; reason = EndMissing })
fault_at_end BeforeConsoles ps k = Some (record { line = k; reason = EndMissing })
fault_at_end BetweenPrograms ps k = no_programs ps k
fault_at_end InProgram ps k = Some (record { line = k; reason = EndMissing })

-- the text ends
abbrev pub world_at_end : Draft → ℕ → Result World TextFault
world_at_end d k = world_of d (fault_at_end d.section d.programs k)

-- line k is rejected, or the rest follows
abbrev pub goes_on : ℕ → Draft → (Draft → Result World TextFault) → Result Draft Reason → Result World TextFault
goes_on k before rest (Ok d) = rest d
goes_on k before rest (Err reason) = world_of before (Some (record { line = k; reason = reason }))

-- the lines after the k-th
abbrev pub world_from : ℕ → Draft → List (List ℕ) → Result World TextFault
world_from k d [] = world_at_end d (k + 1)
world_from k d (line ∷ lines) = goes_on (k + 1) d (λ e. world_from (k + 1) e lines) (world_line (k + 1) d line)

-- the world that a text describes, or its first faulty line and the reason
unfoldable pub world_text : List ℕ → Result World TextFault
world_text text = world_from 0 empty_draft (all_lines text)
