-- The faults of a text, one after another.
use Rattle.std.specs.Prelude.{◌≡◌, ◌≢◌, ◌⊎◌, ◌++◌, ◌==◌, ◌-◌, ℕ, zero, suc, List, [], ◌∷◌, Option, None, Some, Ok, Err, if◌then◌else◌}
use Rattle.inputs.specs.Reads.{Text}
use Rattle.naming.specs.Texts.{IsNamed}
use Rattle.posix.specs.declared.event.Event.{Event}
use Rattle.posix.specs.Common.{World}
use Rattle.text.specs.EventTexts.{event_text}
use Rattle.text.specs.Lines.{all_lines}
use Rattle.text.specs.WorldTexts.{world_text}
use Rattle.text.specs.declared.fault.Reason.TheVariants.{Memory}
use Rattle.text.specs.declared.fault.TextFault.{TextFault}
use Rattle.refusing.specs.Telling.{IsToldOf, ShowsLine}
use Rattle.refusing.specs.declared.telling.Shown.{Shown}

-- A text with numbers for its names has this fault: a world, or events for a world with so many consoles.
abbrev pub HasFault : Option ℕ → List ℕ → TextFault → Type 0
HasFault None text why = (why.reason ≢ Memory) × (world_text text ≡ Err why)
HasFault (Some consoles) text why = (why.reason ≢ Memory) × (event_text consoles text ≡ Err why)

-- The text has no fault.
abbrev pub HasNoFault : Option ℕ → List ℕ → Type 0
HasNoFault None text = (known : World) × (world_text text ≡ Ok known)
HasNoFault (Some consoles) text = (list : List Event) × (event_text consoles text ≡ Ok list)

-- lines, each with a line feed, of which the one of this number, from 1, is emptied
abbrev pub lines_without : ℕ → List (List ℕ) → List ℕ
lines_without number [] = []
lines_without number (line ∷ more) = (if number == 1 then [] else line) ++ 10 ∷ lines_without (number - 1) more

abbrev pub without_line : ℕ → List ℕ → List ℕ
without_line number text = lines_without number (all_lines text)

-- What is printed of a text in a file with this name, whose first fault this is. `given` is the text as the user wrote
-- it, and `named` has numbers for its names. At most so many other faults follow. Each is the first fault of the text
-- in which the line that was shown before is empty.
unfoldable pub Tells : ℕ → Option ℕ → Text → List ℕ → List ℕ → TextFault → List ℕ → Type 0
Tells zero consoles name given named why out = (shown : Shown) × IsToldOf name given named why shown out
Tells (suc others) consoles name given named why out = ((shown : Shown) × IsToldOf name given named why shown out)
    ⊎ ((number : ℕ) × (left told : List ℕ) × (next : TextFault) × (shown : Shown) × (first rest : List ℕ) × IsToldOf name given named why shown first × ShowsLine shown number
    × IsNamed (without_line number given) left told × HasFault consoles left next × Tells others consoles name (without_line number given) left next rest × (out ≡ first ++ rest))
