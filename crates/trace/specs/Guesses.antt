-- Guesses of what a line says, from its words by position. A guess may be nonsense: it is tested and printed.
use Rattle.std.specs.Prelude.{ℕ, List, [], ◌∷◌, Option, Some, codes, find, bytes_eq}
use Rattle.posix.specs.Common.{call_named, decimal_value}
use Rattle.posix.specs.declared.call.Call.{Call as SystemCall}
use Rattle.posix.specs.declared.entry.Entry.{Entry}
use Rattle.posix.specs.declared.waits.WaitCall.TheVariants as wait
use Rattle.posix.specs.declared.entry.Entry.TheVariants.{Noted, Called, Moved, Reported, Marked, Looked, Handled, Discarded, Stopped, Returned, Ended, Halted}
use Rattle.posix.specs.declared.entry.Entry.TheVariants as entry
use Rattle.trace.specs.declared.guesses.Shown.{Shown}
use Rattle.trace.specs.declared.guesses.Shown.TheVariants.{Value, Bytes, Status, Take, Look, NoMemory, Mark}
use Rattle.trace.specs.declared.guesses.Form.{Form}
use Rattle.trace.specs.declared.guesses.Form.TheVariants.{Note, Call, Handler, Discard, Stop, Return, End, Halt}
use Rattle.trace.specs.Words.{◌>>=◌, word, behind, integer, pid_in, sig_in, status_in, bytes_in}

unfoldable pub guess_note : List ℕ → Option Entry
guess_note ws = do
  pid ← pid_in (word ws)
  value ← integer (behind ws)
  Some (Noted pid value)

-- ---- the result of a call

-- Returns the word after the result of a call.
abbrev pub shown_text : Shown → List ℕ
shown_text Value = codes ""
shown_text Bytes = codes "bytes"
shown_text Status = codes "status"
shown_text Take = codes "take"
shown_text Look = codes "look"
shown_text NoMemory = codes "memory"
shown_text Mark = codes "mark"

unfoldable pub shown_by : List ℕ → Option Shown
shown_by w = find (λ s. bytes_eq w (shown_text s)) (Value ∷ Bytes ∷ Status ∷ Take ∷ Look ∷ NoMemory ∷ Mark ∷ [])

-- Guesses a child and its wait status, with a word between them.
unfoldable pub child_and_status : List ℕ → Option (ℕ × ℕ)
child_and_status ws = do
  child ← pid_in (word ws)
  status ← status_in (behind (behind ws))
  Some (child, status)

abbrev pub guess_shown : Shown → ℕ → SystemCall → List ℕ → List ℕ → Option Entry
guess_shown Value pid call value last = integer value >>= λ z. Some (Called pid call z)
guess_shown Bytes pid call value last = bytes_in last >>= λ bytes. Some (Moved pid call bytes)
guess_shown Status pid call value last = do
  child ← pid_in value
  status ← status_in last
  Some (Reported pid wait.Waitpid child status)
guess_shown Take pid call value last = child_and_status last >>= λ it. Some (Reported pid wait.Waitid it.0 it.1)
guess_shown Look pid call value last = child_and_status last >>= λ it. Some (Looked pid it.0 it.1)
guess_shown NoMemory pid call value last = Some (entry.NoMemory pid call)
guess_shown Mark pid call value last = Some (Marked pid (bytes_eq last (codes "1")))

-- Guesses the entry of a call, from the process ID, the call, the result and what follows.
unfoldable pub guess_result : ℕ → SystemCall → List ℕ → List ℕ → Option Entry
guess_result pid call value ws = shown_by (word ws) >>= λ shown. guess_shown shown pid call value (behind ws)

unfoldable pub guess_call : List ℕ → Option Entry
guess_call ws = do
  pid ← pid_in (word ws)
  call ← call_named (word (behind ws))
  guess_result pid call (word (behind (behind (behind ws)))) (behind (behind (behind (behind ws))))

-- ---- the other forms

unfoldable pub guess_handler : List ℕ → Option Entry
guess_handler ws = do
  pid ← pid_in (word ws)
  sig ← sig_in (word (behind ws))
  value ← integer (word (behind (behind ws)))
  sender ← pid_in (behind (behind (behind ws)))
  Some (Handled pid sig value sender)

unfoldable pub guess_discard : List ℕ → Option Entry
guess_discard ws = do
  pid ← pid_in (word ws)
  sig ← sig_in (behind ws)
  Some (Discarded pid sig)

unfoldable pub guess_stop : List ℕ → Option Entry
guess_stop ws = do
  pid ← pid_in (word ws)
  sig ← sig_in (behind ws)
  Some (Stopped pid sig)

unfoldable pub guess_end : List ℕ → Option Entry
guess_end ws = do
  pid ← pid_in (word ws)
  status ← status_in (behind ws)
  Some (Ended pid status)

-- ---- a line

-- Returns the first word of a form.
abbrev pub form_text : Form → List ℕ
form_text Note = codes "note"
form_text Call = codes "call"
form_text Handler = codes "handle"
form_text Discard = codes "discard"
form_text Stop = codes "stop"
form_text Return = codes "return"
form_text End = codes "end"
form_text Halt = codes "halt"

unfoldable pub form_named : List ℕ → Option Form
form_named w = find (λ f. bytes_eq w (form_text f)) (Note ∷ Call ∷ Handler ∷ Discard ∷ Stop ∷ Return ∷ End ∷ Halt ∷ [])

abbrev pub guess_entry : Form → List ℕ → Option Entry
guess_entry Note ws = guess_note ws
guess_entry Call ws = guess_call ws
guess_entry Handler ws = guess_handler ws
guess_entry Discard ws = guess_discard ws
guess_entry Stop ws = guess_stop ws
guess_entry Return ws = pid_in ws >>= λ pid. Some (Returned pid)
guess_entry End ws = guess_end ws
guess_entry Halt ws = Some Halted

-- Guesses the event number and the entry of a line.
unfoldable pub guess : List ℕ → Option (ℕ × Entry)
guess text = do
  form ← form_named (word (behind text))
  entry ← guess_entry form (behind (behind text))
  Some (decimal_value (word text), entry)
