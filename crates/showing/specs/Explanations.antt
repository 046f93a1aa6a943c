-- A trace with explanations after its lines.
use Rattle.std.specs.Prelude.{◌≡◌, ◌⊎◌, ℕ, ◌==◌, true, List, [], ◌∷◌, ◌++◌, length, codes, flat_map, if◌then◌else◌, Result, Ok, Err}
use Rattle.std.specs.List.{AllByRecursion}
use Rattle.std.specs.Io.KnownBytes.{Appends}
use Rattle.trace.specs.Sinks.{BreaksOff, Seen, TakesAll}
use Rattle.trace.specs.Lines.{is_one_line}
use Rattle.inputs.specs.declared.failure.FileFailure.{FileFailure}
use Rattle.inputs.specs.declared.failure.FileFailure.TheVariants.{Usage, Unread, Memory, Write}

-- ---- the text

-- what follows a line: three spaces and its explanation, or nothing if it has none
abbrev pub behind : List ℕ → List ℕ
behind words = if length words == 0 then [] else codes "   " ++ words

abbrev pub told_line : List ℕ → List ℕ → List ℕ
told_line line words = line ++ (behind words ++ 10 ∷ [])

-- a line of a trace, and the words of its explanation, if it has one
pub record Told : Type 0 where
  pub line : List ℕ
  pub words : List ℕ

-- neither contains a line feed
abbrev pub AreOneLine : Told → Type 0
AreOneLine t = (is_one_line t.line ≡ true) × (is_one_line t.words ≡ true)

-- The text is the trace, line by line. After a line is nothing, or three spaces and an explanation without a line feed.
-- What follows the last line feed has no explanation.
pub record IsExplained (trace text : List ℕ) : Type 0 where
  pub lines : List Told
  pub last : List ℕ
  pub trace_is : trace ≡ flat_map (λ t. t.line ++ 10 ∷ []) lines ++ last
  pub text_is : text ≡ flat_map (λ t. told_line t.line t.words) lines ++ last
  pub one : AllByRecursion AreOneLine lines
  pub last_one : is_one_line last ≡ true

-- ---- what is put of the text

-- A beginning of a text was taken, and no put failed.
pub record IsBegun (before after : Seen) (text : List ℕ) : Type 0 where
  pub front : List ℕ
  pub rest : List ℕ
  pub split : text ≡ front ++ rest
  pub taken : Appends before.taken after.taken front
  pub no_failure : after.failures ≡ before.failures

-- A beginning of a text was taken, and a put may have failed.
abbrev pub IsCutShort : Seen → Seen → List ℕ → Type 0
IsCutShort before after text = BreaksOff before after text ⊎ IsBegun before after text

-- P holds of a text that is the trace with explanations.
abbrev pub OfExplained : List ℕ → (List ℕ → Type 0) → Type 0
OfExplained trace P = (text : List ℕ) × IsExplained trace text × P text

-- What the output took if explaining a trace returned this: all of such a text, or a beginning of one.
abbrev pub Explains : Seen → Seen → List ℕ → Result (Unit {0}) FileFailure → Type 0
Explains before after trace (Ok done) = OfExplained trace (TakesAll before after)
Explains before after trace (Err Usage) = ⊥
Explains before after trace (Err (Unread why)) = ⊥
Explains before after trace (Err Memory) = OfExplained trace (IsBegun before after)
Explains before after trace (Err Write) = OfExplained trace (BreaksOff before after)

-- What the output took if a line could not be added to the buffer. These bytes are the buffer and the line: a put of
-- them failed, or there was no memory, and nothing was put.
abbrev pub Stops : {S : Type 0} → FileFailure → S → S → Seen → Seen → List ℕ → Type 0
Stops Usage old new before after bytes = ⊥
Stops (Unread why) old new before after bytes = ⊥
Stops Memory old new before after bytes = new ≡ old
Stops Write old new before after bytes = BreaksOff before after bytes
