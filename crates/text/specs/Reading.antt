-- How a line is read: word by word, from left to right, to its first fault. And how a result relates to the meaning of
-- a text.
use Rattle.std.specs.Prelude.{◌≡◌, ◌⊎◌, ℕ, List, [], ◌∷◌, Result, Ok, Err, Option, None, Some, nat_lt, length, if◌then◌else◌}
use Rattle.text.specs.declared.fault.Reason.{Reason}
use Rattle.text.specs.declared.fault.Reason.TheVariants.{UnknownWord, LineTooLong, Memory}
use Rattle.text.specs.declared.fault.TextFault.{TextFault}
use Rattle.text.specs.Words.{line_words}

-- the next part, unless this part has a fault
infixl 10 ◌>>=◌
abbrev pub ◌>>=◌ : {A B E : Type 0} → Result A E → (A → Result B E) → Result B E
(Ok x) >>= f = f x
(Err e) >>= f = Err e

-- the value of some words, and the words after them
pub record Read (A : Type 0) : Type 0 where
  pub value : A
  pub rest : List (List ℕ)

-- the value of the first word
abbrev pub first : {A : Type 0} → (List ℕ → Result A Reason) → List (List ℕ) → Result (Read A) Reason
first read [] = Err UnknownWord
first read (w ∷ ws) = read w >>= λ x. Ok (record { value = x; rest = ws })

-- the line ends here
abbrev pub no_more : {A : Type 0} → List (List ℕ) → A → Result A Reason
no_more [] x = Ok x
no_more (w ∷ ws) x = Err UnknownWord

-- the result of a search, which must find something
abbrev pub known : {A : Type 0} → Option A → Result A Reason
known None = Err UnknownWord
known (Some x) = Ok x

-- the words of a line of at most 200 bytes
abbrev pub words_within : List ℕ → Result (List (List ℕ)) Reason
words_within line = if nat_lt 200 (length line) then Err LineTooLong else Ok (line_words line)

-- a value, unless there is a fault
abbrev pub unless : {A : Type 0} → Option TextFault → A → Result A TextFault
unless None x = Ok x
unless (Some fault) x = Err fault

-- `why`; or `memory` if the reason is `Memory`, which is no fault of a text
abbrev pub unless_memory : {A : Type 0} → Reason → A → A → A
unless_memory Memory why memory = memory
unless_memory reason why memory = why

-- A fault is the fault of the text, or `Memory`, which may replace it.
abbrev pub IsFaultOf : {A : Type 0} → Result A TextFault → TextFault → Type 0
IsFaultOf meaning fault = (fault.reason ≡ Memory) ⊎ (meaning ≡ Err fault)

-- A result is what the text describes, or a fault as above.
abbrev pub Answers : {A : Type 0} → Result A TextFault → Result A TextFault → Type 0
Answers (Ok x) meaning = meaning ≡ Ok x
Answers (Err fault) meaning = IsFaultOf meaning fault

-- A view of a result is what the text describes, or the result is a fault as above.
abbrev pub AnswersAs : {X A : Type 0} → Result X TextFault → (X → A) → Result A TextFault → Type 0
AnswersAs (Ok x) view meaning = meaning ≡ Ok (view x)
AnswersAs (Err fault) view meaning = IsFaultOf meaning fault

-- the results of f for all elements, or the first fault
abbrev pub each : {A B E : Type 0} → (A → Result B E) → List A → Result (List B) E
each f [] = Ok []
each f (x ∷ xs) = f x >>= λ y. (each f xs >>= λ ys. Ok (y ∷ ys))
