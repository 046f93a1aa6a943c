-- The command `names`: what it prints, and what its exit status means.
use Rattle.std.specs.Prelude.{◌≡◌, ◌≢◌, ℕ, false, true, List, [], ◌∷◌, codes, None, Option, Result, Ok, Err, IfSome, IsSomeAnd, Vec}
use Rattle.std.specs.declared.alloc.Global.{Global}
use Rattle.inputs.specs.Failures.{MeansOf, status_of}
use Rattle.inputs.specs.Reads.{Contents, Text}
use Rattle.inputs.specs.Words.{file_in_words}
use Rattle.inputs.specs.declared.failure.FileFailure.{FileFailure}
use Rattle.inputs.specs.declared.failure.FileFailure.TheVariants as failure
use Rattle.trace.specs.Sinks.{BreaksOff, Seen, TakesAll}
use Rattle.naming.specs.Texts.{IsNamed, is_refused}

-- The exit status is 1 if there are messages about rejected names.
abbrev pub answer_told : List ℕ → ℕ
answer_told [] = 0
answer_told (byte ∷ more) = 1

abbrev pub answer_of : Result (Vec ℕ Global) FileFailure → ℕ
answer_of (Ok told) = answer_told told.items
answer_of (Err why) = status_of why

-- the name of the file that the arguments after `names` name; `None` for a usage error
abbrev pub text_in_words : List Text → Option Text
text_in_words words = file_in_words (codes "names") (codes "text") words

-- P holds of the text of the file that is asked for, of what replaces it, and of the messages. If the contents of the
-- file are known, they are this text.
abbrev pub OfNamed : Contents → Option Text → (List ℕ → List ℕ → List ℕ → Type 0) → Type 0
OfNamed contents asked P = IsSomeAnd asked (λ name.
    (text named told : List ℕ) × IfSome (contents name) (λ known. text ≡ known) × IsNamed text named told × P text named told)

-- How the command ends for this text. The result is the messages.
abbrev pub EndsText : {S : Type 0} → List ℕ → S → S → Seen → Seen → Result (Vec ℕ Global) FileFailure → Type 0
EndsText text old new before after (Ok told) = (named : List ℕ) × IsNamed text named told.items × TakesAll before after named
EndsText text old new before after (Err failure.Usage) = ⊥
EndsText text old new before after (Err (failure.Unread why)) = ⊥
EndsText text old new before after (Err failure.Memory) = new ≡ old
EndsText text old new before after (Err failure.Write) = (named told : List ℕ) × IsNamed text named told × BreaksOff before after named

-- How the command ends if the file with this name is asked for.
abbrev pub Ends : {S : Type 0} → Contents → Option Text → S → S → Seen → Seen → Result (Vec ℕ Global) FileFailure → Type 0
Ends contents asked old new before after (Ok told) = OfNamed contents asked (λ text named faults. (faults ≡ told.items) × TakesAll before after named)
Ends contents asked old new before after (Err failure.Usage) = (asked ≡ None) × (new ≡ old)
Ends contents asked old new before after (Err (failure.Unread why)) = new ≡ old
Ends contents asked old new before after (Err failure.Memory) = new ≡ old
Ends contents asked old new before after (Err failure.Write) = OfNamed contents asked (λ text named faults. BreaksOff before after named)

-- What an exit status means, by the contents of files, the file that is asked for, if any, and the output before and
-- after. If it is 0, the whole text was written, nothing is rejected, and there are no messages. If it is 1, the whole
-- text was written, something is rejected, and there are messages. If it is 3, nothing or a prefix of the text was
-- written.
abbrev pub Means : {S : Type 0} → Contents → Option Text → S → S → Seen → Seen → ℕ → Type 0
Means contents asked old new before after status = MeansOf (OfNamed contents asked (λ text named told. (is_refused text ≡ false) × (told ≡ []) × TakesAll before after named))
    (OfNamed contents asked (λ text named told. (is_refused text ≡ true) × (told ≢ []) × TakesAll before after named))
    (OfNamed contents asked (λ text named told. BreaksOff before after named)) asked old new status
