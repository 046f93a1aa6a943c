-- The failures of programs that are given one file, their messages, and the exit statuses.
use Rattle.std.specs.Prelude.{◌≡◌, ◌⊎◌, ℕ, List, [], ◌∷◌, ◌++◌, codes, None, Option}
use Rattle.std.specs.Borrow.{Bor}
use Rattle.inputs.specs.declared.files.ReadFault.{ReadFault}
use Rattle.inputs.specs.declared.files.ReadFault.TheVariants as fault
use Rattle.trace.specs.Sinks.{BreaksOff, Seen, TakesAll}
use Rattle.inputs.specs.Reads.{Text}
use Rattle.inputs.specs.declared.failure.FileFailure.{FileFailure}
use Rattle.inputs.specs.declared.failure.FileFailure.TheVariants.{Usage, Unread, Memory, Write}
use Rattle.inputs.specs.declared.words.NoRequest.{NoRequest}
use Rattle.inputs.specs.declared.words.NoRequest.TheVariants as no_request

-- why the file with this name cannot be read
abbrev pub IsReadFault : Bor Text → ReadFault → Type 0
IsReadFault name (fault.CannotRead other) = other ≡ name
IsReadFault name fault.Memory = Unit {0}

abbrev pub failure_of_words : NoRequest → FileFailure
failure_of_words no_request.Usage = Usage
failure_of_words no_request.Memory = Memory

-- 2 for a usage error, 3 for an I/O error or if there is no memory
abbrev pub status_of : FileFailure → ℕ
status_of Usage = 2
status_of (Unread why) = 3
status_of Memory = 3
status_of Write = 3

-- the message about a file that cannot be read
abbrev pub message_unread : ReadFault → List ℕ
message_unread (fault.CannotRead name) = codes "jobk: cannot read " ++ (name.now ++ 10 ∷ [])
message_unread fault.Memory = codes "jobk: out of memory\n"

-- the message about a failure of a program with this usage line
abbrev pub message_of : List ℕ → FileFailure → List ℕ
message_of usage Usage = usage
message_of usage (Unread why) = message_unread why
message_of usage Memory = codes "jobk: out of memory\n"
message_of usage Write = codes "jobk: cannot write\n"

-- The whole message was written; or a put failed, and a prefix of it was written.
abbrev pub Tells : Seen → Seen → List ℕ → Type 0
Tells before after message = TakesAll before after message ⊎ BreaksOff before after message

-- What an exit status means, by what is asked for, if anything, and the output before and after.
pub record MeansOf {A S : Type 0} (Done Refused IsBegun : Type 0) (asked : Option A) (old new : S) (status : ℕ) : Type 0 where
  pub done : status ≡ 0 → Done
  pub refused : status ≡ 1 → Refused
  pub other_words : status ≡ 2 → (asked ≡ None) × (new ≡ old)
  -- nothing or a prefix was written
  pub cut_short : status ≡ 3 → (new ≡ old) ⊎ IsBegun
