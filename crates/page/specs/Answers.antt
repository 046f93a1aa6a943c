-- The answers to a page.
use Rattle.std.specs.Prelude.{◌≡◌, ◌≢◌, ◌≤◌, ◌<◌, ◌⊎◌, ℕ, List, [], ◌∷◌, ◌++◌, Some, codes, drop, length}
use Rattle.posix.specs.declared.event.Event.{Event}
use Rattle.posix.specs.Common.{Line, State, print}
use Rattle.kernel.specs.Headline.{RunsTexts}
use Rattle.trace.specs.Sinks.{Seen}
use Rattle.audit.specs.Texts.{IsFirstFault, IsLawful}
use Rattle.audit.specs.declared.texts.TraceFault.{TraceFault}
use Rattle.inputs.specs.Reads.{Contents}
use Rattle.commands.specs.Running.{IsRefused, fault_answer}
use Rattle.commands.specs.Serving.{Serves, Words}
use Rattle.page.specs.Files.{files_of}
use Rattle.page.specs.Words.{AreWordsOf}

-- ---- of any words

-- The command ran with these arguments over these files, and returned this status. These bytes are its standard output.
pub record AreServed (contents : Contents) (words : Words) (put : List ℕ) (status : ℕ) : Type 0 where
  pub before : Seen
  pub after : Seen
  pub began : before.taken ≡ Some []
  pub taken : after.taken ≡ Some put
  pub serves : Serves contents words [] put before after status

-- The command ran with the arguments in a text, over the files of a page.
pub record IsAnswered (words trace world events put : List ℕ) (status : ℕ) : Type 0 where
  pub said : Words
  pub are : AreWordsOf words said
  pub served : AreServed (files_of trace world events) said put status

-- Bytes were counted and, if all of them fit, copied to the beginning of a buffer. Nothing else of the buffer changed.
pub record IsGiven (bytes old new : List ℕ) (count : ℕ) : Type 0 where
  pub counted : count ≡ length bytes
  pub given : count ≤ length old → new ≡ bytes ++ drop count old
  pub kept : length old < count → new ≡ old

-- ---- of `run world events`

-- The printed trace of a run of the machine on the world and events of these texts is the bytes, followed by `rest`.
pub record BeginsTrace (world events bytes rest : List ℕ) : Type 0 where
  pub happened : List Event
  pub lines : List Line
  pub last : State
  pub run : RunsTexts world events happened lines last
  pub printed : print lines ≡ bytes ++ rest

-- The bytes are that whole trace.
abbrev pub IsTrace : List ℕ → List ℕ → List ℕ → Type 0
IsTrace world events bytes = BeginsTrace world events bytes []

-- what a status means
pub record IsRun (world events put : List ℕ) (status : ℕ) : Type 0 where
  pub most : status ≤ 3
  pub traced : status ≡ 0 → IsTrace world events put
  pub refused : status ≡ 1 → IsRefused world events × (put ≡ [])
  pub known : status ≢ 2
  -- memory ran out: nothing was put, or a beginning of the trace
  pub cut_short : status ≡ 3 → (put ≡ []) ⊎ ((rest : List ℕ) × BeginsTrace world events put rest)

-- ---- of `audit trace`

-- what a status means
pub record IsAudited (trace put : List ℕ) (status : ℕ) : Type 0 where
  pub most : status ≤ 3
  pub lawful : status ≡ 0 → IsLawful trace × (put ≡ codes "ok" ++ 10 ∷ [])
  pub faulty : status ≡ 1 → (IsLawful trace → ⊥) × ((why : TraceFault) × IsFirstFault trace why × (put ≡ fault_answer why))
  pub known : status ≢ 2
