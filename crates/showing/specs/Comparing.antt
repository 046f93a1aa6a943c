-- What the statuses mean if a trace is compared with a run of a world.
use Rattle.std.specs.Prelude.{◌≡◌, ◌⊎◌, ℕ, List, Option, None, Some, IfSome}
use Rattle.inputs.specs.Failures.{MeansOf}
use Rattle.inputs.specs.Reads.{AreRefused, Contents, Text}
use Rattle.inputs.specs.Statuses.{status_of}
use Rattle.inputs.specs.declared.InputFault.{InputFault}
use Rattle.showing.specs.Comparisons.{Compares, OfRun}
use Rattle.showing.specs.Explanations.{IsCutShort, OfExplained}
use Rattle.trace.specs.Sinks.{Seen, TakesAll}
use Rattle.showing.specs.declared.comparing.Named.{Named as DeclaredNamed}

-- the names of three files
pub record Named : Type 0 where
  pub trace : Text
  pub world : Text
  pub events : Text

abbrev pub said : DeclaredNamed → Named
said n = record { trace = n.trace.now; world = n.world.now; events = n.events.now }

-- This trace is what its file holds, if that is known. Without a line number, it is the printed trace of a run of the
-- machine on the two texts. With one, it isn't, and the line with this number is the first that differs.
abbrev pub IsTraceBeside : Contents → Named → List ℕ → Option ℕ → Type 0
IsTraceBeside contents names trace number =
    IfSome (contents names.trace) (λ known. trace ≡ known) × OfRun contents (names.world, names.events) (λ printed. Compares trace printed number)

-- This comparison holds of some trace.
abbrev pub IsCompared : Contents → Named → Option ℕ → Type 0
IsCompared contents names number = (trace : List ℕ) × IsTraceBeside contents names trace number

-- Some trace is the printed trace of such a run, and P holds of a text that is this trace with explanations.
abbrev pub OfSame : Contents → Named → (List ℕ → Type 0) → Type 0
OfSame contents names P = (trace : List ℕ) × IsTraceBeside contents names trace None × OfExplained trace P

-- If the status of the fault is 1, the world or the events are rejected.
abbrev pub IsUnread : Contents → Named → InputFault → Type 0
IsUnread contents names why = status_of why ≡ 1 → AreRefused contents (names.world, names.events)

-- The world or the events are rejected, or the trace is not that of a run.
abbrev pub IsOther : Contents → Named → Type 0
IsOther contents names = AreRefused contents (names.world, names.events) ⊎ ((number : ℕ) × IsCompared contents names (Some number))

-- What a status means, and what the output took.
abbrev pub Means : {S : Type 0} → Contents → Named → S → S → Seen → Seen → ℕ → Type 0
Means contents names old new before after status =
    MeansOf (OfSame contents names (TakesAll before after)) (IsOther contents names × (new ≡ old)) (OfSame contents names (IsCutShort before after)) (Some names) old new status
