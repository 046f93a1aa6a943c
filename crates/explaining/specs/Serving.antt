-- What the exit statuses of `explain` mean.
use Rattle.std.specs.Prelude.{◌≡◌, ℕ, List, Option, Result, Ok, Err, IfSome, IsSomeAnd}
use Rattle.inputs.specs.Failures.{MeansOf, status_of}
use Rattle.inputs.specs.Reads.{Contents, Text}
use Rattle.inputs.specs.declared.failure.FileFailure.{FileFailure}
use Rattle.trace.specs.Sinks.{Seen, TakesAll}
use Rattle.showing.specs.Comparing.{IsOther, OfSame}
use Rattle.showing.specs.Explanations.{IsCutShort, OfExplained}
use Rattle.explaining.specs.Words.{Asked, OfTrace, OfRun}

-- the exit status of a result
abbrev pub answer_of : Result (Unit {0}) FileFailure → ℕ
answer_of (Ok done) = 0
answer_of (Err why) = status_of why

-- ---- what a status means

-- P holds of a text that is the trace in a file with explanations. If a world is named, it is the trace of a run.
abbrev pub OfAsked : Contents → (List ℕ → Type 0) → Asked → Type 0
OfAsked contents P (OfTrace name) = (trace : List ℕ) × IfSome (contents name) (λ known. trace ≡ known) × OfExplained trace P
OfAsked contents P (OfRun names) = OfSame contents names P

-- The trace is not the one of a run, or the world or its events are rejected; and nothing was put.
abbrev pub IsRefused : {S : Type 0} → Contents → S → S → Asked → Type 0
IsRefused contents old new (OfTrace name) = ⊥
IsRefused contents old new (OfRun names) = IsOther contents names × (new ≡ old)

-- What a status means: all of such a text was put, or nothing, or a beginning of it. The arguments are the files, the
-- request, if there is one, and the output at the call and at the return.
abbrev pub Means : {S : Type 0} → Contents → Option Asked → S → S → Seen → Seen → ℕ → Type 0
Means contents asked old new before after status =
    MeansOf (IsSomeAnd asked (OfAsked contents (TakesAll before after))) (IsSomeAnd asked (IsRefused contents old new)) (IsSomeAnd asked (OfAsked contents (IsCutShort before after))) asked old new status
