-- What `run` and `audit` do, and what an exit status means.
use Rattle.std.specs.Prelude.{◌≡◌, ◌≢◌, ◌⊎◌, ℕ, Bool, List, [], ◌∷◌, ◌++◌, codes, decimal, unwrap_or, if◌then◌else◌, Option, Result, Ok, Err, IfSome, IsSomeAnd}
use Rattle.std.specs.Borrow.{Bor}
use Rattle.kernel.specs.declared.summary.Summary.{Summary}
use Rattle.posix.specs.Common.{World}
use Rattle.text.specs.EventTexts.{event_text}
use Rattle.text.specs.WorldTexts.{world_text}
use Rattle.text.specs.declared.fault.Reason.TheVariants.{Memory}
use Rattle.text.specs.declared.fault.TextFault.{TextFault}
use Rattle.kernel.specs.declared.texts.RunError.TheVariants as error
use Rattle.kernel.specs.Headline.{CutsShort, Traces}
use Rattle.trace.specs.Sinks.{BreaksOff, Seen, TakesAll}
use Rattle.audit.specs.Faults.{law_of, number_of}
use Rattle.audit.specs.Texts.{IsFirstFault, IsLawful}
use Rattle.audit.specs.declared.fault.AuditFault.{AuditFault}
use Rattle.audit.specs.declared.texts.TraceFault.{TraceFault}
use Rattle.inputs.specs.Failures.{MeansOf}
use Rattle.judging.specs.Lines.{line_of}
use Rattle.inputs.specs.Reads.{AreInFiles, Contents, Text}
use Rattle.commands.specs.declared.running.Failure.{Failure}
use Rattle.commands.specs.declared.running.Failure.TheVariants as failure
use Rattle.commands.specs.declared.running.TheConstants.{STORED_EVENTS, STORED_WORLD}

abbrev pub status_of : Failure → ℕ
status_of (failure.Run (error.World fault)) = 1
status_of (failure.Run (error.Events fault)) = 1
status_of failure.Faulty = 1
status_of (failure.Unread why) = 3
status_of (failure.Run error.Memory) = 3
status_of (failure.Run error.Write) = 3

-- the exit status of success or of a failure
abbrev pub answer_of : Result (Unit {0}) Failure → ℕ
answer_of (Ok done) = 0
answer_of (Err why) = status_of why

-- ---- what is asked for

-- Arguments name two files, and these texts can be the contents of those files.
abbrev pub AskFor : Contents → Option (Text × Text) → List ℕ → List ℕ → Type 0
AskFor contents asked world events = IsSomeAnd asked (λ names. AreInFiles contents names world events)

-- Arguments name one file, and this text can be the contents of that file.
abbrev pub AskForAudit : Contents → Option Text → List ℕ → Type 0
AskForAudit contents asked trace = IsSomeAnd asked (λ name. IfSome (contents name) (λ known. trace ≡ known))

-- These texts are the stored ones, which are run without arguments.
abbrev pub AreStored : List ℕ → List ℕ → Type 0
AreStored world events = (world ≡ STORED_WORLD.now) × (events ≡ STORED_EVENTS.now)

-- P holds of two texts that are asked for.
abbrev pub OfTexts : (List ℕ → List ℕ → Type 0) → (List ℕ → List ℕ → Type 0) → Type 0
OfTexts Asks P = (world : List ℕ) × (events : List ℕ) × Asks world events × P world events

-- P holds of a trace whose audit is asked for.
abbrev pub OfTrace : (List ℕ → Type 0) → (List ℕ → Type 0) → Type 0
OfTrace Asks P = (trace : List ℕ) × Asks trace × P trace

-- ---- the answer of an audit

abbrev pub ok_answer : List ℕ
ok_answer = codes "ok" ++ 10 ∷ []

-- `line N: fault K`
abbrev pub fault_answer : TraceFault → List ℕ
fault_answer why = (((codes "line " ++ decimal why.line) ++ codes ": fault ") ++ decimal (number_of why.fault)) ++ 10 ∷ []

abbrev pub law_answer : AuditFault → List ℕ
law_answer fault = (codes "   " ++ law_of fault) ++ 10 ∷ []

-- the faulty line, and after it a line with the law that it breaks
abbrev pub line_and_law : List ℕ → TraceFault → List ℕ
line_and_law trace why = unwrap_or (line_of why.line trace) [] ++ law_answer why.fault

-- the fault, and after it, if laws are asked for, the faulty line and the law
abbrev pub faulty_answer : Bool → List ℕ → TraceFault → List ℕ
faulty_answer tells_law trace why = fault_answer why ++ (if tells_law then line_and_law trace why else [])

-- The laws of a trace hold of this text, and `ok` was written.
abbrev pub IsAccepted : Seen → Seen → List ℕ → Type 0
IsAccepted before after trace = IsLawful trace × TakesAll before after ok_answer

-- The laws of a trace do not hold of this text, and the answer for its first fault was written.
abbrev pub IsFaulty : Bool → Seen → Seen → List ℕ → Type 0
IsFaulty tells_law before after trace = (IsLawful trace → ⊥) × ((why : TraceFault) × IsFirstFault trace why × TakesAll before after (faulty_answer tells_law trace why))

-- A prefix of the answer was written, and then a put failed.
abbrev pub IsCutOff : Bool → Seen → Seen → List ℕ → Type 0
IsCutOff tells_law before after trace = (IsLawful trace × BreaksOff before after ok_answer)
    ⊎ ((why : TraceFault) × IsFirstFault trace why × BreaksOff before after (faulty_answer tells_law trace why))

-- The whole trace of a run of the two texts was written.
abbrev pub IsTraced : Seen → Seen → List ℕ → List ℕ → Type 0
IsTraced before after world events = (summary : Summary) × Traces world events before after summary

-- One of the two texts is rejected.
abbrev pub IsRefused : List ℕ → List ℕ → Type 0
IsRefused world_bytes event_bytes = (fault : TextFault) × (fault.reason ≢ Memory) × ((world_text world_bytes ≡ Err fault)
    ⊎ ((world : World) × (world_text world_bytes ≡ Ok world) × (event_text world.consoles event_bytes ≡ Err fault)))

-- ---- how a command ends, and what an exit status means

-- how a run of texts that are asked for ends
abbrev pub EndsRun : {S : Type 0} → (List ℕ → List ℕ → Type 0) → S → S → Seen → Seen → Result (Unit {0}) Failure → Type 0
EndsRun Asks old new before after (Ok done) = OfTexts Asks (IsTraced before after)
EndsRun Asks old new before after (Err failure.Faulty) = ⊥
EndsRun Asks old new before after (Err (failure.Unread why)) = new ≡ old
EndsRun Asks old new before after (Err (failure.Run (error.World fault))) = OfTexts Asks IsRefused × (new ≡ old)
EndsRun Asks old new before after (Err (failure.Run (error.Events fault))) = OfTexts Asks IsRefused × (new ≡ old)
EndsRun Asks old new before after (Err (failure.Run error.Memory)) = new ≡ old
EndsRun Asks old new before after (Err (failure.Run error.Write)) = OfTexts Asks (λ world events. CutsShort world events before after)

-- how an audit ends
abbrev pub EndsAudit : {S : Type 0} → Bool → (List ℕ → Type 0) → S → S → Seen → Seen → Result (Unit {0}) Failure → Type 0
EndsAudit tells_law Audits old new before after (Ok done) = OfTrace Audits (IsAccepted before after)
EndsAudit tells_law Audits old new before after (Err failure.Faulty) = OfTrace Audits (IsFaulty tells_law before after)
EndsAudit tells_law Audits old new before after (Err (failure.Unread why)) = new ≡ old
EndsAudit tells_law Audits old new before after (Err (failure.Run (error.World fault))) = ⊥
EndsAudit tells_law Audits old new before after (Err (failure.Run (error.Events fault))) = ⊥
EndsAudit tells_law Audits old new before after (Err (failure.Run error.Memory)) = new ≡ old
EndsAudit tells_law Audits old new before after (Err (failure.Run error.Write)) = OfTrace Audits (IsCutOff tells_law before after)

-- What an exit status means for a run, by what is asked for, if anything, and the output before and after. With status
-- 3, nothing or a prefix of the trace was written.
abbrev pub MeansOfRun : {A S : Type 0} → (List ℕ → List ℕ → Type 0) → Option A → S → S → Seen → Seen → ℕ → Type 0
MeansOfRun Asks asked old new before after status = MeansOf (OfTexts Asks (IsTraced before after)) (OfTexts Asks IsRefused × (new ≡ old))
    (OfTexts Asks (λ world events. CutsShort world events before after)) asked old new status

-- What an exit status means for an audit. With status 3, nothing or a prefix of the answer was written.
abbrev pub MeansOfAudit : {A S : Type 0} → Bool → (List ℕ → Type 0) → Option A → S → S → Seen → Seen → ℕ → Type 0
MeansOfAudit tells_law Audits asked old new before after status =
    MeansOf (OfTrace Audits (IsAccepted before after)) (OfTrace Audits (IsFaulty tells_law before after)) (OfTrace Audits (IsCutOff tells_law before after)) asked old new status

-- A text of the program was written, with status 0; or a put of it failed, with status 3.
abbrev pub IsToldAs : List ℕ → Seen → Seen → ℕ → Type 0
IsToldAs text before after status = ((status ≡ 0) × TakesAll before after text) ⊎ ((status ≡ 3) × BreaksOff before after text)
