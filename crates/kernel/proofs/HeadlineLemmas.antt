-- Runs whose trace was taken, to its end or not, and the laws that whole ones keep.
use Rattle.std.proofs.Common.{◌≡◌, ℕ, ◌+◌, List, length, ap, subst, ◌∙◌, zero-add, ◌≤◌, sym, arith}
use Rattle.std.specs.Prelude.{Result, Ok, Err}
use Rattle.std.specs.Result.{MatchResult, IsErrAnd, IfOk}
use Rattle.text.specs.Reading.{Answers}
use Rattle.posix.specs.declared.event.Event.{Event}
use Rattle.posix.specs.Common.{Line, reported, World, State, boot, RunsFrom, IsEvent, IsWorld, IsRegular}
use Rattle.text.specs.declared.fault.TextFault.{TextFault}
use Rattle.text.specs.EventTexts.{event_text, most_events}
use Rattle.text.specs.WorldTexts.{world_text}
use Rattle.kernel.specs.declared.summary.Summary.{Summary}
use Rattle.trace.specs.Sinks.{Seen}
use Rattle.kernel.specs.Views.{KernelView}
use Rattle.kernel.specs.Progress.{WritesTrace, BreaksTrace}
use Rattle.kernel.specs.Summaries.{summary_of}
use Rattle.kernel.specs.Headline.{Traces, CutsShort, Headline}
use Rattle.std.specs.List.{AllByRecursion}
use Rattle.laws.proofs.AgreeRuns.{run_trace}
use Rattle.kernel.specs.declared.texts.RunError.{RunError}
use Rattle.kernel.specs.Accounts.{Accounts}

-- a value that a `map_err` hands on was there before it
ok_before : {A E F : Type 0} (r : Result A E) (m : Result A F) (x : A) (Q : E → F → Type 0) →
    MatchResult r (λ y. m ≡ Ok y) (λ e. IsErrAnd m (Q e)) → m ≡ Ok x → r ≡ Ok x
ok_before {A = A} {F = F} (Ok y) m x Q h e = let same : y ≡ x = cc in ap (λ (z : A). Ok z) same
ok_before {A = A} {F = F} (Err e) m x Q h same = absurd (subst (λ (n : Result A F). IsErrAnd n (Q e)) same h)

-- what a reader returned, and a `map_err` passed on, is what the input means
pub answered : {A F : Type 0} (r meaning : Result A TextFault) (m : Result A F) (x : A) (Q : TextFault → F → Type 0) →
    MatchResult r (λ y. m ≡ Ok y) (λ e. IsErrAnd m (Q e)) → m ≡ Ok x → Answers r meaning → meaning ≡ Ok x
answered {A = A} r meaning m x Q h e a = subst (λ (n : Result A TextFault). Answers n meaning) (ok_before r m x Q h e) a

-- what holds of any value of a result holds of the one that a `map_err` handed on
pub ok_holds : {A E F : Type 0} (r : Result A E) (m : Result A F) (x : A) (P : A → Type 0) (Q : E → F → Type 0) →
    MatchResult r (λ y. m ≡ Ok y) (λ e. IsErrAnd m (Q e)) → m ≡ Ok x → IfOk r P → P x
ok_holds {A = A} {E = E} r m x P Q h e a = subst (λ (n : Result A E). IfOk n P) (ok_before r m x Q h e) a

-- a kernel that was booted, whose trace was written and counted, traces the run of the inputs
pub traces : (world_bytes event_bytes : List ℕ) (w : World) (events : List Event) (old new : KernelView) (a b : Seen) (ends : ℕ) (summary : Summary) →
    world_text world_bytes ≡ Ok w → event_text w.consoles event_bytes ≡ Ok events →
    old.state ≡ boot w → old.events ≡ 0 → WritesTrace (old.events + 1) old.state events new.state a b ends →
    new.events ≡ old.events + length events → ((lines : List Line) → reported lines ≡ ends → summary ≡ summary_of new.events lines new.state) →
    Traces world_bytes event_bytes a b summary
traces world_bytes event_bytes w events old new a b ends summary world_is events_are booted none writes count counted = record {
  events = events;
  lines = writes.lines;
  last = new.state;
  run = record {
    world = w;
    world_is = world_is;
    events_are = events_are;
    run = subst (λ (n : ℕ). RunsFrom (n + 1) (boot w) events writes.lines new.state) none (subst (λ (s : State). RunsFrom (old.events + 1) s events writes.lines new.state) booted writes.run);
  };
  taken = writes.holds.0;
  counted = counted writes.lines writes.holds.1 ∙ ap (λ (n : ℕ). summary_of n writes.lines new.state)
      (count ∙ ap (λ (n : ℕ). n + length events) none ∙ zero-add (length events));
}

-- a kernel that was booted, whose trace broke off, cuts the run of the inputs short
pub cuts_short : (world_bytes event_bytes : List ℕ) (w : World) (events : List Event) (old : KernelView) (a b : Seen) →
    world_text world_bytes ≡ Ok w → event_text w.consoles event_bytes ≡ Ok events →
    old.state ≡ boot w → old.events ≡ 0 → BreaksTrace (old.events + 1) old.state events a b → CutsShort world_bytes event_bytes a b
cuts_short world_bytes event_bytes w events old a b world_is events_are booted none breaks = record {
  events = events;
  lines = breaks.lines;
  last = breaks.last;
  run = record {
    world = w;
    world_is = world_is;
    events_are = events_are;
    run = subst (λ (n : ℕ). RunsFrom (n + 1) (boot w) events breaks.lines breaks.last) none (subst (λ (s : State). RunsFrom (old.events + 1) s events breaks.lines breaks.last) booted breaks.run);
  };
  broken = breaks.broken;
}

-- a world in which process 1 has a record
pub world_least : (w : World) (s : State) → s ≡ boot w → IsRegular s → 1 ≤ w.pidmax
world_least w s is i =
    let b = i.bounded 1 i.first.what i.first.found in
    subst (λ (s : State). 1 ≤ s.world.pidmax) is (omega (arith, b.least, b.pid))

-- ---- traces

-- a trace keeps the laws
accounts : (world_bytes event_bytes : List ℕ) (a b : Seen) (summary : Summary) (w : World) (es : List Event) → world_text world_bytes ≡ Ok w → event_text w.consoles event_bytes ≡ Ok es → 1 ≤ w.pidmax → IsWorld w → AllByRecursion IsEvent es
    → length es ≤ most_events → Traces world_bytes event_bytes a b summary → Accounts world_bytes event_bytes a b summary
accounts world_bytes event_bytes a b summary w es is events most ranges bytes few t =
    let same : w ≡ t.run.world = let both = sym is ∙ t.run.world_is in cc in
    let given : es ≡ t.events = let both = sym events ∙ ap (λ (w : World). event_text w.consoles event_bytes) same ∙ t.run.events_are in cc in
    let h = run_trace t.run.world t.events t.lines t.last (subst (λ (w : World). 1 ≤ w.pidmax) same most) (subst IsWorld same ranges) (subst (AllByRecursion IsEvent) given bytes) (subst (λ (es : List Event). length es ≤ most_events) given few) t.run.run in
    record {
      trace = t;
      forms = h.forms;
      laws = h.agree.laws;
      counts = ap (λ (s : Summary). s.births) t.counted ∙ h.agree.counts ∙ sym (ap (λ (s : Summary). s.living + s.zombies + s.reported + s.dropped) t.counted);
    }

-- the trace of a run that came to its end keeps them, too
pub all_accounts : {S : Type 0} (old new : S) (world_bytes event_bytes : List ℕ) (a b : Seen) (r : Result Summary RunError) (w : World) (es : List Event) → world_text world_bytes ≡ Ok w → event_text w.consoles event_bytes ≡ Ok es → IfOk r (λ summary. 1 ≤ w.pidmax) → IsWorld w
    → AllByRecursion IsEvent es → length es ≤ most_events → Headline world_bytes event_bytes old new a b r → IfOk r (Accounts world_bytes event_bytes a b)
all_accounts old new world_bytes event_bytes a b (Ok summary) w es is events most ranges bytes few h = accounts world_bytes event_bytes a b summary w es is events most ranges bytes few h
all_accounts old new world_bytes event_bytes a b (Err why) w es is events most ranges bytes few h = tt
