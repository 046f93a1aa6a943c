-- Shows that runs don't depend on the time: the same events print the same lines.
use Rattle.std.proofs.Common.{◌≡◌, ℕ, ◌+◌, List, [], ◌∷◌, refl, sym, ap, ◌∙◌, subst}
use Rattle.posix.specs.declared.event.Event.{Event}
use Rattle.posix.specs.declared.entry.Entry.{Entry}
use Rattle.posix.specs.Entries.{Line}
use Rattle.posix.specs.States.{State}
use Rattle.posix.specs.Outcomes.{Outcome}
use Rattle.posix.specs.Step.{next, IsStep}
use Rattle.posix.specs.Runs.{RunsFrom}
use Rattle.times.specs.Times.{state_later, outcome_later}
use Rattle.times.proofs.StepLemmas.{next_later}

-- ---- an event

pub event_later : (d : ℕ) (old new : State) (event : Event) (entries : List Entry) → IsStep old event entries new → IsStep (state_later d old) event entries (state_later d new)
event_later d old new event entries h = record { granted = h.granted; comes = next_later d h.granted old event ∙ ap (outcome_later d) h.comes }

-- Each step from the later state is a step from the state, made later.
pub event_earlier : (d : ℕ) (old t : State) (event : Event) (entries : List Entry) → IsStep (state_later d old) event entries t → (new : State) × IsStep old event entries new × (t ≡ state_later d new)
event_earlier d old t event entries h =
    let o = next h.granted old event in
    let is : outcome_later d o ≡ record { state = t; entries = entries } = sym (next_later d h.granted old event) ∙ h.comes in
    (o.state, record { granted = h.granted; comes = ap (λ (x : Outcome). record { state = o.state; entries = x.entries }) is }, sym (ap (λ (x : Outcome). x.state) is))

-- ---- a run

pub runs_later : (d k : ℕ) (old last : State) (events : List Event) (lines : List Line) → RunsFrom k old events lines last → RunsFrom k (state_later d old) events lines (state_later d last)
runs_later d k old last [] lines run = (run.0, ap (state_later d) run.1)
runs_later d k old last (event ∷ events) lines run = (state_later d run.0, run.1, run.2, event_later d old run.0 event run.1 run.3, run.4, runs_later d (k + 1) run.0 last events run.2 run.5)

-- Each run from the later state is a run from the state, made later.
pub runs_earlier : (d k : ℕ) (old t : State) (events : List Event) (lines : List Line) → RunsFrom k (state_later d old) events lines t → (last : State) × RunsFrom k old events lines last × (t ≡ state_later d last)
runs_earlier d k old t [] lines run = (old, (run.0, refl), run.1)
runs_earlier d k old t (event ∷ events) lines run =
    let first = event_earlier d old run.0 event run.1 run.3 in
    let rest = runs_earlier d (k + 1) first.0 t events run.2 (subst (λ (s : State). RunsFrom (k + 1) s events run.2 t) first.2 run.5) in
    (rest.0, (first.0, run.1, run.2, first.1, run.4, rest.1), rest.2)
