-- Whole runs.
use Rattle.std.specs.Prelude.{◌≡◌, ℕ, ◌+◌, List, [], ◌∷◌, ◌++◌}
use Rattle.posix.specs.declared.event.Event.{Event}
use Rattle.posix.specs.declared.entry.Entry.{Entry}
use Rattle.posix.specs.Entries.{Line, numbered}
use Rattle.posix.specs.States.{State, World, boot}
use Rattle.posix.specs.Step.{IsStep}

-- From old, the events, numbered from k, may print these lines and lead to new.
abbrev pub RunsFrom : ℕ → State → List Event → List Line → State → Type 0
RunsFrom k old [] lines new = (lines ≡ []) × (new ≡ old)
RunsFrom k old (event ∷ events) lines new =
    (mid : State) × (entries : List Entry) × (rest : List Line)
    × IsStep old event entries mid × (lines ≡ numbered k entries ++ rest) × RunsFrom (k + 1) mid events rest new

-- In a world, the events, numbered from 1, may print these lines and lead to this last state.
abbrev pub Runs : World → List Event → List Line → State → Type 0
Runs world events lines last = RunsFrom 1 (boot world) events lines last
