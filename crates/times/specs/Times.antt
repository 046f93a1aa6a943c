-- A process, a state and an outcome at a later time: with d more ticks passed, and each alarm due d ticks later.
use Rattle.std.specs.Prelude.{◌≡◌, ◌⊎◌, ℕ, ◌+◌, List, map, option_map}
use Rattle.posix.specs.Processes.{Process}
use Rattle.posix.specs.States.{State}
use Rattle.posix.specs.Outcomes.{Outcome}

-- Returns the process with its alarm, if it is set, due d ticks later.
abbrev pub later : ℕ → Process → Process
later d r = record r { alarm = option_map (λ due. due + d) r.alarm }

-- Returns the processes, each d ticks later.
abbrev pub all_later : ℕ → List Process → List Process
all_later d rs = map (later d) rs

-- Returns the state d ticks later: as many more ticks have passed, and each alarm is due as much later.
abbrev pub state_later : ℕ → State → State
state_later d s = record s { ticks = s.ticks + d; processes = all_later d s.processes }

-- One state is the other, moved in time.
abbrev pub AreMoved : State → State → Type 0
AreMoved s t = (d : ℕ) × ((t ≡ state_later d s) ⊎ (s ≡ state_later d t))

-- Returns the outcome with its state d ticks later. It shows the same entries.
abbrev pub outcome_later : ℕ → Outcome → Outcome
outcome_later d o = record o { state = state_later d o.state }
