-- Agreement of the lines of a trace with a state.
use Rattle.std.specs.Prelude.{◌≡◌, ◌≢◌, ℕ, ◌+◌, ◌≤◌, Bool, true, false, if◌then◌else◌, List, Option, Some, None, is_some, count_by}
use Rattle.posix.specs.declared.process.Life.TheVariants.{Zombie}
use Rattle.posix.specs.declared.process.News.{News}
use Rattle.posix.specs.declared.process.News.TheVariants as news
use Rattle.posix.specs.Common.{KILL, is_stop_signal, Process, is_zombie, is_stopped, is_living, State, process, is_in, Line, reported, is_pending, lookup, is_end_word}
use Rattle.std.specs.List.{list_all}
use Rattle.laws.specs.TraceLines.{is_line}
use Rattle.laws.specs.Kinds.{AreKinds}
use Rattle.laws.specs.Lives.{Laws, born_by, last_line}
use Rattle.laws.specs.Keeping.{Alive, Dead, Kept, NeverBorn, Lives, Died, Phase, Going, Over, kept_of, phase_of, last_number}

-- A stop to be reported is the last one, and no wait has consumed it or its continue; no wait has consumed a continue
-- to be reported. A stopped process has no continue to be reported.
abbrev pub NewsAgree : Alive → Bool → News → Type 0
NewsAgree a stops news.Nothing = Unit {0}
NewsAgree a stops (news.StoppedBy s) = (a.stop ≡ Some s) × (is_stop_signal s ≡ true)
NewsAgree a stops news.Continued = (a.may_continue ≡ true) × (stops ≡ false)

pub record AgreeLiving (a : Alive) (r : Process) : Type 0 where
  pub living : is_zombie r.life ≡ false
  pub parent : r.parent ≡ a.parent
  pub mark : r.is_subreaper ≡ a.is_marked
  pub news : NewsAgree a (is_stopped r.life) r.news
  pub stopped : is_stopped r.life ≡ true → a.may_continue ≡ true

pub record AgreeDead (d : Dead) (r : Process) : Type 0 where
  pub life : r.life ≡ Zombie d.status
  pub parent : r.parent ≡ d.parent
  pub reported : d.reported ≡ false
  pub news : r.pid ≢ 1 → r.news ≡ news.Nothing
  pub word : is_end_word d.status ≡ true

-- Living processes are lives that have not ended. A zombie is the newest life of its process ID,
-- which has ended and is not reaped.
abbrev pub AgreeOn : Kept → Option Process → Type 0
AgreeOn NeverBorn None = Unit {0}
AgreeOn NeverBorn (Some r) = ⊥
AgreeOn (Lives a) None = ⊥
AgreeOn (Lives a) (Some r) = AgreeLiving a r
AgreeOn (Died d) None = Unit {0}
AgreeOn (Died d) (Some r) = AgreeDead d r

-- Returns true if a line creates a process.
abbrev pub is_birth : Line → Bool
is_birth l = is_some (born_by l.entry)

abbrev pub count_living : State → ℕ
count_living s = count_by is_living s.processes

abbrev pub count_zombies : State → ℕ
count_zombies s = count_by (λ r. is_zombie r.life) s.processes

-- These are lines of a run to this state, after this many events, within an event in this phase.
pub record AgreeIn (at : Phase) (lines : List Line) (events : ℕ) (s : State) : Type 0 where
  pub laws : Laws lines
  pub number : last_number (last_line lines) ≤ events
  pub records : (p : ℕ) → AgreeOn (kept_of lines p) (process s p)
  pub born : s.births ≡ 1 + count_by is_birth lines
  pub counts : s.births ≡ count_living s + count_zombies s + reported lines + s.dropped
  pub phase : phase_of (last_line lines) ≡ at

-- Returns the phase between events.
abbrev pub phase_between : Bool → Phase
phase_between halted = if halted then Over else Going

-- These are lines of a run to this state, after this many events.
abbrev pub Agree : List Line → ℕ → State → Type 0
Agree lines events s = AgreeIn (phase_between s.halted) lines events s

-- Process 1 is a zombie exactly if the machine has halted. No other zombie has a stop or a continue to be reported,
-- and a stopped process has no continue to be reported.
pub record LivesAndNews (s : State) : Type 0 where
  pub first : (r : Process) → process s 1 ≡ Some r → is_zombie r.life ≡ s.halted
  pub zombies : (p : ℕ) (r : Process) → p ≢ 1 → process s p ≡ Some r → is_zombie r.life ≡ true → r.news ≡ news.Nothing
  pub stopped : (p : ℕ) (r : Process) → process s p ≡ Some r → is_stopped r.life ≡ true → r.news ≢ news.Continued

-- A stopped process in the run queue has SIGKILL pending.
pub record AreTurns (s : State) : Type 0 where
  pub turns : (p : ℕ) (r : Process) → is_in p s.order ≡ true → lookup p s.processes ≡ Some r → is_stopped r.life ≡ true → is_pending r.signals KILL ≡ true

-- What a regular state needs in addition, so that what it prints next agrees with it: each stopped process in the run
-- queue has SIGKILL pending, and all parts are of their kinds.
pub record IsOrderly (s : State) : Type 0 where
  pub turns : AreTurns s
  pub kinds : AreKinds s

-- These are lines of a run to this state, after this many events, each of a form.
pub record IsTraceOf (lines : List Line) (events : ℕ) (s : State) : Type 0 where
  pub forms : list_all is_line lines ≡ true
  pub agree : Agree lines events s
