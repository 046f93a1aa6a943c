-- Shows that the alarm call, a tick and the report of a wait depend only on the ticks until alarms are due.
use Rattle.std.proofs.Common.{◌≡◌, ℕ, ◌+◌, List, [], ◌∷◌, Option, Some, None, refl, ap, ◌∙◌}
use native.Mathlib.Omega.{arith}
use Rattle.std.specs.Prelude.{pos, option_map, filter, find}
use Rattle.posix.specs.Processes.{Process, argument}
use Rattle.posix.specs.States.{State, current}
use Rattle.posix.specs.Tables.{children_in}
use Rattle.posix.specs.Alarms.{ring_all, with_alarm, pass_time, ticks_left, due_in, alarm, alarm_in, ticks_in}
use Rattle.posix.specs.Outcomes.{Reply, Attempted, Done, Block, Again}
use Rattle.posix.specs.Waits.{report, report_among, report_found, report_of, reports, is_named}
use Rattle.posix.specs.Step.{rotate, tick}
use Rattle.posix.specs.declared.target.Target.{Target}
use Rattle.posix.specs.declared.target.Target.TheVariants as whom
use Rattle.times.specs.Times.{later, all_later, state_later, outcome_later}
use Rattle.times.proofs.SignalLemmas.{children_later, ring_all_later}

abbrev pub attempted_later : ℕ → Attempted → Attempted
attempted_later d (Done o) = Done (outcome_later d o)
attempted_later d (Block b) = Block b
attempted_later d (Again s) = Again (state_later d s)

-- A reply has the same value as another one, and changes a later process as that one changes the process.
abbrev pub AreLater : ℕ → Reply → Reply → Type 0
AreLater d now then = (now.value ≡ then.value) × ((r : Process) → now.changes (later d r) ≡ later d (then.changes r))

pub alarm_later : (d : ℕ) (s : State) (me : Process) → AreLater d (alarm (state_later d s) (later d me)) (alarm s me)
unfolding alarm with_alarm
alarm_later d s me = go (ticks_in (argument me 1)) where
  left : (a : Option ℕ) → ticks_left (s.ticks + d) (option_map (λ due. due + d) a) ≡ ticks_left s.ticks a
  left None = refl
  left (Some due) = omega arith

  due : (n : ℕ) → due_in (s.ticks + d) n ≡ option_map (λ due. due + d) (due_in s.ticks n)
  due n = grind arith

  go : (n : Option ℕ) → AreLater d (alarm_in (state_later d s).ticks (later d me) n) (alarm_in s.ticks me n)
  go None = (refl, λ r. refl)
  go (Some n) = (ap (λ (k : ℕ). pos k) (left me.alarm), λ r. ap (λ (a : Option ℕ). record r { alarm = a }) (due n))

rotate_later : (d : ℕ) (s : State) (p : Option ℕ) → rotate (state_later d s) p ≡ state_later d (rotate s p)
rotate_later d s None = refl
rotate_later d s (Some p) = refl

pub tick_later : (d : ℕ) (s : State) → tick (state_later d s) ≡ state_later d (tick s)
unfolding tick
tick_later d s =
    let time : s.ticks + d + 1 ≡ s.ticks + 1 + d = omega arith in
    let rings : ring_all (s.ticks + d + 1) (all_later d s.processes) ≡ all_later d (ring_all (s.ticks + 1) s.processes) = ap (λ (t : ℕ). ring_all t (all_later d s.processes)) time ∙ ring_all_later d (s.ticks + 1) s.processes in
    let passes : pass_time (state_later d s) ≡ state_later d (pass_time s) = ap (λ (t : ℕ). record (state_later d s) { ticks = t; processes = ring_all (s.ticks + d + 1) (all_later d s.processes) }) time ∙ ap (λ (rs : List Process). record (state_later d s) { ticks = s.ticks + 1 + d; processes = rs }) rings in
    ap (λ (t : State). rotate t (current s)) passes ∙ rotate_later d (pass_time s) (current s)

named_later : (d group : ℕ) (t : Target) (rs : List Process) → filter (is_named group t) (all_later d rs) ≡ all_later d (filter (is_named group t) rs)
named_later d group t [] = refl
named_later d group (whom.Process p) (r ∷ rs) = grind (arith, named_later d group (whom.Process p) rs)
named_later d group whom.OwnGroup (r ∷ rs) = grind (arith, named_later d group whom.OwnGroup rs)
named_later d group (whom.Group p) (r ∷ rs) = grind (arith, named_later d group (whom.Group p) rs)
named_later d group whom.All (r ∷ rs) = grind (arith, named_later d group whom.All rs)
named_later d group whom.Nobody (r ∷ rs) = grind (arith, named_later d group whom.Nobody rs)

first_later : (d options : ℕ) (rs : List Process) → report_found options (find (reports options) (all_later d rs)) ≡ report_found options (find (reports options) rs)
unfolding report_of
first_later d options [] = refl
first_later d options (r ∷ rs) = grind (arith, first_later d options rs)

among_later : (d options : ℕ) (rs : List Process) → report_among options (all_later d rs) ≡ report_among options rs
among_later d options [] = refl
among_later d options (r ∷ rs) = first_later d options (r ∷ rs)

pub report_later : (d : ℕ) (rs : List Process) (caller group : ℕ) (t : Target) (options : ℕ) → report (all_later d rs) caller group t options ≡ report rs caller group t options
unfolding report
report_later d rs caller group t options =
    ap (λ (cs : List Process). report_among options (filter (is_named group t) cs)) (children_later d caller rs)
    ∙ ap (report_among options) (named_later d group t (children_in caller rs))
    ∙ among_later d options (filter (is_named group t) (children_in caller rs))
