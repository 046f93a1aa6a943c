-- An event raises the counts of births and of ticks by one at most.
use Rattle.std.proofs.Common.{◌≡◌, ◌+◌, ◌≤◌, Bool, true, false, cond, refl, arith, Some, None}
use Rattle.std.proofs.lemmas.Bool.{cond_both}
use Rattle.posix.specs.declared.event.Event.{Event}
use Rattle.posix.specs.declared.event.Event.TheVariants.{Step, Tick, Key, Hangup}
use Rattle.posix.specs.Common.{State, current, current_process, console_at, Outcome, silent, give_places, clear_foregrounds, settle, pass_time, step, tick, rotate, key_on, key, hangup_on, hangup, happens, settled, next}
use Rattle.posix.proofs.ActLemmas.{acted}

-- births and ticks are at most one more than before
pub record Counts (old new : State) : Type 0 where
  pub births : new.births ≤ old.births + 1
  pub ticks : new.ticks ≤ old.ticks + 1

-- where the state stays, so do the counts
same : (s : State) → Counts s s
same s = record { births = omega arith; ticks = omega arith }

-- one more birth, or one more tick, at most
counts_happens : (granted : Bool) (s : State) (event : Event) → Counts s (happens granted s event).state
unfolding happens step tick key hangup
counts_happens granted s Step = elim (current_process s) as (λ o. Counts s (step granted s o).state) [ None ↦ same s | Some r ↦ let h = acted granted s r in record { births = h.births; ticks = omega (arith, h.ticks) } ]
counts_happens granted s Tick = elim (current s) as (λ o. Counts s (rotate (pass_time s) o)) [ None ↦ record { births = omega arith; ticks = omega arith } | Some p ↦ record { births = omega arith; ticks = omega arith } ]
counts_happens granted s (Key console byte) = elim (console_at console s.consoles) as (λ o. Counts s (key_on s console byte o)) [ None ↦ same s | Some c ↦ record { births = omega arith; ticks = omega arith } ]
counts_happens granted s (Hangup console) = elim (console_at console s.consoles) as (λ o. Counts s (hangup_on s console o)) [ None ↦ same s | Some c ↦ record { births = omega arith; ticks = omega arith } ]

-- any event, after a halt too
pub counts_next : (granted : Bool) (s : State) (event : Event) → Counts s (next granted s event).state
unfolding next settle give_places clear_foregrounds
counts_next granted s event = elim s.halted as (λ b. Counts s (cond {A = Outcome} b (silent s) (record { state = settle (happens granted s event).state; entries = (happens granted s event).entries })).state) [
  | true ↦ same s
  | false ↦ let h = counts_happens granted s event in record { births = h.births; ticks = h.ticks }
]

-- after a halt
pub next_halted : (granted : Bool) (s : State) (event : Event) → s.halted ≡ true → next granted s event ≡ silent s
unfolding next
next_halted granted s event e = rw e refl

-- What holds where the machine has halted, and of what is settled where it hasn't, holds of any event.
pub by_next : (M : Outcome → Type 0) (granted : Bool) (s : State) (event : Event) → (s.halted ≡ true → M (silent s)) → (s.halted ≡ false → M (settled (happens granted s event))) → M (next granted s event)
unfolding next
by_next M granted s event halted awake = cond_both s.halted _ _ M halted awake
