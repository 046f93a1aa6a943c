-- Shows that signals, notices and alarms depend only on the ticks until alarms are due.
use Rattle.std.proofs.Common.{◌≡◌, ℕ, ◌+◌, List, [], ◌∷◌, Option, Some, None, refl, ap, ◌∙◌}
use native.Mathlib.Omega.{arith}
use Rattle.std.specs.Prelude.{option_map}
use Rattle.posix.specs.Processes.{Process}
use Rattle.posix.specs.States.{State}
use Rattle.posix.specs.Tables.{lookup, changed, children_in, adopted, pids}
use Rattle.posix.specs.Alarms.{ring_all, ring_at, rung, with_alarm, is_due}
use Rattle.posix.specs.Generation.{signalled, effect_of}
use Rattle.posix.specs.Notices.{noticed, noticed_of_change, told_of_change, resumed, acted_upon, generated_for, signalled_all, child_signal}
use Rattle.posix.specs.declared.process.Effect.{Effect}
use Rattle.posix.specs.declared.process.Effect.TheVariants as effect
use Rattle.posix.specs.Ends.{made_zombie, notice_of_end, is_dropping}
use Rattle.posix.specs.declared.process.PendingSignal.{PendingSignal}
use Rattle.times.specs.Times.{later, all_later, state_later}
use Rattle.times.proofs.TableLemmas.{lookup_later, changed_later, removed_later, signalled_later}

pub pids_later : (d : ℕ) (rs : List Process) → pids (all_later d rs) ≡ pids rs
pids_later d [] = refl
pids_later d (r ∷ rs) = grind (arith, pids_later d rs)

pub children_later : (d p : ℕ) (rs : List Process) → children_in p (all_later d rs) ≡ all_later d (children_in p rs)
unfolding children_in
children_later d p [] = refl
children_later d p (r ∷ rs) = grind (arith, children_later d p rs)

pub adopted_later : (d p q : ℕ) (rs : List Process) → adopted p q (all_later d rs) ≡ all_later d (adopted p q rs)
unfolding adopted
adopted_later d p q [] = refl
adopted_later d p q (r ∷ rs) = grind (arith, adopted_later d p q rs)

pub noticed_later : (d : ℕ) (m : PendingSignal) (r : Process) → noticed m (later d r) ≡ later d (noticed m r)
unfolding noticed signalled
noticed_later d m r = grind arith

pub noticed_of_change_later : (d : ℕ) (m : PendingSignal) (r : Process) → noticed_of_change m (later d r) ≡ later d (noticed_of_change m r)
unfolding noticed_of_change signalled
noticed_of_change_later d m r = grind arith

pub told_of_change_later : (d status : ℕ) (r : Process) (rs : List Process) → told_of_change status (later d r) (all_later d rs) ≡ all_later d (told_of_change status r rs)
unfolding told_of_change
told_of_change_later d status r rs = changed_later d r.parent (noticed_of_change (child_signal r.pid status)) (noticed_of_change (child_signal r.pid status)) rs (noticed_of_change_later d (child_signal r.pid status))

pub made_zombie_later : (d status : ℕ) (r : Process) → made_zombie status (later d r) ≡ later d (made_zombie status r)
unfolding made_zombie
made_zombie_later d status r = refl

resumed_later : (d : ℕ) (r : Process) → resumed (later d r) ≡ later d (resumed r)
unfolding resumed
resumed_later d r = refl

acted_upon_later : (d : ℕ) (e : Effect) (r : Process) (rs : List Process) → acted_upon e (later d r) (all_later d rs) ≡ all_later d (acted_upon e r rs)
acted_upon_later d effect.Nothing r rs = refl
acted_upon_later d effect.Continued r rs = ap (told_of_change _ (later d r)) (changed_later d r.pid resumed resumed rs (resumed_later d)) ∙ told_of_change_later d _ r (changed r.pid resumed rs)

pub generated_for_later : (d : ℕ) (m : PendingSignal) (r : Option Process) (rs : List Process) → generated_for m (option_map (later d) r) (all_later d rs) ≡ all_later d (generated_for m r rs)
generated_for_later d m None rs = refl
generated_for_later d m (Some r) rs =
    ap (acted_upon (effect_of r.pid r.life m r.signals) (later d r)) (changed_later d r.pid (signalled m) (signalled m) rs (signalled_later d m))
    ∙ acted_upon_later d (effect_of r.pid r.life m r.signals) r (changed r.pid (signalled m) rs)

pub signalled_all_later : (d : ℕ) (m : PendingSignal) (ps : List ℕ) (rs : List Process) → signalled_all m ps (all_later d rs) ≡ all_later d (signalled_all m ps rs)
unfolding signalled_all
signalled_all_later d m [] rs = refl
signalled_all_later d m (p ∷ ps) rs =
    ap (signalled_all m ps) (ap (λ (r : Option Process). generated_for m r (all_later d rs)) (lookup_later d p rs) ∙ generated_for_later d m (lookup p rs) rs)
    ∙ signalled_all_later d m ps (generated_for m (lookup p rs) rs)

rung_later : (d e : ℕ) (r : Process) → rung (later d r) ≡ later e (rung r)
unfolding rung signalled with_alarm
rung_later d e r = refl

is_due_later : (d now : ℕ) (alarm : Option ℕ) → is_due (now + d) (option_map (λ due. due + d) alarm) ≡ is_due now alarm
is_due_later d now None = refl
is_due_later d now (Some due) = grind arith

ring_at_later : (d now : ℕ) (r : Process) → ring_at (now + d) (later d r) ≡ later d (ring_at now r)
ring_at_later d now r = grind (arith, is_due_later d now r.alarm, rung_later d d r)

pub ring_all_later : (d now : ℕ) (rs : List Process) → ring_all (now + d) (all_later d rs) ≡ all_later d (ring_all now rs)
unfolding ring_all
ring_all_later d now [] = refl
ring_all_later d now (r ∷ rs) = grind (arith, ring_all_later d now rs, ring_at_later d now r)

pub is_dropping_later : (d p : ℕ) (rs : List Process) → is_dropping p (all_later d rs) ≡ is_dropping p rs
is_dropping_later d p rs = go (lookup p rs) (lookup_later d p rs) where
  go : (r : Option Process) → lookup p (all_later d rs) ≡ option_map (later d) (lookup p rs) → is_dropping p (all_later d rs) ≡ is_dropping p rs
  go r e = grind (arith, e)

pub notice_of_end_later : (d : ℕ) (s : State) (parent child status : ℕ) → notice_of_end (state_later d s) parent child status ≡ state_later d (notice_of_end s parent child status)
unfolding notice_of_end
notice_of_end_later d s parent child status = grind (arith, is_dropping_later d parent s.processes, changed_later d parent (noticed (child_signal child status)) (noticed (child_signal child status)) s.processes (noticed_later d (child_signal child status)), removed_later d child (changed parent (noticed (child_signal child status)) s.processes))
