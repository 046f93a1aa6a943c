-- A signal makes its process runnable, or changes nothing in that.
use Rattle.std.proofs.Common.{◌≡◌, ℕ, Bool, true, false, cond, not, ◌&&◌, ◌||◌, refl, ap, sym, ◌∙◌, [], Option, Some, None, is_some, inl, inr, arith}
use Rattle.std.proofs.lemmas.Bool.{cases_eq, ne_eqb, eq-eqb}
use Rattle.posix.specs.declared.process.Blocked.{Blocked}
use Rattle.posix.specs.declared.process.Blocked.TheVariants as blocked
use Rattle.posix.specs.Common.{KILL, Process, Signals, is_running, is_living, at, changed, State, process, is_in, change, is_pending, signalled, noticed, noticed_of_change, ignores_children, ignores_stops, is_due, ring_at, rung, with_alarm, chosen, least_ready, attempt_again, wait_by, waits_to_read, can_act, can_go_on}
use Rattle.posix.specs.declared.process.PendingSignal.{PendingSignal}
use Rattle.jobs.proofs.RunLemmas.{OnlySignals}
use Rattle.posix.proofs.TableLemmas.{pid_looked}
use Rattle.posix.proofs.MapLemmas.{at_pid, lookup_back}
use Rattle.posix.proofs.SeeLemmas.{block_read, can_act_alike}
use Rattle.posix.proofs.TouchLemmas.{Touches, Unseen, sees_unseen, touches_unseen}
use Rattle.jobs.specs.IndexedTables.{takes_signal}

-- the process with other signals, and another alarm
abbrev pub with_signals : Signals → Option ℕ → Process → Process
with_signals g a r = record r { signals = g; alarm = a }

pub unseen_signals : (g : Signals) (a : Option ℕ) → Unseen (with_signals g a)
unseen_signals g a = record { pid = λ r. refl; parent = λ r. refl; group = λ r. refl; life = λ r. refl; news = λ r. refl }

-- ---- what changes only signals

pub only_signalled : (signal : PendingSignal) → OnlySignals (signalled signal)
unfolding signalled
only_signalled signal r = refl

pub only_noticed : (signal : PendingSignal) → OnlySignals (noticed signal)
unfolding noticed signalled
only_noticed signal r = elim (ignores_children r.signals) as (λ b. let q = cond b r (signalled signal r) in q ≡ record r { signals = q.signals; alarm = q.alarm }) [ true ↦ refl | false ↦ refl ]

pub only_noticed_of_change : (signal : PendingSignal) → OnlySignals (noticed_of_change signal)
unfolding noticed_of_change signalled
only_noticed_of_change signal r = elim (ignores_stops r.signals) as (λ b. let q = cond b r (signalled signal r) in q ≡ record r { signals = q.signals; alarm = q.alarm }) [ true ↦ refl | false ↦ refl ]

pub only_ring : (now : ℕ) → OnlySignals (ring_at now)
unfolding rung with_alarm signalled
only_ring now r = elim (is_due now r.alarm) as (λ b. let q = cond b (rung r) r in q ≡ record r { signals = q.signals; alarm = q.alarm }) [ true ↦ refl | false ↦ refl ]

pub only_alarm : (due : Option ℕ) → OnlySignals (with_alarm due)
unfolding with_alarm
only_alarm due r = refl

-- ---- runnable processes

-- its call doesn't ask for its signals
go_on_signals : (s : State) (g : Signals) (a : Option ℕ) (r : Process) (b : Option Blocked) → can_go_on s (with_signals g a r) b ≡ can_go_on s r b
unfolding attempt_again wait_by waits_to_read
go_on_signals s g a r (Some blocked.Read) = ap not (block_read s (with_signals g a r) ∙ sym (block_read s r))
go_on_signals s g a r b = refl

-- if no signal is chosen, SIGKILL isn't pending
no_kill : (r : Process) → takes_signal r ≡ false → is_pending r.signals KILL ≡ false
unfolding chosen
no_kill r none = by (is_pending r.signals KILL) (cond (is_running r.life) (least_ready r.signals) None) none
  where
    by : (b : Bool) (o : Option ℕ) → is_some (cond b (Some KILL) o) ≡ false → b ≡ false
    by true o e = absurd (cc)
    by false o e = refl

-- it is then runnable only by its call
acts_by_call : (s : State) (g : Signals) (a : Option ℕ) (r : Process) → takes_signal (with_signals g a r) ≡ false → can_act s (with_signals g a r) ≡ true → can_act s r ≡ true
unfolding can_act
acts_by_call s g a r none acts =
    goes (is_living r) _ _ (is_running r.life) _ _ _ _ (no_kill (with_signals g a r) none) none (go_on_signals s g a r r.blocked) acts
  where
    goes : (living k old l x y c d : Bool) → k ≡ false → c ≡ false → x ≡ y → (living && k || l && (x || c)) ≡ true → (living && old || l && (y || d)) ≡ true
    goes living k old l x y c d e f g h = grind (arith, e, f, g, h)

-- If the signals and the alarm of a process change, and no signal is chosen for it, no process becomes runnable.
pub touches_signals : (s : State) (p : ℕ) (g : Signals) (a : Option ℕ) → ((r : Process) → process (change s p (with_signals g a)) p ≡ Some r → takes_signal r ≡ false) → Touches s (change s p (with_signals g a)) []
unfolding changed is_in
touches_signals s p g a none q r e out = elim (cases_eq q p) [
  | inr other ↦ touches_unseen s p (with_signals g a) (unseen_signals g a) q r e (ap (λ b. b || false) (ne_eqb p q (λ same. other (sym same))))
  | inl here ↦
      let t = change s p (with_signals g a) in
      let b = lookup_back (at p (with_signals g a)) (at_pid p (with_signals g a) (λ r. refl)) q s.processes r e in
      let named = pid_looked q s.processes b.what b.found in
      let is : r ≡ with_signals g a b.what = b.is ∙ ap (λ w. cond w (with_signals g a b.what) b.what) (eq-eqb b.what.pid p (named ∙ here)) in
      let same = sees_unseen p b.what.pid (with_signals g a) (unseen_signals g a) s.processes in
      record {
        placed = λ h. h;
        old = b.what;
        found = b.found;
        blocked = ap (λ q. q.blocked) is;
        session = ap (λ q. q.session) is;
        life = ap (λ q. q.life) is;
        acts = λ h.
            sym (can_act_alike s t b.what b.what (record { parent = b.what.parent; is = refl }) refl same)
            ∙ acts_by_call t g a b.what (sym (ap takes_signal is) ∙ none r (sym (ap (process t) here) ∙ e)) (sym (ap (can_act t) is) ∙ h);
      }
]
