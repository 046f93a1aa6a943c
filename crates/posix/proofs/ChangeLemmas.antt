-- A process that is stopped or continued keeps a state regular.
use Rattle.std.proofs.Common.{arith, ◌≡◌, ℕ, true, false, cond, refl, ap, sym, ◌∙◌, subst, List, [], ◌∷◌, Some, None, ◌==◌}
use Rattle.std.proofs.lemmas.Bool.{cond_both, eq-eqb}
use Rattle.posix.specs.declared.process.Effect.{Effect}
use Rattle.posix.specs.declared.process.Effect.TheVariants as effect
use Rattle.posix.specs.declared.process.Life.{Life}
use Rattle.posix.specs.declared.process.Life.TheVariants.{Zombie}
use Rattle.posix.specs.declared.process.PendingSignal.{PendingSignal}
use Rattle.posix.specs.Common.{CONT, Process, is_zombie, is_stopped, IsRising, lookup, at, changed, State, change, continued, stopped, IsRegular, IsAhead, signalled, effect_of, ignores_stops, noticed_of_change, child_signal, told_of_change, stopped_by, resumed, acted_upon, generated_for, signalled_all, stop_process}
use Rattle.posix.proofs.TableLemmas.{changed_same, pid_looked}
use Rattle.posix.proofs.MapLemmas.{at_pid, lookup_on}
use Rattle.posix.proofs.RegularLemmas.{Keeps, keeps_none, keeps_cond, keeps_signalled, regular_change, regular_lose}
use Rattle.posix.proofs.TouchLemmas.{Unseen, unseen_signalled}

-- ---- a notice of a change

-- it keeps what a regular state asks
pub keeps_noticed_of_change : {now : ℕ} (signal : PendingSignal) → Keeps now (noticed_of_change signal)
unfolding noticed_of_change
keeps_noticed_of_change signal = keeps_cond (λ r. ignores_stops r.signals) (λ r. r) (signalled signal) keeps_none (keeps_signalled signal)

-- and a parent doesn't see it
pub unseen_noticed_of_change : (signal : PendingSignal) → Unseen (noticed_of_change signal)
unfolding noticed_of_change signalled
unseen_noticed_of_change signal = record { pid = λ r. grind arith; parent = λ r. grind arith; group = λ r. grind arith; life = λ r. grind arith; news = λ r. grind arith }

-- a state stays regular where a parent gets one
pub regular_told : (status : ℕ) (r : Process) (s : State) → IsRegular s → IsRegular (record s { processes = told_of_change status r s.processes })
unfolding told_of_change
regular_told status r s i = regular_change r.parent (noticed_of_change (child_signal r.pid status)) s (keeps_noticed_of_change _) i

-- ---- a change of a living process, by which it stays living

-- made to the living alone
unfoldable pub among_living : (Process → Process) → Process → Process
among_living f r = cond (is_zombie r.life) r (f r)

-- A process that is changed lives, and keeps its numbers and its alarm.
pub record Lives (f : Process → Process) : Type 0 where
  pub pid : (r : Process) → (f r).pid ≡ r.pid
  pub parent : (r : Process) → (f r).parent ≡ r.parent
  pub group : (r : Process) → (f r).group ≡ r.group
  pub session : (r : Process) → (f r).session ≡ r.session
  pub living : (r : Process) → is_zombie (f r).life ≡ false
  pub alarm : (r : Process) → (f r).alarm ≡ r.alarm

pub lives_stopped : (n : ℕ) → Lives (stopped_by n)
unfolding stopped_by
lives_stopped n = record { pid = λ r. refl; parent = λ r. refl; group = λ r. refl; session = λ r. refl; living = λ r. refl; alarm = λ r. refl }

pub lives_resumed : Lives resumed
unfolding resumed
lives_resumed = record { pid = λ r. refl; parent = λ r. refl; group = λ r. refl; session = λ r. refl; living = λ r. refl; alarm = λ r. refl }

-- such a change of the living keeps what a regular state asks
pub keeps_among : {now : ℕ} (f : Process → Process) → Lives f → Keeps now (among_living f)
unfolding among_living
keeps_among {now = now} f k = record {
  pid = λ r. cond_both (is_zombie r.life) r (f r) (λ q. q.pid ≡ r.pid) (λ e. refl) (λ e. k.pid r);
  parent = λ r. cond_both (is_zombie r.life) r (f r) (λ q. q.parent ≡ r.parent) (λ e. refl) (λ e. k.parent r);
  group = λ r. cond_both (is_zombie r.life) r (f r) (λ q. q.group ≡ r.group) (λ e. refl) (λ e. k.group r);
  session = λ r. cond_both (is_zombie r.life) r (f r) (λ q. q.session ≡ r.session) (λ e. refl) (λ e. k.session r);
  zombie = λ r. cond_both (is_zombie r.life) r (f r) (λ q. is_zombie q.life ≡ is_zombie r.life) (λ e. refl) (λ e. k.living r ∙ sym e);
  alarm = λ r h. cond_both (is_zombie r.life) r (f r) (λ q. IsAhead now q.alarm) (λ e. h) (λ e. subst (IsAhead now) (sym (k.alarm r)) h);
}

-- of a living process it is that change
pub changed_among : (p : ℕ) (f : Process → Process) (rs : List Process) → IsRising rs → (r : Process) → lookup p rs ≡ Some r → is_zombie r.life ≡ false → changed p f rs ≡ changed p (among_living f) rs
unfolding among_living
changed_among p f rs up r e living = changed_same p f (among_living f) rs up r e (rw living refl)

-- a state stays regular where a living process is changed so
pub regular_lives : (p : ℕ) (f : Process → Process) → Lives f → (s : State) (r : Process) → lookup p s.processes ≡ Some r → is_zombie r.life ≡ false → IsRegular s → IsRegular (change s p f)
regular_lives p f k s r e living i =
    subst (λ rs. IsRegular (record s { processes = rs })) (sym (changed_among p f s.processes i.rising r e living)) (regular_change p (among_living f) s (keeps_among f k) i)

-- where a living process is stopped
pub regular_stop : (s : State) (r me : Process) (n : ℕ) → lookup r.pid s.processes ≡ Some me → is_zombie me.life ≡ false → IsRegular s → IsRegular (stop_process s r n).state
unfolding stop_process
regular_stop s r me n e living i =
    regular_lose r.pid (record s { processes = told_of_change (stopped n) r (changed r.pid (stopped_by n) s.processes) })
    (regular_told (stopped n) r (change s r.pid (stopped_by n)) (regular_lives r.pid (stopped_by n) (lives_stopped n) s me e living i))

-- ---- signals

-- who is continued was stopped
pub continued_stopped : (p : ℕ) (signal : PendingSignal) (r : Process) → effect_of p r.life signal r.signals ≡ effect.Continued → is_stopped r.life ≡ true
unfolding effect_of
continued_stopped p signal r e = grind (arith, e)

-- by CONT
pub continued_cont : (p : ℕ) (signal : PendingSignal) (r : Process) → effect_of p r.life signal r.signals ≡ effect.Continued → (signal.sig == CONT) ≡ true
unfolding effect_of
continued_cont p signal r e = grind (arith, e)

-- and lives
pub stopped_living : (l : Life) → is_stopped l ≡ true → is_zombie l ≡ false
stopped_living (Zombie status) e = absurd (cc)
stopped_living _ e = refl

-- a signal that is generated leaves its life
pub life_signalled : (signal : PendingSignal) (r : Process) → is_zombie (signalled signal r).life ≡ is_zombie r.life
unfolding signalled
life_signalled signal r = refl

-- and the process is found with it
pub lookup_signalled : (signal : PendingSignal) (r : Process) (p : ℕ) (rs : List Process) → lookup p rs ≡ Some r → lookup r.pid (changed r.pid (signalled signal) rs) ≡ Some (signalled signal r)
unfolding changed
lookup_signalled signal r p rs e =
    let named : r.pid ≡ p = pid_looked p rs r e in
    let itself : (r.pid == r.pid) ≡ true = eq-eqb r.pid r.pid refl in
    lookup_on (at r.pid (signalled signal)) (at_pid r.pid (signalled signal) (unseen_signalled signal).pid) r.pid rs r (ap (λ n. lookup n rs) named ∙ e) ∙ ap Some (rw itself refl)

-- the result of a signal that was generated for an existing process
pub generated_as : (signal : PendingSignal) (p : ℕ) (rs : List Process) (r : Process) (w : Effect) → lookup p rs ≡ Some r → effect_of r.pid r.life signal r.signals ≡ w → generated_for signal (lookup p rs) rs ≡ acted_upon w r (changed r.pid (signalled signal) rs)
generated_as signal p rs r w e is = ap (λ o. generated_for signal o rs) e ∙ ap (λ w. acted_upon w r (changed r.pid (signalled signal) rs)) is

-- a state stays regular where a signal is generated for a process
pub regular_generated : (signal : PendingSignal) (p : ℕ) (s : State) → IsRegular s → IsRegular (record s { processes = generated_for signal (lookup p s.processes) s.processes })
regular_generated signal p s i = elim (lookup p s.processes) as (λ o. lookup p s.processes ≡ o → IsRegular (record s { processes = generated_for signal o s.processes })) [
  | None ↦ λ e. i
  | Some r ↦ λ e.
      let told = regular_change r.pid (signalled signal) s (keeps_signalled signal) i in
      elim (effect_of r.pid r.life signal r.signals) as (λ w. effect_of r.pid r.life signal r.signals ≡ w → IsRegular (record s { processes = acted_upon w r (changed r.pid (signalled signal) s.processes) })) [
        | effect.Nothing ↦ λ w. told
        | effect.Continued ↦ λ w.
            let here = lookup_signalled signal r p s.processes e in
            regular_told continued r (change (change s r.pid (signalled signal)) r.pid resumed)
            (regular_lives r.pid resumed lives_resumed (change s r.pid (signalled signal)) (signalled signal r) here (living r w) told)
      ] refl
] refl
  where
    living : (r : Process) → effect_of r.pid r.life signal r.signals ≡ effect.Continued → is_zombie (signalled signal r).life ≡ false
    living r w = life_signalled signal r ∙ stopped_living r.life (continued_stopped r.pid signal r w)

-- for each of several
pub regular_signalled : (signal : PendingSignal) (ps : List ℕ) (s : State) → IsRegular s → IsRegular (record s { processes = signalled_all signal ps s.processes })
unfolding signalled_all
regular_signalled signal [] s i = i
regular_signalled signal (p ∷ ps) s i = regular_signalled signal ps (record s { processes = generated_for signal (lookup p s.processes) s.processes }) (regular_generated signal p s i)
