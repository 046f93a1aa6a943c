-- What HUP and CONT to process groups leave of the records: all but signals, news, and whether a living process is stopped.
use Rattle.std.proofs.Common.{◌≡◌, ℕ, false, cond, refl, ap, sym, ◌∙◌, subst, List, [], ◌∷◌, map, Option, Some, None, option_map}
use Rattle.std.proofs.lemmas.Bool.{cond_both}
use Rattle.posix.specs.declared.process.Effect.TheVariants as effect
use Rattle.posix.specs.declared.process.Life.{Life}
use Rattle.posix.specs.declared.process.Life.TheVariants.{Running, Stopped, Zombie}
use Rattle.posix.specs.declared.process.News.TheVariants as news
use Rattle.posix.specs.declared.process.PendingSignal.{PendingSignal}
use Rattle.posix.specs.Common.{HUP, CONT, Process, initial_signals, is_zombie, IsRising, lookup, pids, changed, members_in, State, continued, IsRegular, signalled, effect_of, ignores_stops, noticed_of_change, child_signal, told_of_change, resumed, acted_upon, generated_for, signalled_all, from_kernel, newly_orphaned, signalled_members, hup_and_cont, hup_and_cont_all, hup_and_cont_orphans}
use Rattle.posix.proofs.TableLemmas.{rising_changed}
use Rattle.posix.proofs.MapLemmas.{at_keeps, lookup_map}
use Rattle.posix.proofs.ResultLemmas.{back}
use Rattle.posix.proofs.ChangeLemmas.{among_living, keeps_noticed_of_change, changed_among, lives_resumed, keeps_among, continued_stopped, stopped_living, life_signalled, lookup_signalled, regular_signalled}

-- ---- what lasts

-- a living process runs
abbrev pub unstopped : Life → Life
unstopped Running = Running
unstopped Stopped = Running
unstopped (Zombie status) = Zombie status

-- all but its signals, its news, and whether it is stopped
abbrev pub lasting : Process → Process
lasting r = record r { signals = initial_signals; life = unstopped r.life; news = news.Nothing }

-- The records of new are those of old, but for what doesn't last.
pub record Lasts (old new : List Process) : Type 0 where
  pub rising : IsRising new
  pub same : map lasting new ≡ map lasting old

-- two such changes are one, too
pub lasts_then : (a b c : List Process) → Lasts a b → Lasts b c → Lasts a c
lasts_then a b c h k = record { rising = k.rising; same = k.same ∙ h.same }

-- a change of one process that lasts not
lasting_changed : (p : ℕ) (f : Process → Process) → ((r : Process) → lasting (f r) ≡ lasting r) → (rs : List Process) → map lasting (changed p f rs) ≡ map lasting rs
unfolding changed
lasting_changed p f keeps [] = refl
lasting_changed p f keeps (r ∷ rs) = let here = at_keeps lasting p f keeps r in let rest = lasting_changed p f keeps rs in cc

-- where one process is changed so that all lasts
pub lasts_changed : (p : ℕ) (f : Process → Process) → ((r : Process) → (f r).pid ≡ r.pid) → ((r : Process) → lasting (f r) ≡ lasting r) → (rs : List Process) → IsRising rs → Lasts rs (changed p f rs)
lasts_changed p f kp keeps rs up = record { rising = rising_changed p f kp rs up; same = lasting_changed p f keeps rs }

lasting_noticed : (signal : PendingSignal) (r : Process) → lasting (noticed_of_change signal r) ≡ lasting r
unfolding noticed_of_change signalled
lasting_noticed signal r = cond_both (ignores_stops r.signals) r (signalled signal r) (λ q. lasting q ≡ lasting r) (λ e. refl) (λ e. refl)

-- so is a notice that a parent gets of a child that is continued
lasts_told : (status : ℕ) (r : Process) (rs : List Process) → IsRising rs → Lasts rs (told_of_change status r rs)
unfolding told_of_change
lasts_told status r rs up =
    let signal = child_signal r.pid status in
    lasts_changed r.parent (noticed_of_change signal) (keeps_noticed_of_change {now = 0} signal).pid (lasting_noticed signal) rs up

-- that a living process is continued, too
lasting_resumed : (r : Process) → lasting (among_living resumed r) ≡ lasting r
unfolding among_living resumed
lasting_resumed r = elim r.life as (λ (l : Life). r.life ≡ l → lasting (cond (is_zombie l) r (resumed r)) ≡ lasting r) [
  | Running ↦ λ e. rw e refl
  | Stopped ↦ λ e. rw e refl
  | Zombie status ↦ λ e. refl
] refl

lasts_resumed : (p : ℕ) (rs : List Process) → IsRising rs → (r : Process) → lookup p rs ≡ Some r → is_zombie r.life ≡ false → Lasts rs (changed p resumed rs)
lasts_resumed p rs up r e living =
    subst (Lasts rs) (sym (changed_among p resumed rs up r e living))
    (lasts_changed p (among_living resumed) (keeps_among {now = 0} resumed lives_resumed).pid lasting_resumed rs up)

-- a signal that is generated for a process leaves what lasts
pub lasts_generated : (signal : PendingSignal) (p : ℕ) (rs : List Process) → IsRising rs → Lasts rs (generated_for signal (lookup p rs) rs)
unfolding signalled
lasts_generated signal p rs up = elim (lookup p rs) as (λ o. lookup p rs ≡ o → Lasts rs (generated_for signal o rs)) [
  | None ↦ λ e. record { rising = up; same = refl }
  | Some r ↦ λ e.
      let told = changed r.pid (signalled signal) rs in
      let one : Lasts rs told = lasts_changed r.pid (signalled signal) (λ r. refl) (λ r. refl) rs up in
      elim (effect_of r.pid r.life signal r.signals) as (λ w. effect_of r.pid r.life signal r.signals ≡ w → Lasts rs (acted_upon w r told)) [
        | effect.Nothing ↦ λ w. one
        | effect.Continued ↦ λ w.
            let here = lookup_signalled signal r p rs e in
            let living = life_signalled signal r ∙ stopped_living r.life (continued_stopped r.pid signal r w) in
            let two = lasts_resumed r.pid told one.rising (signalled signal r) here living in
            lasts_then rs (changed r.pid resumed told) _ (lasts_then rs told _ one two) (lasts_told continued r (changed r.pid resumed told) two.rising)
      ] refl
] refl

-- so do those that are generated for several
pub lasts_signalled_all : (signal : PendingSignal) (ps : List ℕ) (rs : List Process) → IsRising rs → Lasts rs (signalled_all signal ps rs)
unfolding signalled_all
lasts_signalled_all signal [] rs up = record { rising = up; same = refl }
lasts_signalled_all signal (p ∷ ps) rs up =
    let one = lasts_generated signal p rs up in
    lasts_then rs (generated_for signal (lookup p rs) rs) _ one (lasts_signalled_all signal ps (generated_for signal (lookup p rs) rs) one.rising)

-- and for the members of a process group
pub lasts_members : (signal : PendingSignal) (group : ℕ) (rs : List Process) → IsRising rs → Lasts rs (signalled_members signal group rs)
unfolding signalled_members
lasts_members signal group rs up = lasts_signalled_all signal (pids (members_in group rs)) rs up

-- and where a group gets HUP and CONT
pub lasts_hup_and_cont : (group : ℕ) (rs : List Process) → IsRising rs → Lasts rs (hup_and_cont group rs)
lasts_hup_and_cont group rs up =
    let hung = lasts_members (record { sig = HUP; carried = from_kernel }) group rs up in
    lasts_then rs _ _ hung (lasts_members (record { sig = CONT; carried = from_kernel }) group _ hung.rising)

-- or several are
pub lasts_hup_and_cont_all : (gs : List ℕ) (rs : List Process) → IsRising rs → Lasts rs (hup_and_cont_all gs rs)
unfolding hup_and_cont_all
lasts_hup_and_cont_all [] rs up = record { rising = up; same = refl }
lasts_hup_and_cont_all (g ∷ gs) rs up = let one = lasts_hup_and_cont g rs up in lasts_then rs (hup_and_cont g rs) _ one (lasts_hup_and_cont_all gs (hup_and_cont g rs) one.rising)

-- ---- what that says of one process

-- r is there, but for what doesn't last
pub record IsLasting (o : Option Process) (r : Process) : Type 0 where
  pub what : Process
  pub found : o ≡ Some what
  pub pid : what.pid ≡ r.pid
  pub parent : what.parent ≡ r.parent
  pub group : what.group ≡ r.group
  pub session : what.session ≡ r.session
  pub zombie : is_zombie what.life ≡ is_zombie r.life
  pub same : lasting what ≡ lasting r

unstopped_zombie : (l : Life) → is_zombie (unstopped l) ≡ is_zombie l
unstopped_zombie Running = refl
unstopped_zombie _ = refl

pub lasting_one : (o : Option Process) (q r : Process) → o ≡ Some q → lasting q ≡ lasting r → IsLasting o r
lasting_one o q r e same = record {
  what = q;
  found = e;
  pid = ap (λ (r : Process). r.pid) same;
  parent = ap (λ (r : Process). r.parent) same;
  group = ap (λ (r : Process). r.group) same;
  session = ap (λ (r : Process). r.session) same;
  zombie = sym (unstopped_zombie q.life) ∙ ap (λ (r : Process). is_zombie r.life) same ∙ unstopped_zombie r.life;
  same = same;
}

-- each is found with what lasts
lasting_lookup : (p : ℕ) (old new : List Process) → map lasting new ≡ map lasting old → option_map lasting (lookup p new) ≡ option_map lasting (lookup p old)
lasting_lookup p old new same = sym (lookup_map lasting (λ r. refl) p new) ∙ ap (lookup p) same ∙ lookup_map lasting (λ r. refl) p old

-- an existing process still exists
pub still_there : (p : ℕ) (old new : List Process) → map lasting new ≡ map lasting old → (r : Process) → lookup p old ≡ Some r → IsLasting (lookup p new) r
still_there p old new same r e =
    let b = back (lookup p new) lasting (lasting r) (sym (lasting_lookup p old new same ∙ ap (option_map lasting) e)) in
    lasting_one (lookup p new) b.what r b.found (sym b.is)

-- ---- a regular state

-- a state stays regular where groups get HUP and CONT
pub regular_hup_and_cont_all : (gs : List ℕ) (s : State) → IsRegular s → IsRegular (record s { processes = hup_and_cont_all gs s.processes })
unfolding hup_and_cont_all signalled_members
regular_hup_and_cont_all [] s i = i
regular_hup_and_cont_all (g ∷ gs) s i =
    let hung = regular_signalled (record { sig = HUP; carried = from_kernel }) _ s i in
    regular_hup_and_cont_all gs (record s { processes = hup_and_cont g s.processes }) (regular_signalled (record { sig = CONT; carried = from_kernel }) _ _ hung)

-- where those are that an end orphaned
pub regular_hup_and_cont_orphans : (before : List Process) (s : State) → IsRegular s → IsRegular (hup_and_cont_orphans before s)
regular_hup_and_cont_orphans before s i = regular_hup_and_cont_all (newly_orphaned before s.processes) s i
