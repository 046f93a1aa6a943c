-- An existing process still exists after signals are generated, with the same ID and parent.
use Rattle.std.proofs.Common.{◌≡◌, ℕ, ◌==◌, ◌&&◌, not, refl, ap, sym, subst, ◌∙◌, List, [], ◌∷◌, Option, Some, None}
use Rattle.std.specs.Option.{IsSome}
use Rattle.std.proofs.lemmas.Bool.{cond_both}
use Rattle.posix.specs.declared.process.Effect.TheVariants as effect
use Rattle.posix.specs.declared.process.PendingSignal.{PendingSignal}
use Rattle.posix.specs.Common.{HUP, Process, lookup, at, changed, pids, members_in, State, process, Console, console_of, continued, signalled, effect_of, child_signal, noticed_of_change, told_of_change, resumed, acted_upon, generated_for, signalled_all, from_kernel, heir_in, signalled_members, signalled_group, hung_up, hang_up, end_process, end_with_heir, Outcome}
use Rattle.posix.proofs.TableLemmas.{pid_looked}
use Rattle.posix.proofs.MapLemmas.{at_keeps, at_pid, lookup_on}
use Rattle.posix.proofs.RegularLemmas.{keeps_signalled}
use Rattle.posix.proofs.ChangeLemmas.{lives_resumed, unseen_noticed_of_change}
use Rattle.posix.proofs.NoticeLemmas.{end_alike}
use Rattle.posix.proofs.ResultLemmas.{there}

-- r is there, but for what a signal may change
pub record Remains (o : Option Process) (r : Process) : Type 0 where
  pub what : Process
  pub found : o ≡ Some what
  pub pid : what.pid ≡ r.pid
  pub parent : what.parent ≡ r.parent

-- it is there after a change that keeps both
remains_changed : (q p : ℕ) (f : Process → Process) → ((r : Process) → (f r).pid ≡ r.pid) → ((r : Process) → (f r).parent ≡ r.parent) → (rs : List Process) (r : Process)
    → Remains (lookup p rs) r → Remains (lookup p (changed q f rs)) r
unfolding changed
remains_changed q p f pid parent rs r h = record {
  what = at q f h.what;
  found = lookup_on (at q f) (at_pid q f pid) p rs h.what h.found;
  pid = at_pid q f pid h.what ∙ h.pid;
  parent = at_keeps (λ (x : Process). x.parent) q f parent h.what ∙ h.parent;
}

-- after a child was continued, and its parent was notified
remains_continued : (p : ℕ) (x : Process) (rs : List Process) (r : Process) → Remains (lookup p rs) r → Remains (lookup p (acted_upon effect.Continued x rs)) r
unfolding told_of_change
remains_continued p x rs r h =
    let notice = unseen_noticed_of_change (child_signal x.pid continued) in
    remains_changed x.parent p (noticed_of_change (child_signal x.pid continued)) notice.pid notice.parent (changed x.pid resumed rs) r
    (remains_changed x.pid p resumed lives_resumed.pid lives_resumed.parent rs r h)

-- after a signal is generated for one
remains_generated : (signal : PendingSignal) (o : Option Process) (p : ℕ) (rs : List Process) (r : Process) → Remains (lookup p rs) r → Remains (lookup p (generated_for signal o rs)) r
remains_generated signal None p rs r h = h
remains_generated signal (Some x) p rs r h =
    let keeps = keeps_signalled {now = 0} signal in
    let now = remains_changed x.pid p (signalled signal) keeps.pid keeps.parent rs r h in
    elim (effect_of x.pid x.life signal x.signals) as (λ w. Remains (lookup p (acted_upon w x (changed x.pid (signalled signal) rs))) r) [
      | effect.Nothing ↦ now
      | effect.Continued ↦ remains_continued p x (changed x.pid (signalled signal) rs) r now
    ]

-- for several
pub remains_signalled : (signal : PendingSignal) (ps : List ℕ) (p : ℕ) (rs : List Process) (r : Process) → Remains (lookup p rs) r → Remains (lookup p (signalled_all signal ps rs)) r
unfolding signalled_all
remains_signalled signal [] p rs r h = h
remains_signalled signal (q ∷ qs) p rs r h = remains_signalled signal qs p (generated_for signal (lookup q rs) rs) r (remains_generated signal (lookup q rs) p rs r h)

-- an existing process still exists
pub some_signalled : (signal : PendingSignal) (ps : List ℕ) (p : ℕ) (rs : List Process) → IsSome (lookup p rs) → IsSome (lookup p (signalled_all signal ps rs))
some_signalled signal ps p rs h =
    let it = there (lookup p rs) h in
    subst IsSome (sym (remains_signalled signal ps p rs it.what (record { what = it.what; found = it.found; pid = refl; parent = refl })).found) refl

-- for the members of a process group
remains_group : (n group p : ℕ) (rs : List Process) (r : Process) → Remains (lookup p rs) r → Remains (lookup p (signalled_group n group rs)) r
unfolding signalled_members
remains_group n group p rs r h =
    cond_both (group == 0) rs (signalled_members (record { sig = n; carried = from_kernel }) group rs) (λ qs. Remains (lookup p qs) r) (λ e. h)
    (λ e. remains_signalled (record { sig = n; carried = from_kernel }) (pids (members_in group rs)) p rs r h)

-- after a terminal is hung up
remains_hung : (s : State) (session : ℕ) (o : Option Console) (p : ℕ) (r : Process) → Remains (process s p) r → Remains (process (hung_up s session o) p) r
remains_hung s session None p r h = h
remains_hung s session (Some c) p r h = remains_group HUP c.foreground p s.processes r h

-- an existing process exists after the terminal is hung up of a session whose leader terminates
pub remains : (s : State) (x : Process) (p : ℕ) (r : Process) → process s p ≡ Some r → Remains (process (hang_up s x) p) r
unfolding hang_up
remains s x p r e =
    let here : Remains (process s p) r = record { what = r; found = e; pid = refl; parent = refl } in
    cond_both (not (x.pid == 1) && x.session == x.pid) (hung_up s x.session (console_of x.session s.consoles)) s (λ (t : State). Remains (process t p) r)
    (λ e. remains_hung s x.session (console_of x.session s.consoles) p r here) (λ e. here)

-- ---- a termination

-- a process terminates as the existing record does after its terminal is hung up
pub end_hung : (s hung new : State) (r : Process) (p heir status : ℕ) → process s p ≡ Some r → hung ≡ hang_up s r → heir ≡ heir_in hung.processes p
    → ((q : Process) → process hung p ≡ Some q → new ≡ (end_with_heir hung q heir status).state) → new ≡ (end_process s r status).state
unfolding end_process
end_hung s hung new r p heir status e is inherits ends =
    let now = remains s r p r e in
    ends now.what (ap (λ (t : State). process t p) is ∙ now.found)
    ∙ ap (λ (t : State). (end_with_heir t now.what heir status).state) is
    ∙ ap (λ h. (end_with_heir (hang_up s r) now.what h status).state) (inherits ∙ ap (λ (t : State). heir_in t.processes p) is ∙ ap (heir_in (hang_up s r).processes) (sym (pid_looked p s.processes r e)))
    ∙ ap (λ (o : Outcome). o.state) (end_alike (hang_up s r) now.what r (heir_in (hang_up s r).processes r.pid) status now.pid now.parent)

-- an existing process still exists
pub some_hung : (s hung : State) (r : Process) (p : ℕ) → process s p ≡ Some r → hung ≡ hang_up s r → IsSome (process hung p)
some_hung s hung r p e is = subst IsSome (sym (ap (λ (t : State). process t p) is ∙ (remains s r p r e).found)) refl
