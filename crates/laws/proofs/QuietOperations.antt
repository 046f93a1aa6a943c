-- Signals, notices, alarms and places: no line tells of them.
use Rattle.std.proofs.Common.{◌≡◌, ◌≢◌, ℕ, ◌+◌, ◌-◌, ◌<◌, Bool, true, false, cond, not, ◌&&◌, ◌||◌, ◌==◌, List, [], ◌∷◌, ◌++◌, filter, Option, Some, None, option_map, is_some, refl, ap, sym, ◌∙◌, arith, subst, inl, inr}
use Rattle.std.specs.Prelude.{slice_index_or}
use Rattle.std.specs.List.{AllByRecursion, list_any}
use Rattle.std.proofs.lemmas.Bool.{eqb-true, cond_both, and_parts, or_cases}
use Rattle.std.proofs.lemmas.List.{get_or-set_other}
use Rattle.posix.specs.declared.process.Carried.{Carried}
use Rattle.posix.specs.declared.process.Effect.{Effect}
use Rattle.posix.specs.declared.process.Effect.TheVariants as effect
use Rattle.posix.specs.declared.process.PendingSignal.{PendingSignal}
use Rattle.posix.specs.Common.{KILL, CONT, STOP, TSTP, TTIN, TTOU, HUP, is_realtime, is_stop_signal, continued, Process, Signals, is_zombie, is_running, is_stopped, is_living, IsRising, lookup, changed, is_child, children_in, pids, members_in, State, change, is_in, without, lose_place, go_last, current, Console, console_at, console_of, signal_typed, is_told, has_sig, is_pending, with_pending, with_queue, make_pending, gets_no_signals, keeps, without_stops, after_discards, generated, effect_of, signalled, from_kernel, chosen, child_signal, ignores_children, noticed, ignores_stops, noticed_of_change, told_of_change, resumed, acted_upon, generated_for, signalled_all, signalled_members, signalled_group, hup_and_cont, hup_and_cont_all, hung_up, hang_up, is_dropping, drop_child, notice_of_end, zombies_of, tell_of_all, status_of, is_due, with_alarm, rung, ring_at, ring_all, pass_time, can_go_on, can_act, wakes, give_places, clear_foregrounds, settle, signalled_from, key_on, key, with_leader_told, hangup_on, hangup, rotate, tick}
use Rattle.posix.proofs.MemberLemmas.{in_append, is_other, in_last}
use Rattle.posix.proofs.TableLemmas.{Above, lookup_changed, rising_filter}
use Rattle.posix.proofs.WalkLemmas.{all_looked, in_filter, pid_found}
use Rattle.posix.proofs.ChangeLemmas.{continued_stopped, lookup_signalled}
use Rattle.posix.proofs.OrphanLemmas.{lasting_notice}
use Rattle.posix.proofs.OrderLemmas.{first_in}
use Rattle.laws.proofs.QuietLemmas.{Quiet, quiet_same, quiet_then, quiet_as, quiet_order, quiet_at, agree_resumed, quiet_dropped, Untold, untold_cond, untold_pid, untold_life, KeepsKill, kill_cond, quiet_change, quiet_map, runs_on}

untold_signalled : (signal : PendingSignal) → Untold (signalled signal)
unfolding signalled
untold_signalled signal r = refl

-- ---- KILL stays pending

kill_other : (s : ℕ) (c : Option Carried) (g : Signals) → 8 ≢ s - 1 → is_pending g KILL ≡ true → is_pending (with_pending s c g) KILL ≡ true
kill_other s c g other e = ap is_some (get_or-set_other g.standard (s - 1) 8 c None other) ∙ e

-- a standard signal that isn't pending is made so
kill_made_standard : (signal : PendingSignal) (g : Signals) → is_some (slice_index_or g.standard (signal.sig - 1) None) ≡ false → is_pending g KILL ≡ true → is_pending (with_pending signal.sig (Some signal.carried) g) KILL ≡ true
kill_made_standard signal g t e = kill_other signal.sig (Some signal.carried) g (λ same. let no : true ≡ false = sym e ∙ ap (λ n. is_some (slice_index_or g.standard n None)) same ∙ t in absurd (cc)) e

kill_made : (signal : PendingSignal) (g : Signals) → is_pending g KILL ≡ true → is_pending (make_pending signal g) KILL ≡ true
kill_made signal g e = by (is_realtime signal.sig) (list_any (has_sig signal.sig) g.queue) (is_some (slice_index_or g.standard (signal.sig - 1) None)) refl
  where
    by : (real queued b : Bool) → is_some (slice_index_or g.standard (signal.sig - 1) None) ≡ b
        → is_pending (cond real (with_queue (g.queue ++ signal ∷ []) g) (cond (cond real queued b) g (with_pending signal.sig (Some signal.carried) g))) KILL ≡ true
    by true queued b t = e
    by false queued true t = e
    by false queued false t = kill_made_standard signal g t e

kill_without_stops : (g : Signals) → is_pending g KILL ≡ true → is_pending (without_stops g) KILL ≡ true
unfolding without_stops
kill_without_stops g e =
    kill_other STOP None (with_pending TSTP None (with_pending TTIN None (with_pending TTOU None g))) (λ e. absurd (omega (arith, e)))
    (kill_other TSTP None (with_pending TTIN None (with_pending TTOU None g)) (λ e. absurd (omega (arith, e)))
    (kill_other TTIN None (with_pending TTOU None g) (λ e. absurd (omega (arith, e))) (kill_other TTOU None g (λ e. absurd (omega (arith, e))) e)))

kill_discards : (s : ℕ) (g : Signals) → is_pending g KILL ≡ true → is_pending (after_discards s g) KILL ≡ true
kill_discards s g e =
    cond_both (s == CONT) _ _ (λ h. is_pending h KILL ≡ true) (λ t. kill_without_stops g e)
    (λ t. cond_both (is_stop_signal s) _ _ (λ h. is_pending h KILL ≡ true) (λ u. kill_other CONT None g (λ e. absurd (omega (arith, e))) e) (λ u. e))

pub kill_signalled : (signal : PendingSignal) → KeepsKill (signalled signal)
unfolding signalled generated
kill_signalled signal r e =
    let g = r.signals in
    let h = after_discards signal.sig g in
    let kept = kill_discards signal.sig g e in
    cond_both (gets_no_signals r.pid r.life g signal.sig) g (cond (keeps g signal.sig) (make_pending signal h) h) (λ x. is_pending x KILL ≡ true) (λ t. e)
    (λ t. cond_both (keeps g signal.sig) (make_pending signal h) h (λ x. is_pending x KILL ≡ true) (λ u. kill_made signal h kept) (λ u. kept))

-- ---- signals

quiet_noticed_of_change : (s : State) (p : ℕ) (signal : PendingSignal) → Quiet s (change s p (noticed_of_change signal))
unfolding noticed_of_change
quiet_noticed_of_change s p signal =
    quiet_change s p (noticed_of_change signal) (untold_cond (λ r. ignores_stops r.signals) (λ r. r) (signalled signal) (λ r. refl) (untold_signalled signal))
    (kill_cond (λ r. ignores_stops r.signals) (λ r. r) (signalled signal) (λ r e. e) (kill_signalled signal))

-- a parent's notice of a change
pub quiet_told_of_change : (status : ℕ) (r : Process) (s : State) → Quiet s (record s { processes = told_of_change status r s.processes })
unfolding told_of_change
quiet_told_of_change status r s = quiet_noticed_of_change s r.parent (child_signal r.pid status)

-- one that was stopped is continued
quiet_resumed : (s : State) (p : ℕ) (r : Process) → lookup p s.processes ≡ Some r → is_stopped r.life ≡ true → Quiet s (change s p resumed)
unfolding resumed
quiet_resumed s p r found stops = quiet_at s p resumed (λ r. refl) r found (λ k h. agree_resumed k r stops h) (λ no waits. absurd (cc))

-- a signal is generated for one
pub quiet_generated : (signal : PendingSignal) (p : ℕ) (s : State) → Quiet s (record s { processes = generated_for signal (lookup p s.processes) s.processes })
unfolding signalled
quiet_generated signal p s = by (lookup p s.processes) refl
  where
    told : (r : Process) → Quiet s (change s r.pid (signalled signal))
    told r = quiet_change s r.pid (signalled signal) (untold_signalled signal) (kill_signalled signal)

    acts : (r : Process) → lookup p s.processes ≡ Some r → (w : Effect) → effect_of r.pid r.life signal r.signals ≡ w → Quiet s (record s { processes = acted_upon w r (changed r.pid (signalled signal) s.processes) })
    acts r e effect.Nothing w = told r
    acts r e effect.Continued w =
        let one = change s r.pid (signalled signal) in
        let two = change one r.pid resumed in
        quiet_then s two _ (quiet_then s one two (told r) (quiet_resumed one r.pid (signalled signal r) (lookup_signalled signal r p s.processes e) (continued_stopped r.pid signal r w))) (quiet_told_of_change continued r two)

    by : (o : Option Process) → lookup p s.processes ≡ o → Quiet s (record s { processes = generated_for signal o s.processes })
    by None e = quiet_same s
    by (Some r) e = acts r e (effect_of r.pid r.life signal r.signals) refl

-- for each of several
pub quiet_signalled : (signal : PendingSignal) (ps : List ℕ) (s : State) → Quiet s (record s { processes = signalled_all signal ps s.processes })
unfolding signalled_all
quiet_signalled signal [] s = quiet_same s
quiet_signalled signal (p ∷ ps) s =
    let one = record s { processes = generated_for signal (lookup p s.processes) s.processes } in
    quiet_then s one _ (quiet_generated signal p s) (quiet_signalled signal ps one)

-- for the members of a group
quiet_members : (signal : PendingSignal) (group : ℕ) (s : State) → Quiet s (record s { processes = signalled_members signal group s.processes })
unfolding signalled_members
quiet_members signal group s = quiet_signalled signal (pids (members_in group s.processes)) s

pub quiet_group : (n group : ℕ) (s : State) → Quiet s (record s { processes = signalled_group n group s.processes })
quiet_group n group s =
    cond_both (group == 0) s.processes (signalled_members (record { sig = n; carried = from_kernel }) group s.processes) (λ rs. Quiet s (record s { processes = rs })) (λ e. quiet_same s)
    (λ e. quiet_members (record { sig = n; carried = from_kernel }) group s)

-- groups that get HUP and CONT
pub quiet_hup_and_cont : (gs : List ℕ) (s : State) → Quiet s (record s { processes = hup_and_cont_all gs s.processes })
unfolding hup_and_cont_all
quiet_hup_and_cont [] s = quiet_same s
quiet_hup_and_cont (g ∷ gs) s =
    let hung = record s { processes = signalled_members (record { sig = HUP; carried = from_kernel }) g s.processes } in
    let one = record s { processes = hup_and_cont g s.processes } in
    quiet_then s one _ (quiet_then s hung one (quiet_members (record { sig = HUP; carried = from_kernel }) g s) (quiet_members (record { sig = CONT; carried = from_kernel }) g hung)) (quiet_hup_and_cont gs one)

-- a terminal that is hung up
pub quiet_hung_up : (s : State) (r : Process) → Quiet s (hang_up s r)
unfolding hang_up
quiet_hung_up s r = cond_both (not (r.pid == 1) && r.session == r.pid) _ _ (Quiet s) (λ e. of (console_of r.session s.consoles)) (λ e. quiet_same s)
  where
    of : (c : Option Console) → Quiet s (hung_up s r.session c)
    of None = quiet_same s
    of (Some c) = let one = record s { processes = signalled_group HUP c.foreground s.processes } in quiet_then s one _ (quiet_group HUP c.foreground s) (quiet_as one _ refl refl refl refl refl)

-- ---- ends

-- c is there, a zombie
pub record IsGone (rs : List Process) (c : ℕ) : Type 0 where
  pub what : Process
  pub found : lookup c rs ≡ Some what
  pub dead : is_zombie what.life ≡ true

-- it is, after a change of one record that leaves zombies zombies
pub gone_changed : (p c : ℕ) (f : Process → Process) → ((r : Process) → (f r).pid ≡ r.pid) → ((r : Process) → is_zombie (f r).life ≡ is_zombie r.life) → (rs : List Process) → IsGone rs c → IsGone (changed p f rs) c
gone_changed p c f same life rs h =
    cond_both (c == p) (option_map f (lookup c rs)) (lookup c rs) (λ o. lookup c (changed p f rs) ≡ o → IsGone (changed p f rs) c)
    (λ t found. record { what = f h.what; found = found ∙ ap (option_map f) h.found; dead = life h.what ∙ h.dead })
    (λ t found. record { what = h.what; found = found ∙ h.found; dead = h.dead }) (lookup_changed p c f same rs)

-- notice of an end, of which the record may be dropped
pub quiet_notice : (s : State) (parent child status : ℕ) → IsRising s.processes → IsGone s.processes child → Quiet s (notice_of_end s parent child status)
unfolding notice_of_end noticed
quiet_notice s parent child status up gone =
    let signal = child_signal child status in
    let told = change s parent (noticed signal) in
    let u : Untold (noticed signal) = untold_cond (λ r. ignores_children r.signals) (λ r. r) (signalled signal) (λ r. refl) (untold_signalled signal) in
    let one : Quiet s told = quiet_change s parent (noticed signal) u (kill_cond (λ r. ignores_children r.signals) (λ r. r) (signalled signal) (λ r e. e) (kill_signalled signal)) in
    let there = gone_changed parent child (noticed signal) (untold_pid (noticed signal) u) (λ r. ap is_zombie (untold_life (noticed signal) u r)) s.processes gone in
    cond_both (is_dropping parent s.processes) (drop_child told child) told (Quiet s) (λ e. quiet_then s told _ one (quiet_dropped told child there.what (one.rising up) there.found there.dead)) (λ e. one)

-- another one stays
pub gone_noticed : (s : State) (parent child status c : ℕ) → c ≢ child → IsGone s.processes c → IsGone (notice_of_end s parent child status).processes c
gone_noticed s parent child status c other h =
    let l = lasting_notice s parent child status c h.what h.found other in
    record { what = l.what; found = l.found; dead = l.zombie ∙ h.dead }

-- the same of each of several
abbrev pub AllGone : List Process → List Process → Type 0
AllGone rs zs = AllByRecursion (λ (z : Process). IsGone rs z.pid) zs

pub still_gone : (n : ℕ) (rs ts : List Process) → ((c : ℕ) → n < c → IsGone rs c → IsGone ts c) → (zs : List Process) → Above n zs → AllGone rs zs → AllGone ts zs
still_gone n rs ts h [] up k = tt
still_gone n rs ts h (z ∷ zs) up k = (h z.pid up.0 k.0, still_gone n rs ts h zs up.1 k.1)

-- what holds of each zombie among the children of a process
pub each_zombie : (M : Process → Type 0) (p : ℕ) (rs : List Process) → IsRising rs → ((c : ℕ) (z : Process) → lookup c rs ≡ Some z → is_child p z ≡ true → is_zombie z.life ≡ true → M z) → AllByRecursion M (zombies_of p rs)
unfolding zombies_of children_in
each_zombie M p rs up each =
    let kids = filter (is_child p) rs in
    let kids_up = rising_filter (is_child p) rs up in
    all_looked M (filter (λ r. is_zombie r.life) kids) (rising_filter _ kids kids_up) (λ c z e.
    let a = in_filter (λ r. is_zombie r.life) kids kids_up c z e in
    let b = in_filter (is_child p) rs up c z a.found in
    each c z b.found b.passes a.passes)

-- notices of several ends
pub quiet_told : (s : State) (heir : ℕ) (zs : List Process) → IsRising s.processes → IsRising zs → AllGone s.processes zs → Quiet s (tell_of_all s heir zs)
unfolding tell_of_all IsRising
quiet_told s heir [] up rises k = quiet_same s
quiet_told s heir (z ∷ zs) up rises k =
    let one = notice_of_end s heir z.pid (status_of z.life) in
    let q = quiet_notice s heir z.pid (status_of z.life) up k.0 in
    quiet_then s one _ q (quiet_told one heir zs (q.rising up) rises.1
    (still_gone z.pid s.processes one.processes (λ c above g. gone_noticed s heir z.pid (status_of z.life) c (λ e. absurd (omega (arith, above, e))) g) zs rises.0 k.1))

-- ---- places

pub quiet_lose : (s : State) (p : ℕ) → Quiet s (lose_place s p)
quiet_lose s p = quiet_order s (without p s.order) (λ q r e f stops none. (is_other p q s.order e).among)

pub quiet_last : (s : State) (p : ℕ) → is_in p s.order ≡ true → Quiet s (go_last s p)
quiet_last s p first = quiet_order s (without p s.order ++ p ∷ []) (λ q r e f stops none. elim (or_cases _ _ (sym (in_last q p (without p s.order)) ∙ e)) [
  | inl there ↦ (is_other p q s.order there).among
  | inr same ↦ subst (λ n. is_in n s.order ≡ true) (eqb-true p q same) first
])

-- ---- events

pub quiet_pass : (s : State) → Quiet s (pass_time s)
unfolding ring_all rung with_alarm signalled
quiet_pass s =
    let now = s.ticks + 1 in
    let rings = quiet_map s (ring_at now) (untold_cond (λ r. is_due now r.alarm) rung (λ r. r) (λ r. refl) (λ r. refl)) (kill_cond (λ r. is_due now r.alarm) rung (λ r. r) (λ r e. kill_signalled _ r e) (λ r e. e)) in
    let t = record s { processes = ring_all now s.processes } in
    quiet_then s t (pass_time s) rings (quiet_as t (pass_time s) refl refl refl refl refl)

pub quiet_tick : (s : State) → Quiet s (tick s)
unfolding tick
quiet_tick s = elim (current s) as (λ c. current s ≡ c → Quiet s (rotate (pass_time s) c)) [
  | None ↦ λ e. quiet_pass s
  | Some p ↦ λ e. quiet_then s (pass_time s) _ (quiet_pass s) (quiet_last (pass_time s) p (first_in p s.order e))
] refl

pub quiet_key : (s : State) (console byte : ℕ) → Quiet s (key s console byte)
unfolding key
quiet_key s console byte = on (console_at console s.consoles)
  where
    from : (n : Option ℕ) (group : ℕ) → Quiet s (record s { processes = signalled_from n group s.processes })
    from None group = quiet_same s
    from (Some n) group = quiet_group n group s

    on : (c : Option Console) → Quiet s (key_on s console byte c)
    on None = quiet_same s
    on (Some c) = let one = record s { processes = signalled_from (signal_typed byte c) c.foreground s.processes } in quiet_then s one _ (from (signal_typed byte c) c.foreground) (quiet_as one _ refl refl refl refl refl)

pub quiet_hangup : (s : State) (console : ℕ) → Quiet s (hangup s console)
unfolding hangup
quiet_hangup s console = on (console_at console s.consoles)
  where
    on : (c : Option Console) → Quiet s (hangup_on s console c)
    on None = quiet_same s
    on (Some c) =
        let one = record s { processes = with_leader_told c s.processes } in
        let told : Quiet s one = cond_both (is_told c) (signalled_all (record { sig = HUP; carried = from_kernel }) (c.session ∷ []) s.processes) s.processes (λ rs. Quiet s (record s { processes = rs }))
        (λ t. quiet_signalled (record { sig = HUP; carried = from_kernel }) (c.session ∷ []) s) (λ t. quiet_same s) in
        quiet_then s one _ told (quiet_as one _ refl refl refl refl refl)

-- who can act runs, or has KILL pending
stopped_acts : (s : State) (r : Process) → can_act s r ≡ true → is_stopped r.life ≡ true → is_pending r.signals KILL ≡ true
unfolding can_act
stopped_acts s r acts stops = elim (or_cases (is_living r && is_pending r.signals KILL) (is_running r.life && (can_go_on s r r.blocked || is_some (chosen r.life r.signals))) acts) [
  | inl dying ↦ (and_parts (is_living r) (is_pending r.signals KILL) dying).1
  | inr goes ↦ absurd (runs_on r.life (and_parts (is_running r.life) (can_go_on s r r.blocked || is_some (chosen r.life r.signals)) goes).0 stops)
]

-- places that are given
pub quiet_given : (s : State) → IsRising s.processes → Quiet s (give_places s)
unfolding give_places
quiet_given s up = quiet_order s (s.order ++ pids (filter (wakes s) s.processes)) (λ q r e f stops none. elim (or_cases _ _ (sym (in_append q s.order (pids (filter (wakes s) s.processes))) ∙ e)) [
  | inl there ↦ there
  | inr new ↦
      let w = pid_found q (filter (wakes s) s.processes) new in
      let a = in_filter (wakes s) s.processes up q w.0 w.1 in
      let same : w.0 ≡ r = let both : Some w.0 ≡ Some r = sym a.found ∙ f in cc in
      let dying : is_pending r.signals KILL ≡ true = stopped_acts s r (subst (λ (t : Process). can_act s t ≡ true) same (and_parts (not (is_in w.0.pid s.order)) (can_act s w.0) a.passes).1) stops in
      let no : false ≡ true = sym none ∙ dying in
      absurd (cc)
])

pub quiet_settle : (s : State) → IsRising s.processes → Quiet s (settle s)
unfolding settle clear_foregrounds
quiet_settle s up = let t = clear_foregrounds s in quiet_then s t (settle s) (quiet_as s t refl refl refl refl refl) (quiet_given t up)
