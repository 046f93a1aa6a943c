-- What a process does in its turn, and the lines that tell of it.
use Rattle.std.proofs.Common.{◌≡◌, ◌≢◌, ℕ, ◌+◌, ◌≤◌, Bool, true, false, not, ◌&&◌, ◌==◌, List, [], ◌∷◌, ◌++◌, append_assoc, append-nil, filter, Option, Some, None, option_map, refl, ap, sym, ◌∙◌, arith, subst, pos, inl, inr, ◌⊎◌}
use Rattle.std.proofs.lemmas.Bool.{eqb-true, eqb-false, eq-eqb, ne_eqb, cases_eq, cond_both}
use Rattle.posix.specs.declared.call.Call.TheVariants.{Fork}
use Rattle.posix.specs.declared.entry.Entry.{Entry}
use Rattle.posix.specs.declared.waits.WaitCall.{WaitCall}
use Rattle.posix.specs.declared.entry.Entry.TheVariants.{Called, Reported, Marked, Looked, Stopped, Ended, Halted}
use Rattle.posix.specs.declared.process.Life.TheVariants.{Zombie}
use Rattle.posix.specs.Common.{KILL, HUP, is_stop_signal, stopped, is_end_word, Process, is_zombie, is_stopped, is_running, IsRising, lookup, changed, inserted, removed, is_child, children_in, reparented, pids, State, change, lose_place, is_in, Console, console_of, from_kernel, Line, line, numbered, process_of, Outcome, silent, finished, is_pending, child_of, born, newly_orphaned, heir_in, marked_as, ended, made_zombie, halt, leave_children_and_die, zombies_of, tell_of_all, hup_and_cont_orphans, hup_and_cont_all, notice_of_end, signalled_members, signalled_group, hung_up, hang_up, end_process, stopped_by, stop_process, news_told}
use Rattle.laws.specs.Keeping.{Phase, Going, Over, kept_of}
use Rattle.laws.specs.Agree.{AgreeIn, AgreeOn, AreTurns, phase_between}
use Rattle.posix.proofs.MemberLemmas.{is_other}
use Rattle.posix.proofs.TableLemmas.{lookup_changed, pid_looked, rising_changed, rising_adopted, rising_filter, reparented_keeps}
use Rattle.posix.proofs.RegularLemmas.{lookup_left, lookup_inserted, lookup_new}
use Rattle.posix.proofs.HupAndContLemmas.{lasts_members, lasts_hup_and_cont_all, still_there}
use Rattle.posix.proofs.OrphanLemmas.{lasting_told, not_told}
use Rattle.laws.proofs.NextLineLemmas.{counted_all}
use Rattle.laws.proofs.QuietLemmas.{Quiet, quiet_then, turns_changed, IsRunning, runs_on}
use Rattle.laws.proofs.QuietOperations.{each_zombie, quiet_hup_and_cont, quiet_hung_up, IsGone, AllGone, quiet_notice, quiet_told, quiet_told_of_change}
use Rattle.laws.proofs.NewsLemmas.{IsNewsOf}
use Rattle.laws.proofs.ToldLines.{is_plain, IsLiving, agree_plain, departed, agree_ended, agree_halted, agree_stopped, agree_marked, agree_reaped, end_passes, news_are_told, agree_news, agree_look, running_lives, agree_born, pid_child, life_child}

-- ---- quiet changes

pub agree_quiet : (phase : Phase) (lines : List Line) (k : ℕ) (s t : State) → AgreeIn phase lines k s → Quiet s t → AgreeIn phase lines k t
agree_quiet phase lines k s t h q =
    let before = counted_all s.processes in
    let now = counted_all t.processes in
    record {
      laws = h.laws;
      number = h.number;
      records = λ p. q.records (kept_of lines p) p (h.records p);
      born = q.births ∙ h.born;
      counts = omega (arith, before, now, h.counts, q.total, q.births);
      phase = h.phase;
    }

-- What an outcome shows agrees with its state, where the lines so far agree with the state before.
pub record IsTold (s : State) (o : Outcome) : Type 0 where
  pub agree : (lines : List Line) (k : ℕ) → AgreeIn Going lines k s → AgreeIn (phase_between o.state.halted) (lines ++ numbered k o.entries) k o.state
  pub turns : AreTurns s → AreTurns o.state

-- where no line tells of it
pub told_quiet : (s t : State) → s.halted ≡ false → Quiet s t → IsTold s (silent t)
told_quiet s t awake q = record {
  agree = λ lines k h. subst (λ ls. AgreeIn (phase_between t.halted) ls k t) (sym (append-nil lines)) (subst (λ b. AgreeIn (phase_between b) lines k t) (sym (q.halted ∙ awake)) (agree_quiet Going lines k s t h q));
  turns = q.turns;
}

-- a quiet change goes before
pub told_after : (s t : State) (o : Outcome) → Quiet s t → IsTold t o → IsTold s o
told_after s t o q h = record { agree = λ lines k a. h.agree lines k (agree_quiet Going lines k s t a q); turns = λ a. h.turns (q.turns a) }

-- or after it
pub told_before : (s t u : State) (entries : List Entry) → IsTold s (record { state = t; entries = entries }) → Quiet t u → IsTold s (record { state = u; entries = entries })
told_before s t u entries h q = record {
  agree = λ lines k a. subst (λ b. AgreeIn (phase_between b) (lines ++ numbered k entries) k u) (sym q.halted) (agree_quiet (phase_between t.halted) (lines ++ numbered k entries) k t u (h.agree lines k a) q);
  turns = λ a. q.turns (h.turns a);
}

-- a line that tells of nothing goes before
pub told_plain : (s : State) (p : ℕ) (e : Entry) (o : Outcome) → IsLiving s p → process_of e ≡ Some p → is_plain e ≡ true → IsTold s o → IsTold s (record { state = o.state; entries = e ∷ o.entries })
told_plain s p e o me named plain h = record {
  agree = λ lines k a. subst (λ ls. AgreeIn (phase_between o.state.halted) ls k o.state) (append_assoc lines (line k e ∷ []) (numbered k o.entries))
      (h.agree (lines ++ line k e ∷ []) k (agree_plain lines k s p e a me named plain));
  turns = h.turns;
}

-- such a line alone
pub told_line : (s t : State) (p : ℕ) (e : Entry) → s.halted ≡ false → IsLiving s p → process_of e ≡ Some p → is_plain e ≡ true → Quiet s t → IsTold s (record { state = t; entries = e ∷ [] })
told_line s t p e awake me named plain q = told_plain s p e (silent t) me named plain (told_quiet s t awake q)

-- one line that leads to a state that isn't halted
told_one : (s t : State) (e : Entry) → t.halted ≡ false → ((lines : List Line) (k : ℕ) → AgreeIn Going lines k s → AgreeIn Going (lines ++ line k e ∷ []) k t) → (AreTurns s → AreTurns t) → IsTold s (record { state = t; entries = e ∷ [] })
told_one s t e awake h turns = record { agree = λ lines k a. subst (λ b. AgreeIn (phase_between b) (lines ++ line k e ∷ []) k t) (sym awake) (h lines k a); turns = turns }

-- ---- ends

-- the departed are gone
pub gone_departed : (s : State) (p heir w : ℕ) → IsLiving s p → IsGone (leave_children_and_die s p heir w).processes p
unfolding made_zombie
gone_departed s p heir w me = record {
  what = reparented p heir (made_zombie w me.what);
  found = departed s p heir w p ∙ rw (eq-eqb p p refl, me.found) refl;
  dead = reparented_keeps (λ r. is_zombie r.life) p heir (λ r. refl) (made_zombie w me.what);
}

-- so are those that were
gone_before : (s : State) (p heir w c : ℕ) → IsGone s.processes c → IsGone (leave_children_and_die s p heir w).processes c
unfolding made_zombie
gone_before s p heir w c g = by (c == p) refl
  where
    zombie : (q : Process) → is_zombie (reparented p heir q).life ≡ is_zombie q.life
    zombie q = reparented_keeps (λ r. is_zombie r.life) p heir (λ r. refl) q

    by : (b : Bool) → (c == p) ≡ b → IsGone (leave_children_and_die s p heir w).processes c
    by true t = record { what = reparented p heir (made_zombie w g.what); found = departed s p heir w c ∙ rw (t, g.found) refl; dead = zombie (made_zombie w g.what) }
    by false t = record { what = reparented p heir g.what; found = departed s p heir w c ∙ rw (t, g.found) refl; dead = zombie g.what ∙ g.dead }

-- zombies among the children are gone
pub children_gone : (s : State) (p heir w : ℕ) → IsRising s.processes → AllGone (leave_children_and_die s p heir w).processes (zombies_of p s.processes)
children_gone s p heir w up = each_zombie _ p s.processes up (λ c z found child dead.
    let here : z.pid ≡ c = pid_looked c s.processes z found in
    gone_before s p heir w z.pid (record { what = z; found = ap (λ n. lookup n s.processes) here ∙ found; dead = dead }))

pub zombies_rise : (s : State) (p : ℕ) → IsRising s.processes → IsRising (zombies_of p s.processes)
unfolding zombies_of children_in
zombies_rise s p up = rising_filter _ (filter (is_child p) s.processes) (rising_filter (is_child p) s.processes up)

-- who lives is none of them
pub not_among : (s : State) (p q : ℕ) → IsRising s.processes → IsLiving s q → is_in q (pids (zombies_of p s.processes)) ≡ false
not_among s p q up me = not_told s up p q me.what me.found (λ dead. let no : false ≡ true = sym me.lives ∙ dead in absurd (cc))

-- it stays removed while the terminations of its children are reported to the new parent
pub gone_told : (s : State) (heir : ℕ) (zs : List Process) (c : ℕ) → is_in c (pids zs) ≡ false → IsGone s.processes c → IsGone (tell_of_all s heir zs).processes c
gone_told s heir zs c out g = let l = lasting_told s heir zs c g.what g.found out in record { what = l.what; found = l.found; dead = l.zombie ∙ g.dead }

-- and while groups get HUP and CONT
pub gone_hup_and_cont : (gs : List ℕ) (s : State) (c : ℕ) → IsRising s.processes → IsGone s.processes c → IsGone (hup_and_cont_all gs s.processes) c
gone_hup_and_cont gs s c up g = let l = still_there c s.processes _ (lasts_hup_and_cont_all gs s.processes up).same g.what g.found in record { what = l.what; found = l.found; dead = l.zombie ∙ g.dead }

rising_departed : (s : State) (p heir w : ℕ) → IsRising s.processes → IsRising (leave_children_and_die s p heir w).processes
unfolding made_zombie
rising_departed s p heir w up = rising_adopted p heir (changed p (made_zombie w) s.processes) (rising_changed p (made_zombie w) (λ r. refl) s.processes up)

turns_departed : (s : State) (p heir w : ℕ) → AreTurns s → AreTurns (leave_children_and_die s p heir w)
turns_departed s p heir w a = record { turns = λ q r e found stops. let other = is_other p q s.order e in by q r other.among (lookup q s.processes) refl (there q other.apart ∙ found) stops }
  where
    there : (q : ℕ) → q ≢ p → option_map (reparented p heir) (lookup q s.processes) ≡ lookup q (leave_children_and_die s p heir w).processes
    there q ne = sym (departed s p heir w q ∙ rw (ne_eqb q p ne) refl)

    life : (x : Process) → is_stopped (reparented p heir x).life ≡ is_stopped x.life
    life x = reparented_keeps (λ r. is_stopped r.life) p heir (λ r. refl) x

    signals : (x : Process) → is_pending (reparented p heir x).signals KILL ≡ is_pending x.signals KILL
    signals x = reparented_keeps (λ r. is_pending r.signals KILL) p heir (λ r. refl) x

    by : (q : ℕ) (r : Process) → is_in q s.order ≡ true → (o : Option Process) → lookup q s.processes ≡ o → option_map (reparented p heir) o ≡ Some r → is_stopped r.life ≡ true → is_pending r.signals KILL ≡ true
    by q r e None was is stops = absurd (cc)
    by q r e (Some x) was is stops =
        let same : reparented p heir x ≡ r = cc in
        ap (λ (r : Process). is_pending r.signals KILL) (sym same) ∙ signals x ∙ a.turns q x e was (sym (life x) ∙ ap (λ (r : Process). is_stopped r.life) same ∙ stops)

-- the end of a process other than process 1
told_gone : (s : State) (p parent w : ℕ) → s.halted ≡ false → IsRising s.processes → IsLiving s p → p ≢ 1 → is_end_word w ≡ true
    → IsTold s (record { state = notice_of_end (hup_and_cont_orphans s.processes (tell_of_all (leave_children_and_die s p (heir_in s.processes p) w) (heir_in s.processes p) (zombies_of p s.processes))) parent p w; entries = Ended p w ∷ [] })
told_gone s p parent w awake up me other word =
    let heir = heir_in s.processes p in
    let gone = leave_children_and_die s p heir w in
    let zs = zombies_of p s.processes in
    let told = tell_of_all gone heir zs in
    let gs = newly_orphaned s.processes told.processes in
    let given = hup_and_cont_orphans s.processes told in
    let left = told_one s gone (Ended p w) awake (λ lines k a. agree_ended lines k s p w a me other word) (turns_departed s p heir w) in
    let one : Quiet gone told = quiet_told gone heir zs (rising_departed s p heir w up) (zombies_rise s p up) (children_gone s p heir w up) in
    let two : Quiet told given = quiet_hup_and_cont gs told in
    let told_up = one.rising (rising_departed s p heir w up) in
    let here : IsGone given.processes p = gone_hup_and_cont gs told p told_up (gone_told gone heir zs p (not_among s p p up me) (gone_departed s p heir w me)) in
    told_before s gone _ (Ended p w ∷ []) left (quiet_then gone given _ (quiet_then gone told given one two) (quiet_notice given parent p w (two.rising told_up) here))

-- the end of process 1
told_halt : (s : State) (w : ℕ) → IsLiving s 1 → is_end_word w ≡ true → IsTold s (record { state = halt s w; entries = Ended 1 w ∷ Halted ∷ [] })
unfolding ended
told_halt s w me word = record {
  agree = λ lines k a. subst (λ ls. AgreeIn Over ls k (halt s w)) (append_assoc lines (line k (Ended 1 w) ∷ []) (line k Halted ∷ [])) (agree_halted lines k s w a me word);
  turns = λ a. record {
    turns = λ q r e found stops.
        let other = is_other 1 q s.order e in
        a.turns q r other.among (sym (lookup_changed 1 q (ended w) (λ r. refl) s.processes ∙ rw (ne_eqb q 1 other.apart) refl) ∙ found) stops;
  };
}

-- signals leave who lives living
living_group : (n group : ℕ) (rs : List Process) (p : ℕ) (r : Process) → IsRising rs → lookup p rs ≡ Some r → (q : Process) × (lookup p (signalled_group n group rs) ≡ Some q) × (is_zombie q.life ≡ is_zombie r.life)
living_group n group rs p r up e =
    cond_both (group == 0) rs (signalled_members (record { sig = n; carried = from_kernel }) group rs) (λ ts. (q : Process) × (lookup p ts ≡ Some q) × (is_zombie q.life ≡ is_zombie r.life)) (λ t. (r, e, refl))
    (λ t. let l = still_there p rs _ (lasts_members (record { sig = n; carried = from_kernel }) group rs up).same r e in (l.what, l.found, l.zombie))

pub living_hung_up : (s : State) (r : Process) (p : ℕ) → IsRising s.processes → IsLiving s p → IsLiving (hang_up s r) p
unfolding hang_up
living_hung_up s r p up me = cond_both (not (r.pid == 1) && r.session == r.pid) _ _ (λ t. IsLiving t p) (λ e. of (console_of r.session s.consoles)) (λ e. me)
  where
    of : (c : Option Console) → IsLiving (hung_up s r.session c) p
    of None = me
    of (Some c) = let x = living_group HUP c.foreground s.processes p me.what up me.found in record { what = x.0; found = x.1; lives = x.2 ∙ me.lives }

-- an end
pub told_end : (s : State) (r : Process) (w : ℕ) → s.halted ≡ false → IsRising s.processes → IsLiving s r.pid → is_end_word w ≡ true → IsTold s (end_process s r w)
unfolding end_process
told_end s r w awake up me word =
    let q = quiet_hung_up s r in
    let t = hang_up s r in
    let lives = living_hung_up s r r.pid up me in
    let still = q.halted ∙ awake in
    told_after s t _ q (cond_both (r.pid == 1) _ _ (IsTold t)
    (λ e. let first = eqb-true r.pid 1 e in subst (λ n. IsTold t (record { state = halt t w; entries = Ended n w ∷ Halted ∷ [] })) (sym first) (told_halt t w (subst (IsLiving t) first lives) word))
    (λ e. told_gone t r.pid r.parent w still (q.rising up) lives (eqb-false r.pid 1 e) word))

-- ---- stops

-- a process is stopped
pub told_stop : (s : State) (r : Process) (n : ℕ) → s.halted ≡ false → IsLiving s r.pid → is_stop_signal n ≡ true → IsTold s (stop_process s r n)
unfolding stop_process stopped_by
told_stop s r n awake me word =
    let t = lose_place (change s r.pid (stopped_by n)) r.pid in
    let left : IsTold s (record { state = t; entries = Stopped r.pid n ∷ [] }) = told_one s t (Stopped r.pid n) awake (λ lines k a. agree_place (agree_stopped lines k s r.pid n a me word)) (λ a. record {
      turns = λ q x e found stops.
          let other = is_other r.pid q s.order e in
          a.turns q x other.among (sym (lookup_changed r.pid q (stopped_by n) (λ r. refl) s.processes ∙ rw (ne_eqb q r.pid other.apart) refl) ∙ found) stops;
    }) in
    told_before s t (stop_process s r n).state (Stopped r.pid n ∷ []) left (quiet_told_of_change (stopped n) r t)
  where
    agree_place : {phase : Phase} {lines : List Line} {k : ℕ} {t : State} {order : List ℕ} → AgreeIn phase lines k t → AgreeIn phase lines k (record t { order = order })
    agree_place h = record { laws = h.laws; number = h.number; records = h.records; born = h.born; counts = h.counts; phase = h.phase }

-- ---- marks

-- who runs lives
pub running_living : (s : State) (p : ℕ) → IsRunning s p → IsLiving s p
running_living s p me = record { what = me.what; found = me.found; lives = running_lives me.what.life me.runs }

-- a process that runs becomes a subreaper, or is none any more
pub told_marked : (s : State) (p : ℕ) (mark : Bool) → s.halted ≡ false → IsRunning s p → IsTold s (record { state = change s p (marked_as mark); entries = Marked p mark ∷ [] })
unfolding marked_as finished
told_marked s p mark awake me =
    told_one s (change s p (marked_as mark)) (Marked p mark) awake (λ lines k a. agree_marked lines k s p mark a (running_living s p me))
    (turns_changed s p (marked_as mark) (λ r. refl) me.what me.found (λ stops was. absurd (runs_on me.what.life me.runs stops)))

-- ---- births

-- a child is born
pub told_born : (s : State) (me : Process) (n : ℕ) → s.halted ≡ false → lookup me.pid s.processes ≡ Some me → is_running me.life ≡ true → 1 ≤ n → lookup n s.processes ≡ None
    → IsTold s (record { state = born s me n; entries = Called me.pid Fork (pos n) ∷ [] })
told_born s me n awake found runs least fresh =
    told_one s (born s me n) (Called me.pid Fork (pos n)) awake (λ lines k a. agree_born lines k s me n a (running_living s me.pid (record { what = me; found = found; runs = runs })) runs least fresh)
    (λ a. record { turns = λ q r e f stops. by a q r e (cases_eq q n) f stops })
  where
    child : Process
    child = child_of (s.births + 1) me n

    by : AreTurns s → (q : ℕ) (r : Process) → is_in q s.order ≡ true → (q ≡ n) ⊎ (q ≢ n) → lookup q (inserted child s.processes) ≡ Some r → is_stopped r.life ≡ true → is_pending r.signals KILL ≡ true
    by a q r e (inl same) f stops =
        let named : child.pid ≡ n = pid_child (s.births + 1) me n in
        let it : lookup q (inserted child s.processes) ≡ Some child = ap (λ m. lookup m (inserted child s.processes)) (same ∙ sym named) ∙ lookup_new child s.processes (ap (λ m. lookup m s.processes) named ∙ fresh) in
        let is : child ≡ r = let both = sym it ∙ f in cc in
        absurd (runs_on me.life runs (sym (life_child (s.births + 1) me n) ∙ ap (λ (r : Process). is_stopped r.life) is ∙ stops))
    by a q r e (inr other) f stops =
        a.turns q r e (sym (lookup_inserted child q s.processes (λ x. other (x ∙ pid_child (s.births + 1) me n))) ∙ f) stops

-- ---- reports

-- the end of a child is reported
pub told_reaped : (s : State) (p : ℕ) (call : WaitCall) (c w : ℕ) (r : Process) → s.halted ≡ false → IsLiving s p → IsRising s.processes → lookup c s.processes ≡ Some r → r.parent ≡ p → r.life ≡ Zombie w
    → IsTold s (record { state = record s { processes = removed c s.processes }; entries = Reported p call c w ∷ [] })
told_reaped s p call c w r awake me up found parent life =
    told_one s (record s { processes = removed c s.processes }) (Reported p call c w) awake (λ lines k a. agree_reaped lines k s p call c w r a me up found parent life)
    (λ a. record { turns = λ q x e f stops. a.turns q x e (lookup_left c q s.processes x f) stops })

-- a change is
pub told_news : (s : State) (p : ℕ) (call : WaitCall) (c w : ℕ) (r : Process) → s.halted ≡ false → IsLiving s p → lookup c s.processes ≡ Some r → r.parent ≡ p → is_zombie r.life ≡ false → IsNewsOf r w
    → IsTold s (record { state = change s c news_told; entries = Reported p call c w ∷ [] })
unfolding news_told
told_news s p call c w r awake me found parent lives what =
    told_one s (change s c news_told) (Reported p call c w) awake (λ lines k a. agree_news lines k s p call c w r a me found (news_are_told lines p c w r (subst (AgreeOn (kept_of lines c)) found (a.records c)) parent lives what)) (turns_changed s c news_told (λ r. refl) r found (λ stops was. was stops))

-- or a child is looked at
pub told_looked_at_end : (s : State) (p c w : ℕ) (r : Process) → s.halted ≡ false → IsLiving s p → lookup c s.processes ≡ Some r → r.parent ≡ p → r.life ≡ Zombie w → IsTold s (record { state = s; entries = Looked p c w ∷ [] })
told_looked_at_end s p c w r awake me found parent life = told_one s s (Looked p c w) awake (λ lines k a. agree_look lines k s p c w a me (end_passes p w (kept_of lines c) r life parent (subst (AgreeOn (kept_of lines c)) found (a.records c)))) (λ a. a)

pub told_looked_at_news : (s : State) (p c w : ℕ) (r : Process) → s.halted ≡ false → IsLiving s p → lookup c s.processes ≡ Some r → r.parent ≡ p → is_zombie r.life ≡ false → IsNewsOf r w → IsTold s (record { state = s; entries = Looked p c w ∷ [] })
told_looked_at_news s p c w r awake me found parent lives what = told_one s s (Looked p c w) awake (λ lines k a. agree_look lines k s p c w a me (news_are_told lines p c w r (subst (AgreeOn (kept_of lines c)) found (a.records c)) parent lives what).passes) (λ a. a)
