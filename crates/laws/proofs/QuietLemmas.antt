-- Changes of a state that no line tells of, and that agree with all lines that the state agreed with.
use Rattle.std.proofs.Common.{rules, ◌≡◌, ◌≢◌, ℕ, suc, ◌+◌, Bool, true, false, cond, ◌==◌, List, [], ◌∷◌, map, filter, length, Option, Some, None, option_map, refl, ap, sym, ◌∙◌, arith, subst, inl, inr, ◌⊎◌}
use Rattle.std.proofs.lemmas.Bool.{eqb-true, eq-eqb, cases_eq, cond_both}
use Rattle.std.proofs.lemmas.List.{length-map}
use Rattle.posix.specs.declared.process.Life.{Life}
use Rattle.posix.specs.declared.process.Life.TheVariants.{Running}
use Rattle.posix.specs.declared.process.News.{News}
use Rattle.posix.specs.Common.{KILL, Process, is_zombie, is_running, is_stopped, IsRising, lookup, changed, removed, State, process, change, is_in, is_pending, drop_child, resumed}
use Rattle.laws.specs.Keeping.{Kept, NeverBorn, Lives, Died}
use Rattle.laws.specs.Agree.{AgreeOn, AreTurns}
use Rattle.posix.proofs.TableLemmas.{rising_map, rising_changed, rising_removed, changed_absent, lookup_changed}
use Rattle.posix.proofs.MapLemmas.{length_changed, lookup_back, lookup_map}
use Rattle.posix.proofs.RegularLemmas.{lookup_left, lookup_kept, lookup_removed}
use Rattle.posix.proofs.PassingLemmas.{counted_removed}

-- The change of a state: where lines agreed with the record of a number they do, as many records stay as aren't dropped, and
-- who has a place and is stopped has KILL pending.
pub record Quiet (s t : State) : Type 0 where
  pub records : (k : Kept) (p : ℕ) → AgreeOn k (process s p) → AgreeOn k (process t p)
  pub total : length t.processes + t.dropped ≡ length s.processes + s.dropped
  pub births : t.births ≡ s.births
  pub halted : t.halted ≡ s.halted
  pub rising : IsRising s.processes → IsRising t.processes
  pub turns : AreTurns s → AreTurns t

pub quiet_same : (s : State) → Quiet s s
quiet_same s = record { records = λ k p h. h; total = refl; births = refl; halted = refl; rising = λ h. h; turns = λ h. h }

-- one after another
pub quiet_then : (s t u : State) → Quiet s t → Quiet t u → Quiet s u
quiet_then s t u a b = search rules

-- only records, places and counts matter
pub quiet_as : (s t : State) → t.processes ≡ s.processes → t.order ≡ s.order → t.births ≡ s.births → t.dropped ≡ s.dropped → t.halted ≡ s.halted → Quiet s t
quiet_as s t p o b d h = record {
  records = λ k q a. subst (λ rs. AgreeOn k (lookup q rs)) (sym p) a;
  total = rw (p, d) refl;
  births = b;
  halted = h;
  rising = λ a. subst IsRising (sym p) a;
  turns = λ a. record { turns = rw (p, o) a.turns };
}

-- ---- places

-- only a running process, or one with SIGKILL pending, enters the run queue
pub quiet_order : (s : State) (order : List ℕ) → ((p : ℕ) (r : Process) → is_in p order ≡ true → lookup p s.processes ≡ Some r → is_stopped r.life ≡ true → is_pending r.signals KILL ≡ false → is_in p s.order ≡ true)
    → Quiet s (record s { order = order })
quiet_order s order h = record {
  records = λ k p a. a;
  total = refl;
  births = refl;
  halted = refl;
  rising = λ a. a;
  turns = λ a. record { turns = λ p r e f stops. elim (is_pending r.signals KILL) as (λ b. is_pending r.signals KILL ≡ b → is_pending r.signals KILL ≡ true) [ true ↦ λ t. t | false ↦ λ t. a.turns p r (h p r e f stops t) f stops ] refl };
}

-- ---- a record that goes on to agree

-- what lines tell of a process: its number, parent, mark, life and news
abbrev pub ToldOf : Type 0
ToldOf = ℕ × ℕ × Bool × Life × News

abbrev pub told_of : Process → ToldOf
told_of r = (r.pid, r.parent, r.is_subreaper, r.life, r.news)

-- where it stays
agree_told : (k : Kept) (r q : Process) → told_of q ≡ told_of r → AgreeOn k (Some r) → AgreeOn k (Some q)
agree_told NeverBorn r q same h = h
agree_told (Lives a) r q same h =
    let l = ap (λ (t : ToldOf). t.3) same in
    let n = ap (λ (t : ToldOf). t.4) same in
    record {
      living = ap is_zombie l ∙ h.living;
      parent = ap (λ (t : ToldOf). t.1) same ∙ h.parent;
      mark = ap (λ (t : ToldOf). t.2) same ∙ h.mark;
      news = rw (l, n) h.news;
      stopped = λ e. h.stopped (sym (ap is_stopped l) ∙ e);
    }
agree_told (Died d) r q same h = record {
  life = ap (λ (t : ToldOf). t.3) same ∙ h.life;
  parent = ap (λ (t : ToldOf). t.1) same ∙ h.parent;
  reported = h.reported;
  news = λ other. ap (λ (t : ToldOf). t.4) same ∙ h.news (λ e. other (ap (λ (t : ToldOf). t.0) same ∙ e));
  word = h.word;
}

-- where one that is stopped is continued
pub agree_resumed : (k : Kept) (r : Process) → is_stopped r.life ≡ true → AgreeOn k (Some r) → AgreeOn k (Some (resumed r))
unfolding resumed
agree_resumed NeverBorn r stops h = h
agree_resumed (Lives a) r stops h = record { living = refl; parent = h.parent; mark = h.mark; news = (h.stopped stops, refl); stopped = λ e. absurd (cc) }
agree_resumed (Died d) r stops h = let no : false ≡ true = sym (ap is_stopped h.life) ∙ stops in absurd (cc)

-- where a zombie is dropped
pub agree_dropped : (k : Kept) (r : Process) → is_zombie r.life ≡ true → AgreeOn k (Some r) → AgreeOn k None
agree_dropped NeverBorn r dead h = absurd (h)
agree_dropped (Lives a) r dead h = let no : true ≡ false = sym dead ∙ h.living in absurd (cc)
agree_dropped (Died d) r dead h = tt

-- ---- one record changed

-- who has a place and is stopped has KILL pending, still, where it does after the change of one record that had it pending
pub turns_changed : (s : State) (p : ℕ) (f : Process → Process) → ((r : Process) → (f r).pid ≡ r.pid) → (me : Process) → lookup p s.processes ≡ Some me
    → (is_stopped (f me).life ≡ true → (is_stopped me.life ≡ true → is_pending me.signals KILL ≡ true) → is_pending (f me).signals KILL ≡ true)
    → AreTurns s → AreTurns (change s p f)
turns_changed s p f pid me here waits a = record { turns = λ q r e found stops. turn q r e (q == p) refl (sym (lookup_changed p q f pid s.processes) ∙ found) stops }
  where
    turn : (q : ℕ) (r : Process) → is_in q s.order ≡ true → (b : Bool) → (q == p) ≡ b → cond b (option_map f (lookup q s.processes)) (lookup q s.processes) ≡ Some r → is_stopped r.life ≡ true → is_pending r.signals KILL ≡ true
    turn q r e true t found stops =
        let same : q ≡ p = eqb-true q p t in
        let was : lookup q s.processes ≡ Some me = ap (λ n. lookup n s.processes) same ∙ here in
        let is : f me ≡ r = let both = sym (ap (option_map f) was) ∙ found in cc in
        subst (λ (r : Process). is_pending r.signals KILL ≡ true) is (waits (ap (λ (r : Process). is_stopped r.life) is ∙ stops) (λ stopped. a.turns q me e was stopped))
    turn q r e false t found stops = a.turns q r e found stops

-- where the record of p goes on to agree, and to have KILL pending if it has a place and is stopped
pub quiet_at : (s : State) (p : ℕ) (f : Process → Process) → ((r : Process) → (f r).pid ≡ r.pid) → (me : Process) → lookup p s.processes ≡ Some me
    → ((k : Kept) → AgreeOn k (Some me) → AgreeOn k (Some (f me)))
    → (is_stopped (f me).life ≡ true → (is_stopped me.life ≡ true → is_pending me.signals KILL ≡ true) → is_pending (f me).signals KILL ≡ true)
    → Quiet s (change s p f)
quiet_at s p f pid me here agrees waits = record {
  records = λ k q h. still k q (q == p) refl h;
  total = ap (λ n. n + s.dropped) (length_changed p f s.processes);
  births = refl;
  halted = refl;
  rising = λ up. rising_changed p f pid s.processes up;
  turns = turns_changed s p f pid me here waits;
}
  where
    still : (k : Kept) (q : ℕ) (b : Bool) → (q == p) ≡ b → AgreeOn k (lookup q s.processes) → AgreeOn k (lookup q (changed p f s.processes))
    still k q true t h =
        let same : q ≡ p = eqb-true q p t in
        let was : lookup q s.processes ≡ Some me = ap (λ n. lookup n s.processes) same ∙ here in
        subst (AgreeOn k) (sym (lookup_changed p q f pid s.processes ∙ rw (t, was) refl)) (agrees k (subst (AgreeOn k) was h))
    still k q false t h = subst (AgreeOn k) (sym (lookup_changed p q f pid s.processes ∙ rw t refl)) h

-- ---- a zombie dropped

length_filter_all : (rs : List Process) → length (filter (λ (r : Process). true) rs) ≡ length rs
length_filter_all [] = refl
length_filter_all (r ∷ rs) = ap suc (length_filter_all rs)

-- one record less
pub one_removed : (p : ℕ) (r : Process) (rs : List Process) → IsRising rs → lookup p rs ≡ Some r → length (removed p rs) + 1 ≡ length rs
one_removed p r rs up e =
    let all = counted_removed (λ (r : Process). true) p r rs up e in
    let before = length_filter_all rs in
    let after = length_filter_all (removed p rs) in
    omega (arith, all, before, after)

pub quiet_dropped : (s : State) (c : ℕ) (r : Process) → IsRising s.processes → lookup c s.processes ≡ Some r → is_zombie r.life ≡ true → Quiet s (drop_child s c)
quiet_dropped s c r up found dead = record {
  records = λ k q h. gone k q (cases_eq q c) h;
  total = let one = one_removed c r s.processes up found in omega (arith, one);
  births = refl;
  halted = refl;
  rising = λ up. rising_removed c s.processes up;
  turns = λ a. record { turns = λ q t e f stops. a.turns q t e (lookup_left c q s.processes t f) stops };
}
  where
    gone : (k : Kept) (q : ℕ) → (q ≡ c) ⊎ (q ≢ c) → AgreeOn k (lookup q s.processes) → AgreeOn k (lookup q (removed c s.processes))
    gone k q (inl same) h =
        subst (λ n. AgreeOn k (lookup n (removed c s.processes))) (sym same) (subst (AgreeOn k) (sym (lookup_removed c s.processes))
        (agree_dropped k r dead (subst (AgreeOn k) (ap (λ n. lookup n s.processes) same ∙ found) h)))
    gone k q (inr other) h = subst (AgreeOn k) (sym (lookup_kept c q s.processes other)) h

-- ---- changes that no line reports

-- a change that keeps what lines tell of
abbrev pub Untold : (Process → Process) → Type 0
Untold f = (r : Process) → told_of (f r) ≡ told_of r

pub untold_pid : (f : Process → Process) → Untold f → (r : Process) → (f r).pid ≡ r.pid
untold_pid f u r = ap (λ (t : ToldOf). t.0) (u r)

pub untold_life : (f : Process → Process) → Untold f → (r : Process) → (f r).life ≡ r.life
untold_life f u r = ap (λ (t : ToldOf). t.3) (u r)

-- KILL stays pending
abbrev pub KeepsKill : (Process → Process) → Type 0
KeepsKill f = (r : Process) → is_pending r.signals KILL ≡ true → is_pending (f r).signals KILL ≡ true

-- one of two, as a test says
pub untold_cond : (t : Process → Bool) (f g : Process → Process) → Untold f → Untold g → Untold (λ r. cond (t r) (f r) (g r))
untold_cond t f g h k r = cond_both (t r) (f r) (g r) (λ q. told_of q ≡ told_of r) (λ e. h r) (λ e. k r)

pub kill_cond : (t : Process → Bool) (f g : Process → Process) → KeepsKill f → KeepsKill g → KeepsKill (λ r. cond (t r) (f r) (g r))
kill_cond t f g h k r e = cond_both (t r) (f r) (g r) (λ q. is_pending q.signals KILL ≡ true) (λ u. h r e) (λ u. k r e)

-- such a change of a process, existing or not
pub quiet_change : (s : State) (p : ℕ) (f : Process → Process) → Untold f → KeepsKill f → Quiet s (change s p f)
quiet_change s p f u keeps = by (lookup p s.processes) refl
  where
    by : (o : Option Process) → lookup p s.processes ≡ o → Quiet s (change s p f)
    by None e = subst (λ rs. Quiet s (record s { processes = rs })) (sym (changed_absent p f s.processes e)) (quiet_same s)
    by (Some me) e = quiet_at s p f (untold_pid f u) me e (λ k h. agree_told k me (f me) (u me) h) (λ stops waits. keeps me (waits (sym (ap is_stopped (untold_life f u me)) ∙ stops)))

-- and of each process
pub quiet_map : (s : State) (g : Process → Process) → Untold g → KeepsKill g → Quiet s (record s { processes = map g s.processes })
quiet_map s g u keeps = record {
  records = λ k p h. subst (AgreeOn k) (sym (lookup_map g (untold_pid g u) p s.processes)) (each k (lookup p s.processes) h);
  total = ap (λ n. n + s.dropped) (length-map s.processes g);
  births = refl;
  halted = refl;
  rising = λ up. rising_map g (untold_pid g u) s.processes up;
  turns = λ a. record {
    turns = λ p r e found stops.
        let b = lookup_back g (untold_pid g u) p s.processes r found in
        let stopped = sym (ap is_stopped (untold_life g u b.what)) ∙ ap (λ (r : Process). is_stopped r.life) (sym b.is) ∙ stops in
        ap (λ (r : Process). is_pending r.signals KILL) b.is ∙ keeps b.what (a.turns p b.what e b.found stopped);
  };
}
  where
    each : (k : Kept) (o : Option Process) → AgreeOn k o → AgreeOn k (option_map g o)
    each k None h = h
    each k (Some r) h = agree_told k r (g r) (u r) h

-- ---- changes of who runs

-- p is there and runs
pub record IsRunning (s : State) (p : ℕ) : Type 0 where
  pub what : Process
  pub found : lookup p s.processes ≡ Some what
  pub runs : is_running what.life ≡ true

-- and then isn't stopped
pub runs_on : (l : Life) → is_running l ≡ true → is_stopped l ≡ true → ⊥
runs_on Running r s = cc
runs_on l r s = cc

-- such a change of who runs, whatever it does to its signals
pub quiet_own : (s : State) (p : ℕ) (f : Process → Process) → Untold f → IsRunning s p → Quiet s (change s p f)
quiet_own s p f u me =
    quiet_at s p f (untold_pid f u) me.what me.found (λ k h. agree_told k me.what (f me.what) (u me.what) h)
    (λ stops waits. absurd (runs_on me.what.life me.runs (sym (ap is_stopped (untold_life f u me.what)) ∙ stops)))

-- after which it runs
pub running_own : (s : State) (p : ℕ) (f : Process → Process) → Untold f → IsRunning s p → IsRunning (change s p f) p
running_own s p f u me = record {
  what = f me.what;
  found = lookup_changed p p f (untold_pid f u) s.processes ∙ rw (eq-eqb p p refl, me.found) refl;
  runs = ap is_running (untold_life f u me.what) ∙ me.runs;
}
