-- What lines tell of: births, ends, stops and reports; and lines that tell of nothing.
use Rattle.std.proofs.Common.{◌≡◌, ◌≢◌, ℕ, zero, suc, ◌+◌, ◌/◌, ◌≤◌, Bool, true, false, cond, ◌==◌, List, [], ◌∷◌, ◌++◌, length, Option, Some, None, option_map, option_and_then, is_none, refl, ap, sym, ◌∙◌, arith, subst, pos, inl, inr}
use Rattle.std.proofs.Math.Bool.{and-true}
use Rattle.std.proofs.lemmas.Bool.{eqb-true, eqb-false, eq-eqb, ne_eqb, true_from_ne_false}
use mathlib.Core.Path.{fun_ext}
use Rattle.posix.specs.declared.entry.Entry.{Entry}
use Rattle.posix.specs.declared.waits.WaitCall.{WaitCall}
use Rattle.posix.specs.declared.entry.Entry.TheVariants.{Called, Reported, Looked, Marked, Stopped, Ended, Halted}
use Rattle.posix.specs.declared.call.Call.TheVariants.{Fork}
use Rattle.posix.specs.declared.process.Life.{Life}
use Rattle.posix.specs.declared.process.Life.TheVariants.{Running, Zombie}
use Rattle.posix.specs.declared.process.News.TheVariants as news
use Rattle.posix.specs.Common.{is_stop_signal, stopped, continued, tells_end, is_end_word, Process, is_zombie, is_stopped, is_running, IsRising, lookup, changed, inserted, removed, reparented, adopted, State, process, change, Line, line, reports_end, process_of, finished, child_of, born, Forebear, heir_among, forebear_of, heir_in, marked_as, ended, made_zombie, halt, leave_children_and_die, stopped_by, news_told}
use Rattle.laws.specs.Lives.{LastOf, LifeSoFar, EndOf, newest_life, the_end, last_stop, has_mark, parent_of, born_by}
use Rattle.laws.specs.Keeping.{Kept, NeverBorn, Lives, Died, Phase, Going, FirstEnded, Over, kept_of, kept_of_life, kept_since, alive_since, kept_after, made_by, heir_of, forebear_kept, newborn, after_report, after_stop, after_mark, ended_with, given_on, moved_from, lives_now, place_fault, report_fault, word_fault, phase_after}
use Rattle.laws.specs.Agree.{NewsAgree, AgreeOn, AgreeIn}
use Rattle.laws.proofs.NextLineLemmas.{lives_kept, free_kept, agree_says}
use Rattle.posix.proofs.TableLemmas.{lookup_changed, pid_looked, pid_reparented, reparented_keeps, length_inserted}
use Rattle.posix.proofs.MapLemmas.{length_changed, lookup_map}
use Rattle.std.proofs.lemmas.List.{length-map}
use Rattle.posix.proofs.RegularLemmas.{lookup_kept, lookup_removed, lookup_inserted, lookup_new}
use Rattle.laws.proofs.StatusLemmas.{stop_word, end_tells}
use Rattle.laws.proofs.NewsLemmas.{IsNewsOf}
use Rattle.laws.proofs.QuietLemmas.{runs_on, one_removed}

-- ---- lines that tell of nothing

abbrev pub is_plain : Entry → Bool
is_plain (Called p call z) = is_none (born_by (Called p call z))
is_plain (Reported p call c w) = false
is_plain (Looked p c w) = false
is_plain (Marked p mark) = false
is_plain (Stopped p s) = false
is_plain (Ended p w) = false
is_plain Halted = false
is_plain _ = true

record TellsNothing (kept : ℕ → Kept) (e : Entry) : Type 0 where
  born : born_by e ≡ None
  same : (c : ℕ) → kept_after kept e c ≡ kept c
  report : report_fault kept e ≡ None
  ends : reports_end e ≡ false
  going : phase_after e ≡ Going

tells_nothing : (kept : ℕ → Kept) (e : Entry) → is_plain e ≡ true → TellsNothing kept e
unfolding made_by
tells_nothing kept (Called p call z) h =
    let none = is_none_none (born_by (Called p call z)) h in
    record { born = none; same = λ c. rw none refl; report = refl; ends = refl; going = refl }
  where
    is_none_none : (o : Option ℕ) → is_none o ≡ true → o ≡ None
    is_none_none None h = refl
    is_none_none (Some n) h = absurd (cc)
tells_nothing kept (Reported p call c w) h = absurd (cc)
tells_nothing kept (Looked p c w) h = absurd (cc)
tells_nothing kept (Marked p mark) h = absurd (cc)
tells_nothing kept (Stopped p s) h = absurd (cc)
tells_nothing kept (Ended p w) h = absurd (cc)
tells_nothing kept Halted h = absurd (cc)
tells_nothing kept e h = record { born = refl; same = λ c. refl; report = refl; ends = refl; going = refl }

-- p is there and lives
pub record IsLiving (s : State) (p : ℕ) : Type 0 where
  pub what : Process
  pub found : lookup p s.processes ≡ Some what
  pub lives : is_zombie what.life ≡ false

-- so p is in a life, and may have lines
in_life : (phase : Phase) (lines : List Line) (k : ℕ) (s : State) (p : ℕ) → AgreeIn phase lines k s → IsLiving s p → lives_now (kept_of lines p) ≡ true
in_life phase lines k s p h me = lives_kept (kept_of lines p) me.what (subst (AgreeOn (kept_of lines p)) me.found (h.records p)) me.lives

may_say : (kept : ℕ → Kept) (p : ℕ) (e : Entry) → lives_now (kept p) ≡ true → process_of e ≡ Some p → place_fault kept Going e ≡ None
may_say kept p e lives named = rw (named, lives) refl

-- a line of who lives that tells of nothing
pub agree_plain : (lines : List Line) (k : ℕ) (s : State) (p : ℕ) (e : Entry) → AgreeIn Going lines k s → IsLiving s p → process_of e ≡ Some p → is_plain e ≡ true → AgreeIn Going (lines ++ line k e ∷ []) k s
agree_plain lines k s p e h me named plain =
    let t = tells_nothing (kept_of lines) e plain in
    subst (λ phase. AgreeIn phase (lines ++ line k e ∷ []) k s) t.going (agree_says Going lines k e s s h (record {
      place = may_say (kept_of lines) p e (in_life Going lines k s p h me) named;
      birth = rw t.born refl;
      report = t.report;
      records = λ c. subst (λ m. AgreeOn m (process s c)) (sym (t.same c)) (h.records c);
      births = rw t.born (omega arith);
      total = rw (t.born, t.ends) refl;
    }))

-- ---- ends

parent_reparented : (p heir : ℕ) (r : Process) → (reparented p heir r).parent ≡ moved_from p heir r.parent
parent_reparented p heir r = elim (r.parent == p) as (λ b. (cond b (record r { parent = heir }) r).parent ≡ cond b heir r.parent) [ true ↦ refl | false ↦ refl ]

life_reparented : (p heir : ℕ) (r : Process) → (reparented p heir r).life ≡ r.life
life_reparented p heir r = reparented_keeps (λ r. r.life) p heir (λ r. refl) r

news_reparented : (p heir : ℕ) (r : Process) → (reparented p heir r).news ≡ r.news
news_reparented p heir r = reparented_keeps (λ r. r.news) p heir (λ r. refl) r

mark_reparented : (p heir : ℕ) (r : Process) → (reparented p heir r).is_subreaper ≡ r.is_subreaper
mark_reparented p heir r = reparented_keeps (λ r. r.is_subreaper) p heir (λ r. refl) r

-- children that are given on
agree_given : (p heir : ℕ) (k : Kept) (o : Option Process) → AgreeOn k o → AgreeOn (given_on p heir k) (option_map (reparented p heir) o)
agree_given p heir NeverBorn None h = h
agree_given p heir NeverBorn (Some r) h = h
agree_given p heir (Lives a) None h = h
agree_given p heir (Lives a) (Some r) h = record {
  living = ap is_zombie (life_reparented p heir r) ∙ h.living;
  parent = parent_reparented p heir r ∙ ap (moved_from p heir) h.parent;
  mark = mark_reparented p heir r ∙ h.mark;
  news = rw (life_reparented p heir r, news_reparented p heir r) h.news;
  stopped = λ e. h.stopped (sym (ap is_stopped (life_reparented p heir r)) ∙ e);
}
agree_given p heir (Died d) None h = h
agree_given p heir (Died d) (Some r) h = record {
  life = life_reparented p heir r ∙ h.life;
  parent = parent_reparented p heir r ∙ ap (moved_from p heir) h.parent;
  reported = h.reported;
  news = λ other. news_reparented p heir r ∙ h.news (λ e. other (pid_reparented p heir r ∙ e));
  word = h.word;
}

-- one that ends
agree_made : (p heir w : ℕ) (k : Kept) (r : Process) → is_end_word w ≡ true → is_zombie r.life ≡ false → AgreeOn k (Some r) → AgreeOn (ended_with w (given_on p heir k)) (Some (reparented p heir (made_zombie w r)))
unfolding made_zombie
agree_made p heir w NeverBorn r word lives h = h
agree_made p heir w (Lives a) r word lives h = record {
  life = life_reparented p heir (made_zombie w r);
  parent = parent_reparented p heir (made_zombie w r) ∙ ap (moved_from p heir) h.parent;
  reported = refl;
  news = λ other. news_reparented p heir (made_zombie w r);
  word = word;
}
agree_made p heir w (Died d) r word lives h = let no : true ≡ false = sym (ap is_zombie h.life) ∙ lives in absurd (cc)

pub departed : (s : State) (p heir w c : ℕ) → process (leave_children_and_die s p heir w) c ≡ option_map (reparented p heir) (cond (c == p) (option_map (made_zombie w) (process s c)) (process s c))
unfolding adopted made_zombie
departed s p heir w c = lookup_map (reparented p heir) (pid_reparented p heir) c (changed p (made_zombie w) s.processes) ∙ ap (option_map (reparented p heir)) (lookup_changed p c (made_zombie w) (λ r. refl) s.processes)

length_departed : (s : State) (p heir w : ℕ) → length (leave_children_and_die s p heir w).processes ≡ length s.processes
unfolding adopted
length_departed s p heir w = length-map (changed p (made_zombie w) s.processes) (reparented p heir) ∙ length_changed p (made_zombie w) s.processes

-- a living process is an ancestor as it is kept
forebear_agrees : (k : Kept) (o : Option Process) → AgreeOn k o → forebear_kept k ≡ option_and_then forebear_of o
forebear_agrees NeverBorn None h = refl
forebear_agrees NeverBorn (Some r) h = absurd (h)
forebear_agrees (Lives a) None h = absurd (h)
forebear_agrees (Lives a) (Some r) h = rw (h.living, h.mark, h.parent) refl
forebear_agrees (Died d) None h = refl
forebear_agrees (Died d) (Some r) h = rw h.life refl

-- so the records have the heir that the lines say
heir_agrees : {phase : Phase} (lines : List Line) (k : ℕ) (s : State) (p : ℕ) → AgreeIn phase lines k s → heir_of (kept_of lines) p ≡ heir_in s.processes p
heir_agrees lines k s p h = ap (λ (living : ℕ → Option Forebear). heir_among living p) (fun_ext (λ q. forebear_agrees (kept_of lines q) (process s q) (h.records q)))

-- the end of a process other than process 1
pub agree_ended : (lines : List Line) (k : ℕ) (s : State) (p w : ℕ) → AgreeIn Going lines k s → IsLiving s p → p ≢ 1 → is_end_word w ≡ true
    → AgreeIn Going (lines ++ line k (Ended p w) ∷ []) k (leave_children_and_die s p (heir_in s.processes p) w)
unfolding made_by
agree_ended lines k s p w h me other word =
    let kept = kept_of lines in
    let heir = heir_in s.processes p in
    let going : phase_after (Ended p w) ≡ Going = rw (ne_eqb p 1 other) refl in
    subst (λ phase. AgreeIn phase (lines ++ line k (Ended p w) ∷ []) k (leave_children_and_die s p heir w)) going (agree_says Going lines k (Ended p w) s (leave_children_and_die s p heir w) h (record {
      place = may_say kept p (Ended p w) (in_life Going lines k s p h me) refl;
      birth = refl;
      report = refl;
      records = λ c. subst (λ (n : ℕ). AgreeOn (made_by n (Ended p w) c (kept c)) (process (leave_children_and_die s p heir w) c)) (sym (heir_agrees lines k s p h))
          (subst (AgreeOn (made_by heir (Ended p w) c (kept c))) (sym (departed s p heir w c)) (one heir c (p == c) refl));
      births = omega arith;
      total = let l = length_departed s p heir w in omega (arith, l);
    }))
  where
    one : (heir c : ℕ) (b : Bool) → (p == c) ≡ b
        → AgreeOn (cond b (ended_with w (given_on p heir (kept_of lines c))) (given_on p heir (kept_of lines c))) (option_map (reparented p heir) (cond (c == p) (option_map (made_zombie w) (process s c)) (process s c)))
    one heir c true t =
        let same : p ≡ c = eqb-true p c t in
        let there : process s c ≡ Some me.what = ap (process s) (sym same) ∙ me.found in
        rw (eq-eqb c p (sym same), there) (agree_made p heir w (kept_of lines c) me.what word me.lives (subst (AgreeOn (kept_of lines c)) there (h.records c)))
    one heir c false t = rw (ne_eqb c p (λ e. eqb-false p c t (sym e))) (agree_given p heir (kept_of lines c) (process s c) (h.records c))

-- a line that changes one process, and what is kept of its number
changed_agree : (lines : List Line) (s : State) (p : ℕ) (g : Kept → Kept) (x : Process → Process) (me : Process) → lookup p s.processes ≡ Some me
    → ((r : Process) → (x r).pid ≡ r.pid) → (AgreeOn (kept_of lines p) (Some me) → AgreeOn (g (kept_of lines p)) (Some (x me))) → ((c : ℕ) → AgreeOn (kept_of lines c) (process s c))
    → (c : ℕ) (b : Bool) → (p == c) ≡ b → AgreeOn (cond b (g (kept_of lines c)) (kept_of lines c)) (lookup c (changed p x s.processes))
changed_agree lines s p g x me found pid told records c true t =
    subst (λ n. AgreeOn (g (kept_of lines n)) (lookup n (changed p x s.processes))) (eqb-true p c t)
    (rw (lookup_changed p p x pid s.processes, eq-eqb p p refl, found) (told (subst (AgreeOn (kept_of lines p)) found (records p))))
changed_agree lines s p g x me found pid told records c false t = rw (lookup_changed p c x pid s.processes, ne_eqb c p (λ e. eqb-false p c t (sym e))) (records c)

-- ---- a halt

moved_same : (parent : ℕ) → moved_from 1 1 parent ≡ parent
moved_same parent = elim (parent == 1) as (λ b. (parent == 1) ≡ b → cond b 1 parent ≡ parent) [ true ↦ λ t. sym (eqb-true parent 1 t) | false ↦ λ t. refl ] refl

given_same : (k : Kept) → given_on 1 1 k ≡ k
given_same NeverBorn = refl
given_same (Lives a) = ap (λ n. Lives (record a { parent = n })) (moved_same a.parent)
given_same (Died d) = ap (λ n. Died (record d { parent = n })) (moved_same d.parent)

agree_first : (w : ℕ) (k : Kept) (r : Process) → r.pid ≡ 1 → is_end_word w ≡ true → is_zombie r.life ≡ false → AgreeOn k (Some r) → AgreeOn (ended_with w k) (Some (ended w r))
unfolding ended
agree_first w NeverBorn r one word lives h = h
agree_first w (Lives a) r one word lives h = record { life = refl; parent = h.parent; reported = refl; news = λ other. absurd (other one); word = word }
agree_first w (Died d) r one word lives h = let no : true ≡ false = sym (ap is_zombie h.life) ∙ lives in absurd (cc)

-- the end of process 1, and the halt
pub agree_halted : (lines : List Line) (k : ℕ) (s : State) (w : ℕ) → AgreeIn Going lines k s → IsLiving s 1 → is_end_word w ≡ true
    → AgreeIn Over ((lines ++ line k (Ended 1 w) ∷ []) ++ line k Halted ∷ []) k (halt s w)
unfolding made_by ended
agree_halted lines k s w h me word =
    let kept = kept_of lines in
    let t = change s 1 (ended w) in
    let l = length_changed 1 (ended w) s.processes in
    let first : AgreeIn FirstEnded (lines ++ line k (Ended 1 w) ∷ []) k (halt s w) = agree_says Going lines k (Ended 1 w) s (halt s w) h (record {
      place = may_say kept 1 (Ended 1 w) (in_life Going lines k s 1 h me) refl;
      birth = refl;
      report = refl;
      records = λ c. rw (given_same (kept_of lines c)) (changed_agree lines s 1 (ended_with w) (ended w) me.what me.found (λ r. refl) (agree_first w (kept_of lines 1) me.what (pid_looked 1 s.processes me.what me.found) word me.lives) h.records c (1 == c) refl);
      births = omega arith;
      total = omega (arith, l);
    }) in
    agree_says FirstEnded (lines ++ line k (Ended 1 w) ∷ []) k Halted (halt s w) (halt s w) first (record { place = refl; birth = refl; report = refl; records = first.records; births = omega arith; total = refl })

-- ---- stops

agree_stops : (n : ℕ) (k : Kept) (r : Process) → is_stop_signal n ≡ true → is_zombie r.life ≡ false → AgreeOn k (Some r) → AgreeOn (after_stop n k) (Some (stopped_by n r))
unfolding stopped_by
agree_stops n NeverBorn r word lives h = h
agree_stops n (Lives a) r word lives h = record { living = refl; parent = h.parent; mark = h.mark; news = (refl, word); stopped = λ e. refl }
agree_stops n (Died d) r word lives h = let no : true ≡ false = sym (ap is_zombie h.life) ∙ lives in absurd (cc)

pub agree_stopped : (lines : List Line) (k : ℕ) (s : State) (p n : ℕ) → AgreeIn Going lines k s → IsLiving s p → is_stop_signal n ≡ true → AgreeIn Going (lines ++ line k (Stopped p n) ∷ []) k (change s p (stopped_by n))
unfolding made_by stopped_by
agree_stopped lines k s p n h me word =
    let kept = kept_of lines in
    let l = length_changed p (stopped_by n) s.processes in
    agree_says Going lines k (Stopped p n) s (change s p (stopped_by n)) h (record {
      place = may_say kept p (Stopped p n) (in_life Going lines k s p h me) refl;
      birth = refl;
      report = refl;
      records = λ c. changed_agree lines s p (after_stop n) (stopped_by n) me.what me.found (λ r. refl) (agree_stops n (kept_of lines p) me.what word me.lives) h.records c (p == c) refl;
      births = omega arith;
      total = omega (arith, l);
    })

-- ---- marks

agree_marks : (mark : Bool) (k : Kept) (r : Process) → is_zombie r.life ≡ false → AgreeOn k (Some r) → AgreeOn (after_mark mark k) (Some (marked_as mark r))
unfolding marked_as finished
agree_marks mark NeverBorn r lives h = h
agree_marks mark (Lives a) r lives h = record { living = h.living; parent = h.parent; mark = refl; news = h.news; stopped = h.stopped }
agree_marks mark (Died d) r lives h = let no : true ≡ false = sym (ap is_zombie h.life) ∙ lives in absurd (cc)

-- a process becomes a subreaper, or is none any more
pub agree_marked : (lines : List Line) (k : ℕ) (s : State) (p : ℕ) (mark : Bool) → AgreeIn Going lines k s → IsLiving s p → AgreeIn Going (lines ++ line k (Marked p mark) ∷ []) k (change s p (marked_as mark))
unfolding made_by marked_as finished
agree_marked lines k s p mark h me =
    let kept = kept_of lines in
    let l = length_changed p (marked_as mark) s.processes in
    agree_says Going lines k (Marked p mark) s (change s p (marked_as mark)) h (record {
      place = may_say kept p (Marked p mark) (in_life Going lines k s p h me) refl;
      birth = refl;
      report = refl;
      records = λ c. changed_agree lines s p (after_mark mark) (marked_as mark) me.what me.found (λ r. refl) (agree_marks mark (kept_of lines p) me.what me.lives) h.records c (p == c) refl;
      births = omega arith;
      total = omega (arith, l);
    })

-- ---- reports

-- the tests of a report of an end
pub end_passes : (p w : ℕ) (k : Kept) (r : Process) → r.life ≡ Zombie w → r.parent ≡ p → AgreeOn k (Some r) → word_fault p w k ≡ None
end_passes p w NeverBorn r life parent h = absurd (h)
end_passes p w (Lives a) r life parent h = let no : true ≡ false = sym (ap is_zombie life) ∙ h.living in absurd (cc)
end_passes p w (Died d) r life parent h =
    let status : d.status ≡ w = let both = sym h.life ∙ life in cc in
    let word : is_end_word w ≡ true = ap is_end_word (sym status) ∙ h.word in
    let mine : (d.parent == p) ≡ true = eq-eqb d.parent p (sym h.parent ∙ parent) in
    let same : (d.status == w) ≡ true = eq-eqb d.status w status in
    rw (mine, word, h.reported, same) refl

end_worded : (w : ℕ) (k : Kept) (r : Process) → r.life ≡ Zombie w → AgreeOn k (Some r) → is_end_word w ≡ true
end_worded w NeverBorn r life h = absurd (h)
end_worded w (Lives a) r life h = let no : true ≡ false = sym (ap is_zombie life) ∙ h.living in absurd (cc)
end_worded w (Died d) r life h = let status : d.status ≡ w = let both = sym h.life ∙ life in cc in ap is_end_word (sym status) ∙ h.word

none_dead : (w : ℕ) (k : Kept) (r : Process) → r.life ≡ Zombie w → AgreeOn k (Some r) → AgreeOn (after_report w k) None
none_dead w NeverBorn r life h = absurd (h)
none_dead w (Lives a) r life h = let no : true ≡ false = sym (ap is_zombie life) ∙ h.living in absurd (cc)
none_dead w (Died d) r life h = tt

-- a wait reports that a child ended, and its record goes
pub agree_reaped : (lines : List Line) (k : ℕ) (s : State) (p : ℕ) (call : WaitCall) (c w : ℕ) (r : Process) → AgreeIn Going lines k s → IsLiving s p → IsRising s.processes → lookup c s.processes ≡ Some r → r.parent ≡ p → r.life ≡ Zombie w
    → AgreeIn Going (lines ++ line k (Reported p call c w) ∷ []) k (record s { processes = removed c s.processes })
unfolding made_by
agree_reaped lines k s p call c w r h me up found parent life =
    let kept = kept_of lines in
    let agrees : AgreeOn (kept c) (Some r) = subst (AgreeOn (kept c)) found (h.records c) in
    let word = end_worded w (kept c) r life agrees in
    agree_says Going lines k (Reported p call c w) s (record s { processes = removed c s.processes }) h (record {
      place = may_say kept p (Reported p call c w) (in_life Going lines k s p h me) refl;
      birth = refl;
      report = end_passes p w (kept c) r life parent agrees;
      records = λ q. one agrees q (c == q) refl;
      births = omega arith;
      total = let less = one_removed c r s.processes up found in let tells = end_tells w word in rw tells (omega (arith, less));
    })
  where
    one : AgreeOn (kept_of lines c) (Some r) → (q : ℕ) (b : Bool) → (c == q) ≡ b → AgreeOn (cond b (after_report w (kept_of lines q)) (kept_of lines q)) (lookup q (removed c s.processes))
    one agrees q true t =
        let same : c ≡ q = eqb-true c q t in
        subst (λ n. AgreeOn (after_report w (kept_of lines n)) (lookup n (removed c s.processes))) same (subst (AgreeOn (after_report w (kept_of lines c))) (sym (lookup_removed c s.processes)) (none_dead w (kept_of lines c) r life agrees))
    one agrees q false t = subst (AgreeOn (kept_of lines q)) (sym (lookup_kept c q s.processes (λ e. eqb-false c q t (sym e)))) (h.records q)

-- ---- news

-- what a report of a stop or a continue comes to
pub record ToldAs (p w : ℕ) (k : Kept) (r : Process) : Type 0 where
  pub passes : word_fault p w k ≡ None
  pub after : AgreeOn (after_report w k) (Some (news_told r))
  pub tells : tells_end w ≡ false

-- who never stopped has no stop or continue to report
abbrev IsSound : Kept → Type 0
IsSound NeverBorn = Unit {0}
IsSound (Lives a) = a.has_stopped ≡ false → (a.stop ≡ None) × (a.may_continue ≡ false)
IsSound (Died d) = Unit {0}

sound_kept : (lines : List Line) (c : ℕ) → IsSound (kept_of lines c)
unfolding kept_of
sound_kept lines c = of (newest_life lines c)
  where
    stop : (parent : ℕ) (mark : Bool) (o : Option (LastOf Line)) → IsSound (Lives (alive_since parent mark c o))
    stop parent mark None = λ e. (refl, refl)
    stop parent mark (Some found) = λ e. absurd (cc)

    since : (parent : ℕ) (ls : List Line) (o : Option EndOf) → IsSound (kept_since c parent ls o)
    since parent ls None = stop parent (has_mark c ls) (last_stop c ls)
    since parent ls (Some e) = tt

    of : (o : Option LifeSoFar) → IsSound (kept_of_life lines c o)
    of None = tt
    of (Some x) = since (parent_of lines c) x.since (the_end c x.since)

stop_told : (p s : ℕ) (k : Kept) (r : Process) → IsSound k → is_zombie r.life ≡ false → r.parent ≡ p → r.news ≡ news.StoppedBy s → AgreeOn k (Some r) → ToldAs p (stopped s) k r
unfolding news_told
stop_told p s NeverBorn r sound lives parent is h = absurd (h)
stop_told p s (Lives a) r sound lives parent is h =
    let n : (a.stop ≡ Some s) × (is_stop_signal s ≡ true) = subst (NewsAgree a (is_stopped r.life)) is h.news in
    let w = stop_word s n.1 in
    let mine : (a.parent == p) ≡ true = eq-eqb a.parent p (sym h.parent ∙ parent) in
    record {
      passes =
          let stops = true_from_ne_false a.has_stopped (λ t. let none : Some s ≡ None = sym n.0 ∙ (sound t).0 in cc) in
          let same : (s == stopped s / 256) ≡ true = eq-eqb s _ (sym w.signal) in
          rw (mine, w.end, w.stop, stops, n.0, same) refl;
      after = record { living = h.living; parent = h.parent; mark = h.mark; news = tt; stopped = λ e. rw w.continue (and-true a.may_continue ∙ h.stopped e) };
      tells = w.tells;
    }
stop_told p s (Died d) r sound lives parent is h = let no : true ≡ false = sym (ap is_zombie h.life) ∙ lives in absurd (cc)

continue_told : (p : ℕ) (k : Kept) (r : Process) → IsSound k → is_zombie r.life ≡ false → r.parent ≡ p → r.news ≡ news.Continued → AgreeOn k (Some r) → ToldAs p continued k r
unfolding news_told
continue_told p NeverBorn r sound lives parent is h = absurd (h)
continue_told p (Lives a) r sound lives parent is h =
    let n : (a.may_continue ≡ true) × (is_stopped r.life ≡ false) = subst (NewsAgree a (is_stopped r.life)) is h.news in
    let mine : (a.parent == p) ≡ true = eq-eqb a.parent p (sym h.parent ∙ parent) in
    record {
      passes = let stops = true_from_ne_false a.has_stopped (λ t. let no : true ≡ false = sym n.0 ∙ (sound t).1 in cc) in rw (mine, stops, n.0) refl;
      after = record { living = h.living; parent = h.parent; mark = h.mark; news = tt; stopped = λ e. let no = sym n.1 ∙ e in absurd (cc) };
      tells = refl;
    }
continue_told p (Died d) r sound lives parent is h = let no : true ≡ false = sym (ap is_zombie h.life) ∙ lives in absurd (cc)

-- a wait reports a child's news, which are none from then on
pub agree_news : (lines : List Line) (k : ℕ) (s : State) (p : ℕ) (call : WaitCall) (c w : ℕ) (r : Process) → AgreeIn Going lines k s → IsLiving s p → lookup c s.processes ≡ Some r → ToldAs p w (kept_of lines c) r
    → AgreeIn Going (lines ++ line k (Reported p call c w) ∷ []) k (change s c news_told)
unfolding made_by news_told
agree_news lines k s p call c w r h me found told =
    let kept = kept_of lines in
    let l = length_changed c news_told s.processes in
    agree_says Going lines k (Reported p call c w) s (change s c news_told) h (record {
      place = may_say kept p (Reported p call c w) (in_life Going lines k s p h me) refl;
      birth = refl;
      report = told.passes;
      records = λ q. changed_agree lines s c (after_report w) news_told r found (λ r. refl) (λ agrees. told.after) h.records q (c == q) refl;
      births = omega arith;
      total = rw told.tells (omega (arith, l));
    })

-- news that a living child has tell of its last stop, or of its continue
pub news_are_told : (lines : List Line) (p c w : ℕ) (r : Process) → AgreeOn (kept_of lines c) (Some r) → r.parent ≡ p → is_zombie r.life ≡ false → IsNewsOf r w → ToldAs p w (kept_of lines c) r
news_are_told lines p c w r agrees parent lives (inl x) = subst (λ v. ToldAs p v (kept_of lines c) r) (sym x.2) (stop_told p x.0 (kept_of lines c) r (sound_kept lines c) lives parent x.1 agrees)
news_are_told lines p c w r agrees parent lives (inr x) = subst (λ v. ToldAs p v (kept_of lines c) r) (sym x.1) (continue_told p (kept_of lines c) r (sound_kept lines c) lives parent x.0 agrees)

-- ---- looks

-- A look tells what a report would, and changes nothing.
pub agree_look : (lines : List Line) (k : ℕ) (s : State) (p c w : ℕ) → AgreeIn Going lines k s → IsLiving s p → word_fault p w (kept_of lines c) ≡ None → AgreeIn Going (lines ++ line k (Looked p c w) ∷ []) k s
unfolding made_by
agree_look lines k s p c w h me passes =
    agree_says Going lines k (Looked p c w) s s h (record {
      place = may_say (kept_of lines) p (Looked p c w) (in_life Going lines k s p h me) refl;
      birth = refl;
      report = passes;
      records = h.records;
      births = omega arith;
      total = omega arith;
    })

-- ---- births

pub pid_child : (birth : ℕ) (me : Process) (n : ℕ) → (child_of birth me n).pid ≡ n
unfolding child_of finished
pid_child birth me n = refl

pub life_child : (birth : ℕ) (me : Process) (n : ℕ) → is_stopped (child_of birth me n).life ≡ is_stopped me.life
unfolding child_of finished
life_child birth me n = refl

-- who runs lives
pub running_lives : (l : Life) → is_running l ≡ true → is_zombie l ≡ false
running_lives Running r = refl
running_lives l r = absurd (cc)

-- a child of who runs
agree_child : (birth : ℕ) (me : Process) (n : ℕ) → is_running me.life ≡ true → AgreeOn (newborn me.pid) (Some (child_of birth me n))
unfolding child_of finished
agree_child birth me n runs = record { living = running_lives me.life runs; parent = refl; mark = refl; news = tt; stopped = λ e. absurd (runs_on me.life runs e) }

-- a birth
pub agree_born : (lines : List Line) (k : ℕ) (s : State) (me : Process) (n : ℕ) → AgreeIn Going lines k s → IsLiving s me.pid → is_running me.life ≡ true → 1 ≤ n → lookup n s.processes ≡ None
    → AgreeIn Going (lines ++ line k (Called me.pid Fork (pos n)) ∷ []) k (born s me n)
unfolding made_by
agree_born lines k s me zero h living runs least fresh = absurd (omega (arith, least))
agree_born lines k s me (suc m) h living runs least fresh =
    let kept = kept_of lines in
    let e = Called me.pid Fork (pos (suc m)) in
    let child = child_of (s.births + 1) me (suc m) in
    let named : child.pid ≡ suc m = pid_child (s.births + 1) me (suc m) in
    let l = length_inserted child s.processes in
    agree_says Going lines k e s (born s me (suc m)) h (record {
      place = may_say kept me.pid e (in_life Going lines k s me.pid h living) refl;
      birth = rw (free_kept (kept (suc m)) (subst (AgreeOn (kept (suc m))) fresh (h.records (suc m)))) refl;
      report = refl;
      records = λ q. one named q (suc m == q) refl;
      births = refl;
      total = omega (arith, l);
    })
  where
    one : (child_of (s.births + 1) me (suc m)).pid ≡ suc m → (q : ℕ) (b : Bool) → (suc m == q) ≡ b → AgreeOn (cond b (newborn me.pid) (kept_of lines q)) (lookup q (inserted (child_of (s.births + 1) me (suc m)) s.processes))
    one named q true t =
        let child = child_of (s.births + 1) me (suc m) in
        let same : child.pid ≡ q = named ∙ eqb-true (suc m) q t in
        subst (AgreeOn (newborn me.pid)) (sym (ap (λ n. lookup n (inserted child s.processes)) (sym same) ∙ lookup_new child s.processes (ap (λ n. lookup n s.processes) named ∙ fresh))) (agree_child (s.births + 1) me (suc m) runs)
    one named q false t =
        subst (AgreeOn (kept_of lines q)) (sym (lookup_inserted (child_of (s.births + 1) me (suc m)) q s.processes (λ e. eqb-false (suc m) q t (sym (e ∙ named))))) (h.records q)
