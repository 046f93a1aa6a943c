-- What the laws of a trace say of its lines.
use Rattle.std.proofs.Common.{◌≡◌, ◌≤◌, ◌<◌, inl, inr, ℕ, ◌%◌, ◌/◌, Bool, true, false, cond, ◌&&◌, ◌||◌, not, ◌==◌, List, [], ◌∷◌, ◌++◌, append_assoc, append-nil, Option, Some, None, is_some, is_none, refl, ap, sym, ◌∙◌, arith, subst}
use Rattle.std.specs.List.{list_any}
use Rattle.std.proofs.lemmas.Bool.{cases_Bool, eqb-true, eq-eqb, and_parts, or_parts, leb-true, ltb-true, not-true, true_from_ne_false, false_from_ne_true}
use Rattle.std.proofs.lemmas.List.Folds.{list_any-append}
use Rattle.std.proofs.lemmas.Option.{cond_some}
use Rattle.posix.specs.declared.entry.Entry.{Entry}
use Rattle.posix.specs.declared.entry.Entry.TheVariants.{Reported, Looked, Stopped, Ended}
use Rattle.posix.specs.declared.waits.WaitCall.{WaitCall}
use Rattle.posix.specs.Common.{continued, is_end_word, is_stopped_word, is_continued_word, Line, line, process_of}
use Rattle.posix.proofs.ResultLemmas.{there}
use Rattle.laws.specs.Lives.{LastOf, last_where, or_this, LifeSoFar, life_after, newest_life, EndOf, the_end, or_later, parent_of, parent_in, parent_in_life, end_in, reports_in, reports, reports_or_looks_in, reports_or_looks, begins, born_by, is_just, is_change_word, none_or, is_halt, is_due, is_due_to, end_report, is_living, Everywhere, Laws, numbers_rise, within_life, begins_apart, report_law, reports_due, halts_last, last_line, was_halt, ends_first, number_from, ends, stops, stop_in, last_stop, stop_report, continue_report, has_ended, IsOfEnd, IsOfStop, IsTold}
use Rattle.laws.specs.Keeping.{Dead, Kept, NeverBorn, Lives, Died, kept_of, made_by, heir_told, lives_now, word_fault, report_fault}
use Rattle.laws.proofs.KeptLemmas.{last_where_more, told_is_kept, unborn_stays, begun, kept_more}
use Rattle.laws.proofs.TestLemmas.{living_kept, report_tested}
use Rattle.laws.proofs.LawfulLemmas.{everywhere_at, laws_first}
use Rattle.laws.proofs.StatusLemmas.{end_tells}

-- ---- what is kept, line by line

-- what is kept after one line more
pub kept_next : (before : List Line) (l : Line) (c : ℕ) → made_by (heir_told (kept_of before) l.entry) l.entry c (kept_of before c) ≡ kept_of (before ++ l ∷ []) c
kept_next before l c = sym (kept_more before l c)

-- what stays at each line that fails a test stays over lines that all do
kept_through : (P : Kept → Type 0) (c : ℕ) (t : Line → Bool) → ((heir : ℕ) (l : Line) (k : Kept) → t l ≡ false → P k → P (made_by heir l.entry c k))
    → (before between : List Line) → list_any t between ≡ false → P (kept_of before c) → P (kept_of (before ++ between) c)
kept_through P c t stays before [] none h = subst (λ ls. P (kept_of ls c)) (sym (append-nil before)) h
kept_through P c t stays before (l ∷ ls) none h =
    let both = or_parts (t l) (list_any t ls) none in
    let one : P (kept_of (before ++ l ∷ []) c) = subst P (kept_next before l c) (stays (heir_told (kept_of before) l.entry) l (kept_of before c) both.0 h) in
    subst (λ ls. P (kept_of ls c)) (append_assoc before (l ∷ []) ls) (kept_through P c t stays (before ++ l ∷ []) ls both.1 one)

-- What a line brings about, and what lines that fail a test leave, no later line denies: so one of them passes.
one_between : (P : Kept → Type 0) (c : ℕ) (t : Line → Bool) → ((heir : ℕ) (l : Line) (k : Kept) → t l ≡ false → P k → P (made_by heir l.entry c k))
    → (before between : List Line) (a : Line) → ((heir : ℕ) → P (made_by heir a.entry c (kept_of before c))) → (P (kept_of (before ++ a ∷ between) c) → ⊥) → list_any t between ≡ true
one_between P c t stays before between a first denied = true_from_ne_false (list_any t between) (λ none.
    denied (subst (λ ls. P (kept_of ls c)) (append_assoc before (a ∷ []) between) (kept_through P c t stays (before ++ a ∷ []) between none (subst P (kept_next before a c) (first (heir_told (kept_of before) a.entry))))))

-- ---- what a line says

ended_line : (c w : ℕ) (e : Entry) → end_in c e ≡ Some w → e ≡ Ended c w
ended_line c w (Ended p v) is = let both = cond_some (p == c) v w is in ap (λ n. Ended n v) (eqb-true p c both.0) ∙ ap (Ended c) both.1
ended_line c w e is = absurd (cc)

stopped_line : (c s : ℕ) (e : Entry) → stop_in c e ≡ Some s → e ≡ Stopped c s
stopped_line c s (Stopped p v) is = let both = cond_some (p == c) v s is in ap (λ n. Stopped n v) (eqb-true p c both.0) ∙ ap (Stopped c) both.1
stopped_line c s e is = absurd (cc)

just : (n : ℕ) (o : Option ℕ) → is_just n o ≡ true → o ≡ Some n
just n None h = absurd (cc)
just n (Some m) h = ap Some (eqb-true m n h)

-- ---- lives

-- an ended life stays one, until a birth
abbrev pub IsOver : Kept → Type 0
IsOver NeverBorn = ⊥
IsOver (Lives a) = ⊥
IsOver (Died d) = Unit {0}

over_stays : (heir : ℕ) (c : ℕ) (l : Line) (k : Kept) → begins c l ≡ false → IsOver k → IsOver (made_by heir l.entry c k)
over_stays heir c l NeverBorn none h = absurd (h)
over_stays heir c l (Lives a) none h = absurd (h)
over_stays heir c l (Died d) none h = subst IsOver (told_is_kept heir l.entry c (Died d) none) tt

-- its end makes a life one
pub over_made : (heir : ℕ) (c w : ℕ) (e : Entry) (k : Kept) → end_in c e ≡ Some w → lives_now k ≡ true → IsOver (made_by heir e c k)
over_made heir c w e NeverBorn is lives = absurd (cc)
over_made heir c w e (Died d) is lives = absurd (cc)
over_made heir c w e (Lives a) is lives = subst IsOver (told_is_kept heir e c (Lives a) (ap (λ x. is_just c (born_by x)) (ended_line c w e is))) (rw is tt)

pub over_dead : (k : Kept) → IsOver k → lives_now k ≡ false
over_dead NeverBorn h = absurd (h)
over_dead (Lives a) h = absurd (h)
over_dead (Died d) h = refl

-- a life that hasn't ended stays one, until its end
pub lives_stays : (heir : ℕ) (c : ℕ) (l : Line) (k : Kept) → ends c l ≡ false → lives_now k ≡ true → lives_now (made_by heir l.entry c k) ≡ true
lives_stays heir c l NeverBorn none h = absurd (cc)
lives_stays heir c l (Died d) none h = absurd (cc)
lives_stays heir c l (Lives a) none h = by (is_just c (born_by l.entry)) refl (end_in c l.entry) refl
  where
    by : (b : Bool) → is_just c (born_by l.entry) ≡ b → (o : Option ℕ) → end_in c l.entry ≡ o → lives_now (made_by heir l.entry c (Lives a)) ≡ true
    by true born o is = ap lives_now (sym (begun heir l.entry c (Lives a) born))
    by false born (Some w) is = let no = sym none ∙ ap is_some is in absurd (cc)
    by false born None is = subst (λ k. lives_now k ≡ true) (told_is_kept heir l.entry c (Lives a) born) (rw is refl)

-- ---- reports

-- an entry that reports c
record IsReport (c : ℕ) (test : ℕ → Bool) (e : Entry) : Type 0 where
  by : ℕ
  call : WaitCall
  word : ℕ
  is : e ≡ Reported by call c word
  passes : test word ≡ true

report_in : (c : ℕ) (test : ℕ → Bool) (e : Entry) → reports_in c test e ≡ true → IsReport c test e
report_in c test (Reported p call d w) h = let both = and_parts (d == c) (test w) h in record { by = p; call = call; word = w; is = ap (λ n. Reported p call n w) (eqb-true d c both.0); passes = both.1 }
report_in c test e h = absurd (cc)

-- a report of c is due
record IsDue (before : List Line) (c : ℕ) (test : ℕ → Bool) : Type 0 where
  by : ℕ
  word : ℕ
  passes : test word ≡ true
  due : is_none (word_fault by word (kept_of before c)) ≡ true

told_due : (before : List Line) (l : Line) (c : ℕ) (test : ℕ → Bool) → reports_due before l ≡ true → reports_or_looks c test l ≡ true → IsDue before c test
told_due before l c test due h = of l.entry (report_tested before l.entry ∙ due) h
  where
    told : (p d w : ℕ) → is_none (word_fault p w (kept_of before d)) ≡ true → (d == c && test w) ≡ true → IsDue before c test
    told p d w due h =
        let both = and_parts (d == c) (test w) h in
        record { by = p; word = w; passes = both.1; due = subst (λ n. is_none (word_fault p w (kept_of before n)) ≡ true) (eqb-true d c both.0) due }

    of : (e : Entry) → is_none (report_fault (kept_of before) e) ≡ true → reports_or_looks_in c test e ≡ true → IsDue before c test
    of (Reported p call d w) due h = told p d w due h
    of (Looked p d w) due h = told p d w due h
    of e due h = absurd (cc)

-- no test of a report fails
report_due : (before : List Line) (l : Line) (p : ℕ) (call : WaitCall) (c w : ℕ) → reports_due before l ≡ true → l.entry ≡ Reported p call c w → is_none (word_fault p w (kept_of before c)) ≡ true
report_due before l p call c w h is = subst (λ e. is_none (report_fault (kept_of before) e) ≡ true) is (report_tested before l.entry ∙ h)

-- an end that is reported is one of which no report came
record IsUnreported (p w : ℕ) (k : Kept) : Type 0 where
  dead : Dead
  is : k ≡ Died dead
  reported : dead.reported ≡ false

end_due : (p w : ℕ) (k : Kept) → is_end_word w ≡ true → is_none (word_fault p w k) ≡ true → IsUnreported p w k
end_due p w NeverBorn word h = absurd (cc)
end_due p w (Lives a) word h = absurd (grind (arith, cases_Bool, word, h))
end_due p w (Died d) word h = record { dead = d; is = refl; reported = grind (arith, cases_Bool, word, h) }

-- an end that was reported stays so, until a birth
abbrev IsReported : Kept → Type 0
IsReported NeverBorn = ⊥
IsReported (Lives a) = ⊥
IsReported (Died d) = d.reported ≡ true

reported_stays : (heir : ℕ) (c : ℕ) (l : Line) (k : Kept) → begins c l ≡ false → IsReported k → IsReported (made_by heir l.entry c k)
reported_stays heir c l NeverBorn none h = absurd (h)
reported_stays heir c l (Lives a) none h = absurd (h)
reported_stays heir c l (Died d) none h = subst IsReported (told_is_kept heir l.entry c (Died d) none) (rw h refl)

reported_made : (heir p : ℕ) (call : WaitCall) (c w : ℕ) (k : Kept) → is_end_word w ≡ true → IsUnreported p w k → IsReported (made_by heir (Reported p call c w) c k)
reported_made heir p call c w k word h = subst (λ k. IsReported (made_by heir (Reported p call c w) c k)) (sym h.is) (subst IsReported (told_is_kept heir (Reported p call c w) c (Died h.dead) refl) (rw (eq-eqb c c refl, word) (grind (arith, cases_Bool))))

reported_once : (p w : ℕ) (k : Kept) → IsReported k → IsUnreported p w k → ⊥
reported_once p w k h u = let told : u.dead.reported ≡ true = subst IsReported u.is h in let no : false ≡ true = sym u.reported ∙ told in cc

-- ---- stops and continues

-- the signal of the last stop, where no report of it came, nor of its continue
abbrev stop_left : Kept → Option ℕ
stop_left NeverBorn = None
stop_left (Lives a) = a.stop
stop_left (Died d) = None

-- whether a stop came, of whose continue no report did
abbrev continue_left : Kept → Bool
continue_left NeverBorn = false
continue_left (Lives a) = a.may_continue
continue_left (Died d) = false

-- none is left, and so it stays until a stop
stop_stays : (heir : ℕ) (c : ℕ) (l : Line) (k : Kept) → stops c l ≡ false → stop_left k ≡ None → stop_left (made_by heir l.entry c k) ≡ None
stop_stays heir c l k none h = by (is_just c (born_by l.entry)) refl k h (end_in c l.entry) refl
  where
    by : (b : Bool) → is_just c (born_by l.entry) ≡ b → (k : Kept) → stop_left k ≡ None → (o : Option ℕ) → end_in c l.entry ≡ o → stop_left (made_by heir l.entry c k) ≡ None
    by true born k h o is = ap stop_left (sym (begun heir l.entry c k born))
    by false born NeverBorn h o is = ap stop_left (unborn_stays heir l.entry c born)
    by false born (Died d) h o is = ap stop_left (sym (told_is_kept heir l.entry c (Died d) born))
    by false born (Lives a) h (Some w) is = ap stop_left (sym (told_is_kept heir l.entry c (Lives a) born)) ∙ rw is refl
    by false born (Lives a) h None is = ap stop_left (sym (told_is_kept heir l.entry c (Lives a) born)) ∙ rw (is, none) (grind (arith, cases_Bool, h))

continue_stays : (heir : ℕ) (c : ℕ) (l : Line) (k : Kept) → stops c l ≡ false → continue_left k ≡ false → continue_left (made_by heir l.entry c k) ≡ false
continue_stays heir c l k none h = by (is_just c (born_by l.entry)) refl k h (end_in c l.entry) refl
  where
    by : (b : Bool) → is_just c (born_by l.entry) ≡ b → (k : Kept) → continue_left k ≡ false → (o : Option ℕ) → end_in c l.entry ≡ o → continue_left (made_by heir l.entry c k) ≡ false
    by true born k h o is = ap continue_left (sym (begun heir l.entry c k born))
    by false born NeverBorn h o is = ap continue_left (unborn_stays heir l.entry c born)
    by false born (Died d) h o is = ap continue_left (sym (told_is_kept heir l.entry c (Died d) born))
    by false born (Lives a) h (Some w) is = ap continue_left (sym (told_is_kept heir l.entry c (Lives a) born)) ∙ rw is refl
    by false born (Lives a) h None is = ap continue_left (sym (told_is_kept heir l.entry c (Lives a) born)) ∙ rw (is, none, h) refl

-- a report of one leaves none
stop_told : (heir p : ℕ) (call : WaitCall) (c w : ℕ) (k : Kept) → is_change_word w ≡ true → stop_left (made_by heir (Reported p call c w) c k) ≡ None
unfolding made_by
stop_told heir p call c w NeverBorn word = rw (eq-eqb c c refl) refl
stop_told heir p call c w (Lives a) word = rw (eq-eqb c c refl, word) refl
stop_told heir p call c w (Died d) word = rw (eq-eqb c c refl) refl

continue_told : (heir p : ℕ) (call : WaitCall) (c w : ℕ) (k : Kept) → is_continued_word w ≡ true → continue_left (made_by heir (Reported p call c w) c k) ≡ false
unfolding made_by
continue_told heir p call c w NeverBorn word = rw (eq-eqb c c refl) refl
continue_told heir p call c w (Lives a) word = rw (eq-eqb c c refl, word) (grind (arith, cases_Bool))
continue_told heir p call c w (Died d) word = rw (eq-eqb c c refl) refl

-- the words are apart
stop_no_end : (w : ℕ) → is_stopped_word w ≡ true → is_end_word w ≡ false
stop_no_end w h = false_from_ne_true (is_end_word w) (λ e.
    let low : w % 256 < 127 = ltb-true (w % 256) 127 (end_tells w e) in
    let is : w % 256 ≡ 127 = eqb-true (w % 256) 127 (and_parts (w % 256 == 127) _ h).0 in
    absurd (omega (arith, low, is)))

-- where none is left none is due
stop_once : (p w : ℕ) (k : Kept) → is_stopped_word w ≡ true → stop_left k ≡ None → is_none (word_fault p w k) ≡ true → ⊥
stop_once p w NeverBorn word h due = cc
stop_once p w (Died d) word h due = let end = stop_no_end w word in grind (arith, cases_Bool, end, word, due)
stop_once p w (Lives a) word h due = grind (arith, cases_Bool, word, h, due)

continue_once : (p w : ℕ) (k : Kept) → is_continued_word w ≡ true → continue_left k ≡ false → is_none (word_fault p w k) ≡ true → ⊥
continue_once p w k word h due = all k h (subst (λ v. is_none (word_fault p v k) ≡ true) (eqb-true w continued word) due)
  where
    all : (k : Kept) → continue_left k ≡ false → is_none (word_fault p continued k) ≡ true → ⊥
    all NeverBorn h due = cc
    all (Lives a) h due = grind (arith, cases_Bool, h, due)
    all (Died d) h due = grind (arith, cases_Bool, due)

-- ---- the laws, in words of lines

-- After its report no end is reported or looked at.
pub no_end_twice : (before between after : List Line) (a b : Line) (c : ℕ) → Laws (before ++ a ∷ between ++ b ∷ after)
    → reports c is_end_word a ≡ true → reports_or_looks c is_end_word b ≡ true → list_any (begins c) between ≡ true
no_end_twice before between after a b c h first second =
    let x = report_in c is_end_word a.entry first in
    let y = told_due (before ++ a ∷ between) b c is_end_word (everywhere_at reports_due (before ++ a ∷ between) b after h.reports) second in
    let one = end_due x.by x.word (kept_of before c) x.passes (report_due before a x.by x.call c x.word (everywhere_at reports_due before a between (laws_first (before ++ a ∷ between) (b ∷ after) h).reports) x.is) in
    let two = end_due y.by y.word (kept_of (before ++ a ∷ between) c) y.passes y.due in
    one_between IsReported c (begins c) (λ heir. reported_stays heir c) before between a (λ heir. subst (λ e. IsReported (made_by heir e c (kept_of before c))) (sym x.is) (reported_made heir x.by x.call c x.word (kept_of before c) x.passes one))
    (λ reported. reported_once y.by y.word (kept_of (before ++ a ∷ between) c) reported two)

-- Nor is a stop after its report or that of its continue.
pub no_stop_twice : (before between after : List Line) (a b : Line) (c : ℕ) → Laws (before ++ a ∷ between ++ b ∷ after)
    → reports c is_change_word a ≡ true → reports_or_looks c is_stopped_word b ≡ true → list_any (stops c) between ≡ true
no_stop_twice before between after a b c h first second =
    let x = report_in c is_change_word a.entry first in
    let y = told_due (before ++ a ∷ between) b c is_stopped_word (everywhere_at reports_due (before ++ a ∷ between) b after h.reports) second in
    one_between (λ k. stop_left k ≡ None) c (stops c) (λ heir. stop_stays heir c) before between a (λ heir. subst (λ e. stop_left (made_by heir e c (kept_of before c)) ≡ None) (sym x.is) (stop_told heir x.by x.call c x.word (kept_of before c) x.passes))
    (λ none. stop_once y.by y.word (kept_of (before ++ a ∷ between) c) y.passes none y.due)

-- Nor is a continue after its report.
pub no_continue_twice : (before between after : List Line) (a b : Line) (c : ℕ) → Laws (before ++ a ∷ between ++ b ∷ after)
    → reports c is_continued_word a ≡ true → reports_or_looks c is_continued_word b ≡ true → list_any (stops c) between ≡ true
no_continue_twice before between after a b c h first second =
    let x = report_in c is_continued_word a.entry first in
    let y = told_due (before ++ a ∷ between) b c is_continued_word (everywhere_at reports_due (before ++ a ∷ between) b after h.reports) second in
    one_between (λ k. continue_left k ≡ false) c (stops c) (λ heir. continue_stays heir c) before between a
    (λ heir. subst (λ e. continue_left (made_by heir e c (kept_of before c)) ≡ false) (sym x.is) (continue_told heir x.by x.call c x.word (kept_of before c) x.passes))
    (λ none. continue_once y.by y.word (kept_of (before ++ a ∷ between) c) y.passes none y.due)

-- A line of a process is within its life.
pub stands_in_life : (before after : List Line) (l : Line) (c : ℕ) → Laws (before ++ l ∷ after) → process_of l.entry ≡ Some c → is_living before c ≡ true
stands_in_life before after l c h is = subst (λ o. none_or (is_living before) o ≡ true) is (everywhere_at within_life before l after h.lives)

-- Who is born doesn't live.
pub born_dead : (before after : List Line) (l : Line) (c : ℕ) → Laws (before ++ l ∷ after) → born_by l.entry ≡ Some c → is_living before c ≡ false
born_dead before after l c h is = not-true (is_living before c) (subst (λ o. none_or (λ n. not (is_living before n)) o ≡ true) is (everywhere_at begins_apart before l after h.births))

-- After its end a process has no line, until a birth.
pub nothing_after_end : (before between after : List Line) (a b : Line) (c : ℕ) → Laws (before ++ a ∷ between ++ b ∷ after)
    → ends c a ≡ true → process_of b.entry ≡ Some c → list_any (begins c) between ≡ true
nothing_after_end before between after a b c h ended mine = by (end_in c a.entry) refl
  where
    by : (o : Option ℕ) → end_in c a.entry ≡ o → list_any (begins c) between ≡ true
    by None is = let no = sym (ap is_some is) ∙ ended in absurd (cc)
    by (Some w) is =
        let lived = living_kept before c ∙ stands_in_life before between a c (laws_first (before ++ a ∷ between) (b ∷ after) h) (ap process_of (ended_line c w a.entry is)) in
        let lives = living_kept (before ++ a ∷ between) c ∙ stands_in_life (before ++ a ∷ between) after b c h mine in
        one_between IsOver c (begins c) (λ heir. over_stays heir c) before between a (λ heir. over_made heir c w a.entry (kept_of before c) is lived)
        (λ over. let no = sym lives ∙ over_dead (kept_of (before ++ a ∷ between) c) over in cc)

-- Between two births of one number that process ends.
pub lives_apart : (before between after : List Line) (a b : Line) (c : ℕ) → Laws (before ++ a ∷ between ++ b ∷ after)
    → begins c a ≡ true → begins c b ≡ true → list_any (ends c) between ≡ true
lives_apart before between after a b c h first second =
    one_between (λ k. lives_now k ≡ true) c (ends c) (λ heir. lives_stays heir c) before between a (λ heir. ap lives_now (sym (begun heir a.entry c (kept_of before c) first)))
    (λ lives. let dead = living_kept (before ++ a ∷ between) c ∙ born_dead (before ++ a ∷ between) after b c h (just c (born_by b.entry) second) in let no = sym dead ∙ lives in cc)

-- ---- numbers of events

next_rises : (before after : List Line) (a b : Line) → Everywhere numbers_rise (before ++ a ∷ [] ++ b ∷ after) → a.event ≤ b.event
next_rises before after a b h = leb-true a.event b.event (subst (λ o. number_from o b.event ≡ true) (last_where_more (λ l. true) before a) (everywhere_at numbers_rise (before ++ a ∷ []) b after h))

rises : (before between after : List Line) (a b : Line) → Everywhere numbers_rise (before ++ a ∷ between ++ b ∷ after) → a.event ≤ b.event
rises before [] after a b h = next_rises before after a b h
rises before (l ∷ ls) after a b h =
    let first = next_rises before (ls ++ b ∷ after) a l (subst (Everywhere numbers_rise) (append_assoc before (a ∷ l ∷ ls) (b ∷ after) ∙ sym (append_assoc before (a ∷ []) (l ∷ ls ++ b ∷ after))) h) in
    let rest = rises (before ++ a ∷ []) ls after l b (subst (Everywhere numbers_rise) (ap (λ xs. xs ++ b ∷ after) (sym (append_assoc before (a ∷ []) (l ∷ ls)))) h) in
    omega (arith, first, rest)

-- Numbers of events don't fall.
pub numbers_never_fall : (before between after : List Line) (a b : Line) → Laws (before ++ a ∷ between ++ b ∷ after) → a.event ≤ b.event
numbers_never_fall before between after a b h = rises before between after a b h.numbers

-- ---- the halt

-- `halt` comes right after the end of process 1, and nothing after it.
pub halt_is_last : (before after : List Line) (l : Line) → Laws (before ++ l ∷ after) → is_halt l.entry ≡ true → (ends_first (last_line before) ≡ true) × (after ≡ [])
halt_is_last before after l h halts = (let law = everywhere_at halts_last before l after h.halts in grind (arith, cases_Bool, halts, law), rest after h.halts)
  where
    rest : (after : List Line) → Everywhere halts_last (before ++ l ∷ after) → after ≡ []
    rest [] h = refl
    rest (x ∷ xs) h =
        let was : was_halt (last_line (before ++ l ∷ [])) ≡ true = ap was_halt (last_where_more (λ l. true) before l) ∙ halts in
        let law = everywhere_at halts_last (before ++ l ∷ []) x xs (subst (Everywhere halts_last) (sym (append_assoc before (l ∷ []) (x ∷ xs))) h) in
        absurd (grind (arith, cases_Bool, was, law))

-- After the end of process 1 comes `halt`, if anything does.
pub first_end_halts : (before after : List Line) (a b : Line) → Laws (before ++ a ∷ b ∷ after) → ends 1 a ≡ true → is_halt b.entry ≡ true
first_end_halts before after a b h ended =
    let first : ends_first (last_line (before ++ a ∷ [])) ≡ true = ap ends_first (last_where_more (λ l. true) before a) ∙ ended in
    let law = everywhere_at halts_last (before ++ a ∷ []) b after (subst (Everywhere halts_last) (sym (append_assoc before (a ∷ []) (b ∷ after))) h.halts) in
    grind (arith, cases_Bool, first, law)

-- ---- whose end is reported

-- the place of the last line that passes
record IsLast (test : Line → Bool) (xs : List Line) (f : LastOf Line) : Type 0 where
  earlier : List Line
  split : xs ≡ earlier ++ f.it ∷ f.after
  passes : test f.it ≡ true
  none : list_any test f.after ≡ false

none_last : (test : Line → Bool) (xs : List Line) → last_where test xs ≡ None → list_any test xs ≡ false
none_last test [] h = refl
none_last test (x ∷ xs) h = grind (arith, cases_Bool, none_last test xs, h)

is_last : (test : Line → Bool) (xs : List Line) (f : LastOf Line) → last_where test xs ≡ Some f → IsLast test xs f
is_last test [] f h = absurd (cc)
is_last test (x ∷ xs) f h = of (last_where test xs) refl (test x) refl h (is_last test xs f)
  where
    of : (o : Option (LastOf Line)) → last_where test xs ≡ o → (b : Bool) → test x ≡ b → or_this o b x xs ≡ Some f → (last_where test xs ≡ Some f → IsLast test xs f) → IsLast test (x ∷ xs) f
    of (Some g) is b t h rest = let i = rest (is ∙ h) in record { earlier = x ∷ i.earlier; split = ap (λ ys. x ∷ ys) i.split; passes = i.passes; none = i.none }
    of None is true t h rest =
        let same : record { it = x; after = xs } ≡ f = cc in
        subst (IsLast test (x ∷ xs)) same (record { earlier = []; split = refl; passes = t; none = none_last test xs is })
    of None is false t h rest = absurd (cc)

-- the lines since the birth
record IsSince (lines : List Line) (c : ℕ) (since : List Line) : Type 0 where
  earlier : List Line
  split : lines ≡ earlier ++ since
  none : list_any (begins c) since ≡ false

is_since : (lines : List Line) (c : ℕ) (x : LifeSoFar) → newest_life lines c ≡ Some x → IsSince lines c x.since
unfolding newest_life
is_since lines c x h = of (last_where (begins c) lines) refl h
  where
    from_start : (b : Bool) → last_where (begins c) lines ≡ None → cond b (Some (record { since = lines })) None ≡ Some x → IsSince lines c x.since
    from_start true is h =
        let same : record { since = lines } ≡ x = cc in
        subst (λ (x : LifeSoFar). IsSince lines c x.since) same (record { earlier = []; split = refl; none = none_last (begins c) lines is })
    from_start false is h = absurd (cc)

    of : (o : Option (LastOf Line)) → last_where (begins c) lines ≡ o → life_after lines c o ≡ Some x → IsSince lines c x.since
    of (Some birth) is h =
        let i = is_last (begins c) lines birth is in
        let same : birth.after ≡ x.since = cc in
        subst (IsSince lines c) same (record { earlier = i.earlier ++ birth.it ∷ []; split = i.split ∙ sym (append_assoc i.earlier (birth.it ∷ []) birth.after); none = i.none })
    of None is h = from_start (c == 1) is h

-- the line of the end
record IsEnding (c : ℕ) (since : List Line) (e : EndOf) : Type 0 where
  earlier : List Line
  event : ℕ
  split : since ≡ earlier ++ line event (Ended c e.status) ∷ e.after

is_ending : (c : ℕ) (since : List Line) (e : EndOf) → the_end c since ≡ Some e → IsEnding c since e
is_ending c [] e h = absurd (cc)
is_ending c (l ∷ ls) e h = of (end_in c l.entry) refl h (is_ending c ls e)
  where
    of : (o : Option ℕ) → end_in c l.entry ≡ o → or_later o ls (the_end c ls) ≡ Some e → (the_end c ls ≡ Some e → IsEnding c ls e) → IsEnding c (l ∷ ls) e
    of (Some w) is h rest =
        let same : record { status = w; after = ls } ≡ e = cc in
        subst (IsEnding c (l ∷ ls)) same (record { earlier = []; event = l.event; split = ap (λ (x : Entry). line l.event x ∷ ls) (ended_line c w l.entry is) })
    of None is h rest = let i = rest h in record { earlier = l ∷ i.earlier; event = i.event; split = ap (λ xs. l ∷ xs) i.split }

-- if no line of a list passes, none after one of them passes
later_none : (test : Line → Bool) (xs earlier later : List Line) (l : Line) → xs ≡ earlier ++ l ∷ later → list_any test xs ≡ false → list_any test later ≡ false
later_none test xs earlier later l split none =
    let all = sym (list_any-append test earlier (l ∷ later)) ∙ ap (list_any test) (sym split) ∙ none in
    (or_parts (test l) (list_any test later) (or_parts (list_any test earlier) (test l || list_any test later) all).1).1

-- ---- reports

-- w is due to p, the parent of c, of the newest life of c
record IsDueTo (before : List Line) (p c w : ℕ) : Type 0 where
  life : LifeSoFar
  newest : newest_life before c ≡ Some life
  parent : parent_in before c ≡ Some p
  due : is_due c w life.since ≡ true

-- a report is due
told_to : (before after : List Line) (l : Line) (p c w : ℕ) → Laws (before ++ l ∷ after) → IsTold p c w l.entry → IsDueTo before p c w
unfolding parent_in
told_to before after l p c w h told = of (newest_life before c) refl (law told)
  where
    law : IsTold p c w l.entry → is_due_to before p c w (newest_life before c) ≡ true
    law (inl told) = subst (λ e. report_law before e ≡ true) told.1 (everywhere_at reports_due before l after h.reports)
    law (inr told) = subst (λ e. report_law before e ≡ true) told (everywhere_at reports_due before l after h.reports)

    of : (o : Option LifeSoFar) → newest_life before c ≡ o → is_due_to before p c w o ≡ true → IsDueTo before p c w
    of None life due = absurd (cc)
    of (Some x) life due =
        let both = and_parts (parent_of before c == p) (is_due c w x.since) due in
        record { life = x; newest = life; parent = ap (parent_in_life before c) life ∙ ap Some (eqb-true (parent_of before c) p both.0); due = both.1 }

-- an end, with its status
end_is_told : (before after : List Line) (l : Line) (p c w : ℕ) → Laws (before ++ l ∷ after) → IsTold p c w l.entry → is_end_word w ≡ true → IsOfEnd before p c w
end_is_told before after l p c w h told word =
    let d = told_to before after l p c w h told in
    let asks : is_due c w d.life.since ≡ end_report c w (the_end c d.life.since) = rw word refl in
    of d (the_end c d.life.since) refl (sym asks ∙ d.due)
  where
    of : (d : IsDueTo before p c w) (o : Option EndOf) → the_end c d.life.since ≡ o → end_report c w o ≡ true → IsOfEnd before p c w
    of d None is due = absurd (cc)
    of d (Some e) is due =
        let both = and_parts (e.status == w) (not (list_any (reports c is_end_word) e.after)) due in
        let a = is_since before c d.life d.newest in
        let b = is_ending c d.life.since e is in
        let lines = a.split ∙ ap (λ ls. a.earlier ++ ls) b.split ∙ sym (append_assoc a.earlier b.earlier (line b.event (Ended c e.status) ∷ e.after)) in
        record {
          earlier = a.earlier ++ b.earlier;
          event = b.event;
          later = e.after;
          ended = subst (λ v. before ≡ (a.earlier ++ b.earlier) ++ line b.event (Ended c v) ∷ e.after) (eqb-true e.status w both.0) lines;
          same_life = later_none (begins c) d.life.since b.earlier e.after (line b.event (Ended c e.status)) b.split a.none;
          unreported = not-true (list_any (reports c is_end_word) e.after) both.1;
          parent = d.parent;
        }

-- An end is reported by the parent of that moment, with its status.
pub reported_to_parent : (before after : List Line) (l : Line) (p : ℕ) (call : WaitCall) (c w : ℕ) → Laws (before ++ l ∷ after) → l.entry ≡ Reported p call c w → is_end_word w ≡ true → IsOfEnd before p c w
reported_to_parent before after l p call c w h is = end_is_told before after l p c w h (inl (call, is))

-- And so is an end that is looked at.
pub looked_at_by_parent : (before after : List Line) (l : Line) (p c w : ℕ) → Laws (before ++ l ∷ after) → l.entry ≡ Looked p c w → is_end_word w ≡ true → IsOfEnd before p c w
looked_at_by_parent before after l p c w h is = end_is_told before after l p c w h (inr is)

-- what is due of a stop or of a continue is due of a life that goes on
goes_on : (c w : ℕ) (since : List Line) (test : Bool) → is_due c w since ≡ (not (has_ended c since) && test) → is_due c w since ≡ true → (has_ended c since ≡ false) × (test ≡ true)
goes_on c w since test asks due = let both = and_parts (not (has_ended c since)) test (sym asks ∙ due) in (not-true (has_ended c since) both.0, both.1)

none_ended : (c : ℕ) (ls : List Line) → has_ended c ls ≡ false → list_any (ends c) ls ≡ false
none_ended c [] h = refl
none_ended c (l ∷ ls) h = grind (arith, cases_Bool, none_ended c ls, h)

-- the last stop of a life that goes on
of_stop : (before : List Line) (p c w s : ℕ) (told : ℕ → Bool) (d : IsDueTo before p c w) (stop : LastOf Line) → has_ended c d.life.since ≡ false → last_stop c d.life.since ≡ Some stop → stop_in c stop.it.entry ≡ Some s
    → list_any (reports c told) stop.after ≡ false → IsOfStop before p c s told
of_stop before p c w s told d stop going is signal none =
    let a = is_since before c d.life d.newest in
    let b = is_last (stops c) d.life.since stop is in
    let it : stop.it ≡ line stop.it.event (Stopped c s) = ap (line stop.it.event) (stopped_line c s stop.it.entry signal) in
    let lines = a.split ∙ ap (λ ls. a.earlier ++ ls) b.split ∙ sym (append_assoc a.earlier b.earlier (stop.it ∷ stop.after)) in
    record {
      earlier = a.earlier ++ b.earlier;
      event = stop.it.event;
      later = stop.after;
      stopped = lines ∙ ap (λ l. (a.earlier ++ b.earlier) ++ l ∷ stop.after) it;
      same_life = later_none (begins c) d.life.since b.earlier stop.after stop.it b.split a.none;
      last = b.none;
      unended = later_none (ends c) d.life.since b.earlier stop.after stop.it b.split (none_ended c d.life.since going);
      unreported = none;
      parent = d.parent;
    }

-- A stop is reported to the parent of that moment, once, by its signal, and not after the termination.
pub stop_is_told : (before after : List Line) (l : Line) (p c w : ℕ) → Laws (before ++ l ∷ after) → IsTold p c w l.entry → is_stopped_word w ≡ true → IsOfStop before p c (w / 256) is_change_word
stop_is_told before after l p c w h told word =
    let d = told_to before after l p c w h told in
    let both = goes_on c w d.life.since (stop_report c w (last_stop c d.life.since)) (rw (stop_no_end w word, word) refl) d.due in
    of d both.0 (last_stop c d.life.since) refl both.1
  where
    of : (d : IsDueTo before p c w) → has_ended c d.life.since ≡ false → (o : Option (LastOf Line)) → last_stop c d.life.since ≡ o → stop_report c w o ≡ true → IsOfStop before p c (w / 256) is_change_word
    of d going None is due = absurd (cc)
    of d going (Some f) is due =
        let both = and_parts (is_just (w / 256) (stop_in c f.it.entry)) (not (list_any (reports c is_change_word) f.after)) due in
        of_stop before p c w (w / 256) is_change_word d f going is (just (w / 256) (stop_in c f.it.entry) both.0) (not-true (list_any (reports c is_change_word) f.after) both.1)

-- And of a continue.
pub continue_is_told : (before after : List Line) (l : Line) (p c w : ℕ) → Laws (before ++ l ∷ after) → IsTold p c w l.entry → is_continued_word w ≡ true → (s : ℕ) × IsOfStop before p c s is_continued_word
continue_is_told before after l p c w h told word =
    let d = told_to before after l p c w h told in
    let both = goes_on c w d.life.since (continue_report c (last_stop c d.life.since)) (asks d.life.since) d.due in
    of d both.0 (last_stop c d.life.since) refl both.1
  where
    asks : (since : List Line) → is_due c w since ≡ (not (has_ended c since) && continue_report c (last_stop c since))
    asks since = let same = eqb-true w continued word in rw same refl

    of : (d : IsDueTo before p c w) → has_ended c d.life.since ≡ false → (o : Option (LastOf Line)) → last_stop c d.life.since ≡ o → continue_report c o ≡ true → (s : ℕ) × IsOfStop before p c s is_continued_word
    of d going None is due = absurd (cc)
    of d going (Some f) is due =
        let s = there (stop_in c f.it.entry) (is_last (stops c) d.life.since f is).passes in
        (s.what, of_stop before p c w s.what is_continued_word d f going is s.found (not-true (list_any (reports c is_continued_word) f.after) due))

-- A reported wait status is that of a termination, a stop or a continue.
pub status_is_told : (before after : List Line) (l : Line) (p c w : ℕ) → Laws (before ++ l ∷ after) → IsTold p c w l.entry → (is_end_word w || is_change_word w) ≡ true
status_is_told before after l p c w h told = let due = (told_to before after l p c w h told).due in grind (arith, cases_Bool, due)
