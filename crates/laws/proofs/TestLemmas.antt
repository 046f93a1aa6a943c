-- No test of a line fails exactly where the laws hold of it.
use Rattle.std.proofs.Common.{◌≡◌, ℕ, ◌/◌, Bool, true, false, cond, not, ◌&&◌, if◌then◌else◌, ◌==◌, List, Option, Some, None, is_some, is_none, refl, ap, sym, ◌∙◌, arith}
use Rattle.std.specs.List.{list_any}
use Rattle.std.proofs.lemmas.Grind.{common_steps}
use Rattle.std.proofs.lemmas.Bool.{cases_Bool}
use Rattle.std.proofs.lemmas.Bool.Decides.{nat_tests}
use Rattle.posix.specs.Common.{Line, process_of, is_end_word, is_stopped_word, is_continued_word}
use Rattle.posix.specs.declared.entry.Entry.{Entry}
use Rattle.posix.specs.declared.entry.Entry.TheVariants.{Reported, Looked, Halted}
use Rattle.laws.specs.Lives.{LastOf, newest_life, is_living, LifeSoFar, the_end, EndOf, is_unended, parent_of, is_just, born_by, laws, last_line, last_stop, has_mark, number_from, none_or, is_halt, ends_first, was_halt, within_life, halts_last, begins_apart, report_law, is_due, is_due_to, reports, stop_in, end_in, stop_report, continue_report, is_change_word}
use Rattle.laws.specs.Keeping.{Going, FirstEnded, Over, kept_of, kept_of_life, kept_since, alive_since, lives_now, fault_of, unless_fault, number_fault, place_fault, process_fault, birth_fault, report_fault, word_fault, fault_of_living, fault_of_ended, stop_fault, last_number, phase_of}

-- ---- the tests pass exactly where the laws hold

living_since : (c parent : ℕ) (since : List Line) (w : Option EndOf) → lives_now (kept_since c parent since w) ≡ not (is_some w)
living_since c parent since None = refl
living_since c parent since (Some w) = refl

living_life : (lines : List Line) (c : ℕ) (life : Option LifeSoFar) → lives_now (kept_of_life lines c life) ≡ is_unended c life
living_life lines c None = refl
living_life lines c (Some x) = living_since c (parent_of lines c) x.since (the_end c x.since)

pub living_kept : (lines : List Line) (c : ℕ) → lives_now (kept_of lines c) ≡ is_living lines c
unfolding kept_of is_living
living_kept lines c = living_life lines c (newest_life lines c)

none_unless : (a b : Option ℕ) → is_none (unless_fault a b) ≡ (is_none a && is_none b)
none_unless None b = refl
none_unless (Some k) b = refl

number_tested : (o : Option (LastOf Line)) (n : ℕ) → is_none (number_fault (last_number o) n) ≡ number_from o n
number_tested None n = grind (arith, common_steps)
number_tested (Some last) n = grind (arith, nat_tests)

birth_tested : (lines : List Line) (b : Option ℕ) → is_none (birth_fault (kept_of lines) b) ≡ none_or (λ c. not (is_living lines c)) b
birth_tested lines None = refl
birth_tested lines (Some c) = rw (living_kept lines c) grind (arith, cases_Bool)

process_tested : (lines : List Line) (p : ℕ) → is_none (process_fault (kept_of lines) (Some p)) ≡ is_living lines p
process_tested lines p = rw (living_kept lines p) grind (arith, cases_Bool)

-- the tests of a report
ended_tested : (p w parent status : ℕ) (reported : Bool)
    → is_none (fault_of_ended p w (record { parent = parent; status = status; reported = reported })) ≡ (parent == p && (is_end_word w && (status == w && not reported)))
ended_tested p w parent status reported = grind (arith, cases_Bool)

stop_tested : (w : ℕ) (found : Option ℕ) (any : Bool) → is_none (stop_fault w (if any then None else found)) ≡ (is_just (w / 256) found && not any)
stop_tested w None any = grind (arith, cases_Bool)
stop_tested w (Some s) any = grind (arith, cases_Bool)

living_asked : (same e s co has may stop_due : Bool) (f : Option ℕ) → is_none f ≡ stop_due
    → is_none {T = ℕ} (cond (not same) (Some 5) (cond e (Some 3) (cond s (cond has f (Some 3)) (cond co (cond (not has) (Some 3) (cond may None (Some 4))) (Some 6)))))
    ≡ (same && cond e false (cond s (has && stop_due) (cond co (has && may) false)))
living_asked same e s co has may stop_due f h = grind (arith, cases_Bool, h)

living_tested : (p c w parent : ℕ) (mark : Bool) (stop : Option (LastOf Line))
    → is_none (fault_of_living p w (alive_since parent mark c stop))
    ≡ (parent == p && (if is_end_word w then false else if is_stopped_word w then stop_report c w stop else if is_continued_word w then continue_report c stop else false))
living_tested p c w parent mark None = grind (arith, cases_Bool)
living_tested p c w parent mark (Some stop) =
    let any = list_any (reports c is_change_word) stop.after in
    living_asked (parent == p) (is_end_word w) (is_stopped_word w) (is_continued_word w) true (not (list_any (reports c is_continued_word) stop.after)) (is_just (w / 256) (stop_in c stop.it.entry) && not any)
    (stop_fault w (if any then None else stop_in c stop.it.entry)) (stop_tested w (stop_in c stop.it.entry) any)

-- a report that is due, over the lines since the birth
due_living : (c w : ℕ) (since : List Line) → the_end c since ≡ None
    → is_due c w since ≡ (if is_end_word w then false else if is_stopped_word w then stop_report c w (last_stop c since) else if is_continued_word w then continue_report c (last_stop c since) else false)
due_living c w since h = rw h refl

due_ended : (c w : ℕ) (e : EndOf) (since : List Line) → the_end c since ≡ Some e
    → is_due c w since ≡ (is_end_word w && (e.status == w && not (list_any (reports c is_end_word) e.after)))
due_ended c w e since h = rw h grind (arith, cases_Bool)

word_tested_as : (lines : List Line) (p c w : ℕ) (x : LifeSoFar) (ended : Option EndOf) → the_end c x.since ≡ ended
    → is_none (word_fault p w (kept_since c (parent_of lines c) x.since ended)) ≡ (parent_of lines c == p && is_due c w x.since)
word_tested_as lines p c w x None h = living_tested p c w (parent_of lines c) (has_mark c x.since) (last_stop c x.since) ∙ ap (λ (b : Bool). parent_of lines c == p && b) (sym (due_living c w x.since h))
word_tested_as lines p c w x (Some e) h = ended_tested p w (parent_of lines c) e.status (list_any (reports c is_end_word) e.after) ∙ ap (λ (b : Bool). parent_of lines c == p && b) (sym (due_ended c w e x.since h))

word_tested : (lines : List Line) (p c w : ℕ) (life : Option LifeSoFar) → is_none (word_fault p w (kept_of_life lines c life)) ≡ is_due_to lines p c w life
word_tested lines p c w None = refl
word_tested lines p c w (Some x) = word_tested_as lines p c w x (the_end c x.since) refl

pub report_tested : (lines : List Line) (entry : Entry) → is_none (report_fault (kept_of lines) entry) ≡ report_law lines entry
unfolding kept_of
report_tested lines (Reported p call c w) = word_tested lines p c w (newest_life lines c)
report_tested lines (Looked p c w) = word_tested lines p c w (newest_life lines c)
report_tested lines entry = refl

halt_alone : (entry : Entry) → is_halt entry ≡ is_none (process_of entry)
halt_alone Halted = refl
halt_alone entry = refl

-- the places for a line: after `end 1`, and after any other line but `halt`
after_first : (lines : List Line) (o : Option ℕ) → is_none {T = ℕ} (if is_none o then None else Some 7) ≡ (none_or (is_living lines) o && (not false && (if is_none o then true else not true)))
after_first lines None = refl
after_first lines (Some p) = grind (arith, cases_Bool)

after_other : (lines : List Line) (o : Option ℕ) → is_none (process_fault (kept_of lines) o) ≡ (none_or (is_living lines) o && (not false && (if is_none o then false else not false)))
after_other lines None = refl
after_other lines (Some p) = process_tested lines p ∙ grind (arith, cases_Bool)

place_asked : (lines : List Line) (over first : Bool) (entry : Entry)
    → is_none (place_fault (kept_of lines) (if over then Over else if first then FirstEnded else Going) entry)
    ≡ (none_or (is_living lines) (process_of entry) && (not over && (if is_halt entry then first else not first)))
place_asked lines true first entry = grind (arith, cases_Bool)
place_asked lines false true entry = rw (halt_alone entry) (after_first lines (process_of entry))
place_asked lines false false entry = rw (halt_alone entry) (after_other lines (process_of entry))

pub place_tested : (lines : List Line) (last : Option (LastOf Line)) (entry : Entry)
    → is_none (place_fault (kept_of lines) (phase_of last) entry)
    ≡ (none_or (is_living lines) (process_of entry) && (not (was_halt last) && (if is_halt entry then ends_first last else not (ends_first last))))
place_tested lines None entry = place_asked lines false false entry
place_tested lines (Some last) entry = place_asked lines (is_halt last.it.entry) (is_some (end_in 1 last.it.entry)) entry

regrouped : (a b c d e : Bool) → (a && ((b && e) && (c && d))) ≡ (a && b && c && d && e)
regrouped a b c d e = grind (arith, cases_Bool)

-- No test of the auditor fails, by what the lines say of each number, exactly where the laws hold of the line.
pub tests_are_laws : (lines : List Line) (l : Line) → is_none (fault_of (kept_of lines) (last_number (last_line lines)) (phase_of (last_line lines)) l) ≡ laws lines l
unfolding fault_of
tests_are_laws lines l =
    none_unless (number_fault (last_number (last_line lines)) l.event) (unless_fault (place_fault (kept_of lines) (phase_of (last_line lines)) l.entry) (unless_fault (birth_fault (kept_of lines) (born_by l.entry)) (report_fault (kept_of lines) l.entry)))
    ∙ rw (
      none_unless (place_fault (kept_of lines) (phase_of (last_line lines)) l.entry) (unless_fault (birth_fault (kept_of lines) (born_by l.entry)) (report_fault (kept_of lines) l.entry)),
      none_unless (birth_fault (kept_of lines) (born_by l.entry)) (report_fault (kept_of lines) l.entry),
      number_tested (last_line lines) l.event,
      place_tested lines (last_line lines) l.entry,
      birth_tested lines (born_by l.entry),
      report_tested lines l.entry,
    )
    (regrouped (number_from (last_line lines) l.event) (within_life lines l) (begins_apart lines l) (report_law lines l.entry) (halts_last lines l))
