-- The laws of a trace. Each line is checked against the whole list of lines before it.
use Rattle.std.specs.Prelude.{ℕ, zero, suc, ◌/◌, ◌≡◌, ◌==◌, ◌&&◌, ◌||◌, ◌⊎◌, not, Bool, true, false, List, [], ◌∷◌, ◌++◌, if◌then◌else◌, nat_le, Option, Some, None, is_some, unwrap_or, slice_get, take, ℤ, pos, negsuc}
use Rattle.std.specs.List.{list_any}
use Rattle.posix.specs.declared.entry.Entry.{Entry}
use Rattle.posix.specs.declared.entry.Entry.TheVariants.{Called, Reported, Marked, Looked, Stopped, Ended, Halted}
use Rattle.posix.specs.declared.waits.WaitCall.{WaitCall}
use Rattle.posix.specs.declared.call.Call.{Call}
use Rattle.posix.specs.declared.call.Call.TheVariants.{Fork}
use Rattle.posix.specs.Common.{Line, line, process_of, is_end_word, is_stopped_word, is_continued_word, Forebear, heir_among}

-- ---- what a line says

abbrev pub is_halt : Entry → Bool
is_halt Halted = true
is_halt _ = false

abbrev pub is_fork : Call → Bool
is_fork Fork = true
is_fork _ = false

abbrev pub positive : ℤ → Option ℕ
positive (pos zero) = None
positive (pos (suc n)) = Some (suc n)
positive (negsuc n) = None

-- Returns the process ID whose life a line begins: the positive result of a fork.
abbrev pub born_by : Entry → Option ℕ
born_by (Called p call z) = if is_fork call then positive z else None
born_by _ = None

abbrev pub is_just : ℕ → Option ℕ → Bool
is_just c None = false
is_just c (Some n) = n == c

abbrev pub begins : ℕ → Line → Bool
begins c l = is_just c (born_by l.entry)

-- Returns the wait status with which a line terminates c, if it does.
abbrev pub end_in : ℕ → Entry → Option ℕ
end_in c (Ended p w) = if p == c then Some w else None
end_in c _ = None

-- Returns the signal by which a line stops c, if it does.
abbrev pub stop_in : ℕ → Entry → Option ℕ
stop_in c (Stopped p s) = if p == c then Some s else None
stop_in c _ = None

-- Returns whether a line sets or clears the subreaper mark of c, if it does either.
abbrev pub mark_in : ℕ → Entry → Option Bool
mark_in c (Marked p mark) = if p == c then Some mark else None
mark_in c _ = None

abbrev pub ends : ℕ → Line → Bool
ends c l = is_some (end_in c l.entry)

abbrev pub stops : ℕ → Line → Bool
stops c l = is_some (stop_in c l.entry)

-- Returns true if a wait without WNOWAIT reports c with a wait status that passes the test.
abbrev pub reports_in : ℕ → (ℕ → Bool) → Entry → Bool
reports_in c test (Reported p call d w) = d == c && test w
reports_in c test _ = false

abbrev pub reports : ℕ → (ℕ → Bool) → Line → Bool
reports c test l = reports_in c test l.entry

-- Returns true if a wait, with or without WNOWAIT, reports c with a wait status that passes the test.
abbrev pub reports_or_looks_in : ℕ → (ℕ → Bool) → Entry → Bool
reports_or_looks_in c test (Reported p call d w) = d == c && test w
reports_or_looks_in c test (Looked p d w) = d == c && test w
reports_or_looks_in c test _ = false

abbrev pub reports_or_looks : ℕ → (ℕ → Bool) → Line → Bool
reports_or_looks c test l = reports_or_looks_in c test l.entry

-- ---- lives

-- The last element that passes a test, and those after it.
pub record LastOf (A : Type 0) : Type 0 where
  pub it : A
  pub after : List A

abbrev pub or_this : {A : Type 0} → Option (LastOf A) → Bool → A → List A → Option (LastOf A)
or_this (Some found) passes x xs = Some found
or_this None passes x xs = if passes then Some (record { it = x; after = xs }) else None

abbrev pub last_where : {A : Type 0} → (A → Bool) → List A → Option (LastOf A)
last_where test [] = None
last_where test (x ∷ xs) = or_this (last_where test xs) (test x) x xs

-- A life: the lines since it began.
pub record LifeSoFar : Type 0 where
  pub since : List Line

abbrev pub life_after : List Line → ℕ → Option (LastOf Line) → Option LifeSoFar
life_after lines c (Some birth) = Some (record { since = birth.after })
life_after lines c None = if c == 1 then Some (record { since = lines }) else None

-- Returns the newest life of c: since the last fork that returns c, or, for process 1, since the start.
unfoldable pub newest_life : List Line → ℕ → Option LifeSoFar
newest_life lines c = life_after lines c (last_where (begins c) lines)

-- The end of a life: its wait status, and the lines after it.
pub record EndOf : Type 0 where
  pub status : ℕ
  pub after : List Line

abbrev pub or_later : Option ℕ → List Line → Option EndOf → Option EndOf
or_later (Some w) rest later = Some (record { status = w; after = rest })
or_later None rest later = later

-- Returns the first end of c among the lines, if any.
abbrev pub the_end : ℕ → List Line → Option EndOf
the_end c [] = None
the_end c (l ∷ ls) = or_later (end_in c l.entry) ls (the_end c ls)

abbrev pub has_ended : ℕ → List Line → Bool
has_ended c since = is_some (the_end c since)

-- ---- parents

abbrev pub last_mark : ℕ → List Line → Option (LastOf Line)
last_mark c since = last_where (λ l. is_some (mark_in c l.entry)) since

abbrev pub mark_of : ℕ → Option (LastOf Line) → Bool
mark_of c None = false
mark_of c (Some l) = unwrap_or (mark_in c l.it.entry) false

-- Returns true if the last line that sets or clears the mark of c, among those since its life began, sets it.
abbrev pub has_mark : ℕ → List Line → Bool
has_mark c since = mark_of c (last_mark c since)

-- A process that has not terminated can be an ancestor.
abbrev pub forebear_in : ℕ → ℕ → Option LifeSoFar → Option Forebear
forebear_in c parent None = None
forebear_in c parent (Some x) = if has_ended c x.since then None else Some (record { is_marked = has_mark c x.since; parent = parent })

-- Returns the parent of c after a line, by the lines before it and the parents at that time.
abbrev pub parent_after : List Line → (ℕ → ℕ) → Entry → ℕ → ℕ
parent_after before parents (Called p call z) c = if is_just c (born_by (Called p call z)) then p else parents c
parent_after before parents (Ended p w) c = if parents c == p then heir_among (λ q. forebear_in q (parents q) (newest_life before q)) p else parents c
parent_after before parents _ c = parents c

-- Returns the parent of c after all of the next lines.
unfoldable pub parents_from : List Line → (ℕ → ℕ) → List Line → ℕ → ℕ
parents_from before parents [] c = parents c
parents_from before parents (l ∷ ls) c = parents_from (before ++ l ∷ []) (parent_after before parents l.entry) ls c

-- Returns the parent of the newest life of c, after these lines: the process that forked it and, once that one
-- terminates, its nearest ancestor that is a child subreaper then, or process 1. At the start,
-- process 1 has no parent.
abbrev pub parent_of : List Line → ℕ → ℕ
parent_of lines c = parents_from [] (λ q. 0) lines c

-- Returns the parent of the newest life of c, ended or not, if there is one.
abbrev pub parent_in_life : List Line → ℕ → Option LifeSoFar → Option ℕ
parent_in_life lines c None = None
parent_in_life lines c (Some x) = Some (parent_of lines c)

unfoldable pub parent_in : List Line → ℕ → Option ℕ
parent_in lines c = parent_in_life lines c (newest_life lines c)

abbrev pub is_unended : ℕ → Option LifeSoFar → Bool
is_unended c None = false
is_unended c (Some x) = not (has_ended c x.since)

-- Returns true if the newest life of p has not ended.
unfoldable pub is_living : List Line → ℕ → Bool
is_living lines p = is_unended p (newest_life lines p)

-- ---- reports

abbrev pub last_stop : ℕ → List Line → Option (LastOf Line)
last_stop c since = last_where (λ l. is_some (stop_in c l.entry)) since

-- Returns true for the wait status of a stop or a continue.
abbrev pub is_change_word : ℕ → Bool
is_change_word w = is_stopped_word w || is_continued_word w

-- Returns true if c terminated with this wait status, and no wait has consumed that since.
abbrev pub end_report : ℕ → ℕ → Option EndOf → Bool
end_report c w None = false
end_report c w (Some e) = e.status == w && not (list_any (reports c is_end_word) e.after)

-- Returns true if this is the wait status of c's last stop, and no wait has consumed that stop or its continue.
abbrev pub stop_report : ℕ → ℕ → Option (LastOf Line) → Bool
stop_report c w None = false
stop_report c w (Some stop) = is_just (w / 256) (stop_in c stop.it.entry) && not (list_any (reports c is_change_word) stop.after)

-- Returns true if c has stopped, and no wait has consumed a continue of the last stop.
abbrev pub continue_report : ℕ → Option (LastOf Line) → Bool
continue_report c None = false
continue_report c (Some stop) = not (list_any (reports c is_continued_word) stop.after)

-- Returns true if a report of c with the wait status w is due, by the lines since its life began.
abbrev pub is_due : ℕ → ℕ → List Line → Bool
is_due c w since =
    if is_end_word w then end_report c w (the_end c since)
    else if is_stopped_word w then not (has_ended c since) && stop_report c w (last_stop c since)
    else if is_continued_word w then not (has_ended c since) && continue_report c (last_stop c since)
    else false

-- Returns true if a report to p, of a life of c, is due.
abbrev pub is_due_to : List Line → ℕ → ℕ → ℕ → Option LifeSoFar → Bool
is_due_to lines p c w None = false
is_due_to lines p c w (Some x) = parent_of lines c == p && is_due c w x.since

-- ---- the laws

abbrev pub last_line : List Line → Option (LastOf Line)
last_line lines = last_where (λ l. true) lines

-- Event numbers don't decrease.
abbrev pub number_from : Option (LastOf Line) → ℕ → Bool
number_from None n = true
number_from (Some last) n = nat_le last.it.event n

abbrev pub numbers_rise : List Line → Line → Bool
numbers_rise before l = number_from (last_line before) l.event

abbrev pub none_or : (ℕ → Bool) → Option ℕ → Bool
none_or test None = true
none_or test (Some n) = test n

-- A line of a process is within a life of it.
abbrev pub within_life : List Line → Line → Bool
within_life before l = none_or (is_living before) (process_of l.entry)

-- Lives of one process ID don't overlap.
abbrev pub begins_apart : List Line → Line → Bool
begins_apart before l = none_or (λ c. not (is_living before c)) (born_by l.entry)

-- What a wait reports, with or without WNOWAIT, is of the newest life, is due, and is reported to its parent.
abbrev pub report_law : List Line → Entry → Bool
report_law before (Reported p call c w) = is_due_to before p c w (newest_life before c)
report_law before (Looked p c w) = is_due_to before p c w (newest_life before c)
report_law before _ = true

abbrev pub reports_due : List Line → Line → Bool
reports_due before l = report_law before l.entry

abbrev pub ends_first : Option (LastOf Line) → Bool
ends_first None = false
ends_first (Some last) = is_some (end_in 1 last.it.entry)

abbrev pub was_halt : Option (LastOf Line) → Bool
was_halt None = false
was_halt (Some last) = is_halt last.it.entry

-- `halt` comes right after `end 1` and only there, no other line comes there, and nothing follows `halt`.
abbrev pub halts_last : List Line → Line → Bool
halts_last before l = not (was_halt (last_line before)) && (if is_halt l.entry then ends_first (last_line before) else not (ends_first (last_line before)))

-- The law holds of each line and the lines before it.
abbrev pub Everywhere : (List Line → Line → Bool) → List Line → Type 0
Everywhere law lines = (i : ℕ) (l : Line) → slice_get lines i ≡ Some l → law (take i lines) l ≡ true

pub record Laws (lines : List Line) : Type 0 where
  pub numbers : Everywhere numbers_rise lines
  pub lives : Everywhere within_life lines
  pub births : Everywhere begins_apart lines
  pub reports : Everywhere reports_due lines
  pub halts : Everywhere halts_last lines

-- By the lines before, the termination of c can be reported to p: c terminated with the wait status w in its newest
-- life, no wait has consumed a termination of c since, and p is its parent.
pub record IsOfEnd (before : List Line) (p c w : ℕ) : Type 0 where
  pub earlier : List Line
  pub event : ℕ
  pub later : List Line
  pub ended : before ≡ earlier ++ line event (Ended c w) ∷ later
  pub same_life : list_any (begins c) later ≡ false
  pub unreported : list_any (reports c is_end_word) later ≡ false
  pub parent : parent_in before c ≡ Some p

-- By the lines before, a stop of c by a signal can be reported to p: the stop is in the newest life of c, c has
-- neither stopped again nor terminated since, no wait has consumed a wait status that passes the
-- test since, and p is its parent.
pub record IsOfStop (before : List Line) (p c s : ℕ) (told : ℕ → Bool) : Type 0 where
  pub earlier : List Line
  pub event : ℕ
  pub later : List Line
  pub stopped : before ≡ earlier ++ line event (Stopped c s) ∷ later
  pub same_life : list_any (begins c) later ≡ false
  pub last : list_any (stops c) later ≡ false
  pub unended : list_any (ends c) later ≡ false
  pub unreported : list_any (reports c told) later ≡ false
  pub parent : parent_in before c ≡ Some p

-- A wait by p, with or without WNOWAIT, reports c with the wait status w.
abbrev pub IsTold : ℕ → ℕ → ℕ → Entry → Type 0
IsTold p c w e = ((call : WaitCall) × (e ≡ Reported p call c w)) ⊎ (e ≡ Looked p c w)

-- ---- the laws, computed

abbrev pub laws : List Line → Line → Bool
laws before l = numbers_rise before l && within_life before l && begins_apart before l && reports_due before l && halts_last before l

abbrev pub lawful_from : List Line → List Line → Bool
lawful_from before [] = true
lawful_from before (l ∷ ls) = laws before l && lawful_from (before ++ l ∷ []) ls

abbrev pub lawful : List Line → Bool
lawful lines = lawful_from [] lines
