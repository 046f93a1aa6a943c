-- What the lines so far say of each process ID, and the tests of the next line by that.
use Rattle.std.specs.Prelude.{ℕ, ◌/◌, ◌==◌, ◌&&◌, ◌||◌, not, Bool, true, false, List, if◌then◌else◌, nat_lt, Option, Some, None, is_some}
use Rattle.std.specs.List.{list_any}
use Rattle.posix.specs.declared.entry.Entry.{Entry}
use Rattle.posix.specs.declared.entry.Entry.TheVariants.{Noted, Called, Moved, Reported, Looked, NoMemory, Marked, Handled, Discarded, Stopped, Returned, Ended, Halted}
use Rattle.posix.specs.Common.{Line, process_of, is_end_word, is_stopped_word, is_continued_word, Forebear, heir_among}
use Rattle.laws.specs.Lives.{is_halt, born_by, is_just, end_in, stop_in, reports, LastOf, LifeSoFar, EndOf, newest_life, the_end, last_stop, has_mark, parent_of, is_change_word}

-- A life that has not ended.
pub record Alive : Type 0 where
  pub parent : ℕ
  pub is_marked : Bool  -- whether it is a child subreaper
  pub has_stopped : Bool
  pub stop : Option ℕ  -- the signal of the last stop, if no wait has consumed it or its continue
  pub may_continue : Bool  -- whether it has stopped, and no wait has consumed the last stop's continue

-- A life that has ended.
pub record Dead : Type 0 where
  pub parent : ℕ
  pub status : ℕ
  pub reported : Bool

pub data Kept : Type 0 where
  NeverBorn : Kept
  Lives : Alive → Kept
  Died : Dead → Kept

-- What may come next: any line but `halt`, only `halt`, or nothing.
pub data Phase : Type 0 where
  Going : Phase
  FirstEnded : Phase
  Over : Phase

-- ---- what lines say

abbrev pub alive_since : ℕ → Bool → ℕ → Option (LastOf Line) → Alive
alive_since parent mark c None = record { parent = parent; is_marked = mark; has_stopped = false; stop = None; may_continue = false }
alive_since parent mark c (Some stop) = record {
  parent = parent;
  is_marked = mark;
  has_stopped = true;
  stop = if list_any (reports c is_change_word) stop.after then None else stop_in c stop.it.entry;
  may_continue = not (list_any (reports c is_continued_word) stop.after);
}

abbrev pub kept_since : ℕ → ℕ → List Line → Option EndOf → Kept
kept_since c parent since None = Lives (alive_since parent (has_mark c since) c (last_stop c since))
kept_since c parent since (Some e) = Died (record { parent = parent; status = e.status; reported = list_any (reports c is_end_word) e.after })

abbrev pub kept_of_life : List Line → ℕ → Option LifeSoFar → Kept
kept_of_life lines c None = NeverBorn
kept_of_life lines c (Some x) = kept_since c (parent_of lines c) x.since (the_end c x.since)

-- Returns what the lines say of c.
unfoldable pub kept_of : List Line → ℕ → Kept
kept_of lines c = kept_of_life lines c (newest_life lines c)

abbrev pub last_number : Option (LastOf Line) → ℕ
last_number None = 0
last_number (Some l) = l.it.event

abbrev pub phase_after : Entry → Phase
phase_after entry = if is_halt entry then Over else if is_some (end_in 1 entry) then FirstEnded else Going

abbrev pub phase_of : Option (LastOf Line) → Phase
phase_of None = Going
phase_of (Some l) = phase_after l.it.entry

-- ---- what the next line changes

abbrev pub newborn : ℕ → Kept
newborn p = Lives (record { parent = p; is_marked = false; has_stopped = false; stop = None; may_continue = false })

abbrev pub after_stop : ℕ → Kept → Kept
after_stop s (Lives a) = Lives (record a { has_stopped = true; stop = Some s; may_continue = true })
after_stop s NeverBorn = NeverBorn
after_stop s (Died d) = Died d

abbrev pub after_report : ℕ → Kept → Kept
after_report w NeverBorn = NeverBorn
after_report w (Lives a) = Lives (record a { stop = if is_change_word w then None else a.stop; may_continue = a.may_continue && not (is_continued_word w) })
after_report w (Died d) = Died (record d { reported = d.reported || is_end_word w })

abbrev pub after_mark : Bool → Kept → Kept
after_mark mark NeverBorn = NeverBorn
after_mark mark (Lives a) = Lives (record a { is_marked = mark })
after_mark mark (Died d) = Died d

abbrev pub ended_with : ℕ → Kept → Kept
ended_with w NeverBorn = NeverBorn
ended_with w (Lives a) = Died (record { parent = a.parent; status = w; reported = false })
ended_with w (Died d) = Died d

abbrev pub moved_from : ℕ → ℕ → ℕ → ℕ
moved_from p heir parent = if parent == p then heir else parent

-- After p terminates, its children have a new parent.
abbrev pub given_on : ℕ → ℕ → Kept → Kept
given_on p heir NeverBorn = NeverBorn
given_on p heir (Lives a) = Lives (record a { parent = moved_from p heir a.parent })
given_on p heir (Died d) = Died (record d { parent = moved_from p heir d.parent })

abbrev pub forebear_kept : Kept → Option Forebear
forebear_kept NeverBorn = None
forebear_kept (Lives a) = Some (record { is_marked = a.is_marked; parent = a.parent })
forebear_kept (Died d) = None

-- Returns the new parent of p's children, by what was kept before p terminated.
abbrev pub heir_of : (ℕ → Kept) → ℕ → ℕ
heir_of kept p = heir_among (λ q. forebear_kept (kept q)) p

-- Returns the new parent of the children that a line reparents.
abbrev pub heir_told : (ℕ → Kept) → Entry → ℕ
heir_told kept (Ended p w) = heir_of kept p
heir_told kept _ = 1

-- Returns what is kept of c after a line, given the new parent of the children of a process that it terminates.
unfoldable pub made_by : ℕ → Entry → ℕ → Kept → Kept
made_by heir (Noted p z) c k = k
made_by heir (Called p call z) c k = if is_just c (born_by (Called p call z)) then newborn p else k
made_by heir (Moved p call bytes) c k = k
made_by heir (Reported p call d w) c k = if d == c then after_report w k else k
made_by heir (Looked p d w) c k = k
made_by heir (NoMemory p call) c k = k
made_by heir (Marked p mark) c k = if p == c then after_mark mark k else k
made_by heir (Handled p s value sender) c k = k
made_by heir (Discarded p s) c k = k
made_by heir (Stopped p s) c k = if p == c then after_stop s k else k
made_by heir (Returned p) c k = k
made_by heir (Ended p w) c k = if p == c then ended_with w (given_on p heir k) else given_on p heir k
made_by heir Halted c k = k

-- Returns what is kept of c after a line.
abbrev pub kept_after : (ℕ → Kept) → Entry → ℕ → Kept
kept_after kept entry c = made_by (heir_told kept entry) entry c (kept c)

-- ---- the tests of a line

abbrev pub lives_now : Kept → Bool
lives_now NeverBorn = false
lives_now (Lives a) = true
lives_now (Died d) = false

abbrev pub unless_fault : Option ℕ → Option ℕ → Option ℕ
unless_fault (Some k) later = Some k
unless_fault None later = later

-- Fault 7: `halt` not right after `end 1`, another line right after it, any line after `halt`, or a line of a process
-- that isn't living.
abbrev pub process_fault : (ℕ → Kept) → Option ℕ → Option ℕ
process_fault kept None = Some 7
process_fault kept (Some p) = if lives_now (kept p) then None else Some 7

abbrev pub place_fault : (ℕ → Kept) → Phase → Entry → Option ℕ
place_fault kept Going entry = process_fault kept (process_of entry)
place_fault kept FirstEnded entry = if is_halt entry then None else Some 7
place_fault kept Over entry = Some 7

-- Fault 2: a fork returns the ID of a living process.
abbrev pub birth_fault : (ℕ → Kept) → Option ℕ → Option ℕ
birth_fault kept None = None
birth_fault kept (Some c) = if lives_now (kept c) then Some 2 else None

-- The fault of a reported stop: 4 if none is left to report, 6 if it was by another signal.
abbrev pub stop_fault : ℕ → Option ℕ → Option ℕ
stop_fault w None = Some 4
stop_fault w (Some s) = if s == w / 256 then None else Some 6

abbrev pub fault_of_living : ℕ → ℕ → Alive → Option ℕ
fault_of_living p w a =
    if not (a.parent == p) then Some 5
    else if is_end_word w then Some 3
    else if is_stopped_word w then (if a.has_stopped then stop_fault w a.stop else Some 3)
    else if is_continued_word w then (if not a.has_stopped then Some 3 else if a.may_continue then None else Some 4)
    else Some 6

abbrev pub fault_of_ended : ℕ → ℕ → Dead → Option ℕ
fault_of_ended p w d =
    if not (d.parent == p) then Some 5
    else if is_end_word w then (if d.reported then Some 4 else if d.status == w then None else Some 6)
    else if is_change_word w then Some 3
    else Some 6

-- The fault of a report by p with the wait status w, with or without WNOWAIT.
abbrev pub word_fault : ℕ → ℕ → Kept → Option ℕ
word_fault p w NeverBorn = Some 3
word_fault p w (Lives a) = fault_of_living p w a
word_fault p w (Died d) = fault_of_ended p w d

abbrev pub report_fault : (ℕ → Kept) → Entry → Option ℕ
report_fault kept (Reported p call c w) = word_fault p w (kept c)
report_fault kept (Looked p c w) = word_fault p w (kept c)
report_fault kept _ = None

abbrev pub number_fault : ℕ → ℕ → Option ℕ
number_fault last n = if nat_lt n last then Some 1 else None

-- Returns the first test that a line fails, after a line with the event number last.
unfoldable pub fault_of : (ℕ → Kept) → ℕ → Phase → Line → Option ℕ
fault_of kept last phase l =
    unless_fault (number_fault last l.event) (unless_fault (place_fault kept phase l.entry) (unless_fault (birth_fault kept (born_by l.entry)) (report_fault kept l.entry)))
