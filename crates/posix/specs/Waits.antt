-- Waiting for children, XSH waitpid, XSH waitid and waitpid(2).
use Rattle.std.specs.Prelude.{ℕ, ◌+◌, ◌==◌, ◌&&◌, not, Bool, true, false, if◌then◌else◌, List, [], ◌∷◌, filter, find, Option, Some, None, option_map, ℤ, pos, bit_and, bit_or}
use Rattle.std.specs.Int.{cast_unsigned, w64}
use Rattle.posix.specs.declared.errno.Errno.TheVariants.{EINVAL, ECHILD}
use Rattle.posix.specs.declared.entry.Entry.{Entry}
use Rattle.posix.specs.declared.entry.Entry.TheVariants.{Called, Reported, Looked}
use Rattle.posix.specs.declared.waits.WaitCall.{WaitCall}
use Rattle.posix.specs.declared.waits.WaitCall.TheVariants as wait
use Rattle.posix.specs.declared.waits.Asked.{Asked}
use Rattle.posix.specs.declared.process.Life.{Life}
use Rattle.posix.specs.declared.process.Life.TheVariants.{Zombie}
use Rattle.posix.specs.declared.process.News.{News}
use Rattle.posix.specs.declared.process.News.TheVariants as news
use Rattle.posix.specs.declared.process.Blocked.TheVariants as blocked
use Rattle.posix.specs.declared.process.Report.{Report}
use Rattle.posix.specs.declared.process.Report.TheVariants as found
use Rattle.posix.specs.declared.target.Target.{Target}
use Rattle.posix.specs.declared.target.Target.TheVariants as whom
use Rattle.posix.specs.Calls.{call_of_wait}
use Rattle.posix.specs.Statuses.{stopped, continued}
use Rattle.posix.specs.Processes.{Process, argument}
use Rattle.posix.specs.Tables.{removed, children_in}
use Rattle.posix.specs.States.{State, change}
use Rattle.posix.specs.Targets.{target_in, target_of_kind}
use Rattle.posix.specs.Outcomes.{Attempted, Done, Block, refused, finish}

-- ---- options

abbrev pub WNOHANG : ℕ
WNOHANG = 1

abbrev pub WUNTRACED : ℕ
WUNTRACED = 2

abbrev pub WSTOPPED : ℕ
WSTOPPED = 2

abbrev pub WEXITED : ℕ
WEXITED = 4

abbrev pub WCONTINUED : ℕ
WCONTINUED = 8

abbrev pub WNOWAIT : ℕ
WNOWAIT = 16777216

abbrev pub waitpid_options : ℕ
waitpid_options = WNOHANG + WUNTRACED + WCONTINUED

-- The status changes that waitid can ask for: stops, terminations and continues.
abbrev pub sorts : ℕ
sorts = WSTOPPED + WEXITED + WCONTINUED

abbrev pub waitid_options : ℕ
waitid_options = WNOHANG + sorts + WNOWAIT

-- Returns a register as a set of options; all 64 bits count (own).
abbrev pub options_in : ℤ → ℕ
options_in z = cast_unsigned w64 z

abbrev pub are_known : ℕ → ℕ → Bool
are_known all options = bit_and options all == options

abbrev pub has_option : ℕ → ℕ → Bool
has_option options option = bit_and options option == option

-- ---- what a wait asks for

-- waitpid asks for terminations whatever its options, as in Linux. WUNTRACED is the WSTOPPED of waitid.
-- waitpid is the waitid that also asks for terminations and reaps, so both calls share one definition. All errors of
-- waitid but ECHILD are EINVAL, and come first, so no trace shows their order.
abbrev pub asked_by_waitpid : Target → ℕ → Option Asked
asked_by_waitpid target options =
    if are_known waitpid_options options then Some (record { target = target; options = record { 0 = bit_or options WEXITED } }) else None

-- Returns true if the options ask for at least one kind of status change.
abbrev pub asks_something : ℕ → Bool
asks_something options = not (bit_and options sorts == 0)

abbrev pub asked_by_waitid : Option Target → ℕ → Option Asked
asked_by_waitid target options = if are_known waitid_options options && asks_something options then option_map (λ t. record { target = t; options = record { 0 = options } }) target else None

-- Returns what a wait asks for by its first three arguments, in the options of waitid; None if the
-- call fails with EINVAL.
unfoldable pub asked : WaitCall → ℤ → ℤ → ℤ → Option Asked
asked wait.Waitpid r1 r2 r3 = asked_by_waitpid (target_in r1) (options_in r2)
asked wait.Waitid r1 r2 r3 = asked_by_waitid (target_of_kind r1 r2) (options_in r3)

abbrev pub asked_by : WaitCall → Process → Option Asked
asked_by call me = asked call (argument me 1) (argument me 2) (argument me 3)

-- ---- reports

-- Returns true if the target selects child r, for a caller in this process group. The caller's own group is the one
-- that it has at the attempt (own); in Linux, the one that it had at the call. -2,147,483,648 selects no process, and
-- fails with ECHILD (own); in Linux, with ESRCH.
abbrev pub is_named : ℕ → Target → Process → Bool
is_named group (whom.Process p) r = r.pid == p
is_named group whom.OwnGroup r = r.group == group
is_named group (whom.Group p) r = r.group == p
is_named group whom.All r = true
is_named group whom.Nobody r = false

abbrev pub report_change : ℕ → ℕ → News → Report
report_change options p news.Nothing = found.Nothing
report_change options p (news.StoppedBy s) = if has_option options WSTOPPED then found.Change p (stopped s) else found.Nothing
report_change options p news.Continued = if has_option options WCONTINUED then found.Change p continued else found.Nothing

abbrev pub report_life : ℕ → ℕ → Life → News → Report
report_life options p (Zombie status) change = if has_option options WEXITED then found.End p status else found.Nothing
report_life options p _ change = report_change options p change

-- Returns what a child has to report to a wait with these options.
unfoldable pub report_of : ℕ → Process → Report
report_of options r = report_life options r.pid r.life r.news

abbrev pub is_something : Report → Bool
is_something (found.End p status) = true
is_something (found.Change p status) = true
is_something _ = false

abbrev pub reports : ℕ → Process → Bool
reports options r = is_something (report_of options r)

abbrev pub report_found : ℕ → Option Process → Report
report_found options None = found.Nothing
report_found options (Some r) = report_of options r

-- Returns the report of the lowest-numbered selected child with a requested status change (own). Linux takes the
-- oldest child first, and adopted children last.
abbrev pub report_among : ℕ → List Process → Report
report_among options [] = found.NoChild
report_among options (r ∷ rs) = report_found options (find (reports options) (r ∷ rs))

-- Returns the report that a caller with this process ID and process group finds.
unfoldable pub report : List Process → ℕ → ℕ → Target → ℕ → Report
report rs caller group target options = report_among options (filter (is_named group target) (children_in caller rs))

-- Returns the children of p that have something to report to a wait with these options.
unfoldable pub wanted_in : ℕ → ℕ → List Process → List Process
wanted_in options p rs = filter (reports options) (children_in p rs)

-- Returns the report of the selected ones among these children.
abbrev pub report_of_meant : (Process → Bool) → ℕ → List Process → Report
report_of_meant means options rs = report_among options (filter means rs)

-- ---- the call

unfoldable pub news_told : Process → Process
news_told r = record r { news = news.Nothing }

-- Returns the registers of a report: for waitpid, the child in r0 and its wait status in r1; for waitid, 0 in r0, the
-- child in r1 and its wait status in r2 (own).
abbrev pub results_of : WaitCall → ℕ → ℕ → List (ℕ × ℤ)
results_of wait.Waitpid child status = (0, pos child) ∷ (1, pos status) ∷ []
results_of wait.Waitid child status = (0, pos 0) ∷ (1, pos child) ∷ (2, pos status) ∷ []

-- Returns the registers of a wait with WNOHANG that has nothing to report: 0 in r0, for waitid in r1 and r2, too (own).
abbrev pub results_of_nothing : WaitCall → List (ℕ × ℤ)
results_of_nothing wait.Waitpid = (0, pos 0) ∷ []
results_of_nothing wait.Waitid = (0, pos 0) ∷ (1, pos 0) ∷ (2, pos 0) ∷ []

abbrev pub gives_nothing : State → ℕ → WaitCall → Attempted
gives_nothing s p call = Done (record { state = finish s p (results_of_nothing call); entries = Called p (call_of_wait call) (pos 0) ∷ [] })

-- The call of p reports a child with a wait status.
abbrev pub gives_report : State → ℕ → WaitCall → ℕ → ℕ → Entry → Attempted
gives_report s p call child status entry = Done (record { state = finish s p (results_of call child status); entries = entry ∷ [] })

-- With WNOWAIT, the child is only reported, and nothing else changes. Otherwise the report is consumed, and
-- `collected` is the state after that.
abbrev pub tell_child : State → State → ℕ → WaitCall → ℕ → ℕ → ℕ → Attempted
tell_child s collected p call options child status =
    if has_option options WNOWAIT then gives_report s p call child status (Looked p child status)
    else gives_report collected p call child status (Reported p call child status)

-- Without WNOWAIT, a report reaps a terminated child, and consumes the stop or continue of any other child.
abbrev pub wait_with : State → ℕ → WaitCall → ℕ → Report → Attempted
wait_with s p call options found.NoChild = refused s p (call_of_wait call) ECHILD
wait_with s p call options found.Nothing = if has_option options WNOHANG then gives_nothing s p call else Block (blocked.Wait call)
wait_with s p call options (found.End child status) = tell_child s (record s { processes = removed child s.processes }) p call options child status
wait_with s p call options (found.Change child status) = tell_child s (change s child news_told) p call options child status

-- Attempts a wait by p, a caller in this process group, for what it asks.
abbrev pub wait_for : State → ℕ → ℕ → WaitCall → Option Asked → Attempted
wait_for s p group call None = refused s p (call_of_wait call) EINVAL
wait_for s p group call (Some a) = wait_with s p call a.options.0 (report s.processes p group a.target a.options.0)

-- Attempts a wait. The arguments are in r1 to r3: for waitpid the target and the options; for waitid the kind, the ID
-- and the options.
unfoldable pub wait_by : WaitCall → State → Process → Attempted
wait_by call s me = wait_for s me.pid me.group call (asked_by call me)
