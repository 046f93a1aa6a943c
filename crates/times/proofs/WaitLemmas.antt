-- Shows that waits don't depend on the time.
use Rattle.std.proofs.Common.{◌≡◌, ℕ, Bool, true, false, cond, List, [], ◌∷◌, Option, Some, None, refl, ap, ◌∙◌}
use native.Mathlib.Omega.{arith}
use Rattle.std.specs.Prelude.{pos, find, option_map}
use Rattle.posix.specs.Calls.{call_of_wait}
use Rattle.posix.specs.Processes.{Process}
use Rattle.posix.specs.States.{State, change}
use Rattle.posix.specs.Tables.{removed}
use Rattle.posix.specs.Outcomes.{Attempted}
use Rattle.posix.specs.Waits.{report, reports, report_of, asked_by, news_told, results_of, results_of_nothing, gives_nothing, gives_report, tell_child, wait_with, wait_for, wait_by, has_option, WNOWAIT}
use Rattle.posix.specs.declared.entry.Entry.{Entry}
use Rattle.posix.specs.declared.entry.Entry.TheVariants.{Called, Reported, Looked}
use Rattle.posix.specs.declared.errno.Errno.TheVariants.{EINVAL, ECHILD}
use Rattle.posix.specs.declared.process.Report.{Report}
use Rattle.posix.specs.declared.process.Report.TheVariants as found
use Rattle.posix.specs.declared.waits.Asked.{Asked}
use Rattle.posix.specs.declared.waits.WaitCall.{WaitCall}
use Rattle.times.specs.Times.{later, all_later, state_later}
use Rattle.times.proofs.TableLemmas.{removed_later}
use Rattle.times.proofs.CallLemmas.{attempted_later, report_later}
use Rattle.times.proofs.OutcomeLemmas.{change_later, finish_done_later, refused_later}

first_later : (d options : ℕ) (rs : List Process) → find (reports options) (all_later d rs) ≡ option_map (later d) (find (reports options) rs)
unfolding report_of
first_later d options [] = refl
first_later d options (r ∷ rs) = grind (arith, first_later d options rs)

pub news_told_later : (d : ℕ) (r : Process) → news_told (later d r) ≡ later d (news_told r)
unfolding news_told
news_told_later d r = refl

pub gives_nothing_later : (d : ℕ) (s : State) (p : ℕ) (call : WaitCall) → gives_nothing (state_later d s) p call ≡ attempted_later d (gives_nothing s p call)
gives_nothing_later d s p call = finish_done_later d s p (results_of_nothing call) (Called p (call_of_wait call) (pos 0) ∷ [])

pub gives_report_later : (d : ℕ) (s : State) (p : ℕ) (call : WaitCall) (child status : ℕ) (entry : Entry) → gives_report (state_later d s) p call child status entry ≡ attempted_later d (gives_report s p call child status entry)
gives_report_later d s p call child status entry = finish_done_later d s p (results_of call child status) (entry ∷ [])

pub tell_child_later : (d : ℕ) (s collected : State) (p : ℕ) (call : WaitCall) (options child status : ℕ) → tell_child (state_later d s) (state_later d collected) p call options child status ≡ attempted_later d (tell_child s collected p call options child status)
tell_child_later d s collected p call options child status = go (has_option options WNOWAIT) where
  told : Bool → State → State → Attempted
  told b now then = cond b (gives_report now p call child status (Looked p child status)) (gives_report then p call child status (Reported p call child status))

  go : (b : Bool) → told b (state_later d s) (state_later d collected) ≡ attempted_later d (told b s collected)
  go true = gives_report_later d s p call child status (Looked p child status)
  go false = gives_report_later d collected p call child status (Reported p call child status)

pub wait_with_later : (d : ℕ) (s : State) (p : ℕ) (call : WaitCall) (options : ℕ) (found : Report) → wait_with (state_later d s) p call options found ≡ attempted_later d (wait_with s p call options found)
wait_with_later d s p call options found.NoChild = refused_later d s p (call_of_wait call) ECHILD
wait_with_later d s p call options found.Nothing = grind (arith, gives_nothing_later d s p call)
wait_with_later d s p call options (found.End child status) =
    ap (λ (rs : List Process). tell_child (state_later d s) (record (state_later d s) { processes = rs }) p call options child status) (removed_later d child s.processes)
    ∙ tell_child_later d s (record s { processes = removed child s.processes }) p call options child status
wait_with_later d s p call options (found.Change child status) =
    ap (λ (t : State). tell_child (state_later d s) t p call options child status) (change_later d s child news_told news_told (news_told_later d))
    ∙ tell_child_later d s (change s child news_told) p call options child status

pub wait_for_later : (d : ℕ) (s : State) (p group : ℕ) (call : WaitCall) (a : Option Asked) → wait_for (state_later d s) p group call a ≡ attempted_later d (wait_for s p group call a)
wait_for_later d s p group call None = refused_later d s p (call_of_wait call) EINVAL
wait_for_later d s p group call (Some a) =
    ap (wait_with (state_later d s) p call a.options.0) (report_later d s.processes p group a.target a.options.0)
    ∙ wait_with_later d s p call a.options.0 (report s.processes p group a.target a.options.0)

pub wait_by_later : (d : ℕ) (call : WaitCall) (s : State) (me : Process) → wait_by call (state_later d s) (later d me) ≡ attempted_later d (wait_by call s me)
unfolding wait_by
wait_by_later d call s me = wait_for_later d s me.pid me.group call (asked_by call me)
