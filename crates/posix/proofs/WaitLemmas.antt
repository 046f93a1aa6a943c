-- What one child says to a wait, and what holds of each wait.
use Rattle.std.proofs.Common.{◌≡◌, ℕ, Bool, true, false, cond, refl, sym, [], ◌∷◌, Option, Some, None}
use Rattle.std.proofs.lemmas.Bool.{cond_both}
use Rattle.posix.specs.declared.errno.Errno.{Errno}
use Rattle.posix.specs.declared.errno.Errno.TheVariants.{EINVAL, ECHILD}
use Rattle.posix.specs.declared.entry.Entry.TheVariants.{Reported, Looked}
use Rattle.posix.specs.declared.waits.WaitCall.{WaitCall}
use Rattle.posix.specs.declared.waits.Asked.{Asked}
use Rattle.posix.specs.declared.target.Target.{Target}
use Rattle.posix.specs.declared.process.Blocked.TheVariants as blocked
use Rattle.posix.specs.declared.process.Life.{Life}
use Rattle.posix.specs.declared.process.Life.TheVariants.{Running, Stopped, Zombie}
use Rattle.posix.specs.declared.process.News.{News}
use Rattle.posix.specs.declared.process.News.TheVariants as news
use Rattle.posix.specs.declared.process.Report.{Report}
use Rattle.posix.specs.declared.process.Report.TheVariants as found
use Rattle.posix.specs.Common.{stopped, continued, Process, is_zombie, call_of_wait, removed, State, change, Attempted, Block, refused, is_something, has_option, WSTOPPED, WEXITED, WCONTINUED, WNOHANG, WNOWAIT, report_change, report_life, report_of, report_found, report_among, report, asked_by, news_told, gives_nothing, gives_report, wait_with, wait_for, wait_by}

-- what holds of nothing and of each change holds of what news report
by_news : (P : Report → Type 0) (options p : ℕ) → P found.Nothing → ((w : ℕ) → P (found.Change p w)) → (n : News) → P (report_change options p n)
by_news P options p nothing change news.Nothing = nothing
by_news P options p nothing change (news.StoppedBy s) = elim (has_option options WSTOPPED) as (λ b. P (cond b (found.Change p (stopped s)) found.Nothing)) [ true ↦ change (stopped s) | false ↦ nothing ]
by_news P options p nothing change news.Continued = elim (has_option options WCONTINUED) as (λ b. P (cond b (found.Change p continued) found.Nothing)) [ true ↦ change continued | false ↦ nothing ]

-- with each end, of what a life reports, by whether it is a zombie's
by_life : (P : Bool → Report → Type 0) (options p : ℕ) → ((z : Bool) → P z found.Nothing) → ((w : ℕ) → P false (found.Change p w)) → ((w : ℕ) → P true (found.End p w)) → (l : Life) (n : News) → P (is_zombie l) (report_life options p l n)
by_life P options p nothing change ended Running n = by_news (P false) options p (nothing false) change n
by_life P options p nothing change ended Stopped n = by_news (P false) options p (nothing false) change n
by_life P options p nothing change ended (Zombie w) n = elim (has_option options WEXITED) as (λ b. P true (cond b (found.End p w) found.Nothing)) [ true ↦ ended w | false ↦ nothing true ]

-- and so of what a child has to report
pub by_report : (P : Bool → Report → Type 0) (options : ℕ) (r : Process) → ((z : Bool) → P z found.Nothing) → ((w : ℕ) → P false (found.Change r.pid w)) → ((w : ℕ) → P true (found.End r.pid w)) → P (is_zombie r.life) (report_of options r)
unfolding report_of
by_report P options r nothing change ended = by_life P options r.pid nothing change ended r.life r.news

-- one child alone
pub one_among : (options : ℕ) (r : Process) → report_among options (r ∷ []) ≡ report_of options r
one_among options r = by_report (λ z o. o ≡ report_of options r → report_found options (cond (is_something o) (Some r) None) ≡ o) options r (λ z e. refl) (λ w e. sym e) (λ w e. sym e) refl

-- ---- what a wait does

-- P holds where a child is looked at, and where its report is collected
abbrev pub IfTold : (Attempted → Type 0) → State → State → ℕ → WaitCall → ℕ → ℕ → Type 0
IfTold P s collected p call child status = P (gives_report s p call child status (Looked p child status)) × P (gives_report collected p call child status (Reported p call child status))

-- by what was found
by_found : (P : Attempted → Type 0) (call : WaitCall) (s : State) (p options : ℕ) (what : Report)
    → ((why : Errno) → P (refused s p (call_of_wait call) why)) → P (gives_nothing s p call) → P (Block (blocked.Wait call))
    → ((child status : ℕ) → what ≡ found.End child status → IfTold P s (record s { processes = removed child s.processes }) p call child status)
    → ((child status : ℕ) → what ≡ found.Change child status → IfTold P s (change s child news_told) p call child status)
    → P (wait_with s p call options what)
by_found P call s p options found.NoChild refuses nothing blocks ended changed = refuses ECHILD
by_found P call s p options found.Nothing refuses nothing blocks ended changed = cond_both (has_option options WNOHANG) _ _ P (λ t. nothing) (λ t. blocks)
by_found P call s p options (found.End child status) refuses nothing blocks ended changed = let told = ended child status refl in cond_both (has_option options WNOWAIT) _ _ P (λ t. told.0) (λ t. told.1)
by_found P call s p options (found.Change child status) refuses nothing blocks ended changed = let told = changed child status refl in cond_both (has_option options WNOWAIT) _ _ P (λ t. told.0) (λ t. told.1)

-- What holds of a wait that is refused, finds nothing, or has to wait, and of one that looks at an end or a change that a
-- child reports, or collects it, holds of each wait.
pub by_wait : (P : Attempted → Type 0) (call : WaitCall) (s : State) (me : Process)
    → ((why : Errno) → P (refused s me.pid (call_of_wait call) why)) → P (gives_nothing s me.pid call) → P (Block (blocked.Wait call))
    → ((target : Target) (options child status : ℕ) → report s.processes me.pid me.group target options ≡ found.End child status → IfTold P s (record s { processes = removed child s.processes }) me.pid call child status)
    → ((target : Target) (options child status : ℕ) → report s.processes me.pid me.group target options ≡ found.Change child status → IfTold P s (change s child news_told) me.pid call child status)
    → P (wait_by call s me)
unfolding wait_by
by_wait P call s me refuses nothing blocks ended changed = by (asked_by call me)
  where
    by : (asks : Option Asked) → P (wait_for s me.pid me.group call asks)
    by None = refuses EINVAL
    by (Some a) = by_found P call s me.pid a.options.0 (report s.processes me.pid me.group a.target a.options.0) refuses nothing blocks (ended a.target a.options.0) (changed a.target a.options.0)
