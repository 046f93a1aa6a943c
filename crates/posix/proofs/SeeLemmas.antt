-- What decides whether a process can act: its record but for its parent, and what it sees of its children.
use Rattle.std.proofs.Common.{◌≡◌, ℕ, Bool, true, false, cond, not, ◌&&◌, ◌||◌, refl, ap, sym, ◌∙◌, subst, List, [], ◌∷◌, map, filter, find, Option, Some, None, is_some, Result, Ok, Err, ◌==◌, arith}
use Rattle.std.proofs.lemmas.Bool.{ne_eqb}
use Rattle.posix.specs.declared.process.Life.{Life}
use Rattle.posix.specs.declared.process.News.{News}
use Rattle.posix.specs.declared.process.Blocked.{Blocked}
use Rattle.posix.specs.declared.process.Blocked.TheVariants as blocked
use Rattle.posix.specs.declared.process.Report.{Report}
use Rattle.posix.specs.declared.process.Report.TheVariants as found
use Rattle.posix.specs.declared.target.Target.{Target}
use Rattle.posix.specs.declared.target.Target.TheVariants as whom
use Rattle.posix.specs.declared.errno.Errno.{Errno}
use Rattle.posix.specs.declared.span.Span.{Span}
use Rattle.posix.specs.Common.{KILL, Process, first_process, is_running, is_living, argument, children_in, reparented, State, Console, span_in, wait_by, wait_for, wait_with, asked_by, is_named, report, report_of, report_found, report_among, reports, is_pending, chosen, terminal, read, read_on, read_in, waits_in, waits_on, waits_to_read, attempt_again, can_act, can_go_on, is_block}
use Rattle.posix.specs.declared.waits.WaitCall.{WaitCall}
use Rattle.posix.specs.declared.waits.Asked.{Asked}

-- what a parent that waits sees of a child
pub record Seen : Type 0 where
  pub pid : ℕ
  pub group : ℕ
  pub life : Life
  pub news : News

abbrev pub seen : Process → Seen
seen r = record { pid = r.pid; group = r.group; life = r.life; news = r.news }

-- what p sees of its children
unfoldable pub sees : ℕ → List Process → List Seen
sees p rs = map seen (children_in p rs)

-- the same process, but for its parent
pub record Alike (old new : Process) : Type 0 where
  pub parent : ℕ
  pub is : new ≡ record old { parent = parent }

pub reparented_alike : (from to : ℕ) (r : Process) → Alike r (reparented from to r)
reparented_alike from to r = elim (r.parent == from) as (λ b. Alike r (cond b (record r { parent = to }) r)) [ true ↦ record { parent = to; is = refl } | false ↦ record { parent = r.parent; is = refl } ]

-- ---- what a wait finds

-- a process of which only this is seen
unsee : Seen → Process
unsee e = record first_process { pid = e.pid; group = e.group; life = e.life; news = e.news }

named_seen : (group : ℕ) (target : Target) (r : Process) → is_named group target (unsee (seen r)) ≡ is_named group target r
unfolding unsee
named_seen group whom.All r = refl
named_seen group _ r = refl

report_seen : (options : ℕ) (r : Process) → report_of options (unsee (seen r)) ≡ report_of options r
unfolding unsee report_of
report_seen options r = refl

found_seen : (options : ℕ) (rs : List Process) → report_found options (find (reports options) (map unsee (map seen rs))) ≡ report_found options (find (reports options) rs)
found_seen options [] = refl
found_seen options (r ∷ rs) = grind (arith, report_seen options r, found_seen options rs)

among_seen : (options : ℕ) (rs : List Process) → report_among options (map unsee (map seen rs)) ≡ report_among options rs
among_seen options [] = refl
among_seen options (r ∷ rs) = found_seen options (r ∷ rs)

named_all : (group : ℕ) (target : Target) (rs : List Process) → filter (is_named group target) (map unsee (map seen rs)) ≡ map unsee (map seen (filter (is_named group target) rs))
named_all group target [] = refl
named_all group target (r ∷ rs) = grind (arith, named_seen group target r, named_all group target rs)

-- a report is one of what is seen of the children
report_sees : (rs ts : List Process) (p group : ℕ) (target : Target) (options : ℕ) → sees p rs ≡ sees p ts → report rs p group target options ≡ report ts p group target options
unfolding report sees
report_sees rs ts p group target options e =
    let at = λ (ks : List Process). sym (among_seen options (filter (is_named group target) ks)) ∙ ap (report_among options) (sym (named_all group target ks)) in
    at (children_in p rs) ∙ ap (λ l. report_among options (filter (is_named group target) (map unsee l))) e ∙ sym (at (children_in p ts))

-- ---- whether a call needn't wait

-- what was found decides alone
block_with : (s t : State) (p : ℕ) (call : WaitCall) (options : ℕ) (what : Report) → is_block (wait_with s p call options what) ≡ is_block (wait_with t p call options what)
block_with s t p call options found.NoChild = refl
block_with s t p call options _ = grind arith

block_for : (s t : State) (me : Process) (n : ℕ) (call : WaitCall) (asks : Option Asked) → sees me.pid t.processes ≡ sees me.pid s.processes → is_block (wait_for t me.pid me.group call asks) ≡ is_block (wait_for s me.pid me.group call asks)
block_for s t me n call None e = refl
block_for s t me n call (Some a) e =
    ap (λ w. is_block (wait_with t me.pid call a.options.0 w)) (report_sees t.processes s.processes me.pid me.group a.target a.options.0 e)
    ∙ block_with t s me.pid call a.options.0 (report s.processes me.pid me.group a.target a.options.0)

block_wait : (s t : State) (me : Process) (n : ℕ) (call : WaitCall) → sees me.pid t.processes ≡ sees me.pid s.processes → is_block (wait_by call t (record me { parent = n })) ≡ is_block (wait_by call s me)
unfolding wait_by
block_wait s t me n call e = block_for s t me n call (asked_by call me) e

-- a read, by what its span is
block_in : (s : State) (me : Process) (c : Console) (span : Result Span Errno) → is_block (read_in s me c span) ≡ waits_in me c span
block_in s me c (Err why) = refl
block_in s me c (Ok span) = grind (arith, ne_eqb)

block_on : (s : State) (me : Process) (o : Option Console) → is_block (read_on s me o) ≡ waits_on me o
block_on s me None = refl
block_on s me (Some c) = block_in s me c (span_in (argument me 1) (argument me 2))

-- the consoles decide alone
pub block_read : (s : State) (me : Process) → is_block (read s me) ≡ waits_to_read s.consoles me
unfolding read waits_to_read
block_read s me = block_on s me (terminal s me)

-- whose read waits as before, and who sees the same of its children, goes on as before, whatever its parent is now
go_on_alike : (s t : State) (me : Process) (n : ℕ) (b : Option Blocked) → waits_to_read t.consoles me ≡ waits_to_read s.consoles me → sees me.pid t.processes ≡ sees me.pid s.processes
    → can_go_on t (record me { parent = n }) b ≡ can_go_on s me b
unfolding attempt_again waits_to_read
go_on_alike s t me n (Some (blocked.Wait call)) same e = ap not (block_wait s t me n call e)
go_on_alike s t me n (Some blocked.Read) same e = ap not (block_read t (record me { parent = n }) ∙ same ∙ sym (block_read s me))
go_on_alike s t me n _ same e = refl

-- and can act as before
pub can_act_waits : (s t : State) (old new : Process) → Alike old new → waits_to_read t.consoles old ≡ waits_to_read s.consoles old → sees old.pid t.processes ≡ sees old.pid s.processes → can_act t new ≡ can_act s old
unfolding can_act
can_act_waits s t old new a same e =
    subst (λ new. can_act t new ≡ can_act s old) (sym a.is)
    (ap (λ b. is_living old && is_pending old.signals KILL || is_running old.life && (b || is_some (chosen old.life old.signals))) (go_on_alike s t old a.parent old.blocked same e))

-- so where the consoles are the same
pub can_act_alike : (s t : State) (old new : Process) → Alike old new → t.consoles ≡ s.consoles → sees old.pid t.processes ≡ sees old.pid s.processes → can_act t new ≡ can_act s old
can_act_alike s t old new a same e = can_act_waits s t old new a (ap (λ cs. waits_to_read cs old) same) e

-- the order doesn't count
pub can_act_order : (s : State) (o : List ℕ) (r : Process) → can_act (record s { order = o }) r ≡ can_act s r
can_act_order s o r = can_act_alike s (record s { order = o }) r r (record { parent = r.parent; is = refl }) refl refl

-- ---- who can act no more than before

-- one that goes on in its call only where it did
pub acts_less : (s t : State) (r : Process) → (is_running r.life ≡ true → can_go_on t r r.blocked ≡ true → can_go_on s r r.blocked ≡ true) → can_act t r ≡ true → can_act s r ≡ true
unfolding can_act
acts_less s t r h e = grind (arith, h, e)

-- what waits only where another does goes on where that does
pub less : (a b : Bool) → (a ≡ true → b ≡ true) → not b ≡ true → not a ≡ true
less true b k e = sym (ap not (k refl)) ∙ e
less false b k e = refl

-- one whose read waits where it did, the processes being the same
pub acts_reading : (s t : State) (r : Process) → t.processes ≡ s.processes → (is_running r.life ≡ true → r.blocked ≡ Some blocked.Read → waits_to_read s.consoles r ≡ true → waits_to_read t.consoles r ≡ true) → can_act t r ≡ true → can_act s r ≡ true
unfolding attempt_again
acts_reading s t r same h e = acts_less s t r (λ l k. goes r.blocked (h l) k) e
  where
    goes : (b : Option Blocked) → (b ≡ Some blocked.Read → waits_to_read s.consoles r ≡ true → waits_to_read t.consoles r ≡ true) → can_go_on t r b ≡ true → can_go_on s r b ≡ true
    goes (Some (blocked.Wait call)) k e = sym (ap not (block_wait s t r r.parent call (ap (sees r.pid) same))) ∙ e
    goes (Some blocked.Read) k e = less (is_block (read s r)) (is_block (read t r)) (λ w. block_read t r ∙ k refl (sym (block_read s r) ∙ w)) e
    goes _ k e = e
