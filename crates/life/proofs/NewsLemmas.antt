-- What a change of one child does to waits: a blocked wait finds no more than before if no child that it selects has
-- more to report.
use Rattle.std.proofs.Common.{◌≡◌, ℕ, Bool, true, false, cond, not, ◌&&◌, ◌||◌, is_some, refl, ap, sym, ◌∙◌, subst, List, [], ◌∷◌, map, filter, find, Option, Some, None, ◌==◌, arith, ◌≢◌, inl, inr}
use Rattle.std.proofs.lemmas.Bool.{cond_both, cases_eq, ne_eqb, eq-eqb}
use Rattle.posix.specs.declared.process.Blocked.{Blocked}
use Rattle.posix.specs.declared.process.Blocked.TheVariants as blocked
use Rattle.posix.specs.declared.process.Life.{Life}
use Rattle.posix.specs.declared.process.Life.TheVariants.{Zombie}
use Rattle.posix.specs.declared.process.Report.{Report}
use Rattle.posix.specs.declared.process.Report.TheVariants as found
use Rattle.posix.specs.declared.process.News.TheVariants as news
use Rattle.posix.specs.declared.target.Target.{Target}
use Rattle.posix.specs.declared.target.Target.TheVariants as whom
use Rattle.posix.specs.Common.{KILL, Process, is_running, is_living, Outcome, Done, Block, is_pending, chosen, at, changed, children_in, lookup, IsRising, is_child, State, change, process, is_in, wait_by, wait_for, wait_with, asked_by, is_named, report, report_of, report_life, report_found, report_among, reports, is_something, news_told, has_option, WNOWAIT, waits_to_read, attempt_again, can_act, can_go_on, is_block}
use Rattle.posix.specs.declared.waits.WaitCall.{WaitCall}
use Rattle.posix.specs.declared.waits.Asked.{Asked}
use Rattle.posix.specs.declared.process.News.{News}
use Rattle.posix.proofs.MapLemmas.{at_pid, at_keeps, lookup_back, children_map, filter_map}
use Rattle.posix.proofs.SeeLemmas.{acts_less, block_read, less}
use Rattle.std.specs.List.{AllByRecursion}
use Rattle.life.specs.Rechecks.{awaits, awaits_asked, asked_in}
use Rattle.posix.proofs.TableLemmas.{pid_looked, rising_filter}
use Rattle.posix.proofs.WalkLemmas.{all_looked, in_filter}
use Rattle.posix.proofs.RegularLemmas.{other_back}
use Rattle.posix.proofs.MemberLemmas.{apart_first}
use Rattle.std.proofs.lemmas.Option.{same_Some}
use Rattle.posix.proofs.TouchLemmas.{Touches, touches_shown, stands}

-- ---- what is reported

-- a child reports no more than before
told_life : (options p : ℕ) (l : Life) (n : News) → is_something (report_life options p l news.Nothing) ≡ true → is_something (report_life options p l n) ≡ true
told_life options p (Zombie status) n e = e
told_life options p l n e = absurd (cc)

told_less : (options : ℕ) (r : Process) → reports options (news_told r) ≡ true → reports options r ≡ true
unfolding report_of news_told
told_less options r e = told_life options r.pid r.life r.news e

-- a wait that reported nothing found no child that reports
pub quiet : (options : ℕ) (rs : List Process) → report_found options (find (reports options) rs) ≡ found.Nothing → find (reports options) rs ≡ None
quiet options [] e = refl
quiet options (r ∷ rs) e = grind (arith, e, quiet options rs)

-- and finds none if each that is named reports no more than before
none_more : (named t : Process → Bool) (g : Process → Process) → ((r : Process) → named (g r) ≡ named r) → (rs : List Process) → AllByRecursion (λ r. named r ≡ true → t (g r) ≡ true → t r ≡ true) rs → find t (filter named rs) ≡ None → find t (filter named (map g rs)) ≡ None
none_more named t g same [] less e = refl
none_more named t g same (r ∷ rs) less e = grind (arith, e, same r, less.0, none_more named t g same rs less.1)

-- the same of those that are named
among_still : (options : ℕ) (named : Process → Bool) (g : Process → Process) → ((r : Process) → named (g r) ≡ named r) → (ks : List Process) → AllByRecursion (λ r. named r ≡ true → reports options (g r) ≡ true → reports options r ≡ true) ks
    → report_among options (filter named ks) ≡ found.Nothing → report_among options (filter named (map g ks)) ≡ found.Nothing
among_still options named g same ks less e = by (filter named ks) refl e
  where
    by : (l : List Process) → filter named ks ≡ l → report_among options l ≡ found.Nothing → report_among options (filter named (map g ks)) ≡ found.Nothing
    by [] is e = absurd (cc)
    by (r ∷ rs) is e =
        let all : filter named (map g ks) ≡ map g (r ∷ rs) = filter_map named g same ks ∙ ap (map g) is in
        let none = none_more named (reports options) g same ks less (ap (find (reports options)) is ∙ quiet options (r ∷ rs) e) in
        ap (report_among options) all ∙ ap (report_found options) (sym (ap (find (reports options)) all) ∙ none)

-- ---- runnable processes

-- a process keeps its number, its parent's, its group's and its session's
pub record KeepsNumbers (f : Process → Process) : Type 0 where
  pub pid : (r : Process) → (f r).pid ≡ r.pid
  pub parent : (r : Process) → (f r).parent ≡ r.parent
  pub group : (r : Process) → (f r).group ≡ r.group
  pub session : (r : Process) → (f r).session ≡ r.session

named_kept : (p : ℕ) (f : Process → Process) → KeepsNumbers f → (group : ℕ) (target : Target) (r : Process) → is_named group target (at p f r) ≡ is_named group target r
named_kept p f k group (whom.Process q) r = at_keeps (λ r. r.pid == q) p f (λ r. ap (λ n. n == q) (k.pid r)) r
named_kept p f k group whom.OwnGroup r = at_keeps (λ r. r.group == group) p f (λ r. ap (λ n. n == group) (k.group r)) r
named_kept p f k group (whom.Group g) r = at_keeps (λ r. r.group == g) p f (λ r. ap (λ n. n == g) (k.group r)) r
named_kept p f k group target r = refl

-- After a change of p, each child that a wait selects has no more to report to it than before.
abbrev TellsNoMore : (Process → Process) → List Process → ℕ → ℕ → Target → ℕ → Type 0
TellsNoMore f rs p group target options = (k : Process) → lookup k.pid rs ≡ Some k → is_named group target k ≡ true → reports options (at p f k) ≡ true → reports options k ≡ true

report_still : (p : ℕ) (f : Process → Process) → KeepsNumbers f → (rs : List Process) → IsRising rs → (options caller group : ℕ) (target : Target) → TellsNoMore f rs p group target options
    → report rs caller group target options ≡ found.Nothing → report (changed p f rs) caller group target options ≡ found.Nothing
unfolding report changed children_in
report_still p f k rs up options caller group target less e =
    ap (λ ks. report_among options (filter (is_named group target) ks)) (children_map (at p f) (at_keeps (λ r. r.parent) p f k.parent) caller rs)
    ∙ among_still options (is_named group target) (at p f) (named_kept p f k group target) (filter (is_child caller) rs)
    (all_looked _ (filter (is_child caller) rs) (rising_filter (is_child caller) rs up) (λ q r here.
    let it = in_filter (is_child caller) rs up q r here in
    less r (ap (λ n. lookup n rs) (pid_looked q rs r it.found) ∙ it.found))) e

-- a wait that has to wait found nothing
never_blocks : (b : Bool) (x y : Outcome) → is_block (cond b (Done x) (Done y)) ≡ true → ⊥
never_blocks true x y e = cc
never_blocks false x y e = cc

block_nothing : (s : State) (p : ℕ) (call : WaitCall) (options : ℕ) (o : Report) → is_block (wait_with s p call options o) ≡ true → o ≡ found.Nothing
block_nothing s p call options found.NoChild e = absurd (cc)
block_nothing s p call options found.Nothing e = refl
block_nothing s p call options (found.End c w) e = absurd (never_blocks (has_option options WNOWAIT) _ _ e)
block_nothing s p call options (found.Change c w) e = absurd (never_blocks (has_option options WNOWAIT) _ _ e)

-- a wait of this process that asks this still finds nothing among these processes if it found nothing before
abbrev pub FindsNoMore : State → List Process → Process → Asked → Type 0
FindsNoMore s rs me asks =
    let finds = λ (ps : List Process). report ps me.pid me.group asks.target asks.options.0 in
    finds s.processes ≡ found.Nothing → finds rs ≡ found.Nothing

-- so it still has to wait
block_for : (s : State) (rs : List Process) (me : Process) (call : WaitCall) (asks : Option Asked) → ((a : Asked) → asks ≡ Some a → FindsNoMore s rs me a)
    → is_block (wait_for s me.pid me.group call asks) ≡ true → is_block (wait_for (record s { processes = rs }) me.pid me.group call asks) ≡ true
block_for s rs me call None less e = absurd (cc)
block_for s rs me call (Some a) less e =
    let options = a.options.0 in
    let none = block_nothing s me.pid call options (report s.processes me.pid me.group a.target options) e in
    rw (less a refl none) (still (has_option options 1) _ _ (subst (λ o. is_block (wait_with s me.pid call options o) ≡ true) none e))
  where
    still : (b : Bool) (x y : Outcome) → is_block (cond b (Done x) (Block (blocked.Wait call))) ≡ true → is_block (cond b (Done y) (Block (blocked.Wait call))) ≡ true
    still true x y e = absurd (cc)
    still false x y e = refl

block_still : (s : State) (rs : List Process) (me : Process) (call : WaitCall) → ((a : Asked) → asked_by call me ≡ Some a → FindsNoMore s rs me a) → is_block (wait_by call s me) ≡ true → is_block (wait_by call (record s { processes = rs }) me) ≡ true
unfolding wait_by
block_still s rs me call less e = block_for s rs me call (asked_by call me) less e

-- each process that is then runnable was runnable before, if its wait finds no more
pub acts_no_more : (s : State) (rs : List Process) (r : Process) → ((a : Asked) → asked_in r r.blocked ≡ Some a → FindsNoMore s rs r a) → can_act (record s { processes = rs }) r ≡ true → can_act s r ≡ true
unfolding attempt_again waits_to_read
acts_no_more s rs r finds e = acts_less s (record s { processes = rs }) r (λ l c. goes r.blocked finds c) e
  where
    goes : (b : Option Blocked) → ((a : Asked) → asked_in r b ≡ Some a → FindsNoMore s rs r a) → can_go_on (record s { processes = rs }) r b ≡ true → can_go_on s r b ≡ true
    goes (Some (blocked.Wait call)) h c = less (is_block (wait_by call s r)) (is_block (wait_by call (record s { processes = rs }) r)) (block_still s rs r call h) c
    goes (Some blocked.Read) h c = ap not (block_read s r ∙ sym (block_read (record s { processes = rs }) r)) ∙ c
    goes b h c = c

-- a change of p gives this process's wait nothing more to report
abbrev LearnsNoMore : State → ℕ → (Process → Process) → Process → Asked → Type 0
LearnsNoMore s p f r asks = TellsNoMore f s.processes p r.group asks.target asks.options.0

-- and so it cannot have become runnable
acts_untold : (s : State) (p : ℕ) (f : Process → Process) → KeepsNumbers f → IsRising s.processes → (r : Process) → ((a : Asked) → asked_in r r.blocked ≡ Some a → LearnsNoMore s p f r a) → can_act (change s p f) r ≡ true → can_act s r ≡ true
acts_untold s p f k up r learns e = acts_no_more s (changed p f s.processes) r (λ a waits. report_still p f k s.processes up a.options.0 r.pid r.group a.target (learns a waits)) e

-- ---- a child that was stopped or continued

-- If its parent doesn't wait for just this child, the change makes no process runnable but the child.
pub touches_unawaited : (s : State) (p : ℕ) (f : Process → Process) → KeepsNumbers f → IsRising s.processes → (me : Process) → process s p ≡ Some me → ((parent : Process) → me.parent ≢ p → process s me.parent ≡ Some parent → awaits parent (f me) ≡ false) → Touches s (change s p f) (p ∷ [])
unfolding awaits is_in
touches_unawaited s p f k up me found deaf q r e out = elim (cases_eq q me.parent) [
  | inr other ↦ touches_shown s p f k.pid k.parent up me found q r e (rw (ne_eqb p q (λ same. apart (sym same)), ne_eqb me.parent q (λ same. other (sym same))) refl)
  | inl same ↦
      let was = other_back p q f k.pid apart s.processes r e in
      stands s (change s p f) q r (λ h. h) was (acts_untold s p f k up r (learns (deaf r (λ no. apart (same ∙ no)) (ap (process s) (sym same) ∙ was))))
]
  where
    apart : q ≢ p
    apart = apart_first q p [] out

    both : (a b : Bool) → (a && b) ≡ false → a ≡ true → b ≡ true → ⊥
    both a b e x y = absurd (grind (arith, e, x, y))

    learns : awaits r (f me) ≡ false → (a : Asked) → asked_in r r.blocked ≡ Some a → LearnsNoMore s p f r a
    learns none a waits c here named says = elim (cases_eq c.pid p) [
      | inr other ↦ sym (ap (λ b. reports a.options.0 (cond b (f c) c)) (ne_eqb c.pid p other)) ∙ says
      | inl mine ↦
          let one : c ≡ me = same_Some _ _ (sym here ∙ ap (process s) mine ∙ found) in
          let asks = sym (ap (λ b. reports a.options.0 (cond b (f c) c)) (eq-eqb c.pid p mine)) ∙ says in
          let meant = sym (ap (λ b. is_named r.group a.target (cond b (f c) c)) (eq-eqb c.pid p mine)) ∙ named_kept p f k r.group a.target c ∙ named in
          absurd (both _ _ (subst (λ o. awaits_asked r.group o (f c) ≡ false) waits (subst (λ (m : Process). awaits r (f m) ≡ false) (sym one) none)) meant asks)
    ]

-- ---- status changes that were reported

-- its own status change doesn't matter to it
go_on_told : (s : State) (r : Process) (b : Option Blocked) → can_go_on s (news_told r) b ≡ can_go_on s r b
unfolding attempt_again wait_by waits_to_read news_told
go_on_told s r (Some blocked.Read) = ap not (block_read s (news_told r) ∙ sym (block_read s r))
go_on_told s r b = refl

can_act_told : (s : State) (r : Process) → can_act s (news_told r) ≡ can_act s r
unfolding can_act news_told
can_act_told s r = ap (λ b. is_living r && is_pending r.signals KILL || is_running r.life && (b || is_some (chosen r.life r.signals))) (go_on_told s r r.blocked)

pub keeps_told : KeepsNumbers news_told
unfolding news_told
keeps_told = record { pid = λ r. refl; parent = λ r. refl; group = λ r. refl; session = λ r. refl }

-- So the change makes no process runnable.
pub touches_told : (s : State) (p : ℕ) → IsRising s.processes → Touches s (change s p news_told) []
unfolding changed news_told
touches_told s p up q r e out =
    let b = lookup_back (at p news_told) (at_pid p news_told (λ r. refl)) q s.processes r e in
    record {
      placed = λ h. h;
      old = b.what;
      found = b.found;
      blocked = ap (λ q. q.blocked) b.is ∙ at_keeps (λ q. q.blocked) p news_told (λ q. refl) b.what;
      session = ap (λ q. q.session) b.is ∙ at_keeps (λ q. q.session) p news_told (λ q. refl) b.what;
      life = ap (λ q. q.life) b.is ∙ at_keeps (λ q. q.life) p news_told (λ q. refl) b.what;
      acts = λ h.
          acts_untold s p news_told keeps_told up b.what (λ a waits k here named. cond_both (k.pid == p) (news_told k) k (λ q. reports a.options.0 q ≡ true → reports a.options.0 k ≡ true) (λ e. told_less a.options.0 k) (λ e x. x))
          (sym (at_keeps (can_act (change s p news_told)) p news_told (can_act_told (change s p news_told)) b.what) ∙ sym (ap (can_act (change s p news_told)) b.is) ∙ h);
    }
