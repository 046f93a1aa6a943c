-- What an adoption does to the new parent: if no child has a status change, the adoption doesn't make it runnable.
use Rattle.std.proofs.Common.{◌≡◌, ◌≤◌, ℕ, Bool, true, false, refl, ap, sym, ◌∙◌, subst, List, [], ◌∷◌, filter, find, Some, None, arith, inl, inr}
use Rattle.std.proofs.lemmas.Bool.{cases_eq, ne_eqb, eqb-true, eqb-false}
use Rattle.posix.specs.declared.process.Report.TheVariants as found
use Rattle.posix.specs.declared.target.Target.{Target}
use Rattle.posix.specs.declared.target.Target.TheVariants as whom
use Rattle.posix.specs.declared.process.Life.{Life}
use Rattle.posix.specs.declared.process.Life.TheVariants.{Running, Stopped, Zombie}
use Rattle.posix.specs.declared.process.News.{News}
use Rattle.posix.specs.declared.process.News.TheVariants as news
use Rattle.posix.specs.Common.{Process, IsRising, lookup, children_in, first_pid, above, reparented, adopted, State, is_in, sorts, is_named, is_something, report, report_life, report_of, report_found, report_among, reports, wanted_in}
use Rattle.posix.proofs.TableLemmas.{pid_looked, pid_reparented, reparented_keeps}
use Rattle.posix.proofs.MapLemmas.{lookup_back}
use Rattle.posix.proofs.MemberLemmas.{apart_first}
use Rattle.posix.proofs.ReportingLemmas.{wanted_begins, wanted_over}
use Rattle.posix.proofs.SeeLemmas.{Alike, reparented_alike, can_act_alike}
use Rattle.posix.proofs.TouchLemmas.{Touches, stands_alike, touches_adopted}
use Rattle.life.proofs.NewsLemmas.{acts_no_more, quiet}
use Rattle.life.proofs.SendLemmas.{all_pass}

-- none of the children of p has anything to report
abbrev pub AreQuiet : ℕ → List Process → Type 0
AreQuiet p rs = (options : ℕ) → find (reports options) (children_in p rs) ≡ None

-- a child with no status change of any kind has none that a wait requests
silent : (options : ℕ) (r : Process) → reports sorts r ≡ false → reports options r ≡ false
unfolding report_of
silent options r e = by r.life r.news e
  where
    by : (l : Life) (n : News) → is_something (report_life sorts r.pid l n) ≡ false → is_something (report_life options r.pid l n) ≡ false
    by Running news.Nothing e = refl
    by Running (news.StoppedBy s) e = absurd (cc)
    by Running news.Continued e = absurd (cc)
    by Stopped news.Nothing e = refl
    by Stopped (news.StoppedBy s) e = absurd (cc)
    by Stopped news.Continued e = absurd (cc)
    by (Zombie w) n e = absurd (cc)

-- nor do these children, if none is found that has one
pub quiet_children : (rs : List Process) → IsRising rs → ((q : ℕ) (r : Process) → lookup q rs ≡ Some r → 1 ≤ r.pid) → (p : ℕ) → None ≡ first_pid (above 0 (wanted_in sorts p rs)) → AreQuiet p rs
unfolding wanted_in
quiet_children rs up least p e options = by (children_in p rs) (wanted_over (wanted_begins rs up least p (λ r. true) sorts None e) refl ∙ ap first_pid (all_pass (λ r. true) (λ r. refl) (wanted_in sorts p rs)))
  where
    by : (ks : List Process) → None ≡ first_pid (filter (reports sorts) ks) → find (reports options) ks ≡ None
    by [] e = refl
    by (k ∷ ks) e = grind (arith, e, silent options k, by ks)

-- ---- what a wait of the new parent finds

named_adopted : (p heir group : ℕ) (target : Target) (r : Process) → is_named group target (reparented p heir r) ≡ is_named group target r
named_adopted p heir group (whom.Process q) r = grind arith
named_adopted p heir group whom.OwnGroup r = grind arith
named_adopted p heir group (whom.Group g) r = grind arith
named_adopted p heir group target r = refl

-- neither its own children nor those that it gets report
none_adopted : (named t : Process → Bool) (p heir : ℕ) → ((r : Process) → named (reparented p heir r) ≡ named r) → ((r : Process) → t (reparented p heir r) ≡ t r) → (rs : List Process)
    → find t (children_in p rs) ≡ None → find t (filter named (children_in heir rs)) ≡ None → find t (filter named (children_in heir (adopted p heir rs))) ≡ None
unfolding children_in adopted
none_adopted named t p heir same alike [] e k = refl
none_adopted named t p heir same alike (r ∷ rs) e k = grind (arith, e, k, same r, alike r, none_adopted named t p heir same alike rs, eqb-true, eqb-false)

-- and its own stay
some_adopted : (named : Process → Bool) (p heir : ℕ) → ((r : Process) → named (reparented p heir r) ≡ named r) → (rs : List Process) → filter named (children_in heir (adopted p heir rs)) ≡ [] → filter named (children_in heir rs) ≡ []
unfolding children_in adopted
some_adopted named p heir same [] e = refl
some_adopted named p heir same (r ∷ rs) e = grind (arith, e, same r, some_adopted named p heir same rs, eqb-true, eqb-false)

report_adopted : (rs : List Process) (p heir group options : ℕ) (target : Target) → AreQuiet p rs → report rs heir group target options ≡ found.Nothing → report (adopted p heir rs) heir group target options ≡ found.Nothing
unfolding report report_of
report_adopted rs p heir group options target silent e = by (filter named (children_in heir rs)) refl e (filter named (children_in heir (adopted p heir rs))) refl
  where
    named : Process → Bool
    named = is_named group target

    by : (ks : List Process) → filter named (children_in heir rs) ≡ ks → report_among options ks ≡ found.Nothing → (ls : List Process) → filter named (children_in heir (adopted p heir rs)) ≡ ls → report_among options ls ≡ found.Nothing
    by [] was e ls now = absurd (cc)
    by (k ∷ ks) was e [] now = let none = sym was ∙ some_adopted named p heir (named_adopted p heir group target) rs now in absurd (cc)
    by (k ∷ ks) was e (l ∷ ls) now =
        let none = none_adopted named (reports options) p heir (named_adopted p heir group target) (reparented_keeps (reports options) p heir (λ r. refl)) rs (silent options) (ap (find (reports options)) was ∙ quiet options (k ∷ ks) e) in
        ap (report_found options) (sym (ap (find (reports options)) now) ∙ none)

-- ---- which processes it touches

-- it makes no process runnable but the one that gave its children away
pub touches_quiet : (s : State) (p heir : ℕ) → AreQuiet p s.processes → Touches s (record s { processes = adopted p heir s.processes }) (p ∷ [])
unfolding adopted is_in
touches_quiet s p heir silent q r e out = elim (cases_eq q heir) [
  | inr other ↦ touches_adopted s p heir q r e (rw (ne_eqb p q (λ same. apart_first q p [] out (sym same)), ne_eqb heir q (λ same. other (sym same))) refl)
  | inl same ↦
      let t = record s { processes = adopted p heir s.processes } in
      let b = lookup_back (reparented p heir) (pid_reparented p heir) q s.processes r e in
      let alike : Alike b.what r = subst (Alike b.what) (sym b.is) (reparented_alike p heir b.what) in
      let named : b.what.pid ≡ heir = pid_looked q s.processes b.what b.found ∙ same in
      stands_alike s t q b.what r (λ h. h) b.found alike (λ h.
      acts_no_more s t.processes b.what (λ a waits.
      subst (λ n. report s.processes n b.what.group a.target a.options.0 ≡ found.Nothing → report t.processes n b.what.group a.target a.options.0 ≡ found.Nothing) (sym named)
      (report_adopted s.processes p heir b.what.group a.options.0 a.target silent))
      (sym (can_act_alike t t b.what r alike refl refl) ∙ h))
]
