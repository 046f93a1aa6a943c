-- Waits that are judged by one child, and the processes that are rechecked after SIGCONT was sent to one process: it,
-- and its parent if that waits for just this child.
use Rattle.std.proofs.Common.{◌≡◌, ℕ, ℤ, ◌≤◌, Bool, true, false, cond, not, ◌||◌, ◌==◌, refl, ap, sym, ◌∙◌, inl, inr, arith, List, [], ◌∷◌, filter, find, Option, Some, None}
use Rattle.std.proofs.lemmas.Bool.{eq-eqb, both_ways, or_left, or_right, or_cases, and_parts}
use Rattle.posix.specs.declared.process.Effect.{Effect}
use Rattle.posix.specs.declared.process.Effect.TheVariants as effect
use Rattle.posix.specs.declared.process.PendingSignal.{PendingSignal}
use Rattle.posix.specs.declared.process.Report.{Report}
use Rattle.posix.specs.declared.process.Report.TheVariants as found
use Rattle.posix.specs.declared.target.Target.{Target}
use Rattle.posix.specs.declared.target.Target.TheVariants as whom
use Rattle.posix.specs.Common.{Process, IsRising, has_pid, is_child, lookup, at, changed, children_in, State, is_in, continued, may, Outcome, Done, finished, signalled, effect_of, acted_upon, child_signal, generated_for, noticed_of_change, resumed, told_of_change, signalled_all, targets, permitted, sent, sent_among, is_block, report, report_among, wait_for, wait_with, has_option, WNOWAIT, is_named, is_something, report_life, report_of, reports}
use Rattle.posix.specs.declared.waits.WaitCall.{WaitCall}
use Rattle.posix.specs.declared.waits.Asked.{Asked}
use Rattle.posix.proofs.ChangeLemmas.{unseen_noticed_of_change}
use Rattle.posix.proofs.MapLemmas.{at_keeps, at_pid, lookup_on}
use Rattle.posix.proofs.SeeLemmas.{seen}
use Rattle.posix.proofs.TableLemmas.{pid_looked}
use Rattle.posix.proofs.WalkLemmas.{numbered_one, numbered_none}
use Rattle.pidset.specs.Numbers.{with_number}
use Rattle.jobs.specs.IndexedTables.{takes_signal}
use Rattle.life.specs.Rechecks.{awaits, awaits_asked, asked_in, is_in_wait, rechecking, rechecking_all, rechecking_by_signals, rechecking_effect, rechecking_generated, rechecking_signalled, rechecking_told}
use Rattle.life.specs.Waits.{is_reported}
use Rattle.life.proofs.FunnelLemmas.{with_twice}
use Rattle.life.proofs.NewsLemmas.{quiet}
use Rattle.life.proofs.SignalLemmas.{only_noticed_of_change}
use Rattle.calls.specs.Counts.{reports_first, slots_of_rechecks}
use Rattle.calls.proofs.ChosenLemmas.{changed_there}
use Rattle.calls.proofs.CountLemmas.{judged_brief, reports_at_once, rechecks_one, rechecks_pair}

-- ---- what a parent sees of a child

named_alike : (group : ℕ) (target : Target) (a b : Process) → seen a ≡ seen b → is_named group target a ≡ is_named group target b
named_alike group (whom.Process p) a b e = ap (λ s. s.pid == p) e
named_alike group whom.OwnGroup a b e = ap (λ s. s.group == group) e
named_alike group (whom.Group p) a b e = ap (λ s. s.group == p) e
named_alike group target a b e = refl

reports_alike : (options : ℕ) (a b : Process) → seen a ≡ seen b → reports options a ≡ reports options b
unfolding report_of
reports_alike options a b e = ap (λ s. is_something (report_life options s.pid s.life s.news)) e

-- a wait for a child reports it, if it is looked at first
asked_first : (rs : List Process) (p : ℕ) (me child now : Process) (o : Option Asked) → lookup p rs ≡ Some now → now.parent ≡ me.pid → seen now ≡ seen child → awaits_asked me.group o child ≡ true → reports_at_once rs p me o ≡ true
asked_first rs p me child now None found up same waits = refl
asked_first rs p me child now (Some a) found up same waits =
    let asks = and_parts (is_named me.group a.target child) _ waits in
    rw (found, eq-eqb now.parent me.pid up, named_alike me.group a.target now child same, reports_alike a.options.0 now child same, asks.0, asks.1) refl

awaited_first : (rs : List Process) (p : ℕ) (me child now : Process) → lookup p rs ≡ Some now → now.parent ≡ me.pid → seen now ≡ seen child → awaits me child ≡ true → reports_at_once rs p me (asked_in me me.blocked) ≡ true
unfolding awaits
awaited_first rs p me child now found up same waits = asked_first rs p me child now (asked_in me me.blocked) found up same waits

-- ---- a wait that reports the process that is looked at first

nobody : (options : ℕ) (rs : List Process) → report_among options rs ≡ found.Nothing → find (reports options) rs ≡ None
nobody options [] e = absurd (cc)
nobody options (r ∷ rs) e = quiet options (r ∷ rs) e

-- an existing process that is a child and selected reports nothing if nothing was found
silent : (t meant child : Process → Bool) (rs : List Process) (q : ℕ) (r : Process) → lookup q rs ≡ Some r → meant r ≡ true → child r ≡ true → find t (filter meant (filter child rs)) ≡ None → t r ≡ false
unfolding lookup
silent t meant child [] q r found m k e = absurd (cc)
silent t meant child (x ∷ xs) q r found m k e = grind (arith, found, m, k, e, silent t meant child xs q r)

reports_something : (rs : List Process) (q p group : ℕ) (target : Target) (options : ℕ) (o : Option Process) → lookup q rs ≡ o → is_reported p group target options o ≡ true → report rs p group target options ≡ found.Nothing → ⊥
unfolding report children_in
reports_something rs q p group target options None e t none = absurd (cc)
reports_something rs q p group target options (Some r) e t none =
    let child = and_parts (r.parent == p) _ t in
    let meant = and_parts (is_named group target r) _ child.1 in
    both_ways _ (silent (reports options) (is_named group target) (is_child p) rs q r e meant.0 child.0 (nobody options _ none)) meant.1

-- so it needn't wait
pub first_reported : (s : State) (me : Process) (first : Option ℕ) (call : WaitCall) (a : Asked) → reports_first s.processes first me.pid me.group a ≡ true → is_block (wait_for s me.pid me.group call (Some a)) ≡ false
first_reported s me None call a told = absurd (cc)
first_reported s me (Some q) call a told = by (report s.processes me.pid me.group a.target a.options.0) refl
  where
    done : (b : Bool) (x y : Outcome) → is_block (cond b (Done x) (Done y)) ≡ false
    done true x y = refl
    done false x y = refl

    by : (o : Report) → report s.processes me.pid me.group a.target a.options.0 ≡ o → is_block (wait_with s me.pid call a.options.0 o) ≡ false
    by found.NoChild e = refl
    by found.Nothing e = absurd (reports_something s.processes q me.pid me.group a.target a.options.0 (lookup q s.processes) refl told e)
    by (found.End c w) e = done (has_option a.options.0 WNOWAIT) _ _
    by (found.Change c w) e = done (has_option a.options.0 WNOWAIT) _ _

-- ---- CONT

seen_noticed : (signal : PendingSignal) (r : Process) → seen (noticed_of_change signal r) ≡ seen r
seen_noticed signal r = ap seen (only_noticed_of_change signal r)

-- a parent that its child makes runnable looks at no other child
parent_told : (results : List (ℕ × ℤ)) (c p : ℕ) (ts : List Process) (up child now : Process) → lookup p ts ≡ Some now → now.parent ≡ up.pid → seen now ≡ seen child → (awaits up child || takes_signal up) ≡ true
    → let u = at c (finished results) up in (takes_signal u || (not (is_in_wait u.blocked) || reports_at_once ts p u (asked_in u u.blocked))) ≡ true
unfolding finished
parent_told results c p ts up child now found its same acts = by (up.pid == c)
  where
    by : (b : Bool) → let u = cond b (finished results up) up in (takes_signal u || (not (is_in_wait u.blocked) || reports_at_once ts p u (asked_in u u.blocked))) ≡ true
    by true = or_right (takes_signal (finished results up)) _ refl
    by false = elim (or_cases _ _ acts) [
      | inl waits ↦ or_right (takes_signal up) _ (or_right (not (is_in_wait up.blocked)) _ (awaited_first ts p up child now found its same waits))
      | inr takes ↦ or_left (takes_signal up) _ takes
    ]

-- a process was continued, and its parent notified, before the caller c finished its call
told_slots : (results : List (ℕ × ℤ)) (c : ℕ) (signal : PendingSignal) (r : Process) (rs : List Process) (order ns : List ℕ) → lookup r.pid rs ≡ Some r → with_number r.pid ns ≡ r.pid ∷ []
    → let mid = told_of_change continued r (changed r.pid resumed (changed r.pid (signalled signal) rs)) in slots_of_rechecks (changed c (finished results) mid) None (rechecking_told (resumed (signalled signal r)) (lookup r.parent mid) order ns) ≤ 7
unfolding told_of_change signalled resumed changed finished
told_slots results c signal r rs order ns found alone = by (lookup q mid) refl
  where
    p : ℕ
    p = r.pid

    q : ℕ
    q = r.parent

    f : Process → Process
    f = signalled signal

    g : Process → Process
    g = noticed_of_change (child_signal p continued)

    child : Process
    child = resumed (f r)

    before : List Process
    before = changed p resumed (changed p f rs)

    mid : List Process
    mid = changed q g before

    ts : List Process
    ts = changed c (finished results) mid

    told : Process
    told = at q g child

    now : Process
    now = at c (finished results) told

    here : lookup p ts ≡ Some now
    here = lookup_on (at c (finished results)) (at_pid c (finished results) (λ r. refl)) p mid told (lookup_on (at q g) (at_pid q g (unseen_noticed_of_change (child_signal p continued)).pid) p before child (changed_there p resumed (λ r. refl) (changed p f rs) (f r) (changed_there p f (λ r. refl) rs r found)))

    same : seen now ≡ seen child
    same = at_keeps seen c (finished results) (λ r. refl) told ∙ at_keeps seen q g (seen_noticed (child_signal p continued)) child

    its : now.parent ≡ q
    its = at_keeps (λ r. r.parent) c (finished results) (λ r. refl) told ∙ at_keeps (λ r. r.parent) q g (unseen_noticed_of_change (child_signal p continued)).parent child

    one : (l : List ℕ) → l ≡ p ∷ [] → slots_of_rechecks ts None l ≤ 7
    one l e = rw e (let most = rechecks_one ts p now here in omega (arith, most))

    by : (o : Option Process) → lookup q mid ≡ o → slots_of_rechecks ts None (rechecking_told child o order ns) ≤ 7
    by None none = one (with_number p ns) alone
    by (Some up) there = elim (awaits up child || takes_signal up) as (λ b. (awaits up child || takes_signal up) ≡ b → slots_of_rechecks ts None (cond b (rechecking up.pid order (with_number p ns)) (with_number p ns)) ≤ 7) [
      | false ↦ λ e. one (with_number p ns) alone
      | true ↦ λ e. elim (is_in up.pid order) as (λ b. slots_of_rechecks ts None (cond b (with_number p ns) (with_number up.pid (with_number p ns))) ≤ 7) [
        | true ↦ one (with_number p ns) alone
        | false ↦
            let named = pid_looked q mid up there in
            let found_up = lookup_on (at c (finished results)) (at_pid c (finished results) (λ r. refl)) up.pid mid up (ap (λ n. lookup n mid) named ∙ there) in
            let most = rechecks_pair ts p up.pid now (at c (finished results) up) here found_up (parent_told results c p ts up child now here (its ∙ sym named) same e) in
            rw alone (omega (arith, most))
      ]
    ] refl

-- a signal that continues no process
plain_slots : (results : List (ℕ × ℤ)) (c : ℕ) (signal : PendingSignal) (r : Process) (rs : List Process) (order : List ℕ) → lookup r.pid rs ≡ Some r
    → slots_of_rechecks (changed c (finished results) (changed r.pid (signalled signal) rs)) None (rechecking_by_signals (Some (signalled signal r)) order []) ≤ 7
unfolding signalled changed slots_of_rechecks with_number finished
plain_slots results c signal r rs order found =
    let it = signalled signal r in
    let here = lookup_on (at c (finished results)) (at_pid c (finished results) (λ r. refl)) r.pid (changed r.pid (signalled signal) rs) it (changed_there r.pid (signalled signal) (λ r. refl) rs r found) in
    elim (takes_signal it) as (λ b. takes_signal it ≡ b → slots_of_rechecks (changed c (finished results) (changed r.pid (signalled signal) rs)) None (cond b (rechecking r.pid order []) []) ≤ 7) [
      | false ↦ λ e. omega arith
      | true ↦ λ e. elim (is_in r.pid order) as (λ b. slots_of_rechecks (changed c (finished results) (changed r.pid (signalled signal) rs)) None (cond b [] (r.pid ∷ [])) ≤ 7) [
        | true ↦ omega arith
        | false ↦ let two = judged_brief (changed c (finished results) (changed r.pid (signalled signal) rs)) None (at c (finished results) it) (or_left _ _ (at_keeps takes_signal c (finished results) (λ r. refl) it ∙ e)) in rw here (omega (arith, two))
      ]
    ] refl

-- any signal
generated_slots : (results : List (ℕ × ℤ)) (c : ℕ) (signal : PendingSignal) (r : Process) (rs : List Process) (order : List ℕ) → lookup r.pid rs ≡ Some r
    → slots_of_rechecks (changed c (finished results) (generated_for signal (Some r) rs)) None (rechecking_generated signal (Some r) rs order []) ≤ 7
unfolding with_number signalled
generated_slots results c signal r rs order found = by (effect_of r.pid r.life signal r.signals) refl
  where
    after : Effect → List Process
    after w = acted_upon w r (changed r.pid (signalled signal) rs)

    listed : (b : Bool) → with_number r.pid (cond b (rechecking r.pid order []) []) ≡ r.pid ∷ []
    listed false = refl
    listed true = elim (is_in r.pid order) as (λ b. with_number r.pid (cond b [] (with_number r.pid [])) ≡ r.pid ∷ []) [ true ↦ refl | false ↦ with_twice r.pid [] ]

    by : (w : Effect) → effect_of r.pid r.life signal r.signals ≡ w → slots_of_rechecks (changed c (finished results) (after w)) None (rechecking_effect w (signalled signal r) (after w) order (rechecking_by_signals (Some (signalled signal r)) order [])) ≤ 7
    by effect.Nothing e = let most = plain_slots results c signal r rs order found in omega (arith, most)
    by effect.Continued e = told_slots results c signal r rs order (rechecking_by_signals (Some (signalled signal r)) order []) found (listed (takes_signal (signalled signal r)))

-- and if it was sent to one process by its ID
pub sent_slots : (results : List (ℕ × ℤ)) (me : Process) (p : ℕ) (signal : PendingSignal) (rs : List Process) (order : List ℕ) → IsRising rs
    → slots_of_rechecks (changed me.pid (finished results) (sent me (whom.Process p) (Some signal) rs)) None (rechecking_signalled me (Some signal) (targets me (whom.Process p) rs) rs order []) ≤ 7
unfolding sent sent_among targets permitted rechecking_signalled rechecking_all signalled_all slots_of_rechecks
sent_slots results me p signal rs order up = by (lookup p rs) refl
  where
    all : List Process → ℕ
    all qs = slots_of_rechecks (changed me.pid (finished results) (sent_among me (Some signal) qs rs)) None (rechecking_signalled me (Some signal) qs rs order [])

    by : (o : Option Process) → lookup p rs ≡ o → all (filter (has_pid p) rs) ≤ 7
    by None none = rw (numbered_none p rs none) (omega arith)
    by (Some r) found = rw (numbered_one p rs up r found) (elim (may me (Some signal.sig) r) as (λ b. may me (Some signal.sig) r ≡ b → all (r ∷ []) ≤ 7) [
      | false ↦ λ e. rw e (omega arith)
      | true ↦ λ e. let here = ap (λ q. lookup q rs) (pid_looked p rs r found) ∙ found in rw (e, here) (generated_slots results me.pid signal r rs order here)
    ] refl)
