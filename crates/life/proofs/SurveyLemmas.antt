-- A survey of the processes one after another, from the lowest ID on, is the survey of all that are selected.
use Rattle.std.proofs.Common.{◌≡◌, ◌+◌, ◌≤◌, ◌&&◌, ℕ, Bool, true, false, cond, not, refl, ap, sym, ◌∙◌, arith, List, [], ◌∷◌, ◌++◌, filter, length, Option, Some, None}
use Rattle.std.proofs.Math.Nat.{le_trans}
use Rattle.std.specs.List.{list_any}
use Rattle.std.proofs.Math.Bool.{or_assoc, or-false}
use Rattle.std.proofs.lemmas.List.{length-append}
use Rattle.std.proofs.lemmas.List.Folds.{list_any-append}
use Rattle.posix.specs.declared.process.Life.{Life}
use Rattle.posix.specs.declared.process.Sending.{Sending}
use Rattle.posix.specs.declared.process.Sending.TheVariants as found
use Rattle.posix.specs.declared.target.Target.{Target}
use Rattle.posix.specs.Common.{is_realtime, Process, Signals, IsRising, IsNext, above, lookup, left_of, may, gets_no_signals, keeps, has_full_queue, is_queuer, is_target, permitted, queuers, targets}
use Rattle.posix.proofs.PassingLemmas.{filter_at_most}
use Rattle.posix.proofs.WalkLemmas.{numbered, rest_of_walk, walk_splits}
use Rattle.life.specs.declared.surveys.Survey.{Survey}
use Rattle.life.specs.Queues.{joined_surveys, queuing, survey_of}
use Rattle.life.specs.Loans.{looked}
use Rattle.life.specs.Machines.{AreSame, Looks, MachineView}
use Rattle.life.proofs.ViewLemmas.{same_then}
use Rattle.life.proofs.QueueLemmas.{queuing_append}
use Rattle.life.proofs.SendLemmas.{joined_none, joined_twice, sending_append, target_one}

-- the survey of some processes, for none of which the signal would be queued
abbrev pub unqueued : Sending → Survey
unqueued f = record { found = f; is_full = false; queuers = 0 }

-- the survey of some processes, at least one of which may be signalled
abbrev pub asked : Bool → ℕ → Survey
asked full many = record { found = found.Permitted; is_full = full; queuers = many }

-- ---- two parts

-- brackets don't count
pub surveys_twice : (a b c : Survey) → joined_surveys (joined_surveys a b) c ≡ joined_surveys a (joined_surveys b c)
surveys_twice a b c = grind (arith, joined_twice, or_assoc)

-- nor does the survey of no process
pub surveys_none : (a : Survey) → joined_surveys a (unqueued found.NobodyFound) ≡ a
surveys_none a = grind (arith, joined_none, or-false)

pub none_surveys : (a : Survey) → joined_surveys (unqueued found.NobodyFound) a ≡ a
none_surveys a = grind (arith)

pub survey_missed : (me : Process) (n : ℕ) (qs : List Process) → qs ≡ [] → unqueued found.NobodyFound ≡ survey_of me n qs
unfolding survey_of permitted queuers
survey_missed me n qs none = rw none refl

-- the survey of some and of others is that of all of them
pub survey_append : (me : Process) (n : ℕ) (xs ys : List Process) → joined_surveys (survey_of me n xs) (survey_of me n ys) ≡ survey_of me n (xs ++ ys)
unfolding survey_of
survey_append me n xs ys =
    let full = ap (list_any has_full_queue) (queuing_append me (Some n) xs ys) ∙ list_any-append has_full_queue (queuing me n xs) (queuing me n ys) in
    let many = ap length (queuing_append me (Some n) xs ys) ∙ length-append (queuing me n xs) (queuing me n ys) in
    rw (full, many, sym (sending_append me (Some n) xs ys)) refl

-- ---- one number

-- a selected process may not be signalled
pub survey_forbidden : (me : Process) (n : ℕ) (target : Target) (p : ℕ) (rs : List Process) → IsRising rs → (q : Process) → lookup p rs ≡ Some q → is_target me target q ≡ true → may me (Some n) q ≡ false
    → unqueued found.NobodyPermitted ≡ survey_of me n (targets me target (numbered p rs))
unfolding survey_of permitted queuers
survey_forbidden me n target p rs up q e t m = rw (target_one me target p rs up q e t, m) refl

-- whether a signal would be queued for it, of what was read of it
pub queuer_read : (n p : ℕ) (life : Life) (g : Signals) (q : Process) → q.pid ≡ p → life ≡ q.life → g ≡ q.signals → (is_realtime n && (not (gets_no_signals p life g n) && keeps g n)) ≡ is_queuer n q
queuer_read n p life g q named lives has = rw (sym named, lives, has) refl

-- or may be
pub survey_permitted : (me : Process) (n : ℕ) (target : Target) (p : ℕ) (rs : List Process) → IsRising rs → (q : Process) → lookup p rs ≡ Some q → is_target me target q ≡ true → may me (Some n) q ≡ true → (b : Bool) → b ≡ is_queuer n q
    → asked (b && has_full_queue q) (cond b 1 0) ≡ survey_of me n (targets me target (numbered p rs))
unfolding survey_of permitted queuers
survey_permitted me n target p rs up q e t m b is = rw (target_one me target p rs up q e t, m) (by b is)
  where
    by : (b : Bool) → b ≡ is_queuer n q → asked (b && has_full_queue q) (cond b 1 0) ≡ asked (list_any has_full_queue (cond (is_queuer n q) (q ∷ []) [])) (length (cond (is_queuer n q) (q ∷ []) []))
    by true is = rw (sym is, or-false (has_full_queue q)) refl
    by false is = rw (sym is) refl

-- one more look costs at most one slot more
pub one_seen : (more : ℕ → ℕ) → ((n : ℕ) → more n ≤ n + 1) → ((n : ℕ) → n ≤ more n) → (old mid : MachineView) → Looks 1 old mid → (new : MachineView) → new ≡ looked more mid → Looks 2 old new
one_seen more most least old mid looks new is =
    let same : AreSame mid (looked more mid) = record { state = refl; to_recheck = refl; groups_at_risk = refl; foregrounds_unchecked = refl; readers = refl } in
    rw is record { same = same_then looks.same same; visits = omega (arith, most mid.visits, looks.visits); no_fewer = le_trans looks.no_fewer (least mid.visits); regular = looks.regular }

-- ---- the walk

-- what is left from p on is p, and what is left from the one that comes next on
pub survey_splits : (me : Process) (n : ℕ) (target : Target) (p : ℕ) (rs : List Process) (next : Option ℕ) → IsRising rs → IsNext (is_target me target) p rs next
    → joined_surveys (survey_of me n (targets me target (numbered p rs))) (survey_of me n (targets me target (left_of next rs))) ≡ survey_of me n (targets me target (left_of (Some p) rs))
unfolding targets
survey_splits me n target p rs next up comes =
    let t = is_target me target in
    ap (λ l. joined_surveys (survey_of me n (filter t (numbered p rs))) (survey_of me n l)) (rest_of_walk t p rs next up comes)
    ∙ survey_append me n _ _
    ∙ ap (survey_of me n) (sym (walk_splits t p rs up))

-- a walk that knows the survey of those before p and of p knows all but what is left
pub surveyed_on : (me : Process) (n : ℕ) (target : Target) (p : ℕ) (rs : List Process) (now next : Option ℕ) (done one after all : Survey) → IsRising rs → now ≡ Some p → IsNext (is_target me target) p rs next
    → one ≡ survey_of me n (targets me target (numbered p rs)) → after ≡ joined_surveys done one → joined_surveys done (survey_of me n (targets me target (left_of now rs))) ≡ all → joined_surveys after (survey_of me n (targets me target (left_of next rs))) ≡ all
surveyed_on me n target p rs now next done one after all up here comes is on all_is =
    let left = survey_of me n (targets me target (left_of next rs)) in
    ap (λ s. joined_surveys s left) on
    ∙ surveys_twice done one left
    ∙ ap (λ s. joined_surveys done (joined_surveys s left)) is
    ∙ ap (joined_surveys done) (survey_splits me n target p rs next up comes)
    ∙ ap (λ (o : Option ℕ). joined_surveys done (survey_of me n (targets me target (left_of o rs)))) (sym here)
    ∙ all_is

-- at the end no process is left
pub surveyed_all : (me : Process) (n : ℕ) (target : Target) (rs : List Process) (now : Option ℕ) (done all : Survey) → now ≡ None → joined_surveys done (survey_of me n (targets me target (left_of now rs))) ≡ all → done ≡ all
unfolding survey_of targets permitted queuers
surveyed_all me n target rs now done all none all_is =
    sym (surveys_none done)
    ∙ ap (λ (o : Option ℕ). joined_surveys done (survey_of me n (targets me target (left_of o rs)))) (sym none)
    ∙ all_is

-- it would be queued for no more processes than there are
pub few_queuers : (me : Process) (n : ℕ) (target : Target) (rs : List Process) → (survey_of me n (targets me target rs)).queuers ≤ length rs
unfolding survey_of targets permitted queuers
few_queuers me n target rs =
    let some = filter (is_target me target) rs in
    let permits = filter (may me (Some n)) some in
    omega (arith, filter_at_most (is_queuer n) permits, filter_at_most (may me (Some n)) some, filter_at_most (is_target me target) rs)

-- so for those before p and for p, as they are part of all
pub few_so_far : (me : Process) (n : ℕ) (target : Target) (p : ℕ) (rs : List Process) (now : Option ℕ) (done one : Survey) → IsRising rs → now ≡ Some p → one ≡ survey_of me n (targets me target (numbered p rs))
    → joined_surveys done (survey_of me n (targets me target (left_of now rs))) ≡ survey_of me n (targets me target rs) → done.queuers + one.queuers ≤ length rs
unfolding targets
few_so_far me n target p rs now done one up here is all_is =
    let t = is_target me target in
    let left = survey_append me n (filter t (numbered p rs)) (filter t (above p rs)) ∙ ap (survey_of me n) (sym (walk_splits t p rs up)) ∙ ap (λ (o : Option ℕ). survey_of me n (filter t (left_of o rs))) (sym here) in
    let sum = ap (λ (s : Survey). done.queuers + s.queuers) left ∙ ap (λ (s : Survey). s.queuers) all_is in
    let one_is = ap (λ (s : Survey). s.queuers) is in
    omega (arith, sum, one_is, few_queuers me n target rs)
