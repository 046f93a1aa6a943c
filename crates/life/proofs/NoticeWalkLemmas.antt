-- The walk over the zombies among a terminating process's children, which notifies their new parent of each.
use Rattle.std.proofs.Common.{◌≡◌, ◌≢◌, ℕ, ◌+◌, ◌<◌, ◌≤◌, true, not, refl, ap, sym, ◌∙◌, arith, List, [], ◌∷◌, length, map, filter, Option, Some, None, ◌==◌, nat_lt}
use Rattle.std.specs.Option.{IfSome, IsSome}
use Rattle.std.proofs.lemmas.Bool.{eqb-true, ne_eqb, cond_both}
use Rattle.std.proofs.lemmas.List.{length-map}
use Rattle.std.proofs.lemmas.List.Elements.{filter_agree}
use Rattle.std.proofs.lemmas.Bool.Decides.{nat_tests}
use Rattle.posix.specs.declared.process.Life.{Life}
use Rattle.posix.specs.declared.process.Life.TheVariants.{Running, Stopped, Zombie}
use Rattle.posix.specs.declared.process.News.{News}
use Rattle.posix.specs.declared.process.News.TheVariants as news
use Rattle.posix.specs.Common.{Process, is_zombie, IsRising, lookup, at, changed, removed, is_child, children_in, first_pid, above, left_of, State, process, change, IsRegular, CanInherit, is_dropping, notice_of_end, zombies_of, tell_of_all, child_signal, noticed, WEXITED, is_something, report_life, report_of, reports, wanted_in}
use Rattle.posix.proofs.TableLemmas.{pid_looked, lookup_changed, changed_absent, rising_filter}
use Rattle.posix.proofs.WalkLemmas.{Here, here, in_filter, all_left, passing_above, next_begins, children_removed, filters_commute, head_above}
use Rattle.posix.proofs.MapLemmas.{filter_map, children_map}
use Rattle.posix.proofs.RegularLemmas.{keeps_at, keeps_noticed, lookup_kept, heir_other, heir_living, heir_map, heir_removed}
use Rattle.posix.proofs.ReportLemmas as report
use Rattle.posix.proofs.PassingLemmas.{filter_at_most}
use Rattle.posix.proofs.ResultLemmas.{there}

-- ---- the zombies among the children of a process

-- a wait for terminations wants exactly them
zombies_wanted : (p : ℕ) (rs : List Process) → wanted_in WEXITED p rs ≡ zombies_of p rs
unfolding wanted_in zombies_of report_of
zombies_wanted p rs = filter_agree (reports WEXITED) (λ r. is_zombie r.life) (λ r. by r.pid r.life r.news) (children_in p rs)
  where
    by : (q : ℕ) (l : Life) (n : News) → is_something (report_life WEXITED q l n) ≡ is_zombie l
    by q Running news.Nothing = refl
    by q Running (news.StoppedBy s) = refl
    by q Running news.Continued = refl
    by q Stopped news.Nothing = refl
    by q Stopped (news.StoppedBy s) = refl
    by q Stopped news.Continued = refl
    by q (Zombie w) n = refl

-- there are no more of them than children
pub few_zombies : (p : ℕ) (rs : List Process) → length (zombies_of p rs) ≤ length (children_in p rs)
unfolding zombies_of
few_zombies p rs = filter_at_most (λ r. is_zombie r.life) (children_in p rs)

no_zombies : (p : ℕ) (rs : List Process) → children_in p rs ≡ [] → zombies_of p rs ≡ []
unfolding zombies_of
no_zombies p rs e = rw e refl

rising_zombies : (p : ℕ) (rs : List Process) → IsRising rs → IsRising (zombies_of p rs)
unfolding zombies_of children_in
rising_zombies p rs up = rising_filter _ _ (rising_filter (is_child p) rs up)

-- none has number 0
zombies_above : (p : ℕ) (rs : List Process) → IsRising rs → ((q : ℕ) (r : Process) → lookup q rs ≡ Some r → 1 ≤ r.pid) → above 0 (zombies_of p rs) ≡ zombies_of p rs
unfolding zombies_of children_in
zombies_above p rs up least = let dead = λ (r : Process). is_zombie r.life in filters_commute (λ r. nat_lt 0 r.pid) dead (filter (is_child p) rs) ∙ ap (filter dead) (passing_above (is_child p) rs up least)

-- each is a child that has terminated
dead_child : (p c : ℕ) (rs : List Process) (r : Process) → IsRising rs → lookup c (zombies_of p rs) ≡ Some r → (lookup c rs ≡ Some r) × report.IsChild rs p c true
unfolding zombies_of children_in
dead_child p c rs r up e =
    let dead = in_filter (λ r. is_zombie r.life) (filter (is_child p) rs) (rising_filter (is_child p) rs up) c r e in
    let child = in_filter (is_child p) rs up c r dead.found in
    (child.found, record { what = r; found = child.found; parent = eqb-true _ _ child.passes; dead = dead.passes })

-- the new parent is none of them
heir_alive : (s : State) (p heir : ℕ) → IsRegular s → 1 ≤ p → CanInherit s.processes p heir → lookup heir (zombies_of p s.processes) ≡ None
heir_alive s p heir i least h = elim (lookup heir (zombies_of p s.processes)) as (λ o. lookup heir (zombies_of p s.processes) ≡ o → o ≡ None) [
  | None ↦ λ e. refl
  | Some r ↦ λ e.
      let it = (dead_child p heir s.processes r i.rising e).1 in
      absurd (heir_living s.processes p heir heir it.what h (report.not_first s i p heir true least it) it.found it.dead refl)
] refl

-- ---- one zombie

-- its notice comes first
tell_first : (s : State) (heir c v : ℕ) (r : Process) (rest : List Process) → r.pid ≡ c → r.life ≡ Zombie v → tell_of_all s heir (r ∷ rest) ≡ tell_of_all (notice_of_end s heir c v) heir rest
unfolding tell_of_all
tell_first s heir c v r rest named dead = grind (arith, named, dead)

-- what is left from above c is left without c
left_without : (o : Option ℕ) (c : ℕ) → IfSome o (λ y. c < y) → (rs : List Process) → left_of o (removed c rs) ≡ left_of o rs
unfolding removed
left_without (Some n) c l (r ∷ rs) = grind (arith, nat_tests, eqb-true r.pid c, l, left_without (Some n) c l rs)
left_without o c l rs = refl

-- no process has more children than before
abbrev pub HasFewer : List Process → List Process → Type 0
HasFewer old new = (q : ℕ) → length (children_in q new) ≤ length (children_in q old)

-- Once the new parent was notified of the termination of c, the zombies of p after c are the same, and p is as it was.
-- The new parent may still inherit, and no process has more children.
record IsTold (s t : State) (p heir c : ℕ) : Type 0 where
  pub left : (o : Option ℕ) → IfSome o (λ y. c < y) → left_of o (zombies_of p t.processes) ≡ left_of o (zombies_of p s.processes)
  pub mine : process t p ≡ process s p
  pub inherits : CanInherit t.processes p heir
  pub fewer : HasFewer s.processes t.processes

-- a notice does this
is_told : (s : State) (p heir c v : ℕ) → IsRegular s → 1 ≤ p → p ≢ 1 → c ≢ p → c ≢ heir → CanInherit s.processes p heir → IsTold s (notice_of_end s heir c v) p heir c
unfolding notice_of_end zombies_of changed removed
is_told s p heir c v i least other apart no_heir h =
    let signal = child_signal c v in
    let g = at heir (noticed signal) in
    let k = keeps_at heir (noticed signal) (keeps_noticed {now = 0} signal) in
    let dead = λ (r : Process). is_zombie r.life in
    let now = map g s.processes in
    let same : zombies_of p now ≡ zombies_of p s.processes = ap (filter dead) (children_map g k.parent p s.processes) ∙ filter_map dead g k.zombie (children_in p s.processes) ∙ changed_absent heir (noticed signal) (zombies_of p s.processes) (heir_alive s p heir i least h) in
    let told : IsTold s (change s heir (noticed signal)) p heir c = record {
      left = λ o l. ap (left_of o) same;
      mine = lookup_changed heir p (noticed signal) (keeps_noticed {now = 0} signal).pid s.processes ∙ rw (ne_eqb p heir (λ x. heir_other s.processes p heir other h (sym x))) refl;
      inherits = heir_map g k.pid k.zombie s.processes p heir h;
      fewer = λ q. omega (arith, ap length (children_map g k.parent q s.processes), length-map (children_in q s.processes) g);
    } in
    cond_both (is_dropping heir s.processes) _ _ (λ t. IsTold s t p heir c) (λ e. record {
      left = λ o l. ap (left_of o) (ap (filter dead) (children_removed p c now) ∙ filters_commute dead (λ r. not (r.pid == c)) (children_in p now)) ∙ left_without o c l (zombies_of p now) ∙ told.left o l;
      mine = lookup_kept c p now (λ e. apart (sym e)) ∙ told.mine;
      inherits = heir_removed c p heir now no_heir told.inherits;
      fewer = λ q. omega (arith, told.fewer q, ap length (children_removed q c now), filter_at_most (λ r. not (r.pid == c)) (children_in q now));
    }) (λ e. told)

-- ---- the walk

-- how many zombies are left
abbrev pub zombies_left : List Process → ℕ → Option ℕ → ℕ
zombies_left rs p next = length (left_of next (zombies_of p rs))

-- The notices from the zombie that comes next on are those that remain of all of them. No process has more children
-- than at the start, and the terminating process is as it was.
pub record IsTelling (old now : State) (p heir : ℕ) (next : Option ℕ) : Type 0 where
  pub least : 1 ≤ p
  pub inherits : CanInherit now.processes p heir
  pub mine : process now p ≡ process old p
  pub fewer : HasFewer old.processes now.processes
  pub here : first_pid (left_of next (zombies_of p now.processes)) ≡ next
  pub todo : tell_of_all now heir (left_of next (zombies_of p now.processes)) ≡ tell_of_all old heir (zombies_of p old.processes)

-- the walk begins at the first zombie, with all of them
pub begins : (s : State) (p heir : ℕ) (next : Option ℕ) → IsRegular s → IsSome (process s p) → CanInherit s.processes p heir → next ≡ first_pid (above 0 (wanted_in WEXITED p s.processes))
    → IsTelling s s p heir next × (zombies_left s.processes p next ≡ length (zombies_of p s.processes))
begins s p heir next i here h is =
    let me = there _ here in
    let named = pid_looked p s.processes me.what me.found in
    let low = (i.bounded p me.what me.found).least in
    let zs = zombies_of p s.processes in
    let first = is ∙ ap (λ l. first_pid (above 0 l)) (zombies_wanted p s.processes) in
    let all = all_left zs next (rising_zombies p s.processes i.rising) (zombies_above p s.processes i.rising (λ q r e. (i.bounded q r e).least)) first in
    (record { least = omega (arith, named, low); inherits = h; mine = refl; fewer = λ q. omega arith; here = next_begins 0 zs next first; todo = ap (tell_of_all s heir) all }, ap length all)

-- what it knows of the zombie that comes next
at_zombie : {old now : State} {p heir c : ℕ} {next : Option ℕ} → IsTelling old now p heir next → IsRegular now → next ≡ Some c → Here (zombies_of p now.processes) c
at_zombie {now = now} {p = p} {c = c} t i comes = here (zombies_of p now.processes) (rising_zombies p now.processes i.rising) c (rw comes at t.here)

-- it is a child that has terminated
pub is_dead : {old now : State} {p heir c : ℕ} {next : Option ℕ} → IsTelling old now p heir next → IsRegular now → next ≡ Some c → report.IsChild now.processes p c true
is_dead {now = now} {p = p} {c = c} t i comes = let k = at_zombie t i comes in (dead_child p c now.processes k.what i.rising k.found).1

-- and isn't process 1
pub not_first : {old now : State} {p heir c : ℕ} {next : Option ℕ} → IsTelling old now p heir next → IsRegular now → next ≡ Some c → c ≢ 1
not_first {now = now} {p = p} {c = c} t i comes = report.not_first now i p c true t.least (is_dead t i comes)

-- the new parent is notified of it, and one zombie less is left
pub tells : {old now : State} {p heir c : ℕ} {next : Option ℕ} (t : IsTelling old now p heir next) → IsRegular now → next ≡ Some c → p ≢ 1 → (v : ℕ) → ((r : Process) → process now c ≡ Some r → r.life ≡ Zombie v)
    → (after : Option ℕ) → after ≡ first_pid (above c (wanted_in WEXITED p now.processes))
    → IsTelling old (notice_of_end now heir c v) p heir after × (zombies_left (notice_of_end now heir c v).processes p after + 1 ≡ zombies_left now.processes p next)
tells {old = old} {now = now} {p = p} {heir = heir} {c = c} {next = next} t i comes other v ended after is =
    let zs = zombies_of p now.processes in
    let k = at_zombie t i comes in
    let z = is_dead t i comes in
    let life = ended k.what (dead_child p c now.processes k.what i.rising k.found).0 in
    let behind : after ≡ first_pid (above c zs) = is ∙ ap (λ l. first_pid (above c l)) (zombies_wanted p now.processes) in
    let apart = λ (e : c ≡ p). let none = sym k.left ∙ ap (left_of (Some c)) (no_zombies p now.processes (i.childless p z.what other (ap (λ n. lookup n now.processes) (sym e) ∙ z.found) z.dead)) in absurd (cc) in
    let no_heir = heir_living now.processes p heir c z.what t.inherits (not_first t i comes) z.found z.dead in
    let told = is_told now p heir c v i t.least other apart no_heir t.inherits in
    let then = notice_of_end now heir c v in
    let left : left_of after (zombies_of p then.processes) ≡ left_of (first_pid (above c zs)) zs = told.left after (rw behind (head_above c zs)) ∙ ap (λ o. left_of o zs) behind in
    let first : left_of next zs ≡ k.what ∷ left_of (first_pid (above c zs)) zs = ap (λ o. left_of o zs) comes ∙ k.left in
    let telling = ap (tell_of_all now heir) first ∙ tell_first now heir c v k.what (left_of (first_pid (above c zs)) zs) k.named life ∙ ap (tell_of_all then heir) (sym left) in (
      record {
        least = t.least;
        inherits = told.inherits;
        mine = told.mine ∙ t.mine;
        fewer = λ q. omega (arith, told.fewer q, t.fewer q);
        here = ap first_pid (left ∙ ap (λ o. left_of o zs) (sym behind)) ∙ next_begins c zs after behind;
        todo = sym telling ∙ t.todo;
      },
      let now_left = ap length left in let all = ap length first in omega (arith, now_left, all),
    )
