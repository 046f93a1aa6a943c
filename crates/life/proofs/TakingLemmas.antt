-- Signals that continue no process are generated for several: each one on the recheck list then has a chosen signal.
use Rattle.std.proofs.Common.{◌≡◌, ℕ, ◌+◌, ◌≤◌, Bool, true, false, cond, not, refl, ap, sym, ◌∙◌, arith, subst, List, [], ◌∷◌, length, Option, Some, None, ◌==◌, ◌||◌, ⊎_elim, rules}
use Rattle.std.proofs.lemmas.Bool.{eqb-false, eqb-true, or_cases, or_left, or_parts, or_right}
use Rattle.std.proofs.lemmas.List.{length-map}
use Rattle.std.proofs.lemmas.Option.{same_Some}
use Rattle.posix.specs.declared.process.Effect.TheVariants as effect
use Rattle.posix.specs.declared.process.PendingSignal.{PendingSignal}
use Rattle.posix.specs.Common.{CONT, Process, IsRising, lookup, changed, pids, is_member, members_in, from_kernel, signalled_members, signalled_group, is_in, IsDistinct, signalled, effect_of, generated_for, signalled_all}
use Rattle.posix.proofs.TableLemmas.{pid_looked, rising_filter}
use Rattle.posix.proofs.MemberLemmas.{apart_first}
use Rattle.posix.proofs.OrderLemmas.{distinct_pids}
use Rattle.posix.proofs.RegularLemmas.{lookup_other}
use Rattle.posix.proofs.ChangeLemmas.{continued_cont, lookup_signalled}
use Rattle.pidset.specs.Numbers.{with_number}
use Rattle.pidset.proofs.NumberLemmas.{in_with}
use Rattle.jobs.specs.IndexedTables.{takes_signal}
use Rattle.life.specs.Rechecks.{AreTaking, NeedNoChild, WaitForNoChild, is_in_wait, rechecking_generated, rechecking_all, rechecking_members}
use Rattle.life.proofs.RingLemmas.{one_more}

-- it isn't among these, and a signal is chosen for it
record IsTakingBeside (ps : List ℕ) (rs : List Process) (q : ℕ) : Type 0 where
  apart : is_in q ps ≡ false
  what : Process
  found : lookup q rs ≡ Some what
  takes : takes_signal what ≡ true

-- so each on the list
abbrev AreTakingBeside : List ℕ → List Process → List ℕ → Type 0
AreTakingBeside ps rs ns = (q : ℕ) → is_in q ns ≡ true → IsTakingBeside ps rs q

-- one signal
taking_one : (signal : PendingSignal) (p : ℕ) (ps order : List ℕ) (rs : List Process) (ns : List ℕ) → (signal.sig == CONT) ≡ false → is_in p ps ≡ false → AreTakingBeside (p ∷ ps) rs ns
    → AreTakingBeside ps (generated_for signal (lookup p rs) rs) (rechecking_generated signal (lookup p rs) rs order ns) × (length (rechecking_generated signal (lookup p rs) rs order ns) ≤ length ns + 1)
unfolding is_in signalled
taking_one signal p ps order rs ns plain apart h = by (lookup p rs) refl
  where
    before : AreTakingBeside ps rs ns
    before q e = let it = h q e in record { apart = (or_parts (p == q) _ it.apart).1; what = it.what; found = it.found; takes = it.takes }

    does : (r : Process) → effect_of r.pid r.life signal r.signals ≡ effect.Nothing
    does r = grind (arith, plain, continued_cont r.pid signal r)

    after : (r : Process) → lookup p rs ≡ Some r → AreTakingBeside ps (changed r.pid (signalled signal) rs) ns
    after r found q e =
        let it = before q e in
        let found = lookup_other r.pid q (signalled signal) (λ r. refl) (λ same. apart_first q p ps (h q e).apart (same ∙ pid_looked p rs r found)) rs it.what it.found in
        search (rules, arith)

    more : (r : Process) → lookup p rs ≡ Some r → takes_signal (signalled signal r) ≡ true → AreTakingBeside ps (changed r.pid (signalled signal) rs) (with_number r.pid ns)
    more r found takes q e = ⊎_elim
        (λ k. let same = eqb-true r.pid q k in record {
          apart = subst (λ n. is_in n ps ≡ false) (sym (pid_looked p rs r found) ∙ same) apart;
          what = signalled signal r;
          found = ap (λ n. lookup n (changed r.pid (signalled signal) rs)) (sym same) ∙ lookup_signalled signal r p rs found;
          takes = takes;
        })
        (λ k. after r found q k) (or_cases _ _ (sym (in_with q r.pid ns) ∙ e))

    by : (o : Option Process) → lookup p rs ≡ o → AreTakingBeside ps (generated_for signal o rs) (rechecking_generated signal o rs order ns) × (length (rechecking_generated signal o rs order ns) ≤ length ns + 1)
    by None found = (before, omega arith)
    by (Some r) found = rw (does r) (elim (takes_signal (signalled signal r)) as (λ b. takes_signal (signalled signal r) ≡ b → AreTakingBeside ps (changed r.pid (signalled signal) rs) (cond b (cond (is_in r.pid order) ns (with_number r.pid ns)) ns)
        × (length (cond b (cond (is_in r.pid order) ns (with_number r.pid ns)) ns) ≤ length ns + 1)) [
          | false ↦ λ takes. (after r found, omega arith)
          | true ↦ λ takes. elim (is_in r.pid order) as (λ b. AreTakingBeside ps (changed r.pid (signalled signal) rs) (cond b ns (with_number r.pid ns)) × (length (cond b ns (with_number r.pid ns)) ≤ length ns + 1)) [
            | true ↦ (after r found, omega arith)
            | false ↦ (more r found takes, one_more r.pid ns)
          ]
        ] refl)

taking_on : (signal : PendingSignal) (ps order : List ℕ) (rs : List Process) (ns : List ℕ) → (signal.sig == CONT) ≡ false → IsDistinct ps → AreTakingBeside ps rs ns
    → AreTaking (signalled_all signal ps rs) (rechecking_all signal ps rs order ns) × (length (rechecking_all signal ps rs order ns) ≤ length ns + length ps)
unfolding signalled_all rechecking_all IsDistinct
taking_on signal [] order rs ns plain apart h = (λ q e. let it = h q e in (it.what, it.found, it.takes), omega arith)
taking_on signal (p ∷ ps) order rs ns plain apart h =
    let one = taking_one signal p ps order rs ns plain apart.0 h in
    let rest = taking_on signal ps order (generated_for signal (lookup p rs) rs) (rechecking_generated signal (lookup p rs) rs order ns) plain apart.1 one.0 in
    (rest.0, omega (arith, one.1, rest.1))

-- if the recheck list was empty, it then has processes with a chosen signal, and no more than got one
pub taking_all : (signal : PendingSignal) (ps order : List ℕ) (rs : List Process) → (signal.sig == CONT) ≡ false → IsDistinct ps
    → AreTaking (signalled_all signal ps rs) (rechecking_all signal ps rs order []) × (length (rechecking_all signal ps rs order []) ≤ length ps)
unfolding is_in
taking_all signal ps order rs plain apart = let on = taking_on signal ps order rs [] plain apart (λ q e. absurd (cc)) in let few = on.1 in (on.0, omega (arith, few))

-- an empty recheck list needs nothing
pub brief_none : (rs : List Process) (ns : List ℕ) (k : ℕ) → ns ≡ [] → NeedNoChild rs ns × (length ns ≤ k)
unfolding is_in
brief_none rs ns k none = rw none (λ q e. absurd (cc), omega arith)

-- so if the kernel signals a process group
pub brief_group : (n group : ℕ) (rs ts : List Process) (order ns new : List ℕ) → (n == CONT) ≡ false → IsRising rs → ns ≡ [] → ts ≡ signalled_group n group rs → new ≡ cond (group == 0) ns (rechecking_members n group rs order ns)
    → NeedNoChild ts new × (length new ≤ length (members_in group rs))
unfolding signalled_members members_in
brief_group n group rs ts order ns new plain up none does puts = by (group == 0) does puts
  where
    by : (b : Bool) → ts ≡ cond b rs (signalled_members (record { sig = n; carried = from_kernel }) group rs) → new ≡ cond b ns (rechecking_members n group rs order ns) → NeedNoChild ts new × (length new ≤ length (members_in group rs))
    by true does puts = brief_none ts new _ (puts ∙ none)
    by false does puts =
        let all = taking_all (record { sig = n; carried = from_kernel }) (pids (members_in group rs)) order rs plain (distinct_pids (members_in group rs) (rising_filter (is_member group) rs up)) in
        let many = length-map (members_in group rs) (λ r. r.pid) in
        rw (does, puts, none) (λ q e. let it = all.0 q e in (it.0, it.1, or_left _ _ it.2), omega (arith, many, all.1))

-- so if the kernel signals one process, and those on the recheck list wait for no child
pub brief_one : (n p : ℕ) (order : List ℕ) (rs : List Process) (ns : List ℕ) → (n == CONT) ≡ false → WaitForNoChild rs ns
    → NeedNoChild (generated_for (record { sig = n; carried = from_kernel }) (lookup p rs) rs) (rechecking_generated (record { sig = n; carried = from_kernel }) (lookup p rs) rs order ns)
    × (length (rechecking_generated (record { sig = n; carried = from_kernel }) (lookup p rs) rs order ns) ≤ 1 + length ns)
unfolding signalled
brief_one n p order rs ns plain h = by (lookup p rs) refl
  where
    m : PendingSignal
    m = record { sig = n; carried = from_kernel }

    does : (r : Process) → effect_of r.pid r.life m r.signals ≡ effect.Nothing
    does r = grind (arith, plain, continued_cont r.pid m r)

    -- it itself waits for a child no more than before
    before : (r : Process) → lookup p rs ≡ Some r → NeedNoChild (changed r.pid (signalled m) rs) ns
    before r found q e = elim (q == r.pid) as (λ b. (q == r.pid) ≡ b → (x : Process) × (lookup q (changed r.pid (signalled m) rs) ≡ Some x) × ((takes_signal x || not (is_in_wait x.blocked)) ≡ true)) [
      | true ↦ λ same.
          let is = eqb-true q r.pid same in
          let one : (h q e).0 ≡ r = same_Some _ _ (sym (h q e).1 ∙ ap (λ n. lookup n rs) (is ∙ pid_looked p rs r found) ∙ found) in
          (signalled m r, ap (λ n. lookup n (changed r.pid (signalled m) rs)) is ∙ lookup_signalled m r p rs found, or_right _ _ (ap not (ap (λ (x : Process). is_in_wait x.blocked) (sym one) ∙ (h q e).2)))
      | false ↦ λ other. let it = h q e in (it.0, lookup_other r.pid q (signalled m) (λ r. refl) (eqb-false _ _ other) rs it.0 it.1, or_right _ _ (ap not it.2))
    ] refl

    more : (r : Process) → lookup p rs ≡ Some r → takes_signal (signalled m r) ≡ true → NeedNoChild (changed r.pid (signalled m) rs) (with_number r.pid ns)
    more r found takes q e = ⊎_elim
        (λ k. (signalled m r, ap (λ n. lookup n (changed r.pid (signalled m) rs)) (sym (eqb-true r.pid q k)) ∙ lookup_signalled m r p rs found, or_left _ _ takes))
        (λ k. before r found q k) (or_cases _ _ (sym (in_with q r.pid ns) ∙ e))

    by : (o : Option Process) → lookup p rs ≡ o → NeedNoChild (generated_for m o rs) (rechecking_generated m o rs order ns) × (length (rechecking_generated m o rs order ns) ≤ 1 + length ns)
    by None found = (λ q e. let it = h q e in (it.0, it.1, or_right _ _ (ap not it.2)), omega arith)
    by (Some r) found = rw (does r) (elim (takes_signal (signalled m r)) as (λ b. takes_signal (signalled m r) ≡ b → NeedNoChild (changed r.pid (signalled m) rs) (cond b (cond (is_in r.pid order) ns (with_number r.pid ns)) ns)
        × (length (cond b (cond (is_in r.pid order) ns (with_number r.pid ns)) ns) ≤ 1 + length ns)) [
          | false ↦ λ takes. (before r found, omega arith)
          | true ↦ λ takes. elim (is_in r.pid order) as (λ b. NeedNoChild (changed r.pid (signalled m) rs) (cond b ns (with_number r.pid ns)) × (length (cond b ns (with_number r.pid ns)) ≤ 1 + length ns)) [
            | true ↦ (before r found, omega arith)
            | false ↦ (more r found takes, let few = one_more r.pid ns in omega (arith, few))
          ]
        ] refl)

-- a process that is rechecked for a signal other than SIGCONT got it
asked_one : (signal : PendingSignal) (q p : ℕ) (order : List ℕ) (rs : List Process) (ns : List ℕ) → (signal.sig == CONT) ≡ false → is_in p (rechecking_generated signal (lookup q rs) rs order ns) ≡ true → (is_in p ns || p == q) ≡ true
unfolding signalled
asked_one signal q p order rs ns plain on = by (lookup q rs) refl on
  where
    by : (o : Option Process) → lookup q rs ≡ o → is_in p (rechecking_generated signal o rs order ns) ≡ true → (is_in p ns || p == q) ≡ true
    by None found on = or_left _ _ on
    by (Some r) found on = grind (arith, on, plain, continued_cont r.pid signal r, pid_looked q rs r found, in_with p r.pid ns)

asked_all : (signal : PendingSignal) (qs : List ℕ) (p : ℕ) (order : List ℕ) (rs : List Process) (ns : List ℕ) → (signal.sig == CONT) ≡ false → is_in p (rechecking_all signal qs rs order ns) ≡ true → (is_in p ns || is_in p qs) ≡ true
unfolding rechecking_all is_in
asked_all signal [] p order rs ns plain on = or_left _ _ on
asked_all signal (q ∷ qs) p order rs ns plain on = grind (arith, asked_all signal qs p order (generated_for signal (lookup q rs) rs) (rechecking_generated signal (lookup q rs) rs order ns) plain on, asked_one signal q p order rs ns plain)

-- so if the kernel signals a process group
pub asked_members : (n group p : ℕ) (order : List ℕ) (rs : List Process) (ns : List ℕ) → (n == CONT) ≡ false → is_in p (cond (group == 0) ns (rechecking_members n group rs order ns)) ≡ true → (is_in p ns || is_in p (pids (members_in group rs))) ≡ true
asked_members n group p order rs ns plain = elim (group == 0) as (λ b. is_in p (cond b ns (rechecking_members n group rs order ns)) ≡ true → (is_in p ns || is_in p (pids (members_in group rs))) ≡ true) [
  | true ↦ or_left _ _
  | false ↦ asked_all (record { sig = n; carried = from_kernel }) (pids (members_in group rs)) p order rs ns plain
]
