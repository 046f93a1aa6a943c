-- Alarms that ring, one process after another.
use Rattle.std.proofs.Common.{⊎_elim, ◌+◌, ℕ, ◌≡◌, ◌<◌, ◌≤◌, ◌&&◌, Bool, length, subst, true, false, cond, refl, ap, sym, ◌∙◌, arith, List, [], ◌∷◌, map, filter, Option, Some, None, inl, inr, nat_lt, is_some}
use Rattle.std.specs.List.{list_any, AllByRecursion}
use Rattle.std.specs.Option.{IfSome}
use Rattle.std.proofs.lemmas.Bool.{eqb-true, or_cases, eq-eqb, ne_eqb, cases_eq, and_parts, or_parts}
use Rattle.std.proofs.lemmas.Option.{IfSome_then}
use Rattle.posix.specs.Common.{Process, is_in, lookup, at, changed, first_pid, above, IsRising, IsNext, is_due, with_alarm, rung, ring_at, ring_all}
use Rattle.pidset.specs.Numbers.{with_number}
use Rattle.pidset.proofs.NumberLemmas.{in_with}
use Rattle.jobs.specs.IndexedTables.{takes_signal}
use Rattle.life.specs.Rechecks.{AreTaking, rechecking_by_signals}
use Rattle.posix.proofs.TableLemmas.{pid_looked}
use Rattle.posix.proofs.MapLemmas.{at_pid, lookup_back}
use Rattle.posix.proofs.RegularLemmas.{keeps_ring, lookup_other}
use Rattle.posix.proofs.WalkLemmas.{Passes, all_looked, both_pass, first_passes}

-- those below the next one aren't due any more, and all ring as they did at the beginning
pub record IsRinging (now : ℕ) (old rs : List Process) (next : Option ℕ) : Type 0 where
  pub all : ring_all now rs ≡ ring_all now old
  pub done : (p : ℕ) (r : Process) → lookup p rs ≡ Some r → IfSome next (λ q. p < q) → is_due now r.alarm ≡ false

-- what has rung doesn't ring again
rings_once : (now : ℕ) (r : Process) → is_due now (ring_at now r).alarm ≡ false
unfolding rung with_alarm
rings_once now r = elim (is_due now r.alarm) as (λ b. is_due now r.alarm ≡ b → is_due now (cond b (rung r) r).alarm ≡ false) [ true ↦ λ e. refl | false ↦ λ e. e ] refl

-- if none is due, none rings
rings_not : (now : ℕ) (r : Process) → is_due now r.alarm ≡ false → ring_at now r ≡ r
rings_not now r e = rw e refl

-- once the alarm of p has rung, all ring as they would have
rung_first : (now p : ℕ) (rs : List Process) → ring_all now (changed p (ring_at now) rs) ≡ ring_all now rs
unfolding ring_all changed
rung_first now p [] = refl
rung_first now p (r ∷ rs) = grind (arith, rings_once now r, rung_first now p rs)

-- at the beginning none is due below the first one
pub ringing_begins : (now : ℕ) (rs : List Process) (next : Option ℕ) → ((p : ℕ) (r : Process) → lookup p rs ≡ Some r → 1 ≤ r.pid) → IsNext (λ r. is_due now r.alarm) 0 rs next → IsRinging now rs rs next
ringing_begins now rs next low i = record {
  all = refl;
  done = λ p r e before. let l = low p r e in let named = pid_looked p rs r e in i.between p r e (omega (arith, l, named)) before;
}

-- one more
pub ringing_on : (now p : ℕ) (old rs : List Process) (after : Option ℕ) (me : Process) → lookup p rs ≡ Some me → IsNext (λ r. is_due now r.alarm) p (changed p (ring_at now) rs) after → IsRinging now old rs (Some p) → IsRinging now old (changed p (ring_at now) rs) after
unfolding changed
ringing_on now p old rs after me found i h = record {
  all = rung_first now p rs ∙ h.all;
  done = λ q r e before.
      let keeps = keeps_ring {now = 0} now in
      let b = lookup_back (at p (ring_at now)) (at_pid p (ring_at now) keeps.pid) q rs r e in
      elim (cases_eq q p) [
        | inl same ↦
            let both : Some b.what ≡ Some me = sym b.found ∙ ap (λ n. lookup n rs) same ∙ found in
            let my : b.what ≡ me = cc in
            let is : r ≡ ring_at now me = b.is ∙ ap (at p (ring_at now)) my ∙ rw (eq-eqb me.pid p (pid_looked p rs me found)) refl in
            ap (λ (x : Process). is_due now x.alarm) is ∙ rings_once now me
        | inr other ↦
            let is : r ≡ b.what = b.is ∙ rw (ne_eqb b.what.pid p (λ x. other (sym (pid_looked q rs b.what b.found) ∙ x))) refl in
            grind (arith, is, other, h.done q b.what b.found, λ (high : p < q). i.between q r e high before)
      ];
}

-- at the end none is due any more
pub ringing_ends : (now : ℕ) (old rs : List Process) → IsRising rs → IsRinging now old rs None → rs ≡ ring_all now old
unfolding ring_all
ringing_ends now old rs up h = sym (none rs (all_looked (λ r. is_due now r.alarm ≡ false) rs up (λ p r e. h.done p r e tt))) ∙ h.all
  where
    none : (rs : List Process) → AllByRecursion (λ (r : Process). is_due now r.alarm ≡ false) rs → map (ring_at now) rs ≡ rs
    none [] a = refl
    none (r ∷ rs) a = rw (rings_not now r a.0, none rs a.1) refl

-- ---- how many are due

-- the process that comes next has one that is due
pub next_is_due : (now n : ℕ) (rs : List Process) (next : Option ℕ) → IsRising rs → next ≡ first_pid (above n (filter (λ r. is_due now r.alarm) rs)) → (p : ℕ) (r : Process) → next ≡ Some p → lookup p rs ≡ Some r → is_due now r.alarm ≡ true
next_is_due now n rs next up e p r is found =
    let passes : Process → Bool = λ r. is_due now r.alarm && nat_lt n r.pid in
    let first = subst (λ o. IfSome o (Passes passes rs)) (sym (ap first_pid (both_pass (λ r. is_due now r.alarm) (λ r. nat_lt n r.pid) rs)) ∙ sym e ∙ is) (first_passes passes rs up) in
    let same : first.0 ≡ r = (let both = sym first.1 ∙ found in cc) in
    ap (λ (r : Process). is_due now r.alarm) (sym same) ∙ (and_parts (is_due now first.0.alarm) (nat_lt n first.0.pid) first.2).0

-- no more are due once one has rung
due_at_most : (now p : ℕ) (rs : List Process) → length (filter (λ r. is_due now r.alarm) (changed p (ring_at now) rs)) ≤ length (filter (λ r. is_due now r.alarm) rs)
unfolding changed
due_at_most now p [] = omega arith
due_at_most now p (r ∷ rs) = grind (arith, due_at_most now p rs, rings_once now r)

-- and one less if it was due
pub fewer_due : (now p : ℕ) (rs : List Process) (me : Process) → lookup p rs ≡ Some me → is_due now me.alarm ≡ true → length (filter (λ r. is_due now r.alarm) (changed p (ring_at now) rs)) < length (filter (λ r. is_due now r.alarm) rs)
unfolding lookup changed
fewer_due now p [] me found due = absurd (cc)
fewer_due now p (r ∷ rs) me found due = grind (arith, due_at_most now p rs, rings_once now r, fewer_due now p rs me, found, due)

-- ---- the processes that are rechecked

-- those on the list come before the next one, and a signal is chosen for each
pub record IsTakingBelow (next : Option ℕ) (rs : List Process) (ns : List ℕ) : Type 0 where
  pub taking : AreTaking rs ns
  pub below : (q : ℕ) → is_in q ns ≡ true → IfSome next (λ p. q < p)

-- a number that is inserted is at most one more
pub one_more : (n : ℕ) (ns : List ℕ) → length (with_number n ns) ≤ length ns + 1
unfolding with_number
one_more n [] = omega arith
one_more n (m ∷ ns) = grind (arith, one_more n ns)

-- it goes on so if the alarm of p rings, and the next process comes after p
pub taking_on : (now p : ℕ) (next : Option ℕ) (order : List ℕ) (rs : List Process) (ns new : List ℕ) → IsTakingBelow (Some p) rs ns → IfSome next (λ q. p < q)
    → new ≡ rechecking_by_signals (lookup p (changed p (ring_at now) rs)) order ns → IsTakingBelow next (changed p (ring_at now) rs) new × (length new ≤ length ns + 1)
taking_on now p next order rs ns new h above is = by (lookup p (changed p (ring_at now) rs)) refl is
  where
    was : (q : ℕ) → is_in q ns ≡ true → (r : Process) × (lookup q (changed p (ring_at now) rs) ≡ Some r) × (takes_signal r ≡ true)
    was q e =
        let it = h.taking q e in
        let low = h.below q e in
        (it.0, lookup_other p q (ring_at now) (keeps_ring {now = 0} now).pid (λ same. omega (arith, low, same)) rs it.0 it.1, it.2)

    lower : (q : ℕ) → q < p → IfSome next (λ m. q < m)
    lower q low = IfSome_then next above (λ m k. omega (arith, k, low))

    stays : new ≡ ns → IsTakingBelow next (changed p (ring_at now) rs) new × (length new ≤ length ns + 1)
    stays e = rw e (record { taking = was; below = λ q k. lower q (h.below q k) }, omega arith)

    more : (r : Process) → lookup p (changed p (ring_at now) rs) ≡ Some r → takes_signal r ≡ true → new ≡ with_number p ns → IsTakingBelow next (changed p (ring_at now) rs) new × (length new ≤ length ns + 1)
    more r found takes e = rw e (
      record {
        taking = λ q k. ⊎_elim (λ same. (r, ap (λ n. lookup n (changed p (ring_at now) rs)) (sym (eqb-true p q same)) ∙ found, takes)) (was q) (or_cases _ _ (sym (in_with q p ns) ∙ k));
        below = λ q k. ⊎_elim (λ same. subst (λ n. IfSome next (λ m. n < m)) (eqb-true p q same) above) (λ k. lower q (h.below q k)) (or_cases _ _ (sym (in_with q p ns) ∙ k));
      },
      one_more p ns,
    )

    by : (o : Option Process) → lookup p (changed p (ring_at now) rs) ≡ o → new ≡ rechecking_by_signals o order ns → IsTakingBelow next (changed p (ring_at now) rs) new × (length new ≤ length ns + 1)
    by None found e = stays e
    by (Some r) found e = elim (takes_signal r) as (λ b. takes_signal r ≡ b → new ≡ cond b (cond (is_in r.pid order) ns (with_number r.pid ns)) ns → IsTakingBelow next (changed p (ring_at now) rs) new × (length new ≤ length ns + 1)) [
      | false ↦ λ takes e. stays e
      | true ↦ λ takes e. elim (is_in r.pid order) as (λ b. new ≡ cond b ns (with_number r.pid ns) → IsTakingBelow next (changed p (ring_at now) rs) new × (length new ≤ length ns + 1)) [
        | true ↦ λ e. stays e
        | false ↦ λ e. more r found takes (e ∙ ap (λ n. with_number n ns) (pid_looked p (changed p (ring_at now) rs) r found))
      ] e
    ] refl e

-- ---- no process has an alarm

-- so none is due
none_due : (now : ℕ) (a : Option ℕ) → is_some a ≡ false → is_due now a ≡ false
none_due now None e = refl
none_due now (Some due) e = absurd (cc)

-- and no process comes next
pub quiet_next : (now n : ℕ) (rs : List Process) → list_any (λ r. is_some r.alarm) rs ≡ false → first_pid (above n (filter (λ r. is_due now r.alarm) rs)) ≡ None
quiet_next now n rs quiet = ap (λ l. first_pid (above n l)) (none rs quiet)
  where
    none : (rs : List Process) → list_any (λ (r : Process). is_some r.alarm) rs ≡ false → filter (λ (r : Process). is_due now r.alarm) rs ≡ []
    none [] e = refl
    none (r ∷ rs) e = let both = or_parts (is_some r.alarm) (list_any (λ (r : Process). is_some r.alarm) rs) e in rw (none_due now r.alarm both.0) (none rs both.1)
