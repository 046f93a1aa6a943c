-- The processes on the recheck list, one after another. One that was rechecked need not enter the run queue, and
-- those that are left to enter it are the others.
use Rattle.std.proofs.Common.{◌≡◌, ℕ, suc, ◌<◌, Bool, true, false, cond, not, ◌&&◌, ◌||◌, ◌==◌, refl, ap, sym, ◌∙◌, arith, subst, List, [], ◌∷◌, ◌++◌, length, Option, Some, None, filter, slice_get, nat_lt}
use Rattle.std.specs.Option.{IfSome}
use Rattle.std.proofs.lemmas.Bool.{eqb-true, eqb-false, eq-eqb, ltb-true, ltb-false}
use Rattle.std.proofs.lemmas.Bool.Decides.{nat_tests}
use Rattle.std.proofs.lemmas.List.Sums.{length-filter, count_by-le-length}
use Rattle.std.proofs.lemmas.Option.{IfSome_then}
use Rattle.std.proofs.Math.Bool.{and-false}
use Rattle.posix.specs.Common.{Process, IsNext, lookup, next_above, State, process, is_in, without, give_places, woken, woken_if, wakes, can_act, IsRegular}
use Rattle.posix.proofs.MemberLemmas.{in_append, in_last}
use Rattle.posix.proofs.SeeLemmas.{can_act_order}
use Rattle.posix.proofs.SettleLemmas.{woken_is, asking_begins, asking_goes_on}
use Rattle.posix.proofs.TableLemmas.{pid_looked}
use Rattle.posix.proofs.WalkLemmas.{least_is_next}

-- ---- the processes that were rechecked

-- entering the run queue changes no record
same_records : (s : State) (o : Option Process) → (woken_if s o).processes ≡ s.processes
same_records s None = refl
same_records s (Some r) = elim (wakes s r) as (λ b. (cond b (record s { order = s.order ++ r.pid ∷ [] }) s).processes ≡ s.processes) [ true ↦ refl | false ↦ refl ]

pub same_processes : (s : State) (p : ℕ) → (woken s p).processes ≡ s.processes
unfolding woken
same_processes s p = same_records s (process s p)

-- a process that is in the run queue, or not runnable, need not enter it
placed_rests : (s : State) (p : ℕ) (r : Process) → r.pid ≡ p → is_in p s.order ≡ true → wakes s r ≡ false
placed_rests s p r named place = ap (λ n. not (is_in n s.order) && can_act s r) named ∙ ap (λ b. not b && can_act s r) place

pub still_rests : (s : State) (r : Process) → can_act s r ≡ false → wakes s r ≡ false
still_rests s r still = ap (λ b. not (is_in r.pid s.order) && b) still ∙ and-false (not (is_in r.pid s.order))

-- a process that was rechecked need not enter the run queue any more
pub woken_rests : (s : State) (p : ℕ) (r : Process) → process (woken s p) p ≡ Some r → wakes (woken s p) r ≡ false
woken_rests s p r e =
    let here : process s p ≡ Some r = sym (ap (lookup p) (same_processes s p)) ∙ e in
    let named = pid_looked p s.processes r here in
    elim (is_in p s.order) as (λ b. is_in p s.order ≡ b → wakes (woken s p) r ≡ false) [
      | true ↦ λ t. subst (λ (x : State). wakes x r ≡ false) (sym (woken_is s p r true (can_act s r) here t refl)) (placed_rests s p r named t)
      | false ↦ λ t. elim (can_act s r) as (λ a. can_act s r ≡ a → wakes (woken s p) r ≡ false) [
        | true ↦ λ a. subst (λ (x : State). wakes x r ≡ false) (sym (woken_is s p r false true here t a)) (placed_rests (record s { order = s.order ++ p ∷ [] }) p r named (last s.order p))
        | false ↦ λ a. subst (λ (x : State). wakes x r ≡ false) (sym (woken_is s p r false false here t a)) (still_rests s r a)
      ] refl
    ] refl
  where
    last : (ps : List ℕ) (p : ℕ) → is_in p (ps ++ p ∷ []) ≡ true
    last ps p = in_last p p ps ∙ grind (arith, nat_tests)

-- ---- the first one that is rechecked

-- a process that need not enter the run queue need not when others have entered it
rests_later : (s : State) (o : List ℕ) (r : Process) → wakes s r ≡ false → wakes (record s { order = s.order ++ o }) r ≡ false
rests_later s o r rests =
    ap (λ b. not b && can_act (record s { order = s.order ++ o }) r) (in_append r.pid s.order o) ∙ ap (λ b. not (is_in r.pid s.order || is_in r.pid o) && b) (can_act_order s (s.order ++ o) r)
    ∙ longer (is_in r.pid s.order) (is_in r.pid o) (can_act s r) rests
  where
    longer : (here there acts : Bool) → (not here && acts) ≡ false → (not (here || there) && acts) ≡ false
    longer true there acts e = refl
    longer false true acts e = refl
    longer false false acts e = e

rests_woken : (s : State) (o : Option Process) (r : Process) → wakes s r ≡ false → wakes (woken_if s o) r ≡ false
rests_woken s None r rests = rests
rests_woken s (Some x) r rests = elim (wakes s x) as (λ b. wakes (cond b (record s { order = s.order ++ x.pid ∷ [] }) s) r ≡ false) [ true ↦ rests_later s (x.pid ∷ []) r rests | false ↦ rests ]

-- once the first process that may have to enter the run queue has been rechecked, the others enter it as they would
-- have
pub first_woken : (s : State) (p : ℕ) → IsRegular s → IsRegular (woken s p) → IsNext (wakes s) 0 s.processes (Some p) → give_places (woken s p) ≡ give_places s
unfolding woken
first_woken s p before after first =
    let rs = s.processes in
    let t = woken s p in
    let same = same_processes s p in
    let next = next_above p rs in
    let up = before.rising in
    let others : IsNext (wakes t) p rs next = least_is_next (wakes t) p rs up in
    let rest : (q : ℕ) (r : Process) → lookup q rs ≡ Some r → 0 < q → IfSome next (λ m. q < m) → wakes t r ≡ false = λ q r e some low. elim (q == p) as (λ b. (q == p) ≡ b → wakes t r ≡ false) [
      | true ↦ λ k. woken_rests s p r (ap (lookup p) same ∙ ap (λ n. lookup n rs) (sym (eqb-true q p k)) ∙ e)
      | false ↦ λ k. elim (nat_lt q p) as (λ b. nat_lt q p ≡ b → wakes t r ≡ false) [
        | true ↦ λ l. rests_woken s (process s p) r (first.between q r e some (ltb-true q p l))
        | false ↦ λ l. others.between q r e (omega (arith, eqb-false q p k, ltb-false q p l)) low
      ] refl
    ] refl in
    let all : IsNext (wakes t) 0 rs next = record { there = others.there; above = IfSome_then next others.above (λ m l. omega (arith, l)); between = rest } in
    let all_now : IsNext (wakes t) 0 t.processes next = subst (λ (xs : List Process). IsNext (wakes t) 0 xs next) (sym same) all in
    let others_now : IsNext (wakes t) p t.processes next = subst (λ (xs : List Process). IsNext (wakes t) p xs next) (sym same) others in
    sym (asking_begins t next after all_now) ∙ asking_goes_on s up p next others_now ∙ asking_begins s (Some p) before first

-- the list is shorter without the first one on it
pub without_first : (ns : List ℕ) (p : ℕ) → slice_get ns 0 ≡ Some p → length (without p ns) < length ns
unfolding without
without_first [] p first = absurd (cc)
without_first (n ∷ ns) p first =
    let same : n ≡ p = cc in
    let rest : length (filter (λ q. not (q == p)) ns) < suc (length ns) = omega (arith, length-filter (λ q. not (q == p)) ns, count_by-le-length (λ q. not (q == p)) ns) in
    rw (eq-eqb n p same) rest
