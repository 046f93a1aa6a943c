-- What keeps a state regular.
use Rattle.std.proofs.Common.{◌≡◌, ◌≢◌, ℕ, ◌+◌, ◌≤◌, ◌<◌, Option, Bool, true, false, cond, refl, ap, sym, ◌∙◌, arith, subst, List, [], ◌∷◌, map, Some, None, ◌==◌, inl, inr, ℤ, replicate, slice_get}
use Rattle.std.specs.Option.{IsSome}
use Rattle.std.proofs.lemmas.Bool.{eqb-true, eqb-false, eq-eqb, ne_eqb, cases_eq, cond_both}
use Rattle.std.proofs.lemmas.List.{length-replicate, get_or-replicate}
use Rattle.std.proofs.lemmas.Option.{slice_get_within, get_or_from_slice_get}
use Rattle.posix.specs.declared.process.PendingSignal.{PendingSignal}
use Rattle.posix.specs.Common.{Process, Cpu, is_zombie, first_process, IsRising, lookup, at, changed, inserted, removed, children_in, reparented, adopted, Console, unused_console, World, State, boot, is_in, without, change, lose_place, IsRegular, IsBounded, IsPlaced, CanInherit, IsDistinct, IsAhead, AreGrouped, AreConsoles, signalled, handles, is_full, ended, made_zombie, halt, leave_children_and_die, noticed, ignores_children, news_told, take_out, set_cpu, most_ticks, due_in, is_due, ring_at, rung, with_alarm, ring_all, pass_time}
use Rattle.posix.proofs.MemberLemmas.{in_without, is_other, in_one}
use Rattle.posix.proofs.TableLemmas.{rising_map, rising_inserted, rising_removed, reparented_keeps, pid_reparented, pid_looked}
use Rattle.posix.proofs.WalkLemmas.{children_removed}
use Rattle.posix.proofs.NextLemmas.{IsNew}
use Rattle.posix.proofs.GroupedLemmas.{FitsIn, grouped_left, grouped_map, grouped_with}
use Rattle.posix.proofs.MapLemmas.{at_pid, at_keeps, lookup_back, lookup_on, adopted_changed, children_map, children_adopted, children_elsewhere}

-- a change that keeps all that a regular state asks of a record, at this tick
pub record Keeps (now : ℕ) (g : Process → Process) : Type 0 where
  pub pid : (r : Process) → (g r).pid ≡ r.pid
  pub parent : (r : Process) → (g r).parent ≡ r.parent
  pub group : (r : Process) → (g r).group ≡ r.group
  pub session : (r : Process) → (g r).session ≡ r.session
  pub zombie : (r : Process) → is_zombie (g r).life ≡ is_zombie r.life
  pub alarm : (r : Process) → IsAhead now r.alarm → IsAhead now (g r).alarm

-- no change is one
pub keeps_none : {now : ℕ} → Keeps now (λ r. r)
keeps_none = record { pid = λ r. refl; parent = λ r. refl; group = λ r. refl; session = λ r. refl; zombie = λ r. refl; alarm = λ r h. h }

-- one of two such changes, as a test says, is one too
pub keeps_cond : {now : ℕ} (t : Process → Bool) (f g : Process → Process) → Keeps now f → Keeps now g → Keeps now (λ r. cond (t r) (f r) (g r))
keeps_cond {now = now} t f g h k = record {
  pid = λ r. cond_both (t r) (f r) (g r) (λ q. q.pid ≡ r.pid) (λ e. h.pid r) (λ e. k.pid r);
  parent = λ r. cond_both (t r) (f r) (g r) (λ q. q.parent ≡ r.parent) (λ e. h.parent r) (λ e. k.parent r);
  group = λ r. cond_both (t r) (f r) (g r) (λ q. q.group ≡ r.group) (λ e. h.group r) (λ e. k.group r);
  session = λ r. cond_both (t r) (f r) (g r) (λ q. q.session ≡ r.session) (λ e. h.session r) (λ e. k.session r);
  zombie = λ r. cond_both (t r) (f r) (g r) (λ q. is_zombie q.life ≡ is_zombie r.life) (λ e. h.zombie r) (λ e. k.zombie r);
  alarm = λ r a. cond_both (t r) (f r) (g r) (λ q. IsAhead now q.alarm) (λ e. h.alarm r a) (λ e. k.alarm r a);
}

-- made to one process only, such a change is one too
pub keeps_at : {now : ℕ} (p : ℕ) (f : Process → Process) → Keeps now f → Keeps now (at p f)
keeps_at p f k = keeps_cond (λ r. r.pid == p) f (λ r. r) k keeps_none

-- where one such change follows another, both together are one
pub keeps_then : {now : ℕ} (f g : Process → Process) → Keeps now f → Keeps now g → Keeps now (λ r. g (f r))
keeps_then f g h k = record {
  pid = λ r. k.pid (f r) ∙ h.pid r;
  parent = λ r. k.parent (f r) ∙ h.parent r;
  group = λ r. k.group (f r) ∙ h.group r;
  session = λ r. k.session (f r) ∙ h.session r;
  zombie = λ r. k.zombie (f r) ∙ h.zombie r;
  alarm = λ r a. k.alarm (f r) (h.alarm r a);
}

-- numbers within their range stay so
bounded_as : (m : ℕ) (r q : Process) → IsBounded m q → r.pid ≡ q.pid → r.group ≡ q.group → r.session ≡ q.session → IsBounded m r
bounded_as m r q b p g s = record { least = omega (arith, b.least); pid = omega (arith, b.pid); group = omega (arith, b.group); session = omega (arith, b.session); group_least = omega (arith, b.group_least); session_least = omega (arith, b.session_least) }

-- only the world, the records, the order, the time and the consoles count
pub regular_as : (s t : State) → t.world ≡ s.world → t.processes ≡ s.processes → t.order ≡ s.order → t.ticks ≡ s.ticks → t.consoles ≡ s.consoles → IsRegular s → IsRegular t
regular_as s t w p o k c i = record {
  rising = rw p i.rising;
  bounded = rw (p, w) i.bounded;
  first = rw p i.first;
  placed = rw (p, o) i.placed;
  distinct = rw o i.distinct;
  childless = rw p i.childless;
  alarms = rw (p, k) i.alarms;
  grouped = rw p i.grouped;
  consoles = rw (w, c) i.consoles;
}

-- who is placed has a number from 1 on
pub placed_least : (s : State) → IsRegular s → (p : ℕ) → IsPlaced s.processes p → 1 ≤ p
placed_least s i p h =
    let named = pid_looked p s.processes h.what h.found in
    let least = (i.bounded p h.what h.found).least in
    omega (arith, named, least)

-- What a change of the records of a regular state has to keep, where the tick is then now.
record Suits (s : State) (now : ℕ) (g : Process → Process) : Type 0 where
  pid : (r : Process) → (g r).pid ≡ r.pid
  bounded : (q : ℕ) (r : Process) → lookup q s.processes ≡ Some r → IsBounded s.world.pidmax (g r)
  parentless : (r : Process) → r.parent ≡ 0 → (g r).parent ≡ 0
  living : (q : ℕ) (r : Process) → is_in q s.order ≡ true → lookup q s.processes ≡ Some r → is_zombie (g r).life ≡ is_zombie r.life
  childless : (q : ℕ) (r : Process) → q ≢ 1 → lookup q s.processes ≡ Some r → is_zombie (g r).life ≡ true → children_in q (map g s.processes) ≡ []
  alarm : (r : Process) → IsAhead s.ticks r.alarm → IsAhead now (g r).alarm
  grouped : AreGrouped (map g s.processes)

-- a state stays regular by such a change of each record
regular_mapped : (g : Process → Process) (now : ℕ) (s : State) → Suits s now g → IsRegular s → IsRegular (record s { processes = map g s.processes; ticks = now })
regular_mapped g now s k i = record {
  rising = rising_map g k.pid s.processes i.rising;
  bounded = λ q r e. let b = lookup_back g k.pid q s.processes r e in subst (IsBounded s.world.pidmax) (sym b.is) (k.bounded q b.what b.found);
  first = record { what = g i.first.what; found = lookup_on g k.pid 1 s.processes i.first.what i.first.found; parent = k.parentless i.first.what i.first.parent };
  placed = λ q e. let o = i.placed q e in record { what = g o.what; found = lookup_on g k.pid q s.processes o.what o.found; living = k.living q o.what e o.found ∙ o.living };
  distinct = i.distinct;
  childless = λ q r ne e z. let b = lookup_back g k.pid q s.processes r e in k.childless q b.what ne b.found (ap (λ (r : Process). is_zombie r.life) (sym b.is) ∙ z);
  alarms = λ q r e. let b = lookup_back g k.pid q s.processes r e in subst (λ (r : Process). IsAhead now r.alarm) (sym b.is) (k.alarm b.what (i.alarms q b.what b.found));
  grouped = k.grouped;
  consoles = i.consoles;
}

-- and by one that keeps all this of any record
regular_map : (g : Process → Process) (now : ℕ) (s : State) → Keeps s.ticks g → ((r : Process) → IsAhead s.ticks r.alarm → IsAhead now (g r).alarm) → IsRegular s → IsRegular (record s { processes = map g s.processes; ticks = now })
regular_map g now s k alarm i = regular_mapped g now s (record {
  pid = k.pid;
  bounded = λ q r e. bounded_as s.world.pidmax (g r) r (i.bounded q r e) (k.pid r) (k.group r) (k.session r);
  parentless = λ r e. k.parent r ∙ e;
  living = λ q r there e. k.zombie r;
  childless = λ q r ne e z. children_map g k.parent q s.processes ∙ ap (map g) (i.childless q r ne e (sym (k.zombie r) ∙ z));
  alarm = alarm;
  grouped = grouped_map g k.pid k.group k.session s.processes i.grouped;
}) i

-- or by one of a single process
pub regular_change : (p : ℕ) (f : Process → Process) (s : State) → Keeps s.ticks f → IsRegular s → IsRegular (change s p f)
unfolding changed
regular_change p f s k i = regular_map (at p f) s.ticks s (keeps_at p f k) (keeps_at p f k).alarm i

-- ---- the order

-- a run queue without p still has no process twice
pub distinct_without : (p : ℕ) (o : List ℕ) → IsDistinct o → IsDistinct (without p o)
unfolding IsDistinct without
distinct_without p [] d = tt
distinct_without p (x ∷ xs) d = grind (arith, d.0, in_without x p xs, distinct_without p xs d.1)

-- a state stays regular with another such order, of who is placed, and other consoles
pub regular_with : (o : List ℕ) (cs : List Console) (s : State) → ((q : ℕ) → is_in q o ≡ true → IsPlaced s.processes q) → IsDistinct o → AreConsoles s.world.consoles cs → IsRegular s → IsRegular (record s { order = o; consoles = cs })
regular_with o cs s placed distinct consoles i = record {
  rising = i.rising;
  bounded = i.bounded;
  first = i.first;
  placed = placed;
  distinct = distinct;
  childless = i.childless;
  alarms = i.alarms;
  grouped = i.grouped;
  consoles = consoles;
}

-- a state stays regular where a process loses its place in the order
pub regular_lose : (p : ℕ) (s : State) → IsRegular s → IsRegular (lose_place s p)
regular_lose p s i = regular_with (without p s.order) s.consoles s (λ q e. i.placed q (is_other p q s.order e).among) (distinct_without p s.order i.distinct) i.consoles i

-- ---- ends

-- another process has another number
other_pid : (p q : ℕ) (rs : List Process) (r : Process) → q ≢ p → lookup q rs ≡ Some r → (r.pid == p) ≡ false
other_pid p q rs r ne e = ne_eqb _ _ (λ x. ne (sym (pid_looked q rs r e) ∙ x))

-- its record stays
pub lookup_other : (p q : ℕ) (f : Process → Process) → ((r : Process) → (f r).pid ≡ r.pid) → q ≢ p → (rs : List Process) (r : Process) → lookup q rs ≡ Some r → lookup q (changed p f rs) ≡ Some r
unfolding changed
lookup_other p q f k ne rs r e = lookup_on (at p f) (at_pid p f k) q rs r e ∙ ap Some (rw (other_pid p q rs r ne e) refl)

-- and was the same
pub other_back : (p q : ℕ) (f : Process → Process) → ((r : Process) → (f r).pid ≡ r.pid) → q ≢ p → (rs : List Process) (r : Process) → lookup q (changed p f rs) ≡ Some r → lookup q rs ≡ Some r
unfolding changed
other_back p q f k ne rs r e =
    let b = lookup_back (at p f) (at_pid p f k) q rs r e in
    let same : r ≡ b.what = b.is ∙ rw (other_pid p q rs b.what ne b.found) refl in
    b.found ∙ ap Some (sym same)

-- A change of one process that may give it another group and session, within their range, and keeps the rest.
pub record Moves (now : ℕ) (g : Process → Process) : Type 0 where
  pub pid : (r : Process) → (g r).pid ≡ r.pid
  pub parent : (r : Process) → (g r).parent ≡ r.parent
  pub zombie : (r : Process) → is_zombie (g r).life ≡ is_zombie r.life
  pub alarm : (r : Process) → IsAhead now r.alarm → IsAhead now (g r).alarm

-- Groups stay in one session where a process is changed and fits in.
grouped_changed : (p : ℕ) (f : Process → Process) → ((r : Process) → (f r).pid ≡ r.pid) → (rs : List Process) (me : Process) → lookup p rs ≡ Some me → FitsIn rs p (f me) → AreGrouped rs → AreGrouped (changed p f rs)
unfolding changed
grouped_changed p f k rs me found fits h =
    let itself : (me.pid == p) ≡ true = eq-eqb me.pid p (pid_looked p rs me found) in
    let now = lookup_on (at p f) (at_pid p f k) p rs me found ∙ ap Some (rw itself refl) in
    grouped_with rs (changed p f rs) p (f me) now (λ q t away e. other_back p q f k away rs t e) fits h

-- a state stays regular where a process is changed so, and fits in with the others
pub regular_moved : (p : ℕ) (f : Process → Process) (s : State) (me : Process) → lookup p s.processes ≡ Some me → Moves s.ticks f → IsBounded s.world.pidmax (f me) → FitsIn s.processes p (f me) → IsRegular s → IsRegular (change s p f)
unfolding changed
regular_moved p f s me found k bounds fits i = regular_mapped (at p f) s.ticks s (record {
  pid = at_pid p f k.pid;
  bounded = λ q r e. cond_both (r.pid == p) (f r) r (IsBounded s.world.pidmax)
      (λ t.
      let one : me ≡ r = let both = sym found ∙ ap (λ n. lookup n s.processes) (sym (eqb-true r.pid p t) ∙ pid_looked q s.processes r e) ∙ e in cc in
      subst (λ r. IsBounded s.world.pidmax (f r)) one bounds)
      (λ t. i.bounded q r e);
  parentless = λ r e. at_keeps (λ q. q.parent) p f k.parent r ∙ e;
  living = λ q r there e. at_keeps (λ q. is_zombie q.life) p f k.zombie r;
  childless = λ q r ne e z. children_map (at p f) (at_keeps (λ q. q.parent) p f k.parent) q s.processes ∙ ap (map (at p f)) (i.childless q r ne e (sym (at_keeps (λ q. is_zombie q.life) p f k.zombie r) ∙ z));
  alarm = λ r h. cond_both (r.pid == p) (f r) r (λ r. IsAhead s.ticks r.alarm) (λ t. k.alarm r h) (λ t. h);
  grouped = grouped_changed p f k.pid s.processes me found fits i.grouped;
}) i

-- A process that is changed, to a zombie say, and loses its place: all others are as they were.
pub regular_leave : (p : ℕ) (f : Process → Process) → ((r : Process) → (f r).pid ≡ r.pid) → ((r : Process) → (f r).parent ≡ r.parent)
    → ((r : Process) → (f r).group ≡ r.group) → ((r : Process) → (f r).session ≡ r.session)
    → (s : State) → ((r : Process) → IsAhead s.ticks r.alarm → IsAhead s.ticks (f r).alarm) → IsRegular s → (p ≢ 1 → children_in p s.processes ≡ []) → IsRegular (lose_place (change s p f) p)
unfolding changed
regular_leave p f kp kq kg ks s ka i none = regular_mapped (at p f) s.ticks (lose_place s p) (record {
  pid = at_pid p f kp;
  bounded = λ q r e. bounded_as s.world.pidmax (at p f r) r (i.bounded q r e) (at_pid p f kp r) (at_keeps (λ q. q.group) p f kg r) (at_keeps (λ q. q.session) p f ks r);
  parentless = λ r e. at_keeps (λ q. q.parent) p f kq r ∙ e;
  living = λ q r there e. rw (other_pid p q s.processes r (is_other p q s.order there).apart e) refl;
  childless = λ q r ne e z. children_map (at p f) (at_keeps (λ q. q.parent) p f kq) q s.processes ∙ ap (map (at p f)) (elim (cases_eq q p) [
    | inl same ↦ subst (λ n. children_in n s.processes ≡ []) (sym same) (none (λ x. ne (same ∙ x)))
    | inr away ↦ i.childless q r ne e (rw (other_pid p q s.processes r away e) at z)
  ]);
  alarm = λ r h. cond_both (r.pid == p) (f r) r (λ r. IsAhead s.ticks r.alarm) (λ t. ka r h) (λ t. h);
  grouped = grouped_map (at p f) (at_pid p f kp) (at_keeps (λ q. q.group) p f kg) (at_keeps (λ q. q.session) p f ks) s.processes i.grouped;
}) (regular_lose p s i)

-- an heir of p is another
pub heir_other : (rs : List Process) (p heir : ℕ) → p ≢ 1 → CanInherit rs p heir → heir ≢ p
heir_other rs p heir ne (inl first) = λ x. ne (sym x ∙ first)
heir_other rs p heir ne (inr h) = h.0

-- and there
pub heir_there : (s : State) (p heir : ℕ) → IsRegular s → CanInherit s.processes p heir → IsSome (lookup heir s.processes)
heir_there s p heir i (inl first) = rw (first, i.first.found) refl
heir_there s p heir i (inr h) = rw h.1.found refl

-- a zombie other than process 1 is no heir
pub heir_living : (rs : List Process) (p heir c : ℕ) (r : Process) → CanInherit rs p heir → c ≢ 1 → lookup c rs ≡ Some r → is_zombie r.life ≡ true → c ≢ heir
heir_living rs p heir c r (inl first) ne e z = λ x. ne (x ∙ first)
heir_living rs p heir c r (inr h) ne e z = λ x. grind (arith, x, h.1.found, h.1.living, e, z)

-- who may inherit may still where each record keeps its number and its life
pub heir_map : (g : Process → Process) → ((r : Process) → (g r).pid ≡ r.pid) → ((r : Process) → is_zombie (g r).life ≡ is_zombie r.life)
    → (rs : List Process) (p heir : ℕ) → CanInherit rs p heir → CanInherit (map g rs) p heir
heir_map g kp kz rs p heir (inl first) = inl first
heir_map g kp kz rs p heir (inr h) = inr (h.0, record { what = g h.1.what; found = lookup_on g kp heir rs h.1.what h.1.found; living = kz h.1.what ∙ h.1.living })

-- the children of p go to its heir
pub regular_adopted : (p heir : ℕ) → 1 ≤ p → (s : State) → IsRegular s → CanInherit s.processes p heir → IsRegular (record s { processes = adopted p heir s.processes })
unfolding adopted
regular_adopted p heir least s i h = regular_mapped (reparented p heir) s.ticks s (record {
  pid = pid_reparented p heir;
  bounded = λ q r e. bounded_as s.world.pidmax (reparented p heir r) r (i.bounded q r e) (pid_reparented p heir r) (reparented_keeps (λ r. r.group) p heir (λ r. refl) r) (reparented_keeps (λ r. r.session) p heir (λ r. refl) r);
  parentless = λ r e. let t : (r.parent == p) ≡ false = ne_eqb _ _ (λ x. omega (arith, least, e, x)) in rw t e;
  living = λ q r there e. reparented_keeps (λ r. is_zombie r.life) p heir (λ r. refl) r;
  childless = λ q r other e z.
      let old : is_zombie r.life ≡ true = sym (reparented_keeps (λ r. is_zombie r.life) p heir (λ r. refl) r) ∙ z in
      children_elsewhere p heir q (heir_living s.processes p heir q r h other e old) s.processes (i.childless q r other e old);
  alarm = λ r a. subst (IsAhead s.ticks) (sym (reparented_keeps (λ r. r.alarm) p heir (λ r. refl) r)) a;
  grouped = grouped_map (reparented p heir) (pid_reparented p heir) (reparented_keeps (λ r. r.group) p heir (λ r. refl)) (reparented_keeps (λ r. r.session) p heir (λ r. refl)) s.processes i.grouped;
}) i

-- a record may be made a zombie and adopted in either order
commutes : (p heir w : ℕ) (r : Process) → made_zombie w (reparented p heir r) ≡ reparented p heir (made_zombie w r)
unfolding made_zombie
commutes p heir w r = elim (r.parent == p) as (λ b. made_zombie w (cond b (record r { parent = heir }) r) ≡ cond b (record (made_zombie w r) { parent = heir }) (made_zombie w r)) [ true ↦ refl | false ↦ refl ]

-- a state stays regular where a process other than process 1 departs
pub regular_depart : (p heir w : ℕ) → 1 ≤ p → p ≢ 1 → (s : State) → IsRegular s → CanInherit s.processes p heir → IsRegular (leave_children_and_die s p heir w)
unfolding made_zombie
regular_depart p heir w least ne s i h =
    let given = record s { processes = adopted p heir s.processes } in
    let left = regular_leave p (made_zombie w) (λ r. refl) (λ r. refl) (λ r. refl) (λ r. refl) given (λ r h. tt) (regular_adopted p heir least s i h)
    (λ other. children_adopted p heir (heir_other s.processes p heir ne h) s.processes) in
    subst (λ rs. IsRegular (record s { processes = rs; order = without p s.order })) (adopted_changed p heir p (made_zombie w) (commutes p heir w) s.processes) left

-- a state stays regular where the machine halts
pub regular_halt : (w : ℕ) (s : State) → IsRegular s → IsRegular (halt s w)
unfolding ended
regular_halt w s i =
    regular_as _ (halt s w) refl refl refl refl refl (regular_leave 1 (ended w) (λ r. refl) (λ r. refl) (λ r. refl) (λ r. refl) s (λ r h. h) i (λ ne. absurd (ne refl)))

-- ---- births and collections

-- the record of another process stays where a new one goes in
pub lookup_inserted : (new : Process) (q : ℕ) (rs : List Process) → q ≢ new.pid → lookup q (inserted new rs) ≡ lookup q rs
unfolding lookup inserted
lookup_inserted new q [] ne = rw (ne_eqb new.pid q (λ e. ne (sym e))) refl
lookup_inserted new q (r ∷ rs) ne = grind (arith, ne, lookup_inserted new q rs ne, eqb-true, eqb-false)

-- an existing process exists after another one is inserted
pub some_inserted : (new : Process) (q : ℕ) (rs : List Process) → IsSome (lookup q rs) → IsSome (lookup q (inserted new rs))
unfolding lookup inserted
some_inserted new q [] h = absurd (cc)
some_inserted new q (r ∷ rs) h = grind (arith, h, some_inserted new q rs)

-- the new one is found by its pid
pub lookup_new : (new : Process) (rs : List Process) → lookup new.pid rs ≡ None → lookup new.pid (inserted new rs) ≡ Some new
unfolding lookup inserted
lookup_new new [] e = rw (eq-eqb new.pid new.pid refl) refl
lookup_new new (r ∷ rs) e = grind (arith, lookup_new new rs, eqb-true, eqb-false, eq-eqb new.pid new.pid refl)

-- creating a child of another process gives q no child
pub children_inserted : (new : Process) (q : ℕ) (rs : List Process) → new.parent ≢ q → children_in q (inserted new rs) ≡ children_in q rs
unfolding children_in inserted
children_inserted new q [] ne = rw (ne_eqb new.parent q ne) refl
children_inserted new q (r ∷ rs) ne = grind (arith, ne, children_inserted new q rs ne, eqb-true, eqb-false)

-- A living record with a new number goes in, in the group and session of its parent, which is living; the other
-- counts may change.
pub regular_inserted : (new : Process) (last births : ℕ) (s : State) → IsRegular s → IsNew s.processes s.world.pidmax new.pid → is_zombie new.life ≡ false → new.alarm ≡ None
    → (me : Process) → lookup new.parent s.processes ≡ Some me → is_zombie me.life ≡ false → new.group ≡ me.group → new.session ≡ me.session
    → IsRegular (record s { processes = inserted new s.processes; last_pid = last; births = births })
regular_inserted new last births s i number living silent me there up group session = record {
  rising = rising_inserted new s.processes i.rising number.fresh;
  bounded = λ q r e. elim (cases_eq q new.pid) [
    | inl same ↦
        let one : new ≡ r = let both = sym (lookup_new new s.processes number.fresh) ∙ ap (λ n. lookup n (inserted new s.processes)) (sym same) ∙ e in cc in
        subst (IsBounded s.world.pidmax) one bounds
    | inr away ↦ i.bounded q r (sym (lookup_inserted new q s.processes away) ∙ e)
  ];
  first = record { what = i.first.what; found = still 1 i.first.what i.first.found; parent = i.first.parent };
  placed = λ q e. let o = i.placed q e in record { what = o.what; found = still q o.what o.found; living = o.living };
  distinct = i.distinct;
  childless = λ q r ne e z. elim (cases_eq q new.pid) [
    | inl same ↦ absurd (grind (arith, same, e, z, living, lookup_new new s.processes number.fresh))
    | inr away ↦
        let old : lookup q s.processes ≡ Some r = sym (lookup_inserted new q s.processes away) ∙ e in
        children_inserted new q s.processes (λ x. grind (arith, x, there, up, old, z)) ∙ i.childless q r ne old z
  ];
  alarms = λ q r e. elim (cases_eq q new.pid) [
    | inl same ↦
        let one : new ≡ r = let both = sym (lookup_new new s.processes number.fresh) ∙ ap (λ n. lookup n (inserted new s.processes)) (sym same) ∙ e in cc in
        subst (λ (r : Process). IsAhead s.ticks r.alarm) one (subst (IsAhead s.ticks) (sym silent) tt)
    | inr away ↦ i.alarms q r (sym (lookup_inserted new q s.processes away) ∙ e)
  ];
  grouped = grouped_with s.processes (inserted new s.processes) new.pid new (lookup_new new s.processes number.fresh)
      (λ q t away e. sym (lookup_inserted new q s.processes away) ∙ e) fits i.grouped;
  consoles = i.consoles;
}
  where
    bounds : IsBounded s.world.pidmax new
    bounds = let b = i.bounded new.parent me there in record { least = number.least; pid = number.greatest; group = omega (arith, b.group, group); session = omega (arith, b.session, session); group_least = omega (arith, b.group_least, group); session_least = omega (arith, b.session_least, session) }

    fits : FitsIn s.processes new.pid new
    fits = record {
      one = λ q t away e same. i.grouped.one q new.parent t me e there (same ∙ group) ∙ sym session;
      own = λ q t away e same. absurd (number.groupless q t e same);
      leader = λ q t away e same. session ∙ i.grouped.own q new.parent t me e there (sym group ∙ same);
    }

    -- who was there is there
    still : (q : ℕ) (r : Process) → lookup q s.processes ≡ Some r → lookup q (inserted new s.processes) ≡ Some r
    still q r e = lookup_inserted new q s.processes (λ x. let both = sym e ∙ ap (λ n. lookup n s.processes) x ∙ number.fresh in absurd (cc)) ∙ e

-- the record of another process stays where one is removed
pub lookup_kept : (p q : ℕ) (rs : List Process) → q ≢ p → lookup q (removed p rs) ≡ lookup q rs
unfolding lookup removed
lookup_kept p q [] ne = refl
lookup_kept p q (r ∷ rs) ne = grind (arith, ne, lookup_kept p q rs ne, eqb-true, eqb-false)

-- who may inherit may still where another is removed
pub heir_removed : (c p heir : ℕ) (rs : List Process) → c ≢ heir → CanInherit rs p heir → CanInherit (removed c rs) p heir
heir_removed c p heir rs other (inl first) = inl first
heir_removed c p heir rs other (inr h) = inr (h.0, record { what = h.1.what; found = lookup_kept c heir rs (λ x. other (sym x)) ∙ h.1.found; living = h.1.living })

-- the one that is removed is not found
pub lookup_removed : (p : ℕ) (rs : List Process) → lookup p (removed p rs) ≡ None
unfolding lookup removed
lookup_removed p [] = refl
lookup_removed p (r ∷ rs) = grind (arith, lookup_removed p rs)

-- who is left was there
pub lookup_left : (p q : ℕ) (rs : List Process) (r : Process) → lookup q (removed p rs) ≡ Some r → lookup q rs ≡ Some r
lookup_left p q rs r e = sym (lookup_kept p q rs (λ x. let both = sym (lookup_removed p rs) ∙ ap (λ n. lookup n (removed p rs)) (sym x) ∙ e in absurd (cc))) ∙ e

-- the record of a zombie other than process 1 goes
pub regular_removed : (p : ℕ) (zombie : Process) (s : State) → IsRegular s → p ≢ 1 → lookup p s.processes ≡ Some zombie → is_zombie zombie.life ≡ true → IsRegular (record s { processes = removed p s.processes })
unfolding removed
regular_removed p zombie s i other there dead = record {
  rising = rising_removed p s.processes i.rising;
  bounded = λ q r e. i.bounded q r (lookup_left p q s.processes r e);
  first = record { what = i.first.what; found = lookup_kept p 1 s.processes (λ x. other (sym x)) ∙ i.first.found; parent = i.first.parent };
  placed = λ q e.
      let o = i.placed q e in
      record { what = o.what; found = lookup_kept p q s.processes (λ x. grind (arith, x, o.found, o.living, there, dead)) ∙ o.found; living = o.living };
  distinct = i.distinct;
  childless = λ q r ne e z. children_removed q p s.processes ∙ ap (removed p) (i.childless q r ne (lookup_left p q s.processes r e) z);
  alarms = λ q r e. i.alarms q r (lookup_left p q s.processes r e);
  grouped = grouped_left s.processes (removed p s.processes) (λ q t e. lookup_left p q s.processes t e) i.grouped;
  consoles = i.consoles;
}

-- ---- changes that keep

-- another content of the cpu keeps it
pub keeps_set_cpu : {now : ℕ} (c : Cpu) → Keeps now (set_cpu c)
unfolding set_cpu
keeps_set_cpu c = record { pid = λ r. refl; parent = λ r. refl; group = λ r. refl; session = λ r. refl; zombie = λ r. refl; alarm = λ r h. h }

-- a consumed status change keeps it
pub keeps_news_told : {now : ℕ} → Keeps now news_told
unfolding news_told
keeps_news_told = record { pid = λ r. refl; parent = λ r. refl; group = λ r. refl; session = λ r. refl; zombie = λ r. refl; alarm = λ r h. h }

-- a handler that is entered, or that there is no room for, keeps it
pub keeps_handles : {now : ℕ} (signal : PendingSignal) (address : ℤ) → Keeps now (handles signal address)
unfolding handles
keeps_handles signal address = keeps_cond (λ r. is_full r.signals) _ _ (record { pid = λ r. refl; parent = λ r. refl; group = λ r. refl; session = λ r. refl; zombie = λ r. refl; alarm = λ r h. h })
    (record { pid = λ r. refl; parent = λ r. refl; group = λ r. refl; session = λ r. refl; zombie = λ r. refl; alarm = λ r h. h })

-- a signal that is removed keeps it
pub keeps_take_out : {now : ℕ} (n : ℕ) → Keeps now (take_out n)
unfolding take_out
keeps_take_out n = record { pid = λ r. refl; parent = λ r. refl; group = λ r. refl; session = λ r. refl; zombie = λ r. refl; alarm = λ r h. h }

-- a signal that is generated keeps it
pub keeps_signalled : {now : ℕ} (signal : PendingSignal) → Keeps now (signalled signal)
unfolding signalled
keeps_signalled signal = record { pid = λ r. refl; parent = λ r. refl; group = λ r. refl; session = λ r. refl; zombie = λ r. refl; alarm = λ r h. h }

-- SIGCHLD for a termination keeps it
pub keeps_noticed : {now : ℕ} (signal : PendingSignal) → Keeps now (noticed signal)
unfolding noticed
keeps_noticed signal = keeps_cond (λ r. ignores_children r.signals) (λ r. r) (signalled signal) keeps_none (keeps_signalled signal)

-- an alarm that goes off keeps it
pub keeps_ring : {now : ℕ} (at : ℕ) → Keeps now (ring_at at)
unfolding rung with_alarm signalled
keeps_ring at = keeps_cond (λ r. is_due at r.alarm) rung (λ r. r) (record { pid = λ r. refl; parent = λ r. refl; group = λ r. refl; session = λ r. refl; zombie = λ r. refl; alarm = λ r h. tt }) keeps_none

-- an alarm that is set to a later tick, or cleared, keeps it
pub keeps_with_alarm : {now : ℕ} (due : Option ℕ) → IsAhead now due → Keeps now (with_alarm due)
unfolding with_alarm
keeps_with_alarm due ahead = record { pid = λ r. refl; parent = λ r. refl; group = λ r. refl; session = λ r. refl; zombie = λ r. refl; alarm = λ r h. ahead }

-- ticks from now on are ahead
pub due_ahead : (now n : ℕ) → n ≤ most_ticks → IsAhead now (due_in now n)
due_ahead now n few = cond_both (n == 0) None (Some (now + n)) (IsAhead now) (λ e. tt) (λ e. let some = eqb-false n 0 e in (omega (arith, some), omega (arith, few)))

-- ---- the time goes on

-- an alarm that isn't due at the next tick is due later
not_due : (now : ℕ) (a : Option ℕ) → is_due (now + 1) a ≡ false → IsAhead now a → IsAhead (now + 1) a
not_due now None e h = tt
not_due now (Some due) e h = let ne = eqb-false due (now + 1) e in (omega (arith, h.0, ne), omega (arith, h.1))

later : (now : ℕ) (r : Process) → IsAhead now r.alarm → IsAhead (now + 1) (ring_at (now + 1) r).alarm
unfolding rung with_alarm
later now r h = cond_both (is_due (now + 1) r.alarm) (rung r) r (λ q. IsAhead (now + 1) q.alarm) (λ e. tt) (λ e. not_due now r.alarm e h)

-- a state stays regular as the time goes on
pub regular_pass : (s : State) → IsRegular s → IsRegular (pass_time s)
unfolding ring_all
regular_pass s i = regular_map (ring_at (s.ticks + 1)) (s.ticks + 1) s (keeps_ring (s.ticks + 1)) (later s.ticks) i

-- ---- the start

-- consoles without a session
pub consoles_unused : (n : ℕ) → AreConsoles n (replicate n unused_console)
consoles_unused n = record {
  count = length-replicate n unused_console;
  apart = λ i j c d e f some same. absurd (some (sym (ap (λ (c : Console). c.session) (alike i c e))));
}
  where
    alike : (i : ℕ) (c : Console) → slice_get (replicate n unused_console) i ≡ Some c → unused_console ≡ c
    alike i c e =
        let within : i < n = let l = slice_get_within (replicate n unused_console) i c e in omega (arith, l, length-replicate n unused_console) in
        sym (get_or-replicate n i unused_console unused_console within) ∙ get_or_from_slice_get (replicate n unused_console) i c unused_console e

-- process 1 alone
pub regular_first : (w : World) → 1 ≤ w.pidmax → IsRegular (boot w)
unfolding lookup IsRising children_in is_in IsDistinct
regular_first w most = record {
  rising = (tt, tt);
  bounded = λ p r e. subst (IsBounded w.pidmax) (alone p r e) (record { least = omega arith; pid = omega (arith, most); group = omega (arith, most); session = omega (arith, most); group_least = omega arith; session_least = omega arith });
  first = record { what = first_process; found = refl; parent = refl };
  placed = λ p e. subst (IsPlaced (first_process ∷ [])) (sym (in_one p 1 e)) (record { what = first_process; found = refl; living = refl });
  distinct = (refl, tt);
  childless = λ p r ne e z. absurd (let k : false ≡ true = ap (λ (r : Process). is_zombie r.life) (alone p r e) ∙ z in cc);
  alarms = λ p r e. subst (λ (r : Process). IsAhead 0 r.alarm) (alone p r e) tt;
  grouped = record {
    one = λ p q r t e f same. ap (λ (r : Process). r.session) (sym (alone p r e) ∙ alone q t f);
    own = λ p q r t e f same. ap (λ (r : Process). r.session) (sym (alone q t f) ∙ alone p r e);
  };
  consoles = consoles_unused w.consoles;
}
  where
    alone : (p : ℕ) (r : Process) → cond (1 == p) (Some first_process) None ≡ Some r → first_process ≡ r
    alone p r e = grind (arith, e)
