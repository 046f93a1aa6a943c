-- Calls on process groups, sessions and programs keep a state regular.
use Rattle.std.proofs.Common.{◌≡◌, ◌≢◌, ℕ, ◌≤◌, true, false, not, ◌&&◌, ◌||◌, ◌==◌, refl, ap, sym, ◌∙◌, arith, List, Some, Ok, ⊎_elim}
use Rattle.std.proofs.lemmas.Bool.{eqb-true, eq-eqb, ne_eqb, and_parts, or_cases}
use Rattle.posix.specs.Common.{Process, IsRising, lookup, State, Program, change, IsRegular, executed, is_group_of, group_meant, can_join, can_move, move_of, in_group, is_group_of_others, in_session}
use Rattle.posix.proofs.TableLemmas.{pid_looked, none_found}
use Rattle.posix.proofs.WalkLemmas.{some_looked}
use Rattle.posix.proofs.GroupedLemmas.{FitsIn}
use Rattle.posix.proofs.RegularLemmas.{Keeps, regular_moved}

-- ---- which group a process moves to

-- a member of a group of a session
record IsMember (rs : List Process) (own g : ℕ) : Type 0 where
  number : ℕ
  what : Process
  found : lookup number rs ≡ Some what
  session : what.session ≡ own
  group : what.group ≡ g

-- a group of a session has one
member_of : (rs : List Process) → IsRising rs → (session g : ℕ) → is_group_of session g rs ≡ true → IsMember rs session g
unfolding is_group_of
member_of rs up session g e =
    let i = some_looked _ rs up e in
    let both = and_parts _ _ i.2 in
    record { number = i.0.pid; what = i.0; found = i.1; session = eqb-true i.0.session session both.0; group = eqb-true i.0.group g both.1 }

-- r may move to the group g of the session of me, which is its own
record Joins (me r : Process) (g : ℕ) (rs : List Process) : Type 0 where
  session : r.session ≡ me.session
  group : (g == r.pid || is_group_of me.session g rs) ≡ true

-- a process that may join a group
joined : (me r : Process) (g h : ℕ) (rs : List Process) → can_join me r g rs ≡ Ok h → Joins me r h rs
joined me r g h rs e = record { session = grind (arith, e, eqb-true r.session me.session); group = grind (arith, e) }

-- or move to it
moved : (me r : Process) (g h : ℕ) (rs : List Process) → can_move me r g rs ≡ Ok h → Joins me r h rs
moved me r g h rs e = joined me r g h rs (grind (arith, e))

-- the number of that group is within the range
joined_bounded : (s : State) → IsRegular s → (me r : Process) (p h : ℕ) → lookup p s.processes ≡ Some r → Joins me r h s.processes → (1 ≤ h) × (h ≤ s.world.pidmax)
joined_bounded s i me r p h found j = ⊎_elim
    (λ x. let same = eqb-true h r.pid x in let b = i.bounded p r found in (omega (arith, same, b.least), omega (arith, same, b.pid)))
    (λ x. let m = member_of s.processes i.rising me.session h x in let b = i.bounded m.number m.what m.found in (omega (arith, b.group_least, m.group), omega (arith, b.group, m.group)))
    (or_cases _ _ j.group)

-- and the process fits in with its members
joined_fits : (s : State) → IsRegular s → (me r : Process) (p h : ℕ) → lookup p s.processes ≡ Some r → Joins me r h s.processes → FitsIn s.processes p (in_group h r)
unfolding in_group
joined_fits s i me r p h found j = ⊎_elim
    (λ x.
    let named : h ≡ p = eqb-true h r.pid x ∙ pid_looked p s.processes r found in
    record {
      one = λ q t away e same. i.grouped.own p q r t found e (same ∙ named);
      own = λ q t away e same. i.grouped.own p q r t found e same;
      leader = λ q t away e same. absurd (away (sym same ∙ named));
    })
    (λ x.
    let m = member_of s.processes i.rising me.session h x in
    let own : r.session ≡ m.what.session = j.session ∙ sym m.session in
    record {
      one = λ q t away e same. i.grouped.one q m.number t m.what e m.found (same ∙ sym m.group) ∙ sym own;
      own = λ q t away e same. i.grouped.own p q r t found e same;
      leader = λ q t away e same. own ∙ i.grouped.own q m.number t m.what e m.found (m.group ∙ same);
    })
    (or_cases _ _ j.group)

-- a state stays regular where a process moves to the group that it may
pub regular_move : (s : State) → IsRegular s → (me r : Process) (p g h : ℕ) → lookup p s.processes ≡ Some r → move_of me (Some r) g s.processes ≡ Ok h → IsRegular (change s r.pid (in_group h))
unfolding in_group
regular_move s i me r p g h found e =
    let named = pid_looked p s.processes r found in
    let here : lookup r.pid s.processes ≡ Some r = ap (λ n. lookup n s.processes) named ∙ found in
    let j = moved me r (group_meant r g) h s.processes e in
    let b = i.bounded r.pid r here in
    let within = joined_bounded s i me r r.pid h here j in
    regular_moved r.pid (in_group h) s r here (record { pid = λ r. refl; parent = λ r. refl; zombie = λ r. refl; alarm = λ r a. a })
    (record { least = b.least; pid = b.pid; group = within.1; session = b.session; group_least = within.0; session_least = b.session_least }) (joined_fits s i me r r.pid h here j) i

-- where no other is in a group with the number of a process, each other's group has another number
others_elsewhere : (rs : List Process) (me : Process) (p : ℕ) → lookup p rs ≡ Some me → is_group_of_others me rs ≡ false → (q : ℕ) (t : Process) → q ≢ p → lookup q rs ≡ Some t → t.group ≢ me.pid
others_elsewhere rs me p found none q t away e same =
    let no : (t.group == me.pid && not (t.pid == me.pid)) ≡ false = none_found _ rs none q t e in
    let other : (t.pid == me.pid) ≡ false = ne_eqb _ _ (λ x. away (sym (pid_looked q rs t e) ∙ x ∙ pid_looked p rs me found)) in
    absurd (grind (arith, no, eq-eqb t.group me.pid same, other))

-- and where it leads a session of its own, no other being in a group with its number
pub regular_session : (s : State) → IsRegular s → (me : Process) (p : ℕ) → lookup p s.processes ≡ Some me → is_group_of_others me s.processes ≡ false → IsRegular (change s p in_session)
unfolding in_session
regular_session s i me p found none =
    let named = pid_looked p s.processes me found in
    let b = i.bounded p me found in
    regular_moved p in_session s me found (record { pid = λ r. refl; parent = λ r. refl; zombie = λ r. refl; alarm = λ r a. a })
    (record { least = b.least; pid = b.pid; group = b.pid; session = b.pid; group_least = b.least; session_least = b.least })
    (record {
      one = λ q t away e same. absurd (others_elsewhere s.processes me p found none q t away e same);
      own = λ q t away e same. absurd (others_elsewhere s.processes me p found none q t away e (same ∙ sym named));
      leader = λ q t away e same. absurd (away (sym same ∙ named));
    }) i

-- another program keeps what a regular state asks
pub keeps_executed : {now : ℕ} (number : ℕ) (program : Program) → Keeps now (executed number program)
unfolding executed
keeps_executed number program = record { pid = λ r. refl; parent = λ r. refl; group = λ r. refl; session = λ r. refl; zombie = λ r. refl; alarm = λ r h. h }
