-- The invariant of a table when a process is changed, inserted or removed.
use Rattle.std.proofs.Common.{◌≡◌, ℕ, false, true, is_some, ◌+◌, ◌<◌, ◌≤◌, ◌⊎◌, subst, option_map, Option, refl, ◌-◌, ◌≢◌, ap, sym, ◌∙◌, arith, List, [], length, Some, None, ⊎_elim, inl, inr}
use Rattle.std.specs.Borrow.{MutBor}
use Rattle.std.specs.Fn.{Once}
use Rattle.std.specs.Prelude.{option_and_then}
use Rattle.std.specs.Option.{IfSome, IsSome}
use Rattle.std.proofs.lemmas.Bool.{eqb-true, eq-eqb, cases_eq, cases_lt}
use Rattle.std.proofs.lemmas.List.{length-map}
use Rattle.posix.specs.Common.{Process, is_zombie, IsRising, lookup, pids, at, changed, inserted, removed, adopted, reparented, parent_of, children_in, is_member, greatest_pid}
use Rattle.posix.proofs.TableLemmas.{pid_looked, lookup_changed, remove_none, rising_inserted, rising_removed, rising_adopted, length_inserted, length_removed, pid_reparented, reparented_keeps}
use Rattle.posix.proofs.MapLemmas.{lookup_map, lookup_back, at_pid, at_keeps}
use Rattle.posix.proofs.RegularLemmas.{lookup_new, lookup_removed}
use Rattle.posix.proofs.WalkLemmas.{pid_found, some_looked}
use Rattle.pidset.specs.Indexes.{ArePairsRekeyed, AreTurned, HaveParents, IsIndex, IndexView, anchor_key, key_of, IsAnchorIndex, IsMoved, IsReplaced}
use Rattle.pidset.specs.Lists.{ListsView}
use Rattle.pidset.specs.Rows.{Grows, HasRoom}
use Rattle.pidset.proofs.IndexLemmas.{IsElsewhere, elsewhere_changed, elsewhere_inserted, elsewhere_removed, index_moved, key_removed, rises_pids}
use Rattle.pidset.proofs.NumberLemmas.{few}
use Rattle.proctable.specs.declared.records.Record.{Record}
use Rattle.proctable.specs.Records.{process_of, snapshot_of, give_record, with_record}
use Rattle.proctable.proofs.RecordLemmas.{record_rises}
use Rattle.jobs.specs.declared.indexes.Indexes.{Indexes}
use Rattle.jobs.specs.declared.indexes.IndexedFields.{IndexedFields}
use Rattle.jobs.specs.Indexes.{sizes_in, AreIndexes, IsNumber, AreMoved, CanMove, list_of_parent, parent_key, snapshot_seen, IsInside, anchor_in, child_key, member_in, member_key, record_seen, seen_of}
use Rattle.jobs.specs.IndexedTables.{AreKin, AreNumbers, AreWithin, HasParent, IsGroupFor, IsKept, IsRun, StaysGrouped}
use Rattle.proctable.specs.declared.snapshot.Snapshot.{Snapshot}
use Rattle.posix.proofs.ResultLemmas.{back, is_there, none_mapped}
use Rattle.jobs.proofs.IndexLemmas.{Fits, Sees, can_move, sees, sees_none, fits, indexes_moved, indexes_unmoved}
use Rattle.pidset.proofs.AnchorLemmas.{anchors_apart, anchors_adopted}
use Rattle.jobs.proofs.ChildLemmas.{kin_adopted, kin_record}
use Rattle.jobs.proofs.AnchorLemmas.{seen_at, seen_found, key_at, child_is, stance_in, anchors_same, number_within}
use Rattle.pidset.proofs.ParentLemmas.{no_child, parents_map, parents_inserted, parents_removed, parents_adopted}
use Rattle.jobs.proofs.NumberLemmas.{absent_changed}
use Rattle.jobs.proofs.RoomLemmas.{anchors_room}

-- ---- how many processes there are

number_range : (rs : List Process) → AreNumbers rs → (p : ℕ) (r : Process) → lookup p rs ≡ Some r → (1 ≤ p) × (p ≤ greatest_pid)
number_range rs numbers p r e = (elim (cases_eq p 0) [ inl none ↦ let no = numbers p (inl none) in absurd (cc) | inr some ↦ omega (arith, some) ], elim (cases_lt greatest_pid p) [ inl above ↦ let no = numbers p (inr above) in absurd (cc) | inr low ↦ low ])

-- there are no more processes than IDs
pub size_of : (rs : List Process) → IsRising rs → AreNumbers rs → length rs ≤ greatest_pid
size_of rs up numbers = subst (λ n. n ≤ greatest_pid) (length-map rs (λ (r : Process). r.pid)) (few greatest_pid (pids rs) (rises_pids rs up) (λ q e. let r = pid_found q rs e in number_range rs numbers q r.0 r.1))

-- ---- one process is changed, inserted or removed

-- there is room for all IDs if there is more than before
pub widen : (old new : List ℕ) (rs : List Process) → Grows old new → AreWithin old rs → AreWithin new rs
widen old new rs grows h q r e = let w = h q r e in (grows r.pid w.0, w.1, grows r.group w.2)

-- there is room for all IDs if there is room for that of p
within_at : (sizes : List ℕ) (p : ℕ) (it : Option IndexedFields) (rs ts : List Process) → IsElsewhere p rs ts → HasRoom sizes p × IfSome (member_in it) (λ k. IsNumber k × HasRoom sizes k) → key_of member_key p ts ≡ member_in it → AreWithin sizes rs → AreWithin sizes ts
within_at sizes p it rs ts same inside s h q r e = elim (cases_eq q p) [
  | inl here ↦
      let group = subst (λ o. IfSome o (λ k. IsNumber k × HasRoom sizes k)) (sym s ∙ ap (option_and_then member_key) (ap (λ q. lookup q ts) (sym here) ∙ e)) inside.1 in
      (rw (pid_looked q ts r e ∙ here) inside.0, group.0, group.1)
  | inr ne ↦ h q r (sym (same q ne) ∙ e)
]

-- the invariant holds if the indexes get the new keys of p, and all others stay
kept_at : (n m p parent : ℕ) (it : Option IndexedFields) (rs ts : List Process) (old now : Indexes) (set kin : ListsView) → IsElsewhere p rs ts → ((p ≡ 0) ⊎ (greatest_pid < p) → lookup p ts ≡ None) → IsInside p it old → IsRising ts → m ≡ length ts → Fits m old → Sees p parent it ts → AreMoved p parent it old now
    → IsAnchorIndex ts set.pairs → set.sizes ≡ old.anchors.sizes → HaveParents HasParent ts → IsIndex parent_key ts kin.pairs → kin.sizes ≡ old.children.sizes → IsKept n old rs → IsKept m (record now { anchors = set; children = kin }) ts
kept_at n m p parent it rs ts old now set kin same named inside up count free s moved index set_sizes parents children kin_sizes k = record {
  rising = up;
  numbers = λ q out. elim (cases_eq q p) [ inl here ↦ rw here (named (rw here at out)) | inr ne ↦ same q ne ∙ k.numbers q out ];
  within = rw (moved.sizes, set_sizes, kin_sizes) (within_at (sizes_in old) p it rs ts same inside s.members k.within);
  count = count;
  indexes = indexes_moved p parent it rs ts old now set kin same (rw (← count) free) k.indexes s moved;
  anchors = record { index = index; parents = parents };
  children = children;
}

-- an existing process has an ID other than 0, and there is room for it
pub number_kept : {n p : ℕ} {rs : List Process} {indexes : Indexes} → IsKept n indexes rs → IsSome (lookup p rs) → (1 ≤ p) × HasRoom (sizes_in indexes) p
number_kept {p = p} {rs = rs} k there = number_within _ p rs k.within (k.numbers 0 (inl refl)) there

-- its ID is at most the largest
number_most : {n p : ℕ} {rs : List Process} {indexes : Indexes} → IsKept n indexes rs → IsSome (lookup p rs) → p ≤ greatest_pid
number_most {p = p} k there = elim (cases_lt greatest_pid p) [ inl above ↦ let no : false ≡ true = sym (ap is_some (k.numbers p (inr above))) ∙ there in absurd (cc) | inr low ↦ low ]

-- its ID isn't 0
pub some_number : {n p : ℕ} {rs : List Process} {indexes : Indexes} → IsKept n indexes rs → IsSome (lookup p rs) → p ≢ 0
some_number k there none = let least = (number_kept k there).0 in omega (arith, least, none)

-- its children have it as their key
pub kin_kept : {n : ℕ} {rs : List Process} {indexes : Indexes} → IsKept n indexes rs → AreKin rs indexes.children.pairs
kin_kept k = record { rising = k.rising; none = k.numbers 0 (inl refl); index = k.children }

-- ---- another record

-- the number of processes stays
pub length_record : (rs : List Process) (p : ℕ) (c : Record) → length (with_record rs p c) ≡ length rs
unfolding changed
length_record rs p c = length-map rs (at p (give_record c))

-- p has the other record
pub record_found : (rs : List Process) (p : ℕ) (b c : Record) → lookup p rs ≡ Some (process_of p (parent_of p rs) b) → lookup p (with_record rs p c) ≡ Some (process_of p (parent_of p rs) c)
unfolding give_record
record_found rs p b c e = lookup_changed p p (give_record c) (λ r. refl) rs ∙ rw (eq-eqb p p refl, e) refl

-- and still no process has ID 0
pub none_record : (rs : List Process) (p : ℕ) (c : Record) → AreNumbers rs → lookup 0 (with_record rs p c) ≡ None
unfolding give_record
none_record rs p c numbers = absent_changed p (give_record c) (λ r. refl) 0 rs (numbers 0 (inl refl))

pub elsewhere_record : (rs : List Process) (p : ℕ) (c : Record) → IsElsewhere p rs (with_record rs p c)
unfolding give_record
elsewhere_record rs p c = elsewhere_changed p (give_record c) (λ r. refl) rs

-- what is required before p moves: the indexes have its old keys, and there is room for its ID, for that of its process
-- group, and for all IDs
abbrev pub AreReady : ℕ → List Process → List Process → Record → Record → Indexes → Type 0
AreReady p rs ts b c indexes = CanMove p (parent_of p rs) (Some (record_seen b)) indexes × IsInside p (Some (record_seen c)) indexes × AreWithin indexes.anchors.sizes ts

-- this holds if p stays in its process group, or moves to one in which it may be
ready_record : (n p : ℕ) (rs : List Process) (b c : Record) (indexes : Indexes) → lookup p rs ≡ Some (process_of p (parent_of p rs) b) → (c.group ≡ b.group) ⊎ IsGroupFor p c.group rs → IsKept n indexes rs → AreReady p rs (with_record rs p c) b c indexes
ready_record n p rs b c indexes found group k = (
  can_move p _ _ rs indexes k.rising k.indexes (sees p _ rs found) (λ none. let no = sym none ∙ found in absurd (cc)),
  inside,
  widen (sizes_in indexes) indexes.anchors.sizes _ (anchors_room indexes) (within_at (sizes_in indexes) p (Some (record_seen c)) rs (with_record rs p c) (elsewhere_record rs p c) inside (ap (option_and_then member_key) (record_found rs p b c found)) k.within),
)
  where
    number : IsNumber p × HasRoom (sizes_in indexes) p
    number = let there : IsSome (lookup p rs) = rw found refl in let is = number_kept k there in ((is.0, number_most k there), is.1)

    inside : IsInside p (Some (record_seen c)) indexes
    inside = (
      number.1,
      ⊎_elim (λ same. let own = k.within p _ found in rw same (own.1, own.2)) (⊎_elim (λ e. rw e number) (λ e.
          let it = some_looked (is_member c.group) rs k.rising e in
          let is = k.within it.0.pid it.0 it.1 in
          rw (← eqb-true it.0.group c.group it.2) (is.1, is.2))) group,
    )

-- the same for a closure that may make such a change
pub ready_run : {F T : Type 0} {g : Once F (MutBor Record × Unit {0}) (T × (MutBor Record × Unit {0}))} {change : F} {rs ts vs : List Process} {n p : ℕ} {x : T} {indexes : Indexes} → (r : IsRun g change rs ts p x) → rs ≡ vs → StaysGrouped g change vs p → IsKept n indexes rs
    → AreReady p rs ts r.before r.after indexes
ready_run {g = g} {change = change} {rs = rs} {n = n} {p = p} {indexes = indexes} r e stays k = rw r.is (ready_record n p rs r.before r.after indexes r.found (subst (λ vs. StaysGrouped g change vs p) (sym e) stays _ _ _ r.found r.ran) k)

-- the indexes get the new keys of p
pub kept_moved : (n : ℕ) (rs new : List Process) (p : ℕ) (b c : Record) (old now : Indexes) (set : ListsView) → lookup p rs ≡ Some (process_of p (parent_of p rs) b) → new ≡ with_record rs p c → AreMoved p (parent_of p rs) (Some (record_seen c)) old now
    → IsInside p (Some (record_seen c)) old → IsAnchorIndex (with_record rs p c) set.pairs → set.sizes ≡ old.anchors.sizes → now.children ≡ old.children → IsKept n old rs → IsKept n (record now { anchors = set }) new
unfolding give_record changed
kept_moved n rs new p b c old now set found is moved inside index sizes same k =
    rw is (kept_at n n p (parent_of p rs) (Some (record_seen c)) rs (with_record rs p c) old now set now.children (elsewhere_record rs p c) (λ out. let no = sym (k.numbers p out) ∙ found in absurd (cc)) inside (record_rises rs k.rising p c)
    (k.count ∙ sym (length_record rs p c)) (fits rs n old k.indexes (rw k.count (omega arith))) (sees p (process_of p (parent_of p rs) c) (with_record rs p c) (record_found rs p b c found)) moved index sizes
    (parents_map HasParent (at p (give_record c)) (at_pid p (give_record c) (λ r. refl)) (at_keeps (λ r. r.parent) p (give_record c) (λ r. refl)) (λ q r some none. some (at_keeps (λ r. r.parent) p (give_record c) (λ r. refl) r ∙ none)) rs k.anchors.parents)
    (rw same (kin_record rs p c old.children.pairs k.children)) (ap (λ (l : ListsView). l.sizes) same) k)

-- a change of signals changes at most the alarm among the indexed fields
pub seen_same : (b c : Record) → c ≡ record b { alarm = c.alarm; own = record (b.own) { signals = c.own.signals } } → record (record_seen c) { alarm = b.alarm } ≡ record_seen b
seen_same b c e = ap (λ (c : Record). record (record_seen c) { alarm = b.alarm }) e

-- or only the alarm changes, and the index of alarms follows
pub kept_alarmed : (n : ℕ) (rs new : List Process) (p : ℕ) (b c : Record) (indexes : Indexes) (set : IndexView) → lookup p rs ≡ Some (process_of p (parent_of p rs) b) → new ≡ with_record rs p c → record (record_seen c) { alarm = b.alarm } ≡ record_seen b
    → IsReplaced p c.alarm indexes.alarmed set → IsKept n indexes rs → IsKept n (record indexes { alarmed = set }) new
kept_alarmed n rs new p b c indexes set found is same moved k =
    let now = record_found rs p b c found in
    let rest = indexes_unmoved p (parent_of p rs) (Some (record (record_seen c) { alarm = b.alarm })) rs indexes k.indexes (rw same (sees p _ rs found)) in
    kept_moved n rs new p b c indexes (record indexes { alarmed = set }) indexes.anchors found is (record { members = rest.members; sizes = refl; reporting = rest.reporting; stopped = rest.stopped; alarmed = moved; subreapers = rest.subreapers })
    (ready_record n p rs b c indexes found (inl (ap (λ (w : IndexedFields). w.group) same)) k).1
    (anchors_same p rs (with_record rs p c) (record_seen b) (record_seen c) indexes.anchors.pairs (elsewhere_record rs p c) (ap (option_map seen_of) found) (ap (option_map seen_of) now) (rw now refl) (ap stance_in same) (ap (λ (w : IndexedFields). is_zombie w.life) same) k.anchors.index) refl refl k

-- or no indexed field changes
pub kept_unseen : (n : ℕ) (rs new : List Process) (p : ℕ) (b c : Record) (indexes : Indexes) → lookup p rs ≡ Some (process_of p (parent_of p rs) b) → new ≡ with_record rs p c → record_seen c ≡ record_seen b → IsKept n indexes rs → IsKept n indexes new
kept_unseen n rs new p b c indexes found is same k =
    kept_alarmed n rs new p b c indexes indexes.alarmed found is (ap (λ (w : IndexedFields). record w { alarm = b.alarm }) same) (indexes_unmoved p (parent_of p rs) (Some (record_seen c)) rs indexes k.indexes (rw same (sees p _ rs found))).alarmed k

-- ---- insertions, removals and reparenting

pub kept_inserted : (n : ℕ) (rs new : List Process) (r : Process) (old now : Indexes) (set kin : ListsView) → (1 ≤ r.pid) × (r.pid ≤ greatest_pid) → IsInside r.pid (Some (seen_of r)) old → lookup r.pid rs ≡ None → ((r.parent ≡ 0) × (rs ≡ [])) ⊎ IsSome (lookup r.parent rs) → new ≡ inserted r rs → Fits (n + 1) old
    → AreMoved r.pid r.parent (Some (seen_of r)) old now → IsMoved r.pid (anchor_in (seen_of r) (seen_at r.parent rs)) old.anchors.pairs set.pairs → set.sizes ≡ old.anchors.sizes → IsMoved r.pid (list_of_parent r.parent) old.children.pairs kin.pairs → kin.sizes ≡ old.children.sizes
    → IsKept n old rs → IsKept (n + 1) (record now { anchors = set; children = kin }) new
kept_inserted n rs new r old now set kin named inside fresh parent is free moved anchor sizes child wide k =
    let least = named.0 in
    let most = named.1 in
    let here = lookup_new r rs fresh in
    let up : lookup r.parent (inserted r rs) ≡ lookup r.parent rs = elsewhere_inserted r rs r.parent (λ own. ⊎_elim (λ first. let none = first.0 in omega (arith, none, own, least)) (λ there. let no : false ≡ true = sym (ap is_some (ap (λ m. lookup m rs) own ∙ fresh)) ∙ there in cc) parent) in
    let apart : (q : ℕ) (x : Process) → lookup q rs ≡ Some x → x.parent ≢ r.pid = λ q x e its.
    let there = subst (λ m. IsSome (lookup m rs)) its (k.anchors.parents q x (λ none. omega (arith, least, its, none)) e) in
    let no : false ≡ true = sym (ap is_some fresh) ∙ there in
    absurd (cc) in
    rw is (kept_at n (n + 1) r.pid r.parent (Some (seen_of r)) rs (inserted r rs) old now set kin (elsewhere_inserted r rs) (⊎_elim (λ none. absurd (omega (arith, none, least))) (λ above. absurd (omega (arith, above, most)))) inside (rising_inserted r rs k.rising fresh) (rw (length_inserted r rs, k.count) refl) free (sees r.pid r (inserted r rs) here) moved
    (anchors_apart r.pid rs (inserted r rs) old.anchors.pairs set.pairs (elsewhere_inserted r rs) apart (rw (key_at r.pid (inserted r rs) (seen_of r) (ap (option_map seen_of) here), here, up) anchor) k.anchors.index) sizes (parents_inserted HasParent r rs fresh (λ some. ⊎_elim (λ first. absurd (some first.0)) (λ there. there) parent) k.anchors.parents)
    (index_moved parent_key r.pid rs (inserted r rs) old.children.pairs kin.pairs (elsewhere_inserted r rs) k.children (rw here child)) wide k)

-- if p wasn't found, nothing is removed; otherwise there is one process less
pub ruleset leave_rules = (none_mapped, remove_none, length_removed)

-- a process may be removed after this snapshot of it was read
pub can_leave : {n p : ℕ} {rs : List Process} {f : Snapshot} {indexes : Indexes} → Some f ≡ option_map snapshot_of (lookup p rs) → IsKept n indexes rs → CanMove p f.parent (Some (snapshot_seen f)) indexes × ((1 ≤ p) × HasRoom (sizes_in indexes) p) × (n ≡ length (removed p rs) + 1)
can_leave {p = p} {rs = rs} {f = f} {indexes = indexes} read k =
    let it = back _ _ f read in
    let can = can_move p it.what.parent (Some (seen_of it.what)) rs indexes k.rising k.indexes (sees p it.what rs it.found) (λ none. let no = sym none ∙ it.found in absurd (cc)) in
    (rw it.is can, number_kept k (is_there _ it.what it.found), k.count ∙ length_removed p it.what rs k.rising it.found)

pub kept_removed : (n : ℕ) (rs new : List Process) (p : ℕ) (f : Snapshot) (old now : Indexes) (set kin : ListsView) → Some f ≡ option_map snapshot_of (lookup p rs) → children_in p rs ≡ [] → new ≡ removed p rs → AreMoved p f.parent None old now
    → IsMoved p None old.anchors.pairs set.pairs → set.sizes ≡ old.anchors.sizes → IsMoved p None old.children.pairs kin.pairs → kin.sizes ≡ old.children.sizes → IsKept n old rs → IsKept (n - 1) (record now { anchors = set; children = kin }) new
kept_removed n rs new p f old now set kin read none is moved anchor sizes child wide k =
    let goes = can_leave read k in
    let count = goes.2 in
    rw is (kept_at n (n - 1) p f.parent None rs (removed p rs) old now set kin (elsewhere_removed p rs) (λ out. lookup_removed p rs) (goes.1.1, tt) (rising_removed p rs k.rising) (omega (arith, count)) (fits rs (n - 1) old k.indexes (omega (arith, k.count))) (sees_none p f.parent (removed p rs) (lookup_removed p rs)) moved
    (anchors_apart p rs (removed p rs) old.anchors.pairs set.pairs (elsewhere_removed p rs) (no_child p rs none) (rw (key_removed (anchor_key (removed p rs)) p rs) anchor) k.anchors.index) sizes (parents_removed HasParent p rs (no_child p rs none) k.anchors.parents)
    (index_moved parent_key p rs (removed p rs) old.children.pairs kin.pairs (elsewhere_removed p rs) k.children (rw (key_removed parent_key p rs) child)) wide k)

pub kept_adopted : (n : ℕ) (rs new : List Process) (from to : ℕ) (old now : Indexes) → from ≢ to → new ≡ adopted from to rs → (AreIndexes rs old → AreIndexes (adopted from to rs) now) → now.members ≡ old.members
    → (heir : IndexedFields) → seen_at to rs ≡ Some heir → AreTurned from (child_key heir) rs old.anchors.pairs now.anchors.pairs → now.anchors.sizes ≡ old.anchors.sizes
    → IsSome (lookup from rs) → ArePairsRekeyed from to old.children.pairs now.children.pairs → now.children.sizes ≡ old.children.sizes → IsKept n old rs → IsKept n now new
unfolding adopted
kept_adopted n rs new from to old now ne is indexes members heir there turned set_sizes giver rekeyed kin_sizes k = rw is (record {
  rising = rising_adopted from to rs k.rising;
  numbers = λ q out. lookup_map (reparented from to) (pid_reparented from to) q rs ∙ ap (option_map (reparented from to)) (k.numbers q out);
  within = rw (members, set_sizes, kin_sizes) (λ q r e.
      let was = lookup_back (reparented from to) (pid_reparented from to) q rs r e in
      rw (was.is, pid_reparented from to was.what, reparented_keeps (λ (r : Process). r.group) from to (λ r. refl) was.what) (k.within q was.what was.found));
  count = k.count ∙ sym (length-map rs (reparented from to));
  indexes = indexes k.indexes;
  anchors = record {
    index = anchors_adopted from to (child_key heir) rs old.anchors.pairs now.anchors.pairs turned (λ r. child_is to rs heir there (record r { parent = to }) refl) k.anchors.index;
    parents = parents_adopted HasParent from to rs (rw (seen_found to rs heir there).1 refl) k.anchors.parents;
  };
  children = kin_adopted from to ne (some_number k giver) (some_number k (is_there _ _ (seen_found to rs heir there).1)) rs old.children.pairs now.children.pairs k.children rekeyed;
})
