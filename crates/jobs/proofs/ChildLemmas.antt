-- The children of processes, by their index, and their reparenting.
use Rattle.std.proofs.Common.{Bool, true, false, cond, ◌≡◌, ◌≢◌, ℕ, ◌≤◌, ◌==◌, ◌&&◌, refl, ap, sym, ◌∙◌, arith, subst, List, [], ◌∷◌, filter, Option, Some, None, ◌⊎◌, ⊎_elim, inl, inr}
use Rattle.std.specs.Prelude.{is_some, not, option_and_then, option_map}
use Rattle.std.specs.Option.{IfSome, IsSome, option_map_or, unwrap_or}
use Rattle.std.proofs.lemmas.Bool.{cond_both, eq-eqb, eqb-true, eqb-false}
use Rattle.std.proofs.lemmas.Bool.Decides.{nat_tests}
use Rattle.std.proofs.lemmas.List.Elements.{filter_agree}
use Rattle.std.proofs.Math.Bool.{and-false}
use Rattle.posix.specs.Common.{Process, is_zombie, IsRising, lookup, at, changed, parent_of, above, first_pid, is_child, children_in, left_of, reparented, adopted, removed, wanted_in}
use Rattle.posix.proofs.TableLemmas.{changed_id, pid_reparented, remove_above, rising_adopted, rising_filter}
use Rattle.posix.proofs.MapLemmas.{adopted_changed, lookup_on, at_pid, at_keeps}
use Rattle.posix.proofs.WalkLemmas.{AtChild, at_first, in_filter, passing_above}
use Rattle.pidset.specs.declared.index.Pair.{Pair}
use Rattle.pidset.specs.Rows.{HasRoom}
use Rattle.pidset.specs.Indexes.{ArePairsRekeyed, IsAt, IsIndex, IsNextPair, is_key}
use Rattle.pidset.proofs.IndexLemmas.{at_once, index_map, index_rekeyed, next_pair, rekeyed}
use Rattle.proctable.specs.declared.records.Record.{Record}
use Rattle.proctable.specs.declared.snapshot.Snapshot.{Snapshot}
use Rattle.proctable.specs.Records.{give_record, snapshot_of, with_parent, with_record}
use Rattle.jobs.specs.declared.indexes.IndexedFields.{IndexedFields}
use Rattle.jobs.specs.Indexes.{anchor_in, child_key, is_outside, list_of_parent, parent_key, seen_of, snapshot_seen}
use Rattle.jobs.specs.IndexedTables.{AreKin, AreWithin, IsParentIn}
use Rattle.jobs.proofs.AnchorLemmas.{anchor_inside}
use Rattle.jobs.proofs.NumberLemmas.{least_number}
use Rattle.posix.proofs.ResultLemmas.{there}

-- ---- reading

-- the processes whose key is a process are its children
kids_are : (k : ℕ) → k ≢ 0 → (rs : List Process) → filter (λ r. is_key k (parent_key r)) rs ≡ children_in k rs
unfolding children_in
kids_are k some rs = filter_agree _ (is_child k) (λ r. grind (arith, nat_tests, some)) rs

-- the next one with the key of an existing process is its next child
pub next_kid : (k n : ℕ) (rs : List Process) (pairs : List Pair) (next : Option ℕ) → AreKin rs pairs → IsSome (lookup k rs) → IsNextPair k n pairs next → next ≡ first_pid (above n (children_in k rs))
next_kid k n rs pairs next kin there i = next_pair parent_key rs pairs k n next kin.rising kin.index i ∙ ap (λ l. first_pid (above n l)) (kids_are k (λ none. let no = rw (none, kin.none) at there in absurd (cc)) rs)

-- it has no child if no process has that key
pub childless : (k : ℕ) (rs : List Process) (pairs : List Pair) (next : Option ℕ) (none : Bool) → AreKin rs pairs → k ≢ 0 → IsNextPair k 0 pairs next → is_some next ≡ not none → none ≡ not (is_some (first_pid (children_in k rs)))
unfolding children_in
childless k rs pairs next none kin some i e =
    let is : next ≡ first_pid (children_in k rs) = next_pair parent_key rs pairs k 0 next kin.rising kin.index i ∙ ap (λ l. first_pid (above 0 l)) (kids_are k some rs) ∙ ap first_pid (passing_above (is_child k) rs kin.rising (least_number rs kin.none)) in
    back none ∙ sym (ap not e) ∙ ap (λ o. not (is_some o)) is
  where
    back : (b : Bool) → b ≡ not (not b)
    back true = refl
    back false = refl

none_at : (l : List Process) → not (is_some (first_pid l)) ≡ true → l ≡ []
none_at [] e = refl
none_at (r ∷ rest) e = absurd (cc)

-- then it has no child that a wait wants
pub none_wanted : (k n options : ℕ) (rs : List Process) → not (is_some (first_pid (children_in k rs))) ≡ true → None ≡ first_pid (above n (wanted_in options k rs))
unfolding wanted_in
none_wanted k n options rs none = rw (none_at (children_in k rs) none) refl

-- if a process has no child, no process gets another parent
pub all_adopted : (from to : ℕ) (rs : List Process) → children_in from rs ≡ [] → adopted from to rs ≡ rs
unfolding children_in adopted
all_adopted from to [] e = refl
all_adopted from to (r ∷ rs) e = grind (arith, all_adopted from to rs)

pub none_adopted : (from to : ℕ) (rs : List Process) → not (is_some (first_pid (children_in from rs))) ≡ true → rs ≡ adopted from to rs
none_adopted from to rs none = sym (all_adopted from to rs (none_at (children_in from rs) none))

-- and above 0 is its first child, from which on all are left
pub first_kid : (k : ℕ) (rs : List Process) (pairs : List Pair) (next : Option ℕ) → AreKin rs pairs → IsSome (lookup k rs) → (AreKin rs pairs → IsSome (lookup k rs) → next ≡ first_pid (above 0 (children_in k rs))) → (next ≡ first_pid (children_in k rs)) × (left_of next (children_in k rs) ≡ children_in k rs)
unfolding children_in
first_kid k rs pairs next kin there first =
    let is : next ≡ first_pid (children_in k rs) = first kin there ∙ ap first_pid (passing_above (is_child k) rs kin.rising (least_number rs kin.none)) in
    (is, rw (← is) at (at_first rs kin.rising k))

-- there is room for the list of a parent
pub list_inside : (sizes : List ℕ) (parent : ℕ) → (parent ≡ 0) ⊎ ((1 ≤ parent) × HasRoom sizes parent) → IfSome (list_of_parent parent) (λ k. (1 ≤ k) × HasRoom sizes k)
list_inside sizes parent h = cond_both (parent == 0) None (Some parent) (λ o. IfSome o (λ k. (1 ≤ k) × HasRoom sizes k)) (λ e. tt) (λ e. ⊎_elim (λ none. absurd (eqb-false parent 0 e none)) (λ there. there) h)

-- the list that contains a process is that of its parent
pub parent_listed : (p : ℕ) (rs : List Process) (pairs : List Pair) (list : Option ℕ) → IsIndex parent_key rs pairs → IsAt p list pairs → IsSome (lookup p rs) → unwrap_or list 0 ≡ parent_of p rs
parent_listed p rs pairs list index stands here =
    let me = there (lookup p rs) here in
    ap (λ o. unwrap_or o 0) (at_once p list (list_of_parent me.what.parent) pairs stands (λ k. index p k ∙ ap (λ o. is_key k (option_and_then parent_key o)) me.found)) ∙ cond_both (me.what.parent == 0) None (Some me.what.parent) (λ o. unwrap_or o 0 ≡ me.what.parent) (λ none. sym (eqb-true me.what.parent 0 none)) (λ some. refl)
    ∙ sym (ap (λ o. option_map_or (λ (r : Process). r.parent) o 0) me.found)

-- ---- a new process

-- the parent of a new child exists
pub parent_there : (parent group : ℕ) (rs : List Process) → IsParentIn parent group rs → ((parent ≡ 0) × (rs ≡ [])) ⊎ IsSome (lookup parent rs)
parent_there parent group rs h = ⊎_elim (λ first. inl first) (λ above. inr (rw above.1 refl)) h

-- and the child is no anchor
pub no_anchor : (parent : ℕ) (w : IndexedFields) (rs : List Process) → IsParentIn parent w.group rs → anchor_in w (option_map seen_of (lookup parent rs)) ≡ None
unfolding lookup
no_anchor parent w rs h = ap (λ b. cond (not (is_zombie w.life) && b) (Some w.group) None) (inside h) ∙ ap (λ b. cond b (Some w.group) None) (and-false (not (is_zombie w.life)))
  where
    inside : IsParentIn parent w.group rs → option_map_or (is_outside w) (option_map seen_of (lookup parent rs)) false ≡ false
    inside h = ⊎_elim (λ first. ap (λ l. option_map_or (is_outside w) (option_map seen_of (lookup parent l)) false) first.1)
        (λ above. ap (λ o. option_map_or (is_outside w) (option_map seen_of o) false) above.1 ∙ ap (λ b. (above.0.session == w.session) && not b) (eq-eqb above.0.group w.group above.2) ∙ and-false (above.0.session == w.session)) h

-- ---- reparenting

-- a child that gets its new parent before the others
pub one_adopted : (from to c : ℕ) (rs ts : List Process) (me : Process) → IsRising rs → lookup c rs ≡ Some me → me.parent ≡ from → adopted from to ts ≡ adopted from to rs → adopted from to (changed c (with_parent to) ts) ≡ adopted from to rs
unfolding adopted
one_adopted from to c rs ts me up found its same =
    sym (adopted_changed from to c (with_parent to) (λ r. grind (arith, nat_tests)) ts) ∙ ap (changed c (with_parent to)) same
    ∙ changed_id c (with_parent to) (adopted from to rs) (rising_adopted from to rs up) (reparented from to me) (lookup_on (reparented from to) (pid_reparented from to) c rs me found) (rw (eq-eqb me.parent from its) refl)

-- is no longer a child of the old one
child_moved : (from to c : ℕ) → to ≢ from → (ts : List Process) → children_in from (changed c (with_parent to) ts) ≡ removed c (children_in from ts)
unfolding children_in changed removed
child_moved from to c ne [] = refl
child_moved from to c ne (r ∷ ts) = grind (arith, ne, child_moved from to c ne ts, eqb-true, eqb-false)

first_gone : (r : Process) (rs : List Process) → IsRising (r ∷ rs) → removed r.pid (r ∷ rs) ≡ rs
unfolding IsRising removed
first_gone r rs up = rw (eq-eqb r.pid r.pid refl) (remove_above r.pid rs up.0)

-- and the children after it are left
pub one_left : (from to c : ℕ) (rs ts : List Process) → from ≢ to → IsRising rs → (i : AtChild rs from c) → children_in from ts ≡ left_of (Some c) (children_in from rs) → children_in from (changed c (with_parent to) ts) ≡ left_of (first_pid (above c (children_in from rs))) (children_in from rs)
unfolding children_in
one_left from to c rs ts ne up i left =
    child_moved from to c (λ e. ne (sym e)) ts ∙ ap (removed c) (left ∙ i.left) ∙ ap (λ n. removed n (i.what ∷ left_of (first_pid (above c (children_in from rs))) (children_in from rs))) (sym i.named)
    ∙ first_gone i.what _ (subst IsRising i.left (rising_filter _ _ (rising_filter (is_child from) rs up)))

-- the child that comes next is as it was
pub still_there : (from c : ℕ) (rs ts : List Process) → IsRising ts → (i : AtChild rs from c) → children_in from ts ≡ left_of (Some c) (children_in from rs) → lookup c ts ≡ Some i.what
unfolding children_in lookup
still_there from c rs ts up i left = (in_filter (is_child from) ts up c i.what (ap (lookup c) (left ∙ i.left) ∙ rw (eq-eqb i.what.pid c i.named) refl)).found

-- so is its anchor key, from the snapshot that was read when it got its new parent
pub key_read : (from to c : ℕ) (rs ts : List Process) (heir : IndexedFields) (f : Snapshot) → IsRising ts → (i : AtChild rs from c) → children_in from ts ≡ left_of (Some c) (children_in from rs) → IfSome (lookup c ts) (λ r. f ≡ snapshot_of (with_parent to r))
    → anchor_in (snapshot_seen f) (Some heir) ≡ child_key heir i.what
key_read from to c rs ts heir f up i left read = ap (λ f. anchor_in (snapshot_seen f) (Some heir)) (rw (still_there from c rs ts up i left) at read)

-- and there is room for that key
pub key_within : (sizes : List ℕ) (c : ℕ) (rs : List Process) (r : Process) (heir : IndexedFields) → AreWithin sizes rs → lookup c rs ≡ Some r → IfSome (child_key heir r) (λ k. (1 ≤ k) × HasRoom sizes k)
key_within sizes c rs r heir h e = let w = h c r e in anchor_inside sizes (seen_of r) (Some heir) (w.1.0, w.2)

-- the children of one process have the key of another
pub kin_adopted : (from to : ℕ) → from ≢ to → from ≢ 0 → to ≢ 0 → (rs : List Process) (old new : List Pair) → IsIndex parent_key rs old → ArePairsRekeyed from to old new → IsIndex parent_key (adopted from to rs) new
unfolding adopted
kin_adopted from to ne some heir rs old new h is = index_map parent_key (λ r. rekeyed from to (parent_key r)) (reparented from to) (pid_reparented from to) (λ r. grind (arith, nat_tests, ne, some, heir)) rs new (index_rekeyed parent_key from to ne rs old new h is)

-- ---- another record, insertions, removals and reparenting

-- another record keeps the parent
pub kin_record : (rs : List Process) (p : ℕ) (b : Record) (pairs : List Pair) → IsIndex parent_key rs pairs → IsIndex parent_key (with_record rs p b) pairs
unfolding changed give_record
kin_record rs p b pairs h = index_map parent_key parent_key (at p (give_record b)) (at_pid p (give_record b) (λ r. refl)) (at_keeps parent_key p (give_record b) (λ r. refl)) rs pairs h
