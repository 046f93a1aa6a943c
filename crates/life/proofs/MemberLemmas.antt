-- Whether a child of a process is in a process group: the children and the members, one of each after another.
use Rattle.std.proofs.Common.{◌≡◌, ℕ, ◌≤◌, ◌||◌, Bool, true, false, refl, ap, sym, ◌∙◌, arith, List, [], ◌∷◌, filter, Option, Some}
use Rattle.std.specs.List.{list_any}
use Rattle.std.specs.Option.{IsSome}
use Rattle.posix.specs.Common.{Process, lookup, is_child, children_in, is_member, members_in, first_pid, above, left_of, State, IsRegular}
use Rattle.posix.proofs.TableLemmas.{rising_filter}
use Rattle.posix.proofs.WalkLemmas.{AtOne, one_here, next_begins, passing_above, all_left}
use Rattle.posix.proofs.ResultLemmas.{is_there}
use Rattle.life.proofs.ChildLemmas.{IsAtChild, child_here, first_here, first_todo, next_here}

-- a child of p is in the group exactly if a member of it is a child of p
both_ways : (p group : ℕ) (rs : List Process) → list_any (is_child p) (members_in group rs) ≡ list_any (is_member group) (children_in p rs)
unfolding members_in children_in
both_ways p group [] = refl
both_ways p group (x ∷ xs) = grind (arith, both_ways p group xs)

-- from the next ones on, a child is in the group, and a member is a child, exactly if there is one at all
pub record IsSeeking (rs : List Process) (p group : ℕ) (child member : Option ℕ) : Type 0 where
  pub at_child : IsAtChild rs p child
  pub at_member : first_pid (left_of member (members_in group rs)) ≡ member
  pub of_children : list_any (is_member group) (left_of child (children_in p rs)) ≡ list_any (is_member group) (children_in p rs)
  pub of_members : list_any (is_child p) (left_of member (members_in group rs)) ≡ list_any (is_member group) (children_in p rs)

-- it begins with all of them
pub seek_begins : (s : State) → IsRegular s → (p group : ℕ) (child member : Option ℕ) → child ≡ first_pid (above 0 (children_in p s.processes)) → member ≡ first_pid (above 0 (members_in group s.processes)) → IsSeeking s.processes p group child member
unfolding members_in
seek_begins s i p group child member first e =
    let rs = s.processes in
    let ms = filter (is_member group) rs in
    record {
      at_child = first_here s i p child first;
      at_member = next_begins 0 ms member e;
      of_children = ap (list_any (is_member group)) (first_todo s i p child first);
      of_members = ap (list_any (is_child p)) (all_left ms member (rising_filter (is_member group) rs i.rising) (passing_above (is_member group) rs i.rising (λ q r e. (i.bounded q r e).least)) e) ∙ both_ways p group rs;
    }

-- what it knows of the member that comes next
pub member_here : {rs : List Process} {p group m : ℕ} {child member : Option ℕ} → IsSeeking rs p group child member → member ≡ Some m → AtOne (is_member group) m rs
unfolding members_in
member_here {rs = rs} {group = group} {m = m} {member = member} w comes = one_here (is_member group) m rs member w.at_child.rising comes w.at_member

-- that it is there
pub member_there : {rs : List Process} {p group m : ℕ} {child member : Option ℕ} → IsSeeking rs p group child member → member ≡ Some m → IsSome (lookup m rs)
member_there w comes = let r = member_here w comes in is_there _ r.what r.found

-- a test of those that are left is one of the first of them and of the others
asked : (t : Process → Bool) (xs rest : List Process) (next : Option ℕ) (c : ℕ) (r : Process) → next ≡ Some c → left_of (Some c) xs ≡ r ∷ rest → list_any t (left_of next xs) ≡ (t r || list_any t rest)
asked t xs rest next c r comes left = ap (λ o. list_any t (left_of o xs)) comes ∙ ap (list_any t) left

-- a child is in the group
pub child_is : {rs : List Process} {p group c : ℕ} {child member : Option ℕ} (w : IsSeeking rs p group child member) (comes : child ≡ Some c) → is_member group (child_here w.at_child comes).what ≡ true → list_any (is_member group) (children_in p rs) ≡ true
child_is {group = group} w comes is = let h = child_here w.at_child comes in sym w.of_children ∙ asked (is_member group) _ _ _ _ h.what comes h.left ∙ rw is refl

-- a member is a child
pub member_is : {rs : List Process} {p group m : ℕ} {child member : Option ℕ} (w : IsSeeking rs p group child member) (comes : member ≡ Some m) → is_child p (member_here w comes).what ≡ true → list_any (is_member group) (children_in p rs) ≡ true
unfolding members_in
member_is {p = p} w comes is = let h = member_here w comes in sym w.of_members ∙ asked (is_child p) _ _ _ _ h.what comes h.left ∙ rw is refl

-- neither is
pub seek_on : {rs : List Process} {p group c m : ℕ} {child member next_child next_member : Option ℕ} (w : IsSeeking rs p group child member) (child_comes : child ≡ Some c) (member_comes : member ≡ Some m)
    → is_member group (child_here w.at_child child_comes).what ≡ false → is_child p (member_here w member_comes).what ≡ false
    → next_child ≡ first_pid (above c (children_in p rs)) → next_member ≡ first_pid (above m (members_in group rs)) → IsSeeking rs p group next_child next_member
unfolding members_in
seek_on {rs = rs} {p = p} {group = group} {c = c} {m = m} w child_comes member_comes no_member no_child e f =
    let h = child_here w.at_child child_comes in
    let k = member_here w member_comes in
    record {
      at_child = next_here w.at_child child_comes e;
      at_member = next_begins m (filter (is_member group) rs) _ f;
      of_children = rw e (rw no_member at (sym (asked (is_member group) _ _ _ _ h.what child_comes h.left)) ∙ w.of_children);
      of_members = rw f (rw no_child at (sym (asked (is_child p) _ _ _ _ k.what member_comes k.left)) ∙ w.of_members);
    }
