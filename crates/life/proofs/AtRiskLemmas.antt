-- The process groups that a termination may orphan: how they are noted, and how they are walked.
use Rattle.std.proofs.Common.{◌≡◌, ℕ, ◌+◌, ◌≤◌, Bool, true, false, cond, ◌&&◌, ◌||◌, ◌==◌, refl, ap, sym, ◌∙◌, arith, subst, List, [], ◌∷◌, ◌++◌, map, filter, length, Option, Some, slice_get}
use Rattle.std.specs.List.{list_any}
use Rattle.posix.specs.Common.{Process, with_number, IsRising, lookup, above, first_pid, has_pid, is_child, is_member, members_in, children_in, left_of, State, is_in, is_anchor, loses_anchor, hup_and_cont, hup_and_cont_all}
use Rattle.posix.proofs.HupAndContLemmas.{Lasts, lasting, lasts_hup_and_cont, lasts_then}
use Rattle.posix.proofs.MapLemmas.{filter_map}
use Rattle.std.proofs.lemmas.List.{length-map}
use Rattle.posix.proofs.WalkLemmas.{numbered, numbered_one, AtChild}
use Rattle.pidset.proofs.WalkLemmas.{IsWalking, walk_on}
use Rattle.pidset.specs.Numbers.{PidSetView, Rises, numbers_above}
use Rattle.pidset.proofs.NumberLemmas.{in_with, few}
use Rattle.pidalloc.specs.Rows.{Pids}
use Rattle.pidalloc.specs.Places.{Places}
use Rattle.life.specs.Ends.{slots_of_hup_and_cont, slots_of_hups}
use Rattle.life.specs.Machines.{IsMachine, Terminals}
use Rattle.life.proofs.RingLemmas.{one_more}

-- ---- the list of those that are noted

-- it may be another one with the same room
pub noted_again : {s : State} {pids : Pids} {places : Places} {to_recheck groups_at_risk after : PidSetView} {terminals : Terminals} → IsMachine s pids places to_recheck groups_at_risk terminals → Rises after.pids → after.room ≡ groups_at_risk.room → IsMachine s pids places to_recheck after terminals
noted_again i rising same = record { sound = i.sound; listed = i.listed; noted = record { rising = rising; room = let room = i.noted.room in omega (arith, room, same) }; fresh = i.fresh; indexed = i.indexed; within = i.within }

-- ---- noting

-- r keeps this group from being orphaned
abbrev pub keeps : List Process → ℕ → Process → Bool
keeps rs g r = is_anchor rs r && r.group == g

-- one of those that pass one of two tests is one of those that pass the first, or the second
any_of_both : (a b t : Process → Bool) (rs : List Process) → list_any (λ r. (a r || b r) && t r) rs ≡ (list_any t (filter a rs) || list_any t (filter b rs))
any_of_both a b t [] = refl
any_of_both a b t (r ∷ rs) = grind (arith, any_of_both a b t rs)

-- a process that keeps a group so is the process, or a child of it
loses_split : (p : ℕ) (rs : List Process) (g : ℕ) → loses_anchor p rs g ≡ (list_any (keeps rs g) (numbered p rs) || list_any (keeps rs g) (children_in p rs))
unfolding loses_anchor children_in
loses_split p rs g = any_of_both (has_pid p) (is_child p) (keeps rs g) rs

-- what is noted once a process was asked
noted_one : (anchor : Bool) (g n : ℕ) (ns : List ℕ) → is_in n (cond anchor (with_number g ns) ns) ≡ (anchor && g == n || is_in n ns)
noted_one true g n ns = in_with n g ns
noted_one false g n ns = refl

-- at most one more is noted then
pub few_noted : (anchor : Bool) (g : ℕ) (ns : List ℕ) → length (cond anchor (with_number g ns) ns) ≤ length ns + 1
few_noted true g ns = one_more g ns
few_noted false g ns = omega arith

-- it begins with the process itself
pub begin_noted : (rs : List Process) → IsRising rs → (p : ℕ) (me : Process) → lookup p rs ≡ Some me → (none ns : List ℕ) → none ≡ [] → ns ≡ cond (is_anchor rs me) (with_number me.group none) none
    → (n : ℕ) → (is_in n ns || list_any (keeps rs n) (children_in p rs)) ≡ loses_anchor p rs n
unfolding is_in
begin_noted rs up p me e none ns empty is n = grind (arith, up, e, empty, is, loses_split, noted_one, numbered_one)

-- and goes on from child to child
pub step_noted : (rs : List Process) (p c : ℕ) (next after : Option ℕ) (at : AtChild rs p c) → next ≡ Some c → after ≡ first_pid (above c (children_in p rs)) → (ns noted : List ℕ) → noted ≡ cond (is_anchor rs at.what) (with_number at.what.group ns) ns
    → (n : ℕ) → (is_in n noted || list_any (keeps rs n) (left_of after (children_in p rs))) ≡ (is_in n ns || list_any (keeps rs n) (left_of next (children_in p rs)))
step_noted rs p c next after at comes e ns noted is n = grind (arith, comes, e, is, noted_one)

-- ---- all get HUP and CONT

-- a group has as many members as before, after what leaves all that lasts
members_lasting : (group : ℕ) (rs : List Process) → length (members_in group (map lasting rs)) ≡ length (members_in group rs)
unfolding members_in
members_lasting group rs = ap length (filter_map (is_member group) lasting (λ r. refl) rs) ∙ length-map (filter (is_member group) rs) lasting

pub members_last : (group : ℕ) (old new : List Process) → map lasting new ≡ map lasting old → length (members_in group new) ≡ length (members_in group old)
members_last group old new same = sym (members_lasting group new) ∙ ap (λ rs. length (members_in group rs)) same ∙ members_lasting group old

-- The groups that come next are left. What their signals make of the processes now is what those of all groups make of
-- the processes before; as many slots are left to read, of those from one number to another.
pub record IsSignalling (first ns : List ℕ) (before now : List Process) (next : Option ℕ) (from upto : ℕ) : Type 0 where
  pub done : List ℕ
  pub left : List ℕ
  pub walk : IsWalking ns done left next
  pub todo : hup_and_cont_all left now ≡ hup_and_cont_all first before
  pub lasts : Lasts before now
  pub read : upto + slots_of_hups left before ≤ from + slots_of_hups first before

-- it goes on after the group that came next
pub signalling_goes_on : {first ns : List ℕ} {before now then : List Process} {next after : Option ℕ} {from upto later g : ℕ} → IsSignalling first ns before now next from upto → next ≡ Some g → then ≡ hup_and_cont g now → later ≤ upto + slots_of_hup_and_cont g now → after ≡ slice_get (numbers_above g ns) 0
    → IsSignalling first ns before then after from later
unfolding hup_and_cont_all slots_of_hups
signalling_goes_on {ns = ns} {before = before} {now = now} {next = next} {after = after} {g = g} k comes is few e =
    let on = walk_on ns k.done k.left next after g k.walk comes e in
    let many = members_last g before now k.lasts.same in
    let slots = ap (λ left. slots_of_hups left before) on.is in
    record {
      done = k.done ++ g ∷ [];
      left = on.rest;
      walk = on.walk;
      todo = ap (hup_and_cont_all on.rest) is ∙ ap (λ left. hup_and_cont_all left now) (sym on.is) ∙ k.todo;
      lasts = subst (Lasts before) (sym is) (lasts_then before now _ k.lasts (lasts_hup_and_cont g now k.lasts.rising));
      read = let read = k.read in omega (arith, few, many, slots, read);
    }
