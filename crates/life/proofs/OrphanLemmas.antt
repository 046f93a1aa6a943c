-- Which process groups a termination has to signal, if those are known that lose an anchor by it.
use Rattle.std.proofs.Common.{◌≡◌, ℕ, Bool, true, false, not, ◌&&◌, ap, sym, ◌∙◌, arith, List, [], ◌∷◌, filter, Some}
use Rattle.posix.specs.Common.{Process, members_in, State, process, is_in, is_orphaned, group_numbers, has_stopped, is_newly_orphaned, newly_orphaned, loses_anchor, IsRegular}
use Rattle.posix.proofs.MemberLemmas.{in_filter}
use Rattle.posix.proofs.OrphanLemmas.{after_departure, orphans_by_anchor, anchor_lost}
use Rattle.pidset.specs.Numbers.{Rises}
use Rattle.pidset.proofs.NumberLemmas.{rises_filter, rises_with, in_with, same_numbers}

-- ---- the numbers of all groups

-- they rise
groups_rise : (rs : List Process) → Rises (group_numbers rs)
unfolding Rises group_numbers
groups_rise [] = tt
groups_rise (r ∷ rs) = rises_with r.group (group_numbers rs) (groups_rise rs)

-- the number of a group with a stopped member is one of them
stopped_in_groups : (g : ℕ) (rs : List Process) → has_stopped g rs ≡ true → is_in g (group_numbers rs) ≡ true
unfolding has_stopped members_in is_in group_numbers
stopped_in_groups g [] e = absurd (cc)
stopped_in_groups g (r ∷ rs) e = rw (in_with g r.group (group_numbers rs)) (grind (arith, e, stopped_in_groups g rs))

-- ---- the groups that a termination orphans

-- Two tests are the same: that a group wasn't orphaned before, is orphaned now, and is one of all groups; and that it
-- is orphaned now, and has lost an anchor.
same_test : (before now stopped there lost : Bool) → (stopped ≡ true → there ≡ true) → (before ≡ false → now ≡ true → lost ≡ true) → (lost ≡ true → before ≡ false)
    → ((not before && (now && stopped)) && there) ≡ ((now && stopped) && lost)
same_test before now stopped there lost a b c = grind arith

-- Of the groups that lose an anchor those have become orphaned, and have a stopped member, that are orphaned now
-- and have one.
pub orphaned_by_end : (s : State) → IsRegular s → (p heir status : ℕ) (me : Process) → process s p ≡ Some me → (gs : List ℕ) → Rises gs → ((g : ℕ) → is_in g gs ≡ loses_anchor p s.processes g)
    → newly_orphaned s.processes (after_departure s p heir status).processes ≡ filter (λ g. is_orphaned g (after_departure s p heir status).processes && has_stopped g (after_departure s p heir status).processes) gs
unfolding newly_orphaned is_newly_orphaned
orphaned_by_end s i p heir status me there gs up lost =
    let now = (after_departure s p heir status).processes in
    same_numbers _ _ (rises_filter (is_newly_orphaned s.processes now) (group_numbers now) (groups_rise now)) (rises_filter _ gs up) (λ g.
    in_filter (is_newly_orphaned s.processes now) g (group_numbers now)
    ∙ same_test (is_orphaned g s.processes) (is_orphaned g now) (has_stopped g now) (is_in g (group_numbers now)) (loses_anchor p s.processes g)
    (stopped_in_groups g now) (orphans_by_anchor s i p heir status me there g) (anchor_lost p s.processes i.rising g)
    ∙ ap (λ b. (is_orphaned g now && has_stopped g now) && b) (sym (lost g))
    ∙ sym (in_filter (λ g. is_orphaned g now && has_stopped g now) g gs))
