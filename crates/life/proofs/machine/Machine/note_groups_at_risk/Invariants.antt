use Rattle.std.proofs.Common.{◌≡◌, ◌+◌, ◌≤◌, ◌||◌, ℕ, length}
use Rattle.std.specs.List.{list_any}
use Rattle.posix.specs.Common.{is_in, IsRegular, children_in, left_of, loses_anchor}
use Rattle.life.proofs.AtRiskLemmas.{keeps}
use Rattle.life.proofs.ChildLemmas.{IsAtChild}
use Rattle.life.proofs.machine.Machine.note_groups_at_risk.Given as goal

-- a group is noted, or one of the children that are left keeps it from being orphaned
abbrev pub invariant-loop-next : goal.invariant-loop-next
invariant-loop-next g l =
    let rs = l.fn.self.state.processes in
    let kids = children_in l.fn.pid rs in
    record {
      regular : IsRegular l.fn.self.state;
      same : l.self.state ≡ l.fn.self.state;
      to_recheck : l.self.to_recheck ≡ l.fn.self.to_recheck;
      foregrounds_unchecked : l.self.foregrounds_unchecked ≡ l.fn.self.foregrounds_unchecked;
      readers : l.self.readers ≡ l.fn.self.readers;
      walk : IsAtChild rs l.fn.pid l.next;
      todo : (n : ℕ) → (is_in n l.self.groups_at_risk || list_any (keeps rs n) (left_of l.next kids)) ≡ loses_anchor l.fn.pid rs n;
      few : length l.self.groups_at_risk + length (left_of l.next kids) ≤ length kids + 1;
      read : l.self.visits ≡ l.fn.self.visits;
    }

abbrev pub decreases-loop-next : goal.decreases-loop-next
decreases-loop-next g l = length (left_of l.next (children_in l.fn.pid l.fn.self.state.processes))
