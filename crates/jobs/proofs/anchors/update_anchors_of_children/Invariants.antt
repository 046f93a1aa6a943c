use Rattle.std.proofs.Common.{◌≡◌, ◌+◌, ◌*◌, ◌≤◌, ℕ, false, length}
use Rattle.std.specs.List.{list_any}
use Rattle.posix.specs.Common.{children_in, first_pid, has_pid, left_of}
use Rattle.pidset.specs.Indexes.{is_pair_in, is_turned}
use Rattle.jobs.specs.Indexes.{child_key}
use Rattle.jobs.proofs.anchors.update_anchors_of_children.Given as goal

-- all processes except the children that are left have the keys that they should have
abbrev pub invariant-loop-next : goal.invariant-loop-next
invariant-loop-next g l =
    let rs = g.K.ProcessTable.contents l.fn.table in
    let children = children_in l.fn.pid rs in
    record {
      contents : g.K.ProcessTable.contents l.table ≡ rs;
      room : g.K.ProcessTable.room l.table ≡ g.K.ProcessTable.room l.fn.table;
      sizes : l.anchors.sizes ≡ l.fn.anchors.sizes;
      read : g.K.ProcessTable.visits l.table + 2 * length (left_of l.next children) ≤ g.K.ProcessTable.visits l.fn.table + 1 + 2 * length children;
      no_fewer : g.K.ProcessTable.visits l.fn.table ≤ g.K.ProcessTable.visits l.table;
      begins : first_pid (left_of l.next children) ≡ l.next;
      turned : (q : ℕ) → list_any (has_pid q) (left_of l.next children) ≡ false → (k : ℕ) → is_pair_in k q l.anchors.pairs ≡ is_turned l.fn.pid (child_key l.fn.parent) rs l.fn.anchors.pairs k q;
    }

abbrev pub decreases-loop-next : goal.decreases-loop-next
decreases-loop-next g l = length (left_of l.next (children_in l.fn.pid (g.K.ProcessTable.contents l.fn.table)))
