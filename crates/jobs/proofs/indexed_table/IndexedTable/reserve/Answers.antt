use Rattle.std.proofs.Common.{rules}
use Rattle.std.proofs.lemmas.Result.{on_ok_weaker}
use Rattle.jobs.proofs.KeptLemmas.{widen}
use Rattle.jobs.proofs.RoomLemmas.{all_room, grown}
use Rattle.jobs.proofs.indexed_table.IndexedTable.reserve.Goals as goal

pub invariant_of-self-2 : goal.invariant_of-self-2
invariant_of-self-2 g c =
    let more = c.reserve-2.ensures in
    record {
      rising = search rules;
      numbers = search rules;
      within = rw c.reserve.ensures.contents (widen _ _ _ (grown c.self.inside.indexes c.reserve-2.new.self more.grows_members more.grows_anchors more.grows_children) c.self.invariant.within);
      count = search rules;
      indexes = search rules;
      anchors = search rules;
      children = search rules;
    }

pub returns-clause-number : goal.returns-clause-number
returns-clause-number g c = on_ok_weaker c.reserve-2.result (λ all. all_room c.reserve-2.new.self c.args.pid all.0 all.1 all.2) c.reserve-2.ensures.ok
