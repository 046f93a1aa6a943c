use Rattle.std.specs.String.{string_bytes}
use Rattle.schedules.proofs.AddLemmas.{end_added}
use Rattle.schedules.proofs.eventtext.end_keys.Goals as goal

pub returns-clause-adds : goal.returns-clause-adds
returns-clause-adds c =
    end_added (string_bytes c.args.text.now) (string_bytes c.write_keys.new.text) c.args.keys.now.console c.args.keys.now.console c.args.keys.now.bytes.items c.as_slice.result.now c.clear.new.self.items
    c.as_slice.ensures.value c.clear.ensures c.in_ok-write_keys.ensures
