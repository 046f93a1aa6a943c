use Rattle.std.proofs.Common.{map}
use Rattle.std.specs.String.{string_bytes}
use Rattle.posix.specs.declared.event.Event.TheVariants.{Key}
use Rattle.schedules.proofs.AddLemmas.{first_nothing, key_put}
use Rattle.schedules.proofs.eventtext.put_keys.Goals as goal

pub loop-i-init : goal.loop-i-init
loop-i-init c = first_nothing (string_bytes c.args.text.now) (map (Key c.args.keys.now.console) c.args.keys.now.bytes.items)

pub loop-i-preserved : goal.loop-i-preserved
loop-i-preserved c =
    let room = c.in_ok-make_room.ensures in
    key_put (string_bytes c.args.text.now) (string_bytes c.loop-i.text) (string_bytes c.make_room.new.text) (map (Key c.args.keys.now.console) c.args.keys.now.bytes.items)
    (map (Key c.loop-i.keys.console) c.loop-i.keys.bytes.items) c.loop-i._i c.args.console c.make_room.new.keys.console c.args.byte c.make_room.new.keys.bytes.items c.push.new.self.items
    c.loop-i.invariant room.adds room.console c.push.ensures.items
