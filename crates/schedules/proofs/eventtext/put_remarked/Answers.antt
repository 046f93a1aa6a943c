use Rattle.std.proofs.Common.{◌+◌, map, refl}
use Rattle.std.specs.String.{string_bytes}
use Rattle.posix.specs.declared.event.Event.TheVariants.{Key}
use Rattle.schedules.proofs.AddLemmas.{many_put, remarked_put}
use Rattle.schedules.proofs.eventtext.put_remarked.Goals as goal

pub returns : goal.returns
returns c =
    let before = map (Key c.put_many.new.keys.console) c.put_many.new.keys.bytes.items in
    let waits = map (Key c.end_keys.new.keys.console) c.end_keys.new.keys.bytes.items in
    let wait = map (Key c.put_many-2.new.keys.console) c.put_many-2.new.keys.bytes.items in
    many_put (string_bytes c.args.text.now) (string_bytes c.put_many.new.text) (string_bytes c.put_many-2.new.text) (map (Key c.args.keys.now.console) c.args.keys.now.bytes.items) before wait
    c.args.event c.args.count 1 (c.args.count + 1) refl c.in_ok-put_many.ensures
    (
    remarked_put (string_bytes c.put_many.new.text) (string_bytes c.end_keys.new.text) (string_bytes c.write_comment.new.text) (string_bytes c.put_many-2.new.text) before waits wait
    c.args.event 1 c.in_ok-end_keys.ensures.adds c.in_ok-write_comment.ensures c.in_ok-put_many-2.ensures
    )
