use Rattle.std.proofs.Common.{◌≡◌, [], length, map, arith}
use Rattle.std.specs.String.{string_bytes}
use Rattle.std.proofs.lemmas.Bool.Decides.{nat_tests}
use Rattle.posix.specs.declared.event.Event.TheVariants.{Key}
use Rattle.schedules.proofs.AddLemmas.{adds_joined, no_keys_added}
use Rattle.schedules.proofs.eventtext.write_keys.Goals as goal

pub returns-then-is_empty : goal.returns-then-is_empty
returns-then-is_empty c =
    let none : length c.args.bytes.now ≡ 0 = grind (arith, nat_tests, c.is_empty.ensures, c.if-is_empty.true) in
    no_keys_added (string_bytes c.args.text.now) c.args.console c.args.bytes.now none

pub returns : goal.returns
returns c =
    adds_joined (string_bytes c.args.text.now) (string_bytes c.write_typed.new.text) (string_bytes c.write_key_line.new.text) [] (map (Key c.args.console) c.args.bytes.now)
    c.in_ok-write_typed.ensures c.in_ok-write_key_line.ensures
