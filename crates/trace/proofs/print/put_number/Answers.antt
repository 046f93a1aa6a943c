use Rattle.std.proofs.Common.{rules, ◌+◌, ◌-◌, arith, drop, length-take, length-drop}
use Rattle.std.proofs.lemmas.Fmt.{length-decimal-le}
use Rattle.trace.proofs.DigitLemmas.{number_put}
use Rattle.trace.proofs.print.put_number.Goals as goal

pub write_digits-start-requires : goal.write_digits-start-requires
write_digits-start-requires c = (omega (arith, length-decimal-le 20 c.args.number (omega arith) (omega arith) (omega arith)), search rules)

pub returns-clause-text : goal.returns-clause-text
returns-clause-text c =
    let w = c.write_digits-start.ensures in
    let e = c.copy_from_slice.ensures in
    number_put c.args.at c.write_digits-start.result (c.write_digits-start.result + 20 - c.write_digits-start.result) c.args.room.now c.write_digits-start.new.buf _ _ c.copy_from_slice.new.self _
    (omega (arith, c.requires)) w.start w.written (omega arith) e.after
    (omega (arith, e.len, length-take (c.args.at + 20 - c.args.at) (drop c.args.at c.args.room.now), length-drop c.args.at c.args.room.now, c.requires))
