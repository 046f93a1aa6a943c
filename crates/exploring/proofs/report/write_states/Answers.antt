use Rattle.std.proofs.Common.{◌≡◌, arith, false, sym}
use Rattle.std.specs.Prelude.{◌==◌}
use Rattle.std.proofs.lemmas.Bool.Decides.{nat_tests}
use Rattle.exploring.proofs.report.write_states.Goals as goal

pub returns : goal.returns
returns c =
    let some : (c.args.states == 0) ≡ false = grind (arith, nat_tests, c.if-states-eq0.false) in
    rw (some, sym c.plural-s.ensures) c.writeln.ensures.bytes
