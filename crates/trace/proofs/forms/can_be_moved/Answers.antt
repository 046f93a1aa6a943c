use Rattle.std.proofs.Common.{arith}
use Rattle.std.proofs.lemmas.Bool.Decides.{nat_tests}
use Rattle.posix.proofs.PrintingLemmas.{bytes_fit}
use Rattle.trace.proofs.forms.can_be_moved.Goals as goal

pub returns-in-1-to-16 : goal.returns-in-1-to-16
returns-in-1-to-16 c =
    let all = bytes_fit c.args.bytes.now (λ i. omega (arith, c.type_inv.bytes i)) in
    grind (arith, nat_tests, all, c.in-1-to-16)
