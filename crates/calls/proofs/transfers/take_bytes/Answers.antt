use Rattle.std.proofs.Common.{◌∙◌, ap, arith, length-take, Some}
use Rattle.posix.proofs.ResultLemmas.{there}
use Rattle.calls.proofs.TerminalCallLemmas.{as_many, are_first}
use Rattle.calls.proofs.transfers.take_bytes.Goals as goal

pub slice_bounds-new-end : goal.slice_bounds-new-end
slice_bounds-new-end g c =
    let it = there _ c.requires.terminal in
    as_many it.what.lines _ c.take_line.new.out c.in_ok-count.count (c.in_ok-count.ensures.taken it.what it.found) c.take_line.auto.out

pub returns-clause-bytes : goal.returns-clause-bytes
returns-clause-bytes g c = λ k e.
    let size = c.from.ensures in
    let few = c.requires.few in
    ap Some c.new.ensures ∙ are_first k.lines _ c.take_line.new.out c.in_ok-count.count c.args.most (c.in_ok-count.ensures.taken k e) (simp length-take (omega (arith, size, few)))
