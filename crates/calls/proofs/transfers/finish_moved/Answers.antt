use Rattle.std.proofs.Common.{◌∙◌, ℕ, ap, arith, to_z, w64, pos, List, length}
use Rattle.std.proofs.lemmas.Int.{to_z_pos}
use Rattle.calls.proofs.TerminalCallLemmas.{moved_is}
use Rattle.calls.proofs.transfers.finish_moved.Goals as goal

pub returns-clause-comes : goal.returns-clause-comes
returns-clause-comes g c =
    let bytes = c.as_slice-count.result.now in
    let few = c.as_slice-count.ensures.few in
    let size = ap (λ (bs : List ℕ). length bs) c.as_slice-count.ensures.value in
    let value = to_z_pos w64 (length bytes) (omega (arith, few)) ∙ ap pos size in
    let last = c.finish_shown.ensures in
    moved_is c.args.machine.now.state _ c.args.pid c.args.call c.args.bytes (to_z w64 (length bytes)) _ _ _ (λ none. c.if-count-eq0.false (size ∙ none)) value last.done last.state last.shown
