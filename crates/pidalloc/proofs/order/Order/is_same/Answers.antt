use Rattle.std.proofs.Common.{◌≡◌, ◌∙◌, ap, sym, slice_get, add-one, arith, Some}
use Rattle.std.proofs.lemmas.List.{take_all}
use Rattle.std.proofs.lemmas.Bool.{eqb-true, not-false}
use Rattle.pidalloc.proofs.BehindLemmas.{behind_at, same_longer}
use Rattle.pidalloc.proofs.order.Order.is_same.Goals as goal

pub loop-index-preserved : goal.loop-index-preserved
loop-index-preserved c =
    let i = c.loop-index.index in
    let mine = c.in-Some-Some.mine in
    let theirs = c.in-Some-Some.theirs in
    let here : slice_get c.args.self.now.pids i ≡ Some mine = cc in
    let there : slice_get c.args.other.now.pids i ≡ Some theirs = cc in
    let equal : mine ≡ theirs = eqb-true mine theirs (not-false _ (sym c.ne.ensures ∙ c.if-ne.false)) in
    record {
      here = rw add-one (c.behind-here.ensures ∙ behind_at i mine c.args.self.now.pids c.len-len.ensures.distinct here);
      there = rw add-one (c.behind-there.ensures ∙ behind_at i theirs c.args.other.now.pids c.len.ensures.distinct there);
      same = rw add-one (same_longer i theirs c.args.self.now.pids c.args.other.now.pids c.loop-index.invariant.same (here ∙ ap Some equal) there);
    }

pub returns : goal.returns
returns c = λ e.
    let mine = c.len-len.ensures.value in
    let theirs = c.len.ensures.value in
    sym (take_all c.loop-index.index c.args.self.now.pids (omega arith))
    ∙ c.loop-index.invariant.same
    ∙ take_all c.loop-index.index c.args.other.now.pids (omega arith)
