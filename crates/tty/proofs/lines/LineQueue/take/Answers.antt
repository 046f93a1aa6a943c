use Rattle.std.proofs.Common.{◌≡◌, ◌∙◌, ap, length, Some}
use Rattle.posix.specs.Common.{lines_left}
use Rattle.tty.specs.Lines.{AreLines, cut}
use Rattle.tty.proofs.LineLemmas.{taken_all, takes_line, left_partly}
use Rattle.tty.proofs.lines.LineQueue.take.Goals as goal

partly : (c : goal.After-push_front) → AreLines c.push_front.new.self c.read_into.new.self
    × (cut c.push_front.new.self.items c.read_into.new.self.items ≡ lines_left (length c.args.out.now) c.args.self.now)
partly c =
    let ns = c.self.inside.lengths in
    let bs = c.self.inside.bytes in
    let first = ap (λ n. Some n) c.from-len.ensures ∙ c.in_ok-pop_front.ensures.value in
    left_partly ns bs _ _ _ c.args.self.now c.args.out.now _ _ _ c.self.invariant c.self.view_is first c.min-count.ensures
    (taken_all ns bs c.args.out.now _ _ _ c.self.invariant first c.min-count.ensures c.read_into.ensures.count)
    c.if-count-len.true c.in_ok-pop_front.ensures.items c.read_into.ensures.items c.push_front.ensures.items

pub invariant_of-self-then-count-len : goal.invariant_of-self-then-count-len
invariant_of-self-then-count-len c = (partly c).0

pub returns-then-count-len-clause-taken : goal.returns-then-count-len-clause-taken
returns-then-count-len-clause-taken c =
    takes_line c.self.inside.lengths c.self.inside.bytes c.args.self.now c.args.out.now _ _ _ _ c.self.invariant c.self.view_is
    (ap (λ n. Some n) c.from-len.ensures ∙ c.in_ok-pop_front.ensures.value) c.min-count.ensures c.read_into.ensures.count c.read_into.ensures.read

pub returns-then-count-len-clause-lines : goal.returns-then-count-len-clause-lines
returns-then-count-len-clause-lines c = (partly c).1
