use Rattle.std.proofs.Common.{ap, sym}
use Rattle.naming.proofs.LineLemmas.{each_of_one}
use Rattle.naming.proofs.TextLemmas.{has_named_all, has_named_more, has_named_none}
use Rattle.wording.specs.Proses.{ProseView}
use Rattle.naming.proofs.texts.name_text.Goals as goal

pub loop-line-init : goal.loop-line-init
loop-line-init c = λ _. has_named_none c.args.text.now c.new-named.result.items c.new-told.result.text c.new-named.ensures.items (ap (λ (p : ProseView). p.text) c.new-told.ensures)

pub push_line-requires : goal.push_line-requires
push_line-requires c = each_of_one c.in-Some.line.now c.in-Some.ensures.cut.one

pub loop-line-preserved : goal.loop-line-preserved
loop-line-preserved c =
    has_named_more c.args.text.now c.loop-line.rest.now c.in-Some.line.now c.in-Some.more.now c.loop-line.named.items c.push_line.new.text.items c.push.new.self.items
    c.loop-line.told c.push_line.new.told c.loop-line.invariant c.in-Some.ensures.cut.is c.in-Some.ensures.cut.one c.in_ok-push_line.ensures c.in_ok-push.ensures.items

pub push_line-requires-2 : goal.push_line-requires-2
push_line-requires-2 c = each_of_one c.loop-line.rest.now c.in_default.ensures.cut

pub returns : goal.returns
returns c =
    rw c.in_ok-told.ensures.text
    (has_named_all c.args.text.now c.loop-line.rest.now c.loop-line.named.items c.push_line-2.new.text.items c.loop-line.told c.push_line-2.new.told
    c.loop-line.invariant c.in_default.ensures.cut c.in_ok-push_line-2.ensures (sym c.in_ok-told.ensures.whole))
