use Rattle.std.proofs.Common.{arith, ◌≡◌, ◌+◌, ◌*◌, ◌^◌, ◌<◌, ◌∙◌, ap, sym, length, Some}
use Rattle.std.specs.Fmt.{decimal}
use Rattle.std.specs.String.{string_bytes}
use Rattle.std.proofs.lemmas.Result.{IfOk-weaker}
use Rattle.std.proofs.lemmas.List.Elements.{All-pop}
use Rattle.counting.specs.Numbers.{base, in_decimal, number_of}
use Rattle.counting.proofs.DecimalLemmas.{decimal_is, limb_written}
use Rattle.counting.proofs.NumberLemmas.{none_past, number_push, part_more, top_some}
use Rattle.counting.proofs.count.Count.to_text.Goals as goal

pub returns-in_default : goal.returns-in_default
returns-in_default c =
    let low = c.self.inside.low in
    let high = c.self.inside.high.items in
    let none : number_of high ≡ 0 = none_past high 0 (omega (arith, c.in_default.ensures.cases, c.as_slice.ensures.len)) in
    let whole : low ≡ c.args.self.now = omega (arith, none, c.self.view_is) in
    IfOk-weaker c.format.result _ (λ text. string_bytes text ≡ in_decimal c.args.self.now)
    (λ text (printed : string_bytes text ≡ decimal low). printed ∙ sym (decimal_is low (omega (arith, c.self.invariant.0))) ∙ ap in_decimal whole) c.format.ensures.ok

pub loop-limb-init : goal.loop-limb-init
loop-limb-init c =
    let ls = c.self.inside.high.items in
    let others = c.in-Some.others.now in
    let top = c.in-Some.top.now in
    let split = sym c.as_slice.ensures.value ∙ c.in-Some.ensures.cases.0 in
    let rest : c.into_iter-limb-iterator.result.iter.rest.now ≡ others = cc (c.iter.ensures.rest) in
    let below = All-pop (λ l. l < base) ls others (Some top) split c.self.invariant.1.small in
    record {
      part = top;
      some = top_some others ls top c.self.invariant.1 split;
      text = c.in_ok-text.ensures.ok ∙ sym (decimal_is top (omega arith));
      left = rw rest below.0;
      whole = sym c.self.view_is ∙ ap (λ n. c.self.inside.low + base * n) (ap number_of split ∙ number_push others top ∙ ap (λ ks. number_of ks + base ^ length ks * top) (sym rest));
    }

pub loop-limb-preserved : goal.loop-limb-preserved
loop-limb-preserved c =
    let i = c.loop-limb.invariant in
    let limb = c.in-Some-limb.limb.now in
    let rest = c.next.new.self.iter.rest.now in
    let split = c.in-Some-limb.ensures.steps in
    let below = All-pop (λ l. l < base) _ rest (Some limb) split i.left in
    record {
      part = limb + base * i.part;
      some = omega (arith, i.some);
      text = limb_written limb i.part (string_bytes c.loop-limb.text) _ below.1 i.some i.text (rw c.laid_out.ensures at c.in_ok-write.ensures.bytes);
      left = below.0;
      whole = i.whole ∙ ap (λ n. c.self.inside.low + base * n) (part_more rest _ limb i.part split);
    }
