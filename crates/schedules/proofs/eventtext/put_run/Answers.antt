use Rattle.std.proofs.Common.{◌≡◌, ◌+◌, ◌-◌, [], map, replicate, subst, sym, arith}
use Rattle.std.specs.String.{string_bytes}
use Rattle.posix.specs.declared.event.Event.{Event}
use Rattle.posix.specs.declared.event.Event.TheVariants.{Key}
use Rattle.schedules.specs.EventLines.{AddsFirst}
use Rattle.schedules.proofs.AddLemmas.{first_nothing, many_put}
use Rattle.schedules.proofs.eventtext.put_run.Goals as goal

pub loop-remark-init : goal.loop-remark-init
loop-remark-init c =
    let text = string_bytes c.args.text.now in
    let waits = map (Key c.args.keys.now.console) c.args.keys.now.bytes.items in
    let none : 0 ≡ c.args.start - c.args.start = omega arith in
    record {
      least = omega arith;
      most = omega arith;
      adds = subst (λ n. AddsFirst text waits (replicate n c.args.run.event) text waits) none (first_nothing text waits);
    }

pub loop-remark-preserved : goal.loop-remark-preserved
loop-remark-preserved c =
    let l = c.loop-remark in
    let place = c.remark-item.result.place in
    let sum : l.next - c.args.start + (place - l.next + 1) ≡ place + 1 - c.args.start = omega (arith, l.invariant.least) in
    record {
      least = omega (arith, l.invariant.least);
      most = omega arith;
      adds = many_put (string_bytes c.args.text.now) (string_bytes l.text) (string_bytes c.put_remarked.new.text) (map (Key c.args.keys.now.console) c.args.keys.now.bytes.items)
          (map (Key l.keys.console) l.keys.bytes.items) (map (Key c.put_remarked.new.keys.console) c.put_remarked.new.keys.bytes.items)
          c.args.run.event (l.next - c.args.start) (place - l.next + 1) (place + 1 - c.args.start) sum l.invariant.adds (rw c.event.ensures at c.in_ok-put_remarked.ensures);
    }

pub returns : goal.returns
returns c =
    let l = c.loop-remark in
    let end = c.args.start + c.count.result in
    let sum : l.next - c.args.start + (end - l.next) ≡ c.args.run.count = omega (arith, l.invariant.least, l.invariant.most, c.count.ensures) in
    many_put (string_bytes c.args.text.now) (string_bytes l.text) (string_bytes c.put_many.new.text) (map (Key c.args.keys.now.console) c.args.keys.now.bytes.items)
    (map (Key l.keys.console) l.keys.bytes.items) (map (Key c.put_many.new.keys.console) c.put_many.new.keys.bytes.items)
    c.args.run.event (l.next - c.args.start) (end - l.next) c.args.run.count sum l.invariant.adds (rw c.event-2.ensures at c.in_ok-put_many.ensures)
