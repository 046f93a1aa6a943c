use Rattle.std.proofs.Common.{◌≡◌, ◌<◌, ap, arith, length}
use Rattle.merging.specs.Merging.{Point, kind_tally, over_kinds}
use Rattle.merging.proofs.PutLemmas.{loose_room, put_nothing, put_same, put_then, there_of}
use Rattle.merging.proofs.SpreadLemmas.{kind_put}
use Rattle.merging.proofs.spreading.put_loose.Goals as goal

pub loop-number-init : goal.loop-number-init
loop-number-init c = put_nothing c.args.search.now c.args.place c.args.index c.args.begun.now c.args.here.now.nodes.items

pub put-requires : goal.put-requires
put-requires c =
    let s = c.args.search.now in
    let l = c.loop-number in
    let r = c.requires in
    let p = r.1 in
    let there = there_of c.args.here.now.nodes.items c.args.index p c.index.result.now r.2.at c.index.ensures in
    let within : l.number < length p.left = omega (arith, c.loop-number-test.true, c.len-number-end.ensures.value, ap (λ (q : Point). length q.left) there.1) in
    let room = loose_room s c.args.place l.number p c.args.begun.now r.2.begun within in
    (r.0, p, l.invariant.stand r.0 p r.2, room.0, room.1)

pub loop-number-preserved : goal.loop-number-preserved
loop-number-preserved c =
    let s = c.args.search.now in
    let place = c.args.place in
    let i = c.args.index in
    let b = c.args.begun.now in
    let olds = c.args.here.now.nodes.items in
    let l = c.loop-number in
    put_same s place i b _ _ olds c.put.new.here.nodes.items (λ has p at. kind_put has s place l.number p b) (put_then s place i b _ _ olds l.here.nodes.items c.put.new.here.nodes.items l.invariant c.in_ok-put.ensures)

pub returns : goal.returns
returns c =
    let s = c.args.search.now in
    let place = c.args.place in
    let i = c.args.index in
    let b = c.args.begun.now in
    let olds = c.args.here.now.nodes.items in
    let l = c.loop-number in
    put_same s place i b _ _ olds l.here.nodes.items
    (λ has p at.
    let there = there_of olds i p c.index.result.now at c.index.ensures in
    let end : l.number ≡ length p.left = omega (arith, c.loop-number-test.false, c.loop-number.auto.number-end, c.len-number-end.ensures.value, ap (λ (q : Point). length q.left) there.1) in
    ap (λ k. over_kinds (kind_tally has s place p b) k p.left) end)
    l.invariant
