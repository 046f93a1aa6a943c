use Rattle.std.proofs.Common.{◌<◌, arith, length, refl}
use Rattle.std.proofs.lemmas.Option.{slice_get_read}
use Rattle.merging.specs.Merging.{seen}
use Rattle.merging.proofs.IndexLemmas.{map_put, put_there}
use Rattle.merging.proofs.LayerLemmas.{one_still}
use Rattle.merging.proofs.layer.Layer.find_at.Goals.{else-number-len-via-else-number-len, else-number-len-via-then-number-len+else-is_one}
use Rattle.merging.proofs.layer.Layer.find_at.Goals as goal

pub returns-then-is_one-clause-one : goal.returns-then-is_one-clause-one
returns-then-is_one-clause-one c =
    let same = c.is_one.ensures in
    let within : c.in_ok-number.field-0.now < length c.args.self.now.nodes.items = omega (arith, c.if-number-len.true, c.len.ensures) in (
      c.is_one.new.self,
      put_there c.args.self.now.nodes.items c.in_ok-number.field-0.now c.is_one.new.self within,
      one_still c.index_mut.result.now c.is_one.new.self c.args.node.now c.is_one.new.other same.same same.other (same.one c.if-is_one.true),
    )

pub returns-then-is_one-clause-nodes : goal.returns-then-is_one-clause-nodes
returns-then-is_one-clause-nodes c =
    let xs = c.args.self.now.nodes.items in
    let within : c.in_ok-number.field-0.now < length xs = omega (arith, c.if-number-len.true, c.len.ensures) in
    map_put seen xs c.in_ok-number.field-0.now c.index_mut.result.now c.is_one.new.self
    (slice_get_read xs (length xs) c.in_ok-number.field-0.now c.index_mut.result.now refl within c.index_mut.ensures.value) c.is_one.ensures.same

pub returns-clause-nodes : goal.returns-clause-nodes
returns-clause-nodes c = elim c.else-number-len.branch [
  | else-number-len-via-then-number-len+else-is_one w ↦
      let xs = c.args.self.now.nodes.items in
      let within : c.in_ok-number.field-0.now < length xs = omega (arith, w.if-number-len.true, c.len.ensures) in
      rw w.self-is
      (map_put seen xs c.in_ok-number.field-0.now w.index_mut.result.now w.is_one.new.self
      (slice_get_read xs (length xs) c.in_ok-number.field-0.now w.index_mut.result.now refl within w.index_mut.ensures.value) w.is_one.ensures.same)
  | else-number-len-via-else-number-len w ↦ rw w.self-is refl
]
