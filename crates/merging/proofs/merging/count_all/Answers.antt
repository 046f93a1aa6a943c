use Rattle.std.proofs.Common.{◌∷◌, [], ◌∙◌, ap, refl, slice_get}
use Rattle.merging.specs.declared.node.Node.{Node}
use Rattle.merging.specs.Merging.{counted_all, counted_slots, point, texts_of}
use Rattle.merging.proofs.IndexLemmas.{still_there}
use Rattle.merging.proofs.NodeCountLemmas.{counted_more}
use Rattle.merging.proofs.merging.count_all.Goals as goal

pub loop-node-preserved : goal.loop-node-preserved
loop-node-preserved c =
    let texts = texts_of c.args.search.now in
    let events = c.args.events.now in
    let l = c.loop-node in
    let rest = c.pop.new.self.items in
    let n = c.in-Some.node in
    let is = c.in-Some.ensures.items in
    record {
      nodes = λ i m at. l.invariant.nodes i m (ap (λ ns. slice_get ns i) is ∙ still_there rest (n ∷ []) i m at);
      all = counted_more (λ (m : Node). counted_slots texts events (point m) m.begun) (counted_all texts events) (λ b. refl) (λ m ns b. refl) l.nodes.items rest n l.book c.count_node.new.book _
          is c.in_ok-count_node.ensures l.invariant.all;
    }
