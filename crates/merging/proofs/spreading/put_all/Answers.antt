use Rattle.merging.proofs.PutLemmas.{put_then}
use Rattle.merging.proofs.spreading.put_all.Goals as goal

pub put_loose-requires : goal.put_loose-requires
put_loose-requires c = let r = c.requires in (r.0, r.1, c.in_ok-put_tick.ensures.stand r.0 r.1 r.2)

pub returns : goal.returns
returns c =
    put_then c.args.search.now c.args.place c.args.index c.args.begun.now _ _ c.args.here.now.nodes.items c.put_tick.new.here.nodes.items c.put_loose.new.here.nodes.items c.in_ok-put_tick.ensures c.in_ok-put_loose.ensures
